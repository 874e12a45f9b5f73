use Rattle.words.specs.Ends.{has_from}
use Rattle.words.specs.Unique.{has_from_one}
use Rattle.trace.specs.Refusals.{undeclared}
use Rattle.trace.proofs.refusals.is_undeclared.Goals as goal

pub returns : goal.returns
unfolding undeclared
returns c = has_from_one _ _ _ _ (rw c.from.ensures at c.has_from.ensures) (has_from _ _)
