use Rattle.std.proofs.Common.{rules}
use Rattle.engine.proofs.VisitLaws.{visitable_is}
use Rattle.engine.proofs.properties.visitable.Goals as goal

pub returns : goal.returns
returns c = visitable_is _ _ _ (search rules) c.held.ensures
