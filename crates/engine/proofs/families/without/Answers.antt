use Rattle.engine.proofs.FamilyLaws.{lacks_none}
use Rattle.engine.proofs.families.without.Goals as goal

pub returns : goal.returns
returns c = record { each = c.without_three-2.ensures _ (c.without_three.ensures _ (lacks_none _ _)) }
