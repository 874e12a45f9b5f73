use Rattle.engine.proofs.FamilyLaws.{spread_is}
use Rattle.engine.proofs.families.spread.Goals as goal

pub returns : goal.returns
returns c = spread_is _
