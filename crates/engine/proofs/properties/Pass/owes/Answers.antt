use Rattle.std.proofs.Common.{ap₂, ◌&&◌, ◌||◌}
use Rattle.engine.specs.PropertyVisits.{stage_of, owes_at}
use Rattle.engine.proofs.properties.Pass.owes.Goals as goal

pub returns : goal.returns
unfolding stage_of owes_at
returns c = ap₂ ◌||◌ c.bit.ensures (ap₂ ◌&&◌ c.bit-2.ensures c.bit-3.ensures)
