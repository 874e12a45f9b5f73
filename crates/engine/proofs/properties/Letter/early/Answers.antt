use Rattle.std.proofs.Common.{ap₂, ◌||◌}
use Rattle.engine.specs.PropertyVisits.{early_at}
use Rattle.engine.proofs.properties.Letter.early.Goals as goal

pub returns : goal.returns
unfolding early_at
returns c = ap₂ ◌||◌ c.bit.ensures (rw c.a.ensures at c.bit-2.ensures)
