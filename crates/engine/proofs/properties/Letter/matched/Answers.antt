use Rattle.std.proofs.Common.{Bool, ap₂, ◌&&◌, ◌||◌}
use Rattle.engine.specs.PropertyVisits.{matched_at}
use Rattle.engine.proofs.properties.Letter.matched.Goals as goal

pub returns : goal.returns
unfolding matched_at
returns c = ap₂ (λ (a b : Bool). a || (b && c.args.on)) c.bit.ensures c.early.ensures
