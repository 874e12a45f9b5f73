use Rattle.std.proofs.Common.{◌<◌, ◌^◌}
use Rattle.engine.proofs.PassLoop as L
use Rattle.engine.proofs.properties.downward.Given as goal

abbrev pub invariant-loop-n : goal.invariant-loop-n
invariant-loop-n l = (l.ahead < 2 ^ 64) × L.Loop l.table l.leaves l.first l.l l.p l.ahead

abbrev pub decreases-loop-n : goal.decreases-loop-n
decreases-loop-n l = l.ahead
