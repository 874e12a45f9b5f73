use Rattle.engine.proofs.WeakUp.{UpLeft}
use Rattle.engine.proofs.weak_parts.Parts.upward.Given as goal

abbrev pub invariant-loop-n : goal.invariant-loop-n
invariant-loop-n l = UpLeft l.table l.booleans l.weaks l.truth l.n-iterator.0 l.self
