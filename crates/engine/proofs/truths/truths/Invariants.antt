use Rattle.engine.proofs.TruthLaws.{Known}
use Rattle.engine.proofs.truths.truths.Given as goal

abbrev pub invariant-loop-n : goal.invariant-loop-n
invariant-loop-n l = Known l.table l.booleans l.sample l.truth l.n-iterator.0
