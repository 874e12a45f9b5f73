use Rattle.words.specs.Walk.{Left}
use Rattle.engine.specs.WeakParts.{CellKept}
use Rattle.engine.proofs.weak_parts.Parts.cells.Given as goal

abbrev pub invariant-loop-n : goal.invariant-loop-n
invariant-loop-n l = Left l.booleans l.n-iterator.0 (CellKept l.truth l.self)
