use Rattle.std.proofs.Common.{length, ◌≡◌}
use Rattle.words.specs.Walk.{Left}
use Rattle.engine.proofs.SideUpLaws.{CellIs}
use Rattle.engine.proofs.sides.Up.cells.Given as goal

abbrev pub invariant-loop-n : goal.invariant-loop-n
invariant-loop-n l = (length l.parts.of ≡ 64) × Left l.self.plan.booleans l.n-iterator.0 (CellIs l.self.truth l.parts.of)
