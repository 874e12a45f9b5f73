use Rattle.std.proofs.Common.{Bool, ℕ}
use Rattle.lanes.specs.Rows.{Row, Sound}
use Rattle.engine.specs.Sides.{SideRows, LiveWords, LiveAtCells}
use Rattle.engine.proofs.SideUpLaws.{UpSafe, UpSofar}
use Rattle.engine.proofs.sides.Up.pass.Given as goal

abbrev pub invariant-loop-n : goal.invariant-loop-n
invariant-loop-n l = let up = l.self in
    UpSafe up.table.now up.plan.sides l.n-iterator.0 l.parts.of l.lefts.of l.hits
    × ((row : ℕ → Row) (before : ℕ → Bool → Bool) (x : ℕ) → Sound row → SideRows up.table.now row up.plan.booleans up.plan.sides up.truth x
    → LiveWords up.plan.sides before up.live.a up.live.b → LiveAtCells row before
    → UpSofar up.table.now row before up.plan.booleans up.plan.sides up.truth x l.n-iterator.0 l.parts.of l.lefts.of l.hits)
