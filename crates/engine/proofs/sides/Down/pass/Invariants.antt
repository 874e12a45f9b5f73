use Rattle.std.proofs.Common.{Bool, ℕ}
use Rattle.std.specs.Iterator.Adapters.{rev_source}
use Rattle.lanes.specs.Rows.{Row}
use Rattle.lanes.specs.Expected.{Table}
use Rattle.engine.specs.Sides.{SideRows, SideUsers, SidesEnter, LeftsFound}
use Rattle.engine.proofs.SideDownLaws.{DownSafe, DownSofar}
use Rattle.engine.proofs.sides.Down.pass.Given as goal

abbrev pub invariant-loop-n : goal.invariant-loop-n
invariant-loop-n l = let down = l.self in let left = (rev_source l.n-iterator).0 in
    DownSafe down.plan.sides left l.uses.of l.live.a l.live.b
    × ((row : ℕ → Row) (rows : Table row) (before : ℕ → Bool → Bool) (truth x : ℕ) (enter : ℕ → Bool)
    → SideRows down.table.now row down.plan.booleans down.plan.sides truth x → SideUsers down.table.now row down.plan.sides
    → SidesEnter down.table.now down.plan.sides down.pass.begin down.pass.held enter → LeftsFound down.table.now row before down.plan.sides x down.lefts.now.of
    → DownSofar down.table.now row rows before down.plan.booleans down.plan.sides truth down.pass.begin down.pass.held x down.lefts.now.of enter left l.uses.of l.live.a l.live.b)
