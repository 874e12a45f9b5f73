use Rattle.std.proofs.Common.{true, ℕ, ◌<◌, ◌≡◌}
use Rattle.psl.specs.Booleans.{bit}
use Rattle.table.specs.Subset.{Subset}
use Rattle.table.specs.declared.Counts.{Counts}
use Rattle.engine.proofs.ReachedLaws.{Sofar}
use Rattle.engine.proofs.plan.Down.spread.Given as goal

abbrev pub invariant-loop-n : goal.invariant-loop-n
invariant-loop-n l = (counts : Counts) → Subset l.self.table.now counts → ((k : ℕ) → bit l.start k ≡ true → k < counts.nodes) → Sofar l.self.table.now l.self.least l.start counts.nodes l.n l.rows
