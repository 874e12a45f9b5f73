use Rattle.engine.specs.Reached.{is_chosen}
use Rattle.engine.proofs.ReachedLaws.{Chosen}
use Rattle.engine.proofs.plan.Choice.of.Given as goal

abbrev pub invariant-loop-n : goal.invariant-loop-n
invariant-loop-n l = Chosen l.rows (is_chosen l.table l.self.low l.self.high l.self.left) l.n-iterator.0 l.found
