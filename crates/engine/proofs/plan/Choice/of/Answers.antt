use Rattle.engine.proofs.ReachedLaws.{chosen_turn, chosen_end}
use Rattle.engine.proofs.plan.Choice.of.Goals as goal

pub loop-n-preserved : goal.loop-n-preserved
loop-n-preserved c = chosen_turn _ _ c.loop-n.invariant c.in-Some.ensures.steps.1 (rw c.takes.ensures at c.with_bit-found.ensures)

pub returns : goal.returns
returns c = chosen_end _ _ (rw c.in-None.ensures.steps.0 at c.loop-n.invariant)
