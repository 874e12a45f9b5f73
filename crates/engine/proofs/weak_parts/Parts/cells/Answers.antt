use Rattle.engine.proofs.WeakUp.{cells_turn}
use Rattle.engine.proofs.weak_parts.Parts.cells.Goals as goal

pub loop-n-preserved : goal.loop-n-preserved
loop-n-preserved c = cells_turn _ _ c.loop-n.invariant c.in-Some.ensures.steps.1 c.put.ensures (rw (c.only_if.ensures, c.bit.ensures))
