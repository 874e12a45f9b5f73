use Rattle.engine.proofs.WeakUp.{up_turn, up_end}
use Rattle.engine.proofs.weak_parts.Parts.upward.Goals as goal

pub loop-n-preserved : goal.loop-n-preserved
loop-n-preserved c = up_turn c.loop-n.invariant c.in-Some.ensures.steps.0 c.in-Some.ensures.steps.1 c.part_of-part.ensures c.put.ensures

pub returns : goal.returns
returns c = up_end c.loop-n.invariant c.in-None.ensures.steps.0
