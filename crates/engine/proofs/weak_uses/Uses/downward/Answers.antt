use Rattle.engine.proofs.WeakLoop.{down_start, down_turn, down_end}
use Rattle.engine.proofs.weak_uses.Uses.downward.Goals as goal

pub loop-n-init : goal.loop-n-init
loop-n-init c = rw (c.into_iter-n-iterator.ensures.into_iter_gives, c.rev-n-items.ensures.source) down_start

pub loop-n-preserved : goal.loop-n-preserved
loop-n-preserved c = down_turn c.loop-n.invariant c.in-Some.ensures.steps.0 c.in-Some.ensures.steps.1 c.down.ensures

pub returns : goal.returns
returns c = down_end c.loop-n.invariant c.in-None.ensures.steps.0
