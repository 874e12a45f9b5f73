use Rattle.engine.proofs.WeakSteps.{row_weak}
use Rattle.engine.proofs.weak_uses.Uses.weak.Goals as goal

pub returns : goal.returns
returns c = row_weak c.bit-on.ensures c.a-v.ensures c.at.ensures c.top.ensures c.meet-w.ensures c.whole.ensures c.hand.ensures c.requires.is_weak
