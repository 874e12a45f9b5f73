use Rattle.engine.proofs.WeakUse.{left_loop}
use Rattle.engine.proofs.weak_uses.left.Goals as goal

pub returns : goal.returns
returns c = left_loop _ _ _ c.if-kind-le-ALT.false c.ended.ensures
