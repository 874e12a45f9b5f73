use Rattle.engine.proofs.WeakUse.{ends_is}
use Rattle.engine.proofs.weak_uses.ended.Goals as goal

pub returns : goal.returns
returns c = ends_is _ _ _ _ c.shifted.ensures c.only_if.ensures
