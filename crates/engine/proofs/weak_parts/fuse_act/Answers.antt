use Rattle.engine.proofs.WeakBits.{fuse_is}
use Rattle.engine.proofs.weak_parts.fuse_act.Goals as goal

pub returns : goal.returns
returns c = fuse_is _ _ _ _ _ c.shifted.ensures c.only_if.ensures
