use Rattle.std.proofs.Common.{refl}
use Rattle.engine.proofs.WeakUse.{fuse_use_is}
use Rattle.engine.proofs.weak_uses.fuse_use.Goals as goal

pub returns : goal.returns
returns c = fuse_use_is _ _ _ c.place_after.ensures c.ended.ensures refl
