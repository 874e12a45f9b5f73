use Rattle.std.proofs.Common.{refl}
use Rattle.engine.proofs.WeakUse.{then_use_plain, then_use_is}
use Rattle.engine.proofs.weak_uses.then_use.Goals as goal

pub returns-then-a-lt-EARLY : goal.returns-then-a-lt-EARLY
returns-then-a-lt-EARLY c = then_use_plain _ _ _ c.place_after.ensures c.if-a-lt-EARLY.true refl c.shifted.ensures

pub returns : goal.returns
returns c = then_use_is _ _ _ c.place_after-2.ensures _ _ c.only_if.ensures c.ended.ensures c.only_if-2.ensures refl
