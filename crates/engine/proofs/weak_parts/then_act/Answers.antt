use Rattle.engine.proofs.WeakBits.{then_short, then_is}
use Rattle.engine.proofs.weak_parts.then_act.Goals as goal

pub returns-then-a-b-eq0 : goal.returns-then-a-b-eq0
returns-then-a-b-eq0 c = then_short _ _ _ _ c.shifted.ensures c.if-a-b-eq0.true

pub returns : goal.returns
returns c = then_is _ _ _ _ _ _ c.shifted-2.ensures c.only_if.ensures c.only_if-2.ensures
