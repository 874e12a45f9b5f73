use Rattle.engine.proofs.WeakUse.{top_on, top_off}
use Rattle.engine.proofs.weak_uses.top.Goals as goal

pub returns-then-begin : goal.returns-then-begin
returns-then-begin c = top_on _ _ c.if-begin.true

pub returns-else-begin : goal.returns-else-begin
returns-else-begin c = top_off _ _ c.if-begin.false
