use Rattle.std.proofs.Common.{arith}
use Rattle.engine.proofs.WeakSteps.{inner_loop, inner_pair}
use Rattle.engine.proofs.weak_uses.Uses.inner.Goals as goal

pub returns-then-kind-le-ALT : goal.returns-then-kind-le-ALT
returns-then-kind-le-ALT c = inner_pair c.requires.kind_is (omega arith) c.at-used.ensures c.a-v.ensures c.at-a.ensures c.left.ensures c.hand.ensures
    c.if-kind-le-ALT.true c.b.ensures c.right.ensures c.hand-then-kind-le-ALT.ensures

pub returns-else-kind-le-ALT : goal.returns-else-kind-le-ALT
returns-else-kind-le-ALT c = inner_loop c.requires.kind_is (omega arith) c.at-used.ensures c.a-v.ensures c.at-a.ensures c.left.ensures c.hand.ensures c.if-kind-le-ALT.false
