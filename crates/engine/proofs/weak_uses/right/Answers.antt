use Rattle.std.proofs.Common.{arith}
use Rattle.engine.proofs.weak_uses.right.Goals as goal

pub returns-in-16 : goal.returns-in-16
returns-in-16 c = λ owns number p u P U fits. record { then_is = λ y. c.then_use.ensures owns number p u P U fits; fuse_is = λ y. absurd (omega arith); alt_is = λ y. absurd (omega arith) }

pub returns-in-17 : goal.returns-in-17
returns-in-17 c = λ owns number p u P U fits. record { then_is = λ y. absurd (omega arith); fuse_is = λ y. c.fuse_use.ensures owns number p u P U fits; alt_is = λ y. absurd (omega arith) }
