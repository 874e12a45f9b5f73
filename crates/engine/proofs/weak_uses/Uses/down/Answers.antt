use Rattle.engine.proofs.weak_uses.Uses.down.Goals as goal

pub returns-then-kind-eq-THEN : goal.returns-then-kind-eq-THEN
returns-then-kind-eq-THEN c = c.inner.ensures c.args.begin

pub returns-then-kind-lt-WEAK : goal.returns-then-kind-lt-WEAK
returns-then-kind-lt-WEAK c = c.inner-then-kind-lt-WEAK.ensures c.args.begin
