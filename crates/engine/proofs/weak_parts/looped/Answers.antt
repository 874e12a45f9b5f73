use Rattle.engine.proofs.WeakUp.{loop_star}
use Rattle.engine.proofs.weak_parts.looped.Goals as goal

pub returns-then-kind-eq-STAR : goal.returns-then-kind-eq-STAR
returns-then-kind-eq-STAR c = loop_star _ c.if-kind-eq-STAR.true
