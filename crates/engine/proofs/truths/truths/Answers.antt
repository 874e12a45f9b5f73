use Rattle.engine.proofs.TruthLaws.{known_turn, known_end}
use Rattle.engine.proofs.truths.truths.Goals as goal

pub loop-n-preserved : goal.loop-n-preserved
loop-n-preserved c = known_turn c.loop-n.invariant c.in-Some.ensures.steps.0 c.in-Some.ensures.steps.1 c.with_row-truth.ensures

pub returns-clause-each : goal.returns-clause-each
returns-clause-each c = known_end (rw c.in-None.ensures.steps.0 at c.loop-n.invariant)
