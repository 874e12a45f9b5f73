use Rattle.engine.proofs.FamilyMoves.{walk_turn}
use Rattle.engine.proofs.families.walked.Goals as goal

pub loop-p-preserved : goal.loop-p-preserved
loop-p-preserved c = walk_turn c.loop-p.invariant c.in-Some.ensures.steps.1 c.image.ensures c.with_bit-next.ensures
