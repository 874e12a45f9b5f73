use Rattle.engine.proofs.FamilyMoves.{all_turn}
use Rattle.engine.proofs.families.families.Goals as goal

pub loop-w-preserved : goal.loop-w-preserved
loop-w-preserved c = all_turn _ _ _ _ _ _ _ _ c.loop-w.invariant c.one-all.ensures
