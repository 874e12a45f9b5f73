use Rattle.engine.specs.FamilySteps.{image_of}
use Rattle.engine.proofs.FamilyMoves.{Walking}
use Rattle.engine.proofs.families.walked.Given as goal

abbrev pub invariant-loop-p : goal.invariant-loop-p
invariant-loop-p l = Walking (image_of l.low l.high) l.family l.p-iterator.0 l.next
