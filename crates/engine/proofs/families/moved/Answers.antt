use Rattle.std.proofs.Common.{◌∙◌}
use Rattle.engine.specs.FamilySteps.{threes}
use Rattle.engine.proofs.FamilyMoves.{moved_is}
use Rattle.engine.proofs.families.moved.Goals as goal

pub returns : goal.returns
returns c = moved_is _ _ _ _ _
    (c.images.ensures ∙ (λ i. threes (c.set.ensures i) (c.set-2.ensures i) (c.set-3.ensures i)))
    (c.images-2.ensures ∙ (λ i. threes (c.set-4.ensures i) (c.set-5.ensures i) (c.set-6.ensures i))) c.walked.ensures
