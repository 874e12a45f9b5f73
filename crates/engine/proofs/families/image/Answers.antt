use Rattle.std.proofs.Common.{refl}
use Rattle.engine.specs.FamilySteps.{image_of}
use Rattle.engine.proofs.families.image.Goals as goal

pub returns : goal.returns
unfolding image_of
returns c = refl
