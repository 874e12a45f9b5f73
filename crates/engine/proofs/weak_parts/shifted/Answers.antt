use Rattle.engine.proofs.WeakBits.{shifted_is}
use Rattle.engine.proofs.weak_parts.shifted.Goals as goal

pub returns : goal.returns
returns c = shifted_is _ _
