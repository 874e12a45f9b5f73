use Rattle.engine.proofs.WeakBits.{alt_is}
use Rattle.engine.proofs.weak_parts.alt_act.Goals as goal

pub returns : goal.returns
returns c = alt_is _ _ _ _ c.shifted.ensures
