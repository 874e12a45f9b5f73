use Rattle.engine.proofs.WeakUse.{whole_is}
use Rattle.engine.proofs.weak_uses.whole.Goals as goal

pub returns : goal.returns
returns c = whole_is c.args.w c.args.begin _ c.only_if.ensures
