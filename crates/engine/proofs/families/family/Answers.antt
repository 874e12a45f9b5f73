use Rattle.std.proofs.Common.{rules}
use Rattle.engine.proofs.FamilyMoves.{stepped}
use Rattle.engine.proofs.families.family.Goals as goal

pub returns : goal.returns
returns c =
    stepped _ _ _ _ _ _ _ (search rules) c.ranges.top.fits c.without.ensures c.moved-next.ensures
    c.set.ensures c.with_bit.ensures
