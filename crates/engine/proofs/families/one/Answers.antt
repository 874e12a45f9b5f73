use Rattle.std.proofs.Common.{rules}
use Rattle.engine.proofs.FamilyMoves.{one_quiet, one_moved}
use Rattle.engine.proofs.families.one.Goals as goal

pub returns-then-top-lt128 : goal.returns-then-top-lt128
returns-then-top-lt128 c = one_quiet _ _ _ _ _ c.if-old-eq0.true c.if-top-lt128.true

pub returns : goal.returns
returns c =
    one_moved c.args.w c.args.all c.args.uses.now.tops c.args.uses.now.leads c.args.families.now _ _ (search rules) c.turned.ensures c.family-next.ensures
