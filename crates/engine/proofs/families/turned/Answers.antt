use Rattle.std.proofs.Common.{◌≡◌, arith}
use Rattle.engine.specs.Families.{leads_in}
use Rattle.engine.proofs.FamilyLaws.{next_cell, gathered}
use Rattle.engine.proofs.families.turned.Goals as goal

pub loop-q-preserved : goal.loop-q-preserved
loop-q-preserved c = next_cell (leads_in c.args.leads.now c.args.w) _ _ _ c.loop-q.invariant c.led-sets.ensures.each

pub returns : goal.returns
returns c = let e : c.loop-q.q ≡ 6 = omega (arith, c.loop-q-test.false, c.loop-q.auto.q-end) in gathered _ _ (rw e at c.loop-q.invariant)
