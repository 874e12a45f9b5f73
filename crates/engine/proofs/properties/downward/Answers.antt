use Rattle.std.proofs.Common.{rules}
use Rattle.engine.proofs.PassLoop as L
use Rattle.engine.proofs.properties.downward.Goals as goal

pub loop-n-init : goal.loop-n-init
loop-n-init c = (search rules, L.loop_start _ c.requires c.visitable-ahead.ensures)

pub loop-n-smaller : goal.loop-n-smaller
loop-n-smaller c = L.loop_less c.loop-n.invariant.1 c.visits.ensures c.in-Some.ensures.steps.1 c.in-Some.ensures.steps.0 c.without_bit-ahead.ensures c.loop-n.invariant.0 (search rules)

pub loop-n-preserved : goal.loop-n-preserved
loop-n-preserved c = (search rules, L.loop_turn c.loop-n.invariant.1 c.visits.ensures c.in-Some.ensures.steps.1 c.in-Some.ensures.steps.0 c.without_bit-ahead.ensures c.visit-p.ensures)

pub returns : goal.returns
returns c = L.loop_end c.in_default.ensures.steps.0 c.loop-n.invariant.1 c.visits.ensures
