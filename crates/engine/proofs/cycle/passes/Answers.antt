use Rattle.std.proofs.Common.{rules}
use Rattle.engine.proofs.CyclePasses.{passes_cycle}
use Rattle.engine.proofs.cycle.passes.Goals as goal

pub returns : goal.returns
returns c = λ s.
    let hits = c.pass-hits.ensures in
    let live = c.pass-live.ensures in
    passes_cycle s _ _ c.truths-truth.ensures.only c.truths-truth.ensures.each _ _ hits.over hits.found _ _ _ c.downward-p.ensures
    _ _ live.inside.0 live.inside.1 live.next _ _ c.moved-all.ensures (search rules) (search rules) (search rules) (search rules) c.fails.ensures c.is_quiet.ensures c.bit.ensures
