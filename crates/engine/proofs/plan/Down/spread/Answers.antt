use Rattle.std.proofs.Common.{arith, ◌+◌, ◌-◌, ◌≡◌}
use Rattle.engine.proofs.ReachedLaws.{sofar_at, spread_turn, spread_end}
use Rattle.engine.proofs.plan.Down.spread.Goals as goal

pub loop-n-preserved : goal.loop-n-preserved
loop-n-preserved c = λ counts z low.
    let e : c.loop-n.n ≡ (c.loop-n.n - 1) + 1 = omega (arith, c.loop-n-test.true) in
    spread_turn _ _ _ counts z _ _ _ (sofar_at e (c.loop-n.invariant counts z low)) c.joined-rows.ensures

pub returns : goal.returns
returns c = λ counts z low.
    let e : c.loop-n.n ≡ 0 = omega (arith, c.loop-n-test.false) in
    spread_end _ _ _ counts z (sofar_at e (c.loop-n.invariant counts z low))
