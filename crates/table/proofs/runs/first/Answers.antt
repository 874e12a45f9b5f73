use Rattle.std.proofs.Common.{ap, arith, sym, ◌∙◌, Err}
use Rattle.table.specs.Causes.{rule_number}
use Rattle.table.proofs.Laws.Causes.{numbered}
use Rattle.table.proofs.Laws.Runs.{first_start, first_next, first_here, first_end}
use Rattle.table.proofs.runs.first.Goals as goal

pub loop-place-init : goal.loop-place-init
loop-place-init g c = λ rule follows. first_start rule c.args.count

pub returns-in-Err : goal.returns-in-Err
returns-in-Err g c = λ rule follows.
    (let n = sym (ap rule_number c.in-Err.is) ∙ follows c.loop-place.place c.loop-place-test.true c.rule.result c.rule.ensures in
    ap Err c.at.ensures ∙ (λ i. Err (record { number = n i; place = c.from.ensures i }))
    ∙ sym (first_here rule _ _ c.loop-place-test.true (λ z. omega (arith, numbered c.in-Err.cause, n, z))) ∙ c.loop-place.invariant rule follows)

pub loop-place-preserved : goal.loop-place-preserved
loop-place-preserved g c = λ rule follows.
    (let n = sym (ap rule_number c.in_default.is) ∙ follows c.loop-place.place c.loop-place-test.true c.rule.result c.rule.ensures in
    sym (first_next rule _ _ c.loop-place-test.true (sym n)) ∙ c.loop-place.invariant rule follows)

pub returns : goal.returns
returns g c = λ rule follows. sym (first_end rule _ _ c.loop-place-test.false) ∙ c.loop-place.invariant rule follows
