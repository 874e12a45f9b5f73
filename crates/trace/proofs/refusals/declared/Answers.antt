use Rattle.std.proofs.Common.{rules, sym, ap, ◌∙◌}
use Rattle.std.specs.Prelude.{Err}
use Rattle.trace.proofs.Scan.{scan_start, scan_here, scan_next, scan_end}
use Rattle.trace.proofs.refusals.declared.Goals as goal

pub loop-i-init : goal.loop-i-init
loop-i-init c = (search rules, scan_start _ _ _)

pub returns-then-is_undeclared : goal.returns-then-is_undeclared
returns-then-is_undeclared c =
    let e = rw c.sample_at.ensures at c.is_undeclared.ensures in
    ap Err c.at.ensures ∙ sym (scan_here _ _ _ _ c.loop-i-test.true (sym e ∙ c.if-is_undeclared.true)) ∙ c.loop-i.invariant.1

pub loop-i-preserved : goal.loop-i-preserved
loop-i-preserved c =
    let e = rw c.sample_at.ensures at c.is_undeclared.ensures in
    (search rules, sym (scan_next _ _ _ _ c.loop-i-test.true (sym e ∙ c.if-is_undeclared.false)) ∙ c.loop-i.invariant.1)

pub returns : goal.returns
returns c = sym (scan_end _ _ _ _ (search rules)) ∙ c.loop-i.invariant.1
