use Rattle.std.proofs.Common.{◌≡◌, ◌%◌, ◌∙◌, ap, arith, sym}
use native.Mathlib.Nat.{mod-eq_of_lt}
use Rattle.psl.specs.Booleans.{bit}
use Rattle.engine.proofs.FamilyLaws.{lacks_same, lacks_cut, lacks_three}
use Rattle.engine.proofs.families.without_three.Goals as goal
use Rattle.engine.proofs.families.without_three.Goals.{then-bit, else-bit}

pub returns-then-ends-first-eq0 : goal.returns-then-ends-first-eq0
returns-then-ends-first-eq0 c = λ whole h. lacks_three whole _ _ _ c.if-ends-first-eq0.true h

pub loop-cell-preserved : goal.loop-cell-preserved
loop-cell-preserved c = λ whole h.
    let i : c.loop-cell.cell % 64 ≡ c.loop-cell.cell = mod-eq_of_lt (omega (arith, c.loop-cell-test.true, c.requires)) in
    let on : bit c.args.ends c.loop-cell.cell ≡ c.bit.result = ap (bit c.args.ends) (sym i) ∙ sym c.bit.ensures in
    elim c.if-bit.branch [
      | then-bit w ↦ rw w.left-is (lacks_cut whole _ _ _ (omega (arith, c.loop-cell-test.true, c.requires)) (on ∙ w.if-bit.true) (c.loop-cell.invariant whole h))
      | else-bit w ↦ rw w.left-is (lacks_same whole _ _ _ (on ∙ w.if-bit.false) (c.loop-cell.invariant whole h))
    ]
