use Rattle.std.proofs.Common.{sym, ◌∙◌}
use Rattle.engine.proofs.SideLaws.{seen_expected, seen_part}
use Rattle.engine.proofs.sides.Up.then_row.Goals as goal

pub returns-then-bit : goal.returns-then-bit
returns-then-bit c = λ x y e s.
    c.then_expected.ensures x y e (rw (c.bit-then-bit.ensures, c.b-v.ensures) (s _ (seen_expected (sym c.bit.ensures ∙ c.if-bit.true))))

pub returns : goal.returns
returns c = λ x y e s.
    c.then.ensures x y e (rw (c.at.ensures 0, c.b-v.ensures) (s _ (seen_part (sym c.bit.ensures ∙ c.if-bit.false))))
