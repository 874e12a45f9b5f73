use Rattle.std.proofs.Common.{arith, sym, ◌∙◌}
use Rattle.engine.proofs.WeakUp.{pair_row, loop_row}
use Rattle.engine.proofs.weak_parts.Parts.part_of.Goals as goal

pub returns-then-kind-eq-THEN : goal.returns-then-kind-eq-THEN
returns-then-kind-eq-THEN c =
    pair_row _ _ _ _ _ _ _ (sym c.if-kind-eq-THEN.true ∙ c.kind-kind.ensures) c.a.ensures c.at-a.ensures _ _ (omega arith) c.b.ensures c.at.ensures c.pair.ensures

pub returns-then-kind-le-ALT : goal.returns-then-kind-le-ALT
returns-then-kind-le-ALT c =
    pair_row _ _ _ _ _ _ _ c.kind-kind.ensures c.a.ensures c.at-a.ensures _ _ c.if-kind-le-ALT.true c.b-then-kind-le-ALT.ensures c.at-then-kind-le-ALT.ensures c.pair-then-kind-le-ALT.ensures

pub returns : goal.returns
returns c = loop_row _ _ _ _ _ _ _ c.kind-kind.ensures c.a.ensures c.at-a.ensures c.if-kind-le-ALT.false c.looped.ensures
