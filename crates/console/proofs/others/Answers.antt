use Rattle.std.proofs.Common.{arith, sym, subst}
use Rattle.standing.specs.Adding.{StandsBelow, answer_more, below_as}
use Rattle.console.proofs.others.Goals as goal

pub loop-property-preserved : goal.loop-property-preserved
loop-property-preserved g c = λ b. subst (StandsBelow _ _ _) (sym c.with_property-told.ensures)
    (answer_more _ _ _ _ c.judge.result (c.loop-property.invariant b) c.judge.ensures)

pub returns : goal.returns
returns g c = λ some b. below_as (omega arith) (c.loop-property.invariant b)
