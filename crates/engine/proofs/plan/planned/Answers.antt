use Rattle.engine.proofs.PlannedLaws.{plan_is}
use Rattle.engine.proofs.plan.planned.Goals as goal

pub returns-clause-planned : goal.returns-clause-planned
returns-clause-planned c = λ counts z inside no_sequence. plan_is _ counts z _ _ _ _ _ _ _ _ _ inside no_sequence
    c.with_bit.ensures
    (c.spread-rows.ensures counts z)
    c.of.ensures
    (c.spread-weaks.ensures counts z)
    c.of-2.ensures
    c.but-sequences.ensures
    c.of-3.ensures
    c.of-4.ensures
