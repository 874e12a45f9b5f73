use Rattle.std.proofs.Common.{false}
use Rattle.psl.specs.Tells.{tells_true}
use Rattle.engine.specs.Goes.{right_by, unsaid}
use Rattle.engine.proofs.CycleLaws.{covered, no_rows}
use Rattle.engine.proofs.cycle.cycle.Goals as goal

pub passes-requires : goal.passes-requires
passes-requires c = covered _ _ _ _ _ _ (tells_true c.covers.ensures c.if-covers.true)

pub returns-then-covers-clause-right_next : goal.returns-then-covers-clause-right_next
returns-then-covers-clause-right_next c = right_by c.passes.ensures

pub returns-clause-cycled : goal.returns-clause-cycled
returns-clause-cycled c = λ s. absurd (no_rows c.covers.ensures c.if-covers.false s)

pub returns-clause-right_next : goal.returns-clause-right_next
returns-clause-right_next c = unsaid _ false false (no_rows c.covers.ensures c.if-covers.false)
