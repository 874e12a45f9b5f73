use Rattle.std.proofs.Common.{rules, sym, ◌∙◌}
use Rattle.trace.proofs.Feeds.{fed_on, all_fed, none_fed}
use Rattle.trace.proofs.judging.last.Goals as goal

pub loop-sample-init : goal.loop-sample-init
loop-sample-init c = none_fed (search rules) (search rules)

pub loop-sample-preserved : goal.loop-sample-preserved
loop-sample-preserved c = fed_on c.loop-sample.invariant (sym c.next.ensures.steps.0 ∙ c.in-Some.is) c.next.ensures.steps.1 c.step_lent.ensures

pub returns : goal.returns
returns c = all_fed c.loop-sample.invariant (sym c.next.ensures.steps.0 ∙ c.in-None.is)
