use Rattle.standing.specs.Adding.{first_refused, first_given}
use Rattle.console.proofs.judged.Goals as goal

pub returns-in_default : goal.returns-in_default
returns-in_default g c = first_refused _ _ c.judge-first.result _ c.in_default.is c.judge-first.ensures c.with_property.ensures

pub returns : goal.returns
returns g c = first_given _ _ c.judge-first.result _ _ c.in-Ok.is c.judge-first.ensures c.with_property-2.ensures c.others.ensures
