use Rattle.engine.proofs.VisitLaws.{visits_are}
use Rattle.engine.proofs.properties.visits.Goals as goal

pub returns : goal.returns
returns c = visits_are _ _ _ _
