use Rattle.engine.proofs.ReachedLaws.{chosen_is}
use Rattle.engine.proofs.plan.Choice.takes.Goals as goal

pub returns : goal.returns
returns c = chosen_is _ _ _ _ _ _ _ c.row_at-row.ensures c.kind_at.ensures
