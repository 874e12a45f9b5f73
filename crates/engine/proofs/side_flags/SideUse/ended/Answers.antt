use Rattle.engine.proofs.SideLaws.{ended_is}
use Rattle.engine.proofs.side_flags.SideUse.ended.Goals as goal

pub returns : goal.returns
returns c = λ x w o e f. rw (c.a.view_is, c.self.view_is, e, f) (ended_is x w o)
