use Rattle.std.proofs.Common.{leb, ◌&&◌}
use Rattle.engine.specs.Reached.{follows}
use Rattle.engine.proofs.plan.Down.follows.Goals as goal

pub returns : goal.returns
unfolding follows
returns c = λ i. c.names.ensures i && leb c.args.self.least (c.kind_at.ensures i)
