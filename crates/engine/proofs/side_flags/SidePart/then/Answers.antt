use Rattle.engine.proofs.SideLaws.{then_last}
use Rattle.engine.proofs.side_flags.SidePart.then.Goals as goal

pub returns : goal.returns
returns c = λ x y e f. rw (c.only_if-in_a.ensures, c.has.ensures, c.b.view_is, c.b-2.view_is, c.self.view_is, e, f) (then_last x y)
