use Rattle.engine.proofs.SideLaws.{fuse_is}
use Rattle.engine.proofs.side_flags.SidePart.fuse.Goals as goal

pub returns : goal.returns
returns c = λ x y e f. rw (c.only_if-at_once.ensures, c.has.ensures, c.b.view_is, c.self.view_is, e, f) (fuse_is x y)
