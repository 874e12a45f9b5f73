use Rattle.std.proofs.Common.{arith}
use Rattle.engine.proofs.SideLaws.{then_use_is}
use Rattle.engine.proofs.side_flags.SideUse.after.Goals as goal

pub returns : goal.returns
returns c = record {
  then_is = λ k x w o e f. rw (c.only_if.ensures, c.has.ensures, c.self.view_is, c.ended.ensures x w o e f, e, f) (then_use_is x w);
  fuse_is = λ k x w o e f. absurd (omega arith);
  alt_is = λ k x w o e f. absurd (omega arith);
}
