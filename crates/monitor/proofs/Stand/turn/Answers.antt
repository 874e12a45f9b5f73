use Rattle.std.proofs.Common.{refl}
use Rattle.monitor.proofs.Turns.{turned}
use Rattle.monitor.proofs.Stand.turn.Goals as goal

pub returns : goal.returns
returns c = record {
  replies = refl;
  plan_stays = refl;
  turns = λ v read right goes. turned goes _ _ _ _ _ _ _ _ _ c.at-verdict.result read c.with_bit-first.ensures c.cycle-o.ensures.cycled c.at-verdict.ensures right;
}
