use Rattle.psl.specs.Booleans.{bit}
use Rattle.engine.specs.PropertyVisits.{stage_of, begun_at}
use Rattle.engine.proofs.properties.Pass.begun.Goals as goal

pub returns : goal.returns
unfolding stage_of begun_at
returns c = λ i. record { begin = λ k. c.with_bit.ensures.each k i; held = bit c.args.self.held; broken = c.args.self.broken }
