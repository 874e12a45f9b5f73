use Rattle.psl.specs.Booleans.{bit}
use Rattle.engine.specs.PropertyVisits.{stage_of, kept_at}
use Rattle.engine.proofs.properties.Pass.kept.Goals as goal

pub returns : goal.returns
unfolding stage_of kept_at
returns c = λ i. record { begin = bit c.args.self.begin; held = λ k. c.with_bit.ensures.each k i; broken = c.args.self.broken }
