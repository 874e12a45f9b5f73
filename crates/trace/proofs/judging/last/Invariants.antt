use Rattle.monitor.specs.Follows.{monitor_of}
use Rattle.trace.proofs.Feeds.{Fed}
use Rattle.trace.proofs.judging.last.Given as goal

abbrev pub invariant-loop-sample : goal.invariant-loop-sample
invariant-loop-sample l = Fed l.table l.trace l.fn.monitor l.sample-iterator (monitor_of l.plan l.stand l.families)
