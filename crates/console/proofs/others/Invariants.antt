-- How the properties that were judged so far stand.
use Rattle.standing.specs.Adding.{StandsBelow}
use Rattle.console.proofs.others.Given as goal

abbrev pub invariant-loop-property : goal.invariant-loop-property
invariant-loop-property g l = StandsBelow l.table l.trace 1 l.initial.told.standing → StandsBelow l.table l.trace l.property l.told.standing
