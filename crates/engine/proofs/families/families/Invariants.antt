use Rattle.engine.specs.Families.{Moved}
use Rattle.engine.proofs.families.families.Given as goal

abbrev pub invariant-loop-w : goal.invariant-loop-w
invariant-loop-w l = Moved l.w l.uses.tops l.uses.leads l.initial.families l.families l.all
