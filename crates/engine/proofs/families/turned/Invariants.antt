use Rattle.engine.specs.Families.{leads_in}
use Rattle.engine.proofs.FamilyLaws.{Gathers}
use Rattle.engine.proofs.families.turned.Given as goal

abbrev pub invariant-loop-q : goal.invariant-loop-q
invariant-loop-q l = Gathers (leads_in l.leads l.w) l.q l.sets
