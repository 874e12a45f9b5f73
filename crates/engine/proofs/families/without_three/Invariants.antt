use Rattle.std.proofs.Common.{ℕ}
use Rattle.engine.specs.FamilySteps.{Lacks}
use Rattle.engine.proofs.families.without_three.Given as goal

abbrev pub invariant-loop-cell : goal.invariant-loop-cell
invariant-loop-cell l = (whole : ℕ) → Lacks whole l.ends l.initial.cell l.family → Lacks whole l.ends l.cell l.left
