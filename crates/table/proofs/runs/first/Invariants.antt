use Rattle.std.specs.Prelude.{ℕ, ◌<◌, ◌≡◌, Result, ⊤}
use Rattle.table.specs.Causes.{rule_number}
use Rattle.table.specs.First.{first_refusal}
use Rattle.table.specs.declared.causes.Cause.{Cause}
use Rattle.table.proofs.Laws.Runs.{left}
use Rattle.table.proofs.runs.first.Given as goal

abbrev pub invariant-loop-place : goal.invariant-loop-place
invariant-loop-place g l =
    (rule : ℕ → ℕ) → ((i : ℕ) → i < l.count → (answer : Result ⊤ Cause) → goal.F-post g l.rule i answer → rule_number answer ≡ rule i)
    → left rule l.count l.place ≡ first_refusal rule l.count
