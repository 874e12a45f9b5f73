-- DOCUMENT 01'S ANSWERS, by its numbers and values: a refusal's number and place, or what is granted. For each enum that a public function answers, a definition
-- tells this of each of its cases, and the promise uses it: `checked_reply` in Check, of a check and of opening; `answer_reply` of a step and of judging; `trace_reply` of
-- a trace.
use Rattle.std.specs.Prelude.{ℕ, ◌≡◌}
use Rattle.std.proofs.Common.{arith}

pub data Reply (A : Type 0) : Type 0 where
  refused : (number place : ℕ) → Reply A
  granted : A → Reply A

-- a reply is one or the other, and tells its values
pub not_both : {A : Type 0} {number place : ℕ} {a : A} → refused number place ≡ granted a → ⊥
not_both e = let z : ◌≡◌ {A = ℕ} 0 1 = cc in absurd (omega arith)

pub granted_one : {A : Type 0} {a b : A} → granted a ≡ granted b → a ≡ b
granted_one e = cc

pub refused_one : {A : Type 0} {number place number' place' : ℕ} → ◌≡◌ {A = Reply A} (refused number place) (refused number' place')
    → (number ≡ number') × (place ≡ place')
refused_one e = (cc, cc)
