-- The scan of the samples, what is left of the answer at each turn of the loop; and the answer of the whole check.
use Prim.Native.Nat.{ℕ, suc, ◌+◌, ◌-◌, ◌≤◌, ◌<◌}
use native.Mathlib.Nat.{sub-zero}
use native.Mathlib.Numerals.{add-one}
use native.Mathlib.Omega.{arith}
use mathlib.Core.Bool.{Bool, true, false, cond}
use mathlib.Core.List.{List}
use mathlib.Core.Path.{◌≡◌, sym, ◌∙◌, ap}
use lib.ListN.{length}
use Rattle.trace.specs.Trace.{sample_at}
use Rattle.trace.specs.Refusals.{refuse, header_of, header_right, undeclared, declared_from, declared_of, checked_trace}
use Rattle.trace.specs.declared.header.Header.{Header}
use Rattle.std.specs.Prelude.{Result, Ok}
use Rattle.table.specs.declared.Refusal.{Refusal}

module _ (S : ℕ) (bytes : List ℕ) (cycles : ℕ) where
  pub left : ℕ → Result ℕ Refusal
  left i = declared_from S bytes cycles (cycles - i) i

  pub scan_start : left 0 ≡ declared_of S bytes cycles
  unfolding left declared_of
  scan_start = ap (λ (n : ℕ). declared_from S bytes cycles n 0) (sub-zero cycles)

  one : (i : ℕ) → i < cycles → left i ≡ cond (undeclared S (sample_at bytes i)) (refuse 13 (i + 1)) (left (i + 1))
  unfolding left declared_from
  one i l =
      let e : cycles - i ≡ suc (cycles - (i + 1)) = omega arith in
      ap (λ (n : ℕ). declared_from S bytes cycles n i) e
      ∙ ap (λ (j : ℕ). cond (undeclared S (sample_at bytes i)) (refuse 13 (i + 1)) (declared_from S bytes cycles (cycles - (i + 1)) j)) (sym (add-one i))

  pub scan_here : (i : ℕ) → i < cycles → undeclared S (sample_at bytes i) ≡ true → left i ≡ refuse 13 (i + 1)
  scan_here i l e = one i l ∙ ap (λ (b : Bool). cond b (refuse 13 (i + 1)) (left (i + 1))) e

  pub scan_next : (i : ℕ) → i < cycles → undeclared S (sample_at bytes i) ≡ false → left i ≡ left (i + 1)
  scan_next i l e = one i l ∙ ap (λ (b : Bool). cond b (refuse 13 (i + 1)) (left (i + 1))) e

  pub scan_end : (i : ℕ) → cycles ≤ i → left i ≡ Ok cycles
  unfolding left declared_from
  scan_end i l = let e : cycles - i ≡ 0 = omega arith in ap (λ (n : ℕ). declared_from S bytes cycles n i) e

-- the answer by the header that was read, and what its test said
module _ (S : ℕ) (bytes : List ℕ) (header : Header) (r : Bool) (read : header ≡ header_of bytes) (told : r ≡ header_right header S (length bytes)) where
  answer : checked_trace S bytes ≡ cond r (declared_of S bytes header.cycles) (refuse 15 0)
  unfolding checked_trace header_of
  answer = sym ((λ i. cond (told i) (declared_of S bytes header.cycles) (refuse 15 0)) ∙ (λ i. cond (header_right (read i) S (length bytes)) (declared_of S bytes (read i).cycles) (refuse 15 0)))

  pub answer_right : (z : Result ℕ Refusal) → r ≡ true → z ≡ declared_of S bytes header.cycles → z ≡ checked_trace S bytes
  answer_right z e p = p ∙ sym (answer ∙ ap (λ (b : Bool). cond b (declared_of S bytes header.cycles) (refuse 15 0)) e)

  pub answer_wrong : r ≡ false → refuse 15 0 ≡ checked_trace S bytes
  answer_wrong e = sym (answer ∙ ap (λ (b : Bool). cond b (declared_of S bytes header.cycles) (refuse 15 0)) e)
