-- The numbers of weak sequences, counted from the top row.
use Prim.Native.Nat.{ℕ, zero, suc, ◌+◌, ◌-◌, ◌≤◌, ◌<◌}
use native.Mathlib.Nat.{add-zero}
use native.Mathlib.Omega.{arith}
use native.Mathlib.Decide.{dec_lt}
use mathlib.Core.Path.{◌≡◌, refl, ◌∙◌, ap}
use mathlib.Core.Bool.{Bool, true, false}
use mathlib.Core.List.{List}
use Rattle.psl.specs.Booleans.{bit}
use Rattle.psl.specs.Tells.{tells_and, tells_value, tells_eq, tells_true, true_tells}
use Rattle.engine.specs.Reads.{kind_of}
use Rattle.engine.specs.Weaks.{one_if, weaks_above, weak_number}
use Rattle.engine.specs.WeakPass.{is_weak}

module _ (t : List ℕ) (weaks : ℕ) where
  pub weak_is : (n : ℕ) → is_weak t weaks n ≡ true → (bit weaks n ≡ true) × (kind_of t n ≡ 32)
  weak_is n e = tells_true (tells_and (tells_value (bit weaks n)) (tells_eq (kind_of t n) 32)) e

  pub is_weak_lem : (n : ℕ) → bit weaks n ≡ true → kind_of t n ≡ 32 → is_weak t weaks n ≡ true
  is_weak_lem n e d = true_tells (tells_and (tells_value (bit weaks n)) (tells_eq (kind_of t n) 32)) (e, d)

  more : (j k : ℕ) → j ≤ k → weaks_above t weaks j ≤ weaks_above t weaks k
  more j zero h = let e : j ≡ 0 = omega arith in rw e (omega arith)
  more j (suc k) h = elim (dec_lt j (suc k)) [
    | yes l ↦ (let g = more j k (omega arith) in omega arith)
    | no l ↦ (let e : j ≡ suc k = omega arith in rw e (omega arith))
  ]

  -- a weak row more
  step_weak : (k n : ℕ) → 63 - k ≡ n → is_weak t weaks n ≡ true → weaks_above t weaks (suc k) ≡ weaks_above t weaks k + 1
  step_weak k n e d = ap (λ (b : Bool). weaks_above t weaks k + one_if b) (ap (is_weak t weaks) e ∙ d)

  step_none : (k n : ℕ) → 63 - k ≡ n → is_weak t weaks n ≡ false → weaks_above t weaks (suc k) ≡ weaks_above t weaks k
  step_none k n e d = ap (λ (b : Bool). weaks_above t weaks k + one_if b) (ap (is_weak t weaks) e ∙ d) ∙ add-zero (weaks_above t weaks k)

  apart : (n m : ℕ) → n < m → m < 64 → is_weak t weaks m ≡ true → weak_number t weaks m < weak_number t weaks n
  apart n m l h w =
      let s = step_weak (63 - m) m (omega arith) w in
      let g = more (suc (63 - m)) (63 - n) (omega arith) in
      omega arith

  pub number_one : (n m : ℕ) → n < 64 → m < 64 → is_weak t weaks n ≡ true → is_weak t weaks m ≡ true → weak_number t weaks n ≡ weak_number t weaks m → n ≡ m
  number_one n m a b v w e = elim (dec_lt n m) [
    | yes l ↦ absurd (omega (arith, apart n m l b w))
    | no l ↦ elim (dec_lt m n) [ yes g ↦ absurd (omega (arith, apart m n g a v)) | no g ↦ omega arith ]
  ]

  pub flat : (j k : ℕ) → j ≤ k → k ≤ 64 → ((i : ℕ) → 64 - k ≤ i → i < 64 - j → is_weak t weaks i ≡ false) → weaks_above t weaks k ≡ weaks_above t weaks j
  flat j zero h s none = let e : j ≡ 0 = omega arith in rw e
  flat j (suc k) h s none = elim (dec_lt j (suc k)) [
    | yes l ↦ step_none k (63 - k) refl (none (63 - k) (omega arith) (omega arith)) ∙ flat j k (omega arith) (omega arith) (λ i a b. none i (omega arith) b)
    | no l ↦ (let e : j ≡ suc k = omega arith in rw e)
  ]

  -- one row down
  pub met_weak : (n : ℕ) → n < 64 → is_weak t weaks n ≡ true → weaks_above t weaks (64 - n) ≡ weak_number t weaks n + 1
  met_weak n l w = ap (weaks_above t weaks) (let e : 64 - n ≡ suc (63 - n) = omega arith in e) ∙ step_weak (63 - n) n (omega arith) w

  pub met_none : (n : ℕ) → n < 64 → is_weak t weaks n ≡ false → weaks_above t weaks (64 - n) ≡ weak_number t weaks n
  met_none n l w = ap (weaks_above t weaks) (let e : 64 - n ≡ suc (63 - n) = omega arith in e) ∙ step_none (63 - n) n (omega arith) w
