-- At most 32 weak sequences lie in one property of at most 64 rows: the argument of a pass from large numbers to small.
use Prim.Native.Nat.{ℕ, zero, suc, ◌+◌, ◌≤◌}
use native.Mathlib.Omega.{arith}
use Rattle.std.specs.Prelude.{◌≡◌, Bool, ◌&&◌, ◌||◌, eqb}
use Rattle.std.proofs.Math.Path.{refl}
use Rattle.std.proofs.Common.{eqb-true, ne_eqb}
use Rattle.std.proofs.Math.Bool.{true, false, or-false}
use Rattle.table.specs.First.{sum_to}
use Rattle.table.proofs.Laws.Sums.{sum_none}

abbrev pub one : Bool → ℕ
one true = 1
one false = 0

-- the marked rows below n that are properties
module _ (prop : ℕ → Bool) where
  abbrev pub owing : (ℕ → Bool) → ℕ → ℕ
  owing mark n = sum_to (λ j. one (mark j && prop j)) n

  -- a row more that is marked
  abbrev pub marking : (ℕ → Bool) → ℕ → ℕ → Bool
  marking mark a j = mark j || eqb j a

  marking_low : (mark : ℕ → Bool) (a n : ℕ) → n ≤ a → owing (marking mark a) n ≡ owing mark n
  unfolding sum_to
  marking_low mark a zero l = refl
  marking_low mark a (suc n) l = rw (ne_eqb n a (λ e. omega arith), or-false (mark n), marking_low mark a n (omega arith))

  pub marking_more : (mark : ℕ → Bool) (a n : ℕ) → owing (marking mark a) n ≤ owing mark n + 1
  unfolding sum_to
  marking_more mark a zero = omega arith
  marking_more mark a (suc n) = go (eqb n a) refl (marking_more mark a n)
    where
      most : (b : Bool) → one b ≤ 1
      most true = omega arith
      most false = omega arith

      go : (b : Bool) → eqb n a ≡ b → owing (marking mark a) n ≤ owing mark n + 1 → owing (marking mark a) n + one ((mark n || b) && prop n) ≤ owing mark n + one (mark n && prop n) + 1
      go true e i = let h = marking_low mark a n (omega (arith, eqb-true n a e)) in omega (arith, most ((mark n || true) && prop n))
      go false e i = rw (or-false (mark n)) (omega arith)

  -- w weak rows and b rows of two operands were met above n; N rows in all
  pub record Met (N n : ℕ) (mark : ℕ → Bool) (w b : ℕ) : Type 0 where
    pub paid : owing mark n + w ≤ 1 + b
    pub rows : w + b + n ≤ N

  module _ {N n w b : ℕ} {mark : ℕ → Bool} (h : Met N (suc n) mark w b) where
    pub met_skip : Met N n mark w b
    unfolding sum_to
    met_skip = record { paid = omega (arith, h.paid); rows = omega (arith, h.rows) }

    module _ (on : (mark n && prop n) ≡ true) where
      paid_on : owing mark n + 1 + w ≤ 1 + b
      unfolding sum_to
      paid_on = rw on at h.paid

      pub met_weak : Met N n mark (suc w) b
      met_weak = record { paid = omega (arith, paid_on); rows = omega (arith, h.rows) }

      pub met_one : (a : ℕ) → Met N n (marking mark a) w b
      met_one a = record { paid = omega (arith, paid_on, marking_more mark a n); rows = omega (arith, h.rows) }

      pub met_two : (a c : ℕ) → Met N n (marking (marking mark a) c) w (suc b)
      met_two a c = record { paid = omega (arith, paid_on, marking_more mark a n, marking_more (marking mark a) c n); rows = omega (arith, h.rows) }

  pub met_few : {N n w b : ℕ} {mark : ℕ → Bool} → N ≤ 64 → Met N n mark w b → w ≤ 32
  met_few l h = omega (arith, h.paid, h.rows)

  one_mark : (root n : ℕ) → owing (λ j. eqb j root) n ≤ 1
  one_mark root n = omega (arith, marking_more (λ j. false) root n, sum_none (λ j. 0) n (λ i l. refl))

  pub met_first : (N root : ℕ) → Met N N (λ j. eqb j root) 0 0
  met_first N root = record { paid = omega (arith, one_mark root N); rows = omega arith }
