-- The lowest and the highest bit of a number by its counts of zeros, and a number without its lowest bit as x & (x - 1).
use Rattle.std.specs.Prelude.{◌≡◌, ℕ, zero, suc, ◌+◌, ◌-◌, ◌*◌, ◌/◌, ◌%◌, ◌^◌, ◌<◌, ◌≤◌, min, Bool, true, false, not, ◌&&◌, ◌||◌, ◌==◌, bit_and, nat_eq, nat_le, refl}
use Rattle.std.proofs.Common.{pow-suc, mul_assoc, one-mul, add-mul, add-zero, le-div_iff_mul-le, arith, sym, ◌∙◌, ap, ap₂, subst, pow_pos, eq-eqb, ne_eqb, eqb-true, le-leb}
use Rattle.std.proofs.Math.Nat.{pow-succ'}
use Rattle.std.proofs.Math.Decide.{dec_lt}
use Rattle.std.specs.Int.Bits.{and_step, and_self}
use Rattle.std.proofs.lemmas.Nat.{and_block, leading_top}
use Rattle.std.specs.Int.Count.{count_trailing_zeros, under, count_leading_zeros, trailing_of_zero}
use Rattle.std.specs.Float.Ieee.{size}
use Rattle.std.specs.Float.Ieee.Digits.{size-lt}
use Rattle.std.proofs.Math.Pow.{pow-lt, ones_lt, high}
use Rattle.std.proofs.lemmas.Bool.{lt-leb}
use Rattle.psl.specs.Booleans.{bit}
use Rattle.psl.specs.Tells.{Tells, does, doesnt}
use Rattle.words.specs.Sets.{HasFrom, Lowest, Highest}
use Rattle.words.specs.Bits.{bit_none, bit_high, set_below, bit_one, bit_shl_low, bit_shr, bit_beside}

-- x is 2 ^ low with an even multiple of it above
pub record Ending (x low : ℕ) : Type 0 where
  pub rest : ℕ
  pub parts : x ≡ rest * 2 ^ suc low + 2 ^ low

pub trailing_ends : (n x : ℕ) → 0 < x → x < 2 ^ n → Ending x (count_trailing_zeros n x)
unfolding count_trailing_zeros
trailing_ends zero x some small = absurd (omega arith)
trailing_ends (suc n) x some small = go (x % 2) refl (λ e. trailing_ends n (x / 2) (omega arith) (half (2 ^ n) (2 ^ suc n) (pow-suc 2 n) small))
  where
    half : (p q : ℕ) → q ≡ p * 2 → x < q → x / 2 < p
    half p q e h = omega arith

    twice : (a b : ℕ) → x % 2 ≡ 0 → x / 2 ≡ a + b → x ≡ a * 2 + b * 2
    twice a b e p = omega arith

    doubled : (h low : ℕ) → x % 2 ≡ 0 → x / 2 ≡ h * 2 ^ suc low + 2 ^ low → x ≡ h * 2 ^ suc (suc low) + 2 ^ suc low
    doubled h low e p = rw (pow-suc 2 (suc low), ← (mul_assoc h (2 ^ suc low) 2), pow-suc 2 low) (rw (pow-suc 2 low) at (twice (h * 2 ^ suc low) (2 ^ low) e p))

    go : (r : ℕ) → x % 2 ≡ r → (x % 2 ≡ 0 → Ending (x / 2) (count_trailing_zeros n (x / 2))) → Ending x (under r (count_trailing_zeros n (x / 2)))
    go zero e ih = let h = ih e in record { rest = h.rest; parts = doubled h.rest (count_trailing_zeros n (x / 2)) e h.parts }
    go (suc r) e ih = record { rest = x / 2; parts = omega arith }

module _ (x low : ℕ) (ends : Ending x low) where
  bits : (k : ℕ) → bit x k ≡ bit (ends.rest * 2 ^ suc low) k || k == low
  bits k =
      ap (λ (y : ℕ). bit y k) ends.parts ∙ bit_beside ends.rest (suc low) (2 ^ low) k (pow-lt (omega arith))
      ∙ ap (λ (b : Bool). bit (ends.rest * 2 ^ suc low) k || b) (bit_one low k)

  -- the bit is set, and none below it
  pub ending_set : bit x low ≡ true
  ending_set = bits low ∙ ap (λ (b : Bool). bit (ends.rest * 2 ^ suc low) low || b) (eq-eqb low low refl) ∙ or-true (bit (ends.rest * 2 ^ suc low) low)
    where
      or-true : (b : Bool) → b || true ≡ true
      or-true true = refl
      or-true false = refl

  pub ending_below : (k : ℕ) → k < low → bit x k ≡ false
  ending_below k l = bits k ∙ ap (λ (b : Bool). b || k == low) (bit_shl_low ends.rest (suc low) k (omega arith)) ∙ ne_eqb k low (λ e. omega arith)

  -- x & (x - 1) drops the bit
  pub ending_and : bit_and x (x - 1) ≡ ends.rest * 2 ^ suc low
  ending_and =
      ap₂ bit_and whole less ∙ and_block low (q * 2 + 1) (q * 2) 0 (2 ^ low - 1) (pow_pos low) (ones_lt low)
      ∙ ap (λ (y : ℕ). y * 2 ^ low + 0) (and_pred q) ∙ add-zero (q * 2 * 2 ^ low) ∙ sym shifted
    where
      q : ℕ
      q = ends.rest

      shifted : q * 2 ^ suc low ≡ q * 2 * 2 ^ low
      shifted = ap (λ (y : ℕ). q * y) (pow-succ' 2 low) ∙ sym (mul_assoc q 2 (2 ^ low))

      whole : x ≡ (q * 2 + 1) * 2 ^ low + 0
      whole = omega (arith, ends.parts, shifted, add-mul (q * 2) 1 (2 ^ low), one-mul (2 ^ low))

      less : x - 1 ≡ q * 2 * 2 ^ low + (2 ^ low - 1)
      less = omega (arith, ends.parts, shifted, pow_pos low)

      and_pred : (y : ℕ) → bit_and (y * 2 + 1) (y * 2) ≡ y * 2
      and_pred y =
          let a : (y * 2 + 1) / 2 ≡ y = omega arith in
          let b : y * 2 / 2 ≡ y = omega arith in
          let c : (y * 2 + 1) % 2 ≡ 1 = omega arith in
          let d : y * 2 % 2 ≡ 0 = omega arith in
          and_step (y * 2 + 1) (y * 2) ∙ (λ i. bit_and (a i) (b i) * 2 + min (c i) (d i)) ∙ add-zero (bit_and y y * 2) ∙ ap (λ (z : ℕ). z * 2) (and_self y)

  pub ending_less : (k : ℕ) → bit (bit_and x (x - 1)) k ≡ bit x k && not (k == low)
  ending_less k =
      ap (λ (y : ℕ). bit y k) ending_and
      ∙ dropped (bit (ends.rest * 2 ^ suc low) k) (k == low) (λ e. bit_shl_low ends.rest (suc low) k (let h = eqb-true k low e in omega arith))
      ∙ ap (λ (b : Bool). b && not (k == low)) (sym (bits k))
    where
      dropped : (b c : Bool) → (c ≡ true → b ≡ false) → b ≡ (b || c) && not c
      dropped true true h = h refl
      dropped true false h = refl
      dropped false true h = refl
      dropped false false h = refl

pub lowest_is : (word : ℕ) → word < 2 ^ 64 → Lowest word (count_trailing_zeros 64 word)
lowest_is word fits = record {
  none = λ e. ap (count_trailing_zeros 64) e ∙ trailing_of_zero 64;
  small = λ some. set_below 64 word (count_trailing_zeros 64 word) fits (ending_set word _ (trailing_ends 64 word some fits));
  set = λ some. ending_set word _ (trailing_ends 64 word some fits);
  below = λ k l. elim (dec_lt 0 word) [
    | yes some ↦ ending_below word _ (trailing_ends 64 word some fits) k l
    | no none ↦ (let e : word ≡ 0 = omega arith in rw e (bit_none k))
  ];
}

-- ---- some bit

-- a number that is not 0 has one
pub some_bit : (x : ℕ) → 0 < x → (k : ℕ) × (bit x k ≡ true)
some_bit x some = (count_trailing_zeros (size x) x, ending_set x _ (trailing_ends (size x) x some (size-lt x)))

-- and has one from n on just if it is 2 ^ n or more
pub has_from : (x n : ℕ) → Tells (HasFrom x n) (nat_le (2 ^ n) x)
has_from x n = elim (dec_lt x (2 ^ n)) [
  | yes l ↦ rw (lt-leb (2 ^ n) x l) (doesnt (λ h. let m = set_below n x h.0 l h.2 in omega (arith, h.1)))
  | no l ↦ (let g : 2 ^ n ≤ x = omega arith in
      let h = some_bit (x / 2 ^ n) ((le-div_iff_mul-le (pow_pos n)).1 (subst (λ (y : ℕ). y ≤ x) (sym (one-mul (2 ^ n))) g)) in
      rw (le-leb (2 ^ n) x g) (does (n + h.0, omega arith, sym (bit_shr x n h.0) ∙ h.1)))
]

-- ---- the highest bit of a number that is not 0

pub highest_is : (word : ℕ) → 0 < word → word < 2 ^ 64 → Highest word (63 - count_leading_zeros 64 word)
highest_is word some fits = let t = leading_top 64 word some fits in
    let e : 63 - count_leading_zeros 64 word ≡ t.0 = omega (arith, t.1) in
    rw e (record {
      none = λ z. absurd (omega arith);
      small = λ z. omega (arith, t.1);
      set = λ z. one t.0 t.2 t.3;
      above = λ k l. bit_high (suc t.0) word k t.3 l;
    })
  where
    one : (j : ℕ) → 2 ^ j ≤ word → word < 2 ^ suc j → bit word j ≡ true
    one j l h = let e : word ≡ 1 * 2 ^ j + (word - 2 ^ j) = omega (arith, one-mul (2 ^ j)) in
        let r : word - 2 ^ j < 2 ^ j = omega (arith, pow-suc 2 j) in
        ap (λ (y : ℕ). nat_eq (y / 2 ^ j % 2) 1) e ∙ ap (λ (y : ℕ). nat_eq (y % 2) 1) (high 1 j r)

pub highest_none : Highest 0 64
highest_none = record { none = λ e. refl; small = λ z. absurd (omega arith); set = λ z. absurd (omega arith); above = λ k l. bit_none k }
