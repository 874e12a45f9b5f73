-- What the code computes is what the contracts say: each function's answer as a number.
use Rattle.std.proofs.Common.{◌≡◌, ℕ, ◌+◌, ◌-◌, ◌*◌, ◌/◌, ◌%◌, ◌^◌, ◌<◌, ◌≤◌, Bool, true, false, not, ◌&&◌, ◌||◌, eqb, ltb, leb, sym, refl, ap, ◌∙◌, subst, mod-eq_of_lt, one-mul, le-div_iff_mul-le, zero-mul, arith, pow_pos, shl_exact, lt-ltb, le-ltb, eq-eqb, ne_eqb, le-leb}
use native.Mathlib.Nat.{div-eq_of_lt}
use native.Mathlib.Decide.{dec_lt}
use lib.Bits.{bit_or, bit_and, or_zero_r, and_le_r}
use lib.Count.{count_trailing_zeros}
use lib.Pow.{pow-lt}
use borrow.Author.Tests.{lt-leb}
use mir.Val.{bool_byte}
use Rattle.psl.specs.Booleans.{bit}
use Rattle.psl.specs.Tells.{Tells, doesnt}
use Rattle.words.specs.Sets.{WithBit, WithoutBit, HasFrom, Lowest, Highest, Without}
use Rattle.words.specs.Bits.{bit_none, bit_on, bit_one, bit_and_lem, bit_not, set_below, fewer_bits}
use Rattle.words.specs.Unique.{lowest_one, highest_one}
use Rattle.words.specs.Ends.{has_from, lowest_is, trailing_ends, ending_less}

-- 1 << index
one_shifted : (index : ℕ) → 1 * 2 ^ (index % 64) % 2 ^ 64 ≡ 2 ^ (index % 64)
one_shifted index = shl_exact {a = 1} 1 (index % 64) 64 (omega arith) (omega arith) ∙ one-mul (2 ^ (index % 64))

pub with_bit_is : (word index : ℕ) (on : Bool) → WithBit word index on (bit_or word (bool_byte on * 2 ^ (index % 64) % 2 ^ 64))
with_bit_is word index true = record { each = λ k. rw (one_shifted index) (bit_on word (index % 64) k) }
with_bit_is word index false = record { each = λ k. rw (zero-mul, or_zero_r) (or_none (bit word k)) }
  where
    or_none : (b : Bool) → b ≡ b || false
    or_none true = refl
    or_none false = refl

pub without_bit_is : (word index : ℕ) → word < 2 ^ 64 → WithoutBit word index (bit_and word ((2 ^ 64 - 1) - 1 * 2 ^ (index % 64) % 2 ^ 64))
without_bit_is word index fits = record { each = λ k. rw (one_shifted index) (each k) }
  where
    i : ℕ
    i = index % 64

    drops : (b c d : Bool) → (b ≡ true → c ≡ true) → b && (c && d) ≡ b && d
    drops true c d h = rw (h refl)
    drops false c d h = refl

    each : (k : ℕ) → bit (bit_and word ((2 ^ 64 - 1) - 2 ^ i)) k ≡ bit word k && not (eqb k i)
    each k = bit_and_lem word ((2 ^ 64 - 1) - 2 ^ i) k ∙ ap (λ (b : Bool). bit word k && b) (bit_not 64 (2 ^ i) k (pow-lt {j = 64} (omega arith)))
        ∙ drops (bit word k) (ltb k 64) (not (bit (2 ^ i) k)) (λ e. lt-ltb k 64 (set_below 64 word k fits e))
        ∙ ap (λ (b : Bool). bit word k && not b) (bit_one i k)

-- word - 1 as it wraps
pub without_lowest_is : (word : ℕ) → word < 2 ^ 64 → Without Lowest word (bit_and word ((word + (2 ^ 64 - 1)) % 2 ^ 64))
without_lowest_is word fits = elim (dec_lt 0 word) [ yes some ↦ go some | no none ↦ (let e : word ≡ 0 = omega arith in rw e of_none) ]
  where
    go : 0 < word → Without Lowest word (bit_and word ((word + (2 ^ 64 - 1)) % 2 ^ 64))
    go some = let e : (word + (2 ^ 64 - 1)) % 2 ^ 64 ≡ word - 1 = omega arith in rw e (record {
      each = λ n low k. rw (lowest_one word n (count_trailing_zeros 64 word) low (lowest_is word fits)) (ending_less word _ (trailing_ends 64 word some fits) k);
      less = λ z. let h = and_le_r word (word - 1) in omega arith;
    })

    of_none : Without Lowest 0 0
    of_none = record { each = λ n low k. rw (bit_none k); less = λ z. absurd (omega arith) }

pub without_highest_is : (word n r : ℕ) → word < 2 ^ 64 → r < 2 ^ 64 → Highest word n → WithoutBit word n r → Without Highest word r
without_highest_is word n r fits small top gone = record {
  each = λ m end k. rw (highest_one word m n end top) (each k);
  less = λ some. fewer_bits 64 r word n small fits (λ k e. both_left (bit word k) (not (eqb k n)) (sym (each k) ∙ e)) (each n ∙ rw (eq-eqb n n refl) (none (bit word n))) (top.set some);
}
  where
    none : (b : Bool) → b && false ≡ false
    none true = refl
    none false = refl

    both_left : (b c : Bool) → b && c ≡ true → b ≡ true
    both_left true c e = refl
    both_left false c e = e

    each : (k : ℕ) → bit r k ≡ bit word k && not (eqb k n)
    each k = gone.each k ∙ elim (dec_lt 0 word) [
      | yes some ↦ rw (mod-eq_of_lt (top.small some))
      | no z ↦ (let e : word ≡ 0 = omega arith in rw (e, bit_none k))
    ]

-- word >> index is not 0
pub has_from_is : (word index : ℕ) → Tells (HasFrom word index) (not (eqb (word / 2 ^ index) 0))
has_from_is word index = rw shifted (has_from word index)
  where
    shifted : not (eqb (word / 2 ^ index) 0) ≡ leb (2 ^ index) word
    shifted = elim (dec_lt word (2 ^ index)) [
      | yes l ↦ rw (lt-leb (2 ^ index) word l, div-eq_of_lt l)
      | no l ↦ (let g : 2 ^ index ≤ word = omega arith in
          let some : 0 < word / 2 ^ index = (le-div_iff_mul-le (pow_pos index)).1 (subst (λ (y : ℕ). y ≤ word) (sym (one-mul (2 ^ index))) g) in
          let n : word / 2 ^ index ≡ 0 → ⊥ = λ e. omega arith in
          rw (le-leb (2 ^ index) word g, ne_eqb (word / 2 ^ index) 0 n))
    ]

pub has_from_none : (word index : ℕ) → word < 2 ^ 64 → 64 ≤ index → Tells (HasFrom word index) (ltb index 64)
has_from_none word index fits far = rw (le-ltb index 64 far) (doesnt (λ h. let l = set_below 64 word h.0 fits h.2 in omega (arith, h.1)))
