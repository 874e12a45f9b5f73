-- Any two answers that a contract of this crate allows are equal. A word is below 2 ^ 64. (`bit` is given by an equation, and a Boolean that tells of a
-- statement is one: `has_from_one`.)
use Rattle.std.specs.Prelude.{◌≡◌, ℕ, zero, suc, ◌+◌, ◌^◌, ◌<◌, Bool, true, false, T, ◌≢◌, Option, Some, None, refl}
use Rattle.std.proofs.Common.{pow-suc, lt_of_lt_of_le, arith, sym, ◌∙◌, ap, subst, pow_mono}
use Rattle.std.proofs.Math.Decide.{dec_lt}
use Rattle.psl.specs.Booleans.{bit}
use Rattle.psl.specs.Tells.{Tells, tells_true, tells_false}
use Rattle.words.specs.Bits.{same_bits}
use Rattle.words.specs.Ends.{lowest_is, highest_is, highest_none}
use Rattle.words.specs.Sets.{WithBit, WithoutBit, HasFrom, Lowest, Highest, Without}
use Rattle.words.specs.Walk.{TakesFrom}

clash : {b : Bool} → b ≡ true → b ≢ false
clash p q = subst T (sym p ∙ q) tt

-- two numbers with the same bits are one, of whatever size
pub same_number : (x y : ℕ) → ((k : ℕ) → bit x k ≡ bit y k) → x ≡ y
same_number x y same =
    same_bits (x + y) x y (lt_of_lt_of_le (small x) (pow_mono (omega arith))) (lt_of_lt_of_le (small y) (pow_mono (omega arith))) (λ k l. same k)
  where
    small : (n : ℕ) → n < 2 ^ n
    small zero = omega arith
    small (suc n) = let e = pow-suc 2 n in let l = small n in omega arith

pub with_bit_one : (word index : ℕ) (on : Bool) (r s : ℕ) → r < 2 ^ 64 → s < 2 ^ 64 → WithBit word index on r → WithBit word index on s → r ≡ s
with_bit_one word index on r s p q a b = same_bits 64 r s p q (λ k l. a.each k ∙ sym (b.each k))

pub without_bit_one : (word index r s : ℕ) → r < 2 ^ 64 → s < 2 ^ 64 → WithoutBit word index r → WithoutBit word index s → r ≡ s
without_bit_one word index r s p q a b = same_bits 64 r s p q (λ k l. a.each k ∙ sym (b.each k))

pub has_from_one : (word index : ℕ) (r s : Bool) → Tells (HasFrom word index) r → Tells (HasFrom word index) s → r ≡ s
has_from_one word index true true a b = refl
has_from_one word index false false a b = refl
has_from_one word index true false a b = absurd (tells_false b refl (tells_true a refl))
has_from_one word index false true a b = absurd (tells_false a refl (tells_true b refl))

-- of two that differ, one is set and the other says that it is not
pub lowest_one : (word n m : ℕ) → Lowest word n → Lowest word m → n ≡ m
lowest_one word n m a b = elim (dec_lt 0 word) [
  | yes some ↦ elim (dec_lt n m) [
    | yes l ↦ absurd (clash (a.set some) (b.below n l))
    | no l ↦ elim (dec_lt m n) [ yes g ↦ absurd (clash (b.set some) (a.below m g)) | no g ↦ omega arith ]
  ]
  | no none ↦ a.none (omega arith) ∙ sym (b.none (omega arith))
]

pub highest_one : (word n m : ℕ) → Highest word n → Highest word m → n ≡ m
highest_one word n m a b = elim (dec_lt 0 word) [
  | yes some ↦ elim (dec_lt n m) [
    | yes l ↦ absurd (clash (b.set some) (a.above m l))
    | no l ↦ elim (dec_lt m n) [ yes g ↦ absurd (clash (a.set some) (b.above n g)) | no g ↦ omega arith ]
  ]
  | no none ↦ a.none (omega arith) ∙ sym (b.none (omega arith))
]

without_one : (End : ℕ → ℕ → Type 0) (word n r s : ℕ) → End word n → r < 2 ^ 64 → s < 2 ^ 64 → Without End word r → Without End word s → r ≡ s
without_one End word n r s end p q a b = same_bits 64 r s p q (λ k l. a.each n end k ∙ sym (b.each n end k))

pub without_lowest_one : (word r s : ℕ) → word < 2 ^ 64 → r < 2 ^ 64 → s < 2 ^ 64 → Without Lowest word r → Without Lowest word s → r ≡ s
without_lowest_one word r s fits = without_one Lowest word _ r s (lowest_is word fits)

pub without_highest_one : (word r s : ℕ) → word < 2 ^ 64 → r < 2 ^ 64 → s < 2 ^ 64 → Without Highest word r → Without Highest word s → r ≡ s
without_highest_one word r s fits = elim (dec_lt 0 word) [
  | yes some ↦ without_one Highest word _ r s (highest_is word some fits)
  | no none ↦ without_one Highest word 64 r s (let e : word ≡ 0 = omega arith in rw e highest_none)
]

-- what the iterator gives, and the word that it then has
takes_one : (End : ℕ → ℕ → Type 0) (word : ℕ) (r s : Option ℕ) (x y : ℕ) → ((n m : ℕ) → End word n → End word m → n ≡ m) → word < 2 ^ 64
    → TakesFrom End word r x → TakesFrom End word s y → (r ≡ s) × (x ≡ y)
takes_one End word None None x y same fits a b = (refl, a.1 ∙ sym b.1)
takes_one End word (Some n) None x y same fits a b = absurd (let l = a.1.less in omega (arith, b.0))
takes_one End word None (Some m) x y same fits a b = absurd (let l = b.1.less in omega (arith, a.0))
takes_one End word (Some n) (Some m) x y same fits a b =
    let e = same n m a.0 b.0 in
    let l = a.1.less in let h = b.1.less in
    (ap Some e, same_bits 64 x y (omega arith) (omega arith) (λ k i. rw e at (a.1.each k) ∙ sym (b.1.each k)))

pub takes_lowest_one : (word : ℕ) (r s : Option ℕ) (x y : ℕ) → word < 2 ^ 64 → TakesFrom Lowest word r x → TakesFrom Lowest word s y → (r ≡ s) × (x ≡ y)
takes_lowest_one word r s x y = takes_one Lowest word r s x y (lowest_one word)

pub takes_highest_one : (word : ℕ) (r s : Option ℕ) (x y : ℕ) → word < 2 ^ 64 → TakesFrom Highest word r x → TakesFrom Highest word s y → (r ≡ s) × (x ≡ y)
takes_highest_one word r s x y = takes_one Highest word r s x y (highest_one word)
