-- The bits of a number under each operation of the code, over every index. `bit` is that of the definitions: "signal k at bit k".
use Rattle.std.specs.Prelude.{◌≡◌, ℕ, zero, suc, ◌+◌, ◌-◌, ◌*◌, ◌/◌, ◌%◌, ◌^◌, ◌<◌, ◌≤◌, Bool, true, false, not, ◌&&◌, ◌||◌, T, ◌==◌, nat_eq, nat_le, nat_lt, refl}
use Rattle.std.proofs.Math.Nat.{zero-div, div_self, div-eq_of_lt, div-div-eq-div-mul, pow-succ', sub-zero}
use Rattle.std.proofs.Common.{div-one, mul_assoc, pow-suc, lt_of_lt_of_le, mod-lt, one-mul, arith, sym, ◌∙◌, ap, subst, pow-add, pow_pos, pow_mono, shr-shr, eq-eqb, ne_eqb, lt-ltb, le-ltb, le-leb}
use Rattle.std.proofs.Math.Decide.{dec_lt}
use Rattle.std.proofs.Math.Arith.{lt_of_le-ne}
use Rattle.std.specs.Int.Bits.{bit_or, bit_and, bit_xor, and_lt}
use Rattle.std.proofs.lemmas.Nat.{or_shr, or_mod, and_shr, and_mod, xor_shr, xor_mod, or_shifted, and_le_r, shl-shr}
use Rattle.std.proofs.Math.Pow.{pow-lt, split, ones_sub-lt}
use Rattle.std.proofs.lemmas.Bool.{lt-leb}
use Rattle.psl.specs.Booleans.{bit}

-- ---- a digit at a time

pub bit_zero : (x : ℕ) → bit x 0 ≡ (x % 2 == 1)
bit_zero x = rw div-one

pub bit_suc : (x k : ℕ) → bit x (suc k) ≡ bit (x / 2) k
bit_suc x k = rw (pow-succ' 2 k, ← (div-div-eq-div-mul x 2 (2 ^ k)))

-- ---- nothing, and small numbers

pub bit_none : (k : ℕ) → bit 0 k ≡ false
bit_none k = rw zero-div

-- a number below 2 ^ n has no bit from n on
pub bit_high : (n x k : ℕ) → x < 2 ^ n → n ≤ k → bit x k ≡ false
bit_high n x k small above = rw (div-eq_of_lt (lt_of_lt_of_le small (pow_mono above)))

true_false : true ≡ false → ⊥
true_false e = let z : ◌≡◌ {A = ℕ} 0 1 = cc in omega arith

pub set_below : (n x k : ℕ) → x < 2 ^ n → bit x k ≡ true → k < n
set_below n x k small set = elim (dec_lt k n) [ yes l ↦ l | no l ↦ absurd (true_false (sym set ∙ bit_high n x k small (omega arith))) ]

-- ---- or, and, xor: digit by digit

abbrev pub differs : Bool → Bool → Bool
differs true b = not b
differs false b = b

digitwise : (f : ℕ → ℕ → ℕ) (g : Bool → Bool → Bool)
    → (f 0 0 == 1) ≡ g false false → (f 0 1 == 1) ≡ g false true → (f 1 0 == 1) ≡ g true false → (f 1 1 == 1) ≡ g true true
    → (x y : ℕ) → x < 2 → y < 2 → (f x y == 1) ≡ g (x == 1) (y == 1)
digitwise f g a b c d zero zero p q = a
digitwise f g a b c d zero (suc zero) p q = b
digitwise f g a b c d (suc zero) zero p q = c
digitwise f g a b c d (suc zero) (suc zero) p q = d
digitwise f g a b c d zero (suc (suc y)) p q = absurd (omega arith)
digitwise f g a b c d (suc zero) (suc (suc y)) p q = absurd (omega arith)
digitwise f g a b c d (suc (suc x)) y p q = absurd (omega arith)

-- an operation that shifts and cuts as its digits do
by_digits : (f : ℕ → ℕ → ℕ) (g : Bool → Bool → Bool)
    → ((x y k : ℕ) → f x y / 2 ^ k ≡ f (x / 2 ^ k) (y / 2 ^ k)) → ((x y k : ℕ) → f x y % 2 ^ k ≡ f (x % 2 ^ k) (y % 2 ^ k))
    → (f 0 0 == 1) ≡ g false false → (f 0 1 == 1) ≡ g false true → (f 1 0 == 1) ≡ g true false → (f 1 1 == 1) ≡ g true true
    → (x y k : ℕ) → bit (f x y) k ≡ g (bit x k) (bit y k)
by_digits f g shifts cuts a b c d x y k =
    ap (λ (n : ℕ). nat_eq (n % 2) 1) (shifts x y k) ∙ ap (λ (n : ℕ). nat_eq n 1) (cuts (x / 2 ^ k) (y / 2 ^ k) 1)
    ∙ digitwise f g a b c d (x / 2 ^ k % 2) (y / 2 ^ k % 2) (omega arith) (omega arith)

pub bit_or_lem : (x y k : ℕ) → bit (bit_or x y) k ≡ bit x k || bit y k
bit_or_lem = by_digits bit_or ◌||◌ or_shr or_mod refl refl refl refl

pub bit_and_lem : (x y k : ℕ) → bit (bit_and x y) k ≡ bit x k && bit y k
bit_and_lem = by_digits bit_and ◌&&◌ and_shr and_mod refl refl refl refl

pub bit_xor_lem : (x y k : ℕ) → bit (bit_xor x y) k ≡ differs (bit x k) (bit y k)
bit_xor_lem = by_digits bit_xor differs xor_shr xor_mod refl refl refl refl

-- ---- shifts

-- x >> n
pub bit_shr : (x n k : ℕ) → bit (x / 2 ^ n) k ≡ bit x (n + k)
bit_shr x n k = rw (shr-shr x n k)

pub bit_shl_high : (x n k : ℕ) → bit (x * 2 ^ n) (n + k) ≡ bit x k
bit_shl_high x n k = rw (← (shr-shr (x * 2 ^ n) n k), shl-shr x n)

pub bit_shl_low : (x n k : ℕ) → k < n → bit (x * 2 ^ n) k ≡ false
bit_shl_low x n k l =
    let e : n ≡ suc (n - suc k) + k = omega arith in
    rw (e, pow-add, ← (mul_assoc x (2 ^ suc (n - suc k)) (2 ^ k)), shl-shr (x * 2 ^ suc (n - suc k)) k, pow-suc, ← (mul_assoc x (2 ^ (n - suc k)) 2))
    (even (x * 2 ^ (n - suc k)))
  where
    even : (y : ℕ) → (y * 2 % 2 == 1) ≡ false
    even y = let e : y * 2 % 2 ≡ 0 = omega arith in rw e

pub bit_shl : (x n k : ℕ) → bit (x * 2 ^ n) k ≡ nat_le n k && bit x (k - n)
bit_shl x n k = elim (dec_lt k n) [
  | yes l ↦ rw (lt-leb n k l) (bit_shl_low x n k l)
  | no l ↦ (let e : k ≡ n + (k - n) = omega arith in
      let h : n ≤ k = omega arith in
      rw (le-leb n k h) (ap (bit (x * 2 ^ n)) e ∙ bit_shl_high x n (k - n)))
]

-- two numbers side by side
pub bit_beside : (a n r k : ℕ) → r < 2 ^ n → bit (a * 2 ^ n + r) k ≡ bit (a * 2 ^ n) k || bit r k
bit_beside a n r k small = rw (← (or_shifted a n r small)) (bit_or_lem (a * 2 ^ n) r k)

-- the n low digits
pub bit_mod : (x n k : ℕ) → bit (x % 2 ^ n) k ≡ nat_lt k n && bit x k
bit_mod x n k = elim (dec_lt k n) [
  | yes l ↦ rw (lt-ltb k n l) (low l)
  | no l ↦ (let h : n ≤ k = omega arith in rw (le-ltb k n h) (bit_high n (x % 2 ^ n) k (mod-lt x (pow_pos n)) h))
]
  where
    low : k < n → bit (x % 2 ^ n) k ≡ bit x k
    low l =
        sym (ap (λ (y : ℕ). bit y k) (sym (split x n)) ∙ bit_beside (x / 2 ^ n) n (x % 2 ^ n) k (mod-lt x (pow_pos n))
        ∙ ap (λ (b : Bool). b || bit (x % 2 ^ n) k) (bit_shl_low (x / 2 ^ n) n k l))

-- x << n in a word of w digits
pub bit_shifted : (w x n k : ℕ) → bit (x * 2 ^ n % 2 ^ w) k ≡ nat_lt k w && (nat_le n k && bit x (k - n))
bit_shifted w x n k = bit_mod (x * 2 ^ n) w k ∙ ap (λ (b : Bool). nat_lt k w && b) (bit_shl x n k)

-- ---- one bit, and all of them

pub bit_one : (i k : ℕ) → bit (2 ^ i) k ≡ (k == i)
bit_one i k = elim (dec_lt k i) [
  | yes l ↦ (let n : k ≡ i → ⊥ = λ e. omega arith in rw (ne_eqb k i n) (ap (λ (y : ℕ). bit y k) (sym (one-mul (2 ^ i))) ∙ bit_shl_low 1 i k l))
  | no l ↦ elim (dec_lt i k) [
    | yes g ↦ (let n : k ≡ i → ⊥ = λ e. omega arith in rw (ne_eqb k i n, div-eq_of_lt (pow-lt g)))
    | no g ↦ (let e : k ≡ i = omega arith in rw (e, eq-eqb i i refl, div_self (pow_pos i)))
  ]
]

-- a word with bit i set
pub bit_on : (x i k : ℕ) → bit (bit_or x (2 ^ i)) k ≡ bit x k || k == i
bit_on x i k = bit_or_lem x (2 ^ i) k ∙ ap (λ (b : Bool). bit x k || b) (bit_one i k)

-- the digits of a number below 2 ^ n turned over, as `!x` does
flips : (d e : ℕ) → d + e ≡ 1 → (d == 1) ≡ not (e == 1)
flips zero zero p = absurd (omega arith)
flips zero (suc zero) p = refl
flips (suc zero) zero p = refl
flips zero (suc (suc e)) p = absurd (omega arith)
flips (suc d) (suc e) p = absurd (omega arith)
flips (suc (suc d)) zero p = absurd (omega arith)

turned : (n x k : ℕ) → k < n → x < 2 ^ n → bit ((2 ^ n - 1) - x) k ≡ not (bit x k)
turned zero x k l small = absurd (omega arith)
turned (suc n) x zero l small =
    bit_zero ((2 ^ suc n - 1) - x) ∙ flips (((2 ^ suc n - 1) - x) % 2) (x % 2) (odd_even (2 ^ n) (2 ^ suc n) (pow-suc 2 n) small) ∙ sym (ap not (bit_zero x))
  where
    odd_even : (p q : ℕ) → q ≡ p * 2 → x < q → ((q - 1) - x) % 2 + x % 2 ≡ 1
    odd_even p q e h = omega arith
turned (suc n) x (suc k) l small =
    bit_suc ((2 ^ suc n - 1) - x) k ∙ ap (λ (y : ℕ). bit y k) (halves (2 ^ n) (2 ^ suc n) (pow-suc 2 n) small)
    ∙ turned n (x / 2) k (omega arith) (half (2 ^ n) (2 ^ suc n) (pow-suc 2 n) small) ∙ sym (ap not (bit_suc x k))
  where
    halves : (p q : ℕ) → q ≡ p * 2 → x < q → ((q - 1) - x) / 2 ≡ (p - 1) - x / 2
    halves p q e h = omega arith

    half : (p q : ℕ) → q ≡ p * 2 → x < q → x / 2 < p
    half p q e h = omega arith

pub bit_not : (n x k : ℕ) → x < 2 ^ n → bit ((2 ^ n - 1) - x) k ≡ nat_lt k n && not (bit x k)
bit_not n x k small = elim (dec_lt k n) [
  | yes l ↦ rw (lt-ltb k n l) (turned n x k l small)
  | no l ↦ (let h : n ≤ k = omega arith in rw (le-ltb k n h) (bit_high n ((2 ^ n - 1) - x) k (ones_sub-lt n x) h))
]

pub bit_ones : (n k : ℕ) → bit (2 ^ n - 1) k ≡ nat_lt k n
bit_ones n k = rw (← (sub-zero (2 ^ n - 1))) (bit_not n 0 k (pow_pos n) ∙ ap (λ (b : Bool). nat_lt k n && not b) (bit_none k) ∙ and-true (nat_lt k n))
  where
    and-true : (b : Bool) → b && true ≡ b
    and-true true = refl
    and-true false = refl

-- ---- numbers by their bits

-- two numbers of n digits with the same bits are equal
pub same_bits : (n x y : ℕ) → x < 2 ^ n → y < 2 ^ n → ((k : ℕ) → k < n → bit x k ≡ bit y k) → x ≡ y
same_bits zero x y p q same = omega arith
same_bits (suc n) x y p q same =
    joined (same_bits n (x / 2) (y / 2) (half x p) (half y q) (λ k l. sym (bit_suc x k) ∙ same (suc k) (omega arith) ∙ bit_suc y k))
    (same_digit (x % 2) (y % 2) (omega arith) (omega arith) (sym (bit_zero x) ∙ same 0 (omega arith) ∙ bit_zero y))
  where
    half : (z : ℕ) → z < 2 ^ suc n → z / 2 < 2 ^ n
    half z l = let e = pow-suc 2 n in omega arith

    same_digit : (a b : ℕ) → a < 2 → b < 2 → (a == 1) ≡ (b == 1) → a ≡ b
    same_digit zero zero l m e = refl
    same_digit (suc zero) (suc zero) l m e = refl
    same_digit zero (suc zero) l m e = absurd (subst T (sym e) tt)
    same_digit (suc zero) zero l m e = absurd (subst T e tt)
    same_digit zero (suc (suc b)) l m e = absurd (omega arith)
    same_digit (suc zero) (suc (suc b)) l m e = absurd (omega arith)
    same_digit (suc (suc a)) b l m e = absurd (omega arith)

    joined : x / 2 ≡ y / 2 → x % 2 ≡ y % 2 → x ≡ y
    joined a b = omega arith

-- a number that is not 0 has a bit, and 0 has none
pub no_bits : (n x : ℕ) → x < 2 ^ n → ((k : ℕ) → k < n → bit x k ≡ false) → x ≡ 0
no_bits n x small none = same_bits n x 0 small (pow_pos n) (λ k l. none k l ∙ sym (bit_none k))

-- fewer bits make a smaller number: the measure of a walk through a set
pub fewer_bits : (n x y i : ℕ) → x < 2 ^ n → y < 2 ^ n → ((k : ℕ) → bit x k ≡ true → bit y k ≡ true) → bit x i ≡ false → bit y i ≡ true → x < y
fewer_bits n x y i p q within out set = lt_of_le-ne (subst (λ (z : ℕ). z ≤ y) kept (and_le_r x y)) (λ e. true_false (sym set ∙ ap (λ (z : ℕ). bit z i) (sym e) ∙ out))
  where
    and_within : (a b : Bool) → (a ≡ true → b ≡ true) → a && b ≡ a
    and_within true b h = h refl
    and_within false b h = refl

    kept : bit_and x y ≡ x
    kept = same_bits n (bit_and x y) x (and_lt n x y p q) p (λ k l. bit_and_lem x y k ∙ and_within (bit x k) (bit y k) (within k))
