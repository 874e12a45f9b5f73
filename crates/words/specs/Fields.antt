-- Numbers of n digits side by side in a word, such as bytes: digit l of field q is bit n * q + l.
use Rattle.std.specs.Prelude.{◌≡◌, ℕ, ◌+◌, ◌-◌, ◌*◌, ◌/◌, ◌%◌, ◌^◌, ◌<◌, ◌≤◌, Bool, false, ◌&&◌, ◌==◌, nat_lt, refl}
use Rattle.std.proofs.Common.{mul-le-mul_left, mul-add, mul-one, add_assoc, arith, ◌∙◌, ap, eq-eqb, ne_eqb}
use Rattle.std.proofs.Math.Decide.{dec_lt}
use Rattle.psl.specs.Booleans.{bit}
use Rattle.words.specs.Bits.{bit_high, bit_shl_high, bit_shl_low, bit_mod, bit_shr}

-- g as field b of a word of nothing else
pub bit_field : (n g b q l : ℕ) → g < 2 ^ n → l < n → bit (g * 2 ^ (n * b)) (n * q + l) ≡ (q == b) && bit g l
bit_field n g b q l small low = elim (dec_lt q b) [
  | yes j ↦ (let e : q ≡ b → ⊥ = λ z. omega arith in rw (ne_eqb q b e) (bit_shl_low g (n * b) (n * q + l) (before j)))
  | no j ↦ elim (dec_lt b q) [
    | yes i ↦ (let e : q ≡ b → ⊥ = λ z. omega arith in rw (ne_eqb q b e) (after i))
    | no i ↦ (let e : q ≡ b = omega arith in rw (e, eq-eqb b b refl) (bit_shl_high g (n * b) l))
  ]
]
  where
    before : q < b → n * q + l < n * b
    before j = let m : n * (q + 1) ≤ n * b = mul-le-mul_left n (omega arith) in omega (arith, mul-add n q 1, mul-one n)

    after : b < q → bit (g * 2 ^ (n * b)) (n * q + l) ≡ false
    after i =
        let e : q ≡ b + (q - b) = omega arith in
        let m : n * 1 ≤ n * (q - b) = mul-le-mul_left n (omega arith) in
        let far : n ≤ n * (q - b) + l = omega (arith, mul-one n) in
        ap (bit (g * 2 ^ (n * b))) (ap (λ (x : ℕ). n * x + l) e ∙ ap (λ (x : ℕ). x + l) (mul-add n b (q - b)) ∙ add_assoc (n * b) (n * (q - b)) l)
        ∙ bit_shl_high g (n * b) (n * (q - b) + l) ∙ bit_high n g (n * (q - b) + l) small far

-- field b of a word
pub bit_of_field : (n x b l : ℕ) → bit (x / 2 ^ (n * b) % 2 ^ n) l ≡ nat_lt l n && bit x (n * b + l)
bit_of_field n x b l = bit_mod (x / 2 ^ (n * b)) n l ∙ ap (λ (c : Bool). nat_lt l n && c) (bit_shr x (n * b) l)

-- a byte
pub bit_byte : (g b q l : ℕ) → g < 256 → l < 8 → bit (g * 2 ^ (8 * b)) (8 * q + l) ≡ (q == b) && bit g l
bit_byte = bit_field 8

pub bit_of_byte : (x b l : ℕ) → bit (x / 2 ^ (8 * b) % 256) l ≡ nat_lt l 8 && bit x (8 * b + l)
bit_of_byte = bit_of_field 8
