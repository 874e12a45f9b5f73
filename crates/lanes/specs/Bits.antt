-- Tests that tell the same; the bits of a number joined with another, and of one with a bit more.
-- Nothing here has to be believed.
use Rattle.std.specs.Prelude.{ℕ, zero, suc, ◌+◌, ◌-◌, ◌/◌, ◌%◌, ◌^◌, ◌<◌, ◌≡◌, refl, Bool, true, false, ◌||◌, eqb}
use Rattle.std.proofs.Math.Nat.{div-eq_of_lt, div_self}
use Rattle.std.proofs.Common.{arith, pow_pos, pow-add}
use Rattle.std.proofs.Math.Decide.{dec_lt}
use Rattle.std.specs.Int.Bits.{bit_or}
use Rattle.std.proofs.lemmas.Nat.{or_shr, or_mod, shl-shr}
use Rattle.std.proofs.Math.Pow.{pow-lt}
use Rattle.psl.specs.Booleans.{bit}
use Rattle.psl.specs.Tells.{Tells, does, doesnt, tells_eq}

-- Two tests of statements that follow from one another are equal.
pub tells_same : {P Q : Type 0} {a b : Bool} → Tells P a → Tells Q b → (P → Q) → (Q → P) → a ≡ b
tells_same (does p) (does q) f g = refl
tells_same (does p) (doesnt q) f g = absurd (q (f p))
tells_same (doesnt p) (does q) f g = absurd (p (g q))
tells_same (doesnt p) (doesnt q) f g = refl

or_digit : (x y : ℕ) → x < 2 → y < 2 → eqb (bit_or x y) 1 ≡ eqb x 1 || eqb y 1
or_digit zero zero p q = refl
or_digit zero (suc zero) p q = refl
or_digit (suc zero) zero p q = refl
or_digit (suc zero) (suc zero) p q = refl
or_digit zero (suc (suc y)) p q = absurd (omega arith)
or_digit (suc zero) (suc (suc y)) p q = absurd (omega arith)
or_digit (suc (suc x)) y p q = absurd (omega arith)

pub or_bit : (m n k : ℕ) → bit (bit_or m n) k ≡ bit m k || bit n k
or_bit m n k =
    let e : bit_or (m / 2 ^ k) (n / 2 ^ k) % 2 ≡ bit_or (m / 2 ^ k % 2) (n / 2 ^ k % 2) = or_mod (m / 2 ^ k) (n / 2 ^ k) 1 in
    rw (or_shr m n k, e) (or_digit (m / 2 ^ k % 2) (n / 2 ^ k % 2) (omega arith) (omega arith))

-- 2 ^ (k + suc d) over 2 ^ k is even.
even : (k d : ℕ) → 2 ^ (suc d + k) / 2 ^ k % 2 ≡ 0
even k d = rw (pow-add, shl-shr (2 ^ suc d) k) (omega arith)

pub one_bit : (a k : ℕ) → bit (2 ^ a) k ≡ eqb k a
one_bit a k = go (eqb k a) (tells_eq k a)
  where
    low : k < a → eqb (2 ^ a / 2 ^ k % 2) 1 ≡ false
    low l = let e : a ≡ suc (a - suc k) + k = omega arith in rw (e, even k (a - suc k))

    high : a < k → eqb (2 ^ a / 2 ^ k % 2) 1 ≡ false
    high l = rw (div-eq_of_lt (pow-lt l))

    same : eqb (2 ^ a / 2 ^ a % 2) 1 ≡ true
    same = rw (div_self (pow_pos a))

    go : (t : Bool) → Tells (k ≡ a) t → bit (2 ^ a) k ≡ t
    go true (does e) = rw e same
    go false (doesnt e) = elim (dec_lt k a) [ yes l ↦ low l | no l ↦ high (omega arith) ]

-- A word with bit a set.
pub bit_on : (m a k : ℕ) → bit (bit_or m (2 ^ a)) k ≡ bit m k || eqb k a
bit_on m a k = rw (or_bit m (2 ^ a) k, one_bit a k)
