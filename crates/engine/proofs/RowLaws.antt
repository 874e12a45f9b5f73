-- Where the fields of a row stand, and which rows the bytes hold.
use Prim.Native.Nat.{ℕ, ◌-◌, ◌*◌, ◌/◌, ◌%◌, ◌^◌, ◌≤◌, ◌<◌}
use native.Mathlib.Nat.{one-mul}
use native.Mathlib.Omega.{arith}
use mathlib.Core.Path.{◌≡◌, refl, sym, ◌∙◌, ap, ap₂, subst}
use mathlib.Core.Bool.{Bool, true, false, not, ◌&&◌}
use mathlib.Core.List.{List}
use lib.Bits.{bit_and, and_lt}
use lib.Dec.{eqb, ltb}
use lib.ListN.{length}
use lib.Pow.{shl_exact, pow_pos, ones_sub-lt}
use borrow.Author.Tests.{lt-ltb, ltb-true}
use Rattle.psl.specs.Booleans.{bit}
use Rattle.psl.specs.Tells.{Tells, tells_iff, tells_eq}
use Rattle.words.specs.Bits.{bit_none, bit_and_lem, bit_not, bit_ones, set_below, no_bits}
use Rattle.engine.specs.Reads.{Held, Within, HeldRows}
use Rattle.engine.proofs.SideRowLaws.{clash}

-- ---- the rows that the bytes hold

shifted_is : (count : ℕ) → count < 64 → 1 * 2 ^ count % 2 ^ 64 ≡ 2 ^ count
shifted_is count l = shl_exact {a = 1} 1 count 64 (omega arith) (omega arith) ∙ one-mul (2 ^ count)

pub shift_some : (count : ℕ) → count < 64 → 1 ≤ 1 * 2 ^ count % 2 ^ 64
shift_some count l = rw (shifted_is count l) (pow_pos count)

module _ (t : List ℕ) where
  pub held_none : length t < 16 → HeldRows t 0
  held_none l = record { in_bytes = λ n e. absurd (clash e (bit_none n)); all = λ n h k. absurd (omega arith) }

  held_ones : (count : ℕ) → ((n : ℕ) → n < count → Held t n) → ((n : ℕ) → n < 64 → Held t n → n < count) → HeldRows t (2 ^ count - 1)
  held_ones count forth back = record {
    in_bytes = λ n e. forth n (ltb-true n count (sym (bit_ones count n) ∙ e));
    all = λ n l h. bit_ones count n ∙ lt-ltb n count (back n l h);
  }

  pub held_some : 16 ≤ length t → length t < 272 → HeldRows t (1 * 2 ^ ((length t - 16) / 4) % 2 ^ 64 - 1)
  held_some l m = subst (λ (w : ℕ). HeldRows t (w - 1)) (sym (shifted_is count (omega arith))) (held_ones count (λ n h. fits n h) (λ n s h. under n h))
    where
      count : ℕ
      count = (length t - 16) / 4

      fits : (n : ℕ) → n < (length t - 16) / 4 → Held t n
      fits n h = omega arith

      under : (n : ℕ) → Held t n → n < (length t - 16) / 4
      under n h = omega arith

  pub held_all : 272 ≤ length t → HeldRows t (2 ^ 64 - 1)
  held_all l = held_ones 64 (λ n h. omega arith) (λ n s h. s)

  -- The bytes hold each row of a set where no row of it is left without those that they hold.
  pub covers_is : (rows held : ℕ) → rows < 2 ^ 64 → held < 2 ^ 64 → HeldRows t held → Tells (Within t rows) (eqb (bit_and rows ((2 ^ 64 - 1) - held)) 0)
  covers_is rows held fits small h = tells_iff forth back (tells_eq (bit_and rows ((2 ^ 64 - 1) - held)) 0)
    where
      out : (k : ℕ) → bit (bit_and rows ((2 ^ 64 - 1) - held)) k ≡ bit rows k && (ltb k 64 && not (bit held k))
      out k = bit_and_lem rows ((2 ^ 64 - 1) - held) k ∙ ap (λ (b : Bool). bit rows k && b) (bit_not 64 held k small)

      is_in : (a b c : Bool) → a && (b && not c) ≡ false → a ≡ true → b ≡ true → c ≡ true
      is_in a b true e p q = refl
      is_in a b false e p q = absurd (clash (ap₂ (λ (x y : Bool). x && (y && true)) p q) e)

      forth : bit_and rows ((2 ^ 64 - 1) - held) ≡ 0 → Within t rows
      forth e n set = h.in_bytes n (is_in (bit rows n) (ltb n 64) (bit held n) (sym (out n) ∙ ap (λ (w : ℕ). bit w n) e ∙ bit_none n) set (lt-ltb n 64 (set_below 64 rows n fits set)))

      back : Within t rows → bit_and rows ((2 ^ 64 - 1) - held) ≡ 0
      back w = no_bits 64 (bit_and rows ((2 ^ 64 - 1) - held)) (and_lt 64 rows ((2 ^ 64 - 1) - held) fits (ones_sub-lt 64 held)) (λ k l. out k ∙ gone k l (bit rows k) refl)
        where
          gone : (k : ℕ) → k < 64 → (b : Bool) → bit rows k ≡ b → b && (ltb k 64 && not (bit held k)) ≡ false
          gone k l true e = rw (lt-ltb k 64 l, h.all k l (w k e)) refl
          gone k l false e = refl
