-- The bits of the acts of weak sequences: each operation of the code is that of the parts.
use Prim.Native.Nat.{ℕ, suc, ◌-◌, ◌*◌, ◌%◌, ◌^◌, ◌≤◌, ◌<◌}
use native.Mathlib.Omega.{arith}
use native.Mathlib.Decide.{dec_lt}
use mathlib.Core.Path.{◌≡◌, refl, sym, ◌∙◌, ap, ap₂, subst}
use mathlib.Core.Bool.{Bool, true, false, not, ◌&&◌, ◌||◌}
use Rattle.std.proofs.Math.Bool.{and-true, and-false, or-false, and_comm, or_comm}
use lib.Bits.{bit_or, bit_and, and_le_r}
use lib.Dec.{T, eqb, ltb, leb}
use lib.Pow.{pow-lt}
use borrow.Author.Tests.{eq-eqb, ne_eqb, lt-ltb, le-ltb, lt-leb, le-leb, eqb-true}
use Rattle.psl.specs.Booleans.{bit}
use Rattle.words.specs.Bits.{bit_none, bit_or_lem, bit_and_lem, bit_mod, bit_shifted, bit_shl_low, bit_one, bit_ones, no_bits}
use Rattle.lanes.specs.ShiftedLanes.{shifted}
use Rattle.lanes.specs.UpPass.{Part, placed, placed_low}
use Rattle.engine.specs.WeakParts.{only_if, Shifted, ActIs, ThenAct, FuseAct, AltAct}

at_most : (n k : ℕ) → leb n k ≡ not (ltb k n)
at_most n k = elim (dec_lt k n) [ yes l ↦ rw (lt-leb n k l, lt-ltb k n l) | no l ↦ (let h : n ≤ k = omega arith in rw (le-leb n k h, le-ltb k n h)) ]

pub shifted_is : (act k : ℕ) → Shifted act k (act % 64 * 2 ^ (k % 8) % 65536 % 64)
shifted_is act k = record {
  each = λ l h. whole l ∙ low l h;
  high = λ l h. whole l ∙ (let g : ltb l 6 ≡ false = le-ltb l 6 h in rw g);
}
  where
    n : ℕ
    n = k % 8

    whole : (l : ℕ) → bit (act % 64 * 2 ^ n % 65536 % 64) l ≡ ltb l 6 && (ltb l 16 && (leb n l && (ltb (l - n) 6 && bit act (l - n))))
    whole l = bit_mod (act % 64 * 2 ^ n % 65536) 6 l ∙ ap (λ (b : Bool). ltb l 6 && b) (bit_shifted 16 (act % 64) n l)
        ∙ ap (λ (b : Bool). ltb l 6 && (ltb l 16 && (leb n l && b))) (bit_mod act 6 (l - n))

    low : (l : ℕ) → l < 6 → ltb l 6 && (ltb l 16 && (leb n l && (ltb (l - n) 6 && bit act (l - n)))) ≡ not (ltb l n) && bit act (l - n)
    low l h = rw (lt-ltb l 6 h, lt-ltb l 16 (omega arith), lt-ltb (l - n) 6 (omega arith), at_most n l)

pub only_bit : (on : Bool) (x l : ℕ) → bit (only_if on x) l ≡ on && bit x l
only_bit true x l = refl
only_bit false x l = bit_none l

-- x & 2 ^ i != 0
pub tested : (x i : ℕ) → not (eqb (bit_and x (2 ^ i)) 0) ≡ bit x i
tested x i = go (bit x i) refl
  where
    both : (b c : Bool) → (c ≡ true → b ≡ false) → b && c ≡ false
    both true true h = h refl
    both true false h = refl
    both false c h = refl

    go : (b : Bool) → bit x i ≡ b → not (eqb (bit_and x (2 ^ i)) 0) ≡ b
    go true e = ap not (ne_eqb (bit_and x (2 ^ i)) 0 (λ z. subst T (sym (ap₂ ◌&&◌ e (bit_one i i ∙ eq-eqb i i refl)) ∙ sym (bit_and_lem x (2 ^ i) i) ∙ ap (λ (y : ℕ). bit y i) z ∙ bit_none i) tt))
    go false e = ap not (eq-eqb (bit_and x (2 ^ i)) 0 (no_bits (suc i) (bit_and x (2 ^ i)) (let h = and_le_r x (2 ^ i) in let g : 2 ^ i < 2 ^ suc i = pow-lt (omega arith) in omega arith)
        (λ k l. bit_and_lem x (2 ^ i) k ∙ both (bit x k) (bit (2 ^ i) k) (λ h. ap (bit x) (eqb-true k i (sym (bit_one i k) ∙ h)) ∙ e))))

pub low_6 : (l : ℕ) → l < 6 → bit 64 l ≡ false
low_6 l h = bit_one 6 l ∙ ne_eqb l 6 (λ z. omega arith)

pub low_7 : (l : ℕ) → l < 6 → bit 128 l ≡ false
low_7 l h = bit_one 7 l ∙ ne_eqb l 7 (λ z. omega arith)

pub low_127 : (l : ℕ) → l < 6 → bit 127 l ≡ true
low_127 l h = bit_ones 7 l ∙ lt-ltb l 7 (omega arith)

low_192 : (l : ℕ) → l < 6 → bit 192 l ≡ false
low_192 l h = bit_shl_low 3 6 l h

-- lanes of the right part
pub shift_lanes : (q : Part) (b k l : ℕ) → ActIs q b → l < 6 → shifted k (bit b) l ≡ placed k q.ends l
shift_lanes q b k l Q h = ap (λ (c : Bool). not (ltb l k) && c) (Q.lanes_are (l - k) (omega arith)) ∙ sym (placed_low k q.ends l h)

module _ (p q : Part) (a b k s : ℕ) (P : ActIs p a) (Q : ActIs q b) (e : k % 8 ≡ p.count) (S : Shifted b k s) where
  right_lanes : (l : ℕ) → l < 6 → bit s l ≡ placed p.count q.ends l
  right_lanes l h = S.each l h ∙ shift_lanes q b (k % 8) l Q h ∙ ap (λ (n : ℕ). placed n q.ends l) e

-- the bits of `s | only_if(a & 128 != 0, b & 64) | only_if(b & 128 != 0, a & 127) | (a & b & 128)`
abbrev then_mix : (s a b a7 b7 m64 m127 m128 : Bool) → Bool
then_mix s a b a7 b7 m64 m127 m128 = ((s || (a7 && (b && m64))) || (b7 && (a && m127))) || ((a && b) && m128)

then_low : (s a b a7 b7 : Bool) → then_mix s a b a7 b7 false true false ≡ s || (b7 && a)
then_low s a b a7 b7 = simp (and-true, and-false, or-false)

then_early : (a b a7 b7 : Bool) → then_mix false a b a7 b7 true true false ≡ (a && b7) || (a7 && b)
then_early a b a7 b7 = simp (and-true, and-false, or-false) (or_comm (a7 && b) (b7 && a) ∙ ap (λ (c : Bool). c || (a7 && b)) (and_comm b7 a))

then_empty : (a b : Bool) → then_mix false a b a b false false true ≡ a && b
then_empty a b = simp (and-true, and-false)

module _ (a b k s x y : ℕ) (S : Shifted b k s) (X : x ≡ only_if (not (eqb (bit_and a 128) 0)) (bit_and b 64)) (Y : y ≡ only_if (not (eqb (bit_and b 128) 0)) (bit_and a 127)) where
  then_bits : (l : ℕ) → bit (bit_or (bit_or (bit_or s x) y) (bit_and (bit_and a b) 128)) l ≡ then_mix (bit s l) (bit a l) (bit b l) (bit a 7) (bit b 7) (bit 64 l) (bit 127 l) (bit 128 l)
  then_bits l =
      bit_or_lem (bit_or (bit_or s x) y) (bit_and (bit_and a b) 128) l
      ∙ ap₂ ◌||◌ (bit_or_lem (bit_or s x) y l ∙ ap₂ ◌||◌ (bit_or_lem s x l ∙ ap (λ (z : Bool). bit s l || z) (only_part x a 7 (bit_and b 64) X l (bit b l && bit 64 l) (bit_and_lem b 64 l))) (only_part y b 7 (bit_and a 127) Y l (bit a l && bit 127 l) (bit_and_lem a 127 l)))
      (bit_and_lem (bit_and a b) 128 l ∙ ap (λ (z : Bool). z && bit 128 l) (bit_and_lem a b l))
    where
      only_part : (x a i m : ℕ) → x ≡ only_if (not (eqb (bit_and a (2 ^ i)) 0)) m → (l : ℕ) (z : Bool) → bit m l ≡ z → bit x l ≡ bit a i && z
      only_part x a i m e l z h = ap (λ (w : ℕ). bit w l) e ∙ only_bit (not (eqb (bit_and a (2 ^ i)) 0)) m l ∙ ap₂ ◌&&◌ (tested a i) h

  pub then_is : ThenAct a b k (bit_or (bit_or (bit_or s x) y) (bit_and (bit_and a b) 128))
  then_is p q P Q e = record {
    lanes_are = λ l h. then_bits l
        ∙ (λ i. then_mix (right_lanes p q a b k s P Q e S l h i) (P.lanes_are l h i) (bit b l) (bit a 7) (Q.empty_is i) (low_6 l h i) (low_127 l h i) (low_7 l h i))
        ∙ then_low (placed p.count q.ends l) (p.ends l) (bit b l) (bit a 7) q.empty;
    early_is = then_bits 6
        ∙ (λ i. then_mix (S.high 6 (omega arith) i) (P.early_is i) (Q.early_is i) (P.empty_is i) (Q.empty_is i) true true false)
        ∙ then_early p.early q.early p.empty q.empty;
    empty_is = then_bits 7
        ∙ (λ i. then_mix (S.high 7 (omega arith) i) (P.empty_is i) (Q.empty_is i) (P.empty_is i) (Q.empty_is i) false false true)
        ∙ then_empty p.empty q.empty;
  }

-- neither can be empty
pub then_short : (a b k s : ℕ) → Shifted b k s → bit_and (bit_or a b) 128 ≡ 0 → ThenAct a b k s
then_short a b k s S z p q P Q e = record {
  lanes_are = λ l h. right_lanes p q a b k s P Q e S l h ∙ sym (ap (λ (c : Bool). placed p.count q.ends l || (c && p.ends l)) (sym Q.empty_is ∙ none.1) ∙ or-false (placed p.count q.ends l));
  early_is = S.high 6 (omega arith) ∙ sym (ap₂ (λ (c d : Bool). (p.early && d) || (c && q.early)) (sym P.empty_is ∙ none.0) (sym Q.empty_is ∙ none.1) ∙ simp (and-false, or-false));
  empty_is = S.high 7 (omega arith) ∙ sym (ap (λ (c : Bool). c && q.empty) (sym P.empty_is ∙ none.0));
}
  where
    neither : (c d : Bool) → (c || d) && true ≡ false → (c ≡ false) × (d ≡ false)
    neither true d h = absurd (subst T h tt)
    neither false true h = absurd (subst T h tt)
    neither false false h = (refl, refl)

    none : (bit a 7 ≡ false) × (bit b 7 ≡ false)
    none = neither (bit a 7) (bit b 7) (sym (bit_and_lem (bit_or a b) 128 7 ∙ ap (λ (c : Bool). c && true) (bit_or_lem a b 7)) ∙ ap (λ (y : ℕ). bit y 7) z)

pub fuse_is : (a b k s x : ℕ) → Shifted b k s → x ≡ only_if (not (eqb (bit_and b 64) 0)) (bit_and a 127) → FuseAct a b k (bit_or s x)
fuse_is a b k s x S X p q P Q e = record {
  lanes_are = λ l h. bits l ∙ (λ i. right_lanes p q a b k s P Q e S l h i || (Q.early_is i && (P.lanes_are l h i && low_127 l h i))) ∙ simp and-true;
  early_is = bits 6 ∙ (λ i. S.high 6 (omega arith) i || (Q.early_is i && (P.early_is i && true))) ∙ simp and-true (and_comm q.early p.early);
  empty_is = bits 7 ∙ (λ i. S.high 7 (omega arith) i || (Q.early_is i && (bit a 7 && false))) ∙ simp and-false;
}
  where
    bits : (l : ℕ) → bit (bit_or s x) l ≡ bit s l || (bit b 6 && (bit a l && bit 127 l))
    bits l = bit_or_lem s x l ∙ ap (λ (c : Bool). bit s l || c) (ap (λ (w : ℕ). bit w l) X ∙ only_bit (not (eqb (bit_and b 64) 0)) (bit_and a 127) l ∙ ap₂ ◌&&◌ (tested b 6) (bit_and_lem a 127 l))

pub alt_is : (a b k s : ℕ) → Shifted b k s → AltAct a b k (bit_or (bit_or s (bit_and b 192)) a)
alt_is a b k s S p q P Q e = record {
  lanes_are = λ l h. bits l ∙ (λ i. (right_lanes p q a b k s P Q e S l h i || (bit b l && low_192 l h i)) || P.lanes_are l h i) ∙ simp (and-false, or-false);
  early_is = bits 6 ∙ (λ i. (S.high 6 (omega arith) i || (Q.early_is i && true)) || P.early_is i) ∙ simp and-true (or_comm q.early p.early);
  empty_is = bits 7 ∙ (λ i. (S.high 7 (omega arith) i || (Q.empty_is i && true)) || P.empty_is i) ∙ simp and-true (or_comm q.empty p.empty);
}
  where
    bits : (l : ℕ) → bit (bit_or (bit_or s (bit_and b 192)) a) l ≡ (bit s l || (bit b l && bit 192 l)) || bit a l
    bits l = bit_or_lem (bit_or s (bit_and b 192)) a l ∙ ap (λ (c : Bool). c || bit a l) (bit_or_lem s (bit_and b 192) l ∙ ap (λ (c : Bool). bit s l || c) (bit_and_lem b 192 l))
