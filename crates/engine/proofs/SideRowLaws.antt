-- Rows of left sides: their operands, and which of these are cells. Words that a walk through the rows fills.
use Prim.Native.Nat.{ℕ, ◌%◌, ◌<◌}
use native.Mathlib.Omega.{arith}
use native.Mathlib.Decide.{dec_lt}
use mathlib.Core.Path.{◌≡◌, refl, sym, ◌∙◌, ap, subst}
use mathlib.Core.Bool.{Bool, true, false, not, ◌&&◌, ◌||◌, and-true}
use mathlib.Core.List.{List}
use mathlib.Core.Logic.{◌⊎◌, inl, inr, ⊎_elim}
use lib.Dec.{T, eqb}
use borrow.Author.Tests.{eq-eqb, ne_eqb}
use Rattle.psl.specs.Booleans.{Letter, bit}
use Rattle.psl.specs.Tells.{tells_or, tells_and, tells_value, tells_eq, tells_true}
use Rattle.lanes.specs.Rows.{Row, r_bool, r_then, r_fuse, r_alt, r_star, r_plus, r_weak, r_left, r_rest, Has, IsSequence, CellAt}
use Rattle.lanes.specs.UpPass.{Part, operand_by}
use Rattle.words.specs.Sets.{WithBit}
use Rattle.words.specs.Walk.{Turn}
use Rattle.engine.specs.Reads.{kind_of, a_of}
use Rattle.engine.specs.Sides.{SideOperand, SideRow, reads_then, reads_fuse, reads_alt, reads_star, reads_plus, reads_left}

-- ---- operands

pub clash : {b : Bool} → b ≡ true → b ≡ false → ⊥
clash p q = subst T (sym p ∙ q) tt

-- a field holds one operand
pub has_one : (R : Row) (f : Bool) (v w : ℕ) → Has R f v → Has R f w → v ≡ w
has_one (r_bool x) f v w p q = absurd p
has_one (r_then a b) false v w p q = p ∙ sym q
has_one (r_then a b) true v w p q = p ∙ sym q
has_one (r_fuse a b) false v w p q = p ∙ sym q
has_one (r_fuse a b) true v w p q = p ∙ sym q
has_one (r_alt a b) false v w p q = p ∙ sym q
has_one (r_alt a b) true v w p q = p ∙ sym q
has_one (r_star a) false v w p q = p ∙ sym q
has_one (r_star a) true v w p q = absurd p
has_one (r_plus a) false v w p q = p ∙ sym q
has_one (r_plus a) true v w p q = absurd p
has_one (r_weak a) false v w p q = p ∙ sym q
has_one (r_weak a) true v w p q = absurd p
has_one (r_left a) false v w p q = p ∙ sym q
has_one (r_left a) true v w p q = absurd p
has_one r_rest f v w p q = absurd p

-- a field with a sequence in it holds no cell
pub cell_apart : (row : ℕ → Row) (n : ℕ) (f : Bool) (v : ℕ) → Has (row n) f v → IsSequence (row v) → CellAt row n f → ⊥
cell_apart row n f v i s z = subst IsSequence (ap row (has_one (row n) f v z.at i z.has) ∙ z.is) s

-- what is found of an operand that is a sequence is its row's part
pub operand_sequence : (row : ℕ → Row) (live : ℕ → Bool → Bool) (c : Letter) (part : ℕ → Part) (R : Row) (n : ℕ) (f : Bool) (v : ℕ) → IsSequence R
    → operand_by row live c part R n f v ≡ part v
operand_sequence row live c part (r_bool x) n f v s = absurd s
operand_sequence row live c part (r_then a b) n f v s = refl
operand_sequence row live c part (r_fuse a b) n f v s = refl
operand_sequence row live c part (r_alt a b) n f v s = refl
operand_sequence row live c part (r_star a) n f v s = refl
operand_sequence row live c part (r_plus a) n f v s = refl
operand_sequence row live c part (r_weak a) n f v s = refl
operand_sequence row live c part (r_left a) n f v s = refl
operand_sequence row live c part r_rest n f v s = refl

module _ {t : List ℕ} {row : ℕ → Row} {booleans sides truth x n : ℕ} where
  pub sequence_row_lem : SideRow t row booleans sides truth x n → kind_of t n < 32 → IsSequence (row n)
  sequence_row_lem (reads_then k e a b) l = rw e tt
  sequence_row_lem (reads_fuse k e a b) l = rw e tt
  sequence_row_lem (reads_alt k e a b) l = rw e tt
  sequence_row_lem (reads_star k e a) l = rw e tt
  sequence_row_lem (reads_plus k e a) l = rw e tt
  sequence_row_lem (reads_left k m e a) l = absurd (omega arith)

  pub first_operand : SideRow t row booleans sides truth x n → Has (row n) false (a_of t n) × SideOperand t row booleans sides truth x n (a_of t n)
  first_operand (reads_then k e a b) = (rw e refl, a)
  first_operand (reads_fuse k e a b) = (rw e refl, a)
  first_operand (reads_alt k e a b) = (rw e refl, a)
  first_operand (reads_star k e a) = (rw e refl, a)
  first_operand (reads_plus k e a) = (rw e refl, a)
  first_operand (reads_left k m e a) = (rw e refl, a)

-- ---- words that a walk fills

pub some : {n : ℕ} → (n ≡ 0 → ⊥) → 0 < n
some {n} z = elim (dec_lt 0 n) [ yes l ↦ l | no l ↦ absurd (z (omega arith)) ]

pub rest_none : {word n rest : ℕ} → Turn word n rest → (k : ℕ) → bit word k ≡ false → bit rest k ≡ false
rest_none {n = n} t k e = t.each k ∙ ap (λ (b : Bool). b && not (eqb k n)) e

pub rest_self : {word n rest : ℕ} → Turn word n rest → bit rest n ≡ false
rest_self {word} {n} t = t.each n ∙ rw (eq-eqb n n refl) (none (bit word n))
  where
    none : (b : Bool) → b && false ≡ false
    none true = refl
    none false = refl

pub rest_else : {word n rest : ℕ} → Turn word n rest → (k : ℕ) → (k ≡ n → ⊥) → bit rest k ≡ bit word k
rest_else {word} {n} t k z = t.each k ∙ rw (ne_eqb k n z) (and-true (bit word k))

module _ {word i : ℕ} {on : Bool} {r : ℕ} (w : WithBit word i on r) where
  with_bit_cases : (k : ℕ) → bit r k ≡ true → (bit word k ≡ true) ⊎ (k ≡ i % 64)
  with_bit_cases k e = ⊎_elim (λ h. inl h) (λ h. inr h.1) (tells_true (tells_or (tells_value (bit word k)) (tells_and (tells_value on) (tells_eq k (i % 64)))) (sym (w.each k) ∙ e))

  pub with_bit_here : i < 64 → bit word i ≡ false → bit r i ≡ on
  with_bit_here l e = let m : i % 64 ≡ i = omega arith in w.each i ∙ rw (e, m, eq-eqb i i refl) (and-true on)

  pub with_bit_else : i < 64 → (k : ℕ) → (k ≡ i → ⊥) → bit r k ≡ bit word k
  with_bit_else l k z = let m : i % 64 ≡ i = omega arith in w.each k ∙ rw (m, ne_eqb k i z) (none (bit word k) on)
    where
      none : (b c : Bool) → b || (c && false) ≡ b
      none true c = refl
      none false true = refl
      none false false = refl

-- The word has only rows of the set that are done, and K holds of them.
abbrev pub Over : (ℕ → Type 0) → ℕ → ℕ → ℕ → Type 0
Over K sides left word = (k : ℕ) → bit word k ≡ true → (bit sides k ≡ true) × (bit left k ≡ false) × K k

module _ (K : ℕ → Type 0) (sides : ℕ) {left n rest : ℕ} (turn : Turn left n rest) where
  pub over_same : (word : ℕ) → Over K sides left word → Over K sides rest word
  over_same word o k e = let h = o k e in (h.0, rest_none turn k h.1, h.2)

  pub over_more : (word r : ℕ) {on : Bool} → WithBit word n on r → bit sides n ≡ true → K n → Over K sides left word → Over K sides rest r
  over_more word r w s h o k e = ⊎_elim (λ z. over_same word o k z) (λ z. at (z ∙ small)) (with_bit_cases w k e)
    where
      small : n % 64 ≡ n
      small = omega (arith, turn.small)

      at : k ≡ n → (bit sides k ≡ true) × (bit rest k ≡ false) × K k
      at z = rw z (s, rest_self turn, h)

  -- the row that is taken has no bit yet
  pub over_clear : (word : ℕ) → Over K sides left word → bit word n ≡ false
  over_clear word o = go (bit word n) refl
    where
      go : (b : Bool) → bit word n ≡ b → b ≡ false
      go true e = absurd (clash turn.set (o n e).1)
      go false e = refl
