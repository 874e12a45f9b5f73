-- The parts of weak sequences, upwards: what is stored at each row is the part that its operands make.
use Prim.Native.Nat.{ℕ, zero, suc, ◌%◌, ◌≤◌, ◌<◌}
use native.Mathlib.Nat.{mod-eq_of_lt}
use native.Mathlib.Omega.{arith}
use mathlib.Core.Path.{◌≡◌, refl, sym, ◌∙◌, ap, ap₂, subst}
use mathlib.Core.Bool.{Bool, true, false, ◌&&◌, ◌||◌, and-true, and-false}
use mathlib.Core.List.{List}
use lib.Bits.{bit_or}
use lib.Dec.{T, eqb}
use Rattle.psl.specs.Booleans.{Boolean, bit, holds, sample}
use Rattle.psl.specs.Tells.{tells_eq, tells_dec}
use Rattle.words.specs.Sets.{Lowest}
use Rattle.words.specs.Walk.{Turn, Left, left_start, left_turn, left_end, rest_in}
use Rattle.words.specs.Bits.{bit_or_lem}
use Rattle.lanes.specs.Rows.{Row, Sound, r_bool}
use Rattle.lanes.specs.UpPass.{Part, RowPart, choose, cell_part}
use Rattle.lanes.specs.Ideal.{part_of, parts_right}
use Rattle.engine.specs.Reads.{kind_of, a_of, b_of}
use Rattle.engine.specs.Weaks.{WeakOperand, is_cell, is_row, WeakRow, WeakRows, reads_then, reads_fuse, reads_alt, reads_star, reads_plus, reads_weak}
use Rattle.engine.specs.declared.weak_parts.Part.{Part as PartBytes}
use Rattle.engine.specs.declared.weak_parts.Parts.{Parts}
use Rattle.engine.specs.WeakParts.{only_if, PartIs, PairIs, Pairs, LoopIs, Loops, part_at, Put, Kept, part_in, RowPartIs, CellKept, CellsKept, WeaksUp}
use Rattle.std.proofs.Math.Bool.{or-false}
use Rattle.engine.proofs.WeakBits.{low_7, only_bit}

pub loop_star : {kind : ℕ} (a : PartBytes) → kind ≡ 19 → Loops kind a (record { act = bit_or a.act 128; count = a.count })
loop_star a z p P = record {
  star_is = λ y. record {
    act_is = record {
      lanes_are = λ l h. bit_or_lem a.act 128 l ∙ ap₂ ◌||◌ (P.act_is.lanes_are l h) (low_7 l h) ∙ or-false (p.ends l);
      early_is = bit_or_lem a.act 128 6 ∙ ap₂ ◌||◌ P.act_is.early_is refl ∙ or-false p.early;
      empty_is = bit_or_lem a.act 128 7 ∙ ap (λ (c : Bool). c || true) P.act_is.empty_is;
    };
    count_is = P.count_is;
    count_low = P.count_low;
  };
  plus_is = λ y. absurd (omega arith);
}

-- what is read where the part of an operand is kept
pub kept_at : {p : Part} {k : Parts} {u v : ℕ} {a : PartBytes} → Kept p k v → a ≡ part_at k (u % 64) → u ≡ v → PartIs p a
kept_at K A e = rw (A, e, mod-eq_of_lt K.low) K.part

module _ (t : List ℕ) (n : ℕ) (k : Parts) (kind u : ℕ) (a r : PartBytes) (K : kind ≡ kind_of t n) (U : u ≡ a_of t n) (A : a ≡ part_at k (u % 64)) where
  pub pair_row : (v : ℕ) (b : PartBytes) → kind ≤ 18 → v ≡ b_of t n → b ≡ part_at k (v % 64) → Pairs kind a b r → RowPartIs t n k r
  pair_row v b low second B all row live booleans weaks truth x sound reads small kept = go reads (parts_right row live (sample x) sound n)
    where
      both : WeakOperand t row booleans weaks truth x n (a_of t n) → WeakOperand t row booleans weaks truth x n (b_of t n)
          → PairIs kind (part_in row live x n false (a_of t n)) (part_in row live x n true (b_of t n)) r
      both f g = all _ _ (kept_at (kept false (a_of t n) f) A U) (kept_at (kept true (b_of t n) g) B second)

      go : WeakRow t row booleans weaks truth x n → RowPart row live (sample x) (part_of row live (sample x)) (row n) n → PartIs (part_of row live (sample x) n) r
      go (reads_then e d f g) h = subst (λ z. PartIs z r) (sym (rw d at h)) ((both f g).then_is (K ∙ e))
      go (reads_fuse e d f g) h = subst (λ z. PartIs z r) (sym (rw d at h)) ((both f g).fuse_is (K ∙ e))
      go (reads_alt e d f g) h = subst (λ z. PartIs z r) (sym (rw d at h)) ((both f g).alt_is (K ∙ e))
      go (reads_star e d f) h = absurd (omega arith)
      go (reads_plus e d f) h = absurd (omega arith)
      go (reads_weak e d f) h = absurd (omega arith)

  pub loop_row : 18 < kind → Loops kind a r → RowPartIs t n k r
  loop_row high all row live booleans weaks truth x sound reads small kept = go reads (parts_right row live (sample x) sound n)
    where
      one : WeakOperand t row booleans weaks truth x n (a_of t n) → LoopIs kind (part_in row live x n false (a_of t n)) r
      one f = all _ (kept_at (kept false (a_of t n) f) A U)

      go : WeakRow t row booleans weaks truth x n → RowPart row live (sample x) (part_of row live (sample x)) (row n) n → PartIs (part_of row live (sample x) n) r
      go (reads_star e d f) h = subst (λ z. PartIs z r) (sym (rw d at h)) ((one f).star_is (K ∙ e))
      go (reads_plus e d f) h = subst (λ z. PartIs z r) (sym (rw d at h)) ((one f).plus_is (K ∙ e))
      go (reads_then e d f g) h = absurd (omega arith)
      go (reads_fuse e d f g) h = absurd (omega arith)
      go (reads_alt e d f g) h = absurd (omega arith)
      go (reads_weak e d f) h = absurd (omega arith)

-- ---- the Booleans

sixty_five : (m : Bool) (l : ℕ) → l < 6 → bit 65 l ≡ choose (eqb l 7) m (eqb 0 l)
sixty_five m zero h = refl
sixty_five m (suc zero) h = refl
sixty_five m (suc (suc zero)) h = refl
sixty_five m (suc (suc (suc zero))) h = refl
sixty_five m (suc (suc (suc (suc zero)))) h = refl
sixty_five m (suc (suc (suc (suc (suc zero))))) h = refl
sixty_five m (suc (suc (suc (suc (suc (suc l)))))) h = absurd (omega arith)

cell_part_is : (on m : Bool) → PartIs (cell_part on m) (record { act = only_if on 65; count = 1 })
cell_part_is on m = record {
  act_is = record {
    lanes_are = λ l h. only_bit on 65 l ∙ ap (λ (c : Bool). on && c) (sixty_five m l h);
    early_is = only_bit on 65 6 ∙ and-true on;
    empty_is = only_bit on 65 7 ∙ and-false on;
  };
  count_is = refl;
  count_low = omega arith;
}

-- what is kept after a turn that puts the part of row n
module _ {left n rest : ℕ} {old new : Parts} {r : PartBytes} (turn : Turn left n rest) (put : Put old new (n % 64) r) where
  at_n : (v : ℕ) → v ≡ n → part_at new v ≡ r
  at_n v e = ap (part_at new) (e ∙ sym (mod-eq_of_lt turn.small)) ∙ put.here

  not_n : (v : ℕ) → (v ≡ n → ⊥) → part_at new v ≡ part_at old v
  not_n v e = put.elsewhere v (λ z. e (z ∙ mod-eq_of_lt turn.small))

-- the loop over the Booleans
pub cells_turn : (booleans truth : ℕ) {left n rest : ℕ} {old new : Parts} {r : PartBytes} → Left booleans left (CellKept truth old) → Turn left n rest → Put old new (n % 64) r
    → r ≡ record { act = only_if (bit truth (n % 64)) 65; count = 1 } → Left booleans rest (CellKept truth new)
cells_turn booleans truth {left} {n} {rest} {old} {new} {r} h turn put R = left_turn h turn (λ k kept. go k kept (tells_dec (tells_eq k n))) (here n refl)
  where
    here : (k : ℕ) → k ≡ n → CellKept truth new k
    here k e = at_n turn put k e ∙ R ∙ ap (λ (i : ℕ). record { act = only_if (bit truth i) 65; count = 1 }) (mod-eq_of_lt turn.small ∙ sym e)

    go : (k : ℕ) → CellKept truth old k → Dec (k ≡ n) → CellKept truth new k
    go k kept (yes e) = here k e
    go k kept (no e) = not_n turn put k e ∙ kept

-- ---- operands

module _ (t : List ℕ) (row : ℕ → Row) (live : ℕ → Bool → Bool) (booleans weaks truth x : ℕ) where
  pub not_boolean : {v : ℕ} {b : Boolean} → WeakRow t row booleans weaks truth x v → row v ≡ r_bool b → ⊥
  not_boolean (reads_then e r f g) q = cc
  not_boolean (reads_fuse e r f g) q = cc
  not_boolean (reads_alt e r f g) q = cc
  not_boolean (reads_star e r f) q = cc
  not_boolean (reads_plus e r f) q = cc
  not_boolean (reads_weak e r f) q = cc

  row_operand : (n : ℕ) (f : Bool) {v : ℕ} → WeakRow t row booleans weaks truth x v → part_in row live x n f v ≡ part_of row live (sample x) v
  row_operand n f (reads_then e r p q) = rw r
  row_operand n f (reads_fuse e r p q) = rw r
  row_operand n f (reads_alt e r p q) = rw r
  row_operand n f (reads_star e r p) = rw r
  row_operand n f (reads_plus e r p) = rw r
  row_operand n f (reads_weak e r p) = rw r

  pub operand_kept : {k : Parts} {n v : ℕ} → n < 64 → WeakRows t row booleans weaks truth x
      → ((v : ℕ) → bit booleans v ≡ true → bit weaks v ≡ false → CellKept truth k v)
      → ((v : ℕ) → v < n → bit weaks v ≡ true → kind_of t v < 32 → PartIs (part_of row live (sample x) v) (part_at k v))
      → (f : Bool) → WeakOperand t row booleans weaks truth x n v → Kept (part_in row live x n f v) k v
  operand_kept {k} {n} {v} small rows cells parts f (is_cell {b = b} l e r h) = record {
    low = l;
    part = rw r (cell (cells v e (outside (bit weaks v) refl)));
  }
    where
      outside : (c : Bool) → bit weaks v ≡ c → c ≡ false
      outside true z = absurd (not_boolean (rows v z) r)
      outside false z = refl

      cell : CellKept truth k v → PartIs (cell_part (holds b x) (live n f)) (part_at k v)
      cell kept = rw (kept, h) (cell_part_is (holds b x) (live n f))
  operand_kept {k} {n} {v} small rows cells parts f (is_row l e w z) = record { low = omega arith; part = rw (row_operand n f (rows v w)) (parts v l w z) }

-- ---- the loop

abbrev PartDone : List ℕ → (ℕ → Row) → (ℕ → Bool → Bool) → ℕ → Parts → ℕ → Type 0
PartDone t row live x k n = kind_of t n < 32 → PartIs (part_of row live (sample x) n) (part_at k n)

pub record UpLeft (t : List ℕ) (booleans weaks truth left : ℕ) (k : Parts) : Type 0 where
  pub within : (n : ℕ) → bit left n ≡ true → bit weaks n ≡ true
  pub cells_are : (v : ℕ) → bit booleans v ≡ true → bit weaks v ≡ false → CellKept truth k v
  pub parts_are : (row : ℕ → Row) (live : ℕ → Bool → Bool) (x : ℕ) → Sound row → WeakRows t row booleans weaks truth x → Left weaks left (PartDone t row live x k)

pub up_start : (t : List ℕ) (booleans weaks truth : ℕ) {k : Parts} → CellsKept booleans truth k → UpLeft t booleans weaks truth weaks k
up_start t booleans weaks truth h = record {
  within = λ n e. e;
  cells_are = λ v e z. h v e;
  parts_are = λ row live x sound rows. left_start weaks;
}

module _ {t : List ℕ} {booleans weaks truth left n rest : ℕ} {old new : Parts} {r : PartBytes} (h : UpLeft t booleans weaks truth left old)
    (low : Lowest left n) (turn : Turn left n rest) (is : RowPartIs t n old r) (put : Put old new (n % 64) r) where
  in_set : bit weaks n ≡ true
  in_set = h.within n turn.set

  clash : {b : Bool} → b ≡ true → b ≡ false → ⊥
  clash p q = subst T (sym p ∙ q) tt

  module _ (row : ℕ → Row) (live : ℕ → Bool → Bool) (x : ℕ) (sound : Sound row) (rows : WeakRows t row booleans weaks truth x) where
    here : (v : ℕ) → v ≡ n → PartDone t row live x new v
    here v e small = rw (at_n turn put v e, e)
        (is row live booleans weaks truth x sound (rows n in_set) (rw e at small)
        (λ f v o. operand_kept t row live booleans weaks truth x turn.small rows h.cells_are (λ u l w q. (h.parts_are row live x sound rows).done u w (low.below u l) q) f o))

    go : (v : ℕ) → PartDone t row live x old v → Dec (v ≡ n) → PartDone t row live x new v
    go v done (yes e) = here v e
    go v done (no e) = λ small. rw (not_n turn put v e) (done small)

    parts_turn : Left weaks rest (PartDone t row live x new)
    parts_turn = left_turn (h.parts_are row live x sound rows) turn (λ v done. go v done (tells_dec (tells_eq v n))) (here n refl)

  pub up_turn : UpLeft t booleans weaks truth rest new
  up_turn = record {
    within = λ k e. h.within k (rest_in turn k e).0;
    cells_are = λ v e z. let d : v ≡ n → ⊥ = λ q. clash (ap (bit weaks) q ∙ in_set) z in not_n turn put v d ∙ h.cells_are v e z;
    parts_are = parts_turn;
  }

pub up_end : {t : List ℕ} {booleans weaks truth left : ℕ} {k : Parts} → UpLeft t booleans weaks truth left k → left ≡ 0 → WeaksUp t booleans weaks truth k
up_end {t} {booleans} {weaks} {truth} {left} {k} h e = record {
  cells_are = h.cells_are;
  parts_are = λ row live x sound rows n. left_end (subst (λ (w : ℕ). Left weaks w (PartDone t row live x k)) e (h.parts_are row live x sound rows)) n;
}
