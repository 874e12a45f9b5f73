-- The downward pass over weak sequences: all its rows.
use Prim.Native.Nat.{ℕ, zero, suc, ◌+◌, ◌-◌, ◌*◌, ◌≤◌, ◌<◌}
use native.Mathlib.Omega.{arith}
use native.Mathlib.Decide.{dec_lt}
use mathlib.Core.Path.{◌≡◌, refl, sym, ◌∙◌, ap, ap₂, subst}
use mathlib.Core.Bool.{Bool, true, false, not, ◌&&◌, and-false, and-true}
use mathlib.Core.List.{List}
use lib.Dec.{eqb, ltb}
use lib.ListN.{get_or}
use borrow.Author.Tests.{lt-ltb, le-ltb, eq-eqb, ne_eqb}
use Rattle.psl.specs.Booleans.{bit, sample}
use Rattle.psl.specs.Tells.{tells_and, tells_lt, tells_value, tells_true}
use Rattle.words.specs.Bits.{bit_none}
use Rattle.words.specs.Sets.{Highest}
use Rattle.words.specs.Walk.{Turn, rest_in}
use Rattle.lanes.specs.Rows.{Row, r_bool, r_then, r_fuse, r_alt, r_star, r_plus, r_weak, r_left, r_rest, Has, IsSequence}
use Rattle.lanes.specs.Expected.{Table}
use Rattle.lanes.specs.Uses.{Use}
use Rattle.lanes.specs.DownPass.{Work, give}
use Rattle.lanes.specs.Ideal.{part_of}
use Rattle.lanes.specs.Whole.{rel_only}
use Rattle.engine.specs.Reads.{kind_of}
use Rattle.engine.specs.Weaks.{WeakOperand, is_cell, is_row, WeakRow, reads_then, reads_fuse, reads_alt, reads_star, reads_plus, reads_weak, weak_number, WeakLanes}
use Rattle.engine.specs.declared.weak_parts.Parts.{Parts}
use Rattle.engine.specs.declared.weak_uses.Uses.{Uses}
use Rattle.engine.specs.WeakHanded.{Blank}
use Rattle.engine.specs.WeakPass.{WeakPass, finished, handed_to, WeakDown, RowDone, WeaksDown}
use Rattle.engine.proofs.WeakNumbers.{weak_is, is_weak_lem, flat}
use Rattle.engine.proofs.WeakWork.{clash, lands, lands_row, row_low, narrow}

both_ways : (a b : Bool) → (a ≡ true → b ≡ true) → (b ≡ true → a ≡ true) → a ≡ b
both_ways true true f g = refl
both_ways true false f g = sym (f refl)
both_ways false true f g = g refl
both_ways false false f g = refl

-- whoever hands a use on keeps its owner
keeps_owner : (row : ℕ → Row) (live : ℕ → Bool → Bool) (x : ℕ) (enter : ℕ → Bool) (R : Row) (n : ℕ) (f : Bool) (w : Use) → IsSequence R
    → (give row live (sample x) (part_of row live (sample x)) enter R n f w).owner ≡ w.owner
keeps_owner row live x enter (r_then a b) n false w s = refl
keeps_owner row live x enter (r_then a b) n true w s = refl
keeps_owner row live x enter (r_fuse a b) n false w s = refl
keeps_owner row live x enter (r_fuse a b) n true w s = refl
keeps_owner row live x enter (r_alt a b) n false w s = refl
keeps_owner row live x enter (r_alt a b) n true w s = refl
keeps_owner row live x enter (r_star a) n f w s = refl
keeps_owner row live x enter (r_plus a) n f w s = refl
keeps_owner row live x enter (r_bool _) n f w s = elim s [ ]
keeps_owner row live x enter (r_weak _) n f w s = elim s [ ]
keeps_owner row live x enter (r_left _) n f w s = elim s [ ]
keeps_owner row live x enter r_rest n f w s = elim s [ ]

module _ {t : List ℕ} {row : ℕ → Row} {booleans weaks truth begin x : ℕ} {enter : ℕ → Bool} {parts : Parts} (table : Table row) (live : ℕ → Bool → Bool)
    (H : WeakPass t row booleans weaks truth begin x enter parts) where
  abbrev D : Work
  D = finished t row table weaks x live enter

  abbrev to : ℕ → Bool → Use
  to n f = handed_to t row table weaks x live enter n f

  abbrev Down : ℕ → Uses → Type 0
  Down = WeakDown t row table weaks x live enter

  low : (n : ℕ) → bit weaks n ≡ true → n < 64
  low = row_low table live H

  -- ---- the rows of a weak sequence of the set are rows of the set

  operand_of : {m : ℕ} (g : Bool) (v : ℕ) → WeakRow t row booleans weaks truth x m → Has (row m) g v → WeakOperand t row booleans weaks truth x m v
  operand_of {m} false v (reads_then e r o p) i = subst (λ u. WeakOperand t row booleans weaks truth x m u) (sym (rw r at i)) o
  operand_of {m} true v (reads_then e r o p) i = subst (λ u. WeakOperand t row booleans weaks truth x m u) (sym (rw r at i)) p
  operand_of {m} false v (reads_fuse e r o p) i = subst (λ u. WeakOperand t row booleans weaks truth x m u) (sym (rw r at i)) o
  operand_of {m} true v (reads_fuse e r o p) i = subst (λ u. WeakOperand t row booleans weaks truth x m u) (sym (rw r at i)) p
  operand_of {m} false v (reads_alt e r o p) i = subst (λ u. WeakOperand t row booleans weaks truth x m u) (sym (rw r at i)) o
  operand_of {m} true v (reads_alt e r o p) i = subst (λ u. WeakOperand t row booleans weaks truth x m u) (sym (rw r at i)) p
  operand_of {m} false v (reads_star e r o) i = subst (λ u. WeakOperand t row booleans weaks truth x m u) (sym (rw r at i)) o
  operand_of {m} true v (reads_star e r o) i = absurd (rw r at i)
  operand_of {m} false v (reads_plus e r o) i = subst (λ u. WeakOperand t row booleans weaks truth x m u) (sym (rw r at i)) o
  operand_of {m} true v (reads_plus e r o) i = absurd (rw r at i)
  operand_of {m} false v (reads_weak e r o) i = subst (λ u. WeakOperand t row booleans weaks truth x m u) (sym (rw r at i)) o
  operand_of {m} true v (reads_weak e r o) i = absurd (rw r at i)

  operand_in : {m v : ℕ} → WeakOperand t row booleans weaks truth x m v → IsSequence (row v) → bit weaks v ≡ true
  operand_in (is_cell l b r q) s = absurd (subst IsSequence r s)
  operand_in (is_row l b k q) s = k

  owner_step : (n : ℕ) (f : Bool) (v o : ℕ) → Has (row n) f v → (to n f).owner ≡ o → o < 64 → bit weaks o ≡ true
      → ((m : ℕ) (g : Bool) → n < m → Has (row m) g n → (to m g).owner ≡ o → bit weaks m ≡ true) → bit weaks n ≡ true
  owner_step n f v o i e l q up = by (row n) refl
    where
      seq : IsSequence (row n) → bit weaks n ≡ true
      seq s =
          let u = table.sound.used n s in
          let d = lands_row D (row n) u.0 u.1 n (to u.0 u.1) s (lands table live H u.0 u.1 n u.2) in
          let k = up u.0 u.1 (table.sound.falls u.0 u.1 n u.2) u.2 (ap (λ z. z.owner) (sym d) ∙ sym (keeps_owner row live x enter (row n) n f (D.uses n) s) ∙ e) in
          operand_in (operand_of u.1 n (H.rows u.0 k) u.2) s

      by : (R : Row) → row n ≡ R → bit weaks n ≡ true
      by (r_bool b) r = absurd (rw r at i)
      by (r_then a b) r = seq (rw r tt)
      by (r_fuse a b) r = seq (rw r tt)
      by (r_alt a b) r = seq (rw r tt)
      by (r_star a) r = seq (rw r tt)
      by (r_plus a) r = seq (rw r tt)
      by (r_weak a) r = let z : n ≡ o = rw r at e in ap (bit weaks) z ∙ q
      by (r_left a) r = let z : 64 ≡ o = rw r at e in absurd (omega arith)
      by r_rest r = absurd (rw r at i)

  owner_in : (k n : ℕ) (f : Bool) (v o : ℕ) → 64 ≤ n + k → Has (row n) f v → (to n f).owner ≡ o → o < 64 → bit weaks o ≡ true → bit weaks n ≡ true
  owner_in zero n f v o h i e l q = absurd (rw (table.beyond n (omega arith)) at i)
  owner_in (suc k) n f v o h i e l q = owner_step n f v o i e l q (λ m g a j d. owner_in k m g n o (omega arith) j d l q)

  -- ---- lower rows that are not of the set

  pub lower : {k : Uses} (top below : ℕ) → below ≤ top → top ≤ 64 → ((j : ℕ) → below ≤ j → j < top → bit weaks j ≡ false) → Down top k → Down below k
  lower top below l h none d = record {
    work = narrow table live H (λ m g u s i. (from m s.0 s.1, s.1)) d.work;
    tops_are = λ m a z. d.tops_are m (from m a (weak_is t weaks m z).0) z;
    met = d.met ∙ sym (flat t weaks (64 - top) (64 - below) (omega arith) (omega arith) (λ i a b. ap (λ (c : Bool). c && eqb (kind_of t i) 32) (none i (omega arith) (omega arith))));
  }
    where
      from : (m : ℕ) → below ≤ m → bit weaks m ≡ true → top ≤ m
      from m a s = elim (dec_lt m top) [ yes z ↦ absurd (clash s (none m a z)) | no z ↦ omega arith ]

  -- ---- the beginning

  pub begun : (k : Uses) → Blank k → Down 64 k
  begun k blank = record {
    work = record {
      uses_are = λ n f v s i q. absurd (past n s.0 s.1);
      cells_in = λ n f v b s i q. absurd (past n s.0 s.1);
      cells_right = λ o q l z a b s. absurd (clash s (ap (λ (y : ℕ). bit y l) (blank.leads_none (8 * weak_number t weaks o + q)) ∙ bit_none l));
    };
    tops_are = λ n a z. absurd (past n a (weak_is t weaks n z).0);
    met = blank.met_none;
  }
    where
      past : (n : ℕ) → 64 ≤ n → bit weaks n ≡ true → ⊥
      past n a s = let l = low n s in omega arith

  -- ---- the end

  pub lanes_of : {k : Uses} → Down 0 k → (n : ℕ) → bit weaks n ≡ true → kind_of t n ≡ 32 → WeakLanes t row table live x enter n (weak_number t weaks n) k.tops k.leads
  lanes_of {k} d n e z =
      let top = d.tops_are n (omega arith) (is_weak_lem t weaks n e z) in
      record {
        ends_are = top.ends_are;
        begins_is = top.begins_is;
        leads_are = λ l q a b. both_ways _ _ (d.work.cells_right n q l (is_weak_lem t weaks n e z) (omega arith) a) (λ s. led l q a s);
      }
    where
      led : (l q : ℕ) → l < 7 → D.rel n l q ≡ true → bit (get_or k.leads (8 * weak_number t weaks n + q) 0) l ≡ true
      led l q a s =
          let c = rel_only row table live (sample x) enter n l q s in
          let i = owner_in 64 c.0 c.1 c.2.at n (omega arith) c.2.has c.3 (low n e) e in
          subst (λ (j : ℕ). bit (get_or k.leads j 0) l ≡ true) (ap₂ (λ (o r : ℕ). 8 * weak_number t weaks o + r) c.3 c.4)
          (d.work.cells_in c.0 c.1 c.2.at c.2.boolean (omega arith, i) c.2.has c.2.is l a c.5)

-- ---- the loop

pub record DownLeft (t : List ℕ) (booleans weaks begin : ℕ) (parts : Parts) (blank : Uses) (left : ℕ) (k : Uses) : Type 0 where
  pub within : (j : ℕ) → bit left j ≡ true → bit weaks j ≡ true
  pub so_far : (row : ℕ → Row) (table : Table row) (truth x : ℕ) (live : ℕ → Bool → Bool) (enter : ℕ → Bool) → WeakPass t row booleans weaks truth begin x enter parts → Blank blank
      → (top : ℕ) × (top ≤ 64) × ((j : ℕ) → bit left j ≡ bit weaks j && ltb j top) × WeakDown t row table weaks x live enter top k

pub down_start : {t : List ℕ} {booleans weaks begin : ℕ} {parts : Parts} {k : Uses} → DownLeft t booleans weaks begin parts k weaks k
down_start {t} {booleans} {weaks} {begin} {parts} {k} = record {
  within = λ j e. e;
  so_far = λ row table truth x live enter H blank. (
    64,
    omega arith,
    λ j. same (bit weaks j) j (λ e. row_low table live H j e),
    begun table live H k blank,
  );
}
  where
    same : (b : Bool) (j : ℕ) → (b ≡ true → j < 64) → b ≡ b && ltb j 64
    same true j h = sym (lt-ltb j 64 (h refl))
    same false j h = refl

module _ {t : List ℕ} {booleans weaks begin : ℕ} {parts : Parts} {blank : Uses} {left n rest : ℕ} {old new : Uses} (h : DownLeft t booleans weaks begin parts blank left old)
    (high : Highest left n) (turn : Turn left n rest) (done : RowDone t n booleans begin parts old new) where
  module _ (row : ℕ → Row) (table : Table row) (truth x : ℕ) (live : ℕ → Bool → Bool) (enter : ℕ → Bool) (H : WeakPass t row booleans weaks truth begin x enter parts)
      (top : ℕ) (l : top ≤ 64) (same : (j : ℕ) → bit left j ≡ bit weaks j && ltb j top) (d : WeakDown t row table weaks x live enter top old) where
    here : (bit weaks n ≡ true) × (n < top)
    here = tells_true (tells_and (tells_value (bit weaks n)) (tells_lt n top)) (sym (same n) ∙ turn.set)

    none : (j : ℕ) → suc n ≤ j → j < top → bit weaks j ≡ false
    none j a b = sym (and-true (bit weaks j)) ∙ sym (ap (λ (c : Bool). bit weaks j && c) (lt-ltb j top b)) ∙ sym (same j) ∙ high.above j a

    after : WeakDown t row table weaks x live enter n new
    after = done row table weaks truth x live enter H here.0 (lower table live H top (suc n) here.1 l none d)

    same_rest : (j : ℕ) → bit rest j ≡ bit weaks j && ltb j n
    same_rest j = turn.each j ∙ elim (dec_lt j n) [
      | yes a ↦ (let q : j ≡ n → ⊥ = λ y. omega arith in let b : j < top = omega (arith, here.1) in
          ap₂ (λ (c e : Bool). c && not e) (same j) (ne_eqb j n q) ∙ and-true (bit weaks j && ltb j top) ∙ ap (λ (c : Bool). bit weaks j && c) (lt-ltb j top b ∙ sym (lt-ltb j n a)))
      | no a ↦ elim (dec_lt n j) [
        | yes b ↦ ap (λ (c : Bool). c && not (eqb j n)) (high.above j b) ∙ sym (ap (λ (c : Bool). bit weaks j && c) (le-ltb j n (omega arith)) ∙ and-false (bit weaks j))
        | no b ↦ (let q : j ≡ n = omega arith in
            ap (λ (e : Bool). bit left j && not e) (eq-eqb j n q) ∙ and-false (bit left j) ∙ sym (ap (λ (c : Bool). bit weaks j && c) (le-ltb j n (omega arith)) ∙ and-false (bit weaks j)))
      ]
    ]

  pub down_turn : DownLeft t booleans weaks begin parts blank rest new
  down_turn = record {
    within = λ j e. h.within j (rest_in turn j e).0;
    so_far = λ row table truth x live enter H none-handed. (let f = h.so_far row table truth x live enter H none-handed in (
      n,
      omega (arith, turn.small),
      same_rest row table truth x live enter H f.0 f.1 f.2 f.3,
      after row table truth x live enter H f.0 f.1 f.2 f.3,
    ));
  }

pub down_end : {t : List ℕ} {booleans weaks begin : ℕ} {parts : Parts} {blank : Uses} {left : ℕ} {k : Uses} → DownLeft t booleans weaks begin parts blank left k → left ≡ 0
    → WeaksDown t booleans weaks begin parts blank k
down_end {t} {booleans} {weaks} {begin} {parts} {blank} {left} {k} h e row table truth x live enter H none-handed =
    let f = h.so_far row table truth x live enter H none-handed in
    let d = lower table live H f.0 0 (omega arith) f.1 (λ j a b. outside j f.0 b (f.2 j)) f.3 in
    (d.met, λ n i z. lanes_of table live H d n i z)
  where
    outside : (j top : ℕ) → j < top → bit left j ≡ bit weaks j && ltb j top → bit weaks j ≡ false
    outside j top b s = sym (and-true (bit weaks j)) ∙ sym (ap (λ (c : Bool). bit weaks j && c) (lt-ltb j top b)) ∙ sym s ∙ ap (λ (y : ℕ). bit y j) e ∙ bit_none j
