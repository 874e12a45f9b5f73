-- The downward pass over weak sequences: handing one operand its use, and so one row and all of them.
use Prim.Native.Nat.{ℕ, ◌+◌, ◌*◌, ◌%◌, ◌<◌}
use native.Mathlib.Nat.{mod-eq_of_lt}
use native.Mathlib.Omega.{arith}
use native.Mathlib.Decide.{dec_lt}
use mathlib.Core.Path.{◌≡◌, refl, sym, ◌∙◌, ap, ap₂, subst}
use mathlib.Core.Bool.{Bool, true, false, ◌||◌}
use mathlib.Core.List.{List}
use mathlib.Core.Logic.{◌⊎◌, ⊎_elim}
use lib.Dec.{T}
use lib.ListN.{get_or}
use Rattle.psl.specs.Booleans.{Boolean, bit, sample}
use Rattle.psl.specs.Tells.{tells_eq, tells_dec, tells_or, tells_value, tells_true}
use Rattle.words.specs.Bits.{bit_or_lem}
use Rattle.lanes.specs.Rows.{Row, r_bool, r_then, r_fuse, r_alt, r_star, r_plus, r_weak, r_left, r_rest, Has, IsSequence}
use Rattle.lanes.specs.Expected.{Table}
use Rattle.lanes.specs.Uses.{Use}
use Rattle.lanes.specs.DownPass.{Work, LandsBy}
use Rattle.lanes.specs.Ideal.{whole_right}
use Rattle.engine.specs.Reads.{kind_of}
use Rattle.engine.specs.Weaks.{WeakOperand, is_cell, is_row, WeakRow, reads_then, reads_fuse, reads_alt, reads_star, reads_plus, reads_weak, weak_number}
use Rattle.engine.specs.declared.weak_parts.Parts.{Parts}
use Rattle.engine.specs.declared.weak_uses.Use.{Use as UseBytes}
use Rattle.engine.specs.declared.weak_uses.Uses.{Uses}
use Rattle.engine.specs.WeakUses.{UseIs}
use Rattle.engine.specs.WeakHanded.{use_at, Led, UsePut, Handed}
use Rattle.engine.specs.WeakPass.{is_weak, WeakPass, finished, handed_to, cell_place, WeakWork}
use Rattle.engine.proofs.WeakUp.{not_boolean}
use Rattle.engine.proofs.WeakNumbers.{weak_is, number_one}

-- a field has one operand
has_one : (R : Row) (f : Bool) (u v : ℕ) → Has R f u → Has R f v → u ≡ v
has_one (r_bool x) f u v p q = absurd p
has_one (r_then a b) false u v p q = p ∙ sym q
has_one (r_then a b) true u v p q = p ∙ sym q
has_one (r_fuse a b) false u v p q = p ∙ sym q
has_one (r_fuse a b) true u v p q = p ∙ sym q
has_one (r_alt a b) false u v p q = p ∙ sym q
has_one (r_alt a b) true u v p q = p ∙ sym q
has_one (r_star a) false u v p q = p ∙ sym q
has_one (r_star a) true u v p q = absurd p
has_one (r_plus a) false u v p q = p ∙ sym q
has_one (r_plus a) true u v p q = absurd p
has_one (r_weak a) false u v p q = p ∙ sym q
has_one (r_weak a) true u v p q = absurd p
has_one (r_left a) false u v p q = p ∙ sym q
has_one (r_left a) true u v p q = absurd p
has_one r_rest f u v p q = absurd p

pub lands_row : (d : Work) (R : Row) (n : ℕ) (f : Bool) (v : ℕ) (w : Use) → IsSequence R → LandsBy d R n f v w → d.uses v ≡ w
lands_row d (r_then a b) n f v w s h = h
lands_row d (r_fuse a b) n f v w s h = h
lands_row d (r_alt a b) n f v w s h = h
lands_row d (r_star a) n f v w s h = h
lands_row d (r_plus a) n f v w s h = h
lands_row d (r_bool _) n f v w s h = elim s [ ]
lands_row d (r_weak _) n f v w s h = elim s [ ]
lands_row d (r_left _) n f v w s h = elim s [ ]
lands_row d r_rest n f v w s h = elim s [ ]

pub clash : {b : Bool} → b ≡ true → b ≡ false → ⊥
clash p q = subst T (sym p ∙ q) tt

-- the numbers 8 a + p apart
split_8 : (a b p q : ℕ) → p < 8 → q < 8 → 8 * a + p ≡ 8 * b + q → (a ≡ b) × (p ≡ q)
split_8 a b p q h i e = (omega arith, omega arith)

module _ {t : List ℕ} {row : ℕ → Row} {booleans weaks truth begin x : ℕ} {enter : ℕ → Bool} {parts : Parts} (table : Table row) (live : ℕ → Bool → Bool)
    (H : WeakPass t row booleans weaks truth begin x enter parts) where
  abbrev D : Work
  D = finished t row table weaks x live enter

  abbrev to : ℕ → Bool → Use
  to n f = handed_to t row table weaks x live enter n f

  abbrev Working : (ℕ → Bool → Type 0) → Uses → Type 0
  Working Seen k = WeakWork t row table weaks x live enter Seen k

  abbrev Kept : Use → UseBytes → Type 0
  Kept u b = UseIs (is_weak t weaks) (weak_number t weaks) u b

  pub lands : (n : ℕ) (f : Bool) (v : ℕ) → Has (row n) f v → LandsBy D (row v) n f v (to n f)
  lands n f v i = (whole_right row table live (sample x) enter).landed n (omega arith) f v i

  not_rest : {v : ℕ} → WeakRow t row booleans weaks truth x v → row v ≡ r_rest → ⊥
  not_rest (reads_then e r f g) q = cc
  not_rest (reads_fuse e r f g) q = cc
  not_rest (reads_alt e r f g) q = cc
  not_rest (reads_star e r f) q = cc
  not_rest (reads_plus e r f) q = cc
  not_rest (reads_weak e r f) q = cc

  pub row_low : (n : ℕ) → bit weaks n ≡ true → n < 64
  row_low n e = elim (dec_lt n 64) [ yes l ↦ l | no l ↦ absurd (not_rest (H.rows n e) (table.beyond n (omega arith))) ]

  pub is_sequence : {v : ℕ} → WeakRow t row booleans weaks truth x v → kind_of t v < 32 → IsSequence (row v)
  is_sequence (reads_then e r f g) h = rw r tt
  is_sequence (reads_fuse e r f g) h = rw r tt
  is_sequence (reads_alt e r f g) h = rw r tt
  is_sequence (reads_star e r f) h = rw r tt
  is_sequence (reads_plus e r f) h = rw r tt
  is_sequence (reads_weak e r f) h = absurd (omega arith)

  -- fewer fields are asked about
  pub narrow : {Seen Fewer : ℕ → Bool → Type 0} {k : Uses} → ((m : ℕ) (g : Bool) (u : ℕ) → Fewer m g → Has (row m) g u → Seen m g) → Working Seen k → Working Fewer k
  narrow up w = record {
    uses_are = λ m g u s i q. w.uses_are m g u (up m g u s i) i q;
    cells_in = λ m g u b s i e. w.cells_in m g u b (up m g u s i) i e;
    cells_right = w.cells_right;
  }

  abbrev With : (ℕ → Bool → Type 0) → ℕ → Bool → ℕ → Bool → Type 0
  With Seen n f m g = Seen m g ⊎ ((m ≡ n) × (g ≡ f))

  -- ONE OPERAND
  module _ {Seen : ℕ → Bool → Type 0} {old new : Uses} (w : Working Seen old) (n : ℕ) (f : Bool) (v' v : ℕ) (b : UseBytes)
      (h : Handed booleans v' b old new) (e : v' ≡ v) (small : n < 64) (has : Has (row n) f v) (used : Kept (to n f) b) where
    -- the field is n's f, so the operand is v
    same_operand : {m u : ℕ} {g : Bool} → (m ≡ n) × (g ≡ f) → Has (row m) g u → u ≡ v
    same_operand {m} {u} {g} z i = has_one (row n) f u v (subst (λ c. Has (row n) c u) z.1 (subst (λ j. Has (row j) g u) z.0 i)) has

    at : v < 64 → v' % 64 ≡ v
    at low = ap (λ (k : ℕ). k % 64) e ∙ mod-eq_of_lt low

    module _ {B : Boolean} (led : Led b old new) (is : row v ≡ r_bool B) where
      or_left : (a c : Bool) → a ≡ true → a || c ≡ true
      or_left a c z = rw z

      or_right : (a c : Bool) → c ≡ true → a || c ≡ true
      or_right true c z = refl
      or_right false c z = z

      at_place : (l : ℕ) → bit (get_or new.leads b.place 0) l ≡ bit (get_or old.leads b.place 0) l || bit b.go l
      at_place l = ap (λ (y : ℕ). bit y l) led.here ∙ bit_or_lem (get_or old.leads b.place 0) b.go l

      -- bits stay
      stays : (i l : ℕ) → bit (get_or old.leads i 0) l ≡ true → bit (get_or new.leads i 0) l ≡ true
      stays i l s = elim (tells_dec (tells_eq i b.place)) [
        | yes z ↦ ap (λ (j : ℕ). bit (get_or new.leads j 0) l) z ∙ at_place l ∙ or_left (bit (get_or old.leads b.place 0) l) (bit b.go l) (sym (ap (λ (j : ℕ). bit (get_or old.leads j 0) l) z) ∙ s)
        | no z ↦ ap (λ (y : ℕ). bit y l) (led.elsewhere i z) ∙ s
      ]

      comes : (l : ℕ) → l < 7 → (to n f).go l ≡ true → bit (get_or new.leads (cell_place t row table weaks x live enter n f) 0) l ≡ true
      comes l i s = ap (λ (j : ℕ). bit (get_or new.leads j 0) l) (sym used.place_is) ∙ at_place l ∙ or_right (bit (get_or old.leads b.place 0) l) (bit b.go l) (used.go_are l i ∙ s)

      in_rel : (l : ℕ) → l < 7 → bit b.go l ≡ true → D.rel (to n f).owner l (to n f).base ≡ true
      in_rel l i s = (rw is at (lands n f v has)).apart used.owner_low l i (sym (used.go_are l i) ∙ s)

      right : (o q l : ℕ) → is_weak t weaks o ≡ true → q < 8 → l < 7 → bit (get_or new.leads (8 * weak_number t weaks o + q) 0) l ≡ true → D.rel o l q ≡ true
      right o q l k i j s = elim (tells_dec (tells_eq (8 * weak_number t weaks o + q) b.place)) [
        | yes z ↦ new_lane z
        | no z ↦ w.cells_right o q l k i j (sym (ap (λ (y : ℕ). bit y l) (led.elsewhere (8 * weak_number t weaks o + q) z)) ∙ s)
      ]
        where
          new_lane : 8 * weak_number t weaks o + q ≡ b.place → D.rel o l q ≡ true
          new_lane z = let both = split_8 (weak_number t weaks o) (weak_number t weaks (to n f).owner) q (to n f).base i used.base_low (z ∙ used.place_is) in
              let same = number_one t weaks o (to n f).owner (row_low o (weak_is t weaks o k).0) used.owner_low k used.owner_is both.0 in
              ⊎_elim (λ y. w.cells_right o q l k i j (ap (λ (m : ℕ). bit (get_or old.leads m 0) l) z ∙ y))
              (λ y. ap₂ (λ (m r : ℕ). D.rel m l r) same both.1 ∙ in_rel l j y)
              (tells_true (tells_or (tells_value (bit (get_or old.leads b.place 0) l)) (tells_value (bit b.go l)))
              (sym (ap (λ (m : ℕ). bit (get_or new.leads m 0) l) z ∙ at_place l) ∙ s))

      to_cell : Working (With Seen n f) new
      to_cell = record {
        uses_are = λ m g u s i q. rw led.uses_stay (⊎_elim (λ y. w.uses_are m g u y i q)
            (λ y. absurd (subst IsSequence (ap row (same_operand y i) ∙ is) q)) s);
        cells_in = λ m g u c s i d l j y. ⊎_elim (λ z. stays (cell_place t row table weaks x live enter m g) l (w.cells_in m g u c z i d l j y))
            (λ z. subst (λ k. bit (get_or new.leads (cell_place t row table weaks x live enter k g) 0) l ≡ true) (sym z.0)
            (subst (λ k. bit (get_or new.leads (cell_place t row table weaks x live enter n k) 0) l ≡ true) (sym z.1)
            (comes l j (ap₂ (λ k c. (to k c).go l) (sym z.0) (sym z.1) ∙ y)))) s;
        cells_right = right;
      }

    module _ (put : UsePut v b old new) (reads : WeakRow t row booleans weaks truth x v) where
      at_v : (u : ℕ) → u ≡ v → IsSequence (row u) → Kept (D.uses u) (use_at new u)
      at_v u z q = rw (z, put.here) (subst (λ k. Kept k b) (sym (lands_row D (row v) n f v (to n f) (subst (λ k. IsSequence (row k)) z q) (lands n f v has))) used)

      to_row : Working (With Seen n f) new
      to_row = record {
        uses_are = λ m g u s i q. elim (tells_dec (tells_eq u v)) [
          | yes z ↦ at_v u z q
          | no z ↦ rw (put.elsewhere u z) (⊎_elim (λ y. w.uses_are m g u y i q) (λ y. absurd (z (same_operand y i))) s)
        ];
        cells_in = λ m g u c s i d l j y. rw put.leads_stay (⊎_elim (λ z. w.cells_in m g u c z i d l j y)
            (λ z. absurd (not_boolean t row live booleans weaks truth x reads (ap row (sym (same_operand z i)) ∙ d))) s);
        cells_right = λ o q l k i j s. w.cells_right o q l k i j (rw put.leads_stay at s);
      }

    pub hand_one : WeakOperand t row booleans weaks truth x n v → Working (With Seen n f) new
    hand_one (is_cell l z r q) = to_cell (h.to_cell (ap (bit booleans) (at l) ∙ z)) r
    hand_one (is_row l z k q) =
        let low : v < 64 = omega arith in
        to_row (subst (λ u. UsePut u b old new) (at low) (h.to_row (ap (bit booleans) (at low) ∙ z))) (H.rows v k)
