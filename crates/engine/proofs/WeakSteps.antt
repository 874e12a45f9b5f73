-- The downward pass over weak sequences: one row.
use Prim.Native.Nat.{ℕ, suc, ◌+◌, ◌-◌, ◌%◌, ◌≤◌, ◌<◌}
use native.Mathlib.Nat.{mod-eq_of_lt}
use native.Mathlib.Omega.{arith}
use mathlib.Core.Path.{◌≡◌, refl, sym, ◌∙◌, ap, subst}
use mathlib.Core.Bool.{Bool, true, false}
use mathlib.Core.List.{List}
use mathlib.Core.Logic.{◌⊎◌, inl, inr}
use lib.ListN.{get_or}
use Rattle.psl.specs.Booleans.{bit, sample}
use Rattle.psl.specs.Tells.{tells_eq, tells_dec}
use Rattle.psl.proofs.Marks.Masks.{cells}
use Rattle.lanes.specs.ShiftedLanes.{Cap, exact, over}
use Rattle.lanes.specs.Rows.{Row, Has}
use Rattle.lanes.specs.Expected.{Table}
use Rattle.lanes.specs.UpPass.{Part, part_ok}
use Rattle.lanes.specs.Uses.{Use, then_use, fuse_use, alt_use, loop_use}
use Rattle.lanes.specs.DownPass.{Work, weak_use}
use Rattle.lanes.specs.Ideal.{part_of, parts_right, whole_right}
use Rattle.engine.specs.Reads.{kind_of, a_of, b_of}
use Rattle.engine.specs.Weaks.{WeakOperand, WeakRow, reads_then, reads_fuse, reads_alt, reads_star, reads_plus, reads_weak, weaks_above, weak_number}
use Rattle.engine.specs.declared.weak_parts.Part.{Part as PartBytes}
use Rattle.engine.specs.declared.weak_parts.Parts.{Parts}
use Rattle.engine.specs.declared.weak_uses.Use.{Use as UseBytes}
use Rattle.engine.specs.declared.weak_uses.Uses.{Uses}
use Rattle.engine.specs.WeakParts.{PartIs, part_at, part_in}
use Rattle.engine.specs.WeakUses.{UseIs, TopIs, RightUse, LeftUse, WholeUse, Tops, RightIs}
use Rattle.engine.specs.WeakHanded.{use_at, Handed, Met}
use Rattle.engine.specs.WeakPass.{is_weak, WeakPass, finished, handed_to, WeakWork, SeenFrom, WeakDown, RowDone}
use Rattle.engine.proofs.WeakUp.{kept_at, operand_kept}
use Rattle.engine.proofs.WeakNumbers.{weak_is, is_weak_lem, number_one, met_weak, met_none}
use Rattle.engine.proofs.WeakWork.{row_low, is_sequence, narrow, hand_one}

module _ {t : List ℕ} {row : ℕ → Row} {booleans weaks truth begin x : ℕ} {enter : ℕ → Bool} {parts : Parts} (table : Table row) (live : ℕ → Bool → Bool)
    (H : WeakPass t row booleans weaks truth begin x enter parts) (n : ℕ) (in_set : bit weaks n ≡ true) where
  abbrev D : Work
  D = finished t row table weaks x live enter

  abbrev to : Bool → Use
  to f = handed_to t row table weaks x live enter n f

  abbrev Working : (ℕ → Bool → Type 0) → Uses → Type 0
  Working Seen k = WeakWork t row table weaks x live enter Seen k

  abbrev From : ℕ → ℕ → Bool → Type 0
  From top = SeenFrom t row table weaks x live enter top

  abbrev Down : ℕ → Uses → Type 0
  Down = WeakDown t row table weaks x live enter

  abbrev Kept : Use → UseBytes → Type 0
  Kept u b = UseIs (is_weak t weaks) (weak_number t weaks) u b

  low : n < 64
  low = row_low table live H n in_set

  abbrev first : Part
  first = part_in row live x n false (a_of t n)

  -- what the upward pass found of the first operand
  first_part : {v : ℕ} {a : PartBytes} → WeakOperand t row booleans weaks truth x n (a_of t n) → a ≡ part_at parts (v % 64) → v ≡ a_of t n → PartIs first a
  first_part o A e = kept_at (operand_kept t row live booleans weaks truth x low H.rows H.parts_up.cells_are (λ u l w k. H.parts_up.parts_are row live x table.sound H.rows u w k) false o) A e

  -- the cells of the first operand stay within the weak sequence
  first_fits : Has (row n) false (a_of t n) → (to false).owner < 64 → (to false).base + first.count < 8
  first_fits i o =
      let P = (whole_right row table live (sample x) enter).placed n (omega arith) false (a_of t n) i in
      within (cells P.sequence) (P.fine.apart o).fits (part_ok row live (sample x) (part_of row live (sample x)) (parts_right row live (sample x) table.sound) P.sits).count_is
    where
      within : (k : ℕ) → (to false).base + k ≤ 6 → Cap k first.count → (to false).base + first.count < 8
      within k h (exact a b) = omega arith
      within k h (over a b) = absurd (omega arith)

  -- the use of a sequence row came from a row above
  use_here : {k : Uses} {b : UseBytes} → kind_of t n < 32 → Working (From (suc n)) k → b ≡ use_at k (n % 64) → Kept (D.uses n) b
  use_here small w B =
      let q = is_sequence table live H (H.rows n in_set) small in
      let u = table.sound.used n q in
      rw (B, mod-eq_of_lt low) (w.uses_are u.0 u.1 n (table.sound.falls u.0 u.1 n u.2, H.users u.0 u.1 n u.2 in_set small) u.2 q)

  -- the rows above, and the first operand of n
  abbrev Once : ℕ → Bool → Type 0
  Once m g = From (suc n) m g ⊎ ((m ≡ n) × (g ≡ false))

  loop_all : {k : Uses} → ((u : ℕ) → Has (row n) true u → ⊥) → Working Once k → Working (From n) k
  loop_all none y = narrow table live H (λ m g u s i. by m g u s i (tells_dec (tells_eq m n))) y
    where
      here : (g : Bool) {m : ℕ} (u : ℕ) → m ≡ n → Has (row m) g u → Once m g
      here true u z i = absurd (none u (subst (λ j. Has (row j) true u) z i))
      here false u z i = inr (z, refl)

      by : (m : ℕ) (g : Bool) (u : ℕ) → From n m g → Has (row m) g u → Dec (m ≡ n) → Once m g
      by m g u s i (yes z) = here g u z i
      by m g u s i (no z) = inl (omega (arith, s.0), s.1)

  -- a row that is no weak row: the tops stay, and no weak sequence is met
  unmet : {old new : Uses} → kind_of t n < 32 → new.tops ≡ old.tops → new.met ≡ old.met → Working (From n) new → Down (suc n) old → Down n new
  unmet {old} {new} small T M work d = record {
    work = work;
    tops_are = λ m l z. rw T (d.tops_are m (above m l z (tells_dec (tells_eq m n))) z);
    met = M ∙ d.met ∙ ap (weaks_above t weaks) (let z : 64 - suc n ≡ 63 - n = omega arith in z) ∙ sym (met_none t weaks n low (other (is_weak t weaks n) refl));
  }
    where
      not_here : is_weak t weaks n ≡ true → ⊥
      not_here z = omega (arith, (weak_is t weaks n z).1)

      other : (b : Bool) → is_weak t weaks n ≡ b → b ≡ false
      other true z = absurd (not_here z)
      other false z = refl

      above : (m : ℕ) → n ≤ m → is_weak t weaks m ≡ true → Dec (m ≡ n) → suc n ≤ m
      above m l z (yes q) = absurd (not_here (ap (is_weak t weaks) (sym q) ∙ z))
      above m l z (no q) = omega arith

  module _ {kind v : ℕ} {a : PartBytes} {b l : UseBytes} {old mid : Uses} (K : kind ≡ kind_of t n) (small : kind_of t n < 32) (B : b ≡ use_at old (n % 64))
      (e : v ≡ a_of t n) (A : a ≡ part_at parts (v % 64)) (L : LeftUse kind a b l) (h : Handed booleans v l old mid) (d : Down (suc n) old) where
    used : Kept (D.uses n) b
    used = use_here small d.work B

    handed_first : Has (row n) false (a_of t n) → WeakOperand t row booleans weaks truth x n (a_of t n) → Kept (to false) l → Working Once mid
    handed_first i o k = hand_one table live H d.work n false v (a_of t n) l h e low i k o

    first_pair : WeakOperand t row booleans weaks truth x n (a_of t n) → kind ≤ 18 → to false ≡ D.uses n → Kept (to false) l
    first_pair o y q = subst (λ u. Kept u l) (sym q) ((L (is_weak t weaks) (weak_number t weaks) first (D.uses n) (first_part o A e) used).pair_is y)

    first_loop : WeakOperand t row booleans weaks truth x n (a_of t n) → 18 < kind → to false ≡ loop_use first (D.uses n) → Kept (to false) l
    first_loop o y q = subst (λ u. Kept u l) (sym q) ((L (is_weak t weaks) (weak_number t weaks) first (D.uses n) (first_part o A e) used).loop_is y)

    pub step_loop : 18 < kind → Down n mid
    step_loop y = unmet small h.tops_stay h.met_stays (by (H.rows n in_set)) d
      where
        by : WeakRow t row booleans weaks truth x n → Working (From n) mid
        by (reads_star z r o) = loop_all (λ u i. rw r at i) (handed_first (rw r refl) o (first_loop o y (rw r)))
        by (reads_plus z r o) = loop_all (λ u i. rw r at i) (handed_first (rw r refl) o (first_loop o y (rw r)))
        by (reads_then z r o p) = absurd (omega arith)
        by (reads_fuse z r o p) = absurd (omega arith)
        by (reads_alt z r o p) = absurd (omega arith)
        by (reads_weak z r o) = absurd (omega arith)

    module _ {v₂ : ℕ} {r₂ : UseBytes} {new : Uses} (y : kind ≤ 18) (e₂ : v₂ ≡ b_of t n) (R : RightUse kind a b r₂) (h₂ : Handed booleans v₂ r₂ mid new) where
      abbrev Twice : ℕ → Bool → Type 0
      Twice m g = Once m g ⊎ ((m ≡ n) × (g ≡ true))

      pair_all : Working Twice new → Working (From n) new
      pair_all w = narrow table live H (λ m g u s i. by m g s (tells_dec (tells_eq m n))) w
        where
          here : (g : Bool) {m : ℕ} → m ≡ n → Twice m g
          here true z = inr (z, refl)
          here false z = inl (inr (z, refl))

          by : (m : ℕ) (g : Bool) → From n m g → Dec (m ≡ n) → Twice m g
          by m g s (yes z) = here g z
          by m g s (no z) = inl (inl (omega (arith, s.0), s.1))

      fits : Has (row n) false (a_of t n) → to false ≡ D.uses n → (D.uses n).base + first.count < 8
      fits i q = subst (λ u. u.base + first.count < 8) q (first_fits i (subst (λ u. u.owner < 64) (sym q) used.owner_low))

      -- what is handed to the second operand is `after`, by the kind
      both : (after : Use) → Has (row n) false (a_of t n) → Has (row n) true (b_of t n) → WeakOperand t row booleans weaks truth x n (a_of t n) → WeakOperand t row booleans weaks truth x n (b_of t n)
          → to false ≡ D.uses n → to true ≡ after → (RightIs (is_weak t weaks) (weak_number t weaks) kind first (D.uses n) r₂ → Kept after r₂) → Working (From n) new
      both after i j o p q z is = pair_all (hand_one table live H (handed_first i o (first_pair o y q)) n true v₂ (b_of t n) r₂ h₂ e₂ low j
          (subst (λ u. Kept u r₂) (sym z) (is (R (is_weak t weaks) (weak_number t weaks) first (D.uses n) (first_part o A e) used (fits i q)))) p)

      pub step_pair : Down n new
      step_pair = unmet small (h₂.tops_stay ∙ h.tops_stay) (h₂.met_stays ∙ h.met_stays) (by (H.rows n in_set)) d
        where
          by : WeakRow t row booleans weaks truth x n → Working (From n) new
          by (reads_then z r o p) = both (then_use first (D.uses n)) (rw r refl) (rw r refl) o p (rw r) (rw r) (λ is. is.then_is (K ∙ z))
          by (reads_fuse z r o p) = both (fuse_use first (D.uses n)) (rw r refl) (rw r refl) o p (rw r) (rw r) (λ is. is.fuse_is (K ∙ z))
          by (reads_alt z r o p) = both (alt_use first (D.uses n)) (rw r refl) (rw r refl) o p (rw r) (rw r) (λ is. is.alt_is (K ∙ z))
          by (reads_star z r o) = absurd (omega arith)
          by (reads_plus z r o) = absurd (omega arith)
          by (reads_weak z r o) = absurd (omega arith)

  -- a weak row
  module _ {v b w : ℕ} {a : PartBytes} {on : Bool} {u : UseBytes} {old mid new : Uses} (K : kind_of t n ≡ 32) (starts : on ≡ bit begin (n % 64)) (e : v ≡ a_of t n)
      (A : a ≡ part_at parts (v % 64)) (B : Tops a.act on b) (M : Met b w old mid) (W : WholeUse w on u) (h : Handed booleans v u mid new) (d : Down (suc n) old) where
    number : old.met ≡ weak_number t weaks n
    number = d.met ∙ ap (weaks_above t weaks) (let z : 64 - suc n ≡ 63 - n = omega arith in z)

    few : weak_number t weaks n < 32
    few = H.few n in_set K

    at : w ≡ weak_number t weaks n
    at = M.number_is ∙ ap (λ (i : ℕ). i % 32) number ∙ mod-eq_of_lt few

    begins : on ≡ enter n
    begins = starts ∙ ap (bit begin) (mod-eq_of_lt low) ∙ sym (H.enters n in_set K)

    here_weak : is_weak t weaks n ≡ true
    here_weak = is_weak_lem t weaks n in_set K

    top_here : WeakOperand t row booleans weaks truth x n (a_of t n) → TopIs first n (enter n) b
    top_here o = subst (λ z. TopIs first n z b) begins (B first n (first_part o A e).act_is low)

    kept_here : get_or new.tops (weak_number t weaks n) 0 ≡ b
    kept_here = rw (h.tops_stay, ← at) M.here

    kept_there : (m : ℕ) → m < 64 → is_weak t weaks m ≡ true → (m ≡ n → ⊥) → get_or new.tops (weak_number t weaks m) 0 ≡ get_or old.tops (weak_number t weaks m) 0
    kept_there m l z q = rw h.tops_stay (M.elsewhere (weak_number t weaks m) (λ y. q (number_one t weaks m n l low z here_weak (y ∙ at))))

    tops_here : WeakOperand t row booleans weaks truth x n (a_of t n) → (m : ℕ) → n ≤ m → is_weak t weaks m ≡ true → TopIs (part_in row live x m false (a_of t m)) m (enter m) (get_or new.tops (weak_number t weaks m) 0)
    tops_here o m l z = by (tells_dec (tells_eq m n))
      where
        by : Dec (m ≡ n) → TopIs (part_in row live x m false (a_of t m)) m (enter m) (get_or new.tops (weak_number t weaks m) 0)
        by (yes q) = subst (λ k. TopIs (part_in row live x k false (a_of t k)) k (enter k) (get_or new.tops (weak_number t weaks k) 0)) (sym q) (rw kept_here (top_here o))
        by (no q) = rw (kept_there m (row_low table live H m (weak_is t weaks m z).0) z q) (d.tops_are m (omega arith) z)

    -- what was handed before stays
    before : Working (From (suc n)) mid
    before = record {
      uses_are = λ m g y s i q. rw M.uses_stay (d.work.uses_are m g y s i q);
      cells_in = λ m g y c s i r l j z. rw M.leads_stay (d.work.cells_in m g y c s i r l j z);
      cells_right = λ o q l k i j s. d.work.cells_right o q l k i j (rw M.leads_stay at s);
    }

    pub step_weak : Down n new
    step_weak = by (H.rows n in_set)
      where
        by : WeakRow t row booleans weaks truth x n → Down n new
        by (reads_weak q r o) =
            let k : to false ≡ weak_use n (enter n) = rw r in
            record {
              work = loop_all (λ u i. rw r at i) (hand_one table live H before n false v (a_of t n) u h e low (rw r refl)
                  (subst (λ y. Kept y u) (sym k) (subst (λ z. Kept (weak_use n z) u) begins (W (is_weak t weaks) (weak_number t weaks) n here_weak low (sym at) (omega (arith, at, few))))) o);
              tops_are = tops_here o;
              met = h.met_stays ∙ M.met_is ∙ ap (λ (z : ℕ). z + 1) at ∙ sym (met_weak t weaks n low here_weak);
            }
        by (reads_then q r o p) = absurd (omega arith)
        by (reads_fuse q r o p) = absurd (omega arith)
        by (reads_alt q r o p) = absurd (omega arith)
        by (reads_star q r o) = absurd (omega arith)
        by (reads_plus q r o) = absurd (omega arith)

  kind_32 : WeakRow t row booleans weaks truth x n → 32 ≤ kind_of t n → kind_of t n ≡ 32
  kind_32 (reads_weak q r o) l = q
  kind_32 (reads_then q r o p) l = absurd (omega arith)
  kind_32 (reads_fuse q r o p) l = absurd (omega arith)
  kind_32 (reads_alt q r o p) l = absurd (omega arith)
  kind_32 (reads_star q r o) l = absurd (omega arith)
  kind_32 (reads_plus q r o) l = absurd (omega arith)

pub inner_pair : {t : List ℕ} {n booleans kind v v₂ : ℕ} {parts : Parts} {a : PartBytes} {b l r : UseBytes} {old mid new : Uses} → kind ≡ kind_of t n → kind_of t n < 32
    → b ≡ use_at old (n % 64) → v ≡ a_of t n → a ≡ part_at parts (v % 64) → LeftUse kind a b l → Handed booleans v l old mid
    → kind ≤ 18 → v₂ ≡ b_of t n → RightUse kind a b r → Handed booleans v₂ r mid new → (begin : ℕ) → RowDone t n booleans begin parts old new
inner_pair K small B e A L h y e₂ R h₂ begin row table weaks truth x live enter H in_set d =
    step_pair table live H _ in_set K small B e A L h d y e₂ R h₂

pub inner_loop : {t : List ℕ} {n booleans kind v : ℕ} {parts : Parts} {a : PartBytes} {b l : UseBytes} {old new : Uses} → kind ≡ kind_of t n → kind_of t n < 32
    → b ≡ use_at old (n % 64) → v ≡ a_of t n → a ≡ part_at parts (v % 64) → LeftUse kind a b l → Handed booleans v l old new → 18 < kind
    → (begin : ℕ) → RowDone t n booleans begin parts old new
inner_loop K small B e A L h y begin row table weaks truth x live enter H in_set d = step_loop table live H _ in_set K small B e A L h d y

pub row_weak : {t : List ℕ} {n booleans begin v b w : ℕ} {parts : Parts} {a : PartBytes} {on : Bool} {u : UseBytes} {old mid new : Uses} → on ≡ bit begin (n % 64) → v ≡ a_of t n
    → a ≡ part_at parts (v % 64) → Tops a.act on b → Met b w old mid → WholeUse w on u → Handed booleans v u mid new → 32 ≤ kind_of t n → RowDone t n booleans begin parts old new
row_weak starts e A B M W h l row table weaks truth x live enter H in_set d =
    step_weak table live H _ in_set (kind_32 table live H _ in_set (H.rows _ in_set) l) starts e A B M W h d
