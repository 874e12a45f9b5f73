-- On each sample the property rows, what is kept and the left sides that end are what the pass over the property rows asks for.
use Rattle.std.specs.Prelude.{ℕ, ◌≤◌, ◌<◌, ◌≡◌, refl, Bool, true, false, ◌&&◌, ◌||◌, List, T, eqb, leb}
use Rattle.std.proofs.Common.{arith, sym, ◌∙◌, ap₂, subst, ⊎_elim}
use Rattle.std.proofs.Math.Decide.{dec_lt}
use Rattle.std.proofs.Math.Path.{ap}
use Rattle.std.specs.Int.Bits.{bit_or}
use Rattle.psl.specs.Booleans.{bit, holds, sample}
use Rattle.psl.proofs.Marks.Automaton.{nullable}
use Rattle.psl.specs.Tells.{tells_lt, tells_eq, tells_and, tells_value, tells_true, true_tells, tells_no}
use Rattle.psl.proofs.Model.Nodes.{Node}
use Rattle.psl.proofs.Model.Monitor as M
use Rattle.table.specs.Choice.{pick}
use Rattle.table.specs.Trees.{boolean_at}
use Rattle.table.specs.Subset.{Subset}
use Rattle.table.specs.declared.Counts.{Counts}
use Rattle.accepted.specs.Rows.{shape_of, made}
use Rattle.lanes.specs.Rows.{Row, r_bool, r_left}
use Rattle.lanes.specs.Expected.{Table, sequence_of}
use Rattle.lanes.specs.UpPass.{Part, operand_by, cell_part}
use Rattle.lanes.specs.Ideal.{part_of}
use Rattle.lanes.specs.State.{Kept, entered}
use Rattle.lanes.specs.Cycle.{hit, hit_by, left_empty}
use Rattle.engine.specs.Reads.{kind_of, a_of, b_of}
use Rattle.engine.specs.Planned.{Planned, OverLeft}
use Rattle.engine.specs.Truths.{Truth, OnlyIn, BooleanRow, reads_true, reads_false, reads_signal, reads_not, reads_and, reads_or}
use Rattle.engine.specs.Sides.{SidesUp, OverSides, HitsOver, first_part}
use Rattle.engine.specs.declared.properties.Letter.{Letter}
use Rattle.engine.specs.Properties.{Inert, inert_boolean, inert_weak, Keeping, PropertyRows}
use Rattle.engine.specs.NodeView.{KindCase, a_boolean, a_sequence, k_weak, k_both, k_next, k_if, k_implies, k_or, k_always, k_until, k_suffix, k_suffix_next, k_never, case_of}
use Rattle.engine.specs.PlanView as W
use Rattle.engine.specs.PlanProperty.{Proper}
use Rattle.engine.specs.PlanBooleans.{boolean_is, boolean_rows}
use Rattle.engine.specs.PlanState.{InPlace}
use Rattle.engine.specs.PlanRows.{left_ended, proper, proper_is, is_proper, beyond, leaf, property_row_lem}

not_inert : {nd : Node} → Inert nd → Keeping nd → ⊥
not_inert inert_boolean k = elim k [ ]
not_inert inert_weak k = elim k [ ]

module _ (t : List ℕ) (c : Counts) (z : Subset t c) (root booleans sides weaks : ℕ) (p : Planned t root booleans sides weaks) (root_low : root < c.nodes) where
  abbrev node : ℕ → Node
  node = W.node t c z root booleans sides weaks p root_low

  abbrev row : ℕ → Row
  row = W.row t c z root booleans sides weaks p root_low

  abbrev rows : Table row
  rows = W.row_table t c z root booleans sides weaks p root_low

  abbrev inside : ℕ → Bool
  inside = proper t c z root booleans sides weaks p root_low

  low : (n : ℕ) → p.reached n ≡ true → n < c.nodes
  low = W.low t c z root booleans sides weaks p root_low

  -- a Boolean row
  pub row_boolean : (n : ℕ) → bit booleans n ≡ true → p.reached n ≡ true → row n ≡ r_bool (boolean_at t n)
  unfolding shape_of pick
  row_boolean n b e = here (boolean_rows t c z root booleans sides weaks p root_low n b)
    where
      of : (k : ℕ) → kind_of t n ≡ k → row n ≡ made (shape_of k) (a_of t n) (b_of t n) (boolean_at t n)
      of k q = W.row_of_kind t c z root booleans sides weaks p root_low k n e q

      here : BooleanRow t booleans (boolean_at t) n → row n ≡ r_bool (boolean_at t n)
      here (reads_true q v) = of 1 q
      here (reads_false q v) = of 2 q
      here (reads_signal q l v) = of 3 q
      here (reads_not q l i v) = of 4 q
      here (reads_and q l i m j v) = of 5 q
      here (reads_or q l i m j v) = of 6 q

  -- a row over a left side
  pub row_left : (n : ℕ) → p.reached n ≡ true → OverLeft t n → row n ≡ r_left (a_of t n)
  unfolding shape_of pick
  row_left n e o = elim (dec_lt (kind_of t n) 41) [
    | yes a ↦ of 40 (omega (arith, o.from))
    | no a ↦ elim (dec_lt (kind_of t n) 42) [ yes b ↦ of 41 (omega arith) | no b ↦ of 42 (omega (arith, o.upto)) ]
  ]
    where
      of : (k : ℕ) → kind_of t n ≡ k → row n ≡ made (shape_of k) (a_of t n) (b_of t n) (boolean_at t n)
      of k q = W.row_of_kind t c z root booleans sides weaks p root_low k n e q

  pub left_operand : (n : ℕ) → p.reached n ≡ true → OverLeft t n → p.reached (a_of t n) ≡ true
  left_operand n e o = W.operands_in t c z root booleans sides weaks p root_low n false (a_of t n) e (rw (sym (W.row_is t c z root booleans sides weaks p root_low n e) ∙ row_left n e o) refl)

  -- a node that can stay held is reached, and no row of a sequence
  pub keeping_proper : (n : ℕ) → Keeping (node n) → inside n ≡ true
  keeping_proper n h = go (inside n) refl
    where
      go : (b : Bool) → inside n ≡ b → inside n ≡ true
      go true e = e
      go false e = absurd (not_inert (beyond t c z root booleans sides weaks p root_low n e) h)

  module _ (k : Kept) (place : InPlace row node k) (time x : ℕ) (letter : Letter) (right : Truth booleans (boolean_at t) x letter.truth)
      (only : OnlyIn booleans letter.truth) (lefts : List ℕ) (up : SidesUp t row k.live sides x lefts letter.hits) (hits_over : HitsOver t sides letter.hits) where
    abbrev part : ℕ → Part
    part n = first_part row k.live x n (a_of t n)

    -- a left side that ends, by its first operand's part
    hit_part : (n : ℕ) → p.reached n ≡ true → OverLeft t n → (now : Bool)
        → hit row rows node root k time x n now ≡ (part n).ends 7 || ((part n).early && entered (M.use_of (node n)) now (k.held n))
    unfolding hit
    hit_part n e o now = ap (λ R. hit_by row rows node root k time x R n now) (row_left n e o) ∙ left_ended (part n) (entered (M.use_of (node n)) now (k.held n))

    off : (n : ℕ) → bit sides n ≡ false → (word : ℕ) → OverSides t sides word → bit word n ≡ false
    off n s word over = tells_no (tells_value (bit word n)) (λ e. subst T (sym (over n e).0 ∙ s) tt)

    kind_low : (v : ℕ) → leb 16 (kind_of t v) ≡ false → kind_of t v < 16
    kind_low v e = elim (dec_lt (kind_of t v) 16) [ yes l ↦ l | no l ↦ absurd (subst T (sym (true_tells (tells_lt 15 (kind_of t v)) (omega arith)) ∙ e) tt) ]

    kind_high : (v : ℕ) → leb 16 (kind_of t v) ≡ true → 15 < kind_of t v
    kind_high v e = tells_true (tells_lt 15 (kind_of t v)) e

    -- in the set: the words have what the upward pass found; not in it: the left side is a Boolean, which is never expected
    pub hits_are : (n : ℕ) → p.reached n ≡ true → OverLeft t n → (now : Bool)
        → hit row rows node root k time x n now ≡ bit letter.hits.ends n || ((bit letter.hits.early n || bit letter.truth (a_of t n)) && entered (M.use_of (node n)) now (k.held n))
    hits_are n e o now = hit_part n e o now ∙ by (bit sides n) refl
      where
        on : Bool
        on = entered (M.use_of (node n)) now (k.held n)

        or_no : (b : Bool) → b ≡ b || false
        or_no true = refl
        or_no false = refl

        by : (s : Bool) → bit sides n ≡ s → (part n).ends 7 || ((part n).early && entered (M.use_of (node n)) now (k.held n))
            ≡ bit letter.hits.ends n || ((bit letter.hits.early n || bit letter.truth (a_of t n)) && entered (M.use_of (node n)) now (k.held n))
        by true s =
            let a = kind_high (a_of t n) (sym (p.left_in n e o) ∙ s) in
            let b : bit booleans (a_of t n) ≡ false = p.booleans_are (a_of t n) ∙ tells_no (tells_and (tells_value (p.reached (a_of t n))) (tells_lt (kind_of t (a_of t n)) 16)) (λ h. omega (arith, h.1)) in
            ap₂ (λ (x y : Bool). x || (y && entered (M.use_of (node n)) now (k.held n))) (sym (up.ends_are n s (omega (arith, o.from))))
            (sym (up.early_are n s (omega (arith, o.from))) ∙ or_no (bit letter.hits.early n) ∙ ap (λ (x : Bool). bit letter.hits.early n || x) (sym (only (a_of t n) b)))
        by false s =
            let l = kind_low (a_of t n) (sym (p.left_in n e o) ∙ s) in
            let r = left_operand n e o in
            let b = boolean_is t c z root booleans sides weaks p root_low (a_of t n) r l in
            let q : part n ≡ cell_part (holds (boolean_at t (a_of t n)) x) (k.live n false) = ap (λ R. operand_by row k.live (sample x) (part_of row k.live (sample x)) R n false (a_of t n)) (row_boolean (a_of t n) b r) in
            let d = place.left_dark n (a_of t n) false (row_left n e o) in
            ap₂ (λ (u : Part) (v : Bool). u.ends 7 || (u.early && entered (M.use_of (node n)) now (k.held n))) q d
            ∙ dark_cell (holds (boolean_at t (a_of t n)) x) (k.live n false) d
            ∙ sym (ap₂ (λ (u v : Bool). u || ((v || bit letter.truth (a_of t n)) && entered (M.use_of (node n)) now (k.held n))) (off n s _ hits_over.0) (off n s _ hits_over.1)
            ∙ ap (λ (v : Bool). v && entered (M.use_of (node n)) now (k.held n)) (right.inside (a_of t n) b))
          where
            dark_cell : (h l : Bool) → l ≡ false → (cell_part h l).ends 7 || ((cell_part h l).early && entered (M.use_of (node n)) now (k.held n)) ≡ h && entered (M.use_of (node n)) now (k.held n)
            dark_cell true l d = ap (λ (v : Bool). v || entered (M.use_of (node n)) now (k.held n)) d
            dark_cell false l d = refl

    -- whether a left side can be empty: a Boolean cannot
    empties_are : (n : ℕ) → p.reached n ≡ true → OverLeft t n → bit letter.hits.empty n ≡ nullable (sequence_of row (a_of t n))
    empties_are n e o = by (bit sides n) refl ∙ left_empty row rows k.live (sample x) n (a_of t n) (row_left n e o)
      where
        by : (s : Bool) → bit sides n ≡ s → bit letter.hits.empty n ≡ (part n).empty
        by true s = up.empty_are n s (omega (arith, o.from))
        by false s =
            let r = left_operand n e o in
            let b = boolean_is t c z root booleans sides weaks p root_low (a_of t n) r (kind_low (a_of t n) (sym (p.left_in n e o) ∙ s)) in
            off n s _ hits_over.2 ∙ sym (ap (λ R. (operand_by row k.live (sample x) (part_of row k.live (sample x)) R n false (a_of t n)).empty) (row_boolean (a_of t n) b r))

    -- a row over a left side of the set is reached
    side_left : (n : ℕ) → bit sides n ≡ true → 32 ≤ kind_of t n → (p.reached n ≡ true) × OverLeft t n
    side_left n s l = let h = p.side_rows n s in ⊎_elim (λ q. absurd (omega (arith, q.upto))) (λ o. (h.0, o)) h.1

    left_proper : (n : ℕ) → p.reached n ≡ true → OverLeft t n → inside n ≡ true
    left_proper n e o = is_proper t c z root booleans sides weaks p root_low n e (λ h. omega (arith, h.1, o.from))

    over : (n : ℕ) → inside n ≡ true → 40 ≤ kind_of t n → (p.reached n ≡ true) × OverLeft t n
    over n e l = let h = proper_is t c z root booleans sides weaks p root_low n e in (h.0, record { from = l; upto = high (case_of t c z (sequence_of row) p.reached low n h.0) })
      where
        high : KindCase (kind_of t n) → kind_of t n ≤ 42
        high (a_boolean q) = omega arith
        high (a_sequence q r) = omega arith
        high (k_weak q) = omega arith
        high (k_both q) = omega arith
        high (k_next q) = omega arith
        high (k_if q) = omega arith
        high (k_implies q) = omega arith
        high (k_or q) = omega arith
        high (k_always q) = omega arith
        high (k_until q) = omega arith
        high (k_suffix q) = omega arith
        high (k_suffix_next q) = omega arith
        high (k_never q) = omega arith

    module _ (root_proper : Proper t c z root booleans sides weaks p root_low root) (first : ℕ) (first_is : (n : ℕ) → bit first n ≡ eqb n root && eqb time 0)
        (was_is : (n : ℕ) → bit letter.was n ≡ k.held n) where
      pub property_rows : PropertyRows t (bit_or booleans weaks) first letter x root node inside (hit row rows node root k time x)
      property_rows = record {
        root_low = omega (arith, root_low, z.layout.nodes_range);
        up_to_root = λ n e. p.up_to_root n (proper_is t c z root booleans sides weaks p root_low n e).0;
        first_in = λ n e. (let h = tells_true (tells_and (tells_eq n root) (tells_eq time 0)) (sym (first_is n) ∙ e) in
            rw h.0 (is_proper t c z root booleans sides weaks p root_low root p.root_reached root_proper));
        was_in = λ n e. keeping_proper n (place.held_keeps n (sym (was_is n) ∙ e));
        was_kept = λ n e. place.held_keeps n (sym (was_is n) ∙ e);
        ends_in = λ n e. (let h = hits_over.0 n e in let s = side_left n h.0 h.1 in left_proper n s.0 s.1);
        ends_over = λ n e. (let h = hits_over.0 n e in let s = side_left n h.0 h.1 in s.1.from);
        leaf = leaf t c z root booleans sides weaks p root_low;
        beyond = beyond t c z root booleans sides weaks p root_low;
        row = property_row_lem t c z root booleans sides weaks p root_low x letter right empties_are;
        hits = λ n e l m now. (let o = over n e m in hits_are n o.0 o.1 now ∙ ap (λ (b : Bool). bit letter.hits.ends n || ((bit letter.hits.early n || bit letter.truth (a_of t n)) && entered (M.use_of (node n)) now b)) (sym (was_is n)));
      }
