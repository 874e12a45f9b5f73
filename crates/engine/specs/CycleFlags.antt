-- The two flags of a cycle: broken where a row breaks by itself, quiet where nothing is kept.
use Rattle.std.specs.Prelude.{ℕ, suc, ◌<◌, ◌^◌, ◌≡◌, Bool, not, ◌&&◌, ◌||◌, List, ◌⊎◌, T}
use Rattle.std.proofs.Common.{arith, ◌∙◌, ap₂, subst, inl, inr, ⊎_elim}
use Rattle.std.proofs.Math.Decide.{dec_le}
use Rattle.std.proofs.Math.Path.{refl, sym, ap}
use Rattle.std.proofs.Math.Bool.{true, false}
use Rattle.psl.specs.Booleans.{bit, holds, sample}
use Rattle.psl.specs.Sequences.{Sequence}
use Rattle.psl.specs.Tells.{Tells, any, tells_any, tells_and, tells_or, tells_value, tells_not_value, tells_true, tells_no, tells_iff}
use Rattle.psl.proofs.Model.Nodes.{Node, n_never}
use Rattle.psl.proofs.Model.Step.{keeps}
use Rattle.psl.proofs.Model.Judge.{breaks_at}
use Rattle.table.specs.Choice.{pick}
use Rattle.table.specs.Trees.{boolean_at}
use Rattle.table.specs.Subset.{Subset}
use Rattle.table.specs.declared.Counts.{Counts}
use Rattle.accepted.specs.Rows.{shape_of}
use Rattle.accepted.specs.WeakCells.{weak_kind}
use Rattle.lanes.specs.Bits.{tells_same}
use Rattle.lanes.specs.Rows.{Row, r_weak}
use Rattle.lanes.specs.Expected.{Table, sequence_of}
use Rattle.lanes.specs.State.{Kept}
use Rattle.lanes.specs.StateVerdict.{Quiet}
use Rattle.lanes.specs.UpPass.{operand}
use Rattle.lanes.specs.Uses.{ended_lanes}
use Rattle.lanes.specs.DownPass.{weak_use}
use Rattle.lanes.specs.Ideal.{part_of}
use Rattle.lanes.specs.Cycle.{hit, begins, enters, work, held_next, sets_by, sets_next, kept_next, broke}
use Rattle.words.specs.Bits.{bit_none, no_bits}
use Rattle.engine.specs.Reads.{kind_of, a_of}
use Rattle.engine.specs.Planned.{Planned}
use Rattle.engine.specs.Truths.{Truth}
use Rattle.engine.specs.Properties.{NeverHit}
use Rattle.engine.specs.Sides.{live_in}
use Rattle.engine.specs.NodeView.{KindCase, a_boolean, a_sequence, k_weak, k_both, k_next, k_if, k_implies, k_or, k_always, k_until, k_suffix, k_suffix_next, k_never, node_by, case_of, node_out, node_boolean, node_sequence}
use Rattle.engine.specs.PlanView as W
use Rattle.engine.specs.PlanBooleans.{is_boolean, boolean_is}
use Rattle.engine.specs.CycleSets.{moved_small}

clash : {b : Bool} → b ≡ false → b ≡ true → ⊥
clash e h = subst T (sym h ∙ e) tt

and_no : (b : Bool) → b && false ≡ true → ⊥
and_no true e = clash refl e
and_no false e = clash refl e

-- A Boolean that begins and fails.
abbrev pub BooleanFails : ℕ → ℕ → ℕ → Type 0
BooleanFails begin booleans truth = (n : ℕ) × (bit begin n ≡ true) × (bit booleans n ≡ true) × (bit truth n ≡ false)

-- Nothing is expected.
abbrev pub NoWord : ℕ → ℕ → ℕ → ℕ → Type 0
NoWord held a b all = (held ≡ 0) × (a ≡ 0) × (b ≡ 0) × (all ≡ 0)

module _ (t : List ℕ) (c : Counts) (z : Subset t c) (root booleans sides weaks : ℕ) (p : Planned t root booleans sides weaks) (root_low : root < c.nodes)
    (k : Kept) (time x : ℕ) where
  abbrev node : ℕ → Node
  node = W.node t c z root booleans sides weaks p root_low

  abbrev row : ℕ → Row
  row = W.row t c z root booleans sides weaks p root_low

  abbrev rows : Table row
  rows = W.row_table t c z root booleans sides weaks p root_low

  abbrev next : Kept
  next = kept_next row rows node root k time x

  abbrev hits : ℕ → Bool → Bool
  hits = hit row rows node root k time x

  abbrev begun : ℕ → Bool
  begun = begins row rows node root k time x

  low : (n : ℕ) → p.reached n ≡ true → n < c.nodes
  low = W.low t c z root booleans sides weaks p root_low

  module _ (begin truth all : ℕ) (begins_are : (n : ℕ) → bit begin n ≡ begun n) (right : Truth booleans (boolean_at t) x truth)
      (some_set : bit all 0 ≡ true → (n : ℕ) × (bit weaks n ≡ true) × (kind_of t n ≡ 32) × (next.sets n 0 ≡ true))
      (set_in_all : (n : ℕ) → bit weaks n ≡ true → kind_of t n ≡ 32 → next.sets n 0 ≡ true → bit all 0 ≡ true) where
    abbrev Breaks : Type 0
    Breaks = (n : ℕ) × (n < suc root) × (broke row rows node root k time x n ≡ true)

    breaks_as : {nd : Node} (n : ℕ) → node n ≡ nd → broke row rows node root k time x n ≡ breaks_at nd (begun n) (hits n (begun n)) (next.sets n 0) x
    unfolding broke
    breaks_as n q = ap (λ (x' : Node). breaks_at x' (begun n) (hits n (begun n)) (next.sets n 0) x) q

    up_to : (n : ℕ) → p.reached n ≡ true → n < suc root
    up_to n e = omega (arith, p.up_to_root n e)

    never_reached : (n : ℕ) (r : Sequence) → node n ≡ n_never r → p.reached n ≡ true
    never_reached n r q = go (p.reached n) refl
      where
        go : (b : Bool) → p.reached n ≡ b → p.reached n ≡ true
        go true e = e
        go false e = (let w = node_out t c z (sequence_of row) p.reached low n e in let y : ◌≡◌ {A = ℕ} 0 1 = cc in absurd (omega arith))

    never_breaks : NeverHit node hits (bit begin) → Breaks
    never_breaks (n, r, q, h) = (n, up_to n (never_reached n r q), breaks_as n q ∙ ap (hits n) (sym (begins_are n)) ∙ h)

    boolean_breaks : BooleanFails begin booleans truth → Breaks
    boolean_breaks (n, b, i, f) =
        let h = is_boolean t c z root booleans sides weaks p root_low n i in (
          n,
          up_to n h.0,
          breaks_as n (node_boolean t c z (sequence_of row) p.reached low n h.0 h.1)
              ∙ ap₂ (λ (u v : Bool). u && not v) (sym (begins_are n) ∙ b) (sym (right.inside n i) ∙ f),
        )

    weak_breaks : bit all 0 ≡ true → Breaks
    unfolding node_by pick
    weak_breaks e = let h = some_set e in let r = (p.weak_rows h.0 h.1).0 in
        (h.0, up_to h.0 r, breaks_as h.0 (W.at t c z root booleans sides weaks p root_low 32 h.0 r h.2) ∙ h.3)

    abbrev Ways : Type 0
    Ways = (NeverHit node hits (bit begin) ⊎ BooleanFails begin booleans truth) ⊎ (bit all 0 ≡ true)

    broken_ways : Breaks → Ways
    unfolding node_by pick
    broken_ways (n, l, e) = go (p.reached n) refl
      where
        silent : {nd : Node} → node n ≡ nd → (breaks_at nd (begun n) (hits n (begun n)) (next.sets n 0) x ≡ true → ⊥) → Ways
        silent q f = absurd (f (sym (breaks_as n q) ∙ e))

        at : (r : p.reached n ≡ true) (m : ℕ) → kind_of t n ≡ m → W.At t c z root booleans sides weaks p root_low m n
        at r m q = W.at t c z root booleans sides weaks p root_low m n r q

        here : (r : p.reached n ≡ true) → KindCase (kind_of t n) → Ways
        here r (a_boolean l) =
            let h = tells_true (tells_and (tells_value (begun n)) (tells_not_value (holds (boolean_at t n) x))) (sym (breaks_as n (node_boolean t c z (sequence_of row) p.reached low n r l)) ∙ e) in
            let b = boolean_is t c z root booleans sides weaks p root_low n r l in
            inl (inr (n, begins_are n ∙ h.0, b, right.inside n b ∙ h.1))
        here r (a_sequence l m) = silent (node_sequence t c z (sequence_of row) p.reached low n r l m) (and_no (begun n))
        here r (k_weak q) = inr (set_in_all n (p.weak_in n r q) q (sym (breaks_as n (at r 32 q)) ∙ e))
        here r (k_both q) = silent (at r 33 q) (clash refl)
        here r (k_next q) = silent (at r 34 q) (clash refl)
        here r (k_if q) = silent (at r 35 q) (clash refl)
        here r (k_implies q) = silent (at r 36 q) (clash refl)
        here r (k_or q) = silent (at r 37 q) (clash refl)
        here r (k_always q) = silent (at r 38 q) (clash refl)
        here r (k_until q) = silent (at r 39 q) (clash refl)
        here r (k_suffix q) = silent (at r 40 q) (clash refl)
        here r (k_suffix_next q) = silent (at r 41 q) (clash refl)
        here r (k_never q) = inl (inl (n, sequence_of row (a_of t n), at r 42 q, ap (hits n) (begins_are n) ∙ sym (breaks_as n (at r 42 q)) ∙ e))

        go : (b : Bool) → p.reached n ≡ b → Ways
        go true r = here r (case_of t c z (sequence_of row) p.reached low n r)
        go false r = silent (node_out t c z (sequence_of row) p.reached low n r) (and_no (begun n))

    -- BROKEN
    pub broken_is : {never fails : Bool} → Tells (NeverHit node hits (bit begin)) never → Tells (BooleanFails begin booleans truth) fails
        → (never || fails) || bit all 0 ≡ any (suc root) (broke row rows node root k time x)
    broken_is tn tf = tells_same (tells_or (tells_or tn tf) (tells_value (bit all 0))) (tells_any _ _ (λ n. tells_value (broke row rows node root k time x n)) (suc root))
        (⊎_elim (⊎_elim never_breaks boolean_breaks) weak_breaks) broken_ways

  -- nothing above the root is held
  held_out : (n : ℕ) → root < n → next.held n ≡ false
  unfolding held_next
  held_out n l = ap (λ (x' : Node). keeps x' (begun n) (k.held n) (hits n (begun n)) x) (node_out t c z (sequence_of row) p.reached low n (tells_no (tells_value (p.reached n)) (λ e. omega (arith, p.up_to_root n e))))

  -- a weak row, and its sets are among the 64
  weak_at : (n a : ℕ) → row n ≡ r_weak a → (bit weaks n ≡ true) × (kind_of t n ≡ 32)
  weak_at n a q = go (p.reached n) refl
    where
      go : (b : Bool) → p.reached n ≡ b → (bit weaks n ≡ true) × (kind_of t n ≡ 32)
      go true e = (let w = weak_kind t c z n a (sym (W.row_is t c z root booleans sides weaks p root_low n e) ∙ q) in (p.weak_in n e w.1, w.1))
      go false e = (let r = W.row_not t c z root booleans sides weaks p root_low n e in let y : ◌≡◌ {A = ℕ} 0 1 = cc in absurd (omega arith))

  set_small : (n a s : ℕ) → row n ≡ r_weak a → next.sets n s ≡ true → s < 64
  unfolding sets_next
  set_small n a s q e = moved_small (ended_lanes (operand row k.live (sample x) (part_of row k.live (sample x)) n false a) (weak_use n (enters row rows node root k time x n)))
      ((work row rows node root k time x).rel n) (enters row rows node root k time x n) (k.sets n) s (sym (ap (λ R. sets_by row rows node root k time x R n s) q) ∙ e)

  module _ (held a b all : ℕ) (held_Low : held < 2 ^ 64) (a_low : a < 2 ^ 64) (b_low : b < 2 ^ 64) (all_low : all < 2 ^ 64)
      (held_are : (n : ℕ) → bit held n ≡ next.held n) (live_are : (n : ℕ) (f : Bool) → live_in a b n f ≡ next.live n f)
      (some_set : (s : ℕ) → bit all s ≡ true → (n : ℕ) × (bit weaks n ≡ true) × (kind_of t n ≡ 32) × (s < 64 → next.sets n s ≡ true))
      (set_in_all : (n : ℕ) → bit weaks n ≡ true → kind_of t n ≡ 32 → (s : ℕ) → s < 64 → next.sets n s ≡ true → bit all s ≡ true) where
    zero_bit : (w n : ℕ) → w ≡ 0 → bit w n ≡ false
    zero_bit w n e = ap (λ (v : ℕ). bit v n) e ∙ bit_none n

    none_quiet : NoWord held a b all → Quiet row root next
    none_quiet (h, i, j, l) = record {
      none_held = λ n m. sym (held_are n) ∙ zero_bit held n h;
      none_live = λ lit. dark lit.0 lit.1 lit.2;
      none_pending = λ n v q s. tells_no (tells_value (next.sets n s)) (λ e. (let w = weak_at n v q in clash (zero_bit all s l) (set_in_all n w.0 w.1 s (set_small n v s q e) e)));
    }
      where
        dark : (m : ℕ) (f : Bool) → next.live m f ≡ true → ⊥
        dark m false e = clash (zero_bit a m i) (live_are m false ∙ e)
        dark m true e = clash (zero_bit b m j) (live_are m true ∙ e)

    quiet_none : Quiet row root next → NoWord held a b all
    unfolding shape_of pick
    quiet_none q = (
      no_bits 64 held held_Low (λ n l. held_are n ∙ elim (dec_le n root) [ yes m ↦ q.none_held n m | no m ↦ held_out n (omega arith) ]),
      no_bits 64 a a_low (λ n l. tells_no (tells_value (bit a n)) (λ e. q.none_live (n, false, sym (live_are n false) ∙ e))),
      no_bits 64 b b_low (λ n l. tells_no (tells_value (bit b n)) (λ e. q.none_live (n, true, sym (live_are n true) ∙ e))),
      no_bits 64 all all_low (λ s l. tells_no (tells_value (bit all s)) (λ e. (let h = some_set s e in
          clash (q.none_pending h.0 (a_of t h.0) (W.row_of_kind t c z root booleans sides weaks p root_low 32 h.0 (p.weak_rows h.0 h.1).0 h.2) s) (h.3 l)))),
    )

    -- QUIET
    pub quiet_is : {quiet : Bool} → Tells (NoWord held a b all) quiet → Tells (Quiet row root next) quiet
    quiet_is tq = tells_iff none_quiet quiet_none tq
