-- What a cycle leaves in its words represents what the cycle as a function keeps; and its two flags tell broken and quiet.
use Rattle.std.specs.Prelude.{ℕ, ◌<◌, ◌≡◌, Bool, true, List, get_or, length}
use Rattle.std.proofs.Common.{arith, ◌∙◌, ap}
use Rattle.std.proofs.Math.Decide.{dec_lt}
use Rattle.std.proofs.Math.Path.{refl, sym, subst}
use Rattle.std.proofs.Math.Bool.{false}
use Rattle.std.proofs.Math.Dec.{T}
use Rattle.psl.specs.Booleans.{bit, sample}
use Rattle.psl.specs.Tells.{tells_value, tells_no}
use Rattle.psl.proofs.Model.Nodes.{Node}
use Rattle.table.specs.Choice.{pick}
use Rattle.table.specs.Subset.{Subset}
use Rattle.table.specs.declared.Counts.{Counts}
use Rattle.accepted.specs.Rows.{shape_of}
use Rattle.lanes.specs.Rows.{Row}
use Rattle.lanes.specs.Expected.{Table}
use Rattle.lanes.specs.State.{Kept}
use Rattle.lanes.specs.Cycle.{enters, work, sets_by, sets_next, kept_next}
use Rattle.words.specs.Bits.{bit_none}
use Rattle.engine.specs.Reads.{kind_of}
use Rattle.engine.specs.Planned.{Planned}
use Rattle.engine.specs.Truths.{OnlyIn}
use Rattle.engine.specs.Sides.{live_in, SidesDown}
use Rattle.engine.specs.Weaks.{weaks_above, weak_number, WeakLanes}
use Rattle.engine.specs.Families.{Moved}
use Rattle.engine.specs.PlanView as W
use Rattle.engine.specs.PlanOwners.{after_in_sides}
use Rattle.engine.specs.CycleSets.{moved_same, number_below, number_of}

-- The words and families of a monitor have what is kept.
pub record Represented (t : List ℕ) (weaks : ℕ) (k : Kept) (held live_a live_b : ℕ) (families : List ℕ) : Type 0 where
  pub held_is : (n : ℕ) → bit held n ≡ k.held n
  pub live_is : (n : ℕ) (f : Bool) → live_in live_a live_b n f ≡ k.live n f
  pub sets_are : (n : ℕ) → bit weaks n ≡ true → kind_of t n ≡ 32 → (s : ℕ) → s < 64 → bit (get_or families (weak_number t weaks n) 0) s ≡ k.sets n s
  pub size : length families ≡ 32
  -- a family of no weak sequence is empty
  pub spare : (w : ℕ) → ((n : ℕ) → bit weaks n ≡ true → kind_of t n ≡ 32 → ¬ (weak_number t weaks n ≡ w)) → get_or families w 0 ≡ 0

-- What is left of the weak sequences after a sample: the new families, and `all`, which has each set that is left in one of them.
pub record SetsLeft (t : List ℕ) (weaks : ℕ) (next : Kept) (old new : List ℕ) (all : ℕ) : Type 0 where
  pub sets_new : (n : ℕ) → bit weaks n ≡ true → kind_of t n ≡ 32 → (s : ℕ) → s < 64 → bit (get_or new (weak_number t weaks n) 0) s ≡ next.sets n s
  pub some_set : (s : ℕ) → bit all s ≡ true → (n : ℕ) × (bit weaks n ≡ true) × (kind_of t n ≡ 32) × (s < 64 → next.sets n s ≡ true)
  pub set_in_all : (n : ℕ) → bit weaks n ≡ true → kind_of t n ≡ 32 → (s : ℕ) → s < 64 → next.sets n s ≡ true → bit all s ≡ true
  pub spare : (w : ℕ) → ((n : ℕ) → bit weaks n ≡ true → kind_of t n ≡ 32 → ¬ (weak_number t weaks n ≡ w)) → get_or new w 0 ≡ get_or old w 0
  pub size : length new ≡ length old

module _ (t : List ℕ) (c : Counts) (z : Subset t c) (root booleans sides weaks : ℕ) (p : Planned t root booleans sides weaks) (root_low : root < c.nodes)
    (k : Kept) (time x : ℕ) where
  abbrev node : ℕ → Node
  node = W.node t c z root booleans sides weaks p root_low

  abbrev row : ℕ → Row
  row = W.row t c z root booleans sides weaks p root_low

  abbrev rows : Table row
  rows = W.row_table t c z root booleans sides weaks p root_low

  abbrev next : Kept
  next = kept_next row rows node root k time x

  abbrev enter : ℕ → Bool
  enter = enters row rows node root k time x

  low : (n : ℕ) → p.reached n ≡ true → n < 64
  low n e = omega (arith, W.low t c z root booleans sides weaks p root_low n e, z.layout.nodes_range)

  -- THE CELLS expected next, everywhere
  pub live_next : (a b : ℕ) → SidesDown row rows k.live sides x enter a b → OnlyIn sides a → OnlyIn sides b → (n : ℕ) (f : Bool) → live_in a b n f ≡ next.live n f
  unfolding work
  live_next a b down in_a in_b n f = by (bit sides n) refl f
    where
      off : bit sides n ≡ false → (f : Bool) → next.live n f ≡ false
      off s f = tells_no (tells_value (next.live n f)) (λ e. subst T (sym (after_in_sides t c z root booleans sides weaks p root_low k.live (sample x) enter n f e) ∙ s) tt)

      by : (s : Bool) → bit sides n ≡ s → (f : Bool) → live_in a b n f ≡ next.live n f
      by true s f = down.next_is n s f
      by false s false = in_a n s ∙ sym (off s false)
      by false s true = in_b n s ∙ sym (off s true)

  -- THE SETS of the weak sequences
  module _ (tops leads old new : List ℕ) (count all : ℕ) (count_is : (m : ℕ) → m ≡ 64 → count ≡ weaks_above t weaks m)
      (lanes : (n : ℕ) → bit weaks n ≡ true → kind_of t n ≡ 32 → WeakLanes t row rows k.live x enter n (weak_number t weaks n) tops leads)
      (moved : Moved count tops leads old new all)
      (sets_old : (n : ℕ) → bit weaks n ≡ true → kind_of t n ≡ 32 → (s : ℕ) → s < 64 → bit (get_or old (weak_number t weaks n) 0) s ≡ k.sets n s) where
    below : (n : ℕ) → bit weaks n ≡ true → kind_of t n ≡ 32 → weak_number t weaks n < count
    below n w q = let h = number_below t weaks n 64 (low n (p.weak_rows n w).0) refl (w, q) in less (count_is 64 refl) h
      where
        less : {a b d : ℕ} → b ≡ d → a < d → a < b
        less e h = omega arith

    pub sets_new : (n : ℕ) → bit weaks n ≡ true → kind_of t n ≡ 32 → (s : ℕ) → s < 64 → bit (get_or new (weak_number t weaks n) 0) s ≡ next.sets n s
    unfolding sets_next work shape_of pick
    sets_new n w q s l =
        let d = lanes n w q in
        let r = W.row_of_kind t c z root booleans sides weaks p root_low 32 n (p.weak_rows n w).0 q in
        moved.each (weak_number t weaks n) (below n w q) s l
        ∙ moved_same _ _ _ _ d.ends_are d.leads_are _ (enter n) _ (k.sets n) d.begins_is (sets_old n w q) s
        ∙ sym (ap (λ R. sets_by row rows node root k time x R n s) r)

    -- a set that is left in some family
    pub some_set : (s : ℕ) → bit all s ≡ true → (n : ℕ) × (bit weaks n ≡ true) × (kind_of t n ≡ 32) × (s < 64 → next.sets n s ≡ true)
    some_set s e =
        let h = moved.all_only s e in
        let f = number_of t weaks 64 h.0 (omega arith) (less (count_is 64 refl) h.1) in
        (f.0, f.2.0, f.2.1, λ l. sym (sets_new f.0 f.2.0 f.2.1 s l) ∙ ap (λ (w : ℕ). bit (get_or new w 0) s) f.3 ∙ h.2)
      where
        less : {a b d : ℕ} → b ≡ d → a < b → a < d
        less e h = omega arith

    pub set_in_all : (n : ℕ) → bit weaks n ≡ true → kind_of t n ≡ 32 → (s : ℕ) → s < 64 → next.sets n s ≡ true → bit all s ≡ true
    set_in_all n w q s l e = moved.all_has (weak_number t weaks n) (below n w q) s (sets_new n w q s l ∙ e)

    spare_stays : (w : ℕ) → ((n : ℕ) → bit weaks n ≡ true → kind_of t n ≡ 32 → ¬ (weak_number t weaks n ≡ w)) → get_or new w 0 ≡ get_or old w 0
    spare_stays w none = elim (dec_lt w count) [
      | yes l ↦ (let f = number_of t weaks 64 w (omega arith) (less (count_is 64 refl) l) in absurd (none f.0 f.2.0 f.2.1 f.3))
      | no l ↦ moved.others w (omega arith)
    ]
      where
        less : {a b d : ℕ} → b ≡ d → a < b → a < d
        less e h = omega arith

    -- WHAT THE FAMILIES hold after the sample
    pub sets_left : SetsLeft t weaks next old new all
    sets_left = record { sets_new = sets_new; some_set = some_set; set_in_all = set_in_all; spare = spare_stays; size = moved.size }

  -- where there is no weak sequence nothing is left
  pub no_sets : (families : List ℕ) → weaks ≡ 0 → SetsLeft t weaks next families families 0
  no_sets families e = record {
    sets_new = λ n w q. absurd (none n w);
    some_set = λ s h. absurd (subst T (sym h ∙ bit_none s) tt);
    set_in_all = λ n w q. absurd (none n w);
    spare = λ w f. refl;
    size = refl;
  }
    where
      none : (n : ℕ) → bit weaks n ≡ true → ⊥
      none n w = subst T (sym w ∙ ap (λ (v : ℕ). bit v n) e ∙ bit_none n) tt
