-- A cycle with no left sides or no weak sequences, and what the passes over weak sequences come to.
use Prim.Native.Nat.{ℕ, ◌-◌, ◌<◌, ◌^◌}
use mathlib.Core.Path.{◌≡◌, refl, sym, ◌∙◌, ap, subst}
use mathlib.Core.Bool.{Bool, true, false, not, ◌&&◌}
use mathlib.Core.List.{List}
use mathlib.Core.Logic.{inl, inr, ⊎_elim}
use native.Mathlib.Omega.{arith}
use lib.Dec.{T, eqb}
use lib.Bits.{bit_and, bit_or, and_lt}
use Rattle.psl.specs.Booleans.{bit}
use Rattle.psl.specs.Tells.{Tells, tells_and, tells_or, tells_eq, tells_iff, tells_value, tells_not_value, tells_true, true_tells}
use Rattle.words.specs.Bits.{bit_none, bit_and_lem, bit_or_lem}
use Rattle.words.specs.Sets.{HasFrom}
use Rattle.lanes.specs.Rows.{Row}
use Rattle.lanes.specs.Expected.{Table}
use Rattle.engine.specs.Reads.{Held, Within}
use Rattle.engine.specs.declared.properties.Hits.{Hits}
use Rattle.engine.specs.Sides.{SidesUp, OverSides, SidesDown}
use Rattle.engine.specs.declared.weak_parts.Parts.{Parts}
use Rattle.engine.specs.declared.weak_uses.Uses.{Uses}
use Rattle.engine.specs.WeakParts.{WeaksUp}
use Rattle.engine.specs.WeakHanded.{Blank}
use Rattle.engine.specs.WeakPass.{WeaksDown}
use Rattle.engine.specs.Families.{Moved}
use Rattle.engine.specs.CycleFlags.{BooleanFails, NoWord}
use Rattle.engine.specs.Properties.{Keeping}
use Rattle.engine.specs.PlanBooleans.{is_boolean}
use Rattle.engine.specs.PlanRows.{proper_is}
use Rattle.engine.specs.PlanPass.{keeping_proper}
use Rattle.engine.specs.Cycled.{Covered, Standing, node_of}
use Rattle.engine.proofs.ReachedLaws.{but_is}
use Rattle.engine.specs.CycleWeaks.{WeaksLeft, weaks_moved, WeaksTold}

no_bit : {A : Type 0} {w : ℕ} (n : ℕ) → w ≡ 0 → bit w n ≡ true → A
no_bit n e h = absurd (subst T (sym h ∙ ap (λ (v : ℕ). bit v n) e ∙ bit_none n) tt)

pub none_over : (t : List ℕ) (sides : ℕ) → OverSides t sides 0
none_over t sides n h = no_bit n refl h

pub none_up : (t : List ℕ) (row : ℕ → Row) (live : ℕ → Bool → Bool) (sides x : ℕ) (lefts : List ℕ) (hits : Hits) → sides ≡ 0 → SidesUp t row live sides x lefts hits
none_up t row live sides x lefts hits e = record {
  lefts_are = λ n h. no_bit n e h;
  ends_are = λ n h. no_bit n e h;
  early_are = λ n h. no_bit n e h;
  empty_are = λ n h. no_bit n e h;
}

pub none_down : (row : ℕ → Row) (table : Table row) (live : ℕ → Bool → Bool) (sides x : ℕ) (enter : ℕ → Bool) → sides ≡ 0 → SidesDown row table live sides x enter 0 0
none_down row table live sides x enter e = record { next_is = λ n h f. no_bit n e h }

-- The families that are moved are those that were met.
pub weaks_left : {t : List ℕ} {row : ℕ → Row} {rows : Table row} {booleans weaks truth begin x : ℕ} {live : ℕ → Bool → Bool} {enter : ℕ → Bool} {parts : Parts} {blank : Uses} (uses : Uses) {old new : List ℕ} {all : ℕ}
    → WeaksTold t row booleans weaks truth begin x enter → WeaksUp t booleans weaks truth parts → Blank blank → WeaksDown t booleans weaks begin parts blank uses
    → Moved uses.met uses.tops uses.leads old new all → WeaksLeft t row rows weaks x live enter old new all
weaks_left {row = row} {rows} {truth = truth} {x = x} {live = live} {enter = enter} {parts = parts} uses told up none down moved =
    let d = down row rows truth x live enter (told parts up) none in
    weaks_moved (record {
      tops = _;
      leads = _;
      count = _;
      count_is = d.0;
      lanes = d.1;
      moved = moved;
    })

pub quiet_tells : (held a b all : ℕ) → Tells (NoWord held a b all) ((eqb held 0 && (eqb a 0 && eqb b 0)) && eqb all 0)
quiet_tells held a b all = tells_iff (λ h. (h.0.0, h.0.1.0, h.0.1.1, h.1)) (λ h. ((h.0, (h.1, h.2)), h.3))
    (tells_and (tells_and (tells_eq held 0) (tells_and (tells_eq a 0) (tells_eq b 0))) (tells_eq all 0))

pub fails_tells : (begin booleans truth : ℕ) {r : Bool} → begin < 2 ^ 64 → booleans < 2 ^ 64 → truth < 2 ^ 64 → Tells (HasFrom (bit_and (bit_and begin booleans) ((2 ^ 64 - 1) - truth)) 0) r
    → Tells (BooleanFails begin booleans truth) r
fails_tells begin booleans truth l m n tells = tells_iff there here tells
  where
    split : (k : ℕ) → bit (bit_and (bit_and begin booleans) ((2 ^ 64 - 1) - truth)) k ≡ (bit begin k && bit booleans k) && not (bit truth k)
    split k = but_is (bit_and begin booleans) truth (and_lt 64 begin booleans l m) n k ∙ ap (λ (b : Bool). b && not (bit truth k)) (bit_and_lem begin booleans k)

    both : (k : ℕ) → Tells (((bit begin k ≡ true) × (bit booleans k ≡ true)) × (bit truth k ≡ false)) ((bit begin k && bit booleans k) && not (bit truth k))
    both k = tells_and (tells_and (tells_value (bit begin k)) (tells_value (bit booleans k))) (tells_not_value (bit truth k))

    there : HasFrom (bit_and (bit_and begin booleans) ((2 ^ 64 - 1) - truth)) 0 → BooleanFails begin booleans truth
    there (k, _, e) = let h = tells_true (both k) (sym (split k) ∙ e) in (k, h.0.0, h.0.1, h.1)

    here : BooleanFails begin booleans truth → HasFrom (bit_and (bit_and begin booleans) ((2 ^ 64 - 1) - truth)) 0
    here (k, a, b, d) = (k, omega arith, split k ∙ true_tells (both k) ((a, b), d))

-- The bytes hold a set's rows just if they hold those of each of its parts.
within_parts : (t : List ℕ) (a b : ℕ) → Within t (bit_or a b) → Within t a × Within t b
within_parts t a b held = (
  λ n e. held n (bit_or_lem a b n ∙ true_tells (tells_or (tells_value (bit a n)) (tells_value (bit b n))) (inl e)),
  λ n e. held n (bit_or_lem a b n ∙ true_tells (tells_or (tells_value (bit a n)) (tells_value (bit b n))) (inr e)),
)

within_both : (t : List ℕ) (a b : ℕ) → Within t a → Within t b → Within t (bit_or a b)
within_both t a b p q n e = ⊎_elim (p n) (q n) (tells_true (tells_or (tells_value (bit a n)) (tells_value (bit b n))) (sym (bit_or_lem a b n) ∙ e))

pub covered : (t : List ℕ) (booleans sides weaks first held : ℕ) → Within t (bit_or (bit_or (bit_or (bit_or booleans sides) weaks) first) held) → Covered t booleans sides weaks first held
covered t booleans sides weaks first held all =
    let h = within_parts t (bit_or (bit_or (bit_or booleans sides) weaks) first) held all in
    let f = within_parts t (bit_or (bit_or booleans sides) weaks) first h.0 in
    let w = within_parts t (bit_or booleans sides) weaks f.0 in
    let s = within_parts t booleans sides w.0 in
    record { booleans_held = s.0; sides_held = s.1; weaks_held = w.1; first_held = f.1; held_held = h.1 }

-- Of a property that stands, the bytes hold each row.
module _ {t : List ℕ} {root booleans sides weaks first held live_a live_b : ℕ} {families : List ℕ} (s : Standing t root booleans sides weaks first held live_a live_b families) where
  row_held : (n : ℕ) → s.plan.reached n ≡ true → Held t n
  row_held n e = omega (arith, s.plan.up_to_root n e, s.root_low, s.subset.layout.given)

  pub standing_there : Within t (bit_or (bit_or (bit_or (bit_or booleans sides) weaks) first) held)
  standing_there =
      within_both t (bit_or (bit_or (bit_or booleans sides) weaks) first) held
      (within_both t (bit_or (bit_or booleans sides) weaks) first
      (within_both t (bit_or booleans sides) weaks
      (within_both t booleans sides
      (λ n e. row_held n (is_boolean t s.counts s.subset root booleans sides weaks s.plan s.root_low n e).0) (λ n e. row_held n (s.plan.side_rows n e).0))
      (λ n e. row_held n (s.plan.weak_rows n e).0))
      (λ n e. (let h = tells_true (tells_and (tells_eq n root) (tells_eq s.time 0)) (sym (s.first_is n) ∙ e) in rw h.0 (row_held root s.plan.root_reached))))
      (λ n e. row_held n (keeping_reached n (s.in_place.held_keeps n (sym (s.represented.held_is n) ∙ e))))
    where
      keeping_reached : (n : ℕ) → Keeping (node_of s n) → s.plan.reached n ≡ true
      keeping_reached n k = (proper_is t s.counts s.subset root booleans sides weaks s.plan s.root_low n
          (keeping_proper t s.counts s.subset root booleans sides weaks s.plan s.root_low n k)).0

-- so nothing stands where the rows are not all there
pub no_rows : {t : List ℕ} {root booleans sides weaks first held live_a live_b : ℕ} {families : List ℕ} {r : Bool}
    → Tells (Within t (bit_or (bit_or (bit_or (bit_or booleans sides) weaks) first) held)) r → r ≡ false → ¬ Standing t root booleans sides weaks first held live_a live_b families
no_rows tells e s = subst T (sym (true_tells tells (standing_there s)) ∙ e) tt
