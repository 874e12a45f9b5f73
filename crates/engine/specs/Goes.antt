-- A property that goes on: its words are what the cycles so far have kept; and what the definitions say of one cycle more. Nothing here has to be believed.
use Rattle.std.specs.Prelude.{ℕ, suc, ◌<◌, ◌≡◌, Bool, ◌&&◌, List, [], ◌∷◌, ◌++◌, eqb, length}
use Rattle.std.proofs.Common.{sym, subst}
use Rattle.psl.specs.Booleans.{bit}
use Rattle.psl.specs.Properties.{Property}
use Rattle.psl.specs.Verdicts.{pending, Right, judged}
use Rattle.psl.proofs.Model.Nodes.{prop_at}
use Rattle.table.specs.Trees.{property_at}
use Rattle.table.specs.Subset.{Subset}
use Rattle.table.specs.declared.Counts.{Counts}
use Rattle.lanes.specs.State.{Kept}
use Rattle.lanes.specs.Cycle.{kept_next, Holds, holds_next, right_next}
use Rattle.engine.specs.Planned.{Planned}
use Rattle.engine.specs.PlanView as W
use Rattle.engine.specs.PlanProperty.{Proper, root_property}
use Rattle.engine.specs.PlanState.{InPlace, next_in_place}
use Rattle.engine.specs.CycleRight.{Represented}
use Rattle.engine.specs.Cycled.{Standing, Cycled}

module _ (t : List ℕ) (root booleans sides weaks : ℕ) where
  pub record Goes (v : List ℕ) (held live_a live_b : ℕ) (families : List ℕ) : Type 0 where
    pub counts : Counts
    pub subset : Subset t counts
    pub plan : Planned t root booleans sides weaks
    pub root_low : root < counts.nodes
    pub root_proper : Proper t counts subset root booleans sides weaks plan root_low root
    pub kept : Kept
    pub in_place : InPlace (W.row t counts subset root booleans sides weaks plan root_low) (W.node t counts subset root booleans sides weaks plan root_low) kept
    pub represented : Represented t weaks kept held live_a live_b families
    pub holds : Holds (W.row t counts subset root booleans sides weaks plan root_low) (W.row_table t counts subset root booleans sides weaks plan root_low)
        (W.node t counts subset root booleans sides weaks plan root_low) (W.shape t counts subset root booleans sides weaks plan root_low)
        (W.down t counts subset root booleans sides weaks plan root_low) root (W.top t counts subset root booleans sides weaks plan root_low) v kept

module _ {t : List ℕ} {root booleans sides weaks : ℕ} {v : List ℕ} {held live_a live_b : ℕ} {families : List ℕ} (g : Goes t root booleans sides weaks v held live_a live_b families) where
  -- what is kept after the next sample
  abbrev pub kept_after : ℕ → Kept
  kept_after x = kept_next (W.row t g.counts g.subset root booleans sides weaks g.plan g.root_low) (W.row_table t g.counts g.subset root booleans sides weaks g.plan g.root_low) (W.node t g.counts g.subset root booleans sides weaks g.plan g.root_low) root g.kept (length v) x

  -- IT GOES ON with the words of that
  pub goes_on : (x : ℕ) {held' live_a' live_b' : ℕ} {families' : List ℕ} → Represented t weaks (kept_after x) held' live_a' live_b' families'
      → Goes t root booleans sides weaks (v ++ x ∷ []) held' live_a' live_b' families'
  goes_on x r = record {
    counts = g.counts;
    subset = g.subset;
    plan = g.plan;
    root_low = g.root_low;
    root_proper = g.root_proper;
    kept = kept_after x;
    in_place = next_in_place (W.row t g.counts g.subset root booleans sides weaks g.plan g.root_low) (W.row_table t g.counts g.subset root booleans sides weaks g.plan g.root_low) (W.node t g.counts g.subset root booleans sides weaks g.plan g.root_low) root g.kept (length v) x;
    represented = r;
    holds = holds_next (W.row t g.counts g.subset root booleans sides weaks g.plan g.root_low) (W.row_table t g.counts g.subset root booleans sides weaks g.plan g.root_low) (W.node t g.counts g.subset root booleans sides weaks g.plan g.root_low) (W.shape t g.counts g.subset root booleans sides weaks g.plan g.root_low) (W.down t g.counts g.subset root booleans sides weaks g.plan g.root_low) root (W.top t g.counts g.subset root booleans sides weaks g.plan g.root_low) v g.kept g.holds x;
  }

  module _ (first : ℕ) (first_is : (n : ℕ) → bit first n ≡ eqb n root && eqb (length v) 0) where
    -- the property as it stands before the next sample
    abbrev pub standing : Standing t root booleans sides weaks first held live_a live_b families
    standing = record {
      counts = g.counts;
      subset = g.subset;
      plan = g.plan;
      root_low = g.root_low;
      root_proper = g.root_proper;
      kept = g.kept;
      in_place = g.in_place;
      represented = g.represented;
      time = length v;
      first_is = first_is;
    }

    -- THE VERDICT is right for one sample more
    pub next_right : {x held' live_a' live_b' : ℕ} {families' : List ℕ} {broke quiet : Bool} → Cycled standing x held' live_a' live_b' families' broke quiet
        → Right (property_at t root) v (pending (length v)) → Right (property_at t root) (v ++ x ∷ []) (judged broke quiet (suc (length v)))
    next_right {x} {broke = broke} {quiet = quiet} c r = subst (λ (f : Property). Right f (v ++ x ∷ []) (judged broke quiet (suc (length v)))) tree
        (subst (λ (b : Bool). Right (prop_at (W.node t g.counts g.subset root booleans sides weaks g.plan g.root_low) root) (v ++ x ∷ []) (judged b quiet (suc (length v)))) (sym c.broken_is)
        (right_next (W.row t g.counts g.subset root booleans sides weaks g.plan g.root_low) (W.row_table t g.counts g.subset root booleans sides weaks g.plan g.root_low) (W.node t g.counts g.subset root booleans sides weaks g.plan g.root_low) (W.shape t g.counts g.subset root booleans sides weaks g.plan g.root_low) (W.down t g.counts g.subset root booleans sides weaks g.plan g.root_low) root (W.top t g.counts g.subset root booleans sides weaks g.plan g.root_low) v g.kept g.holds x (subst (λ (f : Property). Right f v (pending (length v))) (sym tree) r) c.quiet_is))
      where
        tree : prop_at (W.node t g.counts g.subset root booleans sides weaks g.plan g.root_low) root ≡ property_at t root
        tree = root_property t g.counts g.subset root booleans sides weaks g.plan g.root_low g.root_proper

-- WHAT THE DEFINITIONS SAY OF A CYCLE: of a property that goes on after the samples v, pending, the verdict by its two flags is the right one for v and this sample.
abbrev pub RightNext : List ℕ → ℕ → ℕ → ℕ → ℕ → ℕ → ℕ → ℕ → ℕ → List ℕ → ℕ → Bool → Bool → Type 0
RightNext t root booleans sides weaks first held live_a live_b families x broke quiet = (v : List ℕ) → Goes t root booleans sides weaks v held live_a live_b families
    → ((n : ℕ) → bit first n ≡ eqb n root && eqb (length v) 0) → Right (property_at t root) v (pending (length v))
    → Right (property_at t root) (v ++ x ∷ []) (judged broke quiet (suc (length v)))

pub right_by : {t : List ℕ} {root booleans sides weaks first held live_a live_b : ℕ} {families : List ℕ} {x held' live_a' live_b' : ℕ} {families' : List ℕ} {broke quiet : Bool}
    → ((s : Standing t root booleans sides weaks first held live_a live_b families) → Cycled s x held' live_a' live_b' families' broke quiet)
    → RightNext t root booleans sides weaks first held live_a live_b families x broke quiet
right_by {first = first} c v g f r = next_right g first f (c (standing g first f)) r

-- where nothing stands so, nothing is said
pub unsaid : {t : List ℕ} {root booleans sides weaks first held live_a live_b : ℕ} {families : List ℕ} (x : ℕ) (broke quiet : Bool)
    → ¬ Standing t root booleans sides weaks first held live_a live_b families → RightNext t root booleans sides weaks first held live_a live_b families x broke quiet
unsaid {first = first} x broke quiet none v g f r = absurd (none (standing g first f))
