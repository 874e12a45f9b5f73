-- What one cycle does, to a property of an accepted table whose words represent what is kept: the statement of `cycle`.
use Rattle.std.specs.Prelude.{ℕ, suc, ◌<◌, ◌^◌, ◌≡◌, Bool, true, ◌&&◌, ◌||◌, List, eqb}
use Rattle.std.proofs.Common.{arith, ◌∙◌}
use Rattle.psl.specs.Booleans.{bit}
use Rattle.psl.specs.Tells.{Tells, any}
use Rattle.psl.proofs.Model.Nodes.{Node}
use Rattle.table.specs.Trees.{boolean_at}
use Rattle.table.specs.Subset.{Subset}
use Rattle.table.specs.declared.Counts.{Counts}
use Rattle.lanes.specs.Rows.{Row}
use Rattle.lanes.specs.Expected.{Table}
use Rattle.lanes.specs.State.{Kept}
use Rattle.lanes.specs.StateVerdict.{Quiet}
use Rattle.lanes.specs.Cycle.{hit, begins, enters, kept_next, broke}
use Rattle.engine.specs.Planned.{Planned}
use Rattle.engine.specs.Truths.{Truth, OnlyIn}
use Rattle.engine.specs.Properties.{Passed}
use Rattle.engine.specs.Sides.{live_in, SidesDown}
use Rattle.engine.specs.PlanView as W
use Rattle.engine.specs.PlanProperty.{Proper}
use Rattle.engine.specs.Reads.{kind_of, Within}
use Rattle.engine.specs.PlanState.{InPlace}
use Rattle.engine.specs.CycleBegins.{begins_are, held_are}
use Rattle.engine.specs.CycleRight.{Represented, SetsLeft, live_next}
use Rattle.engine.specs.CycleFlags as Flags

-- The bytes hold the rows of the plan, those held, and the root at the first cycle.
pub record Covered (t : List ℕ) (booleans sides weaks first held : ℕ) : Type 0 where
  pub booleans_held : Within t booleans
  pub sides_held : Within t sides
  pub weaks_held : Within t weaks
  pub first_held : Within t first
  pub held_held : Within t held

-- A property as it stands before a sample: the table is accepted, the words are its plan, and what is kept is represented.
pub record Standing (t : List ℕ) (root booleans sides weaks first held live_a live_b : ℕ) (families : List ℕ) : Type 0 where
  pub counts : Counts
  pub subset : Subset t counts
  pub plan : Planned t root booleans sides weaks
  pub root_low : root < counts.nodes
  pub root_proper : Proper t counts subset root booleans sides weaks plan root_low root
  pub kept : Kept
  pub in_place : InPlace (W.row t counts subset root booleans sides weaks plan root_low) (W.node t counts subset root booleans sides weaks plan root_low) kept
  pub represented : Represented t weaks kept held live_a live_b families
  -- the cycles read so far, and the root at the first
  pub time : ℕ
  pub first_is : (n : ℕ) → bit first n ≡ eqb n root && eqb time 0

module _ {t : List ℕ} {root booleans sides weaks first held live_a live_b : ℕ} {families : List ℕ} (s : Standing t root booleans sides weaks first held live_a live_b families) where
  abbrev pub row_of : ℕ → Row
  row_of = W.row t s.counts s.subset root booleans sides weaks s.plan s.root_low

  abbrev pub table_of : Table row_of
  table_of = W.row_table t s.counts s.subset root booleans sides weaks s.plan s.root_low

  abbrev pub node_of : ℕ → Node
  node_of = W.node t s.counts s.subset root booleans sides weaks s.plan s.root_low

  abbrev pub next_of : ℕ → Kept
  next_of x = kept_next row_of table_of node_of root s.kept s.time x

  -- What the sample x does: the new words and families, and the two flags.
  pub record Cycled (x held' live_a' live_b' : ℕ) (families' : List ℕ) (broken quiet : Bool) : Type 0 where
    pub represents : Represented t weaks (next_of x) held' live_a' live_b' families'
    pub broken_is : broken ≡ any (suc root) (broke row_of table_of node_of root s.kept s.time x)
    pub quiet_is : Tells (Quiet row_of root (next_of x)) quiet

  -- Made of what the passes leave.
  module _ (x truth begin held' a b all : ℕ) (families' : List ℕ) (never fails quiet : Bool)
      (right : Truth booleans (boolean_at t) x truth)
      (passed : Passed first held x root node_of (hit row_of table_of node_of root s.kept s.time x) begin held' never)
      (down : SidesDown row_of table_of s.kept.live sides x (enters row_of table_of node_of root s.kept s.time x) a b) (in_a : OnlyIn sides a) (in_b : OnlyIn sides b)
      (sets : SetsLeft t weaks (next_of x) families families' all)
      (held_Low : held' < 2 ^ 64) (a_low : a < 2 ^ 64) (b_low : b < 2 ^ 64) (all_low : all < 2 ^ 64) where
    was : (n : ℕ) → bit held n ≡ s.kept.held n
    was = s.represented.held_is

    held_next_is : (n : ℕ) → bit held' n ≡ (next_of x).held n
    held_next_is = held_are t s.counts s.subset root booleans sides weaks s.plan s.root_low s.kept s.time x first held s.first_is was begin held' never passed

    live_next_is : (n : ℕ) (f : Bool) → live_in a b n f ≡ (next_of x).live n f
    live_next_is = live_next t s.counts s.subset root booleans sides weaks s.plan s.root_low s.kept s.time x a b down in_a in_b

    new_represented : Represented t weaks (next_of x) held' a b families'
    new_represented = record {
      held_is = held_next_is;
      live_is = live_next_is;
      sets_are = sets.sets_new;
      size = sets.size ∙ s.represented.size;
      spare = λ w none. sets.spare w none ∙ s.represented.spare w none;
    }

    begin_is : (n : ℕ) → bit begin n ≡ begins row_of table_of node_of root s.kept s.time x n
    begin_is = begins_are t s.counts s.subset root booleans sides weaks s.plan s.root_low s.kept s.time x first held s.first_is was begin held' never passed

    first_set : bit all 0 ≡ true → (n : ℕ) × (bit weaks n ≡ true) × (kind_of t n ≡ 32) × ((next_of x).sets n 0 ≡ true)
    first_set e = let h = sets.some_set 0 e in (h.0, h.1, h.2, h.3 (omega arith))

    first_in_all : (n : ℕ) → bit weaks n ≡ true → kind_of t n ≡ 32 → (next_of x).sets n 0 ≡ true → bit all 0 ≡ true
    first_in_all n i k e = sets.set_in_all n i k 0 (omega arith) e

    pub cycled : Tells (Flags.BooleanFails begin booleans truth) fails
        → Tells (Flags.NoWord held' a b all) quiet
        → Cycled x held' a b families' ((never || fails) || bit all 0) quiet
    cycled tf tq = record {
      represents = new_represented;
      broken_is = Flags.broken_is t s.counts s.subset root booleans sides weaks s.plan s.root_low s.kept s.time x begin truth all begin_is right first_set first_in_all
          passed.broken_is tf;
      quiet_is = Flags.quiet_is t s.counts s.subset root booleans sides weaks s.plan s.root_low s.kept s.time x held' a b all held_Low a_low b_low all_low
          held_next_is live_next_is sets.some_set sets.set_in_all tq;
    }
