-- The passes of a cycle, one after another: what each is told comes from the plan and from the passes before it.
use Prim.Native.Nat.{ℕ, ◌<◌, ◌^◌}
use mathlib.Core.Path.{◌≡◌, sym, ◌∙◌, ap}
use mathlib.Core.Bool.{Bool, ◌||◌}
use mathlib.Core.List.{List}
use lib.Bits.{bit_or}
use Rattle.psl.specs.Booleans.{Boolean, bit}
use Rattle.psl.specs.Tells.{Tells}
use Rattle.psl.proofs.Model.Nodes.{Node}
use Rattle.table.specs.Trees.{boolean_at}
use Rattle.lanes.specs.Rows.{Row, Sound}
use Rattle.lanes.specs.Expected.{Table}
use Rattle.lanes.specs.Cycle.{hit, enters}
use Rattle.engine.specs.Truths.{Truth, OnlyIn, BooleanRows}
use Rattle.engine.specs.Properties.{PropertyRows, Passed}
use Rattle.engine.specs.declared.properties.Letter.{Letter}
use Rattle.engine.specs.declared.properties.Hits.{Hits}
use Rattle.engine.specs.Sides.{SideRows, SideUsers, LiveWords, LiveAtCells, LeftsFound, SidesUp, HitsOver, SidesEnter, SidesDown}
use Rattle.engine.specs.Weaks.{weaks_above}
use Rattle.engine.specs.CycleWeaks.{WeaksLeft, no_weaks, weaks_moved, WeaksTold}
use Rattle.engine.specs.PlanBooleans.{boolean_rows}
use Rattle.engine.specs.PlanSides.{side_rows, side_users}
use Rattle.engine.specs.PlanWeaks.{weak_rows, weak_users}
use Rattle.engine.specs.PlanCount.{few_weaks}
use Rattle.engine.specs.PlanPass.{property_rows}
use Rattle.engine.specs.CycleBegins.{sides_enter, weak_enters}
use Rattle.engine.specs.CycleRight.{SetsLeft, sets_left, no_sets}
use Rattle.engine.specs.CycleFlags.{BooleanFails, NoWord}
use Rattle.engine.specs.Cycled.{Standing, row_of, table_of, node_of, next_of, Cycled, cycled}

module _ {t : List ℕ} {root booleans sides weaks first held live_a live_b : ℕ} {families : List ℕ} (s : Standing t root booleans sides weaks first held live_a live_b families) (x truth : ℕ)
    (only : OnlyIn booleans truth) (each : (value : ℕ → Boolean) → BooleanRows t booleans value → Truth booleans value x truth) where
  right : Truth booleans (boolean_at t) x truth
  right = each (boolean_at t) (boolean_rows t s.counts s.subset root booleans sides weaks s.plan s.root_low)

  abbrev entering : ℕ → Bool
  entering = enters (row_of s) (table_of s) (node_of s) root s.kept s.time x

  rows_of_sides : SideRows t (row_of s) booleans sides truth x
  rows_of_sides = side_rows t s.counts s.subset root booleans sides weaks s.plan s.root_low truth x right

  abbrev letter : Hits → Letter
  letter hits = record { was = held; truth = truth; hits = hits }

  module _ (lefts : List ℕ) (hits : Hits) (over : HitsOver t sides hits)
      (found : (row : ℕ → Row) (before : ℕ → Bool → Bool) (x : ℕ) → Sound row → SideRows t row booleans sides truth x → LiveWords sides before live_a live_b → LiveAtCells row before
      → SidesUp t row before sides x lefts hits)
      (begin held' : ℕ) (never : Bool)
      (pass : (x root : ℕ) (node : ℕ → Node) (reached : ℕ → Bool) (hit : ℕ → Bool → Bool) → PropertyRows t (bit_or booleans weaks) first (letter hits) x root node reached hit
      → Passed first held x root node hit begin held' never) where
    up : SidesUp t (row_of s) s.kept.live sides x lefts hits
    up = found (row_of s) s.kept.live x (table_of s).sound rows_of_sides (λ n i f. s.represented.live_is n f) s.in_place.live_cells

    passed : Passed first held x root (node_of s) (hit (row_of s) (table_of s) (node_of s) root s.kept s.time x) begin held' never
    passed = pass x root (node_of s) _ _
        (property_rows t s.counts s.subset root booleans sides weaks s.plan s.root_low s.kept s.in_place s.time x (letter hits) right only lefts up over
        s.root_proper first s.first_is s.represented.held_is)

    module _ (a b : ℕ) (in_a : OnlyIn sides a) (in_b : OnlyIn sides b)
        (next : (row : ℕ → Row) (rows : Table row) (before : ℕ → Bool → Bool) (truth x : ℕ) (enter : ℕ → Bool) → SideRows t row booleans sides truth x → SideUsers t row sides
        → SidesEnter t sides begin held' enter → LeftsFound t row before sides x lefts → SidesDown row rows before sides x enter a b)
        (families' : List ℕ) (all : ℕ)
        (moved : (row : ℕ → Row) (rows : Table row) (x : ℕ) (live : ℕ → Bool → Bool) (enter : ℕ → Bool) → WeaksTold t row booleans weaks truth begin x enter
        → WeaksLeft t row rows weaks x live enter families families' all) where
      down : SidesDown (row_of s) (table_of s) s.kept.live sides x entering a b
      down = next (row_of s) (table_of s) s.kept.live truth x entering rows_of_sides (side_users t s.counts s.subset root booleans sides weaks s.plan s.root_low)
          (sides_enter t s.counts s.subset root booleans sides weaks s.plan s.root_low s.kept s.time x first held s.first_is s.represented.held_is begin held' never passed)
          up.lefts_are

      told : WeaksTold t (row_of s) booleans weaks truth begin x entering
      told parts up = record {
        rows = weak_rows t s.counts s.subset root booleans sides weaks s.plan s.root_low truth x right;
        users = λ n f v h w l. weak_users t s.counts s.subset root booleans sides weaks s.plan s.root_low v w l n f h;
        enters = weak_enters t s.counts s.subset root booleans sides weaks s.plan s.root_low s.kept s.time x first held s.first_is s.represented.held_is begin held' never passed;
        few = few_weaks t s.counts s.subset root booleans sides weaks s.plan s.root_low;
        parts_up = up;
      }

      sets_of : {new : List ℕ} {rest : ℕ} → WeaksLeft t (row_of s) (table_of s) weaks x s.kept.live entering families new rest → SetsLeft t weaks (next_of s x) families new rest
      sets_of (no_weaks e) = no_sets t s.counts s.subset root booleans sides weaks s.plan s.root_low s.kept s.time x families e
      sets_of (weaks_moved d) = sets_left t s.counts s.subset root booleans sides weaks s.plan s.root_low s.kept s.time x d.tops d.leads families _ d.count _
          (λ m e. d.count_is ∙ ap (weaks_above t weaks) (sym e)) d.lanes d.moved s.represented.sets_are

      pub passes_cycle : {fails quiet last : Bool} → held' < 2 ^ 64 → a < 2 ^ 64 → b < 2 ^ 64 → all < 2 ^ 64 → Tells (BooleanFails begin booleans truth) fails → Tells (NoWord held' a b all) quiet
          → last ≡ bit all 0 → Cycled s x held' a b families' ((never || fails) || last) quiet
      passes_cycle {fails} {quiet} {last} h i j l tf tq e = rw e (cycled s x truth begin held' a b all families' never fails quiet right passed down in_a in_b
          (sets_of (moved (row_of s) (table_of s) x s.kept.live entering told)) h i j l tf tq)
