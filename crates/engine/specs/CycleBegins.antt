-- What the pass over the property rows leaves is what the cycle begins and holds; and what enters each sequence.
use Prim.Native.Nat.{ℕ, suc, ◌≤◌, ◌<◌}
use Rattle.std.proofs.Common.{arith, ◌∙◌}
use Rattle.std.proofs.Math.Decide.{dec_lt}
use Rattle.std.specs.Prelude.{◌≡◌, Bool, true, ◌&&◌, List, eqb}
use Rattle.std.proofs.Math.Path.{sym, ap₂, fun_ext}
use Rattle.psl.specs.Booleans.{bit}
use Rattle.psl.proofs.Model.Nodes.{Node}
use Rattle.psl.proofs.Model.Step.{keeps}
use Rattle.psl.proofs.Model.Pass.{pass}
use Rattle.psl.proofs.Model.Monitor as M
use Rattle.table.specs.Choice.{pick}
use Rattle.table.specs.Subset.{Subset}
use Rattle.table.specs.declared.Counts.{Counts}
use Rattle.lanes.specs.Rows.{Row}
use Rattle.lanes.specs.Expected.{Table}
use Rattle.lanes.specs.State.{Kept, entered}
use Rattle.lanes.specs.Cycle.{hit, begins, enters, held_next}
use Rattle.engine.specs.Reads.{kind_of}
use Rattle.engine.specs.Planned.{Planned}
use Rattle.engine.specs.Properties.{Passed}
use Rattle.engine.specs.Sides.{SidesEnter}
use Rattle.engine.specs.NodeView.{node_by}
use Rattle.engine.specs.PlanView as W

module _ (t : List ℕ) (c : Counts) (z : Subset t c) (root booleans sides weaks : ℕ) (p : Planned t root booleans sides weaks) (root_low : root < c.nodes)
    (k : Kept) (time x first was : ℕ) (first_is : (n : ℕ) → bit first n ≡ eqb n root && eqb time 0) (was_is : (n : ℕ) → bit was n ≡ k.held n)
    (begin held : ℕ) (broken : Bool) where
  abbrev node : ℕ → Node
  node = W.node t c z root booleans sides weaks p root_low

  abbrev row : ℕ → Row
  row = W.row t c z root booleans sides weaks p root_low

  abbrev rows : Table row
  rows = W.row_table t c z root booleans sides weaks p root_low

  abbrev hits : ℕ → Bool → Bool
  hits = hit row rows node root k time x

  module _ (passed : Passed first was x root node hits begin held broken) where
    pub begins_are : (n : ℕ) → bit begin n ≡ begins row rows node root k time x n
    unfolding begins
    begins_are n = passed.begin_is n ∙ ap₂ (λ (h f : ℕ → Bool). pass node h hits x (suc root) f n) (fun_ext was_is) (fun_ext first_is)

    pub held_are : (n : ℕ) → bit held n ≡ held_next row rows node root k time x n
    unfolding held_next
    held_are n = passed.held_is n ∙ ap₂ (λ (b h : Bool). keeps (node n) b h (hits n b) x) (begins_are n) (was_is n)

    -- what enters a left side, a never and a weak sequence
    enters_by : {nd : Node} (n : ℕ) → node n ≡ nd → enters row rows node root k time x n ≡ entered (M.use_of nd) (bit begin n) (k.held n)
    unfolding enters
    enters_by n q = ap₂ (λ (x : Node) (b : Bool). entered (M.use_of x) b (k.held n)) q (sym (begins_are n))

    held_by : {nd : Node} (n : ℕ) → node n ≡ nd → bit held n ≡ keeps nd (bit begin n) (k.held n) (hits n (bit begin n)) x
    held_by n q = passed.held_is n ∙ ap₂ (λ (x' : Node) (b : Bool). keeps x' (bit begin n) b (hits n (bit begin n)) x) q (was_is n)

    left_of : (n : ℕ) → bit sides n ≡ true → 40 ≤ kind_of t n → p.reached n ≡ true
    left_of n s l = (p.side_rows n s).0

    pub sides_enter : SidesEnter t sides begin held (enters row rows node root k time x)
    unfolding node_by pick
    sides_enter = record {
      begins = λ n s l m. (let e = left_of n s l in elim (dec_lt (kind_of t n) 41) [
        | yes a ↦ enters_by n (W.at t c z root booleans sides weaks p root_low 40 n e (omega arith))
        | no a ↦ enters_by n (W.at t c z root booleans sides weaks p root_low 41 n e (omega arith))
      ]);
      runs = λ n s q. (let w = W.at t c z root booleans sides weaks p root_low 42 n (left_of n s (omega arith)) q in enters_by n w ∙ sym (held_by n w));
    }

    pub weak_enters : (n : ℕ) → bit weaks n ≡ true → kind_of t n ≡ 32 → enters row rows node root k time x n ≡ bit begin n
    unfolding node_by pick
    weak_enters n w q = enters_by n (W.at t c z root booleans sides weaks p root_low 32 n (p.weak_rows n w).0 q)
