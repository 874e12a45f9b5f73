-- What is kept between samples stands only where it can: held bits at rows that keep, expected cells at cells inside left sides.
use Rattle.std.specs.Prelude.{ℕ, ◌≡◌, refl, Bool, T}
use Rattle.std.proofs.Common.{sym, ◌∙◌, subst}
use Rattle.std.proofs.Math.Path.{ap}
use Rattle.std.proofs.Math.Bool.{true, false}
use Rattle.psl.specs.Booleans.{sample}
use Rattle.psl.specs.Tells.{tells_value, tells_no}
use Rattle.psl.proofs.Model.Nodes.{Node, n_bool, n_weak, n_never, n_both, n_next, n_always, n_if_else, n_implies, n_or, n_until, n_suffix, n_suffix_next}
use Rattle.psl.proofs.Model.Step.{keeps}
use Rattle.lanes.specs.Rows.{Row, r_left, CellAt}
use Rattle.lanes.specs.Expected.{Table}
use Rattle.lanes.specs.DownPass.{give}
use Rattle.lanes.specs.Ideal.{part_of, whole_work}
use Rattle.lanes.specs.Whole.{after_only}
use Rattle.lanes.specs.State.{Kept, nothing}
use Rattle.lanes.specs.Cycle.{held_next, work, kept_next, enters}
use Rattle.engine.specs.Properties.{Keeping, keeping_next, keeping_always, keeping_until, keeping_suffix_next, keeping_never}

pub record InPlace (row : ℕ → Row) (node : ℕ → Node) (k : Kept) : Type 0 where
  pub held_keeps : (n : ℕ) → k.held n ≡ true → Keeping (node n)
  pub live_cells : (n : ℕ) (f : Bool) → k.live n f ≡ true → CellAt row n f
  pub left_dark : (n a : ℕ) (f : Bool) → row n ≡ r_left a → k.live n f ≡ false

clash : {b : Bool} → b ≡ false → b ≡ true → ⊥
clash e h = subst T (sym h ∙ e) tt

keeps_keeping : (nd : Node) (now held hit : Bool) (x : ℕ) → keeps nd now held hit x ≡ true → Keeping nd
keeps_keeping (n_bool b) now held h x e = absurd (clash refl e)
keeps_keeping (n_weak r) now held h x e = absurd (clash refl e)
keeps_keeping (n_never r) now held h x e = keeping_never
keeps_keeping (n_both a c) now held h x e = absurd (clash refl e)
keeps_keeping (n_next a) now held h x e = keeping_next
keeps_keeping (n_always a) now held h x e = keeping_always
keeps_keeping (n_if_else b a c) now held h x e = absurd (clash refl e)
keeps_keeping (n_implies b a) now held h x e = absurd (clash refl e)
keeps_keeping (n_or a b) now held h x e = absurd (clash refl e)
keeps_keeping (n_until a b) now held h x e = keeping_until
keeps_keeping (n_suffix r a) now held h x e = absurd (clash refl e)
keeps_keeping (n_suffix_next r a) now held h x e = keeping_suffix_next

pub nothing_in_place : (row : ℕ → Row) (node : ℕ → Node) → InPlace row node nothing
nothing_in_place row node = record { held_keeps = λ n e. absurd (clash refl e); live_cells = λ n f e. absurd (clash refl e); left_dark = λ n a f e. refl }

module _ (row : ℕ → Row) (t : Table row) (node : ℕ → Node) (root : ℕ) (k : Kept) (time x : ℕ) where
  held_in : (n : ℕ) → held_next row t node root k time x n ≡ true → Keeping (node n)
  unfolding held_next
  held_in n e = keeps_keeping (node n) _ (k.held n) _ x e

  live_in : (n : ℕ) (f : Bool) → (work row t node root k time x).after n f ≡ true → CellAt row n f
  unfolding work
  live_in n f e = (after_only row t k.live (sample x) (enters row t node root k time x) n f e).0

  dark : (n a : ℕ) (f : Bool) → row n ≡ r_left a → (work row t node root k time x).after n f ≡ false
  unfolding work
  dark n a f q = tells_no (tells_value _) (λ e. clash (gone e) (after_only row t k.live (sample x) (enters row t node root k time x) n f e).2)
    where
      gone : (whole_work row t k.live (sample x) (enters row t node root k time x)).after n f ≡ true
          → (give row k.live (sample x) (part_of row k.live (sample x)) (enters row t node root k time x) (row n) n f ((whole_work row t k.live (sample x) (enters row t node root k time x)).uses n)).go 7 ≡ false
      gone e = ap (λ R. (give row k.live (sample x) (part_of row k.live (sample x)) (enters row t node root k time x) R n f ((whole_work row t k.live (sample x) (enters row t node root k time x)).uses n)).go 7) q

  pub next_in_place : InPlace row node (kept_next row t node root k time x)
  next_in_place = record { held_keeps = held_in; live_cells = live_in; left_dark = dark }
