-- One cycle of the engine as a function of what it keeps and of the sample, with every lane; and that it is the model's cycle.
-- Nothing here has to be believed.
use Prim.Native.Nat.{ℕ, suc, ◌<◌}
use Rattle.std.proofs.Common.{arith, ◌∙◌}
use Rattle.std.specs.Prelude.{◌≡◌, ◌&&◌, List, [], ◌∷◌, ◌++◌, length}
use Rattle.std.proofs.Math.Path.{refl, sym, ap, ap₂, subst, fun_ext}
use Rattle.std.proofs.Math.Bool.{Bool, false}
use Rattle.std.proofs.Math.Dec.{eqb}
use Rattle.psl.specs.Booleans.{Letter, sample}
use Rattle.psl.specs.Verdicts.{pending, Right, judged}
use Rattle.psl.proofs.Marks.Automaton.{nullable}
use Rattle.psl.specs.Tells.{Tells, any}
use Rattle.psl.proofs.Model.Nodes.{Node, Falls, prop_at}
use Rattle.psl.proofs.Model.Step.{keeps}
use Rattle.psl.proofs.Model.Pass.{pass}
use Rattle.psl.proofs.Model.Judge.{breaks_at}
use Rattle.psl.proofs.Model.Machine.{machine, good}
use Rattle.psl.proofs.Model.Monitor as M
use Rattle.lanes.specs.Families.{moved_to}
use Rattle.lanes.specs.Rows.{Row, r_bool, r_then, r_fuse, r_alt, r_star, r_plus, r_weak, r_left, r_rest}
use Rattle.lanes.specs.Expected.{Table, sequence_of, left_has, marks_sit}
use Rattle.lanes.specs.UpPass.{operand, part_ok}
use Rattle.lanes.specs.Uses.{ended_lanes}
use Rattle.lanes.specs.DownPass.{Work, weak_use, left_use}
use Rattle.lanes.specs.Ideal.{part_of, parts_right, whole_work, whole_right}
use Rattle.lanes.specs.State.{Kept, nothing, nothing_represents, Shape, of_weak, of_never, of_suffix, of_suffix_next, of_other, entered, weak_not_left, Represents}
use Rattle.lanes.specs.Results.{Done}
use Rattle.lanes.specs.StateStep as Step
use Rattle.lanes.specs.StateStep.{hit_is, step_represents, lit_left}
use Rattle.lanes.specs.StateVerdict.{Quiet, settled_is, broken_is}

module _ (row : ℕ → Row) (t : Table row) (node : ℕ → Node) (root : ℕ) (k : Kept) (time x : ℕ) where
  -- a match of the left side of row n ends now, if it begins or not
  abbrev pub hit_by : Row → ℕ → Bool → Bool
  hit_by (r_bool b) n now = false
  hit_by (r_then a b) n now = false
  hit_by (r_fuse a b) n now = false
  hit_by (r_alt a b) n now = false
  hit_by (r_star a) n now = false
  hit_by (r_plus a) n now = false
  hit_by (r_weak a) n now = false
  hit_by (r_left a) n now = ended_lanes (operand row k.live (sample x) (part_of row k.live (sample x)) n false a) (left_use (entered (M.use_of (node n)) now (k.held n))) 7
  hit_by r_rest n now = false

  unfoldable pub hit : ℕ → Bool → Bool
  hit n now = hit_by (row n) n now

  -- the rows that begin at this sample
  unfoldable pub begins : ℕ → Bool
  begins = pass node k.held hit x (suc root) (λ m. eqb m root && eqb time 0)

  unfoldable pub enters : ℕ → Bool
  enters n = entered (M.use_of (node n)) (begins n) (k.held n)

  unfoldable pub held_next : ℕ → Bool
  held_next n = keeps (node n) (begins n) (k.held n) (hit n (begins n)) x

  unfoldable pub work : Work
  work = whole_work row t k.live (sample x) enters

  -- the pending sets of the weak sequence of row n
  abbrev pub sets_by : Row → ℕ → ℕ → Bool
  sets_by (r_bool b) n s = false
  sets_by (r_then a b) n s = false
  sets_by (r_fuse a b) n s = false
  sets_by (r_alt a b) n s = false
  sets_by (r_star a) n s = false
  sets_by (r_plus a) n s = false
  sets_by (r_weak a) n s = moved_to (ended_lanes (operand row k.live (sample x) (part_of row k.live (sample x)) n false a) (weak_use n (enters n))) (work.rel n) (enters n) (k.sets n) s
  sets_by (r_left a) n s = false
  sets_by r_rest n s = false

  unfoldable pub sets_next : ℕ → ℕ → Bool
  sets_next n s = sets_by (row n) n s

  -- what is kept after the sample
  abbrev pub kept_next : Kept
  kept_next = record { held = held_next; live = work.after; sets = sets_next }

  -- a row breaks by itself
  unfoldable pub broke : ℕ → Bool
  broke n = breaks_at (node n) (begins n) (hit n (begins n)) (sets_next n 0) x

-- Whether the left side of row n can be empty is what the upward pass finds.
pub left_empty : (row : ℕ → Row) (t : Table row) (live : ℕ → Bool → Bool) (c : Letter) (n a : ℕ) → row n ≡ r_left a
    → (operand row live c (part_of row live c) n false a).empty ≡ nullable (sequence_of row a)
left_empty row t live c n a e = (part_ok row live c (part_of row live c) (parts_right row live c t.sound) (marks_sit row t live n false a (left_has row n a e))).empty_is

-- It is the model's cycle.
module _ (row : ℕ → Row) (t : Table row) (node : ℕ → Node) (shape : (n : ℕ) → Shape row (row n) (node n)) (root : ℕ)
    (k : Kept) (time x : ℕ) (st : M.State) (rep : Represents row t node k st) where
  other_hit : {R : Row} {nd : Node} → Shape row R nd → ((a : ℕ) → R ≡ r_left a → ⊥) → (now held : Bool) (mark : ℕ) → M.ends_now machine (M.use_of nd) now held mark x ≡ false
  other_hit of_weak f now held mark = refl
  other_hit of_never f now held mark = absurd (f _ refl)
  other_hit of_suffix f now held mark = absurd (f _ refl)
  other_hit of_suffix_next f now held mark = absurd (f _ refl)
  other_hit (of_other w l u) f now held mark = ap (λ z. M.ends_now machine z now held mark x) u

  model_hit : (n : ℕ) (now : Bool) → M.hit_at machine node root st time x n now ≡ hit row t node root k time x n now
  unfolding hit
  model_hit n now = by (row n) refl
    where
      not_left : {R : Row} → row n ≡ R → ((a : ℕ) → R ≡ r_left a → ⊥) → M.ends_now machine (M.use_of (node n)) now (st.held n) (st.mark n) x ≡ false
      not_left e f = other_hit (shape n) (λ a z. f a (sym e ∙ z)) now (st.held n) (st.mark n)

      by : (R : Row) → row n ≡ R → M.ends_now machine (M.use_of (node n)) now (st.held n) (st.mark n) x ≡ hit_by row t node root k time x R n now
      by (r_bool b) e = not_left e (λ a z. (let q : ◌≡◌ {A = ℕ} 0 1 = cc in omega arith))
      by (r_then a b) e = not_left e (λ a z. (let q : ◌≡◌ {A = ℕ} 0 1 = cc in omega arith))
      by (r_fuse a b) e = not_left e (λ a z. (let q : ◌≡◌ {A = ℕ} 0 1 = cc in omega arith))
      by (r_alt a b) e = not_left e (λ a z. (let q : ◌≡◌ {A = ℕ} 0 1 = cc in omega arith))
      by (r_star a) e = not_left e (λ a z. (let q : ◌≡◌ {A = ℕ} 0 1 = cc in omega arith))
      by (r_plus a) e = not_left e (λ a z. (let q : ◌≡◌ {A = ℕ} 0 1 = cc in omega arith))
      by (r_weak a) e = not_left e (λ a z. weak_not_left z)
      by (r_left a) e = hit_is row t node shape root time x k st rep (part_of row k.live (sample x)) (parts_right row k.live (sample x) t.sound) n a e now
      by r_rest e = not_left e (λ a z. (let q : ◌≡◌ {A = ℕ} 0 1 = cc in omega arith))

  model_begins : (n : ℕ) → M.begin_at machine node root st time x n ≡ begins row t node root k time x n
  unfolding begins
  model_begins n = ap₂ (λ (held : ℕ → Bool) (h : ℕ → Bool → Bool). pass node held h x (suc root) (λ m. eqb m root && eqb time 0) n)
      (fun_ext rep.held_is) (fun_ext (λ j. fun_ext (model_hit j)))

  model_enters : Step.enters row t node shape root time x k st rep ≡ enters row t node root k time x
  unfolding enters
  model_enters = fun_ext (λ n. ap (λ (b : Bool). entered (M.use_of (node n)) b (k.held n)) (model_begins n))

  model_held : (n : ℕ) → held_next row t node root k time x n ≡ M.new_held machine node root st time x n
  unfolding held_next
  model_held n = sym (ap₂ (λ (b h : Bool). keeps (node n) b h (M.hit_at machine node root st time x n b) x) (model_begins n) (rep.held_is n)
      ∙ ap (λ (b : Bool). keeps (node n) (begins row t node root k time x n) (k.held n) b x) (model_hit n (begins row t node root k time x n)))

  abbrev Worked : (ℕ → Bool) → Work → Type 0
  Worked enter d = Done row t (sample x) enter k.live (part_of row k.live (sample x)) 0 d

  worked : Worked (Step.enters row t node shape root time x k st rep) (work row t node root k time x)
  unfolding work
  worked = subst (λ (enter : ℕ → Bool). Worked enter (whole_work row t k.live (sample x) (enters row t node root k time x))) (sym model_enters)
      (whole_right row t k.live (sample x) (enters row t node root k time x))

  model_sets : (n a : ℕ) → row n ≡ r_weak a → (s : ℕ)
      → sets_next row t node root k time x n s ≡ Step.moved row t node shape root time x k st rep (part_of row k.live (sample x)) (parts_right row k.live (sample x) t.sound) (work row t node root k time x) n a s
  unfolding sets_next
  model_sets n a e s = ap (λ R. sets_by row t node root k time x R n s) e
      ∙ ap (λ (enter : ℕ → Bool). moved_to (ended_lanes (operand row k.live (sample x) (part_of row k.live (sample x)) n false a) (weak_use n (enter n))) ((work row t node root k time x).rel n) (enter n) (k.sets n) s) (sym model_enters)

  -- WHAT IS KEPT after the sample represents the model's state
  pub cycle_represents : Represents row t node (kept_next row t node root k time x) (M.step machine node root st time x)
  cycle_represents = step_represents row t node shape root time x k st rep (part_of row k.live (sample x)) (parts_right row k.live (sample x) t.sound)
      (work row t node root k time x) worked (kept_next row t node root k time x) model_held refl model_sets

  module _ (top : (n : ℕ) → root < n → row n ≡ r_rest) where
    model_broke : any (suc root) (λ n. breaks_at (node n) (M.begin_at machine node root st time x n) (M.hit_at machine node root st time x n (M.begin_at machine node root st time x n))
        (M.dead_now machine (M.use_of (node n)) (M.new_bits machine node root st time x n)) x) ≡ any (suc root) (broke row t node root k time x)
    unfolding M.step broke
    model_broke = broken_is row t node shape root top (kept_next row t node root k time x) (M.step machine node root st time x) cycle_represents
        (M.begin_at machine node root st time x) (λ n. M.hit_at machine node root st time x n (M.begin_at machine node root st time x n)) x
        ∙ ap (any (suc root)) (fun_ext (λ n. ap (λ (b : Bool). breaks_at (node n) b (M.hit_at machine node root st time x n b) (sets_next row t node root k time x n 0) x) (model_begins n)
        ∙ ap (λ (h : Bool). breaks_at (node n) (begins row t node root k time x n) h (sets_next row t node root k time x n 0) x) (model_hit n (begins row t node root k time x n))))

    -- THE VERDICT after the sample is the model's
    pub cycle_verdict : {quiet : Bool} → Tells (Quiet row root (kept_next row t node root k time x)) quiet
        → M.verdict machine node root st time x ≡ judged (any (suc root) (broke row t node root k time x)) quiet (suc time)
    unfolding M.verdict M.step
    cycle_verdict tq = ap₂ (λ (b s : Bool). judged b s (suc time)) model_broke
        (sym (settled_is row t node shape root top (kept_next row t node root k time x) (M.step machine node root st time x) cycle_represents
        (lit_left row t node shape root time x k st rep (part_of row k.live (sample x)) (parts_right row k.live (sample x) t.sound)
        (work row t node root k time x) worked (kept_next row t node root k time x) model_held refl model_sets) tq))

-- What is kept after the samples v.
module _ (row : ℕ → Row) (t : Table row) (node : ℕ → Node) (shape : (n : ℕ) → Shape row (row n) (node n)) (down : (n : ℕ) → Falls n (node n))
    (root : ℕ) (top : (n : ℕ) → root < n → row n ≡ r_rest) where
  pub record Holds (v : List ℕ) (k : Kept) : Type 0 where
    pub state : M.State
    pub invariant : M.Inv machine node root v state
    pub represents : Represents row t node k state

  pub holds_nothing : Holds [] nothing
  holds_nothing = record { state = M.opened machine node; invariant = M.opened_inv machine good node down root; represents = nothing_represents row t node shape }

  module _ (v : List ℕ) (k : Kept) (h : Holds v k) (x : ℕ) where
    pub holds_next : Holds (v ++ x ∷ []) (kept_next row t node root k (length v) x)
    holds_next = record {
      state = M.step machine node root h.state (length v) x;
      invariant = M.step_inv machine good node down root v x h.state h.invariant;
      represents = cycle_represents row t node shape root k (length v) x h.state h.represents;
    }

    pub right_next : {quiet : Bool} → Right (prop_at node root) v (pending (length v)) → Tells (Quiet row root (kept_next row t node root k (length v) x)) quiet
        → Right (prop_at node root) (v ++ x ∷ []) (judged (any (suc root) (broke row t node root k (length v) x)) quiet (suc (length v)))
    right_next p tq = subst (Right (prop_at node root) (v ++ x ∷ [])) (cycle_verdict row t node shape root k (length v) x h.state h.represents top tq)
        (M.step_right machine good node down root v x h.state h.invariant p)
