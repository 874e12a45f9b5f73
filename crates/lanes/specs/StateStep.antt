-- One sample: if the passes leave what they should, the new state represents the model's next one. Nothing here has to be believed.
use Rattle.std.specs.Prelude.{ℕ, ◌<◌, ◌^◌, ◌≡◌, refl, Bool, true, false, not, ◌&&◌, ◌||◌, T, eqb}
use Rattle.std.proofs.Math.Path.{sym, fun_ext}
use Rattle.std.proofs.Common.{◌∙◌, ap, ap₂, subst}
use Rattle.psl.specs.Booleans.{sample}
use Rattle.psl.specs.Sequences.{Sequence}
use Rattle.psl.proofs.Marks.Automaton.{Marks, empty, step}
use Rattle.psl.proofs.Marks.Feed as Feed
use Rattle.psl.proofs.Marks.Masks.{cells, mask}
use Rattle.psl.proofs.Marks.Linear.{step_empty, join_empty_r}
use Rattle.psl.specs.Tells.{tells_any, tells_and, tells_value, tells_eq, tells_true, tells_no, tells_t}
use Rattle.psl.proofs.Model.Nodes.{Node, n_bool, n_weak, n_never, n_both, n_next, n_always, n_if_else, n_implies, n_or, n_until, n_suffix, n_suffix_next}
use Rattle.psl.proofs.Model.Step.{keeps}
use Rattle.psl.proofs.Model.Auto.{feed}
use Rattle.psl.proofs.Model.Machine.{machine, good, any_empty}
use Rattle.psl.proofs.Model.Monitor as M
use Rattle.lanes.specs.OneLane.{fed}
use Rattle.lanes.specs.Families.{moved_to, sets_same}
use Rattle.lanes.specs.Rows.{Row, r_weak, r_left, Lit}
use Rattle.lanes.specs.Expected.{sequence_of, Table}
use Rattle.lanes.specs.UpPass.{Part, operand, RowPart}
use Rattle.lanes.specs.Uses.{ended_lanes}
use Rattle.lanes.specs.DownPass.{Work, weak_use, left_use}
use Rattle.lanes.specs.Results.{marks_next, Done, left_hit, left_after, after_waits, weak_lanes}
use Rattle.lanes.specs.State.{Kept, weak_not_left, Shape, of_weak, of_never, of_suffix, of_suffix_next, of_other, entered, IsNever, left_marks, Represents, fed_same, none_marked}

-- What a merged set says of a letter, by its marks.
module _ (r : Sequence) (m : Marks r) (mark x : ℕ) (e : mark ≡ mask r m) (now : Bool) where
  ends_fed : machine.ends r (feed machine r now mark) x ≡ (step r (sample x) (fed r m now)).0
  ends_fed = rw e (ap (λ (z : Marks r). (step r (sample x) z).0) (fed_same r m now))

  goes_fed : machine.go r (feed machine r now mark) x ≡ mask r (step r (sample x) (fed r m now)).1
  goes_fed = rw e (ap (λ (z : Marks r). mask r (step r (sample x) z).1) (fed_same r m now))

module _ (row : ℕ → Row) (t : Table row) (x : ℕ) where
  hit_by : {R : Row} {nd : Node} (a : ℕ) → Shape row R nd → R ≡ r_left a → (m : Marks (sequence_of row a)) (mark : ℕ) → mark ≡ mask (sequence_of row a) m → (now held : Bool)
      → M.ends_now machine (M.use_of nd) now held mark x ≡ (step (sequence_of row a) (sample x) (fed (sequence_of row a) m (entered (M.use_of nd) now held))).0
  hit_by a of_weak e m mark q now held = absurd (weak_not_left e)
  hit_by a (of_never {a = b}) e m mark q now held = let z : b ≡ a = cc in rw z (ends_fed (sequence_of row a) m mark x q (held || now))
  hit_by a (of_suffix {a = b}) e m mark q now held = let z : b ≡ a = cc in rw z (ends_fed (sequence_of row a) m mark x q now)
  hit_by a (of_suffix_next {a = b}) e m mark q now held = let z : b ≡ a = cc in rw z (ends_fed (sequence_of row a) m mark x q now)
  hit_by a (of_other w l u) e m mark q now held = absurd (l a e)

  mark_by : {R : Row} {nd : Node} (a : ℕ) → Shape row R nd → R ≡ r_left a → (m : Marks (sequence_of row a)) (mark : ℕ) → mark ≡ mask (sequence_of row a) m → (now held : Bool)
      → M.mark_after machine (M.use_of nd) now held mark x ≡ mask (sequence_of row a) (step (sequence_of row a) (sample x) (fed (sequence_of row a) m (entered (M.use_of nd) now held))).1
  mark_by a of_weak e m mark q now held = absurd (weak_not_left e)
  mark_by a (of_never {a = b}) e m mark q now held = let z : b ≡ a = cc in rw z (goes_fed (sequence_of row a) m mark x q (held || now))
  mark_by a (of_suffix {a = b}) e m mark q now held = let z : b ≡ a = cc in rw z (goes_fed (sequence_of row a) m mark x q now)
  mark_by a (of_suffix_next {a = b}) e m mark q now held = let z : b ≡ a = cc in rw z (goes_fed (sequence_of row a) m mark x q now)
  mark_by a (of_other w l u) e m mark q now held = absurd (l a e)

  -- a weak node: it is entered just when it begins
  bits_by : {R : Row} {nd : Node} (a : ℕ) → Shape row R nd → R ≡ r_weak a → (now held : Bool) (old : ℕ → Bool) (s : ℕ)
      → (M.bits_after machine (M.use_of nd) now old x s ≡ M.sets_after machine (sequence_of row a) now old x s) × (entered (M.use_of nd) now held ≡ now)
  bits_by a (of_weak {a = b}) e now held old s = let z : b ≡ a = cc in (rw z refl, refl)
  bits_by a of_never e now held old s = absurd (weak_not_left (sym e))
  bits_by a of_suffix e now held old s = absurd (weak_not_left (sym e))
  bits_by a of_suffix_next e now held old s = absurd (weak_not_left (sym e))
  bits_by a (of_other w l u) e now held old s = absurd (w a e)

never_keeps : (nd : Node) → IsNever (M.use_of nd) → (now held hit : Bool) (x : ℕ) → keeps nd now held hit x ≡ entered (M.use_of nd) now held
never_keeps (n_bool b) i now held hit x = absurd i
never_keeps (n_weak r) i now held hit x = absurd i
never_keeps (n_never r) i now held hit x = refl
never_keeps (n_both a c) i now held hit x = absurd i
never_keeps (n_next a) i now held hit x = absurd i
never_keeps (n_always a) i now held hit x = absurd i
never_keeps (n_if_else b a c) i now held hit x = absurd i
never_keeps (n_implies b a) i now held hit x = absurd i
never_keeps (n_or a b) i now held hit x = absurd i
never_keeps (n_until a b) i now held hit x = absurd i
never_keeps (n_suffix r a) i now held hit x = absurd i
never_keeps (n_suffix_next r a) i now held hit x = absurd i

-- what is not entered is not held
not_held : (u : M.Use) → IsNever u → (now held : Bool) → entered u now held ≡ false → held ≡ false
not_held M.none i now held e = absurd i
not_held (M.merged r) i now held e = absurd i
not_held (M.ever r) i now true e = e
not_held (M.ever r) i now false e = refl
not_held (M.apart r) i now held e = absurd i

-- a set that is left after a letter is a set of cells
left_small : (r : Sequence) (now : Bool) (old : ℕ → Bool) (x s : ℕ) → M.sets_after machine r now old x s ≡ true → s < 2 ^ cells r
left_small r now old x s e = go (tells_true (tells_any _ _ (λ p. tells_and (tells_value (old p || (now && eqb p (machine.first r))))
    (tells_and (tells_value (not (machine.ends r p x))) (tells_eq s (machine.go r p x)))) (2 ^ cells r)) e)
  where
    go : ((p : ℕ) × (p < 2 ^ cells r) × (((old p || (now && eqb p (machine.first r))) ≡ true) × ((not (machine.ends r p x) ≡ true) × (s ≡ machine.go r p x)))) → s < 2 ^ cells r
    go h = rw h.2.1.1 (good.go_small r h.0 x)

module _ (row : ℕ → Row) (t : Table row) (node : ℕ → Node) (shape : (n : ℕ) → Shape row (row n) (node n)) (root time x : ℕ)
    (k : Kept) (st : M.State) (rep : Represents row t node k st) where
  abbrev pub begins : ℕ → Bool
  begins = M.begin_at machine node root st time x

  abbrev pub enters : ℕ → Bool
  enters n = entered (M.use_of (node n)) (begins n) (k.held n)

  module _ (part : ℕ → Part) (all : (v : ℕ) → RowPart row k.live (sample x) part (row v) v) where
    -- A LEFT SIDE OR NEVER: whether a match ends, whatever begins
    pub hit_is : (n a : ℕ) (e : row n ≡ r_left a) (now : Bool) → M.ends_now machine (M.use_of (node n)) now (st.held n) (st.mark n) x
        ≡ ended_lanes (operand row k.live (sample x) part n false a) (left_use (entered (M.use_of (node n)) now (k.held n))) 7
    hit_is n a e now = ap (λ (b : Bool). M.ends_now machine (M.use_of (node n)) now b (st.mark n) x) (rep.held_is n)
        ∙ hit_by row t x a (shape n) e (left_marks row t k.live n a e) (st.mark n) (rep.mark_is n a e) now (k.held n)
        ∙ sym (left_hit row t (sample x) (λ j. entered (M.use_of (node n)) now (k.held n)) k.live part all n a e)

    -- what is left at a weak node after the letter
    abbrev pub moved : Work → ℕ → ℕ → ℕ → Bool
    moved d n a s = moved_to (ended_lanes (operand row k.live (sample x) part n false a) (weak_use n (enters n))) (d.rel n) (enters n) (k.sets n) s

    module _ (d : Work) (h : Done row t (sample x) enters k.live part 0 d) (k' : Kept)
        (held_new : (n : ℕ) → k'.held n ≡ M.new_held machine node root st time x n)
        (live_new : k'.live ≡ d.after)
        (sets_new : (n a : ℕ) → row n ≡ r_weak a → (s : ℕ) → k'.sets n s ≡ moved d n a s) where
      marks_after : (n a : ℕ) (e : row n ≡ r_left a) → left_marks row t k'.live n a e ≡ marks_next row t (sample x) enters k.live part n a e
      marks_after n a e = rw live_new (left_after row t (sample x) enters k.live part all d h n a e)

      mark_new : (n a : ℕ) (e : row n ≡ r_left a) → M.new_mark machine node root st time x n ≡ mask (sequence_of row a) (left_marks row t k'.live n a e)
      mark_new n a e = ap (λ (b : Bool). M.mark_after machine (M.use_of (node n)) (begins n) b (st.mark n) x) (rep.held_is n)
          ∙ mark_by row t x a (shape n) e (left_marks row t k.live n a e) (st.mark n) (rep.mark_is n a e) (begins n) (k.held n)
          ∙ ap (mask (sequence_of row a)) (sym (marks_after n a e))

      model_sets : (n a : ℕ) → row n ≡ r_weak a → (s : ℕ) → moved d n a s ≡ M.sets_after machine (sequence_of row a) (enters n) (k.sets n) x s
      model_sets n a e s = sets_same _ _ (sequence_of row a) x (enters n) (weak_lanes row t (sample x) enters k.live part all d h n a e) (k.sets n) (rep.sets_small n a e) s

      bits_new : (n a : ℕ) → row n ≡ r_weak a → (s : ℕ) → M.new_bits machine node root st time x n s ≡ k'.sets n s
      bits_new n a e s = (bits_by row t x a (shape n) e (begins n) (k.held n) (st.bits n) s).0
          ∙ ap₂ (λ (now : Bool) (old : ℕ → Bool). M.sets_after machine (sequence_of row a) now old x s)
          (sym (bits_by row t x a (shape n) e (begins n) (k.held n) (st.bits n) s).1) (fun_ext (rep.sets_are n a e))
          ∙ sym (sets_new n a e s ∙ model_sets n a e s)

      runs_on : (n a : ℕ) (e : row n ≡ r_left a) → IsNever (M.use_of (node n)) → T (Feed.any (sequence_of row a) (left_marks row t k'.live n a e)) → k'.held n ≡ true
      runs_on n a e i lit = go (enters n) refl
        where
          dark : enters n ≡ false → left_marks row t k.live n a e ≡ empty (sequence_of row a)
          dark z = none_marked (sequence_of row a) (left_marks row t k.live n a e) (tells_no (tells_t _) (λ q. subst T (sym (rep.never_runs n a e i q) ∙ not_held (M.use_of (node n)) i (begins n) (k.held n) z) tt))

          unlit : enters n ≡ false → marks_next row t (sample x) enters k.live part n a e ≡ empty (sequence_of row a)
          unlit z = ap₂ (λ (m : Marks (sequence_of row a)) (b : Bool). (step (sequence_of row a) (sample x) (fed (sequence_of row a) m b)).1) (dark z) z
              ∙ ap (λ (m : Marks (sequence_of row a)). (step (sequence_of row a) (sample x) m).1) (join_empty_r (sequence_of row a) (empty (sequence_of row a)))
              ∙ (step_empty (sequence_of row a) (sample x)).1

          go : (b : Bool) → enters n ≡ b → k'.held n ≡ true
          go true z = held_new n ∙ never_keeps (node n) i (begins n) (st.held n) _ x ∙ ap (entered (M.use_of (node n)) (begins n)) (rep.held_is n) ∙ z
          go false z = absurd (subst T (ap (Feed.any (sequence_of row a)) (marks_after n a e ∙ unlit z) ∙ any_empty (sequence_of row a)) lit)

      pub step_represents : Represents row t node k' (M.step machine node root st time x)
      unfolding M.step
      step_represents = record {
        held_is = λ n. sym (held_new n);
        mark_is = mark_new;
        sets_are = bits_new;
        sets_small = λ n a e s q. left_small (sequence_of row a) (enters n) (k.sets n) x s (sym (sets_new n a e s ∙ model_sets n a e s) ∙ q);
        never_runs = runs_on;
      }

      -- a cell that is expected is one of a left side
      pub lit_left : Lit row k'.live → (n : ℕ) × (a : ℕ) × (e : row n ≡ r_left a) × T (Feed.any (sequence_of row a) (left_marks row t k'.live n a e))
      lit_left lit =
          let w = after_waits row t (sample x) enters k.live part all d h (rw live_new at lit) in
          (w.node, w.arg, w.left, subst (λ (m : Marks (sequence_of row w.arg)). T (Feed.any (sequence_of row w.arg) m)) (sym (marks_after w.node w.arg w.left)) w.some)
