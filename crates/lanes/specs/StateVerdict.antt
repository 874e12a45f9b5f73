-- The verdict from what the engine keeps: broken where a row says so, settled where nothing is kept. Nothing here has to be believed.
use Rattle.std.specs.Prelude.{ℕ, suc, ◌≤◌, ◌<◌, ◌^◌, ◌≡◌, refl, Bool, true, false, not, ◌||◌, ◌⊎◌, T}
use Rattle.std.proofs.Common.{mod-eq_of_lt, arith, sym, ◌∙◌, ap, subst, inl, inr, ⊎_elim, pow_pos}
use Rattle.std.proofs.Math.Decide.{dec_le}
use Rattle.std.proofs.Math.Path.{fun_ext}
use Rattle.psl.specs.Sequences.{Sequence}
use Rattle.psl.proofs.Marks.Automaton.{empty}
use Rattle.psl.proofs.Marks.Feed as Feed
use Rattle.psl.proofs.Marks.Masks.{cells, mask, unmask, mask_empty}
use Rattle.psl.specs.Tells.{Tells, any, tells_any, tells_and, tells_or, tells_not, tells_not_value, tells_value, tells_t, tells_true, true_tells, tells_no}
use Rattle.psl.proofs.Model.Nodes.{Node, n_bool, n_weak, n_never, n_both, n_next, n_always, n_if_else, n_implies, n_or, n_until, n_suffix, n_suffix_next}
use Rattle.psl.proofs.Model.Judge.{breaks_at}
use Rattle.psl.proofs.Model.Machine.{machine, back, any_empty}
use Rattle.psl.proofs.Model.Monitor as M
use Rattle.lanes.specs.Bits.{tells_same}
use Rattle.lanes.specs.CellSets.{mask_unmask}
use Rattle.lanes.specs.Rows.{Row, r_weak, r_left, r_rest, Lit, sits_lit}
use Rattle.lanes.specs.Expected.{sequence_of, Table, left_has, marks_sit}
use Rattle.lanes.specs.State.{Kept, weak_not_left, Shape, of_weak, of_never, of_suffix, of_suffix_next, of_other, IsNever, left_marks, Represents, none_marked}

-- Nothing is kept for the rows up to the root.
pub record Quiet (row : ℕ → Row) (root : ℕ) (k : Kept) : Type 0 where
  pub none_held : (n : ℕ) → n ≤ root → k.held n ≡ false
  pub none_live : ¬ Lit row k.live
  pub none_pending : (n a : ℕ) → row n ≡ r_weak a → (s : ℕ) → k.sets n s ≡ false

-- A pending set with no cell left is the empty one.
pub dead_is : (r : Sequence) (f : ℕ → Bool) → ((s : ℕ) → f s ≡ true → s < 2 ^ cells r) → M.dead_now machine (M.apart r) f ≡ f 0
dead_is r f small = tells_same (tells_any _ _ (λ s. tells_and (tells_value (f s)) (tells_not_value (Feed.any r (unmask r s)))) (2 ^ cells r)) (tells_value (f 0))
    (λ h. let z : h.0 ≡ 0 = zero_set h.0 h.1 h.2.1 in rw z at h.2.0)
    (λ e. (0, pow_pos (cells r), (e, none_in_zero)))
  where
    zero_set : (s : ℕ) → s < 2 ^ cells r → Feed.any r (unmask r s) ≡ false → s ≡ 0
    zero_set s l e = sym (mod-eq_of_lt l) ∙ sym (mask_unmask r s) ∙ ap (mask r) (none_marked r (unmask r s) e) ∙ mask_empty r

    none_in_zero : Feed.any r (unmask r 0) ≡ false
    none_in_zero = ap (λ (s : ℕ). Feed.any r (unmask r s)) (sym (mask_empty r)) ∙ ap (Feed.any r) (back r (empty r)) ∙ any_empty r

module _ (row : ℕ → Row) (t : Table row) (node : ℕ → Node) (shape : (n : ℕ) → Shape row (row n) (node n)) (root : ℕ) (top : (n : ℕ) → root < n → row n ≡ r_rest)
    (k : Kept) (st : M.State) (rep : Represents row t node k st) where
  -- what the model makes of the state, by row
  abbrev ajar : ℕ → Bool
  ajar n = M.ajar_now machine (M.use_of (node n)) (st.mark n) (st.bits n)

  low : (n a : ℕ) → row n ≡ r_left a → n ≤ root
  low n a e = elim (dec_le n root) [ yes l ↦ l | no l ↦ (let q = top n (omega arith) in let z : ◌≡◌ {A = ℕ} 0 1 = cc in absurd (omega arith)) ]

  weak_low : (n a : ℕ) → row n ≡ r_weak a → n ≤ root
  weak_low n a e = elim (dec_le n root) [ yes l ↦ l | no l ↦ (let q = top n (omega arith) in let z : ◌≡◌ {A = ℕ} 0 1 = cc in absurd (omega arith)) ]

  -- a merged set has a cell just if a mark is set
  some_marked : (n a : ℕ) (e : row n ≡ r_left a) → machine.some (sequence_of row a) (st.mark n) ≡ Feed.any (sequence_of row a) (left_marks row t k.live n a e)
  some_marked n a e = rw (rep.mark_is n a e) (ap (Feed.any (sequence_of row a)) (back (sequence_of row a) (left_marks row t k.live n a e)))

  -- A left side that waits is held, or ajar.
  left_shows : {R : Row} {nd : Node} (a : ℕ) → Shape row R nd → R ≡ r_left a → (mark : ℕ) (bits : ℕ → Bool) → machine.some (sequence_of row a) mark ≡ true
      → IsNever (M.use_of nd) ⊎ (M.ajar_now machine (M.use_of nd) mark bits ≡ true)
  left_shows a of_weak e mark bits h = absurd (weak_not_left e)
  left_shows a of_never e mark bits h = inl tt
  left_shows a (of_suffix {a = b}) e mark bits h = let z : b ≡ a = cc in inr (rw z h)
  left_shows a (of_suffix_next {a = b}) e mark bits h = let z : b ≡ a = cc in inr (rw z h)
  left_shows a (of_other w l u) e mark bits h = absurd (l a e)

  weak_shows : {R : Row} {nd : Node} (a : ℕ) → Shape row R nd → R ≡ r_weak a → (mark : ℕ) (bits : ℕ → Bool)
      → (M.ajar_now machine (M.use_of nd) mark bits ≡ any (2 ^ cells (sequence_of row a)) bits) × (M.dead_now machine (M.use_of nd) bits ≡ M.dead_now machine (M.apart (sequence_of row a)) bits)
  weak_shows a (of_weak {a = b}) e mark bits = let z : b ≡ a = cc in (rw z refl, rw z refl)
  weak_shows a of_never e mark bits = absurd (weak_not_left (sym e))
  weak_shows a of_suffix e mark bits = absurd (weak_not_left (sym e))
  weak_shows a of_suffix_next e mark bits = absurd (weak_not_left (sym e))
  weak_shows a (of_other w l u) e mark bits = absurd (w a e)

  ajar_back : {R : Row} {nd : Node} → Shape row R nd → (mark : ℕ) (bits : ℕ → Bool) → M.ajar_now machine (M.use_of nd) mark bits ≡ true
      → ((a : ℕ) × (R ≡ r_weak a) × (any (2 ^ cells (sequence_of row a)) bits ≡ true)) ⊎ ((a : ℕ) × (R ≡ r_left a) × (machine.some (sequence_of row a) mark ≡ true))
  ajar_back (of_weak {a = a}) mark bits h = inl (a, refl, h)
  ajar_back of_never mark bits h = absurd (subst T (sym h) tt)
  ajar_back (of_suffix {a = a}) mark bits h = inr (a, refl, h)
  ajar_back (of_suffix_next {a = a}) mark bits h = inr (a, refl, h)
  ajar_back (of_other w l u) mark bits h = absurd (subst T (sym (sym (ap (λ z. M.ajar_now machine z mark bits) u) ∙ h)) tt)

  any_of : (N : ℕ) (f : ℕ → Bool) → any N f ≡ true → (s : ℕ) × (f s ≡ true)
  any_of N f e = let h = tells_true (tells_any _ f (λ s. tells_value (f s)) N) e in (h.0, h.2)

  of_any : (N : ℕ) (f : ℕ → Bool) (s : ℕ) → s < N → f s ≡ true → any N f ≡ true
  of_any N f s l e = true_tells (tells_any _ f (λ s. tells_value (f s)) N) (s, l, e)

  -- Something is kept just if the model still waits for something.
  abbrev Shows : ℕ → Type 0
  Shows n = (k.held n ≡ true) ⊎ (ajar n ≡ true)

  quiet_hides : Quiet row root k → (n : ℕ) → n < suc root → ¬ Shows n
  quiet_hides q n l (inl h) = subst T (sym h ∙ q.none_held n (omega arith)) tt
  quiet_hides q n l (inr h) = ⊎_elim
      (λ w. (let s = any_of _ (st.bits n) w.2 in subst T (sym (sym (rep.sets_are n w.0 w.1 s.0) ∙ s.1) ∙ q.none_pending n w.0 w.1 s.0) tt))
      (λ w. q.none_live (sits_lit row k.live (marks_sit row t k.live n false w.0 (left_has row n w.0 w.1))
      (subst T (sym (sym (some_marked n w.0 w.1) ∙ w.2)) tt)))
      (ajar_back (shape n) (st.mark n) (st.bits n) h)

  module _ (lit_left : Lit row k.live → (n : ℕ) × (a : ℕ) × (e : row n ≡ r_left a) × T (Feed.any (sequence_of row a) (left_marks row t k.live n a e))) where
    lit_shows : Lit row k.live → (n : ℕ) × (n < suc root) × Shows n
    lit_shows lit =
        let w = lit_left lit in (
          w.0,
          omega (arith, low w.0 w.1 w.2),
          ⊎_elim
              (λ i. inl (rep.never_runs w.0 w.1 w.2 i w.3)) (λ e. inr e)
              (left_shows w.1 (shape w.0) w.2 (st.mark w.0) (st.bits w.0) (some_marked w.0 w.1 w.2 ∙ tells_true (tells_value _) (true_tells (tells_t _) w.3))),
        )

    pending_shows : (n a : ℕ) → row n ≡ r_weak a → (s : ℕ) → k.sets n s ≡ true → Shows n
    pending_shows n a e s h = inr ((weak_shows a (shape n) e (st.mark n) (st.bits n)).0 ∙ of_any _ (st.bits n) s (rep.sets_small n a e s h) (rep.sets_are n a e s ∙ h))

    hidden_quiet : ((n : ℕ) → n < suc root → ¬ Shows n) → Quiet row root k
    hidden_quiet g = record {
      none_held = λ n l. tells_no (tells_value (k.held n)) (λ h. g n (omega arith) (inl h));
      none_live = λ lit. (let w = lit_shows lit in g w.0 w.1 w.2);
      none_pending = λ n a e s. tells_no (tells_value (k.sets n s)) (λ h. g n (omega (arith, weak_low n a e)) (pending_shows n a e s h));
    }

    -- SETTLED: nothing is kept
    pub settled_is : {quiet : Bool} → Tells (Quiet row root k) quiet → quiet ≡ not (any (suc root) (λ n. st.held n || ajar n))
    settled_is tq = tells_same tq (tells_not (tells_any _ _ (λ n. tells_or (tells_value (st.held n)) (tells_value (ajar n))) (suc root)))
        (λ q s. quiet_hides q s.0 s.1 (⊎_elim (λ h. inl (sym (rep.held_is s.0) ∙ h)) (λ h. inr h) s.2))
        (λ g. hidden_quiet (λ n l z. g (n, l, ⊎_elim (λ h. inl (rep.held_is n ∙ h)) (λ h. inr h) z)))

  -- BROKEN: a row by itself; a weak sequence if the empty set is pending
  dead_by : {R : Row} {nd : Node} → Shape row R nd → (n : ℕ) → ((a : ℕ) → R ≡ r_weak a → row n ≡ r_weak a) → (now hit : Bool) (x : ℕ)
      → breaks_at nd now hit (M.dead_now machine (M.use_of nd) (st.bits n)) x ≡ breaks_at nd now hit (k.sets n 0) x
  dead_by (of_weak {a = a}) n f now hit x = dead_is (sequence_of row a) (st.bits n) (λ s e. rep.sets_small n a (f a refl) s (sym (rep.sets_are n a (f a refl) s) ∙ e)) ∙ rep.sets_are n a (f a refl) 0
  dead_by of_never n f now hit x = refl
  dead_by of_suffix n f now hit x = refl
  dead_by of_suffix_next n f now hit x = refl
  dead_by (of_other {nd = nd} w l u) n f now hit x = other nd u
    where
      other : (nd : Node) → M.use_of nd ≡ M.none → breaks_at nd now hit (M.dead_now machine (M.use_of nd) (st.bits n)) x ≡ breaks_at nd now hit (k.sets n 0) x
      other (n_bool b) u = refl
      other (n_weak r) u = (let z : ◌≡◌ {A = ℕ} 0 1 = cc in absurd (omega arith))
      other (n_never r) u = refl
      other (n_both a c) u = refl
      other (n_next a) u = refl
      other (n_always a) u = refl
      other (n_if_else b a c) u = refl
      other (n_implies b a) u = refl
      other (n_or a b) u = refl
      other (n_until a b) u = refl
      other (n_suffix r a) u = refl
      other (n_suffix_next r a) u = refl

  pub broken_is : (now hit : ℕ → Bool) (x : ℕ) → any (suc root) (λ n. breaks_at (node n) (now n) (hit n) (M.dead_now machine (M.use_of (node n)) (st.bits n)) x)
      ≡ any (suc root) (λ n. breaks_at (node n) (now n) (hit n) (k.sets n 0) x)
  broken_is now hit x = ap (any (suc root)) (fun_ext (λ n. dead_by (shape n) n (λ a e. e) (now n) (hit n) x))
