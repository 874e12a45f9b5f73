-- What the engine keeps against what the model keeps: after each sample the one represents the other. Nothing here has to be believed.
use Rattle.std.specs.Prelude.{ℕ, ◌<◌, ◌^◌, ◌≡◌, refl, Bool, true, false, ◌||◌, T}
use Rattle.std.proofs.Common.{arith, sym, ◌∙◌, ap, ap₂, subst}
use Rattle.psl.specs.Sequences.{Sequence, cell, then, fuse, alt, star, plus}
use Rattle.psl.proofs.Marks.Automaton.{Marks, empty, join, first}
use Rattle.psl.proofs.Marks.Feed as Feed
use Rattle.psl.proofs.Marks.Masks.{cells, mask, unmask}
use Rattle.psl.proofs.Marks.Linear.{two}
use Rattle.psl.proofs.Model.Nodes.{Node, n_weak, n_never, n_suffix, n_suffix_next}
use Rattle.psl.proofs.Model.Auto.{feed}
use Rattle.psl.proofs.Model.Machine.{machine, back}
use Rattle.psl.proofs.Model.Monitor.{use_of, none, merged, ever, apart, Use, State, no_mark, opened}
use Rattle.lanes.specs.OneLane.{fed}
use Rattle.lanes.specs.Rows.{Row, r_weak, r_left, Lit, sits_lit}
use Rattle.lanes.specs.Expected.{sequence_of, Table, left_has, marks_of, marks_sit}

-- A bit of each row that is owed or running; of each cell that a left side or a `never` expects, by row and field; the pending sets of each weak sequence.
pub record Kept : Type 0 where
  pub held : ℕ → Bool
  pub live : ℕ → Bool → Bool
  pub sets : ℕ → ℕ → Bool

-- A row, and the node that it is to the model: only weak sequences, left sides and `never` have a sequence.
pub data Shape (row : ℕ → Row) : Row → Node → Type 0 where
  of_weak : {a : ℕ} → Shape row (r_weak a) (n_weak (sequence_of row a))
  of_never : {a : ℕ} → Shape row (r_left a) (n_never (sequence_of row a))
  of_suffix : {a c : ℕ} → Shape row (r_left a) (n_suffix (sequence_of row a) c)
  of_suffix_next : {a c : ℕ} → Shape row (r_left a) (n_suffix_next (sequence_of row a) c)
  of_other : {R : Row} {nd : Node} → ((a : ℕ) → R ≡ r_weak a → ⊥) → ((a : ℕ) → R ≡ r_left a → ⊥) → use_of nd ≡ none → Shape row R nd

pub weak_not_left : {a b : ℕ} → r_weak a ≡ r_left b → ⊥
weak_not_left e = let z : ◌≡◌ {A = ℕ} 0 1 = cc in omega arith

-- A fresh attempt at a node's sequence: a `never` that runs starts one at every sample.
abbrev pub entered : Use → Bool → Bool → Bool
entered none now held = now
entered (merged r) now held = now
entered (ever r) now held = held || now
entered (apart r) now held = now

abbrev pub IsNever : Use → Type 0
IsNever none = ⊥
IsNever (merged r) = ⊥
IsNever (ever r) = Unit
IsNever (apart r) = ⊥

module _ (row : ℕ → Row) (t : Table row) where
  -- the marks of the left side n
  abbrev pub left_marks : (ℕ → Bool → Bool) → (n a : ℕ) → row n ≡ r_left a → Marks (sequence_of row a)
  left_marks live n a e = marks_of row t live n false a (left_has row n a e)

  pub record Represents (node : ℕ → Node) (k : Kept) (st : State) : Type 0 where
    pub held_is : (n : ℕ) → st.held n ≡ k.held n
    pub mark_is : (n a : ℕ) (e : row n ≡ r_left a) → st.mark n ≡ mask (sequence_of row a) (left_marks k.live n a e)
    pub sets_are : (n a : ℕ) → row n ≡ r_weak a → (s : ℕ) → st.bits n s ≡ k.sets n s
    pub sets_small : (n a : ℕ) → row n ≡ r_weak a → (s : ℕ) → k.sets n s ≡ true → s < 2 ^ cells (sequence_of row a)
    pub never_runs : (n a : ℕ) (e : row n ≡ r_left a) → IsNever (use_of (node n)) → T (Feed.any (sequence_of row a) (left_marks k.live n a e)) → k.held n ≡ true

-- Marks as masks: what reads the letter, and marks of which none is set.
pub fed_same : (r : Sequence) (m : Marks r) (now : Bool) → unmask r (feed machine r now (mask r m)) ≡ fed r m now
fed_same r m true = back r _ ∙ ap₂ (join r) (back r m) (back r (first r))
fed_same r m false = back r _ ∙ ap₂ (join r) (back r m) (back r (empty r))

or_none : (a b : Bool) → a || b ≡ false → (a ≡ false) × (b ≡ false)
or_none true b e = absurd (subst T e tt)
or_none false b e = (refl, e)

pub none_marked : (r : Sequence) (m : Marks r) → Feed.any r m ≡ false → m ≡ empty r
none_marked (cell b) m e = e
none_marked (then a b) m e = let h = or_none _ _ e in two (none_marked a m.0 h.0) (none_marked b m.1 h.1)
none_marked (fuse a b) m e = let h = or_none _ _ e in two (none_marked a m.0 h.0) (none_marked b m.1 h.1)
none_marked (alt a b) m e = let h = or_none _ _ e in two (none_marked a m.0 h.0) (none_marked b m.1 h.1)
none_marked (star a) m e = none_marked a m e
none_marked (plus a) m e = none_marked a m e

-- Before the first sample nothing is kept.
abbrev pub nothing : Kept
nothing = record { held = λ n. false; live = λ n f. false; sets = λ n s. false }

module _ (row : ℕ → Row) (t : Table row) (node : ℕ → Node) (shape : (n : ℕ) → Shape row (row n) (node n)) where
  unlit : (n a : ℕ) (e : row n ≡ r_left a) → Feed.any (sequence_of row a) (left_marks row t (λ j f. false) n a e) ≡ false
  unlit n a e = dark (Feed.any (sequence_of row a) (left_marks row t (λ j f. false) n a e))
      (λ h. sits_lit row (λ j f. false) (marks_sit row t (λ j f. false) n false a (left_has row n a e)) h)
    where
      dark : (b : Bool) → (T b → Lit row (λ j f. false)) → b ≡ false
      dark true g = absurd (subst T (sym (g tt).2) tt)
      dark false g = refl

  no_mark_lem : {R : Row} {nd : Node} (a : ℕ) → R ≡ r_left a → Shape row R nd → no_mark machine (use_of nd) ≡ mask (sequence_of row a) (empty (sequence_of row a))
  no_mark_lem a e of_weak = absurd (weak_not_left e)
  no_mark_lem a e (of_never {a = b}) = let q : b ≡ a = cc in ap (λ (v : ℕ). mask (sequence_of row v) (empty (sequence_of row v))) q
  no_mark_lem a e (of_suffix {a = b}) = let q : b ≡ a = cc in ap (λ (v : ℕ). mask (sequence_of row v) (empty (sequence_of row v))) q
  no_mark_lem a e (of_suffix_next {a = b}) = let q : b ≡ a = cc in ap (λ (v : ℕ). mask (sequence_of row v) (empty (sequence_of row v))) q
  no_mark_lem a e (of_other w l u) = absurd (l a e)

  pub nothing_represents : Represents row t node nothing (opened machine node)
  nothing_represents = record {
    held_is = λ n. refl;
    mark_is = λ n a e. no_mark_lem a e (shape n) ∙ ap (mask (sequence_of row a)) (sym (none_marked (sequence_of row a) _ (unlit n a e)));
    sets_are = λ n a e s. refl;
    sets_small = λ n a e s h. absurd (subst T (sym h) tt);
    never_runs = λ n a e i h. absurd (subst T (unlit n a e) h);
  }
