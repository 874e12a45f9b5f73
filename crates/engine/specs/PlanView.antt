-- From a plan of an accepted table to the rows and nodes that the passes and the model see.
use Rattle.std.specs.Prelude.{ℕ, ◌<◌, ◌≡◌, Bool, false, not, ◌&&◌, List, ◌⊎◌, T, ltb}
use Rattle.std.proofs.Common.{arith, sym, ◌∙◌, inl, inr, T_not}
use Rattle.std.proofs.Math.Path.{refl, subst}
use Rattle.std.proofs.Math.Bool.{true}
use Rattle.psl.specs.Booleans.{Boolean}
use Rattle.psl.proofs.Model.Monitor as M
use Rattle.psl.specs.Tells.{tells_lt, tells_and, tells_true, true_tells}
use Rattle.psl.proofs.Model.Nodes.{Node, Falls}
use Rattle.table.specs.Choice.{pick}
use Rattle.table.specs.Kinds.{class_of, fields_of, takes_of, in_f}
use Rattle.table.specs.Rows.{row_at}
use Rattle.table.specs.Trees.{boolean_at, sequence_at}
use Rattle.table.specs.Subset.{Subset, kind_at, Field, field_a, field_b, field_c, IsOperand, holds_at, value_at}
use Rattle.table.proofs.Laws.Spans.{every}
use Rattle.table.proofs.Facts.Trees as Tree
use Rattle.table.specs.declared.Counts.{Counts}
use Rattle.table.specs.declared.kinds.Holds.{Holds}
use Rattle.table.specs.declared.kinds.Holds.TheVariants.{Nothing, Signal, B, Q, F}
use Rattle.accepted.specs.Rows.{row_of, shape_of, made, h_bool, h_then, h_fuse, h_alt, h_star, h_plus, h_weak, h_left, h_rest}
use Rattle.accepted.specs.Rows.{Shape as RowShape}
use Rattle.accepted.specs.Shapes.{implied, by_implied, is_q, has_a, has_b, has_field, field_has, shape_a, shape_b, seq_s, seq_shape}
use Rattle.accepted.specs.Sequences.{known, row_in}
use Rattle.accepted.specs.WeakCells.{table, row_at_lem, read_same, weak_kind}
use Rattle.lanes.specs.Rows.{Row, r_weak, r_left, r_rest, Has, IsSequence}
use Rattle.lanes.specs.Expected.{Table, sequence_of}
use Rattle.lanes.specs.State.{Shape, of_weak, of_never, of_suffix, of_suffix_next, of_other}
use Rattle.engine.specs.Reads.{kind_of, a_of, b_of, c_of}
use Rattle.engine.specs.Planned.{Planned, InSequence, OverLeft, StandsIn, in_a, in_b}
use Rattle.engine.specs.View.{viewed, Closed, view_in, view_out, view_table, read_view}
use Rattle.engine.specs.NodeView.{KindCase, a_boolean, a_sequence, k_weak, k_both, k_next, k_if, k_implies, k_or, k_always, k_until, k_suffix, k_suffix_next, k_never, node_by, viewed_node, case_of, node_at, node_out, node_boolean, node_sequence}

q_operand : (h : Holds) → T (is_q h) → IsOperand h
q_operand Nothing i = absurd i
q_operand Signal i = absurd i
q_operand B i = absurd i
q_operand Q i = tt
q_operand F i = absurd i

pub T_true : (b : Bool) → T b → b ≡ true
T_true true h = refl
T_true false h = absurd h

pub true_t : (b : Bool) → b ≡ true → T b
true_t b e = subst T (sym e) tt

-- Kinds by computing: those of sequences, and those whose fields hold sequences.
sequence_range : (k : ℕ) → k < 51 → seq_s (shape_of k) ≡ true → (15 < k) × (k < 21)
unfolding shape_of pick
sequence_range k l e = tells_true (tells_and (tells_lt 15 k) (tells_lt k 21)) (T_true _ (by_implied _ _ (every (λ k. implied (seq_s (shape_of k)) (ltb 15 k && ltb k 21)) 0 51 tt k (omega arith) (omega arith)) e))

range_sequence : (k : ℕ) → 15 < k → k < 21 → seq_s (shape_of k) ≡ true
unfolding shape_of pick
range_sequence k l m = T_true _ (every (λ k. seq_s (shape_of k)) 16 5 tt k (omega arith) (omega arith))

holds_a : (k : ℕ) → k < 51 → ((15 < k) × (k < 21)) ⊎ ((k ≡ 32) ⊎ ((39 < k) × (k < 43))) → T (has_a (shape_of k))
unfolding shape_of pick
holds_a k l (inl h) = every (λ k. has_a (shape_of k)) 16 5 tt k (omega arith) (omega arith)
holds_a k l (inr (inl e)) = every (λ k. has_a (shape_of k)) 32 1 tt k (omega arith) (omega arith)
holds_a k l (inr (inr h)) = every (λ k. has_a (shape_of k)) 40 3 tt k (omega arith) (omega arith)

holds_b : (k : ℕ) → 15 < k → k < 19 → T (has_b (shape_of k))
unfolding shape_of pick
holds_b k l m = every (λ k. has_b (shape_of k)) 16 3 tt k (omega arith) (omega arith)

-- a property or a Boolean is no sequence
pub no_sequence : (k : ℕ) → k < 51 → T (in_f (class_of k)) → (15 < k) × (k < 21) → ⊥
unfolding class_of pick
no_sequence k l i h = T_not (ltb 15 k && ltb k 21) (by_implied (in_f (class_of k)) (not (ltb 15 k && ltb k 21)) (every (λ k. implied (in_f (class_of k)) (not (ltb 15 k && ltb k 21))) 0 51 tt k (omega arith) (omega arith)) (T_true _ i))
    (true_t _ (true_tells (tells_and (tells_lt 15 k) (tells_lt k 21)) h))

rest_weak : {a : ℕ} → r_rest ≡ r_weak a → ⊥
rest_weak e = let q : ◌≡◌ {A = ℕ} 0 1 = cc in omega arith

rest_left : {a : ℕ} → r_rest ≡ r_left a → ⊥
rest_left e = let q : ◌≡◌ {A = ℕ} 0 1 = cc in omega arith

-- a row over a left side
is_left : RowShape → Bool
is_left h_bool = false
is_left h_then = false
is_left h_fuse = false
is_left h_alt = false
is_left h_star = false
is_left h_plus = false
is_left h_weak = false
is_left h_left = true
is_left h_rest = false

left_shape : (h : RowShape) (a b : ℕ) (x : Boolean) {v : ℕ} → made h a b x ≡ r_left v → is_left h ≡ true
unfolding is_left
left_shape h_bool a b x e = (let q : ◌≡◌ {A = ℕ} 0 1 = cc in absurd (omega arith))
left_shape h_then a b x e = (let q : ◌≡◌ {A = ℕ} 0 1 = cc in absurd (omega arith))
left_shape h_fuse a b x e = (let q : ◌≡◌ {A = ℕ} 0 1 = cc in absurd (omega arith))
left_shape h_alt a b x e = (let q : ◌≡◌ {A = ℕ} 0 1 = cc in absurd (omega arith))
left_shape h_star a b x e = (let q : ◌≡◌ {A = ℕ} 0 1 = cc in absurd (omega arith))
left_shape h_plus a b x e = (let q : ◌≡◌ {A = ℕ} 0 1 = cc in absurd (omega arith))
left_shape h_weak a b x e = (let q : ◌≡◌ {A = ℕ} 0 1 = cc in absurd (omega arith))
left_shape h_left a b x e = refl
left_shape h_rest a b x e = (let q : ◌≡◌ {A = ℕ} 0 1 = cc in absurd (omega arith))

left_kind : (k : ℕ) → k < 51 → (a b : ℕ) (x : Boolean) {v : ℕ} → made (shape_of k) a b x ≡ r_left v → (39 < k) × (k < 43)
unfolding shape_of pick is_left
left_kind k l a b x e = tells_true (tells_and (tells_lt 39 k) (tells_lt k 43)) (T_true _ (by_implied _ _ (every (λ k. implied (is_left (shape_of k)) (ltb 39 k && ltb k 43)) 0 51 tt k (omega arith) (omega arith)) (left_shape (shape_of k) a b x e)))

module _ (t : List ℕ) (c : Counts) (z : Subset t c) (root booleans sides weaks : ℕ) (p : Planned t root booleans sides weaks) (root_low : root < c.nodes) where
  abbrev pub rows : ℕ → Row
  rows = row_of t c.nodes

  pub low : (n : ℕ) → p.reached n ≡ true → n < c.nodes
  low n e = omega (arith, p.up_to_root n e)

  -- an operand that stands as a sequence is in a field for one
  pub has_operand : (n : ℕ) (f : Bool) (v : ℕ) → n < c.nodes → Has (rows n) f v → (g : Field) × IsOperand (holds_at t n g) × (value_at t n g ≡ v)
  has_operand n false v l i = let h = has_field (row_at t n).a (row_at t n).b (boolean_at t n) v (shape_of (kind_at t n)) false (subst (λ R. Has R false v) (row_in t c z n l) i) in
      (field_a, q_operand (fields_of (kind_at t n)).a (subst T (shape_a (kind_at t n) (known t c z n l)) h.0), sym h.1)
  has_operand n true v l i = let h = has_field (row_at t n).a (row_at t n).b (boolean_at t n) v (shape_of (kind_at t n)) true (subst (λ R. Has R true v) (row_in t c z n l) i) in
      (field_b, q_operand (fields_of (kind_at t n)).b (subst T (shape_b (kind_at t n) (known t c z n l)) h.0), sym h.1)

  pub operands_in : (n : ℕ) (f : Bool) (v : ℕ) → p.reached n ≡ true → Has (rows n) f v → p.reached v ≡ true
  operands_in n f v e i = let h = has_operand n f v (low n e) i in subst (λ (w : ℕ). p.reached w ≡ true) h.2 (p.operands n e h.0 h.1)

  pub stands_has : (m v : ℕ) → m < c.nodes → StandsIn t m v → (f : Bool) × Has (rows m) f v
  stands_has m v l (in_a e k) = (false, subst (λ R. Has R false v) (sym (row_in t c z m l)) (field_has (row_at t m).a (row_at t m).b (boolean_at t m) v (shape_of (kind_at t m)) false (holds_a (kind_at t m) (known t c z m l) (kinds k), e)))
    where
      kinds : InSequence t m ⊎ ((kind_of t m ≡ 32) ⊎ OverLeft t m) → ((15 < kind_at t m) × (kind_at t m < 21)) ⊎ ((kind_at t m ≡ 32) ⊎ ((39 < kind_at t m) × (kind_at t m < 43)))
      kinds (inl h) = inl (h.from, omega (arith, h.upto))
      kinds (inr (inl h)) = inr (inl h)
      kinds (inr (inr h)) = inr (inr (h.from, omega (arith, h.upto)))
  stands_has m v l (in_b e p q) = (true, subst (λ R. Has R true v) (sym (row_in t c z m l)) (field_has (row_at t m).a (row_at t m).b (boolean_at t m) v (shape_of (kind_at t m)) true (holds_b (kind_at t m) p (omega arith), e)))

  pub sequence_kind : (v : ℕ) → v < c.nodes → IsSequence (rows v) → InSequence t v
  sequence_kind v l s =
      let h = sequence_range (kind_at t v) (known t c z v l) (T_true _ (seq_shape (row_at t v).a (row_at t v).b (boolean_at t v) (shape_of (kind_at t v)) (subst IsSequence (row_in t c z v l) s))) in
      record { from = h.0; upto = omega (arith, h.1) }

  users_in : (v : ℕ) → p.reached v ≡ true → IsSequence (rows v) → (n : ℕ) × (f : Bool) × (p.reached n ≡ true) × Has (rows n) f v
  users_in v e s =
      let u = p.users v e (sequence_kind v (low v e) s) in
      let h = stands_has u.0 v (low u.0 u.1) u.2 in
      (u.0, h.0, u.1, h.1)

  pub closed : Closed t c.nodes p.reached
  closed = record { operands = operands_in; users = users_in }

  -- THE ROWS of the property
  abbrev pub row : ℕ → Row
  row = viewed t c.nodes p.reached

  pub row_table : Table row
  row_table = view_table t c z p.reached closed

  pub row_is : (n : ℕ) → p.reached n ≡ true → row n ≡ rows n
  row_is = view_in t c z p.reached closed

  pub row_not : (n : ℕ) → p.reached n ≡ false → row n ≡ r_rest
  row_not = view_out t c z p.reached closed

  pub top : (n : ℕ) → root < n → row n ≡ r_rest
  top n l = go (p.reached n) refl
    where
      go : (b : Bool) → p.reached n ≡ b → row n ≡ r_rest
      go true e = absurd (omega (arith, p.up_to_root n e))
      go false e = row_not n e

  -- what an operand that stands as a sequence reads as
  pub reads_as : (n : ℕ) (f : Bool) (v : ℕ) → p.reached n ≡ true → Has (rows n) f v → sequence_of row v ≡ sequence_at t v
  reads_as n f v e i =
      let s = table t c z in
      let l = s.sound.falls n f v i in
      read_view t c z p.reached closed 63 v (operands_in n f v e i) ∙ read_same t c z 63 v (omega (arith, low n e)) (omega (arith, low n e, z.layout.nodes_range)) (s.sound.class n f v i)

  -- THE NODES of the property
  abbrev pub node : ℕ → Node
  node = viewed_node t (sequence_of row) p.reached

  abbrev pub At : ℕ → ℕ → Type 0
  At k n = node n ≡ node_by k (boolean_at t n) (boolean_at t) (sequence_of row) (a_of t n) (b_of t n) (c_of t n)

  pub at : (k n : ℕ) → p.reached n ≡ true → kind_of t n ≡ k → At k n
  at = node_at t c z (sequence_of row) p.reached low

  pub down : (n : ℕ) → Falls n (node n)
  unfolding node_by takes_of fields_of pick
  down n = go (p.reached n) refl
    where
      here : p.reached n ≡ true → KindCase (kind_of t n) → Falls n (node n)
      here e (a_boolean l) = rw (node_boolean t c z (sequence_of row) p.reached low n e l) tt
      here e (a_sequence l m) = rw (node_sequence t c z (sequence_of row) p.reached low n e l m) tt
      here e (k_weak q) = subst (Falls n) (sym (at 32 n e q)) tt
      here e (k_both q) = subst (Falls n) (sym (at 33 n e q)) (Tree.falls t c z n (low n e) 33 field_a q tt, Tree.falls t c z n (low n e) 33 field_b q tt)
      here e (k_next q) = subst (Falls n) (sym (at 34 n e q)) (Tree.falls t c z n (low n e) 34 field_a q tt)
      here e (k_if q) = subst (Falls n) (sym (at 35 n e q)) (Tree.falls t c z n (low n e) 35 field_b q tt, Tree.falls t c z n (low n e) 35 field_c q tt)
      here e (k_implies q) = subst (Falls n) (sym (at 36 n e q)) (Tree.falls t c z n (low n e) 36 field_b q tt)
      here e (k_or q) = subst (Falls n) (sym (at 37 n e q)) (Tree.falls t c z n (low n e) 37 field_a q tt)
      here e (k_always q) = subst (Falls n) (sym (at 38 n e q)) (Tree.falls t c z n (low n e) 38 field_a q tt)
      here e (k_until q) = subst (Falls n) (sym (at 39 n e q)) (Tree.falls t c z n (low n e) 39 field_a q tt)
      here e (k_suffix q) = subst (Falls n) (sym (at 40 n e q)) (Tree.falls t c z n (low n e) 40 field_b q tt)
      here e (k_suffix_next q) = subst (Falls n) (sym (at 41 n e q)) (Tree.falls t c z n (low n e) 41 field_b q tt)
      here e (k_never q) = subst (Falls n) (sym (at 42 n e q)) tt

      go : (b : Bool) → p.reached n ≡ b → Falls n (node n)
      go true e = here e (case_of t c z (sequence_of row) p.reached low n e)
      go false e = rw (node_out t c z (sequence_of row) p.reached low n e) tt

  pub row_of_kind : (k n : ℕ) → p.reached n ≡ true → kind_of t n ≡ k → row n ≡ made (shape_of k) (a_of t n) (b_of t n) (boolean_at t n)
  row_of_kind k n e q = row_is n e ∙ row_at_lem t c z k n (low n e) q

  -- neither weak nor over a left side
  plain : (n : ℕ) {nd : Node} → M.use_of nd ≡ M.none → row n ≡ r_rest → node n ≡ nd → Shape row (row n) (node n)
  plain n {nd} u e q = subst (λ R. Shape row R (node n)) (sym e) (subst (λ x. Shape row r_rest x) (sym q) (of_other (λ a w. rest_weak w) (λ a w. rest_left w) u))

  -- THE SHAPE of each row
  pub shape : (n : ℕ) → Shape row (row n) (node n)
  unfolding node_by shape_of pick
  shape n = go (p.reached n) refl
    where
      both_ways : {R : Row} {nd : Node} → row n ≡ R → node n ≡ nd → Shape row R nd → Shape row (row n) (node n)
      both_ways {R} {nd} e q s = subst (λ X. Shape row X (node n)) (sym e) (subst (λ x. Shape row R x) (sym q) s)

      low_row : p.reached n ≡ true → ((kind_of t n ≡ 32) → ⊥) → ((39 < kind_of t n) → ⊥) → {nd : Node} → M.use_of nd ≡ M.none → node n ≡ nd → Shape row (row n) (node n)
      low_row e a b u q = subst (λ x. Shape row (row n) x) (sym q) (of_other (λ v w. a (weak_kind t c z n v (sym (row_is n e) ∙ w)).1)
          (λ v w. b (left_kind (kind_of t n) (known t c z n (low n e)) (a_of t n) (b_of t n) (boolean_at t n) (sym (row_in t c z n (low n e)) ∙ sym (row_is n e) ∙ w)).0) u)

      here : p.reached n ≡ true → KindCase (kind_of t n) → Shape row (row n) (node n)
      here e (a_boolean l) = low_row e (λ q. omega arith) (λ q. omega arith) refl (node_boolean t c z (sequence_of row) p.reached low n e l)
      here e (a_sequence l m) = low_row e (λ q. omega arith) (λ q. omega arith) refl (node_sequence t c z (sequence_of row) p.reached low n e l m)
      here e (k_weak q) = both_ways (row_of_kind 32 n e q) (at 32 n e q) of_weak
      here e (k_both q) = plain n refl (row_of_kind 33 n e q) (at 33 n e q)
      here e (k_next q) = plain n refl (row_of_kind 34 n e q) (at 34 n e q)
      here e (k_if q) = plain n refl (row_of_kind 35 n e q) (at 35 n e q)
      here e (k_implies q) = plain n refl (row_of_kind 36 n e q) (at 36 n e q)
      here e (k_or q) = plain n refl (row_of_kind 37 n e q) (at 37 n e q)
      here e (k_always q) = plain n refl (row_of_kind 38 n e q) (at 38 n e q)
      here e (k_until q) = plain n refl (row_of_kind 39 n e q) (at 39 n e q)
      here e (k_suffix q) = both_ways (row_of_kind 40 n e q) (at 40 n e q) of_suffix
      here e (k_suffix_next q) = both_ways (row_of_kind 41 n e q) (at 41 n e q) of_suffix_next
      here e (k_never q) = both_ways (row_of_kind 42 n e q) (at 42 n e q) of_never

      go : (b : Bool) → p.reached n ≡ b → Shape row (row n) (node n)
      go true e = here e (case_of t c z (sequence_of row) p.reached low n e)
      go false e = plain n refl (row_not n e) (node_out t c z (sequence_of row) p.reached low n e)
