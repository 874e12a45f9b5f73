-- The sequence rows of a plan, and what stands in them and in the rows over them.
use Rattle.std.specs.Prelude.{ℕ, ◌≤◌, ◌<◌, ◌≡◌, refl, Bool, true, false, ◌&&◌, ◌||◌, List, ◌⊎◌, T, eqb, ltb}
use native.Mathlib.Omega.{arith}
use Rattle.std.proofs.Math.Decide.{dec_lt}
use Rattle.std.proofs.Common.{sym, ◌∙◌, subst, inl, inr, ⊎_elim}
use Rattle.psl.specs.Booleans.{Boolean, bit}
use Rattle.psl.specs.Tells.{tells_eq, tells_lt, tells_and, tells_or, tells_value, tells_true, tells_no}
use Rattle.table.specs.Choice.{pick}
use Rattle.table.specs.Kinds.{class_of, fields_of, takes_of, class_ok, in_q}
use Rattle.table.specs.Trees.{boolean_at}
use Rattle.table.specs.Subset.{Subset, kind_at, Field, field_a, field_b, holds_in, value_at, IsOperand}
use Rattle.table.proofs.Laws.Spans.{every}
use Rattle.table.proofs.Facts.Trees as Tree
use Rattle.table.specs.declared.Counts.{Counts}
use Rattle.table.specs.declared.kinds.Class.{Class}
use Rattle.table.specs.declared.kinds.Holds.{Holds}
use Rattle.table.specs.declared.kinds.Holds.TheVariants.{Nothing, Signal, B, Q, F}
use Rattle.accepted.specs.Rows.{Shape, shape_of, made, h_bool, h_then, h_fuse, h_alt, h_star, h_plus, h_weak, h_left, h_rest}
use Rattle.accepted.specs.Shapes.{implied, by_implied, has_a, has_b, bool_s, has_field}
use Rattle.accepted.specs.Shapes.{Field as ShapeField}
use Rattle.accepted.specs.Sequences.{known}
use Rattle.lanes.specs.Rows.{Row, r_bool, r_then, r_fuse, r_alt, r_star, r_plus, r_rest, Has}
use Rattle.engine.specs.Reads.{kind_of, a_of, b_of}
use Rattle.engine.specs.Planned.{Planned, InSequence, StandsIn, in_a, in_b}
use Rattle.engine.specs.PlanView.{T_true}
use Rattle.engine.specs.PlanView as W
use Rattle.engine.specs.PlanBooleans as B

-- What stands as a sequence in row n: a Boolean of the plan, or a smaller sequence.
pub data Stands (t : List ℕ) (row : ℕ → Row) (booleans n v : ℕ) : Type 0 where
  a_cell : v < 64 → bit booleans v ≡ true → row v ≡ r_bool (boolean_at t v) → Stands t row booleans n v
  a_row : v < n → bit booleans v ≡ false → StandsIn t n v → InSequence t v → Stands t row booleans n v

-- A sequence row, by its kind.
pub data SequenceRow (t : List ℕ) (row : ℕ → Row) (booleans n : ℕ) : Type 0 where
  is_then : kind_of t n ≡ 16 → row n ≡ r_then (a_of t n) (b_of t n) → Stands t row booleans n (a_of t n) → Stands t row booleans n (b_of t n) → SequenceRow t row booleans n
  is_fuse : kind_of t n ≡ 17 → row n ≡ r_fuse (a_of t n) (b_of t n) → Stands t row booleans n (a_of t n) → Stands t row booleans n (b_of t n) → SequenceRow t row booleans n
  is_alt : kind_of t n ≡ 18 → row n ≡ r_alt (a_of t n) (b_of t n) → Stands t row booleans n (a_of t n) → Stands t row booleans n (b_of t n) → SequenceRow t row booleans n
  is_star : kind_of t n ≡ 19 → row n ≡ r_star (a_of t n) → Stands t row booleans n (a_of t n) → SequenceRow t row booleans n
  is_plus : kind_of t n ≡ 20 → row n ≡ r_plus (a_of t n) → Stands t row booleans n (a_of t n) → SequenceRow t row booleans n

-- Kinds by computing: those of operands that stand as sequences, and those whose fields hold such operands.
q_kind : (k : ℕ) → k < 51 → T (in_q (class_of k)) → (k < 16) ⊎ ((15 < k) × (k < 21))
unfolding class_of pick
q_kind k l i = tells_true (tells_or (tells_lt k 16) (tells_and (tells_lt 15 k) (tells_lt k 21)))
    (T_true _ (by_implied (in_q (class_of k)) (ltb k 16 || (ltb 15 k && ltb k 21)) (every (λ k. implied (in_q (class_of k)) (ltb k 16 || (ltb 15 k && ltb k 21))) 0 51 tt k (omega arith) (omega arith)) (T_true _ i)))

q_boolean : (k : ℕ) → k < 16 → T (in_q (class_of k)) → T (bool_s (shape_of k))
unfolding class_of shape_of pick
q_boolean k l i = by_implied (in_q (class_of k)) (bool_s (shape_of k)) (every (λ k. implied (in_q (class_of k)) (bool_s (shape_of k))) 0 16 tt k (omega arith) (omega arith)) (T_true _ i)

a_kind : (k : ℕ) → k < 51 → T (has_a (shape_of k)) → ((15 < k) × (k < 21)) ⊎ ((k ≡ 32) ⊎ ((39 < k) × (k < 43)))
unfolding shape_of pick
a_kind k l i = tells_true (tells_or (tells_and (tells_lt 15 k) (tells_lt k 21)) (tells_or (tells_eq k 32) (tells_and (tells_lt 39 k) (tells_lt k 43))))
    (T_true _ (by_implied (has_a (shape_of k)) ((ltb 15 k && ltb k 21) || (eqb k 32 || (ltb 39 k && ltb k 43)))
    (every (λ k. implied (has_a (shape_of k)) ((ltb 15 k && ltb k 21) || (eqb k 32 || (ltb 39 k && ltb k 43)))) 0 51 tt k (omega arith) (omega arith)) (T_true _ i)))

b_kind : (k : ℕ) → k < 51 → T (has_b (shape_of k)) → (15 < k) × (k < 19)
unfolding shape_of pick
b_kind k l i = tells_true (tells_and (tells_lt 15 k) (tells_lt k 19))
    (T_true _ (by_implied (has_b (shape_of k)) (ltb 15 k && ltb k 19) (every (λ k. implied (has_b (shape_of k)) (ltb 15 k && ltb k 19)) 0 51 tt k (omega arith) (omega arith)) (T_true _ i)))

made_boolean : (h : Shape) (a b : ℕ) (x : Boolean) → T (bool_s h) → made h a b x ≡ r_bool x
made_boolean h_bool a b x i = refl
made_boolean h_then a b x i = absurd i
made_boolean h_fuse a b x i = absurd i
made_boolean h_alt a b x i = absurd i
made_boolean h_star a b x i = absurd i
made_boolean h_plus a b x i = absurd i
made_boolean h_weak a b x i = absurd i
made_boolean h_left a b x i = absurd i
made_boolean h_rest a b x i = absurd i

abbrev pub IsQ : Holds → Type 0
IsQ Nothing = ⊥
IsQ Signal = ⊥
IsQ B = ⊥
IsQ Q = Unit
IsQ F = ⊥

q_operand : (h : Holds) → IsQ h → IsOperand h
q_operand Nothing i = absurd i
q_operand Signal i = absurd i
q_operand B i = absurd i
q_operand Q i = tt
q_operand F i = absurd i

q_class : (h : Holds) (k : Class) → IsQ h → T (class_ok h k) → T (in_q k)
q_class Nothing k i h = absurd i
q_class Signal k i h = absurd i
q_class B k i h = absurd i
q_class Q k i h = h
q_class F k i h = absurd i

module _ (t : List ℕ) (c : Counts) (z : Subset t c) (root booleans sides weaks : ℕ) (p : Planned t root booleans sides weaks) (root_low : root < c.nodes) where
  abbrev row : ℕ → Row
  row = W.row t c z root booleans sides weaks p root_low

  low : (n : ℕ) → p.reached n ≡ true → n < c.nodes
  low = W.low t c z root booleans sides weaks p root_low

  pub no_boolean : (n : ℕ) → 16 ≤ kind_of t n → bit booleans n ≡ false
  no_boolean n l = p.booleans_are n ∙ tells_no (tells_and (tells_value (p.reached n)) (tells_lt (kind_of t n) 16)) (λ h. omega (arith, h.1))

  -- an operand that stands as a sequence in a row that is reached
  pub stands : (n : ℕ) → p.reached n ≡ true → (k : ℕ) (f : Field) → kind_of t n ≡ k → IsQ (holds_in (fields_of k) f) → StandsIn t n (value_at t n f) → Stands t row booleans n (value_at t n f)
  stands n e k f q i s =
      let l = Tree.falls t c z n (low n e) k f q (q_operand (holds_in (fields_of k) f) i) in
      let r = p.operands n e f (subst (λ (m : ℕ). IsOperand (holds_in (fields_of m) f)) (sym q) (q_operand (holds_in (fields_of k) f) i)) in
      let o = q_class (holds_in (fields_of k) f) (class_of (kind_at t (value_at t n f))) i (subst (λ (m : ℕ). T (class_ok (holds_in (fields_of m) f) (class_of (kind_at t (value_at t n f))))) q (z.classes n (low n e) f)) in
      ⊎_elim (λ b. a_cell (omega (arith, low n e, z.layout.nodes_range)) (B.boolean_is t c z root booleans sides weaks p root_low (value_at t n f) r b) (row_boolean (value_at t n f) r b o))
      (λ b. a_row l (no_boolean (value_at t n f) b.0) s (record { from = b.0; upto = omega (arith, b.1) }))
      (q_kind (kind_at t (value_at t n f)) (known t c z (value_at t n f) (omega (arith, low n e))) o)
    where
      row_boolean : (v : ℕ) → p.reached v ≡ true → kind_of t v < 16 → T (in_q (class_of (kind_of t v))) → row v ≡ r_bool (boolean_at t v)
      row_boolean v r b o = W.row_of_kind t c z root booleans sides weaks p root_low (kind_of t v) v r refl ∙ made_boolean (shape_of (kind_of t v)) (a_of t v) (b_of t v) (boolean_at t v) (q_boolean (kind_of t v) b o)

  module _ (n : ℕ) (e : p.reached n ≡ true) (i : InSequence t n) where
    first : (k : ℕ) → kind_of t n ≡ k → IsQ (holds_in (fields_of k) field_a) → Stands t row booleans n (a_of t n)
    first k q h = stands n e k field_a q h (in_a refl (inl i))

    second : (k : ℕ) → kind_of t n ≡ k → IsQ (holds_in (fields_of k) field_b) → kind_of t n ≤ 18 → Stands t row booleans n (b_of t n)
    second k q h l = stands n e k field_b q h (in_b refl i.from l)

    at : (k : ℕ) → kind_of t n ≡ k → row n ≡ made (shape_of k) (a_of t n) (b_of t n) (boolean_at t n)
    at k q = W.row_of_kind t c z root booleans sides weaks p root_low k n e q

    pub sequence_row_lem : SequenceRow t row booleans n
    unfolding fields_of takes_of shape_of pick
    sequence_row_lem = elim (dec_lt (kind_of t n) 17) [
      | yes a ↦ (let q : kind_of t n ≡ 16 = omega (arith, i.from) in is_then q (at 16 q) (first 16 q tt) (second 16 q tt (omega arith)))
      | no a ↦ elim (dec_lt (kind_of t n) 18) [
        | yes b ↦ (let q : kind_of t n ≡ 17 = omega arith in is_fuse q (at 17 q) (first 17 q tt) (second 17 q tt (omega arith)))
        | no b ↦ elim (dec_lt (kind_of t n) 19) [
          | yes d ↦ (let q : kind_of t n ≡ 18 = omega arith in is_alt q (at 18 q) (first 18 q tt) (second 18 q tt (omega arith)))
          | no d ↦ elim (dec_lt (kind_of t n) 20) [
            | yes f ↦ (let q : kind_of t n ≡ 19 = omega arith in is_star q (at 19 q) (first 19 q tt))
            | no f ↦ (let q : kind_of t n ≡ 20 = omega (arith, i.upto) in is_plus q (at 20 q) (first 20 q tt))
          ]
        ]
      ]
    ]

  -- a row with an operand is reached, and the operand stands in it
  pub has_stands : (n : ℕ) (f : Bool) (v : ℕ) → Has (row n) f v → (p.reached n ≡ true) × StandsIn t n v
  has_stands n f v i = go (p.reached n) refl
    where
      by_field : (f : Bool) → p.reached n ≡ true → Has (row n) f v → StandsIn t n v
      by_field f e h = in_field f (has_field (a_of t n) (b_of t n) (boolean_at t n) v (shape_of (kind_of t n)) f (subst (λ R. Has R f v) (W.row_of_kind t c z root booleans sides weaks p root_low (kind_of t n) n e refl) h))
        where
          in_field : (f : Bool) → ShapeField (shape_of (kind_of t n)) (a_of t n) (b_of t n) f v → StandsIn t n v
          in_field false h = in_a h.1 (⊎_elim (λ x. inl (record { from = x.0; upto = omega (arith, x.1) })) (⊎_elim (λ x. inr (inl x)) (λ x. inr (inr (record { from = x.0; upto = omega (arith, x.1) }))))
              (a_kind (kind_of t n) (known t c z n (low n e)) h.0))
          in_field true h = let x = b_kind (kind_of t n) (known t c z n (low n e)) h.0 in in_b h.1 x.0 (omega (arith, x.1))

      no_operand : (f : Bool) → Has r_rest f v → ⊥
      no_operand false h = h
      no_operand true h = h

      go : (b : Bool) → p.reached n ≡ b → (p.reached n ≡ true) × StandsIn t n v
      go true e = (e, by_field f e i)
      go false e = absurd (no_operand f (subst (λ R. Has R f v) (W.row_not t c z root booleans sides weaks p root_low n e) i))
