-- What an accepted table gives the passes over sequence rows: operands that are smaller and of the right class, each sequence used once.
use Rattle.std.specs.Prelude.{ℕ, ◌+◌, ◌≤◌, ◌<◌, ◌≡◌, Bool, not, List, eqb, ltb}
use native.Mathlib.Omega.{arith}
use Rattle.std.proofs.Math.Decide.{dec_lt}
use Rattle.std.proofs.Math.Path.{refl, sym}
use Rattle.std.proofs.Common.{◌∙◌, subst, ltb-false, lt-ltb, le-ltb, eq-eqb, ne_eqb}
use Rattle.std.proofs.Math.Bool.{true, false}
use Rattle.std.proofs.Math.Dec.{T}
use Rattle.table.specs.Choice.{within}
use Rattle.table.specs.Kinds.{class_of, class_ok, is_sequence}
use Rattle.table.specs.Rows.{row_at}
use Rattle.table.specs.Roots.{root_at}
use Rattle.table.specs.First.{sum_to}
use Rattle.table.specs.Trees.{boolean_at}
use Rattle.table.specs.Uses.{one_if, use_in, uses_in_row, root_use, uses_of}
use Rattle.table.specs.Subset.{Field, field_a, field_b, field_c, holds_at, value_at, kind_at, InSubset, IsOperand, Subset}
use Rattle.table.proofs.Laws.Choices.{picked, passed, above_no}
use Rattle.table.proofs.Laws.Numbers.{same_test}
use Rattle.table.proofs.Laws.Sums.{sum_one, sum_two, sum_some, sum_none}
use Rattle.lanes.specs.Rows.{Row, r_rest, Has, IsSequence, IsOperand as StandsAsOperand, Sound}
use Rattle.accepted.specs.Rows.{shape_of, made, row_of}
use Rattle.accepted.specs.Shapes.{seq_s, Field as ShapeField, has_field, field_has, seq_shape, q_shape, is_q, shape_a, shape_b, shape_c, shape_seq, shape_q, shape_high}
use Rattle.table.specs.declared.Counts.{Counts}
use Rattle.table.specs.declared.kinds.Class.{Class}
use Rattle.table.specs.declared.kinds.Class.TheVariants.{Boolean, Sequence, Property, Strong, Unknown}
use Rattle.table.specs.declared.kinds.Holds.{Holds}
use Rattle.table.specs.declared.kinds.Holds.TheVariants.{Nothing, Signal, B, Q, F}

-- a kind past 50 is unknown
unknown : (k : ℕ) → 50 < k → class_of k ≡ Unknown
unfolding class_of
unknown k l =
    passed (within 1 6 k) _ _ (above_no 1 6 k (omega arith)) ∙ passed (within 16 20 k) _ _ (above_no 16 20 k (omega arith))
    ∙ passed (within 32 42 k) _ _ (above_no 32 42 k (omega arith)) ∙ passed (within 48 50 k) _ _ (above_no 48 50 k (omega arith))

-- a field that holds a sequence
q_operand : (h : Holds) → T (is_q h) → IsOperand h
q_operand Q t = tt
q_operand Nothing t = elim t [ ]
q_operand Signal t = elim t [ ]
q_operand B t = elim t [ ]
q_operand F t = elim t [ ]

q_class : (h : Holds) (k : Class) → T (is_q h) → T (class_ok h k) → class_ok Q k ≡ true
q_class Q Boolean t e = refl
q_class Q Sequence t e = refl
q_class Q Property t e = absurd e
q_class Q Strong t e = absurd e
q_class Q Unknown t e = absurd e
q_class Nothing k t e = elim t [ ]
q_class Signal k t e = elim t [ ]
q_class B k t e = elim t [ ]
q_class F k t e = elim t [ ]

q_use : (h : Holds) (v : ℕ) → T (is_q h) → use_in h v v ≡ 1
q_use Q v t = picked (eqb v v) 1 0 (eq-eqb v v refl)
q_use Nothing v t = elim t [ ]
q_use Signal v t = elim t [ ]
q_use B v t = elim t [ ]
q_use F v t = elim t [ ]

no_b : (k : Class) → is_sequence k ≡ true → T (class_ok B k) → ⊥
no_b Boolean p q = subst T (sym p) tt
no_b Sequence p q = q
no_b Property p q = subst T (sym p) tt
no_b Strong p q = subst T (sym p) tt
no_b Unknown p q = subst T (sym p) tt

no_f : (k : Class) → is_sequence k ≡ true → T (class_ok F k) → ⊥
no_f Boolean p q = subst T (sym p) tt
no_f Sequence p q = q
no_f Property p q = subst T (sym p) tt
no_f Strong p q = subst T (sym p) tt
no_f Unknown p q = subst T (sym p) tt

sequence_so : (k : Class) → is_sequence k ≡ true → k ≡ Sequence
sequence_so Boolean p = absurd (subst T (sym p) tt)
sequence_so Sequence p = refl
sequence_so Property p = absurd (subst T (sym p) tt)
sequence_so Strong p = absurd (subst T (sym p) tt)
sequence_so Unknown p = absurd (subst T (sym p) tt)

one_of : (x v : ℕ) → 0 < one_if x v → x ≡ v
one_of x v l = go (same_test x v)
  where
    go : Dec (x ≡ v) → x ≡ v
    go (yes e) = e
    go (no n) = absurd (omega (arith, passed {A = ℕ} (eqb x v) 1 0 (ne_eqb x v n)))

module _ (t : List ℕ) (c : Counts) (z : Subset t c) where
  abbrev row_t : ℕ → Row
  row_t = row_of t c.nodes

  abbrev shaped : ℕ → Row
  shaped n = made (shape_of (kind_at t n)) (row_at t n).a (row_at t n).b (boolean_at t n)

  pub row_in : (n : ℕ) → n < c.nodes → row_t n ≡ shaped n
  unfolding row_of
  row_in n l = picked (ltb n c.nodes) (shaped n) r_rest (lt-ltb n c.nodes l)

  pub row_out : (n : ℕ) → c.nodes ≤ n → row_t n ≡ r_rest
  unfolding row_of
  row_out n l = passed (ltb n c.nodes) (shaped n) r_rest (le-ltb n c.nodes l)

  pub past_rows : (n : ℕ) → 64 ≤ n → row_t n ≡ r_rest
  past_rows n l = row_out n (omega (arith, z.layout.nodes_range))

  -- a row that is not r_rest is a node's
  pub row_low : (n : ℕ) (P : Row → Type 0) → P (row_t n) → (P r_rest → ⊥) → n < c.nodes
  row_low n P h no-rest = elim (dec_lt n c.nodes) [ yes l ↦ l | no l ↦ absurd (no-rest (subst P (row_out n (omega arith)) h)) ]

  pub known : (n : ℕ) → n < c.nodes → kind_at t n < 51
  known n l = elim (dec_lt 50 (kind_at t n)) [ yes p ↦ absurd (subst InSubset (unknown (kind_at t n) p) (z.kinds n l)) | no p ↦ omega arith ]

  -- what a row's field says
  abbrev field_by : Bool → Field
  field_by false = field_a
  field_by true = field_b

  abbrev Stands : ℕ → Bool → ℕ → Type 0
  Stands n f v = T (is_q (holds_at t n (field_by f))) × (v ≡ value_at t n (field_by f))

  has_stands : (n : ℕ) (f : Bool) (v : ℕ) → Has (row_t n) f v → (n < c.nodes) × Stands n f v
  has_stands n f v i =
      let l = row_low n (λ r. Has r f v) i (λ h. h) in
      (l, both f l (has_field (row_at t n).a (row_at t n).b (boolean_at t n) v (shape_of (kind_at t n)) f (subst (λ r. Has r f v) (row_in n l) i)))
    where
      both : (f : Bool) → n < c.nodes → ShapeField (shape_of (kind_at t n)) (row_at t n).a (row_at t n).b f v → Stands n f v
      both false l h = (subst T (shape_a (kind_at t n) (known n l)) h.0, h.1)
      both true l h = (subst T (shape_b (kind_at t n) (known n l)) h.0, h.1)

  stands_has : (n : ℕ) (f : Bool) (v : ℕ) → n < c.nodes → Stands n f v → Has (row_t n) f v
  stands_has n f v l h =
      subst (λ r. Has r f v) (sym (row_in n l)) (field_has (row_at t n).a (row_at t n).b (boolean_at t n) v (shape_of (kind_at t n)) f (both f h))
    where
      both : (f : Bool) → Stands n f v → ShapeField (shape_of (kind_at t n)) (row_at t n).a (row_at t n).b f v
      both false h = (subst T (sym (shape_a (kind_at t n) (known n l))) h.0, h.1)
      both true h = (subst T (sym (shape_b (kind_at t n) (known n l))) h.0, h.1)

  stands_small : (n : ℕ) (f : Bool) (v : ℕ) → n < c.nodes → Stands n f v → v < n
  stands_small n f v l h = rw h.1 (z.smaller n l (field_by f) (q_operand (holds_at t n (field_by f)) h.0))

  stands_class : (n : ℕ) (f : Bool) (v : ℕ) → n < c.nodes → Stands n f v → class_ok Q (class_of (kind_at t v)) ≡ true
  stands_class n f v l h =
      rw h.1 (q_class (holds_at t n (field_by f)) (class_of (kind_at t (value_at t n (field_by f)))) h.0 (z.classes n l (field_by f)))

  abbrev used_at : ℕ → ℕ → ℕ
  used_at v n = uses_in_row (row_at t n) v

  stands_used : (n : ℕ) (f : Bool) (v : ℕ) → Stands n f v → 0 < used_at v n
  unfolding uses_in_row
  stands_used n false v h = let e = q_use (holds_at t n field_a) (row_at t n).a h.0 in rw h.1 (omega arith)
  stands_used n true v h = let e = q_use (holds_at t n field_b) (row_at t n).b h.0 in rw h.1 (omega arith)

  stands_twice : (n v : ℕ) → Stands n false v → Stands n true v → 1 < used_at v n
  unfolding uses_in_row
  stands_twice n v h k =
      let e : use_in (holds_at t n field_a) (row_at t n).a v ≡ 1 = rw h.1 (q_use (holds_at t n field_a) (row_at t n).a h.0) in
      let d : use_in (holds_at t n field_b) (row_at t n).b v ≡ 1 = rw k.1 (q_use (holds_at t n field_b) (row_at t n).b k.0) in
      omega arith

  -- a sequence row is used once
  T_true : (b : Bool) → T b → b ≡ true
  T_true true h = refl
  T_true false h = absurd h

  T_false : (b : Bool) → T (not b) → b ≡ false
  T_false true h = absurd h
  T_false false h = refl

  seq_known : (v : ℕ) → IsSequence (row_t v) → (v < c.nodes) × (seq_s (shape_of (kind_at t v)) ≡ true)
  seq_known v i =
      let l = row_low v IsSequence i (λ h. h) in
      (l, T_true _ (seq_shape (row_at t v).a (row_at t v).b (boolean_at t v) (shape_of (kind_at t v)) (subst IsSequence (row_in v l) i)))

  uses_one : (v : ℕ) → IsSequence (row_t v) → uses_of t c.nodes c.properties v ≡ 1
  uses_one v i =
      let k = seq_known v i in
      z.once v k.0 (ltb-false (kind_at t v) 16 (T_false _ (shape_high (kind_at t v) (known v k.0) k.1)))

  once : (n k : ℕ) (f h : Bool) (v : ℕ) → IsSequence (row_t v) → Has (row_t n) f v → Has (row_t k) h v → (n ≡ k) × (f ≡ h)
  unfolding uses_of
  once n k f h v s i j =
      let x = has_stands n f v i in let y = has_stands k h v j in let u = uses_one v s in
      let e : n ≡ k = elim (same_test n k) [
        | yes z ↦ z
        | no z ↦ absurd (elim (dec_lt n k) [
          | yes l ↦ omega (arith, sum_two (used_at v) c.nodes n k l y.0, stands_used n f v x.1, stands_used k h v y.1)
          | no l ↦ omega (arith, sum_two (used_at v) c.nodes k n (omega arith) x.0, stands_used n f v x.1, stands_used k h v y.1)
        ])
      ] in
      (e, fields f h x.0 u x.1 (subst (λ (m : ℕ). Stands m h v) (sym e) y.1))
    where
      fields : (f h : Bool) → n < c.nodes → sum_to (λ i. uses_in_row (row_at t i) v) c.nodes + sum_to (root_use t c.nodes v) c.properties ≡ 1
          → Stands n f v → Stands n h v → f ≡ h
      fields false false l u x y = refl
      fields true true l u x y = refl
      fields false true l u x y = absurd (omega (arith, stands_twice n v x y, sum_one (used_at v) c.nodes n l))
      fields true false l u x y = absurd (omega (arith, stands_twice n v y x, sum_one (used_at v) c.nodes n l))

  -- a sequence is no root
  root_no : (v p : ℕ) → is_sequence (class_of (kind_at t v)) ≡ true → p < c.properties → root_use t c.nodes v p ≡ 0
  unfolding root_use
  root_no v p s l = passed (eqb (root_at t c.nodes p) v) 1 0 (ne_eqb (root_at t c.nodes p) v
      (λ e. z.root_classes p l (sequence_so _ (rw e s))))

  -- a field that counts as a use of a sequence holds a sequence
  use_q : (h : Holds) (x v : ℕ) → is_sequence (class_of (kind_at t v)) ≡ true → T (class_ok h (class_of (kind_at t x))) → 0 < use_in h x v → T (is_q h) × (v ≡ x)
  use_q Nothing x v s o l = absurd (omega arith)
  use_q Signal x v s o l = absurd (omega arith)
  use_q B x v s o l = let e = one_of x v l in absurd (no_b (class_of (kind_at t v)) s (subst (λ (y : ℕ). T (class_ok B (class_of (kind_at t y)))) e o))
  use_q Q x v s o l = (tt, sym (one_of x v l))
  use_q F x v s o l = let e = one_of x v l in absurd (no_f (class_of (kind_at t v)) s (subst (λ (y : ℕ). T (class_ok F (class_of (kind_at t y)))) e o))

  row_use : (n v : ℕ) → n < c.nodes → is_sequence (class_of (kind_at t v)) ≡ true → 0 < used_at v n → (f : Bool) × Stands n f v
  unfolding uses_in_row
  row_use n v l s u = elim (dec_lt 0 (use_in (holds_at t n field_a) (row_at t n).a v)) [
    | yes x ↦ (false, use_q (holds_at t n field_a) (row_at t n).a v s (z.classes n l field_a) x)
    | no x ↦ elim (dec_lt 0 (use_in (holds_at t n field_b) (row_at t n).b v)) [
      | yes y ↦ (true, use_q (holds_at t n field_b) (row_at t n).b v s (z.classes n l field_b) y)
      | no y ↦ absurd (subst T (sym (shape_c (kind_at t n) (known n l))) (use_q (holds_at t n field_c) (row_at t n).c v s (z.classes n l field_c) (omega arith)).0)
    ]
  ]

  used : (v : ℕ) → IsSequence (row_t v) → (n : ℕ) × (f : Bool) × Has (row_t n) f v
  unfolding uses_of
  used v i =
      let k = seq_known v i in
      let s : is_sequence (class_of (kind_at t v)) ≡ true = sym (shape_seq (kind_at t v) (known v k.0)) ∙ k.1 in
      let u = uses_one v i in
      let y = sum_none (root_use t c.nodes v) c.properties (λ j l. root_no v j s l) in
      let x = sum_some (used_at v) c.nodes (omega arith) in
      let w = row_use x.0 v x.1 s x.2 in
      (x.0, w.0, stands_has x.0 w.0 v x.1 w.1)

  falls_has : (n : ℕ) (f : Bool) (v : ℕ) → Has (row_t n) f v → v < n
  falls_has n f v i = let x = has_stands n f v i in stands_small n f v x.0 x.1

  class_has : (n : ℕ) (f : Bool) (v : ℕ) → Has (row_t n) f v → StandsAsOperand (row_t v)
  class_has n f v i =
      let x = has_stands n f v i in
      let l : v < c.nodes = omega (arith, stands_small n f v x.0 x.1, x.0) in
      subst StandsAsOperand (sym (row_in v l)) (q_shape (row_at t v).a (row_at t v).b (boolean_at t v) (shape_of (kind_at t v))
      (shape_q (kind_at t v) (known v l) (stands_class n f v x.0 x.1)))

  -- OPERANDS ARE SMALLER, AND BOOLEANS OR SEQUENCES; EACH SEQUENCE STANDS IN ONE PLACE
  pub sound : Sound row_t
  sound = record { falls = falls_has; class = class_has; once = once; used = used }
