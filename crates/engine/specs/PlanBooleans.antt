-- The Boolean rows of a plan are what the truths ask for.
use Rattle.std.specs.Prelude.{ℕ, ◌<◌, ◌≡◌, true, ◌&&◌, List, T, ltb}
use native.Mathlib.Omega.{arith}
use Rattle.std.proofs.Math.Decide.{dec_lt}
use Rattle.std.proofs.Common.{sym, ◌∙◌, subst}
use Rattle.std.proofs.Math.Path.{ap}
use Rattle.psl.specs.Booleans.{bit}
use Rattle.psl.specs.Tells.{tells_lt, tells_and, tells_value, tells_true, true_tells}
use Rattle.table.specs.Choice.{pick}
use Rattle.table.specs.Kinds.{class_of, fields_of, takes_of, class_ok, in_b}
use Rattle.table.specs.Trees.{boolean_at}
use Rattle.table.specs.Subset.{Subset, kind_at, Field, field_a, field_b, holds_in, holds_at, value_at, IsOperand, InSubset}
use Rattle.table.proofs.Laws.Spans.{every}
use Rattle.table.proofs.Facts.Trees as Tree
use Rattle.table.specs.declared.Counts.{Counts}
use Rattle.table.specs.declared.kinds.Class.{Class}
use Rattle.table.specs.declared.kinds.Holds.{Holds}
use Rattle.table.specs.declared.kinds.Holds.TheVariants.{Nothing, Signal, B, Q, F}
use Rattle.accepted.specs.Shapes.{implied, by_implied}
use Rattle.accepted.specs.Sequences.{known}
use Rattle.engine.specs.Reads.{kind_of, a_of}
use Rattle.engine.specs.Planned.{Planned}
use Rattle.engine.specs.Truths.{BooleanRow, reads_true, reads_false, reads_signal, reads_not, reads_and, reads_or, BooleanRows}
use Rattle.engine.specs.NodeView.{in_subset, in_subset_so}
use Rattle.engine.specs.PlanView.{T_true, true_t}
use Rattle.engine.specs.PlanView as W

boolean_range : (k : ℕ) → k < 16 → InSubset (class_of k) → (0 < k) × (k < 7)
unfolding class_of pick in_subset
boolean_range k l i = tells_true (tells_and (tells_lt 0 k) (tells_lt k 7)) (T_true _ (by_implied (in_subset (class_of k)) (ltb 0 k && ltb k 7)
    (every (λ k. implied (in_subset (class_of k)) (ltb 0 k && ltb k 7)) 0 16 tt k (omega arith) (omega arith)) (in_subset_so (class_of k) i)))

-- a Boolean is of a kind below 16
boolean_kind : (k : ℕ) → k < 51 → T (in_b (class_of k)) → k < 16
unfolding class_of pick
boolean_kind k l i = tells_true (tells_lt k 16) (T_true _ (by_implied (in_b (class_of k)) (ltb k 16) (every (λ k. implied (in_b (class_of k)) (ltb k 16)) 0 51 tt k (omega arith) (omega arith)) (T_true _ i)))

abbrev pub IsB : Holds → Type 0
IsB Nothing = ⊥
IsB Signal = ⊥
IsB B = Unit
IsB Q = ⊥
IsB F = ⊥

b_operand : (h : Holds) → IsB h → IsOperand h
b_operand Nothing i = absurd i
b_operand Signal i = absurd i
b_operand B i = tt
b_operand Q i = absurd i
b_operand F i = absurd i

b_class : (h : Holds) (k : Class) → IsB h → T (class_ok h k) → T (in_b k)
b_class Nothing k i h = absurd i
b_class Signal k i h = absurd i
b_class B k i h = h
b_class Q k i h = absurd i
b_class F k i h = absurd i

module _ (t : List ℕ) (c : Counts) (z : Subset t c) (root booleans sides weaks : ℕ) (p : Planned t root booleans sides weaks) (root_low : root < c.nodes) where
  low : (n : ℕ) → p.reached n ≡ true → n < c.nodes
  low = W.low t c z root booleans sides weaks p root_low

  pub is_boolean : (n : ℕ) → bit booleans n ≡ true → (p.reached n ≡ true) × (kind_of t n < 16)
  is_boolean n e = tells_true (tells_and (tells_value (p.reached n)) (tells_lt (kind_of t n) 16)) (sym (p.booleans_are n) ∙ e)

  pub boolean_is : (n : ℕ) → p.reached n ≡ true → kind_of t n < 16 → bit booleans n ≡ true
  boolean_is n e l = p.booleans_are n ∙ true_tells (tells_and (tells_value (p.reached n)) (tells_lt (kind_of t n) 16)) (e, l)

  -- a Boolean operand of a row that is reached
  pub boolean_operand : (n : ℕ) → p.reached n ≡ true → (k : ℕ) (f : Field) → kind_of t n ≡ k → IsB (holds_in (fields_of k) f) → (value_at t n f < n) × (bit booleans (value_at t n f) ≡ true)
  boolean_operand n e k f q i =
      let l = Tree.falls t c z n (low n e) k f q (b_operand (holds_in (fields_of k) f) i) in
      let r = p.operands n e f (subst (λ (m : ℕ). IsOperand (holds_in (fields_of m) f)) (sym q) (b_operand (holds_in (fields_of k) f) i)) in
      let o = b_class (holds_in (fields_of k) f) (class_of (kind_at t (value_at t n f))) i (subst (λ (m : ℕ). T (class_ok (holds_in (fields_of m) f) (class_of (kind_at t (value_at t n f))))) q (z.classes n (low n e) f)) in
      (l, boolean_is (value_at t n f) r (boolean_kind (kind_at t (value_at t n f)) (known t c z (value_at t n f) (omega (arith, low n e))) o))

  module _ (n : ℕ) (e : p.reached n ≡ true) where
    signal_low : kind_of t n ≡ 3 → a_of t n < 64
    unfolding fields_of takes_of pick
    signal_low q = let h : holds_at t n field_a ≡ Signal = ap (λ (m : ℕ). holds_in (fields_of m) field_a) q in omega (arith, z.signal n (low n e) field_a h, z.layout.signals_range)

    here : kind_of t n < 16 → (0 < kind_of t n) × (kind_of t n < 7) → BooleanRow t booleans (boolean_at t) n
    unfolding fields_of takes_of pick
    here l m = elim (dec_lt (kind_of t n) 2) [
      | yes a ↦ (let q : kind_of t n ≡ 1 = omega (arith, m.0) in reads_true q (Tree.is_true t c z n (low n e) q))
      | no a ↦ elim (dec_lt (kind_of t n) 3) [
        | yes b ↦ (let q : kind_of t n ≡ 2 = omega arith in reads_false q (Tree.is_false t c z n (low n e) q))
        | no b ↦ elim (dec_lt (kind_of t n) 4) [
          | yes d ↦ (let q : kind_of t n ≡ 3 = omega arith in reads_signal q (signal_low q) (Tree.is_signal t c z n (low n e) q))
          | no d ↦ elim (dec_lt (kind_of t n) 5) [
            | yes f ↦ (let q : kind_of t n ≡ 4 = omega arith in let x = boolean_operand n e 4 field_a q tt in reads_not q x.0 x.1 (Tree.is_negation t c z n (low n e) q))
            | no f ↦ elim (dec_lt (kind_of t n) 6) [
              | yes g ↦ (let q : kind_of t n ≡ 5 = omega arith in let x = boolean_operand n e 5 field_a q tt in let y = boolean_operand n e 5 field_b q tt in
                  reads_and q x.0 x.1 y.0 y.1 (Tree.is_conjunction t c z n (low n e) q))
              | no g ↦ (let q : kind_of t n ≡ 6 = omega (arith, m.1) in let x = boolean_operand n e 6 field_a q tt in let y = boolean_operand n e 6 field_b q tt in
                  reads_or q x.0 x.1 y.0 y.1 (Tree.is_disjunction t c z n (low n e) q))
            ]
          ]
        ]
      ]
    ]

  pub boolean_rows : BooleanRows t booleans (boolean_at t)
  boolean_rows n b = let h = is_boolean n b in here n h.0 h.1 (boolean_range (kind_of t n) h.1 (z.kinds n (low n h.0)))
