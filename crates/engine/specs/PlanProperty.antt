-- The nodes of a plan stand for the property that the table's root reads as.
use Rattle.std.specs.Prelude.{ℕ, zero, suc, ◌<◌, ◌≡◌, refl, true, false, List, T}
use native.Mathlib.Omega.{arith}
use Rattle.std.proofs.Math.Path.{sym, ap, ap₂}
use Rattle.std.proofs.Common.{◌∙◌, subst}
use Rattle.psl.specs.Properties.{weak, both, next, if_else, implies, or_else, always, until, suffix, suffix_next, never}
use Rattle.psl.proofs.Model.Nodes.{Node, build, prop_at, prop_at_is}
use Rattle.table.specs.Choice.{pick}
use Rattle.table.specs.Kinds.{class_of, fields_of, takes_of, class_ok, in_f}
use Rattle.table.specs.Trees.{boolean_at, sequence_at, property_at}
use Rattle.table.specs.Subset.{Subset, kind_at, Field, field_a, field_b, field_c, holds_in, value_at, IsOperand}
use Rattle.table.proofs.Facts.Trees as Tree
use Rattle.table.specs.declared.Counts.{Counts}
use Rattle.table.specs.declared.kinds.Class.{Class}
use Rattle.table.specs.declared.kinds.Holds.{Holds}
use Rattle.table.specs.declared.kinds.Holds.TheVariants.{Nothing, Signal, B, Q, F}
use Rattle.accepted.specs.Rows.{shape_of, made}
use Rattle.accepted.specs.WeakCells.{row_at_lem}
use Rattle.accepted.specs.Sequences.{known}
use Rattle.lanes.specs.Rows.{Row, Has}
use Rattle.lanes.specs.Expected.{sequence_of}
use Rattle.engine.specs.Reads.{kind_of, a_of, b_of, c_of}
use Rattle.engine.specs.Planned.{Planned}
use Rattle.engine.specs.NodeView.{KindCase, a_boolean, a_sequence, k_weak, k_both, k_next, k_if, k_implies, k_or, k_always, k_until, k_suffix, k_suffix_next, k_never, node_by, case_of, node_boolean}
use Rattle.engine.specs.PlanView as W

abbrev pub IsF : Holds → Type 0
IsF Nothing = ⊥
IsF Signal = ⊥
IsF B = ⊥
IsF Q = ⊥
IsF F = Unit

f_operand : (h : Holds) → IsF h → IsOperand h
f_operand Nothing i = absurd i
f_operand Signal i = absurd i
f_operand B i = absurd i
f_operand Q i = absurd i
f_operand F i = tt

f_class : (h : Holds) (k : Class) → IsF h → T (class_ok h k) → T (in_f k)
f_class Nothing k i h = absurd i
f_class Signal k i h = absurd i
f_class B k i h = absurd i
f_class Q k i h = absurd i
f_class F k i h = h

module _ (t : List ℕ) (c : Counts) (z : Subset t c) (root booleans sides weaks : ℕ) (p : Planned t root booleans sides weaks) (root_low : root < c.nodes) where
  abbrev node : ℕ → Node
  node = W.node t c z root booleans sides weaks p root_low

  abbrev row : ℕ → Row
  row = W.row t c z root booleans sides weaks p root_low

  low : (n : ℕ) → p.reached n ≡ true → n < c.nodes
  low = W.low t c z root booleans sides weaks p root_low

  -- not a sequence
  abbrev pub Proper : ℕ → Type 0
  Proper n = (15 < kind_of t n) × (kind_of t n < 21) → ⊥

  -- an operand that is a property: smaller, reached, and no sequence
  pub record Sub (n v : ℕ) : Type 0 where
    pub smaller : v < n
    pub is_reached : p.reached v ≡ true
    pub proper : Proper v

  abbrev Same : ℕ → Type 0
  Same n = prop_at node n ≡ property_at t n

  module _ (n : ℕ) (e : p.reached n ≡ true) where
    pub sub : (k : ℕ) (f : Field) → kind_of t n ≡ k → IsF (holds_in (fields_of k) f) → Sub n (value_at t n f)
    sub k f q i = record {
      smaller = Tree.falls t c z n (low n e) k f q (f_operand (holds_in (fields_of k) f) i);
      is_reached = p.operands n e f (subst (λ (m : ℕ). IsOperand (holds_in (fields_of m) f)) (sym q) (f_operand (holds_in (fields_of k) f) i));
      proper = W.no_sequence (kind_at t (value_at t n f)) (known t c z (value_at t n f) (omega (arith, Tree.falls t c z n (low n e) k f q (f_operand (holds_in (fields_of k) f) i), low n e)))
          (f_class (holds_in (fields_of k) f) (class_of (kind_at t (value_at t n f))) i (subst (λ (m : ℕ). T (class_ok (holds_in (fields_of m) f) (class_of (kind_at t (value_at t n f))))) q (z.classes n (low n e) f)));
    }

    -- the property of a node is built of its operands'
    built : (k : ℕ) → kind_of t n ≡ k → prop_at node n ≡ build (prop_at node) (node_by k (boolean_at t n) (boolean_at t) (sequence_of row) (a_of t n) (b_of t n) (c_of t n))
    built k q = prop_at_is node (W.down t c z root booleans sides weaks p root_low) n ∙ ap (build (prop_at node)) (W.at t c z root booleans sides weaks p root_low k n e q)

    seq_a : (k : ℕ) → kind_of t n ≡ k → Has (W.rows t c z root booleans sides weaks p root_low n) false (a_of t n) → sequence_of row (a_of t n) ≡ sequence_at t (a_of t n)
    seq_a k q i = W.reads_as t c z root booleans sides weaks p root_low n false (a_of t n) e i

    left_a : (k : ℕ) → kind_of t n ≡ k → Has (made (shape_of k) (a_of t n) (b_of t n) (boolean_at t n)) false (a_of t n) → sequence_of row (a_of t n) ≡ sequence_at t (a_of t n)
    left_a k q i = seq_a k q (subst (λ R. Has R false (a_of t n)) (sym (row_at_lem t c z k n (low n e) q)) i)

    here : Proper n → KindCase (kind_of t n) → ((v : ℕ) → Sub n v → Same v) → Same n
    unfolding node_by takes_of fields_of shape_of pick
    here ok (a_boolean l) g = prop_at_is node (W.down t c z root booleans sides weaks p root_low) n
        ∙ ap (build (prop_at node)) (node_boolean t c z (sequence_of row) p.reached low n e l) ∙ sym (Tree.is_boolean t c z n (low n e) (omega arith))
    here ok (a_sequence l m) g = absurd (ok (omega arith, omega arith))
    here ok (k_weak q) g = built 32 q ∙ ap weak (left_a 32 q refl) ∙ sym (Tree.is_weak_lem t c z n (low n e) q)
    here ok (k_both q) g = built 33 q ∙ ap₂ both (g (a_of t n) (sub 33 field_a q tt)) (g (b_of t n) (sub 33 field_b q tt)) ∙ sym (Tree.is_both t c z n (low n e) q)
    here ok (k_next q) g = built 34 q ∙ ap next (g (a_of t n) (sub 34 field_a q tt)) ∙ sym (Tree.is_next t c z n (low n e) q)
    here ok (k_if q) g = built 35 q ∙ ap₂ (if_else (boolean_at t (a_of t n))) (g (b_of t n) (sub 35 field_b q tt)) (g (c_of t n) (sub 35 field_c q tt)) ∙ sym (Tree.is_if_else t c z n (low n e) q)
    here ok (k_implies q) g = built 36 q ∙ ap (implies (boolean_at t (a_of t n))) (g (b_of t n) (sub 36 field_b q tt)) ∙ sym (Tree.is_implies t c z n (low n e) q)
    here ok (k_or q) g = built 37 q ∙ ap (λ f. or_else f (boolean_at t (b_of t n))) (g (a_of t n) (sub 37 field_a q tt)) ∙ sym (Tree.is_or_else t c z n (low n e) q)
    here ok (k_always q) g = built 38 q ∙ ap always (g (a_of t n) (sub 38 field_a q tt)) ∙ sym (Tree.is_always t c z n (low n e) q)
    here ok (k_until q) g = built 39 q ∙ ap (λ f. until f (boolean_at t (b_of t n))) (g (a_of t n) (sub 39 field_a q tt)) ∙ sym (Tree.is_until t c z n (low n e) q)
    here ok (k_suffix q) g = built 40 q ∙ ap₂ suffix (left_a 40 q refl) (g (b_of t n) (sub 40 field_b q tt)) ∙ sym (Tree.is_suffix t c z n (low n e) q)
    here ok (k_suffix_next q) g = built 41 q ∙ ap₂ suffix_next (left_a 41 q refl) (g (b_of t n) (sub 41 field_b q tt)) ∙ sym (Tree.is_suffix_next t c z n (low n e) q)
    here ok (k_never q) g = built 42 q ∙ ap never (left_a 42 q refl) ∙ sym (Tree.is_never t c z n (low n e) q)

  same_within : (k n : ℕ) → n < k → p.reached n ≡ true → Proper n → Same n
  same_within zero n l e ok = absurd (omega arith)
  same_within (suc k) n l e ok = here n e ok (case_of t c z (sequence_of row) p.reached low n e) (λ v s. same_within k v (omega (arith, s.smaller)) s.is_reached s.proper)

  -- THE ROOT stands for its property
  pub root_property : Proper root → prop_at node root ≡ property_at t root
  root_property ok = same_within (suc root) root (omega arith) p.root_reached ok
