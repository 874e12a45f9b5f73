-- The property rows of a plan are what the pass over them asks for.
use Rattle.std.specs.Prelude.{ℕ, ◌<◌, ◌≡◌, refl, Bool, false, not, ◌&&◌, ◌||◌, List, ◌⊎◌, T, ltb}
use Rattle.std.proofs.Common.{arith, sym, ◌∙◌, ap₂, subst, inl, inr}
use Rattle.std.proofs.Math.Decide.{dec_lt}
use Rattle.std.proofs.Math.Bool.{true, and-true}
use Rattle.std.proofs.Math.Logic.{⊎_elim}
use Rattle.std.specs.Int.Bits.{bit_or}
use Rattle.psl.specs.Booleans.{bit}
use Rattle.psl.proofs.Marks.Automaton.{nullable}
use Rattle.psl.specs.Tells.{Tells, tells_lt, tells_and, tells_or, tells_not, tells_value, tells_true, true_tells}
use Rattle.psl.proofs.Model.Nodes.{Node}
use Rattle.words.specs.Bits.{bit_or_lem}
use Rattle.table.specs.Choice.{pick}
use Rattle.table.specs.Kinds.{fields_of, takes_of}
use Rattle.table.specs.Trees.{boolean_at}
use Rattle.table.specs.Subset.{Subset, Field, field_a, field_b, field_c, holds_in, value_at, IsOperand}
use Rattle.table.proofs.Facts.Trees as Tree
use Rattle.table.specs.declared.Counts.{Counts}
use Rattle.lanes.specs.Rows.{Row}
use Rattle.lanes.specs.Expected.{sequence_of}
use Rattle.lanes.specs.UpPass.{Part}
use Rattle.lanes.specs.Uses.{ended_lanes}
use Rattle.lanes.specs.DownPass.{left_use}
use Rattle.engine.specs.Reads.{kind_of, a_of}
use Rattle.engine.specs.Planned.{Planned, OverLeft}
use Rattle.engine.specs.Truths.{Truth}
use Rattle.engine.specs.declared.properties.Letter.{Letter}
use Rattle.engine.specs.Properties.{Inert, inert_boolean, inert_weak, Operand, Condition, PropertyRow, reads_both, reads_next, reads_if, reads_implies, reads_or, reads_always, reads_until, reads_suffix, reads_suffix_next, reads_never}
use Rattle.engine.specs.NodeView.{KindCase, a_boolean, a_sequence, k_weak, k_both, k_next, k_if, k_implies, k_or, k_always, k_until, k_suffix, k_suffix_next, k_never, node_by, case_of, node_out, node_boolean, node_sequence}
use Rattle.engine.specs.PlanView as W
use Rattle.engine.specs.PlanProperty.{sub, IsF}
use Rattle.engine.specs.PlanBooleans.{is_boolean, boolean_is, boolean_operand, IsB}

-- What ends a left side: an attempt under way, or one that begins and can end at once.
pub left_ended : (q : Part) (on : Bool) → ended_lanes q (left_use on) 7 ≡ q.ends 7 || (q.early && on)
left_ended q on = ap₂ (λ (a b : Bool). a || (q.early && b)) (and-true (q.ends 7)) (and-true on)

module _ (t : List ℕ) (c : Counts) (z : Subset t c) (root booleans sides weaks : ℕ) (p : Planned t root booleans sides weaks) (root_low : root < c.nodes) where
  abbrev node : ℕ → Node
  node = W.node t c z root booleans sides weaks p root_low

  abbrev row : ℕ → Row
  row = W.row t c z root booleans sides weaks p root_low

  low : (n : ℕ) → p.reached n ≡ true → n < c.nodes
  low = W.low t c z root booleans sides weaks p root_low

  -- reached, and no row of a sequence
  abbrev pub proper : ℕ → Bool
  proper n = p.reached n && not (ltb 15 (kind_of t n) && ltb (kind_of t n) 21)

  abbrev leaves : ℕ
  leaves = bit_or booleans weaks

  tells_proper : (n : ℕ) → Tells ((p.reached n ≡ true) × ((15 < kind_of t n) × (kind_of t n < 21) → ⊥)) (proper n)
  tells_proper n = tells_and (tells_value (p.reached n)) (tells_not (tells_and (tells_lt 15 (kind_of t n)) (tells_lt (kind_of t n) 21)))

  pub proper_is : (n : ℕ) → proper n ≡ true → (p.reached n ≡ true) × ((15 < kind_of t n) × (kind_of t n < 21) → ⊥)
  proper_is n e = tells_true (tells_proper n) e

  pub is_proper : (n : ℕ) → p.reached n ≡ true → ((15 < kind_of t n) × (kind_of t n < 21) → ⊥) → proper n ≡ true
  is_proper n e f = true_tells (tells_proper n) (e, f)

  -- what is not proper neither sends nor keeps
  inert_node : (n : ℕ) {nd : Node} → node n ≡ nd → Inert nd → Inert (node n)
  inert_node n q i = subst Inert (sym q) i

  pub beyond : (n : ℕ) → proper n ≡ false → Inert (node n)
  beyond n e = go (p.reached n) refl
    where
      go : (b : Bool) → p.reached n ≡ b → Inert (node n)
      go false r = inert_node n (node_out t c z (sequence_of row) p.reached low n r) inert_boolean
      go true r = elim (dec_lt 15 (kind_of t n)) [
        | yes l ↦ elim (dec_lt (kind_of t n) 21) [
          | yes m ↦ inert_node n (node_sequence t c z (sequence_of row) p.reached low n r l (omega arith)) inert_boolean
          | no m ↦ absurd (t_clash (is_proper n r (λ h. m h.1)) e)
        ]
        | no l ↦ absurd (t_clash (is_proper n r (λ h. l h.0)) e)
      ]
        where
          t_clash : {b : Bool} → b ≡ true → b ≡ false → ⊥
          t_clash x y = subst T (sym x ∙ y) tt

  leaf_in : (n : ℕ) → bit leaves n ≡ true → (bit booleans n ≡ true) ⊎ (bit weaks n ≡ true)
  leaf_in n e = tells_true (tells_or (tells_value (bit booleans n)) (tells_value (bit weaks n))) (sym (bit_or_lem booleans weaks n) ∙ e)

  in_leaf : (n : ℕ) → (bit booleans n ≡ true) ⊎ (bit weaks n ≡ true) → bit leaves n ≡ true
  in_leaf n h = bit_or_lem booleans weaks n ∙ true_tells (tells_or (tells_value (bit booleans n)) (tells_value (bit weaks n))) h

  pub leaf : (n : ℕ) → bit leaves n ≡ true → Inert (node n)
  unfolding node_by pick
  leaf n e = ⊎_elim
      (λ b. (let h = is_boolean t c z root booleans sides weaks p root_low n b in inert_node n (node_boolean t c z (sequence_of row) p.reached low n h.0 h.1) inert_boolean))
      (λ w. (let h = p.weak_rows n w in ⊎_elim
      (λ s. inert_node n (node_sequence t c z (sequence_of row) p.reached low n h.0 s.from s.upto) inert_boolean)
      (λ q. inert_node n (W.at t c z root booleans sides weaks p root_low 32 n h.0 q) inert_weak) h.1))
      (leaf_in n e)

  -- Of one sample x, with the truth of the Booleans.
  module _ (x : ℕ) (letter : Letter) (true_word : Truth booleans (boolean_at t) x letter.truth)
      (empties : (n : ℕ) → p.reached n ≡ true → OverLeft t n → bit letter.hits.empty n ≡ nullable (sequence_of row (a_of t n))) where
    condition : (n : ℕ) (e : p.reached n ≡ true) (k : ℕ) (f : Field) → kind_of t n ≡ k → IsB (holds_in (fields_of k) f) → Condition letter.truth x (value_at t n f) (boolean_at t (value_at t n f))
    condition n e k f q i =
        let h = boolean_operand t c z root booleans sides weaks p root_low n e k f q i in
        record { low = omega (arith, h.0, low n e, z.layout.nodes_range); is = true_word.inside (value_at t n f) h.1 }

    property : (n : ℕ) (e : p.reached n ≡ true) (k : ℕ) (f : Field) → kind_of t n ≡ k → IsF (holds_in (fields_of k) f) → Operand proper n (value_at t n f)
    property n e k f q i =
        let s = sub t c z root booleans sides weaks p root_low n e k f q i in
        record { smaller = s.smaller; is_reached = is_proper (value_at t n f) s.is_reached s.proper }

    left_low : (n : ℕ) (e : p.reached n ≡ true) (k : ℕ) → kind_of t n ≡ k → IsOperand (holds_in (fields_of k) field_a) → a_of t n < 64
    left_low n e k q i = omega (arith, Tree.falls t c z n (low n e) k field_a q i, low n e, z.layout.nodes_range)

    pub property_row_lem : (n : ℕ) → proper n ≡ true → bit leaves n ≡ false → PropertyRow t letter x proper n (node n)
    unfolding node_by fields_of takes_of pick
    property_row_lem n ok no_leaf = here (case_of t c z (sequence_of row) p.reached low n e)
      where
        e : p.reached n ≡ true
        e = (proper_is n ok).0

        not_leaf : (bit booleans n ≡ true) ⊎ (bit weaks n ≡ true) → ⊥
        not_leaf h = subst T (sym (in_leaf n h) ∙ no_leaf) tt

        as_node : (k : ℕ) → kind_of t n ≡ k → {nd : Node} → node n ≡ nd → PropertyRow t letter x proper n nd → PropertyRow t letter x proper n (node n)
        as_node k q w r = subst (PropertyRow t letter x proper n) (sym w) r

        at : (k : ℕ) → kind_of t n ≡ k → W.At t c z root booleans sides weaks p root_low k n
        at k q = W.at t c z root booleans sides weaks p root_low k n e q

        here : KindCase (kind_of t n) → PropertyRow t letter x proper n (node n)
        here (a_boolean l) = absurd (not_leaf (inl (boolean_is t c z root booleans sides weaks p root_low n e l)))
        here (a_sequence l m) = absurd ((proper_is n ok).1 (l, omega arith))
        here (k_weak q) = absurd (not_leaf (inr (p.weak_in n e q)))
        here (k_both q) = as_node 33 q (at 33 q) (reads_both q (property n e 33 field_a q tt) (property n e 33 field_b q tt))
        here (k_next q) = as_node 34 q (at 34 q) (reads_next q (property n e 34 field_a q tt))
        here (k_if q) = as_node 35 q (at 35 q) (reads_if q (condition n e 35 field_a q tt) (property n e 35 field_b q tt) (property n e 35 field_c q tt))
        here (k_implies q) = as_node 36 q (at 36 q) (reads_implies q (condition n e 36 field_a q tt) (property n e 36 field_b q tt))
        here (k_or q) = as_node 37 q (at 37 q) (reads_or q (property n e 37 field_a q tt) (condition n e 37 field_b q tt))
        here (k_always q) = as_node 38 q (at 38 q) (reads_always q (property n e 38 field_a q tt))
        here (k_until q) = as_node 39 q (at 39 q) (reads_until q (property n e 39 field_a q tt) (condition n e 39 field_b q tt))
        here (k_suffix q) = as_node 40 q (at 40 q) (reads_suffix q (left_low n e 40 q tt) (property n e 40 field_b q tt))
        here (k_suffix_next q) = as_node 41 q (at 41 q) (reads_suffix_next q (left_low n e 41 q tt) (empties n e (record { from = omega arith; upto = omega arith })) (property n e 41 field_b q tt))
        here (k_never q) = as_node 42 q (at 42 q) (reads_never q (left_low n e 42 q tt))
