-- The rows of left sides of a plan are what their passes ask for; and which rows stand over a left side that is a Boolean.
use Rattle.std.specs.Prelude.{ℕ, ◌≤◌, ◌<◌, ◌≡◌, Bool, true, false, List, T}
use Rattle.std.proofs.Common.{arith, sym, ◌∙◌, subst, inl, inr, ⊎_elim, leb-true, le-leb}
use Rattle.std.proofs.Math.Decide.{dec_lt}
use Rattle.std.proofs.Math.Path.{refl}
use Rattle.psl.specs.Booleans.{bit}
use Rattle.psl.specs.Tells.{tells_or, tells_value, tells_true}
use Rattle.table.specs.Choice.{pick}
use Rattle.table.specs.Kinds.{fields_of, takes_of}
use Rattle.table.specs.Trees.{boolean_at}
use Rattle.table.specs.Subset.{Subset, field_a, holds_in}
use Rattle.table.specs.declared.Counts.{Counts}
use Rattle.accepted.specs.Rows.{shape_of, made}
use Rattle.lanes.specs.Rows.{Row, r_left}
use Rattle.engine.specs.Reads.{kind_of, a_of, b_of}
use Rattle.engine.specs.Planned.{Planned, InSequence, OverLeft, StandsIn, in_a, in_b}
use Rattle.engine.specs.Truths.{Truth, OnlyIn}
use Rattle.engine.specs.Sides.{SideOperand, is_cell, is_row, SideRow, reads_then, reads_fuse, reads_alt, reads_star, reads_plus, reads_left, SideRows, SideUsers}
use Rattle.engine.specs.PlanSequences.{Stands, a_cell, a_row, SequenceRow, is_then, is_fuse, is_alt, is_star, is_plus, IsQ}
use Rattle.engine.specs.PlanView as W
use Rattle.engine.specs.PlanSequences as S

pub both_no : (b : Bool) → b ≡ true → b ≡ false → ⊥
both_no b e q = subst T (sym e ∙ q) tt

module _ (t : List ℕ) (c : Counts) (z : Subset t c) (root booleans sides weaks : ℕ) (p : Planned t root booleans sides weaks) (root_low : root < c.nodes) where
  abbrev row : ℕ → Row
  row = W.row t c z root booleans sides weaks p root_low

  -- A row over a left side
  module _ (n : ℕ) (e : p.reached n ≡ true) (o : OverLeft t n) where
    abbrev Left : Type 0
    Left = (row n ≡ r_left (a_of t n)) × Stands t row booleans n (a_of t n)

    left_by : (k : ℕ) → kind_of t n ≡ k → made (shape_of k) (a_of t n) (b_of t n) (boolean_at t n) ≡ r_left (a_of t n) → IsQ (holds_in (fields_of k) field_a) → Left
    left_by k q r i = (W.row_of_kind t c z root booleans sides weaks p root_low k n e q ∙ r, S.stands t c z root booleans sides weaks p root_low n e k field_a q i (in_a refl (inr (inr o))))

    left_row : Left
    unfolding fields_of takes_of shape_of pick
    left_row = elim (dec_lt (kind_of t n) 41) [
      | yes a ↦ left_by 40 (omega (arith, o.from)) refl tt
      | no a ↦ elim (dec_lt (kind_of t n) 42) [ yes b ↦ left_by 41 (omega arith) refl tt | no b ↦ left_by 42 (omega (arith, o.upto)) refl tt ]
    ]

    -- its left side is a Boolean just if the row is not in the set
    pub left_boolean : bit sides n ≡ false → bit booleans (a_of t n) ≡ true
    left_boolean s = go left_row.1
      where
        go : Stands t row booleans n (a_of t n) → bit booleans (a_of t n) ≡ true
        go (a_cell l b r) = b
        go (a_row l b h i) = absurd (both_no (bit sides n) (p.left_in n e o ∙ le-leb 16 (kind_of t (a_of t n)) i.from) s)

    pub left_no_boolean : bit sides n ≡ true → bit booleans (a_of t n) ≡ false
    left_no_boolean s = S.no_boolean t c z root booleans sides weaks p root_low (a_of t n) (leb-true 16 (kind_of t (a_of t n)) (sym (p.left_in n e o) ∙ s))

    pub left_no_truth : (truth : ℕ) → OnlyIn booleans truth → bit sides n ≡ true → bit truth (a_of t n) ≡ false
    left_no_truth truth only s = only (a_of t n) (left_no_boolean s)

  module _ (truth x : ℕ) (holds_now : Truth booleans (boolean_at t) x truth) where
    operand : (n v : ℕ) → bit sides n ≡ true → Stands t row booleans n v → SideOperand t row booleans sides truth x n v
    operand n v s (a_cell l b r) = is_cell l b r (holds_now.inside v b)
    operand n v s (a_row l b h i) = is_row l b (p.side_operands n v s h i.from) (omega (arith, i.upto))

    of_sequence : (n : ℕ) → bit sides n ≡ true → SequenceRow t row booleans n → SideRow t row booleans sides truth x n
    of_sequence n s (is_then q r a b) = reads_then q r (operand n (a_of t n) s a) (operand n (b_of t n) s b)
    of_sequence n s (is_fuse q r a b) = reads_fuse q r (operand n (a_of t n) s a) (operand n (b_of t n) s b)
    of_sequence n s (is_alt q r a b) = reads_alt q r (operand n (a_of t n) s a) (operand n (b_of t n) s b)
    of_sequence n s (is_star q r a) = reads_star q r (operand n (a_of t n) s a)
    of_sequence n s (is_plus q r a) = reads_plus q r (operand n (a_of t n) s a)

    of_left : (n : ℕ) → bit sides n ≡ true → p.reached n ≡ true → OverLeft t n → SideRow t row booleans sides truth x n
    of_left n s e o = let h = left_row n e o in reads_left o.from o.upto h.0 (operand n (a_of t n) s h.1)

    -- THE ROWS of left sides
    pub side_rows : SideRows t row booleans sides truth x
    side_rows n s = let h = p.side_rows n s in
        ⊎_elim (λ i. of_sequence n s (S.sequence_row_lem t c z root booleans sides weaks p root_low n h.0 i)) (λ o. of_left n s h.0 o) h.1

  -- A sequence stands in rows of its own set alone
  pub side_users : SideUsers t row sides
  side_users v s l n f i =
      let h = S.has_stands t c z root booleans sides weaks p root_low n f v i in
      let k = ⊎_elim (λ a. a.from) (λ o. absurd (omega (arith, o.from))) (p.side_rows v s).1 in
      here k h.0 h.1
    where
      no_weak : 16 ≤ kind_of t v → StandsIn t n v → bit weaks n ≡ true → ⊥
      no_weak k h w = both_no (bit weaks v) (p.weak_operands n v w h k) (p.apart v s)

      in_sequence : 16 ≤ kind_of t v → p.reached n ≡ true → StandsIn t n v → InSequence t n → bit sides n ≡ true
      in_sequence k e h a = ⊎_elim (λ d. d) (λ w. absurd (no_weak k h w)) (tells_true (tells_or (tells_value (bit sides n)) (tells_value (bit weaks n))) (p.sequences_in n e a))

      here : 16 ≤ kind_of t v → p.reached n ≡ true → StandsIn t n v → bit sides n ≡ true
      here k e (in_a q (inl a)) = in_sequence k e (in_a q (inl a)) a
      here k e (in_a q (inr (inl w))) = absurd (no_weak k (in_a q (inr (inl w))) (p.weak_in n e w))
      here k e (in_a q (inr (inr o))) = p.left_in n e o ∙ le-leb 16 (kind_of t (a_of t n)) (subst (λ (m : ℕ). 16 ≤ kind_of t m) q k)
      here k e (in_b q a b) = in_sequence k e (in_b q a b) (record { from = a; upto = omega arith })
