-- The rows of weak sequences of a plan are what their passes ask for.
use Rattle.std.specs.Prelude.{ℕ, ◌≤◌, ◌<◌, ◌≡◌, Bool, true, List}
use Rattle.std.proofs.Common.{arith, ◌∙◌, subst, inl, inr, ⊎_elim, le-leb}
use Rattle.std.proofs.Math.Path.{refl}
use Rattle.psl.specs.Booleans.{bit}
use Rattle.psl.specs.Tells.{tells_or, tells_value, tells_true}
use Rattle.table.specs.Choice.{pick}
use Rattle.table.specs.Kinds.{fields_of, takes_of}
use Rattle.table.specs.Trees.{boolean_at}
use Rattle.table.specs.Subset.{Subset, field_a}
use Rattle.table.specs.declared.Counts.{Counts}
use Rattle.accepted.specs.Rows.{shape_of}
use Rattle.lanes.specs.Rows.{Row, Has}
use Rattle.engine.specs.Reads.{kind_of, a_of, b_of}
use Rattle.engine.specs.Planned.{Planned, InSequence, StandsIn, in_a, in_b}
use Rattle.engine.specs.Truths.{Truth}
use Rattle.engine.specs.Weaks.{WeakOperand, is_cell, is_row, WeakRow, reads_then, reads_fuse, reads_alt, reads_star, reads_plus, reads_weak, WeakRows}
use Rattle.engine.specs.PlanSequences.{Stands, a_cell, a_row, SequenceRow, is_then, is_fuse, is_alt, is_star, is_plus}
use Rattle.engine.specs.PlanSides.{both_no}
use Rattle.engine.specs.PlanView as W
use Rattle.engine.specs.PlanSequences as S

-- A sequence row of the set is an operand of rows of the set alone.
abbrev pub WeakUsers : List ℕ → (ℕ → Row) → ℕ → Type 0
WeakUsers t row weaks = (v : ℕ) → bit weaks v ≡ true → kind_of t v < 32 → (n : ℕ) (f : Bool) → Has (row n) f v → bit weaks n ≡ true

module _ (t : List ℕ) (c : Counts) (z : Subset t c) (root booleans sides weaks : ℕ) (p : Planned t root booleans sides weaks) (root_low : root < c.nodes) where
  abbrev row : ℕ → Row
  row = W.row t c z root booleans sides weaks p root_low

  module _ (truth x : ℕ) (holds_now : Truth booleans (boolean_at t) x truth) where
    operand : (n v : ℕ) → bit weaks n ≡ true → Stands t row booleans n v → WeakOperand t row booleans weaks truth x n v
    operand n v w (a_cell l b r) = is_cell l b r (holds_now.inside v b)
    operand n v w (a_row l b h i) = is_row l b (p.weak_operands n v w h i.from) (omega (arith, i.upto))

    of_sequence : (n : ℕ) → bit weaks n ≡ true → SequenceRow t row booleans n → WeakRow t row booleans weaks truth x n
    of_sequence n w (is_then q r a b) = reads_then q r (operand n (a_of t n) w a) (operand n (b_of t n) w b)
    of_sequence n w (is_fuse q r a b) = reads_fuse q r (operand n (a_of t n) w a) (operand n (b_of t n) w b)
    of_sequence n w (is_alt q r a b) = reads_alt q r (operand n (a_of t n) w a) (operand n (b_of t n) w b)
    of_sequence n w (is_star q r a) = reads_star q r (operand n (a_of t n) w a)
    of_sequence n w (is_plus q r a) = reads_plus q r (operand n (a_of t n) w a)

    of_weak : (n : ℕ) → bit weaks n ≡ true → p.reached n ≡ true → kind_of t n ≡ 32 → WeakRow t row booleans weaks truth x n
    unfolding fields_of takes_of shape_of pick
    of_weak n w e q = reads_weak q (W.row_of_kind t c z root booleans sides weaks p root_low 32 n e q)
        (operand n (a_of t n) w (S.stands t c z root booleans sides weaks p root_low n e 32 field_a q tt (in_a refl (inr (inl q)))))

    -- THE ROWS of weak sequences
    pub weak_rows : WeakRows t row booleans weaks truth x
    weak_rows n w = let h = p.weak_rows n w in
        ⊎_elim (λ i. of_sequence n w (S.sequence_row_lem t c z root booleans sides weaks p root_low n h.0 i)) (λ q. of_weak n w h.0 q) h.1

  -- A sequence stands in rows of its own set alone
  pub weak_users : WeakUsers t row weaks
  weak_users v w l n f i =
      let h = S.has_stands t c z root booleans sides weaks p root_low n f v i in
      let k = ⊎_elim (λ a. a.from) (λ q. absurd (omega arith)) (p.weak_rows v w).1 in
      here k h.0 h.1
    where
      no_side : 16 ≤ kind_of t v → StandsIn t n v → bit sides n ≡ true → ⊥
      no_side k h s = both_no (bit weaks v) w (p.apart v (p.side_operands n v s h k))

      in_sequence : 16 ≤ kind_of t v → p.reached n ≡ true → StandsIn t n v → InSequence t n → bit weaks n ≡ true
      in_sequence k e h a = ⊎_elim (λ s. absurd (no_side k h s)) (λ d. d) (tells_true (tells_or (tells_value (bit sides n)) (tells_value (bit weaks n))) (p.sequences_in n e a))

      here : 16 ≤ kind_of t v → p.reached n ≡ true → StandsIn t n v → bit weaks n ≡ true
      here k e (in_a q (inl a)) = in_sequence k e (in_a q (inl a)) a
      here k e (in_a q (inr (inl d))) = p.weak_in n e d
      here k e (in_a q (inr (inr o))) = absurd (no_side k (in_a q (inr (inr o))) (p.left_in n e o ∙ le-leb 16 (kind_of t (a_of t n)) (subst (λ (m : ℕ). 16 ≤ kind_of t m) q k)))
      here k e (in_b q a b) = in_sequence k e (in_b q a b) (record { from = a; upto = omega arith })
