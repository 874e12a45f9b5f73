-- The sequence that an operand reads as and the cells that are expected in it, as functions of the table and of a bit for each row and field.
-- Nothing here has to be believed.
use Rattle.std.specs.Prelude.{ℕ, ◌≤◌, ◌<◌, ◌≡◌, refl, Bool, false}
use Rattle.std.proofs.Common.{arith}
use Rattle.std.proofs.Math.Decide.{dec_lt}
use Rattle.psl.specs.Sequences.{Sequence}
use Rattle.psl.proofs.Marks.Automaton.{Marks}
use Rattle.psl.proofs.Marks.Masks.{cells}
use Rattle.lanes.specs.Rows.{Row, r_weak, r_left, r_rest, Has, Sits, read_within, sits_some, Sound}

module _ (row : ℕ → Row) where
  -- the sequence of a weak node or a left side whose operand is a: operands of 64 rows are below 63
  abbrev pub sequence_of : ℕ → Sequence
  sequence_of a = read_within row 63 a

  -- What is needed of an accepted table with 64 rows at most.
  pub record Table : Type 0 where
    pub sound : Sound row
    pub beyond : (n : ℕ) → 64 ≤ n → row n ≡ r_rest
    pub few : (n a : ℕ) → row n ≡ r_weak a → cells (sequence_of a) ≤ 6

  pub weak_has : (n a : ℕ) → row n ≡ r_weak a → Has (row n) false a
  weak_has n a e = rw e refl

  pub left_has : (n a : ℕ) → row n ≡ r_left a → Has (row n) false a
  left_has n a e = rw e refl

  module _ (t : Table) where
    pub operand_low : (n v : ℕ) (f : Bool) → Has (row n) f v → v < 63
    operand_low n v f i = elim (dec_lt n 64) [ yes l ↦ omega (arith, t.sound.falls n f v i) | no l ↦ absurd (rw (t.beyond n (omega arith)) at i) ]

    pub weak_low : (n a : ℕ) → row n ≡ r_weak a → n < 64
    weak_low n a e = elim (dec_lt n 64) [ yes l ↦ l | no l ↦ (let h = t.beyond n (omega arith) in let z : ◌≡◌ {A = ℕ} 0 1 = cc in absurd (omega arith)) ]

    module _ (live : ℕ → Bool → Bool) where
      pub sits_at : (n : ℕ) (f : Bool) (v : ℕ) → Has (row n) f v → (m : Marks (sequence_of v)) × Sits row live n f v (sequence_of v) m
      sits_at n f v i = sits_some row live t.sound 63 n f v (operand_low n v f i) (t.sound.class n f v i)

      -- the cells expected in operand v of row n
      unfoldable pub marks_of : (n : ℕ) (f : Bool) (v : ℕ) → Has (row n) f v → Marks (sequence_of v)
      marks_of n f v i = (sits_at n f v i).0

      pub marks_sit : (n : ℕ) (f : Bool) (v : ℕ) (i : Has (row n) f v) → Sits row live n f v (sequence_of v) (marks_of n f v i)
      unfolding marks_of
      marks_sit n f v i = (sits_at n f v i).1
