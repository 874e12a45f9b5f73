-- The rows of weak sequences: which lanes end each on a sample, and which lead to each cell. Lanes 0 to 6 of the passes.
use Rattle.std.specs.Prelude.{ℕ, zero, suc, ◌+◌, ◌-◌, ◌*◌, ◌<◌, ◌≡◌, Bool, true, false, ◌&&◌, List, eqb, get_or}
use Rattle.psl.specs.Booleans.{Boolean, bit, holds, sample}
use Rattle.lanes.specs.Rows.{Row, r_bool, r_then, r_fuse, r_alt, r_star, r_plus, r_weak}
use Rattle.lanes.specs.Expected.{Table}
use Rattle.lanes.specs.UpPass.{Part, operand}
use Rattle.lanes.specs.Uses.{ended_lanes}
use Rattle.lanes.specs.DownPass.{weak_use}
use Rattle.lanes.specs.Ideal.{part_of, whole_work}
use Rattle.engine.specs.Reads.{kind_of, a_of, b_of}

-- An operand of a row of the set: a Boolean whose truth is known, or a smaller sequence row of the set.
pub data WeakOperand (t : List ℕ) (row : ℕ → Row) (booleans weaks truth x n v : ℕ) : Type 0 where
  is_cell : {b : Boolean} → v < 64 → bit booleans v ≡ true → row v ≡ r_bool b → bit truth v ≡ holds b x → WeakOperand t row booleans weaks truth x n v
  is_row : v < n → bit booleans v ≡ false → bit weaks v ≡ true → kind_of t v < 32 → WeakOperand t row booleans weaks truth x n v

pub data WeakRow (t : List ℕ) (row : ℕ → Row) (booleans weaks truth x n : ℕ) : Type 0 where
  reads_then : kind_of t n ≡ 16 → row n ≡ r_then (a_of t n) (b_of t n) → WeakOperand t row booleans weaks truth x n (a_of t n)
      → WeakOperand t row booleans weaks truth x n (b_of t n) → WeakRow t row booleans weaks truth x n
  reads_fuse : kind_of t n ≡ 17 → row n ≡ r_fuse (a_of t n) (b_of t n) → WeakOperand t row booleans weaks truth x n (a_of t n)
      → WeakOperand t row booleans weaks truth x n (b_of t n) → WeakRow t row booleans weaks truth x n
  reads_alt : kind_of t n ≡ 18 → row n ≡ r_alt (a_of t n) (b_of t n) → WeakOperand t row booleans weaks truth x n (a_of t n)
      → WeakOperand t row booleans weaks truth x n (b_of t n) → WeakRow t row booleans weaks truth x n
  reads_star : kind_of t n ≡ 19 → row n ≡ r_star (a_of t n) → WeakOperand t row booleans weaks truth x n (a_of t n) → WeakRow t row booleans weaks truth x n
  reads_plus : kind_of t n ≡ 20 → row n ≡ r_plus (a_of t n) → WeakOperand t row booleans weaks truth x n (a_of t n) → WeakRow t row booleans weaks truth x n
  reads_weak : kind_of t n ≡ 32 → row n ≡ r_weak (a_of t n) → WeakOperand t row booleans weaks truth x n (a_of t n) → WeakRow t row booleans weaks truth x n

abbrev pub WeakRows : List ℕ → (ℕ → Row) → ℕ → ℕ → ℕ → ℕ → Type 0
WeakRows t row booleans weaks truth x = (n : ℕ) → bit weaks n ≡ true → WeakRow t row booleans weaks truth x n

abbrev pub first_part : (ℕ → Row) → (ℕ → Bool → Bool) → ℕ → ℕ → ℕ → Part
first_part row live x n a = operand row live (sample x) (part_of row live (sample x)) n false a

abbrev pub one_if : Bool → ℕ
one_if true = 1
one_if false = 0

-- How many rows of kind 32 the set has among the k rows from 64 - k on: the number of the weak sequence of a row, counted from the top.
abbrev pub weaks_above : List ℕ → ℕ → ℕ → ℕ
weaks_above t weaks zero = 0
weaks_above t weaks (suc k) = weaks_above t weaks k + one_if (bit weaks (63 - k) && eqb (kind_of t (63 - k)) 32)

abbrev pub weak_number : List ℕ → ℕ → ℕ → ℕ
weak_number t weaks n = weaks_above t weaks (63 - n)

-- What the two passes leave of the weak sequence of row n, whose number is w: the lanes that end it (7 of them) and whether an attempt begins,
-- in byte w of `tops`; and the lanes that lead to its cell q, in byte 8 w + q of `leads`.
pub record WeakLanes (t : List ℕ) (row : ℕ → Row) (table : Table row) (live : ℕ → Bool → Bool) (x : ℕ) (enter : ℕ → Bool) (n w : ℕ) (tops leads : List ℕ) : Type 0 where
  pub ends_are : (l : ℕ) → l < 7 → bit (get_or tops w 0) l ≡ ended_lanes (first_part row live x n (a_of t n)) (weak_use n (enter n)) l
  pub begins_is : bit (get_or tops w 0) 7 ≡ enter n
  pub leads_are : (l q : ℕ) → l < 7 → q < 6 → bit (get_or leads (8 * w + q) 0) l ≡ (whole_work row table live (sample x) enter).rel n l q
