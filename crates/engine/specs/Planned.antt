-- The plan of a property: the rows that it reaches, by what a cycle does with them.
use Rattle.std.specs.Prelude.{ℕ, ◌≤◌, ◌<◌, ◌≡◌, Bool, true, false, ◌&&◌, ◌||◌, List, ◌⊎◌, ltb, leb}
use Rattle.psl.specs.Booleans.{bit}
use Rattle.table.specs.Subset.{Field, IsOperand, holds_at, value_at}
use Rattle.engine.specs.Reads.{kind_of, a_of, b_of}

-- A row of a sequence: kinds 16 to 20. A row over a left side or a never: kinds 40 to 42.
pub record InSequence (t : List ℕ) (n : ℕ) : Type 0 where
  pub from : 16 ≤ kind_of t n
  pub upto : kind_of t n ≤ 20

pub record OverLeft (t : List ℕ) (n : ℕ) : Type 0 where
  pub from : 40 ≤ kind_of t n
  pub upto : kind_of t n ≤ 42

-- v stands as a sequence in row n: in field a of kinds 16 to 20, 32 and 40 to 42, and in field b of kinds 16 to 18.
pub data StandsIn (t : List ℕ) (n v : ℕ) : Type 0 where
  in_a : v ≡ a_of t n → InSequence t n ⊎ ((kind_of t n ≡ 32) ⊎ OverLeft t n) → StandsIn t n v
  in_b : v ≡ b_of t n → 16 ≤ kind_of t n → kind_of t n ≤ 18 → StandsIn t n v

-- What the words of a plan say, of an accepted table. `reached` tells the rows that the root reaches.
pub record Planned (t : List ℕ) (root booleans sides weaks : ℕ) : Type 0 where
  pub reached : ℕ → Bool
  pub root_reached : reached root ≡ true
  pub up_to_root : (n : ℕ) → reached n ≡ true → n ≤ root
  pub operands : (n : ℕ) → reached n ≡ true → (f : Field) → IsOperand (holds_at t n f) → reached (value_at t n f) ≡ true
  -- Booleans, kinds below 16
  pub booleans_are : (n : ℕ) → bit booleans n ≡ reached n && ltb (kind_of t n) 16
  -- a row of left sides: of a sequence, or over one; a row of weak sequences: of a sequence, or weak
  pub side_rows : (n : ℕ) → bit sides n ≡ true → (reached n ≡ true) × (InSequence t n ⊎ OverLeft t n)
  pub weak_rows : (n : ℕ) → bit weaks n ≡ true → (reached n ≡ true) × (InSequence t n ⊎ (kind_of t n ≡ 32))
  pub apart : (n : ℕ) → bit sides n ≡ true → bit weaks n ≡ false
  pub weak_in : (n : ℕ) → reached n ≡ true → kind_of t n ≡ 32 → bit weaks n ≡ true
  -- a row over a left side is in the set just if the left side is no Boolean
  pub left_in : (n : ℕ) → reached n ≡ true → OverLeft t n → bit sides n ≡ leb 16 (kind_of t (a_of t n))
  -- a sequence is where the row is in which it stands
  pub side_operands : (n v : ℕ) → bit sides n ≡ true → StandsIn t n v → 16 ≤ kind_of t v → bit sides v ≡ true
  pub weak_operands : (n v : ℕ) → bit weaks n ≡ true → StandsIn t n v → 16 ≤ kind_of t v → bit weaks v ≡ true
  -- and each sequence that is reached stands in some row that is reached
  pub sequences_in : (n : ℕ) → reached n ≡ true → InSequence t n → bit sides n || bit weaks n ≡ true
  pub users : (n : ℕ) → reached n ≡ true → InSequence t n → (m : ℕ) × (reached m ≡ true) × StandsIn t m n
  -- a row that is reached is the root, or an operand of a larger row that is
  pub comes : (n : ℕ) → reached n ≡ true → (n ≡ root) ⊎ ((m : ℕ) × (f : Field) × (n < m) × (reached m ≡ true) × IsOperand (holds_at t m f) × (value_at t m f ≡ n))
