-- The rows of left sides and never: which end on a sample, and the cells that they expect next. Lane 7 of the passes.
use Rattle.std.specs.Prelude.{ℕ, ◌+◌, ◌≤◌, ◌<◌, ◌≡◌, Bool, true, false, List, get_or}
use Rattle.psl.specs.Booleans.{Boolean, bit, holds, sample}
use Rattle.lanes.specs.Rows.{Row, r_bool, r_then, r_fuse, r_alt, r_star, r_plus, r_left, Has, CellAt}
use Rattle.lanes.specs.Expected.{Table}
use Rattle.lanes.specs.UpPass.{Part, operand}
use Rattle.lanes.specs.Uses.{Use}
use Rattle.lanes.specs.Ideal.{part_of, whole_work}
use Rattle.engine.specs.Reads.{kind_of, a_of, b_of}
use Rattle.engine.specs.declared.properties.Hits.{Hits}

abbrev pub one_if : Bool → ℕ → ℕ
one_if true n = n
one_if false n = 0

-- What a part does in lane 7, as the code's number: 1 early, 2 ends, 4 empty.
abbrev pub side_code : Part → ℕ
side_code p = one_if p.early 1 + one_if (p.ends 7) 2 + one_if p.empty 4

-- How a part is used in lane 7: 1 entered now, 2 entered next.
abbrev pub use_code : Use → ℕ
use_code w = one_if (w.into 7) 1 + one_if (w.go 7) 2

-- The cells that are expected before the sample, in two words.
abbrev pub live_in : ℕ → ℕ → ℕ → Bool → Bool
live_in a b n false = bit a n
live_in a b n true = bit b n

-- An operand of a row of the set: a Boolean whose truth is known, or a smaller sequence row of the set.
pub data SideOperand (t : List ℕ) (row : ℕ → Row) (booleans sides truth x n v : ℕ) : Type 0 where
  is_cell : {b : Boolean} → v < 64 → bit booleans v ≡ true → row v ≡ r_bool b → bit truth v ≡ holds b x → SideOperand t row booleans sides truth x n v
  is_row : v < n → bit booleans v ≡ false → bit sides v ≡ true → kind_of t v < 32 → SideOperand t row booleans sides truth x n v

-- Row n of the set as the passes see it.
pub data SideRow (t : List ℕ) (row : ℕ → Row) (booleans sides truth x n : ℕ) : Type 0 where
  reads_then : kind_of t n ≡ 16 → row n ≡ r_then (a_of t n) (b_of t n) → SideOperand t row booleans sides truth x n (a_of t n)
      → SideOperand t row booleans sides truth x n (b_of t n) → SideRow t row booleans sides truth x n
  reads_fuse : kind_of t n ≡ 17 → row n ≡ r_fuse (a_of t n) (b_of t n) → SideOperand t row booleans sides truth x n (a_of t n)
      → SideOperand t row booleans sides truth x n (b_of t n) → SideRow t row booleans sides truth x n
  reads_alt : kind_of t n ≡ 18 → row n ≡ r_alt (a_of t n) (b_of t n) → SideOperand t row booleans sides truth x n (a_of t n)
      → SideOperand t row booleans sides truth x n (b_of t n) → SideRow t row booleans sides truth x n
  reads_star : kind_of t n ≡ 19 → row n ≡ r_star (a_of t n) → SideOperand t row booleans sides truth x n (a_of t n) → SideRow t row booleans sides truth x n
  reads_plus : kind_of t n ≡ 20 → row n ≡ r_plus (a_of t n) → SideOperand t row booleans sides truth x n (a_of t n) → SideRow t row booleans sides truth x n
  reads_left : 40 ≤ kind_of t n → kind_of t n ≤ 42 → row n ≡ r_left (a_of t n) → SideOperand t row booleans sides truth x n (a_of t n) → SideRow t row booleans sides truth x n

abbrev pub SideRows : List ℕ → (ℕ → Row) → ℕ → ℕ → ℕ → ℕ → Type 0
SideRows t row booleans sides truth x = (n : ℕ) → bit sides n ≡ true → SideRow t row booleans sides truth x n

-- The words have the cells that are expected at the rows of the set.
abbrev pub LiveWords : ℕ → (ℕ → Bool → Bool) → ℕ → ℕ → Type 0
LiveWords sides live a b = (n : ℕ) → bit sides n ≡ true → (f : Bool) → live_in a b n f ≡ live n f

-- Cells are expected only where cells stand.
abbrev pub LiveAtCells : (ℕ → Row) → (ℕ → Bool → Bool) → Type 0
LiveAtCells row live = (n : ℕ) (f : Bool) → live n f ≡ true → CellAt row n f

-- A sequence row of the set is an operand of rows of the set alone.
abbrev pub SideUsers : List ℕ → (ℕ → Row) → ℕ → Type 0
SideUsers t row sides = (v : ℕ) → bit sides v ≡ true → kind_of t v < 32 → (n : ℕ) (f : Bool) → Has (row n) f v → bit sides n ≡ true

-- The first operand of row n, as the upward pass finds it.
abbrev pub first_part : (ℕ → Row) → (ℕ → Bool → Bool) → ℕ → ℕ → ℕ → Part
first_part row live x n a = operand row live (sample x) (part_of row live (sample x)) n false a

abbrev pub LeftsFound : List ℕ → (ℕ → Row) → (ℕ → Bool → Bool) → ℕ → ℕ → List ℕ → Type 0
LeftsFound t row live sides x lefts = (n : ℕ) → bit sides n ≡ true → get_or lefts n 0 ≡ side_code (first_part row live x n (a_of t n))

-- What the upward pass leaves: the first operand's number at each row of the set, the left sides that end, and those that can be empty.
pub record SidesUp (t : List ℕ) (row : ℕ → Row) (live : ℕ → Bool → Bool) (sides x : ℕ) (lefts : List ℕ) (hits : Hits) : Type 0 where
  pub lefts_are : LeftsFound t row live sides x lefts
  pub ends_are : (n : ℕ) → bit sides n ≡ true → 32 ≤ kind_of t n → bit hits.ends n ≡ (first_part row live x n (a_of t n)).ends 7
  pub early_are : (n : ℕ) → bit sides n ≡ true → 32 ≤ kind_of t n → bit hits.early n ≡ (first_part row live x n (a_of t n)).early
  pub empty_are : (n : ℕ) → bit sides n ≡ true → 32 ≤ kind_of t n → bit hits.empty n ≡ (first_part row live x n (a_of t n)).empty

-- It sets bits only at the rows of the set that stand over a left side.
abbrev pub OverSides : List ℕ → ℕ → ℕ → Type 0
OverSides t sides word = (n : ℕ) → bit word n ≡ true → (bit sides n ≡ true) × (32 ≤ kind_of t n)

abbrev pub HitsOver : List ℕ → ℕ → Hits → Type 0
HitsOver t sides hits = OverSides t sides hits.ends × OverSides t sides hits.early × OverSides t sides hits.empty

-- A left side is entered where its row begins; a never as long as it is held.
pub record SidesEnter (t : List ℕ) (sides begin held : ℕ) (enter : ℕ → Bool) : Type 0 where
  pub begins : (n : ℕ) → bit sides n ≡ true → 40 ≤ kind_of t n → kind_of t n < 42 → enter n ≡ bit begin n
  pub runs : (n : ℕ) → bit sides n ≡ true → kind_of t n ≡ 42 → enter n ≡ bit held n

-- What the downward pass leaves at the rows of the set: the cells expected next. Elsewhere it sets nothing.
pub record SidesDown (row : ℕ → Row) (table : Table row) (live : ℕ → Bool → Bool) (sides x : ℕ) (enter : ℕ → Bool) (a b : ℕ) : Type 0 where
  pub next_is : LiveWords sides (whole_work row table live (sample x) enter).after a b
