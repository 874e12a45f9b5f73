-- How the code keeps the parts of weak sequences in bytes, and what each function answers in these terms.
use Rattle.std.specs.Prelude.{ℕ, ◌%◌, ◌≤◌, ◌<◌, ◌≡◌, Bool, true, false, List, get_or}
use Rattle.psl.specs.Booleans.{bit, sample}
use Rattle.lanes.specs.Rows.{Row, Sound}
use Rattle.lanes.specs.ShiftedLanes.{shifted}
use Rattle.lanes.specs.UpPass.{Part, then_part, fuse_part, alt_part, loop_part, operand}
use Rattle.lanes.specs.Ideal.{part_of}
use Rattle.engine.specs.declared.weak_parts.Part.{Part as PartBytes}
use Rattle.engine.specs.declared.weak_parts.Parts.{Parts}
use Rattle.engine.specs.Reads.{kind_of}
use Rattle.engine.specs.Sides.{one_if}
use Rattle.engine.specs.Weaks.{WeakOperand, WeakRow, WeakRows}

abbrev pub only_if : Bool → ℕ → ℕ
only_if = one_if

-- The six lanes of a part, k cells to the right.
pub record Shifted (act k r : ℕ) : Type 0 where
  pub each : (l : ℕ) → l < 6 → bit r l ≡ shifted (k % 8) (bit act) l
  pub high : (l : ℕ) → 6 ≤ l → bit r l ≡ false

-- What a part does on this letter, in a byte: bits 0 to 5 the lanes that end it, bit 6 entered now it ends now, bit 7 it can be empty.
pub record ActIs (p : Part) (act : ℕ) : Type 0 where
  pub lanes_are : (l : ℕ) → l < 6 → bit act l ≡ p.ends l
  pub early_is : bit act 6 ≡ p.early
  pub empty_is : bit act 7 ≡ p.empty

abbrev pub ThenAct : ℕ → ℕ → ℕ → ℕ → Type 0
ThenAct a b k r = (p q : Part) → ActIs p a → ActIs q b → k % 8 ≡ p.count → ActIs (then_part p q) r

abbrev pub FuseAct : ℕ → ℕ → ℕ → ℕ → Type 0
FuseAct a b k r = (p q : Part) → ActIs p a → ActIs q b → k % 8 ≡ p.count → ActIs (fuse_part p q) r

abbrev pub AltAct : ℕ → ℕ → ℕ → ℕ → Type 0
AltAct a b k r = (p q : Part) → ActIs p a → ActIs q b → k % 8 ≡ p.count → ActIs (alt_part p q) r

-- A part as the code keeps it: its act, and how many cells it has.
pub record PartIs (p : Part) (b : PartBytes) : Type 0 where
  pub act_is : ActIs p b.act
  pub count_is : b.count ≡ p.count
  pub count_low : b.count < 8

-- Two parts put together as the kind says, and a part repeated.
pub record PairIs (kind : ℕ) (p q : Part) (r : PartBytes) : Type 0 where
  pub then_is : kind ≡ 16 → PartIs (then_part p q) r
  pub fuse_is : kind ≡ 17 → PartIs (fuse_part p q) r
  pub alt_is : kind ≡ 18 → PartIs (alt_part p q) r

abbrev pub Pairs : ℕ → PartBytes → PartBytes → PartBytes → Type 0
Pairs kind a b r = (p q : Part) → PartIs p a → PartIs q b → PairIs kind p q r

pub record LoopIs (kind : ℕ) (p : Part) (r : PartBytes) : Type 0 where
  pub star_is : kind ≡ 19 → PartIs (loop_part true p) r
  pub plus_is : kind ≡ 20 → PartIs (loop_part false p) r

abbrev pub Loops : ℕ → PartBytes → PartBytes → Type 0
Loops kind a r = (p : Part) → PartIs p a → LoopIs kind p r

-- What is kept at row v.
abbrev pub part_at : Parts → ℕ → PartBytes
part_at k v = get_or k.of v (record { act = 0; count = 0 })

-- A part is put at row n, and the others stay.
pub record Put (old new : Parts) (n : ℕ) (r : PartBytes) : Type 0 where
  pub here : part_at new n ≡ r
  pub elsewhere : (v : ℕ) → (v ≡ n → ⊥) → part_at new v ≡ part_at old v

-- The part of an operand is kept at its row.
pub record Kept (p : Part) (k : Parts) (v : ℕ) : Type 0 where
  pub low : v < 64
  pub part : PartIs p (part_at k v)

abbrev pub part_in : (ℕ → Row) → (ℕ → Bool → Bool) → ℕ → ℕ → Bool → ℕ → Part
part_in row live x n f v = operand row live (sample x) (part_of row live (sample x)) n f v

abbrev pub OperandsKept : List ℕ → (ℕ → Row) → (ℕ → Bool → Bool) → ℕ → ℕ → ℕ → ℕ → Parts → ℕ → Type 0
OperandsKept t row live booleans weaks truth x k n = (f : Bool) (v : ℕ) → WeakOperand t row booleans weaks truth x n v → Kept (part_in row live x n f v) k v

-- The part of row n, where those of its operands are kept.
abbrev pub RowPartIs : List ℕ → ℕ → Parts → PartBytes → Type 0
RowPartIs t n k r = (row : ℕ → Row) (live : ℕ → Bool → Bool) (booleans weaks truth x : ℕ) → Sound row → WeakRow t row booleans weaks truth x n
    → kind_of t n < 32 → OperandsKept t row live booleans weaks truth x k n → PartIs (part_of row live (sample x) n) r

-- The part of a Boolean, by its truth.
abbrev pub CellKept : ℕ → Parts → ℕ → Type 0
CellKept truth k v = part_at k v ≡ record { act = only_if (bit truth v) 65; count = 1 }

abbrev pub CellsKept : ℕ → ℕ → Parts → Type 0
CellsKept booleans truth k = (v : ℕ) → bit booleans v ≡ true → CellKept truth k v

-- What the upward pass leaves: the parts of the Booleans, and of the sequence rows of the set.
pub record WeaksUp (t : List ℕ) (booleans weaks truth : ℕ) (k : Parts) : Type 0 where
  pub cells_are : (v : ℕ) → bit booleans v ≡ true → bit weaks v ≡ false → CellKept truth k v
  pub parts_are : (row : ℕ → Row) (live : ℕ → Bool → Bool) (x : ℕ) → Sound row → WeakRows t row booleans weaks truth x
      → (n : ℕ) → bit weaks n ≡ true → kind_of t n < 32 → PartIs (part_of row live (sample x) n) (part_at k n)
