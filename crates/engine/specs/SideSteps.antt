-- What one row of a left side or a never is found to do, and what it hands on: lane 7 of the passes in the numbers of the code. Nothing here has to be believed.
use Rattle.std.specs.Prelude.{ℕ, ◌%◌, ◌≤◌, ◌<◌, ◌≡◌, Bool, true, false, not, List, eqb, length, get_or, set}
use Rattle.std.specs.Int.Bits.{bit_and}
use Rattle.psl.specs.Booleans.{bit}
use Rattle.lanes.specs.UpPass.{Part, cell_part, then_part, fuse_part, alt_part, loop_part}
use Rattle.lanes.specs.Uses.{Use, then_use, fuse_use, alt_use, loop_use}
use Rattle.words.specs.Sets.{WithBit}
use Rattle.engine.specs.Reads.{kind_of, a_of, b_of}
use Rattle.engine.specs.Sides.{one_if, side_code, use_code}
use Rattle.engine.specs.declared.properties.Hits.{Hits}

-- A flag of a number is set.
abbrev pub has : ℕ → ℕ → Bool
has flag number = not (eqb (bit_and number flag) 0)

-- ---- up the rows

-- The parts of the Booleans.
pub record CellsFound (booleans truth : ℕ) (parts : List ℕ) : Type 0 where
  pub size : length parts ≡ 64
  pub each : (v : ℕ) → bit booleans v ≡ true → get_or parts v 0 ≡ one_if (bit truth v) 1

-- What is found where a part is used: at a cell an expected one that holds ends it; a part at which no cell is expected stays.
pub record Seen (part : ℕ) (holds live : Bool) (r : ℕ) : Type 0 where
  pub cell_is : part ≡ one_if holds 1 → r ≡ side_code (cell_part holds live)
  pub row_is : live ≡ false → r ≡ part

-- What row n finds in a field that names v.
abbrev pub SeenAt : List ℕ → ℕ → ℕ → ℕ → ℕ → ℕ → Type 0
SeenAt parts truth word n v r = Seen (get_or parts (v % 64) 0) (bit truth (v % 64)) (bit word (n % 64)) r

-- What the second operand of row n may be, by what is found of it.
abbrev pub SecondOf : List ℕ → ℕ → ℕ → List ℕ → ℕ → Part → Type 0
SecondOf t truth word parts n y = (b : ℕ) → SeenAt parts truth word n (b_of t n) b → b ≡ side_code y

-- The part of two operands, the first of number a and the second with the parts of Second.
pub record Pair (kind a : ℕ) (Second : Part → Type 0) (r : ℕ) : Type 0 where
  pub then_is : kind ≡ 16 → (x y : Part) → a ≡ side_code x → Second y → r ≡ side_code (then_part x y)
  pub fuse_is : kind ≡ 17 → (x y : Part) → a ≡ side_code x → Second y → r ≡ side_code (fuse_part x y)
  pub alt_is : kind ≡ 18 → (x y : Part) → a ≡ side_code x → Second y → r ≡ side_code (alt_part x y)

pub record Loop (kind a r : ℕ) : Type 0 where
  pub star_is : kind ≡ 19 → (x : Part) → a ≡ side_code x → r ≡ side_code (loop_part true x)
  pub plus_is : kind ≡ 20 → (x : Part) → a ≡ side_code x → r ≡ side_code (loop_part false x)

-- The part of row n, whose first operand has number a.
pub record PartOf (t : List ℕ) (truth word : ℕ) (parts : List ℕ) (n a r : ℕ) : Type 0 where
  pub pair : Pair (kind_of t n) a (SecondOf t truth word parts n) r
  pub loop : Loop (kind_of t n) a r

-- The left sides that end or can be empty, by the number a of the operand of row n.
pub record Hit (n a : ℕ) (hits hits' : Hits) : Type 0 where
  pub ends_on : WithBit hits.ends n (has 2 a) hits'.ends
  pub early_on : WithBit hits.early n (has 1 a) hits'.early
  pub empty_on : WithBit hits.empty n (has 4 a) hits'.empty

-- Row n is found: what its first operand does, then its own part or that its left side ends.
pub record Found (t : List ℕ) (truth word : ℕ) (parts parts' : List ℕ) (n a : ℕ) (hits hits' : Hits) : Type 0 where
  pub part_is : kind_of t n < 32 → (p : ℕ) × PartOf t truth word parts n a p × (parts' ≡ set parts (n % 64) p)
  pub hits_same : kind_of t n < 32 → hits' ≡ hits
  pub hit_is : 32 ≤ kind_of t n → Hit n a hits hits'
  pub parts_same : 32 ≤ kind_of t n → parts' ≡ parts

pub record Put (t : List ℕ) (truth word : ℕ) (parts parts' lefts lefts' : List ℕ) (n a : ℕ) (hits hits' : Hits) : Type 0 where
  pub found : Found t truth word parts parts' n a hits hits'
  pub lefts_is : lefts' ≡ set lefts (n % 64) a

pub record Upped (t : List ℕ) (truth live_a live_b : ℕ) (parts parts' lefts lefts' : List ℕ) (n : ℕ) (hits hits' : Hits) : Type 0 where
  pub first : ℕ
  pub seen : SeenAt parts truth live_a n (a_of t n) first
  pub put : Put t truth live_b parts parts' lefts lefts' n first hits hits'

-- ---- down the rows

-- What the second operand of row n is handed, where the first has number a and the row is used as `used` says.
pub record Right (kind a used r : ℕ) : Type 0 where
  pub then_is : kind ≡ 16 → (x : Part) (w : Use) → w.owner ≡ 64 → a ≡ side_code x → used ≡ use_code w → r ≡ use_code (then_use x w)
  pub fuse_is : kind ≡ 17 → (x : Part) (w : Use) → w.owner ≡ 64 → a ≡ side_code x → used ≡ use_code w → r ≡ use_code (fuse_use x w)
  pub alt_is : kind ≡ 18 → (x : Part) (w : Use) → w.owner ≡ 64 → a ≡ side_code x → used ≡ use_code w → r ≡ use_code (alt_use x w)

-- What the one operand is handed: a property row enters it where it begins, never as long as it is held.
pub record Only (n kind a used begin held r : ℕ) : Type 0 where
  pub loop_is : kind < 32 → (x : Part) (w : Use) → w.owner ≡ 64 → a ≡ side_code x → used ≡ use_code w → r ≡ use_code (loop_use x w)
  pub never_is : kind ≡ 42 → r ≡ one_if (bit held (n % 64)) 1
  pub left_is : 32 ≤ kind → (kind ≡ 42 → ⊥) → r ≡ one_if (bit begin (n % 64)) 1

-- The operand v of row n has got its use: a cell its bit of the word, a row its place in uses.
pub record Handed (n v used booleans word : ℕ) (uses : List ℕ) (word' : ℕ) (uses' : List ℕ) : Type 0 where
  pub cell_word : bit booleans (v % 64) ≡ true → WithBit word n (has 2 used) word'
  pub cell_uses : bit booleans (v % 64) ≡ true → uses' ≡ uses
  pub row_word : bit booleans (v % 64) ≡ false → word' ≡ word
  pub row_uses : bit booleans (v % 64) ≡ false → uses' ≡ set uses (v % 64) used

-- Both operands of row n have got theirs.
pub record HandedTwo (t : List ℕ) (n used on booleans a b : ℕ) (uses : List ℕ) (a' b' : ℕ) (uses' : List ℕ) : Type 0 where
  pub between : List ℕ
  pub first : Handed n (a_of t n) used booleans a uses a' between
  pub second : Handed n (b_of t n) on booleans b between b' uses'

pub record HandedOne (t : List ℕ) (n own booleans a b : ℕ) (uses : List ℕ) (a' b' : ℕ) (uses' : List ℕ) : Type 0 where
  pub first : Handed n (a_of t n) own booleans a uses a' uses'
  pub second : b' ≡ b

-- A row of two operands and of this kind has handed on: the first has number a, the row is used as `used` says.
abbrev pub PairDowned : List ℕ → ℕ → ℕ → ℕ → ℕ → ℕ → ℕ → ℕ → List ℕ → ℕ → ℕ → List ℕ → Type 0
PairDowned t kind n left used booleans a b uses a' b' uses' = (on : ℕ) × Right kind left used on × HandedTwo t n used on booleans a b uses a' b' uses'

-- Row n has handed on what it was handed.
pub record Downed (t : List ℕ) (n booleans begin held a b : ℕ) (lefts uses : List ℕ) (a' b' : ℕ) (uses' : List ℕ) : Type 0 where
  pub pair_is : kind_of t n ≤ 18 → PairDowned t (kind_of t n) n (get_or lefts (n % 64) 0) (get_or uses (n % 64) 0) booleans a b uses a' b' uses'
  pub only_is : 18 < kind_of t n → (own : ℕ) × Only n (kind_of t n) (get_or lefts (n % 64) 0) (get_or uses (n % 64) 0) begin held own × HandedOne t n own booleans a b uses a' b' uses'
