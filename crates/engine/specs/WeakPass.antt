-- The downward pass over weak sequences: what it is told, what has been handed so far, and what it leaves.
use Rattle.std.specs.Prelude.{ℕ, suc, ◌+◌, ◌-◌, ◌*◌, ◌≤◌, ◌<◌, ◌≡◌, Bool, true, ◌&&◌, List, eqb, get_or}
use Rattle.psl.specs.Booleans.{Boolean, bit, sample}
use Rattle.lanes.specs.Rows.{Row, r_bool, Has, IsSequence}
use Rattle.lanes.specs.Expected.{Table}
use Rattle.lanes.specs.Uses.{Use}
use Rattle.lanes.specs.DownPass.{Work}
use Rattle.lanes.specs.Ideal.{given, whole_work}
use Rattle.engine.specs.declared.weak_parts.Parts.{Parts}
use Rattle.engine.specs.declared.weak_uses.Uses.{Uses}
use Rattle.engine.specs.Reads.{kind_of, a_of}
use Rattle.engine.specs.Weaks.{WeakRows, first_part, weaks_above, weak_number, WeakLanes}
use Rattle.engine.specs.WeakParts.{WeaksUp}
use Rattle.engine.specs.WeakUses.{UseIs, TopIs}
use Rattle.engine.specs.WeakHanded.{use_at, Blank}

-- Row n is a weak row of the set.
abbrev pub is_weak : List ℕ → ℕ → ℕ → Bool
is_weak t weaks n = bit weaks n && eqb (kind_of t n) 32

-- What the downward pass is told: the rows of the set, with the users of its sequence rows; where attempts begin; fewer than 33 weak rows; and what the
-- upward pass has left.
pub record WeakPass (t : List ℕ) (row : ℕ → Row) (booleans weaks truth begin x : ℕ) (enter : ℕ → Bool) (parts : Parts) : Type 0 where
  pub rows : WeakRows t row booleans weaks truth x
  pub users : (n : ℕ) (f : Bool) (v : ℕ) → Has (row n) f v → bit weaks v ≡ true → kind_of t v < 32 → bit weaks n ≡ true
  pub enters : (n : ℕ) → bit weaks n ≡ true → kind_of t n ≡ 32 → enter n ≡ bit begin n
  pub few : (n : ℕ) → bit weaks n ≡ true → kind_of t n ≡ 32 → weak_number t weaks n < 32
  pub parts_up : WeaksUp t booleans weaks truth parts

module _ (t : List ℕ) (row : ℕ → Row) (table : Table row) (weaks x : ℕ) (live : ℕ → Bool → Bool) (enter : ℕ → Bool) where
  abbrev pub finished : Work
  finished = whole_work row table live (sample x) enter

  -- what row n hands to its field f
  abbrev pub handed_to : ℕ → Bool → Use
  handed_to n f = given row table live (sample x) enter finished n f

  -- the place of the cell in field f of row n
  abbrev pub cell_place : ℕ → Bool → ℕ
  cell_place n f = 8 * weak_number t weaks (handed_to n f).owner + (handed_to n f).base

  -- The fields that are Seen have been handed their uses; no lane leads elsewhere.
  pub record WeakWork (Seen : ℕ → Bool → Type 0) (k : Uses) : Type 0 where
    pub uses_are : (n : ℕ) (f : Bool) (v : ℕ) → Seen n f → Has (row n) f v → IsSequence (row v)
        → UseIs (is_weak t weaks) (weak_number t weaks) (finished.uses v) (use_at k v)
    pub cells_in : (n : ℕ) (f : Bool) (v : ℕ) (b : Boolean) → Seen n f → Has (row n) f v → row v ≡ r_bool b → (l : ℕ) → l < 7
        → (handed_to n f).go l ≡ true → bit (get_or k.leads (cell_place n f) 0) l ≡ true
    pub cells_right : (o q l : ℕ) → is_weak t weaks o ≡ true → q < 8 → l < 7 → bit (get_or k.leads (8 * weak_number t weaks o + q) 0) l ≡ true → finished.rel o l q ≡ true

  -- The rows of the set from `top` on.
  abbrev pub SeenFrom : ℕ → ℕ → Bool → Type 0
  SeenFrom top n f = (top ≤ n) × (bit weaks n ≡ true)

  -- They are done, and the weak rows among them were met.
  pub record WeakDown (top : ℕ) (k : Uses) : Type 0 where
    pub work : WeakWork (SeenFrom top) k
    pub tops_are : (n : ℕ) → top ≤ n → is_weak t weaks n ≡ true → TopIs (first_part row live x n (a_of t n)) n (enter n) (get_or k.tops (weak_number t weaks n) 0)
    pub met : k.met ≡ weaks_above t weaks (64 - top)

-- A row is done.
abbrev pub RowDone : List ℕ → ℕ → ℕ → ℕ → Parts → Uses → Uses → Type 0
RowDone t n booleans begin parts old new = (row : ℕ → Row) (table : Table row) (weaks truth x : ℕ) (live : ℕ → Bool → Bool) (enter : ℕ → Bool)
    → WeakPass t row booleans weaks truth begin x enter parts → bit weaks n ≡ true
    → WeakDown t row table weaks x live enter (suc n) old → WeakDown t row table weaks x live enter n new

-- What the downward pass leaves, where nothing was handed before.
abbrev pub WeaksDown : List ℕ → ℕ → ℕ → ℕ → Parts → Uses → Uses → Type 0
WeaksDown t booleans weaks begin parts old new = (row : ℕ → Row) (table : Table row) (truth x : ℕ) (live : ℕ → Bool → Bool) (enter : ℕ → Bool)
    → WeakPass t row booleans weaks truth begin x enter parts → Blank old
    → (new.met ≡ weaks_above t weaks 64) × ((n : ℕ) → bit weaks n ≡ true → kind_of t n ≡ 32 → WeakLanes t row table live x enter n (weak_number t weaks n) new.tops new.leads)
