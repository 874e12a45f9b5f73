-- What is left of the weak sequences of a property after a sample: nothing to do where there are none; else their lanes, and the families moved by them.
use Rattle.std.specs.Prelude.{ℕ, ◌≡◌, Bool, true, List}
use Rattle.psl.specs.Booleans.{bit}
use Rattle.lanes.specs.Rows.{Row}
use Rattle.lanes.specs.Expected.{Table}
use Rattle.engine.specs.declared.weak_parts.Parts.{Parts}
use Rattle.engine.specs.Reads.{kind_of}
use Rattle.engine.specs.Weaks.{weaks_above, weak_number, WeakLanes}
use Rattle.engine.specs.WeakParts.{WeaksUp}
use Rattle.engine.specs.WeakPass.{WeakPass}
use Rattle.engine.specs.Families.{Moved}

pub record WeaksMoved (t : List ℕ) (row : ℕ → Row) (rows : Table row) (weaks x : ℕ) (live : ℕ → Bool → Bool) (enter : ℕ → Bool) (old new : List ℕ) (all : ℕ) : Type 0 where
  pub tops : List ℕ
  pub leads : List ℕ
  pub count : ℕ
  pub count_is : count ≡ weaks_above t weaks 64
  pub lanes : (n : ℕ) → bit weaks n ≡ true → kind_of t n ≡ 32 → WeakLanes t row rows live x enter n (weak_number t weaks n) tops leads
  pub moved : Moved count tops leads old new all

pub data WeaksLeft (t : List ℕ) (row : ℕ → Row) (rows : Table row) (weaks x : ℕ) (live : ℕ → Bool → Bool) (enter : ℕ → Bool) (old : List ℕ) : List ℕ → ℕ → Type 0 where
  no_weaks : weaks ≡ 0 → WeaksLeft t row rows weaks x live enter old old 0
  weaks_moved : {new : List ℕ} {all : ℕ} → WeaksMoved t row rows weaks x live enter old new all → WeaksLeft t row rows weaks x live enter old new all

-- What has to be known of the property, beside the parts that the upward pass finds.
abbrev pub WeaksTold : List ℕ → (ℕ → Row) → ℕ → ℕ → ℕ → ℕ → ℕ → (ℕ → Bool) → Type 0
WeaksTold t row booleans weaks truth begin x enter = (parts : Parts) → WeaksUp t booleans weaks truth parts → WeakPass t row booleans weaks truth begin x enter parts
