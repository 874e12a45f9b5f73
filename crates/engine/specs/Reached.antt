-- The rows that a set of rows reaches, and the rows of a set that are of some kinds.
use Rattle.std.specs.Prelude.{ℕ, ◌%◌, ◌<◌, ◌≡◌, Bool, true, ◌&&◌, List, ◌⊎◌, leb}
use Rattle.psl.specs.Booleans.{bit}
use Rattle.table.specs.Subset.{Field, holds_at, value_at, kind_at}
use Rattle.table.proofs.Laws.Rows.{operand_test}
use Rattle.table.specs.declared.kinds.Holds.{Holds}
use Rattle.engine.specs.Reads.{a_of}

-- A field leads to row v: it names it, and the row is of kind `least` or more.
unfoldable pub follows : List ℕ → ℕ → Holds → ℕ → Bool
follows t least h v = operand_test h && leb least (kind_at t v)

abbrev pub Leads : List ℕ → ℕ → ℕ → Field → Type 0
Leads t least n f = follows t least (holds_at t n f) (value_at t n f) ≡ true

-- The rows with those that the fields of row n lead to, where n is one of them.
pub record Joined (t : List ℕ) (least rows n r : ℕ) : Type 0 where
  pub keeps : (k : ℕ) → bit rows k ≡ true → bit r k ≡ true
  pub leads : bit rows n ≡ true → (f : Field) → Leads t least n f → bit r (value_at t n f % 64) ≡ true
  pub source : (k : ℕ) → bit r k ≡ true → (bit rows k ≡ true) ⊎ ((bit rows n ≡ true) × (f : Field) × Leads t least n f × (k ≡ value_at t n f % 64))

-- Row k is in the set since a field of a larger row of the set leads to it.
pub record Comes (t : List ℕ) (least rows k : ℕ) : Type 0 where
  pub from : ℕ
  pub within : from < 64
  pub larger : k < from
  pub reached : bit rows from ≡ true
  pub field : Field
  pub leads : Leads t least from field
  pub value : value_at t from field ≡ k

-- The rows of a set and all that their fields lead to, and so on downwards: these, and no others.
pub record Spread (t : List ℕ) (least start r : ℕ) : Type 0 where
  pub starts : (k : ℕ) → bit start k ≡ true → bit r k ≡ true
  pub closed : (n : ℕ) → bit r n ≡ true → (f : Field) → Leads t least n f → bit r (value_at t n f) ≡ true
  pub source : (k : ℕ) → bit r k ≡ true → (bit start k ≡ true) ⊎ Comes t least r k

-- Row n is of kinds low to high, and its field a names a row of kind `left` or more.
unfoldable pub is_chosen : List ℕ → ℕ → ℕ → ℕ → ℕ → Bool
is_chosen t low high left n = (leb low (kind_at t n) && leb (kind_at t n) high) && leb left (kind_at t (a_of t n))
