-- The fields of a row, and which bytes hold the rows of a set.
use Rattle.std.specs.Prelude.{ℕ, ◌+◌, ◌*◌, ◌<◌, ◌≡◌, true, List, length}
use Rattle.psl.specs.Booleans.{bit}
use Rattle.table.specs.Rows.{row_at}

abbrev pub kind_of : List ℕ → ℕ → ℕ
kind_of t n = (row_at t n).kind

abbrev pub a_of : List ℕ → ℕ → ℕ
a_of t n = (row_at t n).a

abbrev pub b_of : List ℕ → ℕ → ℕ
b_of t n = (row_at t n).b

abbrev pub c_of : List ℕ → ℕ → ℕ
c_of t n = (row_at t n).c

-- The bytes hold row n; they hold each row of the set.
abbrev pub Held : List ℕ → ℕ → Type 0
Held t n = 19 + 4 * n < length t

abbrev pub Within : List ℕ → ℕ → Type 0
Within t rows = (n : ℕ) → bit rows n ≡ true → Held t n

-- The word has the rows below 64 that the bytes hold.
pub record HeldRows (t : List ℕ) (word : ℕ) : Type 0 where
  pub in_bytes : Within t word
  pub all : (n : ℕ) → n < 64 → Held t n → bit word n ≡ true
