-- The Boolean rows of a property, and their truth on a sample in one word.
use Rattle.std.specs.Prelude.{ℕ, ◌%◌, ◌<◌, ◌≡◌, Bool, true, false, not, ◌&&◌, ◌||◌, List, eqb, ltb}
use Rattle.psl.specs.Booleans.{Boolean, constant, signal, negation, conjunction, disjunction, bit, holds}
use Rattle.table.specs.Choice.{pick}
use Rattle.engine.specs.Reads.{kind_of, a_of, b_of}

-- Row n reads as the Boolean `value n`; its operands are smaller rows of the set.
pub data BooleanRow (t : List ℕ) (booleans : ℕ) (value : ℕ → Boolean) (n : ℕ) : Type 0 where
  reads_true : kind_of t n ≡ 1 → value n ≡ constant true → BooleanRow t booleans value n
  reads_false : kind_of t n ≡ 2 → value n ≡ constant false → BooleanRow t booleans value n
  reads_signal : kind_of t n ≡ 3 → a_of t n < 64 → value n ≡ signal (a_of t n) → BooleanRow t booleans value n
  reads_not : kind_of t n ≡ 4 → a_of t n < n → bit booleans (a_of t n) ≡ true → value n ≡ negation (value (a_of t n)) → BooleanRow t booleans value n
  reads_and : kind_of t n ≡ 5 → a_of t n < n → bit booleans (a_of t n) ≡ true → b_of t n < n → bit booleans (b_of t n) ≡ true
      → value n ≡ conjunction (value (a_of t n)) (value (b_of t n)) → BooleanRow t booleans value n
  reads_or : kind_of t n ≡ 6 → a_of t n < n → bit booleans (a_of t n) ≡ true → b_of t n < n → bit booleans (b_of t n) ≡ true
      → value n ≡ disjunction (value (a_of t n)) (value (b_of t n)) → BooleanRow t booleans value n

abbrev pub BooleanRows : List ℕ → ℕ → (ℕ → Boolean) → Type 0
BooleanRows t booleans value = (n : ℕ) → bit booleans n ≡ true → BooleanRow t booleans value n

-- The word has the truth of each row of the set, and nothing else.
pub record Truth (booleans : ℕ) (value : ℕ → Boolean) (sample truth : ℕ) : Type 0 where
  pub inside : (n : ℕ) → bit booleans n ≡ true → bit truth n ≡ holds (value n) sample

abbrev pub OnlyIn : ℕ → ℕ → Type 0
OnlyIn set word = (n : ℕ) → bit set n ≡ false → bit word n ≡ false

-- Row n on a sample, by its kind and the truth of smaller rows; the numbers of rows and of signals count modulo 64, as in a word.
unfoldable pub compound_at : List ℕ → ℕ → ℕ → ℕ → Bool
compound_at t n kind truth =
    pick (eqb kind 4) (not (bit truth (a_of t n % 64)))
    (pick (eqb kind 5) (bit truth (a_of t n % 64) && bit truth (b_of t n % 64)) (bit truth (a_of t n % 64) || bit truth (b_of t n % 64)))

unfoldable pub holds_at : List ℕ → ℕ → ℕ → ℕ → Bool
holds_at t n truth sample =
    pick (eqb (kind_of t n) 3) (bit sample (a_of t n % 64)) (pick (ltb (kind_of t n) 3) (eqb (kind_of t n) 1) (compound_at t n (kind_of t n) truth))
