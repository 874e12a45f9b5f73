-- A word of 64 bits as a set of numbers below 64: k is in it where bit k is set. What the functions of this crate answer, in these terms.
use Rattle.std.specs.Prelude.{◌≡◌, ℕ, ◌%◌, ◌<◌, ◌≤◌, Bool, true, false, not, ◌&&◌, ◌||◌, ◌==◌}
use Rattle.psl.specs.Booleans.{bit}

-- The word with one number more, where on.
pub record WithBit (word index : ℕ) (on : Bool) (r : ℕ) : Type 0 where
  pub each : (k : ℕ) → bit r k ≡ bit word k || (on && k == index % 64)

-- The word without a number.
pub record WithoutBit (word index r : ℕ) : Type 0 where
  pub each : (k : ℕ) → bit r k ≡ bit word k && not (k == index % 64)

-- The word has a number from n on.
abbrev pub HasFrom : ℕ → ℕ → Type 0
HasFrom word n = (k : ℕ) × (n ≤ k) × (bit word k ≡ true)

-- The lowest number in the word; 64 where there is none.
pub record Lowest (word n : ℕ) : Type 0 where
  pub none : word ≡ 0 → n ≡ 64
  pub small : 0 < word → n < 64
  pub set : 0 < word → bit word n ≡ true
  pub below : (k : ℕ) → k < n → bit word k ≡ false

-- The highest number in the word; 64 where there is none.
pub record Highest (word n : ℕ) : Type 0 where
  pub none : word ≡ 0 → n ≡ 64
  pub small : 0 < word → n < 64
  pub set : 0 < word → bit word n ≡ true
  pub above : (k : ℕ) → n < k → bit word k ≡ false

-- The word without its lowest number, `Without Lowest word r`, or its highest: of no numbers there is nothing to take.
pub record Without (End : ℕ → ℕ → Type 0) (word r : ℕ) : Type 0 where
  pub each : (n : ℕ) → End word n → (k : ℕ) → bit r k ≡ bit word k && not (k == n)
  pub less : 0 < word → r < word
