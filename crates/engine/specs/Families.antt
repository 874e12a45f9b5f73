-- The families of weak sequences, moved by one sample.
use Rattle.std.specs.Prelude.{ℕ, ◌+◌, ◌*◌, ◌≤◌, ◌<◌, ◌≡◌, Bool, true, List, get_or, length}
use Rattle.psl.specs.Booleans.{bit}
use Rattle.lanes.specs.Families.{moved_to}

-- What `tops` and `leads` say of the weak sequence w: the lanes that end it, the lanes that lead to each cell, and whether an attempt begins.
abbrev pub ends_in : List ℕ → ℕ → ℕ → Bool
ends_in tops w l = bit (get_or tops w 0) l

abbrev pub leads_in : List ℕ → ℕ → ℕ → ℕ → Bool
leads_in leads w l q = bit (get_or leads (8 * w + q) 0) l

-- The first `count` families are moved, set by set; the others stay; `all` has each set that is left in some family.
pub record Moved (count : ℕ) (tops leads old new : List ℕ) (all : ℕ) : Type 0 where
  pub each : (w : ℕ) → w < count → (s : ℕ) → s < 64
      → bit (get_or new w 0) s ≡ moved_to (ends_in tops w) (leads_in leads w) (bit (get_or tops w 0) 7) (bit (get_or old w 0)) s
  pub others : (w : ℕ) → count ≤ w → get_or new w 0 ≡ get_or old w 0
  pub all_has : (w : ℕ) → w < count → (s : ℕ) → bit (get_or new w 0) s ≡ true → bit all s ≡ true
  pub all_only : (s : ℕ) → bit all s ≡ true → (w : ℕ) × (w < count) × (bit (get_or new w 0) s ≡ true)
  pub size : length new ≡ length old
