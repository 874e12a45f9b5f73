-- What each function of the family step leaves: a family is a word whose bit s is the set s of cells 0 to 5, and `sets` has in byte l the cells that lane l leads to.
use Rattle.std.specs.Prelude.{ℕ, ◌+◌, ◌*◌, ◌/◌, ◌%◌, ◌^◌, ◌<◌, ◌≡◌, Bool, true, not, ◌&&◌, ◌||◌, List, [], ◌∷◌, eqb, get_or, length}
use Rattle.std.specs.Int.Bits.{bit_or}
use Rattle.psl.specs.Booleans.{bit}
use Rattle.psl.specs.Tells.{any}
use Rattle.lanes.specs.Families.{word, moved_to}
use Rattle.engine.specs.Families.{ends_in, leads_in}

-- The sets of a family that hold none of the cells of ends below n.
abbrev pub Lacks : ℕ → ℕ → ℕ → ℕ → Type 0
Lacks family ends n r = (s : ℕ) → s < 64 → bit r s ≡ bit family s && not (any n (λ l. bit s l && bit ends l))

-- The sets of a family that hold no cell of ends.
pub record Without (family ends r : ℕ) : Type 0 where
  pub each : Lacks family ends 6 r

-- Bit l of the lanes (seven of them) as the lowest bit of byte l, and nothing else.
pub record Spread (lanes r : ℕ) : Type 0 where
  pub each : (n : ℕ) → n < 64 → bit r n ≡ eqb (n % 8) 0 && bit (lanes % 128) (n / 8)

-- Bit l of the lanes as bit q of byte l, and nothing else.
pub record Led (lanes q r : ℕ) : Type 0 where
  pub each : (l k : ℕ) → l < 7 → k < 8 → bit r (8 * l + k) ≡ bit lanes l && eqb k q

-- The set in byte l.
abbrev pub set_of : ℕ → ℕ → ℕ
set_of sets l = sets / 2 ^ (8 * l) % 64

-- The set in byte l has the cells that lane l leads to.
pub record Leads (R : ℕ → ℕ → Bool) (sets : ℕ) : Type 0 where
  pub each : (l : ℕ) → l < 7 → set_of sets l ≡ word 6 (R l)

-- Where the eight sets of three cells lead that lead to x, y, z.
abbrev pub threes : ℕ → ℕ → ℕ → List ℕ
threes x y z = 0 ∷ x ∷ y ∷ bit_or y x ∷ z ∷ bit_or z x ∷ bit_or z y ∷ bit_or z (bit_or y x) ∷ []

-- Where the set p leads, by a table of its cells 0 to 2 and one of its cells 3 to 5.
unfoldable pub image_of : List ℕ → List ℕ → ℕ → ℕ
image_of low high p = bit_or (get_or high (p / 8 % 8) 0) (get_or low (p % 8) 0)

unfoldable pub image_by : ℕ → ℕ → ℕ
image_by sets = image_of (threes (set_of sets 0) (set_of sets 1) (set_of sets 2)) (threes (set_of sets 3) (set_of sets 4) (set_of sets 5))

-- Each set of a family moved.
pub record Walked (to : ℕ → ℕ) (family r : ℕ) : Type 0 where
  pub has : (p : ℕ) → bit family p ≡ true → bit r (to p % 64) ≡ true
  pub only : (s : ℕ) → bit r s ≡ true → (p : ℕ) × (bit family p ≡ true) × (s ≡ to p % 64)

-- A family after a letter, set by set.
pub record Stepped (old sets top r : ℕ) : Type 0 where
  pub each : (R : ℕ → ℕ → Bool) → Leads R sets → (s : ℕ) → s < 64 → bit r s ≡ moved_to (bit top) R (bit top 7) (bit old) s

-- The family w is moved, the others stay, and its sets are added to all.
pub record OneMoved (w all : ℕ) (tops leads old new : List ℕ) (r : ℕ) : Type 0 where
  pub each : (s : ℕ) → s < 64 → bit (get_or new w 0) s ≡ moved_to (ends_in tops w) (leads_in leads w) (bit (get_or tops w 0) 7) (bit (get_or old w 0)) s
  pub others : (v : ℕ) → (v ≡ w → ⊥) → get_or new v 0 ≡ get_or old v 0
  pub all_is : (s : ℕ) → bit r s ≡ bit all s || bit (get_or new w 0) s
  pub size : length new ≡ length old
