-- What the downward pass over weak sequences keeps, and what a turn of it changes.
use Rattle.std.specs.Prelude.{ℕ, ◌+◌, ◌%◌, ◌≡◌, true, false, get_or}
use Rattle.std.specs.Int.Bits.{bit_or}
use Rattle.psl.specs.Booleans.{bit}
use Rattle.engine.specs.declared.weak_uses.Use.{Use as UseBytes}
use Rattle.engine.specs.declared.weak_uses.Uses.{Uses}

-- What is kept at row n.
abbrev pub use_at : Uses → ℕ → UseBytes
use_at k n = get_or k.of n (record { place = 0; into = 0; go = 0 })

-- The lanes that enter a cell next lead to it.
pub record Led (b : UseBytes) (old new : Uses) : Type 0 where
  pub here : get_or new.leads b.place 0 ≡ bit_or (get_or old.leads b.place 0) b.go
  pub elsewhere : (i : ℕ) → (i ≡ b.place → ⊥) → get_or new.leads i 0 ≡ get_or old.leads i 0
  pub uses_stay : new.of ≡ old.of

-- Row v keeps its use.
pub record UsePut (v : ℕ) (b : UseBytes) (old new : Uses) : Type 0 where
  pub here : use_at new v ≡ b
  pub elsewhere : (u : ℕ) → (u ≡ v → ⊥) → use_at new u ≡ use_at old u
  pub leads_stay : new.leads ≡ old.leads

-- A use is handed to operand v: the lanes that enter a Boolean next lead to it; a row keeps its use.
pub record Handed (booleans v : ℕ) (b : UseBytes) (old new : Uses) : Type 0 where
  pub to_cell : bit booleans (v % 64) ≡ true → Led b old new
  pub to_row : bit booleans (v % 64) ≡ false → UsePut (v % 64) b old new
  pub tops_stay : new.tops ≡ old.tops
  pub met_stays : new.met ≡ old.met

-- A weak sequence is met: its number, under which its top is kept.
pub record Met (top w : ℕ) (old new : Uses) : Type 0 where
  pub number_is : w ≡ old.met % 32
  pub here : get_or new.tops w 0 ≡ top
  pub elsewhere : (i : ℕ) → (i ≡ w → ⊥) → get_or new.tops i 0 ≡ get_or old.tops i 0
  pub met_is : new.met ≡ w + 1
  pub uses_stay : new.of ≡ old.of
  pub leads_stay : new.leads ≡ old.leads

-- Nothing handed yet: no lane leads anywhere, and no weak sequence was met.
pub record Blank (k : Uses) : Type 0 where
  pub leads_none : (i : ℕ) → get_or k.leads i 0 ≡ 0
  pub met_none : k.met ≡ 0
