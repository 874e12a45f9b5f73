-- How the code keeps the uses of the rows of weak sequences in bytes, and what each function answers in these terms.
use Rattle.std.specs.Prelude.{ℕ, ◌+◌, ◌*◌, ◌≤◌, ◌<◌, ◌≡◌, Bool, true}
use Rattle.psl.specs.Booleans.{bit}
use Rattle.lanes.specs.UpPass.{Part}
use Rattle.lanes.specs.Uses.{Use, ended_lanes, then_use, fuse_use, alt_use, loop_use}
use Rattle.lanes.specs.DownPass.{weak_use}
use Rattle.engine.specs.declared.weak_parts.Part.{Part as PartBytes}
use Rattle.engine.specs.declared.weak_uses.Use.{Use as UseBytes}
use Rattle.engine.specs.WeakParts.{ActIs, PartIs}

-- How a part is used, in three bytes: the place of its first cell, 8 times the number of its weak sequence and the lane; the lanes that enter it now,
-- and those that enter it next.
pub record UseIs (owns : ℕ → Bool) (number : ℕ → ℕ) (u : Use) (b : UseBytes) : Type 0 where
  pub owner_is : owns u.owner ≡ true
  pub owner_low : u.owner < 64
  pub number_low : number u.owner < 32
  pub base_low : u.base < 8
  pub place_is : b.place ≡ 8 * number u.owner + u.base
  pub into_are : (l : ℕ) → l < 7 → bit b.into l ≡ u.into l
  pub go_are : (l : ℕ) → l < 7 → bit b.go l ≡ u.go l

-- The lanes that end a part now.
abbrev pub Ends : ℕ → UseBytes → ℕ → Type 0
Ends act b r = (owns : ℕ → Bool) (number : ℕ → ℕ) (p : Part) (u : Use) → ActIs p act → UseIs owns number u b → (l : ℕ) → l < 7 → bit r l ≡ ended_lanes p u l

-- What the second operand of `a ; b`, `a : b`, `a | b` is handed.
abbrev pub ThenUse : PartBytes → UseBytes → UseBytes → Type 0
ThenUse a b r = (owns : ℕ → Bool) (number : ℕ → ℕ) (p : Part) (u : Use) → PartIs p a → UseIs owns number u b → u.base + p.count < 8 → UseIs owns number (then_use p u) r

abbrev pub FuseUse : PartBytes → UseBytes → UseBytes → Type 0
FuseUse a b r = (owns : ℕ → Bool) (number : ℕ → ℕ) (p : Part) (u : Use) → PartIs p a → UseIs owns number u b → u.base + p.count < 8 → UseIs owns number (fuse_use p u) r

pub record RightIs (owns : ℕ → Bool) (number : ℕ → ℕ) (kind : ℕ) (p : Part) (u : Use) (r : UseBytes) : Type 0 where
  pub then_is : kind ≡ 16 → UseIs owns number (then_use p u) r
  pub fuse_is : kind ≡ 17 → UseIs owns number (fuse_use p u) r
  pub alt_is : kind ≡ 18 → UseIs owns number (alt_use p u) r

abbrev pub RightUse : ℕ → PartBytes → UseBytes → UseBytes → Type 0
RightUse kind a b r = (owns : ℕ → Bool) (number : ℕ → ℕ) (p : Part) (u : Use) → PartIs p a → UseIs owns number u b → u.base + p.count < 8 → RightIs owns number kind p u r

-- What the first operand is handed: that of a pair the row's own use.
pub record LeftIs (owns : ℕ → Bool) (number : ℕ → ℕ) (kind : ℕ) (p : Part) (u : Use) (r : UseBytes) : Type 0 where
  pub pair_is : kind ≤ 18 → UseIs owns number u r
  pub loop_is : 18 < kind → UseIs owns number (loop_use p u) r

abbrev pub LeftUse : ℕ → PartBytes → UseBytes → UseBytes → Type 0
LeftUse kind a b r = (owns : ℕ → Bool) (number : ℕ → ℕ) (p : Part) (u : Use) → PartIs p a → UseIs owns number u b → LeftIs owns number kind p u r

-- The use of a whole weak sequence, and the lanes that end it, with whether an attempt begins.
abbrev pub WholeUse : ℕ → Bool → UseBytes → Type 0
WholeUse w begin r = (owns : ℕ → Bool) (number : ℕ → ℕ) (n : ℕ) → owns n ≡ true → n < 64 → number n ≡ w → w < 32 → UseIs owns number (weak_use n begin) r

pub record TopIs (p : Part) (n : ℕ) (begin : Bool) (r : ℕ) : Type 0 where
  pub ends_are : (l : ℕ) → l < 7 → bit r l ≡ ended_lanes p (weak_use n begin) l
  pub begins_is : bit r 7 ≡ begin

abbrev pub Tops : ℕ → Bool → ℕ → Type 0
Tops act begin r = (p : Part) (n : ℕ) → ActIs p act → n < 64 → TopIs p n begin r
