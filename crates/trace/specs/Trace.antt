-- Trace bytes: "Header of 12 bytes: version u16 = 1; signals u16, equal to S; cycles C u32, 0 to 16,381; offset of samples u32 = 12. Then C samples of
-- u32, signal k at bit k. Length is exactly 12 + 4C".
use Rattle.std.specs.Prelude.{ℕ, zero, suc, ◌+◌, ◌*◌, ◌≤◌, List, [], ◌∷◌, ◌≡◌, length}
use Rattle.little.specs.Bytes.{u16_at, u32_at}

-- "cycles C u32, 0 to 16,381": the most, `Header::CYCLES`
abbrev pub cycles_most : ℕ
cycles_most = 16381

-- "cycles C u32"
unfoldable pub cycles_of : List ℕ → ℕ
cycles_of bytes = u32_at bytes 4

-- "Then C samples of u32": that of cycle i, counted from 0
unfoldable pub sample_at : List ℕ → ℕ → ℕ
sample_at bytes i = u32_at bytes (12 + 4 * i)

-- n samples from cycle i on
unfoldable pub samples_from : List ℕ → ℕ → ℕ → List ℕ
samples_from bytes zero i = []
samples_from bytes (suc n) i = sample_at bytes i ∷ samples_from bytes n (suc i)

-- the samples of a trace
unfoldable pub samples_of : List ℕ → List ℕ
samples_of bytes = samples_from bytes (cycles_of bytes) 0

-- A right trace file for a table of S signals.
pub record RightTrace (S : ℕ) (bytes : List ℕ) : Type 0 where
  -- "version u16 = 1"
  pub version : u16_at bytes 0 ≡ 1
  -- "signals u16, equal to S"
  pub signals : u16_at bytes 2 ≡ S
  -- "cycles C u32, 0 to 16,381"
  pub cycles : cycles_of bytes ≤ cycles_most
  -- "offset of samples u32 = 12"
  pub offset : u32_at bytes 8 ≡ 12
  -- "Length is exactly 12 + 4C"
  pub whole : length bytes ≡ 12 + 4 * cycles_of bytes
