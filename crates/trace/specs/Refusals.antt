-- The check of a trace file: "15, 13 (lowest cycle)".
use Rattle.std.specs.Prelude.{ℕ, zero, suc, ◌+◌, ◌*◌, ◌^◌, Bool, ◌&&◌, cond, List, eqb, leb, length, Result, Ok, Err}
use Rattle.little.specs.Bytes.{u16_at, u32_at}
use Rattle.table.specs.Reply.{Reply, refused, granted}
use Rattle.table.specs.declared.Refusal.{Refusal}
use Rattle.trace.specs.Trace.{cycles_most, cycles_of, sample_at}
use Rattle.trace.specs.declared.header.Header.{Header}

abbrev pub refuse : ℕ → ℕ → Result ℕ Refusal
refuse number place = Err (record { number = number; place = place })

-- "Header of 12 bytes: version u16 ..; signals u16 ..; cycles C u32 ..; offset of samples u32"
unfoldable pub header_of : List ℕ → Header
header_of bytes = record { version = u16_at bytes 0; signals = u16_at bytes 2; cycles = cycles_of bytes; offset = u32_at bytes 8 }

-- The header of a right trace of S signals and so many bytes: the clauses of `RightTrace`, as a test.
unfoldable pub header_right : Header → ℕ → ℕ → Bool
header_right header S bytes =
    eqb header.version 1 && eqb header.signals S && leb header.cycles cycles_most && eqb header.offset 12
    && eqb bytes (12 + 4 * header.cycles)

-- "a sample sets a bit S or above": it is 2 ^ S or more
unfoldable pub undeclared : ℕ → ℕ → Bool
undeclared S sample = leb (2 ^ S) sample

-- The n cycles from cycle i on, counted from 0, and "A cycle given as a place counts from 1".
unfoldable pub declared_from : ℕ → List ℕ → ℕ → ℕ → ℕ → Result ℕ Refusal
declared_from S bytes cycles zero i = Ok cycles
declared_from S bytes cycles (suc n) i = cond (undeclared S (sample_at bytes i)) (refuse 13 (i + 1)) (declared_from S bytes cycles n (suc i))

-- 13 at the lowest cycle that sets such a bit
unfoldable pub declared_of : ℕ → List ℕ → ℕ → Result ℕ Refusal
declared_of S bytes cycles = declared_from S bytes cycles cycles 0

-- 15, then 13
unfoldable pub checked_trace : ℕ → List ℕ → Result ℕ Refusal
checked_trace S bytes = cond (header_right (header_of bytes) S (length bytes)) (declared_of S bytes (cycles_of bytes)) (refuse 15 0)

-- Document 01's number and values for each case of the answer: the cycles of a right trace, a refusal's number and place.
abbrev pub trace_reply : Result ℕ Refusal → Reply ℕ
trace_reply (Ok cycles) = granted cycles
trace_reply (Err r) = refused r.number r.place

-- What document 01 answers to these bytes as a trace of S signals.
abbrev pub file_reply : ℕ → List ℕ → Reply ℕ
file_reply S bytes = trace_reply (checked_trace S bytes)
