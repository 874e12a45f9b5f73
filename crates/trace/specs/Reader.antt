-- What a reader gives. It goes by the samples of its bytes, whatever bytes those are: as many as the header states, and a byte past the end reads as 0.
use Rattle.std.specs.Prelude.{ℕ, ◌+◌, List, [], ◌∷◌, drop, Option, Some, None}
use Rattle.trace.specs.Trace.{samples_of}
use Rattle.trace.specs.declared.reader.Reading.{Reading}
use Rattle.trace.specs.declared.reader.TraceReader.{TraceReader}

-- Of the samples that are left at a place, the first, and then the next place; at the end that is said, and the place stays.
abbrev pub reading_of : List ℕ → ℕ → Reading
reading_of [] at = record { next = None; at = at }
reading_of (sample ∷ rest) at = record { next = Some sample; at = at + 1 }

unfoldable pub reading_at : List ℕ → ℕ → Reading
reading_at bytes at = reading_of (drop at (samples_of bytes)) at

-- "A reader holds the lent trace and the place of the next sample": what it gives, and what it holds then.
abbrev pub gives : TraceReader → Option ℕ
gives reader = (reading_at reader.bytes.now reader.at).next

abbrev pub moved : TraceReader → TraceReader
moved reader = record { bytes = reader.bytes; at = (reading_at reader.bytes.now reader.at).at }
