-- A reading by the place: before the last sample, and after it.
use Rattle.std.specs.Prelude.{ℕ, ◌+◌, ◌≤◌, ◌<◌, List, ◌≡◌, Some, None}
use Rattle.std.proofs.Common.{sym, ◌∙◌, ap}
use Rattle.trace.specs.Trace.{cycles_of, sample_at}
use Rattle.trace.specs.Reader.{reading_of, reading_at}
use Rattle.trace.specs.Samples.{left_more, left_none}
use Rattle.trace.specs.declared.reader.Reading.{Reading}

pub reading_more : (bytes : List ℕ) (at x : ℕ) → at < cycles_of bytes → x ≡ sample_at bytes at → ◌≡◌ {A = Reading} (record { next = Some x; at = at + 1 }) (reading_at bytes at)
unfolding reading_at
reading_more bytes at x l e = (λ i. record { next = Some (e i); at = at + 1 }) ∙ sym (ap (λ (left : List ℕ). reading_of left at) (left_more bytes at l))

pub reading_none : (bytes : List ℕ) (at : ℕ) → cycles_of bytes ≤ at → ◌≡◌ {A = Reading} (record { next = None; at = at }) (reading_at bytes at)
unfolding reading_at
reading_none bytes at l = sym (ap (λ (left : List ℕ). reading_of left at) (left_none bytes at l))
