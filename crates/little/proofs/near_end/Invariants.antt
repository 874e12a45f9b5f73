use Rattle.std.proofs.Common.{◌≡◌, ℕ, ◌+◌, ◌<◌, length, get_or}
use Rattle.little.specs.Bytes.{byte_at}
use Rattle.little.proofs.near_end.Given as goal

abbrev pub invariant-loop-i : goal.invariant-loop-i
invariant-loop-i g l = record {
  size : length l.byte-items ≡ l.i-end;
  taken : (k : ℕ) → k < l.i → get_or l.byte-items k 0 ≡ byte_at l.bytes (l.at + k);
}
