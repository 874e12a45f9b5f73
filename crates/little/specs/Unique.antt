-- Any two answers that a contract of this crate allows are equal. An equation allows one; the bytes from a place on are as many as their type says.
use Rattle.std.specs.Prelude.{ℕ, ◌+◌, ◌<◌, ◌≡◌, List, length, get_or}
use Rattle.std.proofs.Common.{sym, ◌∙◌}
use Rattle.std.proofs.lemmas.List.{ext_get_or}
use Rattle.little.specs.Bytes.{byte_at}

-- `bytes_at`
pub bytes_one : (bytes : List ℕ) (at : ℕ) (x y : List ℕ) → length x ≡ length y
    → ((i : ℕ) → i < length x → get_or x i 0 ≡ byte_at bytes (at + i)) → ((i : ℕ) → i < length x → get_or y i 0 ≡ byte_at bytes (at + i)) → x ≡ y
bytes_one bytes at x y e p q = ext_get_or 0 x y e (λ i l. p i l ∙ sym (q i l))
