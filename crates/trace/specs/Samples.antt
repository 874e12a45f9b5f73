-- Laws of the samples of a trace: how many they are, which stands where, what was read at a place and what is left.
use Rattle.std.specs.Prelude.{ℕ, zero, suc, ◌+◌, ◌≤◌, ◌<◌, List, [], ◌∷◌, ◌++◌, ◌≡◌, refl, length, take, drop, get_or}
use Rattle.std.proofs.Common.{le_of_eq, add-zero, add-suc, suc-add, add-one, arith, sym, ◌∙◌, ap, ap₂, subst, drop_of_length-le, take_all, take-suc, drop-cons}
use Rattle.trace.specs.Trace.{cycles_of, sample_at, samples_from, samples_of}

length_from : (bytes : List ℕ) (n i : ℕ) → length (samples_from bytes n i) ≡ n
unfolding samples_from
length_from bytes zero i = refl
length_from bytes (suc n) i = ap suc (length_from bytes n (suc i))

sample_from : (bytes : List ℕ) (n i k : ℕ) → k < n → get_or (samples_from bytes n i) k 0 ≡ sample_at bytes (i + k)
unfolding samples_from
sample_from bytes zero i k l = absurd (omega arith)
sample_from bytes (suc n) i zero l = ap (sample_at bytes) (sym (add-zero i))
sample_from bytes (suc n) i (suc k) l = sample_from bytes n (suc i) k (omega arith) ∙ ap (sample_at bytes) (suc-add i k ∙ sym (add-suc i k))

-- a trace has as many samples as cycles
pub length_samples : (bytes : List ℕ) → length (samples_of bytes) ≡ cycles_of bytes
unfolding samples_of
length_samples bytes = length_from bytes (cycles_of bytes) 0

pub sample_of : (bytes : List ℕ) (k : ℕ) → k < cycles_of bytes → get_or (samples_of bytes) k 0 ≡ sample_at bytes k
unfolding samples_of
sample_of bytes k l = sample_from bytes (cycles_of bytes) 0 k l ∙ ap (sample_at bytes) (omega arith)

within : (bytes : List ℕ) (k : ℕ) → k < cycles_of bytes → k < length (samples_of bytes)
within bytes k l = subst (λ (n : ℕ). k < n) (sym (length_samples bytes)) l

-- the samples read at place k: one more at the next, and all of them at the end
pub read_more : (bytes : List ℕ) (k : ℕ) → k < cycles_of bytes → take (k + 1) (samples_of bytes) ≡ take k (samples_of bytes) ++ (sample_at bytes k ∷ [])
read_more bytes k l =
    ap (λ (n : ℕ). take n (samples_of bytes)) (add-one k) ∙ take-suc (samples_of bytes) k 0 (within bytes k l)
    ∙ ap (λ (x : ℕ). take k (samples_of bytes) ++ (x ∷ [])) (sample_of bytes k l)

pub read_all : (bytes : List ℕ) → take (cycles_of bytes) (samples_of bytes) ≡ samples_of bytes
read_all bytes = take_all (cycles_of bytes) (samples_of bytes) (le_of_eq (length_samples bytes))

-- what is left at place k begins with sample k, and at the end there is nothing left
pub left_more : (bytes : List ℕ) (k : ℕ) → k < cycles_of bytes → drop k (samples_of bytes) ≡ sample_at bytes k ∷ drop (k + 1) (samples_of bytes)
left_more bytes k l =
    drop-cons (samples_of bytes) k 0 (within bytes k l)
    ∙ ap₂ (λ (x n : ℕ). x ∷ drop n (samples_of bytes)) (sample_of bytes k l) (sym (add-one k))

pub left_none : (bytes : List ℕ) (k : ℕ) → cycles_of bytes ≤ k → drop k (samples_of bytes) ≡ []
left_none bytes k l = drop_of_length-le (samples_of bytes) (subst (λ (n : ℕ). n ≤ k) (sym (length_samples bytes)) l)
