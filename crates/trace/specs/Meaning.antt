-- What the answer of the check means, clause by clause: `file_reply` is exactly the answer that document 01 gives.
use Rattle.std.specs.Prelude.{ℕ, zero, suc, ◌+◌, ◌*◌, ◌≤◌, ◌<◌, Bool, true, false, cond, List, ◌≡◌, refl, leb, length}
use Rattle.std.proofs.Common.{arith, sym, ap, subst, leb→le, le→leb}
use Rattle.std.proofs.Math.Decide.{dec_lt}
use Rattle.psl.specs.Tells.{Tells, does, doesnt, tells_and, tells_iff, tells_eq, tells_t}
use Rattle.table.specs.Reply.{Reply, refused, granted, not_both, granted_one}
use Rattle.words.specs.Sets.{HasFrom}
use Rattle.words.specs.Ends.{has_from}
use Rattle.little.specs.Bytes.{u16_at, u32_at}
use Rattle.trace.specs.Trace.{cycles_most, cycles_of, sample_at, RightTrace}
use Rattle.trace.specs.Refusals.{refuse, header_of, header_right, undeclared, declared_from, declared_of, checked_trace, trace_reply, file_reply}

-- "a sample sets a bit S or above"
abbrev pub UndeclaredAt : ℕ → List ℕ → ℕ → Type 0
UndeclaredAt S bytes i = HasFrom (sample_at bytes i) S

-- The answer to a trace file for a table of S signals.
pub data TraceAnswer (S : ℕ) (bytes : List ℕ) : Reply ℕ → Type 0 where
  -- "15: trace file header or length wrong", place 0
  wrong : ¬ RightTrace S bytes → TraceAnswer S bytes (refused 15 0)
  -- "13: a sample sets a bit S or above", "lowest cycle", which counts from 1
  undeclared_at : (i : ℕ) → RightTrace S bytes → i < cycles_of bytes → UndeclaredAt S bytes i → ((k : ℕ) → k < i → ¬ UndeclaredAt S bytes k)
      → TraceAnswer S bytes (refused 13 (i + 1))
  -- neither
  right : RightTrace S bytes → ((k : ℕ) → k < cycles_of bytes → ¬ UndeclaredAt S bytes k) → TraceAnswer S bytes (granted (cycles_of bytes))

pub right_means : (S : ℕ) (bytes : List ℕ) → Tells (RightTrace S bytes) (header_right (header_of bytes) S (length bytes))
unfolding header_right header_of
right_means S bytes = tells_iff
    (λ h. record { version = h.0.0.0.0; signals = h.0.0.0.1; cycles = h.0.0.1; offset = h.0.1; whole = h.1 })
    (λ r. ((((r.version, r.signals), r.cycles), r.offset), r.whole))
    (tells_and
    (tells_and (tells_and (tells_and (tells_eq (u16_at bytes 0) 1) (tells_eq (u16_at bytes 2) S)) (tells_le (cycles_of bytes) cycles_most)) (tells_eq (u32_at bytes 8) 12))
    (tells_eq (length bytes) (12 + 4 * cycles_of bytes)))
  where
    tells_le : (m n : ℕ) → Tells (m ≤ n) (leb m n)
    tells_le m n = tells_iff (leb→le m n) (le→leb m n) (tells_t (leb m n))

-- from cycle i on, where none below it is undeclared
scan_means : (S : ℕ) (bytes : List ℕ) → RightTrace S bytes → (n i : ℕ) → n + i ≡ cycles_of bytes → ((k : ℕ) → k < i → ¬ UndeclaredAt S bytes k)
    → TraceAnswer S bytes (trace_reply (declared_from S bytes (cycles_of bytes) n i))
unfolding declared_from
scan_means S bytes r zero i e none = right r (λ k l. none k (omega arith))
scan_means S bytes r (suc n) i e none = go (undeclared S (sample_at bytes i)) (told i) (λ more. scan_means S bytes r n (suc i) (omega arith) more)
  where
    told : (k : ℕ) → Tells (UndeclaredAt S bytes k) (undeclared S (sample_at bytes k))
    told k = unfold undeclared in has_from (sample_at bytes k) S

    go : (b : Bool) → Tells (UndeclaredAt S bytes i) b → (((k : ℕ) → k < suc i → ¬ UndeclaredAt S bytes k) → TraceAnswer S bytes (trace_reply (declared_from S bytes (cycles_of bytes) n (suc i))))
        → TraceAnswer S bytes (trace_reply (cond b (refuse 13 (i + 1)) (declared_from S bytes (cycles_of bytes) n (suc i))))
    go true (does u) rest = undeclared_at i r (omega arith) u none
    go false (doesnt u) rest = rest (λ k l. elim (dec_lt k i) [ yes m ↦ none k m | no m ↦ (let z : k ≡ i = omega arith in subst (λ (j : ℕ). ¬ UndeclaredAt S bytes j) (sym z) u) ])

pub answers : (S : ℕ) (bytes : List ℕ) → TraceAnswer S bytes (file_reply S bytes)
unfolding checked_trace declared_of
answers S bytes = go (header_right (header_of bytes) S (length bytes)) (right_means S bytes)
  where
    go : (b : Bool) → Tells (RightTrace S bytes) b → TraceAnswer S bytes (trace_reply (cond b (declared_from S bytes (cycles_of bytes) (cycles_of bytes) 0) (refuse 15 0)))
    go true (does r) = scan_means S bytes r (cycles_of bytes) 0 (omega arith) (λ k l. absurd (omega arith))
    go false (doesnt r) = wrong r

-- it is the only one
pub answer_one : {S : ℕ} {bytes : List ℕ} {a b : Reply ℕ} → TraceAnswer S bytes a → TraceAnswer S bytes b → a ≡ b
answer_one (wrong n) (wrong m) = refl
answer_one (wrong n) (undeclared_at j r l u none) = absurd (n r)
answer_one (wrong n) (right r none) = absurd (n r)
answer_one (undeclared_at i r l u none) (wrong n) = absurd (n r)
answer_one (undeclared_at i r l u none) (undeclared_at j q m v few) = elim (dec_lt i j) [
  | yes g ↦ absurd (few i g u)
  | no g ↦ elim (dec_lt j i) [ yes h ↦ absurd (none j h v) | no h ↦ ap (λ (k : ℕ). refused 13 (k + 1)) (omega arith) ]
]
answer_one (undeclared_at i r l u none) (right q few) = absurd (few i l u)
answer_one (right r none) (wrong n) = absurd (n r)
answer_one (right r none) (undeclared_at j q m v few) = absurd (none j m v)
answer_one (right r none) (right q few) = refl

-- what an accepted trace gives: it is right, its cycles are those accepted, and no sample sets a bit S or above
pub record Declared (S : ℕ) (bytes : List ℕ) (cycles : ℕ) : Type 0 where
  pub right_trace : RightTrace S bytes
  pub its_cycles : cycles ≡ cycles_of bytes
  pub none_undeclared : (k : ℕ) → k < cycles_of bytes → ¬ UndeclaredAt S bytes k

pub accepted_gives : (S : ℕ) (bytes : List ℕ) (cycles : ℕ) → file_reply S bytes ≡ granted cycles → Declared S bytes cycles
accepted_gives S bytes cycles e = go (answers S bytes) e
  where
    go : {a : Reply ℕ} → TraceAnswer S bytes a → a ≡ granted cycles → Declared S bytes cycles
    go (wrong n) e = absurd (not_both e)
    go (undeclared_at i r l u none) e = absurd (not_both e)
    go (right r none) e = record { right_trace = r; its_cycles = sym (granted_one e); none_undeclared = none }
