-- A match of r ; true: a match of r, which may be empty, and one letter more.
use Rattle.std.specs.Prelude.{ℕ, zero, suc, ◌-◌, ◌≤◌, ◌<◌, ◌≡◌, refl, List, [], ◌∷◌, ◌++◌, ◌⊎◌, T, length, drop, get_or}
use Rattle.std.proofs.Common.{arith, sym, ◌∙◌, ap, ap₂, subst, append-nil, append_assoc, inl, inr}
use Rattle.std.proofs.Math.Decide.{dec_lt}
use Rattle.std.proofs.Math.Seq.{take-length, slice_empty}
use Rattle.psl.specs.Booleans.{Letter, sample, t_letter, Word}
use Rattle.psl.specs.Sequences.{Sequence, Matches}
use Rattle.psl.specs.Properties.{letters, RunMatches, then_true}
use Rattle.psl.proofs.Marks.Automaton.{nullable, first, After}
use Rattle.psl.proofs.Marks.Words.{head_eq, tail_eq, not_snoc, Step, ends, goes}
use Rattle.psl.proofs.Marks.Reads.{after_nil, opens, opens_back}
use Rattle.psl.proofs.Attempts.Index.{tops, Open}
use Rattle.psl.proofs.Decide.Runs.{reads, reads_more}

-- The empty word matches just where the automaton says so.
pub empty_nullable : (r : Sequence) → Matches r [] → T (nullable r)
empty_nullable r h = go (opens r [] h)
  where
    go : Step (nullable r) (After r (first r)) [] → T (nullable r)
    go (ends e t) = t
    go (goes y) = absurd (after_nil r (first r) y)

pub nullable_empty : (r : Sequence) → T (nullable r) → Matches r []
nullable_empty r t = opens_back r [] (ends refl t)

snoc_eq : (u v : Word) (c d : Letter) → u ++ c ∷ [] ≡ v ++ d ∷ [] → u ≡ v
snoc_eq [] [] c d e = refl
snoc_eq [] (b ∷ v) c d e = absurd (not_snoc v d [] (tail_eq e))
snoc_eq (a ∷ u) [] c d e = absurd (not_snoc u c [] (sym (tail_eq e)))
snoc_eq (a ∷ u) (b ∷ v) c d e = ap₂ ◌∷◌ (head_eq e) (snoc_eq u v c d (tail_eq e))

-- A word and one letter more match r ; true just if the word matches r.
matches_less : (r : Sequence) (u : Word) (c : Letter) → Matches (then_true r) (u ++ c ∷ []) → Matches r u
matches_less r u c (p, q, e, h, (d, g, t)) = subst (Matches r) (sym (snoc_eq u p c d (e ∙ ap (λ (y : Word). p ++ y) g))) h

tops_snoc : (m : ℕ) → tops (suc m) ≡ tops m ++ t_letter ∷ []
tops_snoc zero = refl
tops_snoc (suc m) = ap (λ (y : Word). t_letter ∷ y) (tops_snoc m)

with_top : (u : Word) (m : ℕ) → u ++ tops (suc m) ≡ (u ++ tops m) ++ t_letter ∷ []
with_top u m = rw (append_assoc, ← (tops_snoc m))

module _ {r : Sequence} {w : List ℕ} {i : ℕ} where
  -- A run matches r ; true just if the samples before its last, of which there may be none, match r.
  pub one_more : {t : ℕ} → i ≤ t → t < length w → Matches r (reads w i t) → RunMatches (then_true r) w i t
  one_more {t} l m h = let x = sample (get_or w t 0) in
      record { from = l; upto = m; match = rw (reads_more w i t l m) (reads w i t, x ∷ [], refl, h, (x, refl, tt)) }

  pub one_less : {t : ℕ} → RunMatches (then_true r) w i t → Matches r (reads w i t)
  one_less {t} h = matches_less r (reads w i t) (sample (get_or w t 0)) (rw (reads_more w i t h.from h.upto) at h.match)

  pub more_hit : {j : ℕ} → RunMatches r w i j → suc j < length w → RunMatches (then_true r) w i (suc j)
  more_hit h l = one_more (omega (arith, h.from)) l h.match

  pub empty_hit : Matches r [] → i < length w → RunMatches (then_true r) w i i
  empty_hit h l = one_more (omega arith) l (rw (slice_empty i w) h)

  pub hit_less : {t : ℕ} → RunMatches (then_true r) w i t → ((t ≡ i) × Matches r []) ⊎ ((j : ℕ) × (suc j ≡ t) × RunMatches r w i j)
  hit_less {t} h = go t h.from h.upto (one_less h)
    where
      go : (t : ℕ) → i ≤ t → t < length w → Matches r (reads w i t) → ((t ≡ i) × Matches r []) ⊎ ((j : ℕ) × (suc j ≡ t) × RunMatches r w i j)
      go t l m x = elim (dec_lt i t) [
        | yes q ↦ inr (t - 1, omega arith, let e : suc (t - 1) ≡ t = omega arith in record { from = omega arith; upto = omega arith; match = rw e x })
        | no q ↦ inl (let e : t ≡ i = omega arith in (e, rw (e, slice_empty i w) at x))
      ]

  -- Letters T complete w(i..) to a match of r ; true just if all but the last of them, of which there may be none, complete it to one of r.
  pub top_more : (m : ℕ) → Matches r (letters (drop i w) ++ tops m) → Open (then_true r) w i
  top_more m h = record { more = m; match = rw (with_top (letters (drop i w)) m) (letters (drop i w) ++ tops m, t_letter ∷ [], refl, h, (t_letter, refl, tt)) }

  pub top_less : (o : Open (then_true r) w i) → Matches r (letters (drop i w) ++ tops o.more)
  top_less o = matches_less r (letters (drop i w) ++ tops o.more) t_letter (rw (with_top (letters (drop i w)) o.more) at o.match)

  pub more_open : Open r w i → Open (then_true r) w i
  more_open o = top_more (suc o.more) o.match

  pub hit_open : {j : ℕ} → suc j ≡ length w → RunMatches r w i j → Open (then_true r) w i
  hit_open {j} e h = top_more 0 (rw append-nil (rw (e, take-length) at h.match))

  pub open_less : i < length w → Open (then_true r) w i → Open r w i ⊎ ((j : ℕ) × (suc j ≡ length w) × RunMatches r w i j)
  open_less l o = go o.more (top_less o)
    where
      go : (m : ℕ) → Matches r (letters (drop i w) ++ tops m) → Open r w i ⊎ ((j : ℕ) × (suc j ≡ length w) × RunMatches r w i j)
      go zero x = let e : suc (length w - 1) ≡ length w = omega arith in
          inr (length w - 1, e, record { from = omega arith; upto = omega arith; match = rw (e, take-length) (rw append-nil at x) })
      go (suc m) x = inl (record { more = m; match = x })
