-- What the clause of |=> comes to: that of |-> over r ; true, as ticket 2 has it; the same said over r itself; and, where r does not match the empty
-- word, what document 01 said before the ticket.
use Rattle.std.specs.Prelude.{ℕ, suc, ◌<◌, ◌≡◌, List, [], ◌∷◌, ◌++◌, ◌↔◌, length, take, drop, replicate}
use Rattle.std.proofs.Common.{zero-le, arith, subst, ⊎_elim}
use Rattle.std.proofs.Math.Decide.{dec_lt}
use Rattle.std.proofs.Math.Seq.{drop-length}
use Rattle.psl.specs.Booleans.{signal, t_letter}
use Rattle.psl.specs.Sequences.{Sequence, cell, star, Matches}
use Rattle.psl.specs.Properties.{Property, boolean, suffix, suffix_next, letters, PrefixMatches, Continues, then_true, Breaks, Secures}
use Rattle.psl.specs.Verdicts.{broken, Right}
use Rattle.psl.proofs.Laws.{empty_breaks_nothing, empty_secures_nothing}
use Rattle.psl.proofs.Attempts.Same.{continues_open, open_continues}
use Rattle.psl.proofs.Attempts.OneMore.{one_more, one_less, more_hit, hit_less, top_more, top_less, more_open, hit_open, open_less}
use Rattle.psl.specs.Tells.{any}
use Rattle.psl.proofs.Decide.Verdicts.{right_of}

-- "r |=> f as {r ; true} |-> f", to break and to secure.
pub breaks_as_suffix : (r : Sequence) (f : Property) (w : List ℕ) → Breaks (suffix_next r f) w ↔ Breaks (suffix (then_true r) f) w
breaks_as_suffix r f w = (λ h. h, λ h. h)

pub secures_as_suffix : (r : Sequence) (f : Property) (w : List ℕ) → Secures (suffix_next r f) w ↔ Secures (suffix (then_true r) f) w
secures_as_suffix r f w = (λ h. h, λ h. h)

-- Over r itself. To break: the first j samples match r, where j may be 0, and w(j..) breaks f.
abbrev pub BreaksAfter : Sequence → Property → List ℕ → Type 0
BreaksAfter r f w = (j : ℕ) × (j < length w) × Matches r (letters (take j w)) × Breaks f (drop j w)

pub breaks_after : (r : Sequence) (f : Property) (w : List ℕ) → Breaks (suffix_next r f) w ↔ BreaksAfter r f w
breaks_after r f w = (λ h. (h.0, h.1.upto, one_less h.1, h.2), λ h. (h.0, one_more zero-le h.1 h.2, h.3))

-- To secure: each such w(j..) secures f, and w followed by m letters T matches r for no m of 0 or more.
abbrev pub SecuresAfter : Sequence → Property → List ℕ → Type 0
SecuresAfter r f w = (0 < length w) × ((j : ℕ) → j < length w → Matches r (letters (take j w)) → Secures f (drop j w))
    × ((m : ℕ) → ¬ Matches r (letters w ++ replicate m t_letter))

pub secures_after : (r : Sequence) (f : Property) (w : List ℕ) → Secures (suffix_next r f) w ↔ SecuresAfter r f w
secures_after r f w = (
  λ h. (h.0, λ j l x. h.1 j (one_more zero-le l x), λ m x. h.2 (open_continues (top_more {i = 0} m x))),
  λ h. (h.0, λ j x. h.1 j x.upto (one_less x), λ c. h.2 (continues_open c).more (top_less (continues_open c))),
)

-- What document 01 said: "the same with w(j+1..) in place of w(j..). Only non-empty matches count".
abbrev pub BreaksByNonEmpty : Sequence → Property → List ℕ → Type 0
BreaksByNonEmpty r f w = (j : ℕ) × PrefixMatches r w j × Breaks f (drop (suc j) w)

abbrev pub SecuresByNonEmpty : Sequence → Property → List ℕ → Type 0
SecuresByNonEmpty r f w = (0 < length w) × ((j : ℕ) → PrefixMatches r w j → Secures f (drop (suc j) w)) × ¬ Continues r w

-- Of a match that ends on the last sample nothing is left for f.
nothing_left : (P : List ℕ → Type 0) (w : List ℕ) (j : ℕ) → ¬ P [] → suc j ≡ length w → P (drop (suc j) w) → ⊥
nothing_left P w j n e h = n (subst P (rw e (drop-length w)) h)

-- Where r does not match the empty word, nothing changed.
module _ (r : Sequence) (f : Property) (w : List ℕ) (non_empty : ¬ Matches r []) where
  matched : {t : ℕ} → PrefixMatches (then_true r) w t → (j : ℕ) × (suc j ≡ t) × PrefixMatches r w j
  matched h = ⊎_elim (λ e. absurd (non_empty e.1)) (λ s. s) (hit_less h)

  pub breaks_unchanged : Breaks (suffix_next r f) w ↔ BreaksByNonEmpty r f w
  breaks_unchanged = (
    λ h. (let s = matched h.1 in (s.0, s.2, rw s.1 h.2)),
    λ h. elim (dec_lt (suc h.0) (length w)) [
      | yes l ↦ (suc h.0, more_hit h.1 l, h.2)
      | no l ↦ absurd (nothing_left (Breaks f) w h.0 (empty_breaks_nothing f) (omega (arith, h.1.upto)) h.2)
    ],
  )

  pub secures_unchanged : Secures (suffix_next r f) w ↔ SecuresByNonEmpty r f w
  secures_unchanged = (
    λ h. (
      h.0,
      λ j x. elim (dec_lt (suc j) (length w)) [
        | yes l ↦ h.1 (suc j) (more_hit x l)
        | no l ↦ absurd (h.2 (open_continues (hit_open (omega (arith, x.upto)) x)))
      ],
      λ c. h.2 (open_continues (more_open (continues_open c))),
    ),
    λ h. (
      h.0,
      λ t x. (let s = matched x in rw s.1 at (h.1 s.0 s.2)),
      λ c. ⊎_elim
          (λ o. h.2 (open_continues o))
          (λ s. nothing_left (Secures f) w s.0 (empty_secures_nothing f) s.1 (h.1 s.0 s.2))
          (open_less h.0 (continues_open c)),
    ),
  )

-- The case of document 01 that ticket 2 changes: {a[*]} |=> b on a sample that sets no signal.
pub empty_match_breaks : Right (suffix_next (star (cell (signal 0))) (boolean (signal 1))) (0 ∷ []) (broken 1)
unfolding any
empty_match_breaks = right_of (suffix_next (star (cell (signal 0))) (boolean (signal 1))) (0 ∷ []) (broken 1) tt
