-- Each row of a sequence is used by the weak row over it, or by a left side; so the cells expected next stand in the rows of left sides.
use Rattle.std.specs.Prelude.{ℕ, zero, suc, ◌-◌, ◌<◌, ◌≡◌, refl, Bool, true, false, List, ◌⊎◌, T}
use Rattle.std.proofs.Common.{arith, sym, ◌∙◌, subst, inl, inr, ⊎_elim}
use Rattle.std.proofs.Math.Path.{ap}
use Rattle.psl.specs.Booleans.{Letter, bit}
use Rattle.psl.specs.Tells.{tells_value, tells_or, tells_true}
use Rattle.table.specs.Subset.{Subset}
use Rattle.table.specs.declared.Counts.{Counts}
use Rattle.table.specs.Choice.{pick}
use Rattle.accepted.specs.Rows.{shape_of}
use Rattle.lanes.specs.Rows.{Row, r_bool, r_then, r_fuse, r_alt, r_star, r_plus, r_weak, r_left, r_rest, Has, IsSequence, CellAt}
use Rattle.lanes.specs.Expected.{Table}
use Rattle.lanes.specs.Uses.{Use}
use Rattle.lanes.specs.DownPass.{Work, give, LandsBy}
use Rattle.lanes.specs.Ideal.{part_of, whole_work, whole_right}
use Rattle.lanes.specs.Whole.{after_only}
use Rattle.engine.specs.Reads.{kind_of}
use Rattle.engine.specs.Planned.{Planned, InSequence, OverLeft, StandsIn, in_a, in_b}
use Rattle.engine.specs.PlanView as W
use Rattle.engine.specs.PlanSequences.{SequenceRow, is_then, is_fuse, is_alt, is_star, is_plus, sequence_row_lem, has_stands}
use Rattle.engine.specs.PlanWeaks.{weak_users}
use Rattle.engine.specs.PlanPass.{row_left}

module _ (t : List ℕ) (c : Counts) (z : Subset t c) (root booleans sides weaks : ℕ) (p : Planned t root booleans sides weaks) (root_low : root < c.nodes)
    (live : ℕ → Bool → Bool) (letter : Letter) (enter : ℕ → Bool) where
  abbrev row : ℕ → Row
  row = W.row t c z root booleans sides weaks p root_low

  abbrev rows : Table row
  rows = W.row_table t c z root booleans sides weaks p root_low

  abbrev done : Work
  done = whole_work row rows live letter enter

  abbrev gives : Row → ℕ → Bool → Use → Use
  gives = give row live letter (part_of row live letter) enter

  -- a sequence row hands its owner on
  keeps_owner : (R : Row) (n : ℕ) (f : Bool) (w : Use) → IsSequence R → (gives R n f w).owner ≡ w.owner
  keeps_owner (r_then a b) n false w s = refl
  keeps_owner (r_then a b) n true w s = refl
  keeps_owner (r_fuse a b) n false w s = refl
  keeps_owner (r_fuse a b) n true w s = refl
  keeps_owner (r_alt a b) n false w s = refl
  keeps_owner (r_alt a b) n true w s = refl
  keeps_owner (r_star a) n f w s = refl
  keeps_owner (r_plus a) n f w s = refl
  keeps_owner (r_bool _) n f w s = elim s [ ]
  keeps_owner (r_weak _) n f w s = elim s [ ]
  keeps_owner (r_left _) n f w s = elim s [ ]
  keeps_owner r_rest n f w s = elim s [ ]

  lands_use : (R : Row) (n : ℕ) (f : Bool) (v : ℕ) (w : Use) → IsSequence R → LandsBy done R n f v w → done.uses v ≡ w
  lands_use (r_then a b) n f v w s h = h
  lands_use (r_fuse a b) n f v w s h = h
  lands_use (r_alt a b) n f v w s h = h
  lands_use (r_star a) n f v w s h = h
  lands_use (r_plus a) n f v w s h = h
  lands_use (r_bool _) n f v w s h = elim s [ ]
  lands_use (r_weak _) n f v w s h = elim s [ ]
  lands_use (r_left _) n f v w s h = elim s [ ]
  lands_use r_rest n f v w s h = elim s [ ]

  sequence_is : (n : ℕ) → p.reached n ≡ true → InSequence t n → IsSequence (row n)
  sequence_is n e s = by (sequence_row_lem t c z root booleans sides weaks p root_low n e s)
    where
      by : SequenceRow t row booleans n → IsSequence (row n)
      by (is_then q r a b) = rw r tt
      by (is_fuse q r a b) = rw r tt
      by (is_alt q r a b) = rw r tt
      by (is_star q r a) = rw r tt
      by (is_plus q r a) = rw r tt

  handed : (n : ℕ) (f : Bool) (v : ℕ) → IsSequence (row v) → Has (row n) f v → done.uses v ≡ gives (row n) n f (done.uses n)
  handed n f v s i = lands_use (row v) n f v _ s ((whole_right row rows live letter enter).landed n (omega arith) f v i)

  low : (n : ℕ) → p.reached n ≡ true → n < 64
  low n e = omega (arith, W.low t c z root booleans sides weaks p root_low n e, z.layout.nodes_range)

  weak_here : (n : ℕ) (f : Bool) → p.reached n ≡ true → kind_of t n ≡ 32 → (gives (row n) n f (done.uses n)).owner < 64
  unfolding shape_of pick
  weak_here n f e i = rw (W.row_of_kind t c z root booleans sides weaks p root_low 32 n e i) (low n e)

  -- a row of a weak sequence is owned by a weak row
  weak_owner : (k v : ℕ) → 64 - v < k → bit weaks v ≡ true → InSequence t v → (done.uses v).owner < 64
  weak_owner zero v l w s = absurd (omega arith)
  weak_owner (suc k) v l w s =
      let e = (p.weak_rows v w).0 in
      let q = sequence_is v e s in
      let u = rows.sound.used v q in
      let o = rows.sound.falls u.0 u.1 v u.2 in
      let m = weak_users t c z root booleans sides weaks p root_low v w (omega (arith, s.upto)) u.0 u.1 u.2 in
      let r = p.weak_rows u.0 m in
      rw (handed u.0 u.1 v q u.2) (⊎_elim
      (λ i. rw (keeps_owner (row u.0) u.0 u.1 (done.uses u.0) (sequence_is u.0 r.0 i)) (weak_owner k u.0 (omega (arith, low v e)) m i))
      (λ i. weak_here u.0 u.1 r.0 i) r.1)

  clash : {b : Bool} → b ≡ false → b ≡ true → ⊥
  clash e h = subst T (sym h ∙ e) tt

  -- a weak row and a row over a left side expect nothing next themselves
  no_next : (n : ℕ) (f : Bool) → p.reached n ≡ true → (kind_of t n ≡ 32) ⊎ OverLeft t n → (gives (row n) n f (done.uses n)).go 7 ≡ false
  unfolding shape_of pick
  no_next n f e (inl q) = ap (λ R. (gives R n f (done.uses n)).go 7) (W.row_of_kind t c z root booleans sides weaks p root_low 32 n e q)
  no_next n f e (inr o) = ap (λ R. (gives R n f (done.uses n)).go 7) (row_left t c z root booleans sides weaks p root_low n e o)

  -- A CELL EXPECTED NEXT stands in a row of the left sides
  pub after_in_sides : (n : ℕ) (f : Bool) → done.after n f ≡ true → bit sides n ≡ true
  after_in_sides n f e = go (has_stands t c z root booleans sides weaks p root_low n f found.0.at found.0.has)
    where
      found : CellAt row n f × ((gives (row n) n f (done.uses n)).owner ≡ 64) × ((gives (row n) n f (done.uses n)).go 7 ≡ true)
      found = after_only row rows live letter enter n f e

      in_sequence : p.reached n ≡ true → InSequence t n → bit sides n ≡ true
      in_sequence r s = ⊎_elim (λ h. h)
          (λ w. absurd (far (keeps_owner (row n) n f (done.uses n) (sequence_is n r s)) (weak_owner (suc (64 - n)) n (omega arith) w s)))
          (tells_true (tells_or (tells_value (bit sides n)) (tells_value (bit weaks n))) (p.sequences_in n r s))
        where
          far : (gives (row n) n f (done.uses n)).owner ≡ (done.uses n).owner → (done.uses n).owner < 64 → ⊥
          far q l = omega (arith, q, found.1)

      go : (p.reached n ≡ true) × StandsIn t n found.0.at → bit sides n ≡ true
      go (r, in_a q (inl s)) = in_sequence r s
      go (r, in_a q (inr h)) = absurd (clash (no_next n f r h) found.2)
      go (r, in_b q l m) = in_sequence r (record { from = l; upto = omega arith })
