-- What the finished downward pass has set, it has set for a cell. Nothing here has to be believed.
use Rattle.std.specs.Prelude.{ℕ, suc, ◌≤◌, ◌≡◌, refl, Bool, true, false, T}
use Rattle.std.proofs.Common.{arith, sym, ◌∙◌, ap, subst, ⊎_elim}
use Rattle.std.proofs.Math.Decide.{dec_lt}
use Rattle.psl.specs.Booleans.{Letter}
use Rattle.lanes.specs.Rows.{Row, CellAt}
use Rattle.lanes.specs.Expected.{Table}
use Rattle.lanes.specs.Uses.{Use}
use Rattle.lanes.specs.DownPass.{Work, give}
use Rattle.lanes.specs.DownLoop.{Visits}
use Rattle.lanes.specs.Ideal.{part_of, given, visit, blank, DoneFrom, begun, goes_on, visit_right, kept_up, whole_work}

module _ (row : ℕ → Row) (t : Table row) (live : ℕ → Bool → Bool) (c : Letter) (enter : ℕ → Bool) where
  abbrev given_to : Work → ℕ → Bool → Use
  given_to d n f = given row t live c enter d n f

  -- every bit that is set, from row n on
  pub record Set (n : ℕ) (d : Work) : Type 0 where
    pub done : DoneFrom row t live c enter n d
    pub after_set : (j : ℕ) (f : Bool) → d.after j f ≡ true → CellAt row j f × ((given_to d j f).owner ≡ 64) × ((given_to d j f).go 7 ≡ true)
    pub rel_set : (o l q : ℕ) → d.rel o l q ≡ true
        → (j : ℕ) × (f : Bool) × (n ≤ j) × CellAt row j f × ((given_to d j f).owner ≡ o) × ((given_to d j f).base ≡ q) × ((given_to d j f).go l ≡ true)

  clash : {b : Bool} → b ≡ false → b ≡ true → ⊥
  clash e h = subst T (sym h ∙ e) tt

  none_set : Set 64 blank
  none_set = record { done = begun row t live c enter; after_set = λ j f h. absurd (clash refl h); rel_set = λ o l q h. absurd (clash refl h) }

  module _ (n : ℕ) (d : Work) (h : Set (suc n) d) where
    abbrev e : Work
    e = visit row t live c enter n d

    v : Visits row live c (part_of row live c) enter n d e
    v = visit_right row t live c enter n d

    -- the uses of the rows from n on stay
    same : (j : ℕ) → n ≤ j → e.uses j ≡ d.uses j
    same j l = v.uses_else j (λ f i. omega (arith, t.sound.falls n f j i))

    given_same : (j : ℕ) (f : Bool) → n ≤ j → given_to d j f ≡ given_to e j f
    given_same j f l = ap (λ (u : Use). give row live c (part_of row live c) enter (row j) j f u) (sym (same j l))

    after_here : (f : Bool) → e.after n f ≡ true → CellAt row n f × ((given_to e n f).owner ≡ 64) × ((given_to e n f).go 7 ≡ true)
    after_here f s = ⊎_elim (λ z. absurd (clash (h.done.after_clear n f (omega arith)) z))
        (λ z. (z.0, ap (λ u. u.owner) (sym (given_same n f (omega arith))) ∙ z.1, ap (λ u. u.go 7) (sym (given_same n f (omega arith))) ∙ z.2)) (v.after_new f s)

    after_there : (j : ℕ) (f : Bool) → (j ≡ n → ⊥) → e.after j f ≡ true → CellAt row j f × ((given_to e j f).owner ≡ 64) × ((given_to e j f).go 7 ≡ true)
    after_there j f z s =
        let q : d.after j f ≡ true = sym (v.after_else j f z) ∙ s in
        let w = h.after_set j f q in
        elim (dec_lt n j) [
          | yes l ↦ (w.0, ap (λ u. u.owner) (sym (given_same j f (omega arith))) ∙ w.1, ap (λ u. u.go 7) (sym (given_same j f (omega arith))) ∙ w.2)
          | no l ↦ absurd (clash (h.done.after_clear j f (omega arith)) q)
        ]

    one_more : Set n e
    one_more = record {
      done = goes_on row t live c enter n d h.done;
      after_set = λ j f s. elim (dec_lt j n) [
        | yes l ↦ after_there j f (λ z. omega arith) s
        | no l ↦ elim (dec_lt n j) [ yes k ↦ after_there j f (λ z. omega arith) s | no k ↦ (let z : j ≡ n = omega arith in rw z (after_here f (rw z at s))) ]
      ];
      rel_set = λ o l q s. ⊎_elim
          (λ z. (let w = h.rel_set o l q z in (
            w.0,
            w.1,
            omega (arith, w.2),
            w.3,
            ap (λ u. u.owner) (sym (given_same w.0 w.1 (omega (arith, w.2)))) ∙ w.4,
            ap (λ u. u.base) (sym (given_same w.0 w.1 (omega (arith, w.2)))) ∙ w.5,
            ap (λ u. u.go l) (sym (given_same w.0 w.1 (omega (arith, w.2)))) ∙ w.6,
          )))
          (λ z. (
            n,
            z.0,
            omega arith,
            z.1,
            ap (λ u. u.owner) (sym (given_same n z.0 (omega arith))) ∙ z.2,
            ap (λ u. u.base) (sym (given_same n z.0 (omega arith))) ∙ z.3,
            ap (λ u. u.go l) (sym (given_same n z.0 (omega arith))) ∙ z.4,
          ))
          (v.rel_new o l q s);
    }

  all_set : Set 0 (whole_work row t live c enter)
  unfolding whole_work
  all_set = kept_up row t live c enter Set none_set one_more 64 0 (omega arith) (omega arith)

  -- A CELL THAT IS EXPECTED is one of a left side, entered next; A LANE THAT LEADS to a cell leads there by what the cell was handed.
  pub after_only : (n : ℕ) (f : Bool) → (whole_work row t live c enter).after n f ≡ true
      → CellAt row n f × ((given row t live c enter (whole_work row t live c enter) n f).owner ≡ 64) × ((given row t live c enter (whole_work row t live c enter) n f).go 7 ≡ true)
  after_only n f s = all_set.after_set n f s

  pub rel_only : (o l q : ℕ) → (whole_work row t live c enter).rel o l q ≡ true
      → (j : ℕ) × (f : Bool) × CellAt row j f × ((given row t live c enter (whole_work row t live c enter) j f).owner ≡ o)
      × ((given row t live c enter (whole_work row t live c enter) j f).base ≡ q) × ((given row t live c enter (whole_work row t live c enter) j f).go l ≡ true)
  rel_only o l q s = let w = all_set.rel_set o l q s in (w.0, w.1, w.3, w.4, w.5, w.6)
