-- The loop of the downward pass, from large numbers to small: what holds when the rows from n on are done, and that each row keeps it.
-- Nothing here has to be believed.
use Rattle.std.specs.Prelude.{ℕ, suc, ◌≤◌, ◌<◌, ◌≡◌, refl, Bool, true, false, ◌⊎◌, T}
use Rattle.std.proofs.Common.{arith, sym, ◌∙◌, subst, ⊎_elim}
use Rattle.std.proofs.Math.Decide.{dec_lt}
use Rattle.psl.specs.Booleans.{Boolean, Letter}
use Rattle.psl.specs.Sequences.{Sequence}
use Rattle.psl.proofs.Marks.Automaton.{Marks}
use Rattle.psl.specs.Tells.{tells_eq, tells_dec}
use Rattle.lanes.specs.Rows.{Row, r_bool, r_then, r_fuse, r_alt, r_star, r_plus, r_weak, r_left, r_rest, Has, Sits, s_cell, s_then, s_fuse, s_alt, s_star, s_plus, IsSequence, Two, One, two_then, two_fuse, two_alt, one_star, one_plus, one_weak, one_left, Sound, CellAt}
use Rattle.lanes.specs.UpPass.{Part, RowPart, part_ok}
use Rattle.lanes.specs.Uses.{Use, Fine, fine_cell, then_a, fuse_a, alt_a, then_b, fuse_b, alt_b, star_a, plus_a}
use Rattle.lanes.specs.DownPass.{Work, LandsBy, weak_use, left_use, give, Landed}

module _ (row : ℕ → Row) (live : ℕ → Bool → Bool) (c : Letter) (part : ℕ → Part) (enter : ℕ → Bool) where
  abbrev given : Work → ℕ → Bool → Use
  given d n f = give row live c part enter (row n) n f (d.uses n)

  -- what row n does to the arrays
  pub record Visits (n : ℕ) (d e : Work) : Type 0 where
    pub lands : Landed row live c part enter e n
    pub uses_else : (v : ℕ) → ((f : Bool) → Has (row n) f v → ⊥) → e.uses v ≡ d.uses v
    pub after_else : (j : ℕ) (f : Bool) → (j ≡ n → ⊥) → e.after j f ≡ d.after j f
    pub after_new : (f : Bool) → e.after n f ≡ true → (d.after n f ≡ true) ⊎ (CellAt row n f × ((given d n f).owner ≡ 64) × ((given d n f).go 7 ≡ true))
    pub rel_more : (o l q : ℕ) → d.rel o l q ≡ true → e.rel o l q ≡ true
    pub rel_new : (o l q : ℕ) → e.rel o l q ≡ true
        → (d.rel o l q ≡ true) ⊎ ((f : Bool) × CellAt row n f × ((given d n f).owner ≡ o) × ((given d n f).base ≡ q) × ((given d n f).go l ≡ true))

  module _ (reaches : ℕ → ℕ → ℕ → Bool) (Waits : Type 0) where
    -- an operand, read as r with the expected cells m, and handed a use that is right
    pub record Placed (n : ℕ) (f : Bool) (v : ℕ) (w : Use) : Type 0 where
      pub sequence : Sequence
      pub marks : Marks sequence
      pub sits : Sits row live n f v sequence marks
      pub fine : Fine c reaches Waits w sequence marks

    -- the rows from n on are done
    pub record Sofar (n : ℕ) (d : Work) : Type 0 where
      pub landed : (j : ℕ) → n ≤ j → Landed row live c part enter d j
      pub placed : (j : ℕ) → n ≤ j → (f : Bool) (v : ℕ) → Has (row j) f v → Placed j f v (given d j f)
      pub rel_right : (o l q : ℕ) → o < 64 → l < 7 → d.rel o l q ≡ true → reaches o l q ≡ true
      pub after_right : (j : ℕ) (f : Bool) → d.after j f ≡ true → Waits
      pub after_clear : (j : ℕ) (f : Bool) → j < n → d.after j f ≡ false

    module _ (sound : Sound row) (all : (v : ℕ) → RowPart row live c part (row v) v)
        (weak_root : (n a : ℕ) → row n ≡ r_weak a → Placed n false a (weak_use n (enter n)))
        (left_root : (n a : ℕ) → row n ≡ r_left a → Placed n false a (left_use (enter n))) where
      abbrev gives : Row → ℕ → Bool → Use → Use
      gives = give row live c part enter

      -- the operands of a row that has two, and of one that has one
      both_fields : {R : Row} {v a b : ℕ} (w : Use) → Two R a b → Placed v false a (gives R v false w) → Placed v true b (gives R v true w)
          → (g : Bool) (k : ℕ) → Has R g k → Placed v g k (gives R v g w)
      both_fields w t p q false k i = rw (t.only_a k i) p
      both_fields w t p q true k i = rw (t.only_b k i) q

      one_field : {R : Row} {v a : ℕ} (w : Use) → One R a → Placed v false a (gives R v false w) → (g : Bool) (k : ℕ) → Has R g k → Placed v g k (gives R v g w)
      one_field w t p false k i = rw (t.only_a k i) p
      one_field w t p true k i = absurd (t.none_b k i)

      -- the operands of a sequence row that is placed are placed
      kids : {n : ℕ} {f : Bool} {v : ℕ} {w : Use} → Placed n f v w → IsSequence (row v) → (g : Bool) (k : ℕ) → Has (row v) g k → Placed v g k (gives (row v) v g w)
      kids {v = v} {w = w} p = go p.sits p.fine
        where
          go : {n : ℕ} {f : Bool} {r : Sequence} {m : Marks r} → Sits row live n f v r m → Fine c reaches Waits w r m
              → IsSequence (row v) → (g : Bool) (k : ℕ) → Has (row v) g k → Placed v g k (gives (row v) v g w)
          go (s_cell e q) h = λ s. absurd (rw e at s)
          go (s_then {a = a} {b = b} e s t) h = rw e (λ z. both_fields w two_then (record { sequence = _; marks = _; sits = s; fine = then_a c reaches Waits h })
              (record { sequence = _; marks = _; sits = t; fine = then_b c reaches Waits (part_ok row live c part all s) h }))
          go (s_fuse {a = a} {b = b} e s t) h = rw e (λ z. both_fields w two_fuse (record { sequence = _; marks = _; sits = s; fine = fuse_a c reaches Waits h })
              (record { sequence = _; marks = _; sits = t; fine = fuse_b c reaches Waits (part_ok row live c part all s) h }))
          go (s_alt {a = a} {b = b} e s t) h = rw e (λ z. both_fields w two_alt (record { sequence = _; marks = _; sits = s; fine = alt_a c reaches Waits h })
              (record { sequence = _; marks = _; sits = t; fine = alt_b c reaches Waits (part_ok row live c part all s) h }))
          go (s_star {a = a} e s) h = rw e (λ z. one_field w one_star (record { sequence = _; marks = _; sits = s; fine = star_a c reaches Waits (part_ok row live c part all s) h }))
          go (s_plus {a = a} e s) h = rw e (λ z. one_field w one_plus (record { sequence = _; marks = _; sits = s; fine = plus_a c reaches Waits (part_ok row live c part all s) h }))

      -- what a use says of a cell
      cell_says : {n : ℕ} {f : Bool} {v : ℕ} {w : Use} (b : Boolean) → row v ≡ r_bool b → Placed n f v w
          → (w.owner < 64 → (l : ℕ) → l < 7 → w.go l ≡ reaches w.owner l w.base) × (w.owner ≡ 64 → T (w.go 7) → Waits)
      cell_says {v = v} {w = w} b is p = go p.sits p.fine
        where
          no : IsSequence (row v) → ⊥
          no s = rw is at s

          go : {n : ℕ} {f : Bool} {r : Sequence} {m : Marks r} → Sits row live n f v r m → Fine c reaches Waits w r m
              → (w.owner < 64 → (l : ℕ) → l < 7 → w.go l ≡ reaches w.owner l w.base) × (w.owner ≡ 64 → T (w.go 7) → Waits)
          go (s_cell e q) h = (λ o l i. fine_cell c reaches Waits h o l i, λ o t. h.merged o t)
          go (s_then e s t) h = absurd (no (rw e tt))
          go (s_fuse e s t) h = absurd (no (rw e tt))
          go (s_alt e s t) h = absurd (no (rw e tt))
          go (s_star e s) h = absurd (no (rw e tt))
          go (s_plus e s) h = absurd (no (rw e tt))

      lands_seq : (d : Work) (R : Row) (n : ℕ) (f : Bool) (v : ℕ) (w : Use) → IsSequence R → LandsBy d R n f v w → d.uses v ≡ w
      lands_seq d (r_then a b) n f v w s h = h
      lands_seq d (r_fuse a b) n f v w s h = h
      lands_seq d (r_alt a b) n f v w s h = h
      lands_seq d (r_star a) n f v w s h = h
      lands_seq d (r_plus a) n f v w s h = h
      lands_seq d (r_bool _) n f v w s h = elim s [ ]
      lands_seq d (r_weak _) n f v w s h = elim s [ ]
      lands_seq d (r_left _) n f v w s h = elim s [ ]
      lands_seq d r_rest n f v w s h = elim s [ ]

      module _ (n : ℕ) (d e : Work) (h : Sofar (suc n) d) (g : Visits n d e) where
        -- the use of row n, if it is a sequence, came from a row above
        seq_here : IsSequence (row n) → (f : Bool) (v : ℕ) → Has (row n) f v → Placed n f v (given d n f)
        seq_here s f v i =
            let u = sound.used n s in
            let l = sound.falls u.0 u.1 n u.2 in
            let q = lands_seq d (row n) u.0 u.1 n (given d u.0 u.1) s (h.landed u.0 l u.1 n u.2) in
            rw q (kids (h.placed u.0 l u.1 n u.2) s f v i)

        here : (R : Row) → row n ≡ R → (f : Bool) (v : ℕ) → Has R f v → Placed n f v (gives R n f (d.uses n))
        here (r_bool b) q = λ f v i. absurd i
        here (r_then a b) q = rw q at (seq_here (rw q tt))
        here (r_fuse a b) q = rw q at (seq_here (rw q tt))
        here (r_alt a b) q = rw q at (seq_here (rw q tt))
        here (r_star a) q = rw q at (seq_here (rw q tt))
        here (r_plus a) q = rw q at (seq_here (rw q tt))
        here (r_weak a) q = one_field (d.uses n) one_weak (weak_root n a q)
        here (r_left a) q = one_field (d.uses n) one_left (left_root n a q)
        here r_rest q = λ f v i. absurd i

        -- a row from n on has its use no more changed
        uses_same : (j : ℕ) → n ≤ j → e.uses j ≡ d.uses j
        uses_same j l = g.uses_else j (λ f i. omega (arith, sound.falls n f j i))

        place : (j : ℕ) → n ≤ j → (f : Bool) (v : ℕ) → Has (row j) f v → Placed j f v (given d j f)
        place j l f v i = elim (dec_lt n j) [ yes k ↦ h.placed j k f v i | no k ↦ (let q : j ≡ n = omega arith in rw q (here (row n) refl f v (rw q at i))) ]

        -- nor has an operand of a row above, since it stands in one place only
        kept : (j : ℕ) (f : Bool) (v : ℕ) → n < j → Has (row j) f v → IsSequence (row v) → e.uses v ≡ d.uses v
        kept j f v l i s = g.uses_else v (λ f' i'. omega (arith, (sound.once n j f' f v s i' i).0))

        carry : (R : Row) (j : ℕ) (f : Bool) (v : ℕ) (w : Use) → row v ≡ R → n < j → Has (row j) f v → LandsBy d R j f v w → LandsBy e R j f v w
        carry (r_bool b) j f v w q l i k = record { merged = λ o. g.after_else j f (λ z. omega arith) ∙ k.merged o; apart = λ o x y z. g.rel_more _ _ _ (k.apart o x y z) }
        carry (r_then a b) j f v w q l i k = kept j f v l i (rw q tt) ∙ k
        carry (r_fuse a b) j f v w q l i k = kept j f v l i (rw q tt) ∙ k
        carry (r_alt a b) j f v w q l i k = kept j f v l i (rw q tt) ∙ k
        carry (r_star a) j f v w q l i k = kept j f v l i (rw q tt) ∙ k
        carry (r_plus a) j f v w q l i k = kept j f v l i (rw q tt) ∙ k
        carry (r_weak a) j f v w q l i k = tt
        carry (r_left a) j f v w q l i k = tt
        carry r_rest j f v w q l i k = tt

        land : (j : ℕ) → n ≤ j → Landed row live c part enter e j
        land j l f v i = elim (dec_lt n j) [
          | yes k ↦ rw (uses_same j l) (carry (row v) j f v (given d j f) refl k i (h.landed j k f v i))
          | no k ↦ (let q : j ≡ n = omega arith in rw q (g.lands f v (rw q at i)))
        ]

        T_of : {b : Bool} → b ≡ true → T b
        T_of q = subst T (sym q) tt

        right_after : (j : ℕ) (f : Bool) → e.after j f ≡ true → Waits
        right_after j f t = elim (tells_dec (tells_eq j n)) [
          | yes q ↦ ⊎_elim (h.after_right n f)
              (λ z. (cell_says z.0.boolean z.0.is (here (row n) refl f z.0.at z.0.has)).1 z.1 (T_of z.2)) (g.after_new f (rw q at t))
          | no q ↦ h.after_right j f (sym (g.after_else j f q) ∙ t)
        ]

        right_rel : (o l q : ℕ) → o < 64 → l < 7 → e.rel o l q ≡ true → reaches o l q ≡ true
        right_rel o l q i j t = ⊎_elim (h.rel_right o l q i j)
            (λ z. from z.0 z.1 z.2 z.3 z.4) (g.rel_new o l q t)
          where
            from : (f : Bool) → CellAt row n f → (given d n f).owner ≡ o → (given d n f).base ≡ q → (given d n f).go l ≡ true → reaches o l q ≡ true
            from f z x y k = rw (← x, ← y) (sym ((cell_says z.boolean z.is (here (row n) refl f z.at z.has)).0 (rw x i) l j) ∙ k)

        -- ONE ROW
        pub row_done : Sofar n e
        row_done = record {
          landed = land;
          placed = λ j l f v i. rw (uses_same j l) (place j l f v i);
          rel_right = right_rel;
          after_right = right_after;
          after_clear = λ j f l. g.after_else j f (λ z. omega arith) ∙ h.after_clear j f (omega arith);
        }

      -- before the first row: nothing is set
      pub none_done : (n : ℕ) (d : Work) → ((j : ℕ) → n ≤ j → row j ≡ r_rest) → ((j : ℕ) (f : Bool) → d.after j f ≡ false) → ((o l q : ℕ) → d.rel o l q ≡ false) → Sofar n d
      none_done n d past a b = record {
        landed = λ j l f v i. absurd (rw (past j l) at i);
        placed = λ j l f v i. absurd (rw (past j l) at i);
        rel_right = λ o l q i j t. absurd (subst T (sym t ∙ b o l q) tt);
        after_right = λ j f t. absurd (subst T (sym t ∙ a j f) tt);
        after_clear = λ j f l. a j f;
      }
