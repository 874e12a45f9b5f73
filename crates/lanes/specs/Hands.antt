-- One operand handed its use, as the code does it; and from one or two of these what the visit of a row does.
-- Nothing here has to be believed.
use Rattle.std.specs.Prelude.{ℕ, ◌≡◌, refl, Bool, true, false, ◌⊎◌, T}
use Rattle.std.proofs.Common.{arith, sym, ◌∙◌, subst, inl, inr, ⊎_elim}
use Rattle.psl.specs.Booleans.{Boolean, Letter}
use Rattle.lanes.specs.Rows.{Row, r_bool, r_then, r_fuse, r_alt, r_star, r_plus, r_weak, r_left, r_rest, Has, IsSequence, Two, One, Sound, CellAt}
use Rattle.lanes.specs.UpPass.{Part}
use Rattle.lanes.specs.Uses.{Use}
use Rattle.lanes.specs.DownPass.{Work, LandsBy, give}
use Rattle.lanes.specs.DownLoop.{Visits}

module _ (row : ℕ → Row) where
  -- the arrays after operand v in field f of row n was handed w: what the contract of the code says
  pub record Hands (n : ℕ) (f : Bool) (v : ℕ) (w : Use) (d e : Work) : Type 0 where
    pub lands : LandsBy e (row v) n f v w
    pub uses_else : (u : ℕ) → (u ≡ v → ⊥) → e.uses u ≡ d.uses u
    pub after_else : (j : ℕ) (g : Bool) → (j ≡ n → g ≡ f → ⊥) → e.after j g ≡ d.after j g
    pub after_new : e.after n f ≡ true → (d.after n f ≡ true) ⊎ ((b : Boolean) × (row v ≡ r_bool b) × (w.owner ≡ 64) × (w.go 7 ≡ true))
    pub rel_more : (o l q : ℕ) → d.rel o l q ≡ true → e.rel o l q ≡ true
    pub rel_new : (o l q : ℕ) → e.rel o l q ≡ true → (d.rel o l q ≡ true) ⊎ ((b : Boolean) × (row v ≡ r_bool b) × (w.owner ≡ o) × (w.base ≡ q) × (w.go l ≡ true))

  no_field : false ≡ true → ⊥
  no_field e = subst T (sym e) tt

  -- what the left operand got is still there after the right one
  still : (R : Row) (n a b : ℕ) (x y : Use) (d e : Work) → row a ≡ R → (IsSequence (row a) → a ≡ b → ⊥) → Hands n true b y d e → LandsBy d R n false a x → LandsBy e R n false a x
  still (r_bool z) n a b x y d e q u h k = record { merged = λ o. h.after_else n false (λ i j. no_field j) ∙ k.merged o; apart = λ o l i j. h.rel_more _ _ _ (k.apart o l i j) }
  still (r_then i j) n a b x y d e q u h k = h.uses_else a (u (rw q tt)) ∙ k
  still (r_fuse i j) n a b x y d e q u h k = h.uses_else a (u (rw q tt)) ∙ k
  still (r_alt i j) n a b x y d e q u h k = h.uses_else a (u (rw q tt)) ∙ k
  still (r_star i) n a b x y d e q u h k = h.uses_else a (u (rw q tt)) ∙ k
  still (r_plus i) n a b x y d e q u h k = h.uses_else a (u (rw q tt)) ∙ k
  still (r_weak i) n a b x y d e q u h k = tt
  still (r_left i) n a b x y d e q u h k = tt
  still r_rest n a b x y d e q u h k = tt

  module _ (live : ℕ → Bool → Bool) (c : Letter) (part : ℕ → Part) (enter : ℕ → Bool) (sound : Sound row) where
    abbrev given : Work → ℕ → Bool → Use
    given d n f = give row live c part enter (row n) n f (d.uses n)

    module _ (n a b : ℕ) (t : Two (row n) a b) (d d₁ e : Work) (h : Hands n false a (given d n false) d d₁) (k : Hands n true b (given d n true) d₁ e) where
      uses_n : e.uses n ≡ d.uses n
      uses_n = k.uses_else n (λ z. omega (arith, sound.falls n true b t.has_b)) ∙ h.uses_else n (λ z. omega (arith, sound.falls n false a t.has_a))

      apart : IsSequence (row a) → a ≡ b → ⊥
      apart s z = no_field (sound.once n n false true a s t.has_a (subst (λ (v : ℕ). Has (row n) true v) (sym z) t.has_b)).1

      lands_by : (f : Bool) (v : ℕ) → Has (row n) f v → LandsBy e (row v) n f v (given d n f)
      lands_by false v i = rw (t.only_a v i) (still (row a) n a b (given d n false) (given d n true) d₁ e refl apart k h.lands)
      lands_by true v i = rw (t.only_b v i) k.lands

      uses_by : (v : ℕ) → ((f : Bool) → Has (row n) f v → ⊥) → e.uses v ≡ d.uses v
      uses_by v z = k.uses_else v (λ q. z true (rw q t.has_b)) ∙ h.uses_else v (λ q. z false (rw q t.has_a))

      cell_a : (z : Boolean) → row a ≡ r_bool z → CellAt row n false
      cell_a z q = record { at = a; boolean = z; has = t.has_a; is = q }

      cell_b : (z : Boolean) → row b ≡ r_bool z → CellAt row n true
      cell_b z q = record { at = b; boolean = z; has = t.has_b; is = q }

      after_by : (f : Bool) → e.after n f ≡ true → (d.after n f ≡ true) ⊎ (CellAt row n f × ((given d n f).owner ≡ 64) × ((given d n f).go 7 ≡ true))
      after_by false s = ⊎_elim (λ x. inl x) (λ x. inr (cell_a x.0 x.1, x.2, x.3)) (h.after_new (sym (k.after_else n false (λ i j. no_field j)) ∙ s))
      after_by true s = ⊎_elim (λ x. inl (sym (h.after_else n true (λ i j. no_field (sym j))) ∙ x)) (λ x. inr (cell_b x.0 x.1, x.2, x.3)) (k.after_new s)

      abbrev New : ℕ → ℕ → ℕ → Type 0
      New o l q = (f : Bool) × CellAt row n f × ((given d n f).owner ≡ o) × ((given d n f).base ≡ q) × ((given d n f).go l ≡ true)

      rel_by : (o l q : ℕ) → e.rel o l q ≡ true → (d.rel o l q ≡ true) ⊎ New o l q
      rel_by o l q s = ⊎_elim (λ x. ⊎_elim (λ y. inl y) (λ y. inr (false, cell_a y.0 y.1, y.2, y.3, y.4)) (h.rel_new o l q x))
          (λ x. inr (true, cell_b x.0 x.1, x.2, x.3, x.4)) (k.rel_new o l q s)

      -- TWO OPERANDS
      pub visits_two : Visits row live c part enter n d e
      visits_two = record {
        lands = λ f v i. rw uses_n (lands_by f v i);
        uses_else = uses_by;
        after_else = λ j f z. k.after_else j f (λ i y. z i) ∙ h.after_else j f (λ i y. z i);
        after_new = after_by;
        rel_more = λ o l q x. k.rel_more o l q (h.rel_more o l q x);
        rel_new = rel_by;
      }

    module _ (n a : ℕ) (t : One (row n) a) (d e : Work) (h : Hands n false a (given d n false) d e) where
      one_uses : e.uses n ≡ d.uses n
      one_uses = h.uses_else n (λ z. omega (arith, sound.falls n false a t.has_a))

      one_lands : (f : Bool) (v : ℕ) → Has (row n) f v → LandsBy e (row v) n f v (given d n f)
      one_lands false v i = rw (t.only_a v i) h.lands
      one_lands true v i = absurd (t.none_b v i)

      one_cell : (z : Boolean) → row a ≡ r_bool z → CellAt row n false
      one_cell z q = record { at = a; boolean = z; has = t.has_a; is = q }

      one_after : (f : Bool) → e.after n f ≡ true → (d.after n f ≡ true) ⊎ (CellAt row n f × ((given d n f).owner ≡ 64) × ((given d n f).go 7 ≡ true))
      one_after false s = ⊎_elim (λ x. inl x) (λ x. inr (one_cell x.0 x.1, x.2, x.3)) (h.after_new s)
      one_after true s = inl (sym (h.after_else n true (λ i j. no_field (sym j))) ∙ s)

      -- ONE OPERAND
      pub visits_one : Visits row live c part enter n d e
      visits_one = record {
        lands = λ f v i. rw one_uses (one_lands f v i);
        uses_else = λ v z. h.uses_else v (λ q. z false (rw q t.has_a));
        after_else = λ j f z. h.after_else j f (λ i y. z i);
        after_new = one_after;
        rel_more = h.rel_more;
        rel_new = λ o l q s. ⊎_elim (λ x. inl x) (λ x. inr (false, one_cell x.0 x.1, x.2, x.3, x.4)) (h.rel_new o l q s);
      }

    -- NO OPERAND
    pub visits_none : (n : ℕ) (d : Work) → ((f : Bool) (v : ℕ) → Has (row n) f v → ⊥) → Visits row live c part enter n d d
    visits_none n d nil = record {
      lands = λ f v i. absurd (nil f v i);
      uses_else = λ v z. refl;
      after_else = λ j f z. refl;
      after_new = λ f s. inl s;
      rel_more = λ o l q s. s;
      rel_new = λ o l q s. inl s;
    }
