-- Sets of cells by number: the marks that a test of cell numbers gives, the number of a mark, and the bits of a mask.
-- Nothing here has to be believed.
use Rattle.std.specs.Prelude.{ℕ, zero, suc, ◌+◌, ◌-◌, ◌*◌, ◌/◌, ◌%◌, ◌^◌, ◌≤◌, ◌<◌, ◌≡◌, refl, Bool, true, false, ◌&&◌, ◌||◌, ◌⊎◌, eqb}
use Rattle.std.proofs.Common.{add-zero, add_assoc, arith, sym, ◌∙◌, ap₂, inl, inr, shr-shr}
use Rattle.std.proofs.Math.Bool.{or-false}
use Rattle.std.proofs.lemmas.Nat.{mod-pow-add}
use Rattle.psl.specs.Booleans.{bit}
use Rattle.psl.specs.Sequences.{Sequence, cell, then, fuse, alt, star, plus}
use Rattle.psl.proofs.Marks.Automaton.{Marks, empty, join, gate}
use Rattle.psl.proofs.Marks.Masks.{cells, mask, unmask, digit}
use Rattle.psl.proofs.Marks.Linear.{two}
use Rattle.psl.specs.Tells.{tells_eq, tells_no, true_tells}
use Rattle.lanes.specs.Bits.{tells_same}

-- cell number k, counted from the left, from b on, is marked just if f k
abbrev pub fill : (r : Sequence) → ℕ → (ℕ → Bool) → Marks r
fill (cell x) b f = f b
fill (then x y) b f = (fill x b f, fill y (b + cells x) f)
fill (fuse x y) b f = (fill x b f, fill y (b + cells x) f)
fill (alt x y) b f = (fill x b f, fill y (b + cells x) f)
fill (star x) b f = fill x b f
fill (plus x) b f = fill x b f

-- the one cell l
abbrev pub own : (r : Sequence) → ℕ → ℕ → Marks r
own r b l = fill r b (λ k. eqb k l)

module _ (f g : ℕ → Bool) where
  abbrev pub SameOn : ℕ → ℕ → Type 0
  SameOn b n = (k : ℕ) → b ≤ k → k < b + n → f k ≡ g k

  fill_two : (x y : Sequence) (b : ℕ) → SameOn b (cells y + cells x)
      → (SameOn b (cells x) → fill x b f ≡ fill x b g) → (SameOn (b + cells x) (cells y) → fill y (b + cells x) f ≡ fill y (b + cells x) g)
      → ◌≡◌ {A = Marks x × Marks y} (fill x b f, fill y (b + cells x) f) (fill x b g, fill y (b + cells x) g)
  fill_two x y b h p q = two (p (λ k l m. h k l (omega arith))) (q (λ k l m. h k (omega arith) (omega arith)))

  pub fill_same : (r : Sequence) (b : ℕ) → SameOn b (cells r) → fill r b f ≡ fill r b g
  fill_same (cell x) b h = h b (omega arith) (omega arith)
  fill_same (then x y) b h = fill_two x y b h (fill_same x b) (fill_same y (b + cells x))
  fill_same (fuse x y) b h = fill_two x y b h (fill_same x b) (fill_same y (b + cells x))
  fill_same (alt x y) b h = fill_two x y b h (fill_same x b) (fill_same y (b + cells x))
  fill_same (star x) b h = fill_same x b h
  fill_same (plus x) b h = fill_same x b h

  pub fill_or : (r : Sequence) (b : ℕ) → fill r b (λ k. f k || g k) ≡ join r (fill r b f) (fill r b g)
  fill_or (cell x) b = refl
  fill_or (then x y) b = two (fill_or x b) (fill_or y (b + cells x))
  fill_or (fuse x y) b = two (fill_or x b) (fill_or y (b + cells x))
  fill_or (alt x y) b = two (fill_or x b) (fill_or y (b + cells x))
  fill_or (star x) b = fill_or x b
  fill_or (plus x) b = fill_or x b

pub fill_none : (r : Sequence) (b : ℕ) → fill r b (λ k. false) ≡ empty r
fill_none (cell x) b = refl
fill_none (then x y) b = two (fill_none x b) (fill_none y (b + cells x))
fill_none (fuse x y) b = two (fill_none x b) (fill_none y (b + cells x))
fill_none (alt x y) b = two (fill_none x b) (fill_none y (b + cells x))
fill_none (star x) b = fill_none x b
fill_none (plus x) b = fill_none x b

pub fill_gate : (r : Sequence) (b : ℕ) (d : Bool) (f : ℕ → Bool) → fill r b (λ k. d && f k) ≡ gate r d (fill r b f)
fill_gate r b true f = refl
fill_gate r b false f = fill_none r b

-- a mask's bits
unmask_more : (y : Sequence) (p b n : ℕ) {m : Marks y} → unmask y (p / 2 ^ (b + n)) ≡ m → unmask y (p / 2 ^ b / 2 ^ n) ≡ m
unmask_more y p b n e = rw (shr-shr p b n) e

pub unmask_fill : (r : Sequence) (p b : ℕ) → unmask r (p / 2 ^ b) ≡ fill r b (bit p)
unmask_fill (cell x) p b = refl
unmask_fill (then x y) p b = two (unmask_fill x p b) (unmask_more y p b (cells x) (unmask_fill y p (b + cells x)))
unmask_fill (fuse x y) p b = two (unmask_fill x p b) (unmask_more y p b (cells x) (unmask_fill y p (b + cells x)))
unmask_fill (alt x y) p b = two (unmask_fill x p b) (unmask_more y p b (cells x) (unmask_fill y p (b + cells x)))
unmask_fill (star x) p b = unmask_fill x p b
unmask_fill (plus x) p b = unmask_fill x p b

digit_mod : (n : ℕ) → digit (eqb (n % 2) 1) ≡ n % 2 ^ 1
digit_mod n = go (n % 2) (omega arith)
  where
    go : (x : ℕ) → x < 2 → digit (eqb x 1) ≡ x
    go zero l = refl
    go (suc zero) l = refl
    go (suc (suc x)) l = absurd (omega arith)

mask_two : (x y : Sequence) (n : ℕ) → mask x (unmask x n) ≡ n % 2 ^ cells x → mask y (unmask y (n / 2 ^ cells x)) ≡ n / 2 ^ cells x % 2 ^ cells y
    → mask y (unmask y (n / 2 ^ cells x)) * 2 ^ cells x + mask x (unmask x n) ≡ n % 2 ^ (cells y + cells x)
mask_two x y n p q = ap₂ (λ (i j : ℕ). i * 2 ^ cells x + j) q p ∙ sym (mod-pow-add n (cells y) (cells x))

pub mask_unmask : (r : Sequence) (n : ℕ) → mask r (unmask r n) ≡ n % 2 ^ cells r
mask_unmask (cell x) n = digit_mod n
mask_unmask (then x y) n = mask_two x y n (mask_unmask x n) (mask_unmask y (n / 2 ^ cells x))
mask_unmask (fuse x y) n = mask_two x y n (mask_unmask x n) (mask_unmask y (n / 2 ^ cells x))
mask_unmask (alt x y) n = mask_two x y n (mask_unmask x n) (mask_unmask y (n / 2 ^ cells x))
mask_unmask (star x) n = mask_unmask x n
mask_unmask (plus x) n = mask_unmask x n

-- the mark at cell number q, the cells being numbered from b on
abbrev pub at : (r : Sequence) → ℕ → Marks r → ℕ → Bool
at (cell x) b m q = eqb q b && m
at (then x y) b m q = at x b m.0 q || at y (b + cells x) m.1 q
at (fuse x y) b m q = at x b m.0 q || at y (b + cells x) m.1 q
at (alt x y) b m q = at x b m.0 q || at y (b + cells x) m.1 q
at (star x) b m q = at x b m q
at (plus x) b m q = at x b m q

eqb_no : (m n : ℕ) → (m ≡ n → ⊥) → eqb m n ≡ false
eqb_no m n h = tells_no (tells_eq m n) h

abbrev Out : ℕ → ℕ → ℕ → Type 0
Out q b n = (q < b) ⊎ (b + n ≤ q)

out_two : (x y : Sequence) (b q : ℕ) {c d : Bool} → Out q b (cells y + cells x) → (Out q b (cells x) → c ≡ false) → (Out q (b + cells x) (cells y) → d ≡ false) → c || d ≡ false
out_two x y b q (inl h) f g = rw (f (inl h), g (inl (omega arith)))
out_two x y b q (inr h) f g = rw (f (inr (omega arith)), g (inr (omega arith)))

pub at_out : (r : Sequence) (b : ℕ) (m : Marks r) (q : ℕ) → Out q b (cells r) → at r b m q ≡ false
at_out (cell x) b m q (inl h) = rw (eqb_no q b (λ e. omega arith))
at_out (cell x) b m q (inr h) = rw (eqb_no q b (λ e. omega arith))
at_out (then x y) b m q h = out_two x y b q h (at_out x b m.0 q) (at_out y (b + cells x) m.1 q)
at_out (fuse x y) b m q h = out_two x y b q h (at_out x b m.0 q) (at_out y (b + cells x) m.1 q)
at_out (alt x y) b m q h = out_two x y b q h (at_out x b m.0 q) (at_out y (b + cells x) m.1 q)
at_out (star x) b m q h = at_out x b m q h
at_out (plus x) b m q h = at_out x b m q h

module _ (x y : Sequence) (b : ℕ) (m : Marks x) (n : Marks y) where
  fill_at_two : fill x b (at x b m) ≡ m → fill y (b + cells x) (at y (b + cells x) n) ≡ n
      → ◌≡◌ {A = Marks x × Marks y} (fill x b (λ q. at x b m q || at y (b + cells x) n q), fill y (b + cells x) (λ q. at x b m q || at y (b + cells x) n q)) (m, n)
  fill_at_two p q = two
      (fill_same _ (at x b m) x b (λ k i j. rw (at_out y (b + cells x) n k (inl j)) (or-false (at x b m k))) ∙ p)
      (fill_same _ (at y (b + cells x) n) y (b + cells x) (λ k i j. rw (at_out x b m k (inr i))) ∙ q)

same_eqb : (n : ℕ) → eqb n n ≡ true
same_eqb n = true_tells (tells_eq n n) refl

pub fill_at : (r : Sequence) (b : ℕ) (m : Marks r) → fill r b (at r b m) ≡ m
fill_at (cell x) b m = rw (same_eqb b)
fill_at (then x y) b m = fill_at_two x y b m.0 m.1 (fill_at x b m.0) (fill_at y (b + cells x) m.1)
fill_at (fuse x y) b m = fill_at_two x y b m.0 m.1 (fill_at x b m.0) (fill_at y (b + cells x) m.1)
fill_at (alt x y) b m = fill_at_two x y b m.0 m.1 (fill_at x b m.0) (fill_at y (b + cells x) m.1)
fill_at (star x) b m = fill_at x b m
fill_at (plus x) b m = fill_at x b m

-- numbers k higher
shift_two : (x y : Sequence) (k b : ℕ) (f : ℕ → Bool) → fill x (k + b) f ≡ fill x b (λ q. f (k + q)) → fill y (k + (b + cells x)) f ≡ fill y (b + cells x) (λ q. f (k + q))
    → ◌≡◌ {A = Marks x × Marks y} (fill x (k + b) f, fill y (k + b + cells x) f) (fill x b (λ q. f (k + q)), fill y (b + cells x) (λ q. f (k + q)))
shift_two x y k b f p q = two p (rw add_assoc q)

pub fill_shift : (r : Sequence) (k b : ℕ) (f : ℕ → Bool) → fill r (k + b) f ≡ fill r b (λ q. f (k + q))
fill_shift (cell x) k b f = refl
fill_shift (then x y) k b f = shift_two x y k b f (fill_shift x k b f) (fill_shift y k (b + cells x) f)
fill_shift (fuse x y) k b f = shift_two x y k b f (fill_shift x k b f) (fill_shift y k (b + cells x) f)
fill_shift (alt x y) k b f = shift_two x y k b f (fill_shift x k b f) (fill_shift y k (b + cells x) f)
fill_shift (star x) k b f = fill_shift x k b f
fill_shift (plus x) k b f = fill_shift x k b f

pub own_low : (r : Sequence) (b l : ℕ) → l < b → own r b l ≡ empty r
own_low r b l h = fill_same _ (λ k. false) r b (λ k i j. eqb_no k l (λ e. omega arith)) ∙ fill_none r b

pub own_high : (r : Sequence) (b l : ℕ) → b + cells r ≤ l → own r b l ≡ empty r
own_high r b l h = fill_same _ (λ k. false) r b (λ k i j. eqb_no k l (λ e. omega arith)) ∙ fill_none r b

pub own_shift : (r : Sequence) (k l : ℕ) → k ≤ l → own r k l ≡ own r 0 (l - k)
own_shift r k l h = rw add-zero at (fill_shift r k 0 (λ q. eqb q l)) ∙ fill_same _ _ r 0 (λ q i j. tells_same (tells_eq (k + q) l) (tells_eq q (l - k)) (λ e. omega arith) (λ e. omega arith))
