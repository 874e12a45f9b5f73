-- The two passes as functions of the rows, with every lane: what the code computes a part of. They leave what they should, so the code has only to
-- agree with them. Nothing here has to be believed.
use Prim.Native.Nat.{ℕ, zero, suc, ◌-◌, ◌≤◌, ◌<◌}
use Rattle.std.proofs.Common.{arith, sym, ap, ap₂, inl, inr, ⊎_elim}
use Rattle.std.specs.Prelude.{◌≡◌, Bool, ◌&&◌, ◌||◌, ◌⊎◌, eqb}
use Rattle.std.proofs.Math.Path.{refl}
use Rattle.std.proofs.Math.Bool.{true, false}
use Rattle.psl.specs.Booleans.{Boolean, Letter}
use Rattle.psl.specs.Tells.{Tells, does, doesnt, tells_eq, tells_and, tells_or, tells_value, tells_true, true_tells, tells_no}
use Rattle.lanes.specs.Rows.{Row, r_bool, r_then, r_fuse, r_alt, r_star, r_plus, r_weak, r_left, r_rest, Has, Sound, Two, One, two_then, two_fuse, two_alt, one_star, one_plus, one_weak, one_left}
use Rattle.lanes.specs.Expected.{Table}
use Rattle.lanes.specs.UpPass.{Part, choose, then_part, fuse_part, alt_part, loop_part, operand_by, operand, RowPart}
use Rattle.lanes.specs.Uses.{Use}
use Rattle.lanes.specs.DownPass.{Work, LandsBy, give}
use Rattle.lanes.specs.Hands.{Hands, visits_two, visits_one, visits_none}
use Rattle.lanes.specs.DownLoop.{Visits}
use Rattle.lanes.specs.Results.{Done, pass_begins, pass_goes_on}

abbrev pub no_part : Part
no_part = record { empty = false; early = false; count = 0; ends = λ l. false }

module _ (row : ℕ → Row) (live : ℕ → Bool → Bool) (c : Letter) where
  -- the part of a row whose operands have the parts p
  abbrev build_part : (ℕ → Part) → Row → ℕ → Part
  build_part p (r_bool b) v = no_part
  build_part p (r_then a b) v = then_part (operand row live c p v false a) (operand row live c p v true b)
  build_part p (r_fuse a b) v = fuse_part (operand row live c p v false a) (operand row live c p v true b)
  build_part p (r_alt a b) v = alt_part (operand row live c p v false a) (operand row live c p v true b)
  build_part p (r_star a) v = loop_part true (operand row live c p v false a)
  build_part p (r_plus a) v = loop_part false (operand row live c p v false a)
  build_part p (r_weak a) v = no_part
  build_part p (r_left a) v = no_part
  build_part p r_rest v = no_part

  -- row v, with at most k rows below one another
  part_within : ℕ → ℕ → Part
  part_within zero v = no_part
  part_within (suc k) v = build_part (part_within k) (row v) v

  pub part_of : ℕ → Part
  part_of v = part_within (suc v) v

  operand_same : (p q : ℕ → Part) (n : ℕ) (f : Bool) (v : ℕ) → p v ≡ q v → operand row live c p n f v ≡ operand row live c q n f v
  operand_same p q n f v e = by (row v)
    where
      by : (R : Row) → operand_by row live c p R n f v ≡ operand_by row live c q R n f v
      by (r_bool b) = refl
      by (r_then a b) = e
      by (r_fuse a b) = e
      by (r_alt a b) = e
      by (r_star a) = e
      by (r_plus a) = e
      by (r_weak a) = e
      by (r_left a) = e
      by r_rest = e

  build_same : (p q : ℕ → Part) (R : Row) (v : ℕ) → ((f : Bool) (a : ℕ) → Has R f a → p a ≡ q a) → build_part p R v ≡ build_part q R v
  build_same p q (r_bool b) v e = refl
  build_same p q (r_then a b) v e = ap₂ then_part (operand_same p q v false a (e false a refl)) (operand_same p q v true b (e true b refl))
  build_same p q (r_fuse a b) v e = ap₂ fuse_part (operand_same p q v false a (e false a refl)) (operand_same p q v true b (e true b refl))
  build_same p q (r_alt a b) v e = ap₂ alt_part (operand_same p q v false a (e false a refl)) (operand_same p q v true b (e true b refl))
  build_same p q (r_star a) v e = ap (loop_part true) (operand_same p q v false a (e false a refl))
  build_same p q (r_plus a) v e = ap (loop_part false) (operand_same p q v false a (e false a refl))
  build_same p q (r_weak a) v e = refl
  build_same p q (r_left a) v e = refl
  build_same p q r_rest v e = refl

  module _ (sound : Sound row) where
    within_same : (k m v : ℕ) → v < k → v < m → part_within k v ≡ part_within m v
    unfolding part_within
    within_same zero m v p q = absurd (omega arith)
    within_same (suc k) zero v p q = absurd (omega arith)
    within_same (suc k) (suc m) v p q = build_same (part_within k) (part_within m) (row v) v (λ f a i. within_same k m a (omega (arith, sound.falls v f a i)) (omega (arith, sound.falls v f a i)))

    part_is : (v : ℕ) → part_of v ≡ build_part part_of (row v) v
    unfolding part_of part_within
    part_is v = build_same (part_within v) part_of (row v) v (λ f a i. within_same v (suc a) a (sound.falls v f a i) (omega arith))

    -- THE UPWARD PASS leaves at each row what its operands make of it
    pub parts_right : (v : ℕ) → RowPart row live c part_of (row v) v
    parts_right v = by (row v) (part_is v)
      where
        by : (R : Row) → part_of v ≡ build_part part_of R v → RowPart row live c part_of R v
        by (r_bool b) e = tt
        by (r_then a b) e = e
        by (r_fuse a b) e = e
        by (r_alt a b) e = e
        by (r_star a) e = e
        by (r_plus a) e = e
        by (r_weak a) e = tt
        by (r_left a) e = tt
        by r_rest e = tt

-- One operand handed its use: a cell's bit or its lanes, or the row's use.
abbrev pub same_field : Bool → Bool → Bool
same_field true g = g
same_field false true = false
same_field false false = true

abbrev pub cell_gets : ℕ → Bool → Use → Work → Work
cell_gets n f w d = record {
  uses = d.uses;
  after = λ j g. choose (eqb j n && (same_field f g && eqb w.owner 64)) (w.go 7) (d.after j g);
  rel = λ o l q. d.rel o l q || (eqb w.owner o && (eqb w.base q && w.go l));
}

abbrev pub use_if : Bool → Use → Use → Use
use_if true x y = x
use_if false x y = y

abbrev pub row_gets : ℕ → Use → Work → Work
row_gets v w d = record { uses = λ u. use_if (eqb u v) w (d.uses u); after = d.after; rel = d.rel }

abbrev pub hand : Row → ℕ → Bool → ℕ → Use → Work → Work
hand (r_bool b) n f v w d = cell_gets n f w d
hand (r_then a b) n f v w d = row_gets v w d
hand (r_fuse a b) n f v w d = row_gets v w d
hand (r_alt a b) n f v w d = row_gets v w d
hand (r_star a) n f v w d = row_gets v w d
hand (r_plus a) n f v w d = row_gets v w d
hand (r_weak a) n f v w d = d
hand (r_left a) n f v w d = d
hand r_rest n f v w d = d

eq_self : (n : ℕ) → eqb n n ≡ true
eq_self n = true_tells (tells_eq n n) refl

same_self : (f : Bool) → same_field f f ≡ true
same_self true = refl
same_self false = refl

same_is : (f g : Bool) → same_field f g ≡ true → g ≡ f
same_is true g e = e
same_is false true e = sym e
same_is false false e = refl

not_same : (j n : ℕ) → (j ≡ n → ⊥) → eqb j n ≡ false
not_same j n z = tells_no (tells_eq j n) z

module _ (row : ℕ → Row) (n : ℕ) (f : Bool) (v : ℕ) (w : Use) (d : Work) where
  cell_hands : (b : Boolean) → row v ≡ r_bool b → Hands row n f v w d (cell_gets n f w d)
  cell_hands b e = record {
    lands = rw e (record {
      merged = λ o. rw (eq_self n, same_self f, true_tells (tells_eq w.owner 64) o);
      apart = λ o l i g. or_r_true (d.rel w.owner l w.base) (rw (eq_self w.owner, eq_self w.base) g);
    });
    uses_else = λ u z. refl;
    after_else = λ j g z. elsewhere j g z (tells_eq j n);
    after_new = λ s. new (tells_eq w.owner 64) s;
    rel_more = λ o l q s. or_l_true _ s;
    rel_new = λ o l q s. lanes o l q s;
  }
    where
      or_r_true : (a : Bool) {b : Bool} → b ≡ true → a || b ≡ true
      or_r_true true h = refl
      or_r_true false h = h

      or_l_true : {a : Bool} (b : Bool) → a ≡ true → a || b ≡ true
      or_l_true b h = rw h

      elsewhere : (j : ℕ) (g : Bool) → (j ≡ n → g ≡ f → ⊥) → Tells (j ≡ n) (eqb j n) → choose (eqb j n && (same_field f g && eqb w.owner 64)) (w.go 7) (d.after j g) ≡ d.after j g
      elsewhere j g z tells = tells_same_as (tells_and tells (tells_and (tells_value (same_field f g)) (tells_value (eqb w.owner 64))))
        where
          tells_same_as : {b : Bool} → Tells ((j ≡ n) × ((same_field f g ≡ true) × (eqb w.owner 64 ≡ true))) b → choose b (w.go 7) (d.after j g) ≡ d.after j g
          tells_same_as (does h) = absurd (z h.0 (same_is f g h.1.0))
          tells_same_as (doesnt h) = refl

      new : {b : Bool} → Tells (w.owner ≡ 64) b → choose (eqb n n && (same_field f f && b)) (w.go 7) (d.after n f) ≡ true
          → (d.after n f ≡ true) ⊎ ((b : Boolean) × (row v ≡ r_bool b) × (w.owner ≡ 64) × (w.go 7 ≡ true))
      new (does o) s = inr (b, e, o, rw (eq_self n, same_self f) at s)
      new (doesnt o) s = inl (rw (eq_self n, same_self f) at s)

      lanes : (o l q : ℕ) → d.rel o l q || (eqb w.owner o && (eqb w.base q && w.go l)) ≡ true
          → (d.rel o l q ≡ true) ⊎ ((b : Boolean) × (row v ≡ r_bool b) × (w.owner ≡ o) × (w.base ≡ q) × (w.go l ≡ true))
      lanes o l q s = ⊎_elim (λ h. inl h) (λ h. inr (b, e, h.0, h.1.0, h.1.1))
          (tells_true (tells_or (tells_value (d.rel o l q)) (tells_and (tells_eq w.owner o) (tells_and (tells_eq w.base q) (tells_value (w.go l))))) s)

  row_hands : LandsBy (row_gets v w d) (row v) n f v w → Hands row n f v w d (row_gets v w d)
  row_hands h = record {
    lands = h;
    uses_else = λ u z. rw (not_same u v z);
    after_else = λ j g z. refl;
    after_new = λ s. inl s;
    rel_more = λ o l q s. s;
    rel_new = λ o l q s. inl s;
  }

  skip_hands : LandsBy d (row v) n f v w → Hands row n f v w d d
  skip_hands h = record {
    lands = h;
    uses_else = λ u z. refl;
    after_else = λ j g z. refl;
    after_new = λ s. inl s;
    rel_more = λ o l q s. s;
    rel_new = λ o l q s. inl s;
  }

  use_here : use_if (eqb v v) w (d.uses v) ≡ w
  use_here = rw (eq_self v)

  pub hand_hands : Hands row n f v w d (hand (row v) n f v w d)
  hand_hands = by (row v) refl
    where
      by : (R : Row) → row v ≡ R → Hands row n f v w d (hand R n f v w d)
      by (r_bool b) e = cell_hands b e
      by (r_then a b) e = row_hands (rw e use_here)
      by (r_fuse a b) e = row_hands (rw e use_here)
      by (r_alt a b) e = row_hands (rw e use_here)
      by (r_star a) e = row_hands (rw e use_here)
      by (r_plus a) e = row_hands (rw e use_here)
      by (r_weak a) e = skip_hands (rw e tt)
      by (r_left a) e = skip_hands (rw e tt)
      by r_rest e = skip_hands (rw e tt)

abbrev pub blank_use : Use
blank_use = record { owner = 64; base = 0; into = λ l. false; go = λ l. false }

abbrev pub blank : Work
blank = record { uses = λ v. blank_use; after = λ n f. false; rel = λ o l q. false }

module _ (row : ℕ → Row) (t : Table row) (live : ℕ → Bool → Bool) (c : Letter) (enter : ℕ → Bool) where
  -- what row n hands to its field f
  abbrev pub given : Work → ℕ → Bool → Use
  given d n f = give row live c (part_of row live c) enter (row n) n f (d.uses n)

  abbrev pub two_hands : ℕ → ℕ → ℕ → Work → Work
  two_hands n a b d = hand (row b) n true b (given d n true) (hand (row a) n false a (given d n false) d)

  abbrev pub one_hand : ℕ → ℕ → Work → Work
  one_hand n a d = hand (row a) n false a (given d n false) d

  -- the visit of a row
  abbrev pub visit_by : Row → ℕ → Work → Work
  visit_by (r_bool b) n d = d
  visit_by (r_then a b) n d = two_hands n a b d
  visit_by (r_fuse a b) n d = two_hands n a b d
  visit_by (r_alt a b) n d = two_hands n a b d
  visit_by (r_star a) n d = one_hand n a d
  visit_by (r_plus a) n d = one_hand n a d
  visit_by (r_weak a) n d = one_hand n a d
  visit_by (r_left a) n d = one_hand n a d
  visit_by r_rest n d = d

  unfoldable pub visit : ℕ → Work → Work
  visit n d = visit_by (row n) n d

  -- after the rows from 64 - k on
  unfoldable pub work_from : ℕ → Work
  work_from zero = blank
  work_from (suc k) = visit (63 - k) (work_from k)

  abbrev pub Visited : ℕ → Work → Work → Type 0
  Visited = Visits row live c (part_of row live c) enter

  pub visit_right : (n : ℕ) (d : Work) → Visited n d (visit n d)
  unfolding visit
  visit_right n d = by (row n) refl
    where
      two : (a b : ℕ) → Two (row n) a b → Visited n d (two_hands n a b d)
      two a b h = visits_two row live c (part_of row live c) enter t.sound n a b h d (hand (row a) n false a (given d n false) d) (two_hands n a b d)
          (hand_hands row n false a (given d n false) d) (hand_hands row n true b (given d n true) (hand (row a) n false a (given d n false) d))

      one : (a : ℕ) → One (row n) a → Visited n d (one_hand n a d)
      one a h = visits_one row live c (part_of row live c) enter t.sound n a h d (one_hand n a d) (hand_hands row n false a (given d n false) d)

      none : ((f : Bool) (v : ℕ) → Has (row n) f v → ⊥) → Visited n d d
      none h = visits_none row live c (part_of row live c) enter t.sound n d h

      by : (R : Row) → row n ≡ R → Visited n d (visit_by R n d)
      by (r_bool b) e = none (rw e (λ f v i. i))
      by (r_then a b) e = two a b (rw e two_then)
      by (r_fuse a b) e = two a b (rw e two_fuse)
      by (r_alt a b) e = two a b (rw e two_alt)
      by (r_star a) e = one a (rw e one_star)
      by (r_plus a) e = one a (rw e one_plus)
      by (r_weak a) e = one a (rw e one_weak)
      by (r_left a) e = one a (rw e one_left)
      by r_rest e = none (rw e (λ f v i. i))

  abbrev pub DoneFrom : ℕ → Work → Type 0
  DoneFrom = Done row t c enter live (part_of row live c)

  pub begun : DoneFrom 64 blank
  begun = pass_begins row t c enter live (part_of row live c) (parts_right row live c t.sound) 64 blank t.beyond (λ j f. refl) (λ o l q. refl)

  pub goes_on : (n : ℕ) (d : Work) → DoneFrom (suc n) d → DoneFrom n (visit n d)
  goes_on n d h = pass_goes_on row t c enter live (part_of row live c) (parts_right row live c t.sound) n d (visit n d) h (visit_right n d)

  pub work_none : work_from 0 ≡ blank
  unfolding work_from
  work_none = refl

  pub work_more : (k : ℕ) → work_from (suc k) ≡ visit (63 - k) (work_from k)
  unfolding work_from
  work_more k = refl

  -- what the pass keeps true, as far as it has come
  module _ (P : ℕ → Work → Type 0) (start : P 64 blank) (turn : (n : ℕ) (d : Work) → P (suc n) d → P n (visit n d)) where
    pub kept_up : (k n : ℕ) → n ≡ 64 - k → k ≤ 64 → P n (work_from k)
    kept_up zero n e l = rw (e, work_none) start
    kept_up (suc k) n e l =
        let q : 63 - k ≡ n = omega arith in
        rw (work_more k, q) (turn n (work_from k) (kept_up k (suc n) (omega arith) (omega arith)))

  -- THE DOWNWARD PASS is done
  unfoldable pub whole_work : Work
  whole_work = work_from 64

  pub whole_right : DoneFrom 0 whole_work
  unfolding whole_work
  whole_right = kept_up DoneFrom begun goes_on 64 0 (omega arith) (omega arith)
