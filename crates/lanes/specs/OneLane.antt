-- One lane: a step of marks, computed by handing down to each part whether the lane enters it on this letter (i) and on the next (g).
-- Nothing here has to be believed.
use Rattle.std.specs.Prelude.{◌≡◌, refl, Bool, true, false, ◌&&◌, ◌||◌}
use Rattle.std.proofs.Common.{sym, ◌∙◌, ap, ap₂}
use Rattle.std.proofs.Math.Bool.{or_comm, and-true, and-false, and_comm}
use Rattle.psl.specs.Booleans.{Letter, satisfies}
use Rattle.psl.specs.Sequences.{Sequence, cell, then, fuse, alt, star, plus}
use Rattle.psl.proofs.Marks.Automaton.{Marks, empty, join, gate, nullable, first, step}
use Rattle.psl.proofs.Marks.Linear.{join_empty_r, join_empty_l, join4, gate_or, step_join, step_empty, two}

-- the marks that read the letter: the lane's own, and the first cells if the lane enters now
abbrev pub fed : (r : Sequence) → Marks r → Bool → Marks r
fed r m i = join r m (gate r i (first r))

-- entered on this letter it can end on it
abbrev pub early : Sequence → Letter → Bool
early r c = (step r c (first r)).0

-- up: the lane ends r on this letter, from its own marks; and with what enters
abbrev pub ends : (r : Sequence) → Letter → Marks r → Bool
ends (cell b) c m = m && satisfies c b
ends (then a b) c m = ends b c m.1 || (nullable b && ends a c m.0)
ends (fuse a b) c m = ends b c m.1 || (early b c && ends a c m.0)
ends (alt a b) c m = ends b c m.1 || ends a c m.0
ends (star a) c m = ends a c m
ends (plus a) c m = ends a c m

abbrev pub ended : (r : Sequence) → Letter → Marks r → Bool → Bool
ended r c m i = ends r c m || (early r c && i)

-- down: the cells expected next
abbrev pub next : (r : Sequence) → Letter → Marks r → Bool → Bool → Marks r
next (cell b) c m i g = g
next (then a b) c m i g = (next a c m.0 i g, next b c m.1 (nullable a && i) (ended a c m.0 i || (nullable a && g)))
next (fuse a b) c m i g = (next a c m.0 i g, next b c m.1 (ended a c m.0 i) false)
next (alt a b) c m i g = (next a c m.0 i g, next b c m.1 i g)
next (star a) c m i g = next a c m i (g || ended a c m i)
next (plus a) c m i g = next a c m i (g || ended a c m i)

gate_empty : (r : Sequence) (d : Bool) → gate r d (empty r) ≡ empty r
gate_empty r true = refl
gate_empty r false = refl

gate_and : (r : Sequence) (d e : Bool) (m : Marks r) → gate r d (gate r e m) ≡ gate r (e && d) m
gate_and r true true m = refl
gate_and r true false m = refl
gate_and r false true m = refl
gate_and r false false m = refl

module _ (a b : Sequence) where
  gate_then : (d : Bool) (m : Marks a) (n : Marks b) → gate (then a b) d (m, n) ≡ (gate a d m, gate b d n)
  gate_then true m n = refl
  gate_then false m n = refl

  gate_fuse : (d : Bool) (m : Marks a) (n : Marks b) → gate (fuse a b) d (m, n) ≡ (gate a d m, gate b d n)
  gate_fuse true m n = refl
  gate_fuse false m n = refl

  gate_alt : (d : Bool) (m : Marks a) (n : Marks b) → gate (alt a b) d (m, n) ≡ (gate a d m, gate b d n)
  gate_alt true m n = refl
  gate_alt false m n = refl

module _ (a : Sequence) (m : Marks a) where
  gate_star : (d : Bool) → ◌≡◌ {A = Marks a} (gate (star a) d m) (gate a d m)
  gate_star true = refl
  gate_star false = refl

  gate_plus : (d : Bool) → ◌≡◌ {A = Marks a} (gate (plus a) d m) (gate a d m)
  gate_plus true = refl
  gate_plus false = refl

gated : (r : Sequence) (c : Letter) (d : Bool) (m : Marks r) → (step r c (gate r d m)).0 ≡ (step r c m).0 && d
gated r c true m = sym (and-true (step r c m).0)
gated r c false m = (step_empty r c).0 ∙ sym (and-false (step r c m).0)

pub step_fed : (r : Sequence) (c : Letter) (m : Marks r) (i : Bool) → (step r c (fed r m i)).0 ≡ (step r c m).0 || (early r c && i)
step_fed r c m i = (step_join r c m (gate r i (first r))).done ∙ ap (λ (k : Bool). (step r c m).0 || k) (gated r c i (first r))

pub ends_is : (r : Sequence) (c : Letter) (m : Marks r) → ends r c m ≡ (step r c m).0
ends_is (cell b) c m = refl
ends_is (then a b) c m = ap₂ (λ (x y : Bool). x || (nullable b && y)) (ends_is b c m.1) (ends_is a c m.0) ∙ or_comm (step b c m.1).0 (nullable b && (step a c m.0).0) ∙ ap (λ (k : Bool). k || (step b c m.1).0) (and_comm (nullable b) (step a c m.0).0)
ends_is (fuse a b) c m = ap₂ (λ (x y : Bool). x || (early b c && y)) (ends_is b c m.1) (ends_is a c m.0) ∙ sym (step_fed b c m.1 (step a c m.0).0)
ends_is (alt a b) c m = ap₂ ◌||◌ (ends_is b c m.1) (ends_is a c m.0) ∙ or_comm (step b c m.1).0 (step a c m.0).0
ends_is (star a) c m = ends_is a c m
ends_is (plus a) c m = ends_is a c m

pub ended_is : (r : Sequence) (c : Letter) (m : Marks r) (i : Bool) → ended r c m i ≡ (step r c (fed r m i)).0
ended_is r c m i = ap (λ (k : Bool). k || (early r c && i)) (ends_is r c m) ∙ sym (step_fed r c m i)

-- early of each kind, as the up pass computes it
pub early_then : (a b : Sequence) (c : Letter) → early (then a b) c ≡ (early a c && nullable b) || (nullable a && early b c)
early_then a b c = ap (λ (k : Bool). (early a c && nullable b) || k) (gated b c (nullable a) (first b) ∙ and_comm (early b c) (nullable a))

pub early_fuse : (a b : Sequence) (c : Letter) → early (fuse a b) c ≡ early a c && early b c
early_fuse a b c = ap (λ k. (step b c k).0) (join_empty_l b (gate b (early a c) (first b))) ∙ gated b c (early a c) (first b) ∙ and_comm (early b c) (early a c)

join_assoc : (r : Sequence) (k l m : Marks r) → join r (join r k l) m ≡ join r k (join r l m)
join_assoc r k l m = ap (λ x. join r (join r k l) x) (sym (join_empty_l r m)) ∙ join4 r k l (empty r) m ∙ ap (λ x. join r x (join r l m)) (join_empty_r r k)

-- what is handed to b of a ; b
hand : (b : Sequence) (y : Marks b) (n x g : Bool) → join b y (gate b (x || (n && g)) (first b)) ≡ join b (join b y (gate b x (first b))) (gate b g (gate b n (first b)))
hand b y n x g = ap (λ k. join b y k) (gate_or b x (n && g) (first b) ∙ ap (λ k. join b (gate b x (first b)) k) (sym (gate_and b g n (first b)))) ∙ sym (join_assoc b y (gate b x (first b)) (gate b g (gate b n (first b))))

again : (r : Sequence) (y : Marks r) (x g : Bool) → join r y (gate r (g || x) (first r)) ≡ join r (join r y (gate r x (first r))) (gate r g (first r))
again r y x g = ap (λ (k : Bool). join r y (gate r k (first r))) (or_comm g x) ∙ ap (λ k. join r y k) (gate_or r x g (first r)) ∙ sym (join_assoc r y (gate r x (first r)) (gate r g (first r)))

-- a step of marks k, joined with l
whole : (r : Sequence) (c : Letter) (m k l : Marks r) → Marks r
whole r c m k l = join r (step r c (join r m k)).1 l

-- ONE LANE IS RIGHT: the cells expected next are those of the step, with the first cells where the lane enters next.
pub next_is : (r : Sequence) (c : Letter) (m : Marks r) (i g : Bool) → next r c m i g ≡ join r (step r c (fed r m i)).1 (gate r g (first r))
unfolding whole
next_is (cell b) c m i true = refl
next_is (cell b) c m i false = refl
next_is (then a b) c m i g =
    two (next_is a c m.0 i g) (next_is b c m.1 (nullable a && i) (ended a c m.0 i || (nullable a && g))
    ∙ ap (λ (k : Bool). join b (step b c (fed b m.1 (nullable a && i))).1 (gate b (k || (nullable a && g)) (first b))) (ended_is a c m.0 i)
    ∙ hand b (step b c (fed b m.1 (nullable a && i))).1 (nullable a) (step a c (fed a m.0 i)).0 g
    ∙ ap (λ k. join b (join b (step b c (join b m.1 k)).1 (gate b (step a c (fed a m.0 i)).0 (first b))) (gate b g (gate b (nullable a) (first b)))) (sym (gate_and b i (nullable a) (first b))))
    ∙ sym (ap₂ (whole (then a b) c m) (gate_then a b i (first a) (gate b (nullable a) (first b))) (gate_then a b g (first a) (gate b (nullable a) (first b))))
next_is (fuse a b) c m i g =
    two (next_is a c m.0 i g) (next_is b c m.1 (ended a c m.0 i) false
    ∙ ap (λ (k : Bool). join b (step b c (fed b m.1 k)).1 (empty b)) (ended_is a c m.0 i)
    ∙ ap₂ (λ k l. join b (step b c (join b k (gate b (step a c (fed a m.0 i)).0 (first b)))).1 l) (sym (join_empty_r b m.1) ∙ ap (λ k. join b m.1 k) (sym (gate_empty b i))) (sym (gate_empty b g)))
    ∙ sym (ap₂ (whole (fuse a b) c m) (gate_fuse a b i (first a) (empty b)) (gate_fuse a b g (first a) (empty b)))
next_is (alt a b) c m i g = two (next_is a c m.0 i g) (next_is b c m.1 i g)
    ∙ sym (ap₂ (whole (alt a b) c m) (gate_alt a b i (first a) (first b)) (gate_alt a b g (first a) (first b)))
next_is (star a) c m i g =
    next_is a c m i (g || ended a c m i)
    ∙ ap (λ (k : Bool). join a (step a c (fed a m i)).1 (gate a (g || k) (first a))) (ended_is a c m i)
    ∙ again a (step a c (fed a m i)).1 (step a c (fed a m i)).0 g
    ∙ sym (ap₂ (whole (star a) c m) (gate_star a (first a) i) (gate_star a (first a) g))
next_is (plus a) c m i g =
    next_is a c m i (g || ended a c m i)
    ∙ ap (λ (k : Bool). join a (step a c (fed a m i)).1 (gate a (g || k) (first a))) (ended_is a c m i)
    ∙ again a (step a c (fed a m i)).1 (step a c (fed a m i)).0 g
    ∙ sym (ap₂ (whole (plus a) c m) (gate_plus a (first a) i) (gate_plus a (first a) g))

-- At the top nothing enters next, so they are those of the step alone.
pub next_top : (r : Sequence) (c : Letter) (m : Marks r) (i : Bool) → next r c m i false ≡ (step r c (fed r m i)).1
next_top r c m i = next_is r c m i false ∙ join_empty_r r (step r c (fed r m i)).1
