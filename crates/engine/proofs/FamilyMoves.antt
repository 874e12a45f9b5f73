-- The family step: a walk through the sets of a family, one family, and all of them.
use Prim.Native.Nat.{ℕ, zero, suc, ◌+◌, ◌%◌, ◌^◌, ◌<◌}
use native.Mathlib.Omega.{arith}
use native.Mathlib.Decide.{dec_lt}
use mathlib.Core.Path.{◌≡◌, refl, sym, ◌∙◌, ap, ap₂, subst}
use mathlib.Core.Bool.{Bool, true, false, not, ◌&&◌, ◌||◌, or-false, or-true, and_assoc}
use mathlib.Core.List.{List}
use lib.Bits.{bit_and, bit_or}
use lib.Dec.{T, eqb}
use lib.ListN.{get_or, set, length, length-set}
use lib.Seq.{get_or-set_same, get_or-set_other}
use borrow.Author.Tests.{eqb-true, eq-eqb}
use Rattle.psl.specs.Booleans.{bit}
use Rattle.psl.specs.Tells.{any, tells_value, tells_any}
use Rattle.words.specs.Bits.{bit_none, bit_high, set_below, bit_or_lem}
use Rattle.words.specs.Sets.{WithBit}
use Rattle.words.specs.Walk.{Turn, Left, left_start, left_turn, left_end}
use Rattle.table.proofs.Laws.Spans.{every}
use Rattle.accepted.specs.Shapes.{same, same_eq}
use Rattle.lanes.specs.Bits.{tells_same}
use Rattle.lanes.specs.Families.{no_six, only_six, image, set_ends, moves, moved_to}
use Rattle.engine.specs.Families.{leads_in, Moved}
use Rattle.engine.specs.FamilySteps.{Without, Leads, set_of, threes, image_of, image_by, Walked, Stepped, OneMoved}
use Rattle.engine.proofs.FamilyLaws.{image_is, fresh_is}

clash : {b : Bool} → b ≡ true → b ≡ false → ⊥
clash p q = subst T (sym p ∙ q) tt

-- ---- the walk: every set that is not left has moved, and nothing else is there

pub record Walking (to : ℕ → ℕ) (family left next : ℕ) : Type 0 where
  pub done : Left family left (λ p. bit next (to p % 64) ≡ true)
  pub only : (s : ℕ) → bit next s ≡ true → (p : ℕ) × (bit family p ≡ true) × (s ≡ to p % 64)

pub walk_start : (to : ℕ → ℕ) (family : ℕ) → Walking to family family 0
walk_start to family = record { done = left_start family; only = λ s e. absurd (clash e (bit_none s)) }

walk_on : {to : ℕ → ℕ} {family left next n rest new : ℕ} → Walking to family left next → Turn left n rest → WithBit next (to n) true new → Walking to family rest new
walk_on {to} {family} {left} {next} {n} {rest} {new} h t b = record {
  done = left_turn h.done t (λ p e. b.each (to p % 64) ∙ ap (λ (x : Bool). x || eqb (to p % 64) (to n % 64)) e) (b.each (to n % 64) ∙ rw (eq-eqb (to n % 64) (to n % 64) refl) (or-true (bit next (to n % 64))));
  only = λ s e. go s (bit next s) (eqb s (to n % 64)) (sym (b.each s) ∙ e) refl refl;
}
  where
    go : (s : ℕ) (x y : Bool) → x || y ≡ true → bit next s ≡ x → eqb s (to n % 64) ≡ y → (p : ℕ) × (bit family p ≡ true) × (s ≡ to p % 64)
    go s true y e f g = h.only s f
    go s false true e f g = (n, h.done.within n t.set, eqb-true s (to n % 64) g)
    go s false false e f g = absurd (clash e refl)

pub walk_turn : {to : ℕ → ℕ} {family left next n rest i new : ℕ} → Walking to family left next → Turn left n rest → i ≡ to n → WithBit next i true new → Walking to family rest new
walk_turn h t e b = walk_on h t (rw e at b)

pub walk_end : {to : ℕ → ℕ} {family next : ℕ} → Walking to family 0 next → Walked to family next
walk_end h = record { has = left_end h.done; only = h.only }

pub walk_none : (to : ℕ → ℕ) → Walked to 0 0
walk_none to = record { has = λ p e. absurd (clash e (bit_none p)); only = λ s e. absurd (clash e (bit_none s)) }

-- by the tables of the sets
pub moved_is : (sets : ℕ) (low high : List ℕ) (family r : ℕ) → low ≡ threes (set_of sets 0) (set_of sets 1) (set_of sets 2)
    → high ≡ threes (set_of sets 3) (set_of sets 4) (set_of sets 5) → Walked (image_of low high) family r → Walked (image_by sets) family r
unfolding image_by
moved_is sets low high family r a b h = subst (λ (to : ℕ → ℕ). Walked to family r) (λ i. image_of (a i) (b i)) h

-- ---- one family

both : (a b : Bool) → a && b ≡ true → (a ≡ true) × (b ≡ true)
both true b e = (refl, e)
both false b e = absurd (clash e refl)

-- an attempt starts, and lane 6 does not end it
abbrev begins_at : ℕ → Bool
begins_at top = same (eqb (bit_and top 192) 128) (bit top 7 && not (bit top 6))

begins : (top : ℕ) → top < 256 → eqb (bit_and top 192) 128 ≡ bit top 7 && not (bit top 6)
begins top l = same_eq _ _ (every begins_at 0 256 tt top (omega arith) (omega arith))

module _ (R : ℕ → ℕ → Bool) (old sets top left next r : ℕ) (leads : Leads R sets) (fits : left < 2 ^ 64) (byte : top < 256)
    (stays : Without old top left) (walked : Walked (image_by sets) left next) (fresh : WithBit next (set_of sets 6) (eqb (bit_and top 192) 128) r) where
  stay : (p : ℕ) → p < 64 → bit left p ≡ bit old p && not (set_ends (bit top) R p)
  stay p l = stays.each p l ∙ ap (λ (b : Bool). bit old p && not b) (sym (no_six p (bit top) l))

  goes : (p s : ℕ) → p < 64 → bit left p ≡ true → s ≡ image_by sets p % 64 → bit old p && moves (bit top) R p s ≡ true
  goes p s l e f = sym (and_assoc (bit old p) (not (set_ends (bit top) R p)) (eqb s (image (bit top) R p)))
      ∙ ap₂ ◌&&◌ (sym (stay p l) ∙ e) (eq-eqb s (image (bit top) R p) (f ∙ image_is R sets leads p l))

  comes : (p s : ℕ) → p < 64 → bit old p && moves (bit top) R p s ≡ true → bit next s ≡ true
  comes p s l e =
      let h = both (bit old p && not (set_ends (bit top) R p)) (eqb s (image (bit top) R p)) (and_assoc (bit old p) (not (set_ends (bit top) R p)) (eqb s (image (bit top) R p)) ∙ e) in
      ap (bit next) (eqb-true s (image (bit top) R p) h.1 ∙ sym (image_is R sets leads p l)) ∙ walked.has p (stay p l ∙ h.0)

  old_sets : (s : ℕ) → bit next s ≡ any 64 (λ p. bit old p && moves (bit top) R p s)
  old_sets s = tells_same (tells_value (bit next s)) (tells_any _ _ (λ p. tells_value (bit old p && moves (bit top) R p s)) 64)
      (λ e. let h = walked.only s e in let l = set_below 64 left h.0 fits h.1 in (h.0, l, goes h.0 s l h.1 h.2))
      (λ k. comes k.0 s k.1 k.2)

  new_set : (s : ℕ) → eqb (bit_and top 192) 128 && eqb s (set_of sets 6 % 64) ≡ bit top 7 && moves (bit top) R 64 s
  new_set s =
      ap₂ (λ (a b : Bool). a && b) (begins top byte ∙ ap (λ (b : Bool). bit top 7 && not b) (sym (only_six (bit top)))) (ap (eqb s) (fresh_is R sets leads))
      ∙ and_assoc (bit top 7) (not (set_ends (bit top) R 64)) (eqb s (image (bit top) R 64))

  family_is : (s : ℕ) → bit r s ≡ moved_to (bit top) R (bit top 7) (bit old) s
  family_is s = fresh.each s ∙ ap₂ ◌||◌ (old_sets s) (new_set s)

pub stepped : (old sets top left next i r : ℕ) → left < 2 ^ 64 → top < 256 → Without old top left → Walked (image_by sets) left next → i ≡ set_of sets 6
    → WithBit next i (eqb (bit_and top 192) 128) r → Stepped old sets top r
stepped old sets top left next i r fits byte stays walked e fresh = record { each = λ R leads s l. family_is R old sets top left next r leads fits byte stays walked (rw e at fresh) s }

-- a family of no sets where no attempt starts
nothing : (n : ℕ) (f : ℕ → Bool) → any n (λ p. bit 0 p && f p) ≡ false
unfolding any
nothing zero f = refl
nothing (suc n) f = ap₂ ◌||◌ (ap (λ (b : Bool). b && f n) (bit_none n)) (nothing n f)

quiet : (R : ℕ → ℕ → Bool) (top s : ℕ) → top < 128 → moved_to (bit top) R (bit top 7) (bit 0) s ≡ false
quiet R top s l = ap₂ ◌||◌ (nothing 64 (λ p. moves (bit top) R p s)) (ap (λ (b : Bool). b && moves (bit top) R 64 s) (bit_high 7 top 7 l (omega arith)))

-- ---- the family w in its place

module _ (w all : ℕ) (tops leads old : List ℕ) where
  pub one_quiet : get_or old w 0 ≡ 0 → get_or tops w 0 < 128 → OneMoved w all tops leads old old all
  one_quiet e l = record {
    each = λ s i. none s ∙ sym (ap (λ (x : ℕ). moved_to (bit (get_or tops w 0)) (leads_in leads w) (bit (get_or tops w 0) 7) (bit x) s) e ∙ quiet (leads_in leads w) (get_or tops w 0) s l);
    others = λ v n. refl;
    all_is = λ s. sym (ap (λ (b : Bool). bit all s || b) (none s) ∙ or-false (bit all s));
    size = refl;
  }
    where
      none : (s : ℕ) → bit (get_or old w 0) s ≡ false
      none s = ap (λ (x : ℕ). bit x s) e ∙ bit_none s

  pub one_moved : (sets next : ℕ) → w < length old → Leads (leads_in leads w) sets → Stepped (get_or old w 0) sets (get_or tops w 0) next → OneMoved w all tops leads old (set old w next) (bit_or all next)
  one_moved sets next l h k = record {
    each = λ s i. ap (λ (x : ℕ). bit x s) here ∙ k.each (leads_in leads w) h s i;
    others = λ v n. get_or-set_other old w v next 0 n;
    all_is = λ s. bit_or_lem all next s ∙ ap (λ (x : ℕ). bit all s || bit x s) (sym here);
    size = length-set old w next;
  }
    where
      here : get_or (set old w next) w 0 ≡ next
      here = get_or-set_same old w next 0 l

-- ---- all families

module _ (tops leads old : List ℕ) where
  pub all_start : Moved 0 tops leads old old 0
  all_start = record {
    each = λ w l. absurd (omega arith);
    others = λ w l. refl;
    all_has = λ w l. absurd (omega arith);
    all_only = λ s e. absurd (clash e (bit_none s));
    size = refl;
  }

  module _ (w all r : ℕ) (mid new : List ℕ) (m : Moved w tops leads old mid all) (o : OneMoved w all tops leads mid new r) where
    at : (v : ℕ) → v < w + 1 → (v < w → get_or new v 0 ≡ get_or mid v 0) × ((v < w → ⊥) → v ≡ w)
    at v l = (λ h. o.others v (λ e. omega arith), λ h. omega arith)

    pub all_turn : Moved (w + 1) tops leads old new r
    all_turn = record {
      each = λ v l s i. elim (dec_lt v w) [
        | yes h ↦ ap (λ (x : ℕ). bit x s) ((at v l).0 h) ∙ m.each v h s i
        | no h ↦ rw ((at v l).1 h) (o.each s i ∙ ap (λ (x : ℕ). moved_to (bit (get_or tops w 0)) (leads_in leads w) (bit (get_or tops w 0) 7) (bit x) s) (m.others w (omega arith)))
      ];
      others = λ v l. o.others v (λ e. omega arith) ∙ m.others v (omega arith);
      all_has = λ v l s e. o.all_is s ∙ elim (dec_lt v w) [
        | yes h ↦ ap (λ (b : Bool). b || bit (get_or new w 0) s) (m.all_has v h s (ap (λ (x : ℕ). bit x s) (sym ((at v l).0 h)) ∙ e))
        | no h ↦ ap (λ (b : Bool). bit all s || b) (rw ((at v l).1 h) at e) ∙ or-true (bit all s)
      ];
      all_only = λ s e. go s (bit all s) (bit (get_or new w 0) s) (sym (o.all_is s) ∙ e) refl refl;
      size = o.size ∙ m.size;
    }
      where
        go : (s : ℕ) (x y : Bool) → x || y ≡ true → bit all s ≡ x → bit (get_or new w 0) s ≡ y → (v : ℕ) × (v < w + 1) × (bit (get_or new v 0) s ≡ true)
        go s true y e f g = let h = m.all_only s f in (h.0, omega (arith, h.1), ap (λ (x : ℕ). bit x s) ((at h.0 (omega (arith, h.1))).0 h.1) ∙ h.2)
        go s false true e f g = (w, omega arith, g)
        go s false false e f g = absurd (clash e refl)
