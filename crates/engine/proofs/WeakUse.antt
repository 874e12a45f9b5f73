-- The uses of the rows of weak sequences, downwards: what is handed on is what the operands are to get.
use Prim.Native.Nat.{ℕ, ◌+◌, ◌*◌, ◌%◌, ◌^◌, ◌≤◌, ◌<◌}
use native.Mathlib.Nat.{mod-eq_of_lt, add_assoc, sub-zero}
use native.Mathlib.Omega.{arith}
use native.Mathlib.Decide.{dec_lt}
use mathlib.Core.Path.{◌≡◌, refl, sym, ◌∙◌, ap, ap₂}
use mathlib.Core.Bool.{Bool, true, false, not, ◌&&◌, ◌||◌, and-true, and-false}
use lib.Bits.{bit_or, bit_and, or_zero_r}
use lib.Dec.{eqb}
use borrow.Author.Tests.{lt-ltb, le-ltb, ne_eqb}
use Rattle.psl.specs.Booleans.{bit}
use Rattle.words.specs.Bits.{bit_none, bit_high, bit_or_lem, bit_and_lem, bit_one, bit_ones}
use Rattle.lanes.specs.ShiftedLanes.{shifted}
use Rattle.lanes.specs.UpPass.{Part, placed, placed_low}
use Rattle.lanes.specs.Uses.{Use, owned, ended_lanes, base_after}
use Rattle.lanes.specs.DownPass.{weak_use}
use Rattle.engine.specs.declared.weak_parts.Part.{Part as PartBytes}
use Rattle.engine.specs.declared.weak_uses.Use.{Use as UseBytes}
use Rattle.engine.specs.WeakParts.{only_if, Shifted, ActIs, PartIs}
use Rattle.engine.specs.WeakUses.{UseIs, Ends, ThenUse, FuseUse, LeftUse, WholeUse, Tops}
use Rattle.std.proofs.Math.Bool.{or-false, or-true}
use Rattle.engine.proofs.WeakBits.{only_bit, tested, shift_lanes, low_7, low_127}

owned_is : (o l : ℕ) → o < 64 → l < 7 → owned o l ≡ true
owned_is o l h i = rw (lt-ltb o 64 h, lt-ltb l 7 i)

pub ends_is : (act : ℕ) (b : UseBytes) (s x : ℕ) → Shifted act b.place s → x ≡ only_if (not (eqb (bit_and act 64) 0)) b.into → Ends act b (bit_or s x)
ends_is act b s x S X owns number p u P U l h =
    bit_or_lem s x l ∙ ap₂ ◌||◌ left (ap (λ (w : ℕ). bit w l) X ∙ only_bit (not (eqb (bit_and act 64) 0)) b.into l ∙ ap₂ ◌&&◌ (tested act 6 ∙ P.early_is) (U.into_are l h))
  where
    base : b.place % 8 ≡ u.base
    base = omega (arith, U.place_is, U.base_low)

    shown : bit s l ≡ placed u.base p.ends l
    shown = elim (dec_lt l 6) [
      | yes i ↦ S.each l i ∙ shift_lanes p act (b.place % 8) l P i ∙ ap (λ (k : ℕ). placed k p.ends l) base
      | no i ↦ (let e : l ≡ 6 = omega arith in rw e (S.high 6 (omega arith)))
    ]

    left : bit s l ≡ placed u.base p.ends l && owned u.owner l
    left = shown ∙ sym (ap (λ (b : Bool). placed u.base p.ends l && b) (owned_is u.owner l U.owner_low h) ∙ and-true (placed u.base p.ends l))

-- the place after a part, where both fit into eight lanes
after_place : (N b k place q : ℕ) → N < 32 → b + k < 8 → place ≡ 8 * N + b → q ≡ (place + k) % 256 → q ≡ 8 * N + (b % 8 + k % 8) % 8
after_place N b k place q small fits P Q =
    let bb : b % 8 ≡ b = mod-eq_of_lt (omega arith) in
    let kk : k % 8 ≡ k = mod-eq_of_lt (omega arith) in
    let far : (place + k) % 256 ≡ place + k = mod-eq_of_lt (omega arith) in
    Q ∙ far ∙ ap (λ (z : ℕ). z + k) P ∙ add_assoc (8 * N) b k ∙ ap (λ (z : ℕ). 8 * N + z) (sym (ap₂ (λ (y z : ℕ). (y + z) % 8) bb kk ∙ mod-eq_of_lt fits))

-- The use of the part after p: its place follows that of p, and its lanes are those told.
module _ (a : PartBytes) (b r : UseBytes) (Q : r.place ≡ (b.place + a.count) % 256) where
  pub after : {owns : ℕ → Bool} {number : ℕ → ℕ} {p : Part} {u : Use} (into go : ℕ → Bool) → PartIs p a → UseIs owns number u b → u.base + p.count < 8
      → ((l : ℕ) → l < 7 → bit r.into l ≡ into l) → ((l : ℕ) → l < 7 → bit r.go l ≡ go l)
      → UseIs owns number (record { owner = u.owner; base = base_after p u; into = into; go = go }) r
  after {owns} {number} {p} {u} into go P U fits I G = record {
    owner_is = U.owner_is;
    owner_low = U.owner_low;
    number_low = U.number_low;
    base_low = omega arith;
    place_is = after_place (number u.owner) u.base p.count b.place r.place U.number_low fits U.place_is (Q ∙ ap (λ (k : ℕ). (b.place + k) % 256) P.count_is);
    into_are = I;
    go_are = G;
  }

  pub then_use_is : (e y : ℕ) → r.into ≡ only_if (not (eqb (bit_and a.act 128) 0)) b.into → Ends a.act b e
      → y ≡ only_if (not (eqb (bit_and a.act 128) 0)) b.go → r.go ≡ bit_or e y → ThenUse a b r
  then_use_is e y X E Y G owns number p u P U fits = after _ _ P U fits
      (λ l h. ap (λ (w : ℕ). bit w l) X ∙ only_bit (not (eqb (bit_and a.act 128) 0)) b.into l ∙ ap₂ ◌&&◌ (tested a.act 7 ∙ P.act_is.empty_is) (U.into_are l h))
      (λ l h. ap (λ (w : ℕ). bit w l) G ∙ bit_or_lem e y l ∙ ap₂ ◌||◌ (E owns number p u P.act_is U l h)
      (ap (λ (w : ℕ). bit w l) Y ∙ only_bit (not (eqb (bit_and a.act 128) 0)) b.go l ∙ ap₂ ◌&&◌ (tested a.act 7 ∙ P.act_is.empty_is) (U.go_are l h)))

  -- a can neither be empty nor end at once
  pub then_use_plain : a.act < 64 → r.into ≡ 0 → Shifted a.act b.place r.go → ThenUse a b r
  then_use_plain low I S = then_use_is (bit_or r.go 0) 0 (I ∙ none 7 b.into (omega arith)) (ends_is a.act b r.go 0 S (none 6 b.into (omega arith))) (none 7 b.go (omega arith))
      (sym (or_zero_r (bit_or r.go 0) ∙ or_zero_r r.go))
    where
      none : (i x : ℕ) → 6 ≤ i → 0 ≡ only_if (not (eqb (bit_and a.act (2 ^ i)) 0)) x
      none i x h = rw (tested a.act i, bit_high 6 a.act i low h) refl

  pub fuse_use_is : Ends a.act b r.into → r.go ≡ 0 → FuseUse a b r
  fuse_use_is E G owns number p u P U fits = after _ _ P U fits (λ l h. E owns number p u P.act_is U l h) (λ l h. ap (λ (w : ℕ). bit w l) G ∙ bit_none l)

pub left_loop : {kind : ℕ} (a : PartBytes) (b : UseBytes) (e : ℕ) → 18 < kind → Ends a.act b e → LeftUse kind a b (record { place = b.place; into = b.into; go = bit_or b.go e })
left_loop a b e high E owns number p u P U = record {
  pair_is = λ y. absurd (omega arith);
  loop_is = λ y. record {
    owner_is = U.owner_is;
    owner_low = U.owner_low;
    number_low = U.number_low;
    base_low = U.base_low;
    place_is = U.place_is;
    into_are = U.into_are;
    go_are = λ l h. bit_or_lem b.go e l ∙ ap₂ ◌||◌ (U.go_are l h) (E owns number p u P.act_is U l h);
  };
}

pub whole_is : (w : ℕ) (begin : Bool) (x : ℕ) → x ≡ only_if begin 64 → WholeUse w begin (record { place = 8 * (w % 32); into = x; go = 0 })
whole_is w begin x X owns number n O low N small = record {
  owner_is = O;
  owner_low = low;
  number_low = omega arith;
  base_low = omega arith;
  place_is = omega arith;
  into_are = λ l h. ap (λ (y : ℕ). bit y l) X ∙ only_bit begin 64 l ∙ ap (λ (b : Bool). begin && b) (bit_one 6 l);
  go_are = λ l h. bit_none l;
}

module _ (act : ℕ) (p : Part) (n : ℕ) (P : ActIs p act) (low : n < 64) where
  -- the lanes that end the whole part: its own, and lane 6 where it begins
  top_low : (begin : Bool) (l : ℕ) → l < 6 → bit act l ≡ ended_lanes p (weak_use n begin) l
  top_low begin l h =
      P.lanes_are l h ∙ sym (ap₂ ◌||◌ (ap₂ ◌&&◌ (placed_low 0 p.ends l h ∙ unshifted) (owned_is n l low (omega arith)) ∙ and-true (p.ends l))
      (ap (λ (b : Bool). p.early && (begin && b)) (ne_eqb l 6 (λ z. omega arith)) ∙ ap (λ (b : Bool). p.early && b) (and-false begin) ∙ and-false p.early) ∙ or-false (p.ends l))
    where
      unshifted : shifted 0 p.ends l ≡ p.ends l
      unshifted = rw (le-ltb l 0 (omega arith), sub-zero l)

pub top_on : (act : ℕ) (begin : Bool) → begin ≡ true → Tops act begin (bit_or (bit_and act 127) 128)
top_on act begin e p n P low = rw e (record {
  ends_are = λ l h. bits l ∙ elim (dec_lt l 6) [
    | yes i ↦ rw (low_127 l i, low_7 l i, and-true, or-false) (top_low act p n P low true l i)
    | no i ↦ (let z : l ≡ 6 = omega arith in rw z (simp (and-true, or-false) P.early_is))
  ];
  begins_is = bits 7 ∙ or-true (bit act 7 && false);
})
  where
    bits : (l : ℕ) → bit (bit_or (bit_and act 127) 128) l ≡ (bit act l && bit 127 l) || bit 128 l
    bits l = bit_or_lem (bit_and act 127) 128 l ∙ ap (λ (b : Bool). b || bit 128 l) (bit_and_lem act 127 l)

pub top_off : (act : ℕ) (begin : Bool) → begin ≡ false → Tops act begin (bit_and act 63)
top_off act begin e p n P low = rw e (record {
  ends_are = λ l h. bit_and_lem act 63 l ∙ elim (dec_lt l 6) [
    | yes i ↦ ap (λ (b : Bool). bit act l && b) (bit_ones 6 l ∙ lt-ltb l 6 i) ∙ and-true (bit act l) ∙ top_low act p n P low false l i
    | no i ↦ (let z : l ≡ 6 = omega arith in rw z (simp and-false))
  ];
  begins_is = bit_and_lem act 63 7 ∙ and-false (bit act 7);
})
