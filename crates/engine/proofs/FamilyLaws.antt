-- The words of the family step: masks of sets, lanes spread over bytes, and the two tables of images.
use Prim.Native.Nat.{ℕ, zero, suc, ◌+◌, ◌-◌, ◌*◌, ◌/◌, ◌%◌, ◌^◌, ◌≤◌, ◌<◌}
use native.Mathlib.Nat.{mod-eq_of_lt}
use native.Mathlib.Omega.{arith}
use native.Mathlib.Decide.{dec_lt}
use mathlib.Core.Path.{◌≡◌, refl, sym, ◌∙◌, ap, ap₂, subst}
use mathlib.Core.Bool.{Bool, true, false, not, ◌&&◌, ◌||◌, or-false, and-true, and-false}
use mathlib.Core.List.{List, [], ◌∷◌}
use lib.Bits.{bit_or, bit_and}
use lib.Dec.{T, eqb, ltb}
use lib.ListN.{get_or}
use borrow.Author.Tests.{eq-eqb, ne_eqb, lt-ltb, lt-leb, le-leb}
use Rattle.psl.specs.Booleans.{bit}
use Rattle.psl.specs.Tells.{any}
use Rattle.words.specs.Bits.{bit_none, bit_or_lem, bit_and_lem, bit_shr, bit_mod, bit_shifted, same_bits}
use Rattle.table.proofs.Laws.Spans.{all_from, every}
use Rattle.accepted.specs.Shapes.{same, same_eq}
use Rattle.lanes.specs.SetSteps.{below, below_suc, below_zero, below_all}
use Rattle.lanes.specs.Families.{word, word_bit, word_lt, no_six, only_six, image}
use Rattle.engine.specs.FamilySteps.{Lacks, Spread, Led, set_of, Leads, threes, image_of, image_by}

-- ---- the sets without a lane

-- whether the mask lacks the set s just if s has the lane l
abbrev pub lane_out : ℕ → ℕ → ℕ → Bool
lane_out mask l s = same (not (bit mask s)) (bit s l)

pub lacks_none : (family ends : ℕ) → Lacks family ends 0 family
unfolding any
lacks_none family ends s l = sym (and-true (bit family s))

-- a mask for each of the six lanes
abbrev pub masks : List ℕ
masks = 6148914691236517205 ∷ 3689348814741910323 ∷ 1085102592571150095 ∷ 71777214294589695 ∷ 281470681808895 ∷ 4294967295 ∷ []

masks_right : (n : ℕ) → n < 6 → T (all_from (lane_out (get_or masks n 0) n) 0 64)
masks_right zero l = tt
masks_right (suc zero) l = tt
masks_right (suc (suc zero)) l = tt
masks_right (suc (suc (suc zero))) l = tt
masks_right (suc (suc (suc (suc zero)))) l = tt
masks_right (suc (suc (suc (suc (suc zero))))) l = tt
masks_right (suc (suc (suc (suc (suc (suc n)))))) l = absurd (omega arith)

any_more : (n : ℕ) (f : ℕ → Bool) → any (n + 1) f ≡ f n || any n f
unfolding any
any_more n f = let e : n + 1 ≡ suc n = omega arith in rw e refl

-- where lane n does not end, all sets stay
pub lacks_same : (family ends n x : ℕ) → bit ends n ≡ false → Lacks family ends n x → Lacks family ends (n + 1) x
lacks_same family ends n x none h s l = h s l
    ∙ ap (λ (b : Bool). bit family s && not b) (sym (any_more n _ ∙ ap (λ (b : Bool). b || any n (λ l. bit s l && bit ends l)) (ap (λ (b : Bool). bit s n && b) none ∙ and-false (bit s n))))

-- where it ends, only the sets stay that its mask has: those without it
pub lacks_cut : (family ends n x : ℕ) → n < 6 → bit ends n ≡ true → Lacks family ends n x → Lacks family ends (n + 1) (bit_and x (get_or masks n 0))
lacks_cut family ends n x low some h s l =
    bit_and_lem x mask s ∙ ap₂ ◌&&◌ (h s l) (masked (bit mask s) (bit s n) in_mask) ∙ drop_more (bit family s) (any n (λ l. bit s l && bit ends l)) (bit s n)
    ∙ ap (λ (b : Bool). bit family s && not b) (sym (any_more n _ ∙ ap (λ (b : Bool). b || any n (λ l. bit s l && bit ends l)) (ap (λ (b : Bool). bit s n && b) some ∙ and-true (bit s n))))
  where
    mask : ℕ
    mask = get_or masks n 0

    in_mask : not (bit mask s) ≡ bit s n
    in_mask = same_eq _ _ (every (lane_out mask n) 0 64 (masks_right n low) s (omega arith) (omega arith))

    masked : (m b : Bool) → not m ≡ b → m ≡ not b
    masked true b e = ap not e
    masked false b e = ap not e

    drop_more : (f a x : Bool) → (f && not a) && not x ≡ f && not (x || a)
    drop_more true true true = refl
    drop_more true true false = refl
    drop_more true false true = refl
    drop_more true false false = refl
    drop_more false a x = refl

-- where none of three lanes ends, all sets stay
pub lacks_three : (family ends n x : ℕ) → ends / 2 ^ n % 8 ≡ 0 → Lacks family ends n x → Lacks family ends (n + 3) x
lacks_three family ends n x e h =
    let three : n + 1 + 1 + 1 ≡ n + 3 = omega arith in
    subst (λ (m : ℕ). Lacks family ends m x) three
    (lacks_same family ends (n + 1 + 1) x (none 2 _ (omega arith) (omega arith)) (lacks_same family ends (n + 1) x (none 1 _ (omega arith) (omega arith)) (lacks_same family ends n x (none 0 _ (omega arith) (omega arith)) h)))
  where
    none : (k m : ℕ) → m ≡ n + k → k < 3 → bit ends m ≡ false
    none k m i l = ap (bit ends) i ∙ sym (bit_shr ends n k) ∙ sym (rw (lt-ltb k 3 l) at (bit_mod (ends / 2 ^ n) 3 k)) ∙ ap (λ (x : ℕ). bit x k) e ∙ bit_none k

-- ---- lanes spread over bytes

abbrev spread_at : ℕ → ℕ → Bool
spread_at lanes n = same (bit (bit_and (lanes * 567382630219905) 72340172838076673) n) (eqb (n % 8) 0 && bit lanes (n / 8))

spread_test : (lanes : ℕ) → lanes < 128 → (n : ℕ) → n < 64 → T (spread_at lanes n)
spread_test lanes h n l =
    every (spread_at lanes) 0 64 (every (λ lanes. all_from (spread_at lanes) 0 64) 0 128 tt lanes (omega arith) (omega arith)) n (omega arith) (omega arith)

pub spread_is : (lanes : ℕ) → Spread lanes (bit_and (lanes % 128 * 567382630219905) 72340172838076673)
spread_is lanes = record { each = λ n l. same_eq _ _ (spread_test (lanes % 128) (omega arith) n l) }

-- spread(lanes) << q
pub led_is : (lanes q x : ℕ) → q < 8 → Spread lanes x → Led lanes q (x * 2 ^ q % 2 ^ 64)
led_is lanes q x small h = record { each = each }
  where
    each : (l k : ℕ) → l < 7 → k < 8 → bit (x * 2 ^ q % 2 ^ 64) (8 * l + k) ≡ bit lanes l && eqb k q
    each l k m j = let i : 8 * l + k < 64 = omega arith in
        bit_shifted 64 x q (8 * l + k) ∙ rw (lt-ltb (8 * l + k) 64 i) (elim (dec_lt (8 * l + k) q) [
          | yes before ↦ (let n : k ≡ q → ⊥ = λ e. omega arith in rw (lt-leb q (8 * l + k) before, ne_eqb k q n) (sym (and-false (bit lanes l))))
          | no after ↦ (let g : q ≤ 8 * l + k = omega arith in rw (le-leb q (8 * l + k) g) (h.each (8 * l + k - q) (omega arith) ∙ elim (dec_lt (k - q + (q - k)) 1) [
            | yes equal ↦ (let e : k ≡ q = omega arith in let f : 8 * l + k - q ≡ 8 * l = omega arith in let u : 8 * l % 8 ≡ 0 = omega arith in let v : 8 * l / 8 ≡ l = omega arith in
                rw (f, u, v, eq-eqb k q e) (bit_mod lanes 7 l ∙ rw (lt-ltb l 7 m) (sym (and-true (bit lanes l)))))
            | no other ↦ (let n : k ≡ q → ⊥ = λ e. omega arith in let u : (8 * l + k - q) % 8 ≡ 0 → ⊥ = λ e. omega arith in
                rw (ne_eqb ((8 * l + k - q) % 8) 0 u, ne_eqb k q n) (sym (and-false (bit lanes l))))
          ]))
        ])

-- ---- a word of bytes: byte l has the cells below n that lane l leads to

module _ (R : ℕ → ℕ → Bool) where
  abbrev pub Gathers : ℕ → ℕ → Type 0
  Gathers n x = (l k : ℕ) → l < 7 → k < 8 → bit x (8 * l + k) ≡ below n (R l) k

  abbrev pub Lane : ℕ → ℕ → Type 0
  Lane q x = (l k : ℕ) → l < 7 → k < 8 → bit x (8 * l + k) ≡ R l q && eqb k q

  pub next_cell : (n x y : ℕ) → Gathers n x → Lane n y → Gathers (n + 1) (bit_or x y)
  next_cell n x y g h l k i j = bit_or_lem x y (8 * l + k) ∙ ap₂ ◌||◌ (g l k i j) (h l k i j) ∙ (let e : n + 1 ≡ suc n = omega arith in rw e (sym (below_suc (R l) n k)))

  -- before the first cell, one cell more, and all
  pub gathers_none : Gathers 0 0
  gathers_none l k i j = bit_none (8 * l + k) ∙ sym (below_zero (R l) k)

  pub gathered : (x : ℕ) → Gathers 6 x → Leads R x
  gathered x g = record {
    each = λ l i. same_bits 6 (set_of x l) (word 6 (R l)) (omega arith) (word_lt (R l) 6) (λ k j.
        bit_mod (x / 2 ^ (8 * l)) 6 k ∙ rw (lt-ltb k 6 j) (bit_shr x (8 * l) k ∙ g l k i (omega arith) ∙ sym (word_bit (R l) 6 k)));
  }

-- ---- the tables of images

-- bit k of the entry of three cells: the cells of i that lead to k
three_bit : (x y z i k : ℕ) → i < 8 → bit (get_or (threes x y z) i 0) k ≡ (bit i 2 && bit z k) || ((bit i 1 && bit y k) || ((bit i 0 && bit x k) || false))
three_bit x y z zero k l = bit_none k
three_bit x y z (suc zero) k l = sym (or-false (bit x k))
three_bit x y z (suc (suc zero)) k l = sym (or-false (bit y k))
three_bit x y z (suc (suc (suc zero))) k l = bit_or_lem y x k ∙ ap (λ (b : Bool). bit y k || b) (sym (or-false (bit x k)))
three_bit x y z (suc (suc (suc (suc zero)))) k l = sym (or-false (bit z k))
three_bit x y z (suc (suc (suc (suc (suc zero))))) k l = bit_or_lem z x k ∙ ap (λ (b : Bool). bit z k || b) (sym (or-false (bit x k)))
three_bit x y z (suc (suc (suc (suc (suc (suc zero)))))) k l = bit_or_lem z y k ∙ ap (λ (b : Bool). bit z k || b) (sym (or-false (bit y k)))
three_bit x y z (suc (suc (suc (suc (suc (suc (suc zero))))))) k l =
    bit_or_lem z (bit_or y x) k ∙ ap (λ (b : Bool). bit z k || b) (bit_or_lem y x k ∙ ap (λ (b : Bool). bit y k || b) (sym (or-false (bit x k))))
three_bit x y z (suc (suc (suc (suc (suc (suc (suc (suc i)))))))) k l = absurd (omega arith)

module _ (R : ℕ → ℕ → Bool) (sets : ℕ) (leads : Leads R sets) where
  lead_bit : (l k : ℕ) → l < 7 → k < 6 → bit (set_of sets l) k ≡ R l k
  lead_bit l k i j = ap (λ (x : ℕ). bit x k) (leads.each l i) ∙ word_bit (R l) 6 k ∙ sym (below_all (R l) 6 k j)

  entry : (a b c i k : ℕ) → a < 7 → b < 7 → c < 7 → i < 8 → k < 6
      → bit (get_or (threes (set_of sets a) (set_of sets b) (set_of sets c)) i 0) k ≡ (bit i 2 && R c k) || ((bit i 1 && R b k) || ((bit i 0 && R a k) || false))
  entry a b c i k p q r s t = three_bit _ _ _ i k s
      ∙ (λ j. (bit i 2 && lead_bit c k r t j) || ((bit i 1 && lead_bit b k q t j) || ((bit i 0 && lead_bit a k p t j) || false)))

  image_bit : (p k : ℕ) → p < 64 → k < 6 → bit (image_by sets p) k ≡ any 7 (λ l. bit p l && R l k)
  unfolding image_by image_of any
  image_bit p k l h =
      bit_or_lem _ _ k
      ∙ ap₂ ◌||◌ (entry 3 4 5 (p / 8 % 8) k (omega arith) (omega arith) (omega arith) (omega arith) h) (entry 0 1 2 (p % 8) k (omega arith) (omega arith) (omega arith) (omega arith) h)
      ∙ (λ j. ((upper 2 j && R 5 k) || ((upper 1 j && R 4 k) || ((upper 0 j && R 3 k) || false))) || ((lower 2 j && R 2 k) || ((lower 1 j && R 1 k) || ((lower 0 j && R 0 k) || false))))
      ∙ joined (bit p 5 && R 5 k) (bit p 4 && R 4 k) (bit p 3 && R 3 k) (any 3 (λ l. bit p l && R l k)) ∙ sym (no_six p (λ l. R l k) l)
    where
      joined : (a b c d : Bool) → (a || (b || (c || false))) || d ≡ a || (b || (c || d))
      joined true b c d = refl
      joined false true c d = refl
      joined false false true d = refl
      joined false false false d = refl

      lower : (l : ℕ) → bit (p % 8) l ≡ ltb l 3 && bit p l
      lower l = bit_mod p 3 l

      upper : (l : ℕ) → bit (p / 8 % 8) l ≡ ltb l 3 && bit p (3 + l)
      upper l = bit_mod (p / 8) 3 l ∙ ap (λ (b : Bool). ltb l 3 && b) (bit_shr p 3 l)

  pub image_is : (p : ℕ) → p < 64 → image_by sets p % 64 ≡ image (λ l. false) R p
  image_is p l = same_bits 6 _ _ (omega arith) (word_lt _ 6)
      (λ k h. bit_mod (image_by sets p) 6 k ∙ rw (lt-ltb k 6 h) (image_bit p k l h ∙ below_all (λ q. any 7 (λ l. bit p l && R l q)) 6 k h ∙ sym (word_bit _ 6 k)))

  pub fresh_is : set_of sets 6 % 64 ≡ image (λ l. false) R 64
  fresh_is = mod-eq_of_lt (omega arith) ∙ leads.each 6 (omega arith) ∙ sym (λ i. word 6 (λ q. only_six (λ l. R l q) i))
