-- The pending sets of a weak sequence as a word of bits, moved set by set through the relation of its cells: the model's sets after the sample.
-- Nothing here has to be believed.
use Prim.Native.Nat.{ℕ, zero, suc, ◌+◌, ◌-◌, ◌^◌, ◌≤◌, ◌<◌}
use Rattle.std.proofs.Math.Nat.{zero-add, zero-div, div-eq_of_lt}
use Rattle.std.proofs.Common.{suc-add, zero-mul, div-one, mod-eq_of_lt, ◌∙◌, ap₂, inl, inr, ⊎_elim, pow_mono}
use native.Mathlib.Omega.{arith}
use Rattle.std.specs.Prelude.{◌≡◌, Bool, not, ◌&&◌, ◌||◌, ◌⊎◌}
use Rattle.std.proofs.Math.Path.{refl, sym, ap}
use Rattle.std.proofs.Math.Bool.{true, false, or-false, and-false}
use Rattle.std.proofs.Math.Dec.{eqb, lit<}
use Rattle.std.specs.Int.Bits.{bit_or, or_lt}
use Rattle.std.proofs.Math.Pow.{pow-lt}
use Rattle.psl.specs.Booleans.{Letter, sample, bit}
use Rattle.psl.specs.Sequences.{Sequence}
use Rattle.psl.proofs.Marks.Automaton.{gate, first, step}
use Rattle.psl.proofs.Marks.Masks.{cells, mask, unmask, mask_lt, unmask_mask}
use Rattle.psl.specs.Tells.{any, tells_eq, tells_or, tells_and, tells_value, tells_any}
use Rattle.psl.proofs.Model.Machine.{machine}
use Rattle.psl.proofs.Model.Monitor.{sets_after}
use Rattle.lanes.specs.Bits.{tells_same, bit_on}
use Rattle.lanes.specs.CellSets.{fill, own, fill_same, unmask_fill, mask_unmask}
use Rattle.lanes.specs.SetSteps.{below, below_suc, below_zero, below_all, step_set}

-- w with bit n set, if d
abbrev pub with_bit : Bool → ℕ → ℕ → ℕ
with_bit true w n = bit_or w (2 ^ n)
with_bit false w n = w

-- the number whose bits below n are g
unfoldable pub word : ℕ → (ℕ → Bool) → ℕ
word zero g = 0
word (suc n) g = with_bit (g n) (word n g) n

module _ (g : ℕ → Bool) where
  pub word_lt : (n : ℕ) → word n g < 2 ^ n
  unfolding word
  word_lt zero = lit< tt
  word_lt (suc n) = go (g n) (word_lt n)
    where
      go : (d : Bool) → word n g < 2 ^ n → with_bit d (word n g) n < 2 ^ suc n
      go true h = or_lt (suc n) (word n g) (2 ^ n) (omega arith) (pow-lt (omega arith))
      go false h = omega arith

  pub word_bit : (n k : ℕ) → bit (word n g) k ≡ below n g k
  unfolding word
  word_bit zero k = rw zero-div (sym (below_zero g k))
  word_bit (suc n) k = go (g n) ∙ ap (λ (b : Bool). b || (g n && eqb k n)) (word_bit n k) ∙ sym (below_suc g n k)
    where
      go : (d : Bool) → bit (with_bit d (word n g) n) k ≡ bit (word n g) k || (d && eqb k n)
      go true = bit_on (word n g) n k
      go false = sym (or-false (bit (word n g) k))

  pub word_short : (m d : ℕ) → ((q : ℕ) → m ≤ q → g q ≡ false) → word (d + m) g ≡ word m g
  unfolding word
  word_short m zero h = rw zero-add
  word_short m (suc d) h = rw (suc-add, h (d + m) (omega arith)) (word_short m d h)

  unmask_word : (r : Sequence) (n : ℕ) → cells r ≤ n → unmask r (word n g) ≡ fill r 0 g
  unmask_word r n l = rw div-one at (unmask_fill r (word n g) 0) ∙ fill_same _ _ r 0 (λ k i j. word_bit n k ∙ sym (below_all g n k (omega arith)))

  pub mask_word : (r : Sequence) (n : ℕ) → cells r ≤ n → ((q : ℕ) → cells r ≤ q → g q ≡ false) → mask r (fill r 0 g) ≡ word n g
  mask_word r n l h =
      let e : (n - cells r) + cells r ≡ n = omega arith in
      let z : word n g ≡ word (cells r) g = rw e at (word_short (cells r) (n - cells r) h) in
      let y : word n g < 2 ^ cells r = rw z (word_lt (cells r)) in
      ap (mask r) (sym (unmask_word r n l)) ∙ mask_unmask r (word n g) ∙ mod-eq_of_lt y

-- What the down pass leaves of a weak sequence: the lanes that end it, and the lanes that lead to each cell; lane 6 is the attempt that starts now.
pub record Lanes (r : Sequence) (c : Letter) (now : Bool) (E : ℕ → Bool) (R : ℕ → ℕ → Bool) : Type 0 where
  pub few : cells r ≤ 6
  pub each : (l : ℕ) → l < 6 → ((step r c (own r 0 l)).0 ≡ E l) × ((step r c (own r 0 l)).1 ≡ fill r 0 (R l))
  pub fresh : ((step r c (gate r now (first r))).0 ≡ E 6) × ((step r c (gate r now (first r))).1 ≡ fill r 0 (R 6))
  pub inside : (l q : ℕ) → l < 7 → cells r ≤ q → R l q ≡ false

-- no lane 6 in a set below 64, and lane 6 alone in the set 64
pub no_six : (p : ℕ) (F : ℕ → Bool) → p < 64 → any 7 (λ l. bit p l && F l) ≡ any 6 (λ l. bit p l && F l)
unfolding any
no_six p F l = rw (div-eq_of_lt l)

pub only_six : (F : ℕ → Bool) → any 7 (λ l. bit 64 l && F l) ≡ F 6
unfolding any
only_six F = or-false (F 6)

module _ (E : ℕ → Bool) (R : ℕ → ℕ → Bool) where
  -- whether some lane of the set p ends it, and the set that its lanes lead to
  abbrev pub set_ends : ℕ → Bool
  set_ends p = any 7 (λ l. bit p l && E l)

  abbrev pub image : ℕ → ℕ
  image p = word 6 (λ q. any 7 (λ l. bit p l && R l q))

  abbrev pub moves : ℕ → ℕ → Bool
  moves p s = not (set_ends p) && eqb s (image p)

  -- the sets after the letter
  abbrev pub moved_to : Bool → (ℕ → Bool) → ℕ → Bool
  moved_to now old s = any 64 (λ p. old p && moves p s) || (now && moves 64 s)

  module _ (r : Sequence) (x : ℕ) (now : Bool) (h : Lanes r (sample x) now E R) where
    unmask_bits : (p : ℕ) → unmask r p ≡ fill r 0 (bit p)
    unmask_bits p = rw div-one at (unmask_fill r p 0)

    ends_same : (p : ℕ) → p < 64 → set_ends p ≡ machine.ends r p x
    ends_same p l = no_six p E l ∙ sym (step_set r (sample x) E R (bit p) 6 h.few h.each).0 ∙ ap (λ m. (step r (sample x) m).0) (sym (unmask_bits p))

    any_none : (n : ℕ) (f : ℕ → Bool) → ((l : ℕ) → l < n → f l ≡ false) → any n f ≡ false
    unfolding any
    any_none zero f g = refl
    any_none (suc n) f g = rw (g n (omega arith)) (any_none n f (λ l h. g l (omega arith)))

    beyond : (p q : ℕ) → cells r ≤ q → any 7 (λ l. bit p l && R l q) ≡ false
    beyond p q i = any_none 7 _ (λ l j. ap (λ (b : Bool). bit p l && b) (h.inside l q j i) ∙ and-false (bit p l))

    image_same : (p : ℕ) → p < 64 → image p ≡ machine.go r p x
    image_same p l = sym (mask_word _ r 6 h.few (beyond p)) ∙ ap (mask r) (fill_same _ _ r 0 (λ q i j. no_six p (λ k. R k q) l)
        ∙ sym (step_set r (sample x) E R (bit p) 6 h.few h.each).1 ∙ ap (λ m. (step r (sample x) m).1) (sym (unmask_bits p)))

    first_is : now ≡ true → gate r now (first r) ≡ unmask r (mask r (first r))
    first_is t = ap (λ (b : Bool). gate r b (first r)) t ∙ sym (rw (zero-mul, zero-add) at (unmask_mask r (first r) 0))

    -- what the model says of set p
    abbrev Goes : ℕ → ℕ → Bool
    Goes p s = not (machine.ends r p x) && eqb s (machine.go r p x)

    moves_same : (p s : ℕ) → p < 64 → moves p s ≡ Goes p s
    moves_same p s l = ap₂ (λ (b : Bool) (n : ℕ). not b && eqb s n) (ends_same p l) (image_same p l)

    fresh_same : (s : ℕ) → now ≡ true → moves 64 s ≡ Goes (mask r (first r)) s
    fresh_same s t = ap₂ (λ (b : Bool) (n : ℕ). not b && eqb s n)
        (only_six E ∙ sym h.fresh.0 ∙ ap (λ m. (step r (sample x) m).0) (first_is t))
        (sym (mask_word _ r 6 h.few (beyond 64)) ∙ ap (mask r) (fill_same _ _ r 0 (λ q i j. only_six (λ k. R k q)) ∙ sym h.fresh.1 ∙ ap (λ m. (step r (sample x) m).1) (first_is t)))

    small : 2 ^ cells r ≤ 64
    small = pow_mono h.few

    -- THE FAMILY STEP is the model's step of the sets of pending attempts
    pub sets_same : (old : ℕ → Bool) → ((p : ℕ) → old p ≡ true → p < 2 ^ cells r) → (s : ℕ) → moved_to now old s ≡ sets_after machine r now old x s
    sets_same old low s = tells_same
        (tells_or (tells_any _ _ (λ p. tells_and (tells_value (old p)) (tells_value (moves p s))) 64) (tells_and (tells_value now) (tells_value (moves 64 s))))
        (tells_any _ _ (λ p. tells_and (tells_or (tells_value (old p)) (tells_and (tells_value now) (tells_eq p (mask r (first r))))) (tells_value (Goes p s))) (2 ^ cells r))
        (⊎_elim (λ k. (k.0, low k.0 k.2.0, (inl k.2.0, sym (moves_same k.0 s k.1) ∙ k.2.1)))
        (λ k. (mask r (first r), mask_lt r (first r), (inr (k.0, refl), sym (fresh_same s k.0) ∙ k.1))))
        (λ k. back k.0 k.1 k.2.1 k.2.0)
      where
        back : (p : ℕ) → p < 2 ^ cells r → Goes p s ≡ true → (old p ≡ true) ⊎ ((now ≡ true) × (p ≡ mask r (first r)))
            → ((q : ℕ) × (q < 64) × ((old q ≡ true) × (moves q s ≡ true))) ⊎ ((now ≡ true) × (moves 64 s ≡ true))
        back p l g (inl o) = inl (p, omega (arith, small), (o, moves_same p s (omega (arith, small)) ∙ g))
        back p l g (inr o) = inr (o.0, fresh_same s o.0 ∙ ap (λ (q : ℕ). Goes q s) (sym o.1) ∙ g)
