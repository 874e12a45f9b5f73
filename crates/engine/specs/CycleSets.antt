-- The pending sets of weak sequences: what moving them depends on, and which row a family belongs to.
use Rattle.std.specs.Prelude.{ℕ, zero, suc, ◌+◌, ◌-◌, ◌≤◌, ◌<◌, ◌^◌, ◌≡◌, refl, Bool, true, not, ◌&&◌, ◌||◌, List, eqb}
use Rattle.std.proofs.Common.{zero-add, suc-add, arith, ◌∙◌, ap, ap₂, ⊎_elim}
use Rattle.std.proofs.Math.Decide.{dec_lt}
use Rattle.psl.specs.Booleans.{bit}
use Rattle.psl.specs.Tells.{Tells, any, tells_any, tells_and, tells_or, tells_value, tells_eq, tells_true, true_tells, does, doesnt}
use Rattle.lanes.specs.Families.{with_bit, word, word_lt, set_ends, image, moves, moved_to}
use Rattle.engine.specs.Reads.{kind_of}
use Rattle.engine.specs.Weaks.{one_if, weaks_above, weak_number}

pub any_same : (n : ℕ) (f g : ℕ → Bool) → ((l : ℕ) → l < n → f l ≡ g l) → any n f ≡ any n g
unfolding any
any_same zero f g h = refl
any_same (suc n) f g h = ap₂ ◌||◌ (h n (omega arith)) (any_same n f g (λ l i. h l (omega arith)))

word_same : (n : ℕ) (f g : ℕ → Bool) → ((q : ℕ) → q < n → f q ≡ g q) → word n f ≡ word n g
unfolding word
word_same zero f g h = refl
word_same (suc n) f g h = ap₂ (λ (b : Bool) (w : ℕ). with_bit b w n) (h n (omega arith)) (word_same n f g (λ l i. h l (omega arith)))

-- Only the 7 lanes, the 6 cells and the 64 sets count.
module _ (E E' : ℕ → Bool) (R R' : ℕ → ℕ → Bool) (ends : (l : ℕ) → l < 7 → E l ≡ E' l) (leads : (l q : ℕ) → l < 7 → q < 6 → R l q ≡ R' l q) where
  moves_same : (p s : ℕ) → moves E R p s ≡ moves E' R' p s
  moves_same p s = ap₂ (λ (b : Bool) (n : ℕ). not b && eqb s n)
      (any_same 7 _ _ (λ l i. ap (λ (b : Bool). bit p l && b) (ends l i)))
      (word_same 6 _ _ (λ q j. any_same 7 _ _ (λ l i. ap (λ (b : Bool). bit p l && b) (leads l q i j))))

  pub moved_same : (now now' : Bool) (old old' : ℕ → Bool) → now ≡ now' → ((p : ℕ) → p < 64 → old p ≡ old' p) → (s : ℕ) → moved_to E R now old s ≡ moved_to E' R' now' old' s
  moved_same now now' old old' e h s = ap₂ ◌||◌ (any_same 64 _ _ (λ p i. ap₂ ◌&&◌ (h p i) (moves_same p s))) (ap₂ ◌&&◌ e (moves_same 64 s))

-- A set that is left is one of the 64.
pub moved_small : (E : ℕ → Bool) (R : ℕ → ℕ → Bool) (now : Bool) (old : ℕ → Bool) (s : ℕ) → moved_to E R now old s ≡ true → s < 64
moved_small E R now old s e = ⊎_elim (λ h. small h.0 h.2.1) (λ h. small 64 h.1)
    (tells_true (tells_or (tells_any _ _ (λ p. tells_and (tells_value (old p)) (tells_value (moves E R p s))) 64) (tells_and (tells_value now) (tells_value (moves E R 64 s)))) e)
  where
    small : (p : ℕ) → moves E R p s ≡ true → s < 64
    small p m =
        let h = tells_true (tells_and (tells_value (not (set_ends E R p))) (tells_eq s (image E R p))) m in
        let l : word 6 (λ q. any 7 (λ l. bit p l && R l q)) < 2 ^ 6 = word_lt _ 6 in
        rw h.1 l

module _ (t : List ℕ) (weaks : ℕ) where
  abbrev IsWeak : ℕ → Type 0
  IsWeak n = (bit weaks n ≡ true) × (kind_of t n ≡ 32)

  counts : (k : ℕ) → Tells (IsWeak (63 - k)) (bit weaks (63 - k) && eqb (kind_of t (63 - k)) 32)
  counts k = tells_and (tells_value (bit weaks (63 - k))) (tells_eq (kind_of t (63 - k)) 32)

  -- more rows, more weak ones
  pub above_more : (k d : ℕ) → weaks_above t weaks k ≤ weaks_above t weaks (d + k)
  above_more k zero = rw zero-add (omega arith)
  above_more k (suc d) = rw suc-add (omega (arith, above_more k d))

  -- the number of a weak row is below the count of those from its own on
  own_below : (k : ℕ) → IsWeak (63 - k) → weaks_above t weaks k < weaks_above t weaks (suc k)
  own_below k w = let q = ap one_if (true_tells (counts k) w) in omega (arith, q)

  pub number_below : (n m : ℕ) → n < 64 → m ≡ 64 → IsWeak n → weak_number t weaks n < weaks_above t weaks m
  number_below n m l e w =
      let back : 63 - (63 - n) ≡ n = omega arith in
      let d : n + suc (63 - n) ≡ m = omega arith in
      less (own_below (63 - n) (rw back w)) (rw d at (above_more (suc (63 - n)) n))
    where
      less : {a b c : ℕ} → a < b → b ≤ c → a < c
      less p q = omega arith

  -- each number below the count is that of a weak row
  pub number_of : (k w : ℕ) → k ≤ 64 → w < weaks_above t weaks k → (n : ℕ) × (n < 64) × IsWeak n × (weak_number t weaks n ≡ w)
  number_of zero w l h = absurd (omega arith)
  number_of (suc k) w l h = elim (dec_lt w (weaks_above t weaks k)) [
    | yes i ↦ number_of k w (omega arith) i
    | no i ↦ found (counts k) h i
  ]
    where
      back : 63 - (63 - k) ≡ k
      back = omega arith

      found : {b : Bool} → Tells (IsWeak (63 - k)) b → w < weaks_above t weaks k + one_if b → ¬ (w < weaks_above t weaks k) → (n : ℕ) × (n < 64) × IsWeak n × (weak_number t weaks n ≡ w)
      found (does q) i j = (63 - k, omega arith, q, ap (weaks_above t weaks) back ∙ (omega arith))
      found (doesnt q) i j = absurd (omega arith)
