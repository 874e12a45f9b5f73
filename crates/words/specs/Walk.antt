-- A walk through a set, `for n in Members(word) { .. }`, and the same downwards by `rev`: what one turn takes, that the word itself falls, and an invariant
-- for the loop.
use Rattle.std.specs.Prelude.{◌≡◌, ℕ, ◌<◌, Bool, true, false, not, ◌&&◌, T, ◌==◌, ◌≢◌, Option, MatchOption, refl}
use Rattle.std.proofs.Common.{arith, sym, ◌∙◌, subst, eqb-true, eq-eqb}
use Rattle.std.proofs.Math.Decide.{dec_lt}
use Rattle.psl.specs.Booleans.{bit}
use Rattle.words.specs.Bits.{bit_none}
use Rattle.words.specs.Sets.{Lowest, Highest, Without}

-- One turn takes n out of the word.
pub record Turn (word n rest : ℕ) : Type 0 where
  pub small : n < 64
  pub set : bit word n ≡ true
  pub each : (k : ℕ) → bit rest k ≡ bit word k && not (k == n)
  pub less : rest < word

pub turn_up : {word n rest : ℕ} → 0 < word → Lowest word n → Without Lowest word rest → Turn word n rest
turn_up {word} {n} some low less = record { small = low.small some; set = low.set some; each = less.each n low; less = less.less some }

pub turn_down : {word n rest : ℕ} → 0 < word → Highest word n → Without Highest word rest → Turn word n rest
turn_down {word} {n} some top less = record { small = top.small some; set = top.set some; each = less.each n top; less = less.less some }

-- A call of the iterator that has the word: the number at one end, and the word without it, or nothing of nothing.
abbrev pub TakesFrom : (ℕ → ℕ → Type 0) → ℕ → Option ℕ → ℕ → Type 0
TakesFrom End word r rest = MatchOption r ((word ≡ 0) × (rest ≡ 0)) (λ n. End word n × Turn word n rest)

-- a number of the rest is a number of the word, and another than n
pub rest_in : {word n rest : ℕ} → Turn word n rest → (k : ℕ) → bit rest k ≡ true → (bit word k ≡ true) × (k ≢ n)
rest_in {word} {n} t k e = go (bit word k) (k == n) (sym (t.each k) ∙ e) refl (eq-eqb k n)
  where
    go : (b c : Bool) → b && not c ≡ true → bit word k ≡ b → (k ≡ n → c ≡ true) → (bit word k ≡ true) × (k ≢ n)
    go true true h p q = absurd (subst T (sym h) tt)
    go true false h p q = (p, λ z. subst T (sym (q z)) tt)
    go false c h p q = absurd (subst T (sym h) tt)

-- upwards the rest lies above n, downwards below it
pub rest_above : {word n rest : ℕ} → Lowest word n → Turn word n rest → (k : ℕ) → bit rest k ≡ true → n < k
rest_above {word} {n} low t k e = let h = rest_in t k e in elim (dec_lt k n) [
  | yes l ↦ absurd (subst T (sym h.0 ∙ low.below k l) tt)
  | no l ↦ elim (dec_lt n k) [ yes g ↦ g | no g ↦ absurd (h.1 (omega arith)) ]
]

pub rest_below : {word n rest : ℕ} → Highest word n → Turn word n rest → (k : ℕ) → bit rest k ≡ true → k < n
rest_below {word} {n} top t k e = let h = rest_in t k e in elim (dec_lt n k) [
  | yes l ↦ absurd (subst T (sym h.0 ∙ top.above k l) tt)
  | no l ↦ elim (dec_lt k n) [ yes g ↦ g | no g ↦ absurd (h.1 (omega arith)) ]
]

-- The loop's invariant: what is left is of the whole, and each number of the whole that is not left is done. Upwards `done` with `Lowest.below` says
-- that each number of the whole below n is done when n is taken.
pub record Left (whole word : ℕ) (Done : ℕ → Type 0) : Type 0 where
  pub within : (k : ℕ) → bit word k ≡ true → bit whole k ≡ true
  pub done : (k : ℕ) → bit whole k ≡ true → bit word k ≡ false → Done k

pub left_start : {Done : ℕ → Type 0} (whole : ℕ) → Left whole whole Done
left_start whole = record { within = λ k e. e; done = λ k e f. absurd (subst T (sym e ∙ f) tt) }

pub left_turn : {Done After : ℕ → Type 0} {whole word n rest : ℕ} → Left whole word Done → Turn word n rest → ((k : ℕ) → Done k → After k) → After n → Left whole rest After
left_turn {Done} {After} {whole} {word} {n} l t keeps here = record {
  within = λ k e. l.within k (rest_in t k e).0;
  done = λ k e f. go k (bit word k) (k == n) (sym (t.each k) ∙ f) (λ z. keeps k (l.done k e z)) (eqb-true k n);
}
  where
    go : (k : ℕ) (b c : Bool) → b && not c ≡ false → (b ≡ false → After k) → (c ≡ true → k ≡ n) → After k
    go k true true h p q = subst After (sym (q refl)) here
    go k true false h p q = absurd (subst T h tt)
    go k false c h p q = p refl

pub left_end : {Done : ℕ → Type 0} {whole : ℕ} → Left whole 0 Done → (k : ℕ) → bit whole k ≡ true → Done k
left_end l k e = l.done k e (bit_none k)
