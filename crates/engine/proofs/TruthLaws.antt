-- The truth of the Boolean rows, row by row upwards.
use Prim.Native.Nat.{ℕ, ◌%◌, ◌<◌}
use native.Mathlib.Nat.{mod-eq_of_lt}
use native.Mathlib.Omega.{arith}
use mathlib.Core.Path.{◌≡◌, refl, sym, ◌∙◌, ap, ap₂, subst}
use mathlib.Core.Bool.{Bool, true, false, ◌&&◌, ◌||◌, and-true}
use mathlib.Core.List.{List}
use lib.Dec.{T, eqb}
use borrow.Author.Tests.{ne_eqb, eq-eqb, le-ltb}
use Rattle.psl.specs.Booleans.{Boolean, bit, holds}
use Rattle.table.specs.Choice.{pick}
use Rattle.table.proofs.Laws.Choices.{no_so, said_ne}
use Rattle.words.specs.Bits.{bit_none}
use Rattle.words.specs.Sets.{WithBit, Lowest}
use Rattle.words.specs.Walk.{Turn, rest_in, Left, left_start, left_turn, left_end}
use Rattle.engine.specs.Reads.{kind_of, a_of, b_of}
use Rattle.engine.specs.Truths.{BooleanRow, reads_true, reads_false, reads_signal, reads_not, reads_and, reads_or, BooleanRows, Truth, OnlyIn, compound_at, holds_at}

pub clash : {A : Type 0} {b : Bool} → b ≡ true → b ≡ false → A
clash p q = absurd (subst T (sym p ∙ q) tt)

-- A row that is a signal.
pub signal_row : (t : List ℕ) (n truth sample : ℕ) {r : ℕ} → eqb (kind_of t n) 3 ≡ true → WithBit truth n (bit sample (a_of t n % 64)) r → WithBit truth n (holds_at t n truth sample) r
unfolding holds_at pick
signal_row t n truth sample e h = rw e h

-- One that is neither a signal nor a constant.
pub compound_so : (t : List ℕ) (n truth : ℕ) {kind : ℕ} {b : Bool} → kind ≡ kind_of t n → (kind ≡ 3 → ⊥) → 2 < kind → b ≡ compound_at t n kind truth → (sample : ℕ) → b ≡ holds_at t n truth sample
unfolding holds_at
compound_so t n truth e no_signal large is sample = no_so _ _ _ (said_ne e no_signal) (no_so _ _ _ (le-ltb _ _ (omega (arith, e))) (rw e at is))

-- A row of the set, where smaller rows of the set are right.
module _ (t : List ℕ) (booleans truth x : ℕ) (value : ℕ → Boolean) where
  pub row_holds : (n : ℕ) → n < 64 → BooleanRow t booleans value n
      → ((k : ℕ) → k < n → bit booleans k ≡ true → bit truth k ≡ holds (value k) x) → holds_at t n truth x ≡ holds (value n) x
  unfolding holds_at compound_at pick
  row_holds n low (reads_true e v) known = rw (e, v)
  row_holds n low (reads_false e v) known = rw (e, v)
  row_holds n low (reads_signal e l v) known = rw (e, v, mod-eq_of_lt l)
  row_holds n low (reads_not e l i v) known =
      let h = known (a_of t n) l i in let m : a_of t n % 64 ≡ a_of t n = mod-eq_of_lt (omega arith) in rw (e, v, m, h)
  row_holds n low (reads_and e l i m j v) known =
      let h = known (a_of t n) l i in let g = known (b_of t n) m j in
      let p : a_of t n % 64 ≡ a_of t n = mod-eq_of_lt (omega arith) in let q : b_of t n % 64 ≡ b_of t n = mod-eq_of_lt (omega arith) in rw (e, v, p, q, h, g)
  row_holds n low (reads_or e l i m j v) known =
      let h = known (a_of t n) l i in let g = known (b_of t n) m j in
      let p : a_of t n % 64 ≡ a_of t n = mod-eq_of_lt (omega arith) in let q : b_of t n % 64 ≡ b_of t n = mod-eq_of_lt (omega arith) in rw (e, v, p, q, h, g)

-- The loop's invariant: nothing outside the set or at a row that is left, and each row of the set that is not left is right.
pub record Known (t : List ℕ) (booleans x truth left : ℕ) : Type 0 where
  pub within : (k : ℕ) → bit left k ≡ true → bit booleans k ≡ true
  pub only : OnlyIn booleans truth
  pub clear : (k : ℕ) → bit left k ≡ true → bit truth k ≡ false
  pub right : (value : ℕ → Boolean) → BooleanRows t booleans value → Left booleans left (λ k. bit truth k ≡ holds (value k) x)

pub known_start : (t : List ℕ) (booleans x : ℕ) → Known t booleans x 0 booleans
known_start t booleans x = record { within = λ k e. e; only = λ k e. bit_none k; clear = λ k e. bit_none k; right = λ value rows. left_start booleans }

-- one row is set where on, and no other changes
module _ {word n r : ℕ} {on : Bool} (low : n < 64) (set : WithBit word n on r) where
  pub set_here : bit word n ≡ false → bit r n ≡ on
  set_here e = set.each n ∙ ap (λ (m : ℕ). bit word n || (on && eqb n m)) (mod-eq_of_lt low) ∙ ap₂ (λ (b c : Bool). b || (on && c)) e (eq-eqb n n refl) ∙ and-true on

  pub set_other : (k : ℕ) → (k ≡ n → ⊥) → bit r k ≡ bit word k
  set_other k ne = set.each k ∙ ap (λ (m : ℕ). bit word k || (on && eqb k m)) (mod-eq_of_lt low) ∙ ap (λ (c : Bool). bit word k || (on && c)) (ne_eqb k n ne) ∙ none (bit word k) on
    where
      none : (b c : Bool) → b || (c && false) ≡ b
      none true c = refl
      none false true = refl
      none false false = refl

module _ {t : List ℕ} {booleans x truth left : ℕ} (known : Known t booleans x truth left) where
  pub known_turn : {n rest r : ℕ} → Lowest left n → Turn left n rest → WithBit truth n (holds_at t n truth x) r → Known t booleans x r rest
  known_turn {n} {rest} {r} low turn set = record {
    within = λ k e. known.within k (rest_in turn k e).0;
    only = λ k e. set_other small set k (λ q. clash (subst (λ (j : ℕ). bit booleans j ≡ true) (sym q) (known.within n turn.set)) e) ∙ known.only k e;
    clear = λ k e. set_other small set k (rest_in turn k e).1 ∙ known.clear k (rest_in turn k e).0;
    right = λ value rows. left_turn (kept value (known.right value rows)) turn (λ k h. h.0) (here value rows);
  }
    where
      small : n < 64
      small = turn.small

      -- what is done is not n
      kept : (value : ℕ → Boolean) → Left booleans left (λ k. bit truth k ≡ holds (value k) x)
          → Left booleans left (λ k. (bit r k ≡ holds (value k) x) × (bit left k ≡ false))
      kept value l = record {
        within = l.within;
        done = λ k e f. (set_other small set k (λ q. clash turn.set (subst (λ (j : ℕ). bit left j ≡ false) q f)) ∙ l.done k e f, f);
      }

      here : (value : ℕ → Boolean) → BooleanRows t booleans value → bit r n ≡ holds (value n) x
      here value rows = set_here small set (known.clear n turn.set)
          ∙ row_holds t booleans truth x value n small (rows n (known.within n turn.set)) (λ k l e. (known.right value rows).done k e (low.below k l))

pub known_end : {t : List ℕ} {booleans x truth : ℕ} → Known t booleans x truth 0 → (value : ℕ → Boolean) → BooleanRows t booleans value → Truth booleans value x truth
known_end known value rows = record { inside = left_end (known.right value rows) }
