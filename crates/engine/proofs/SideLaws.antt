-- The numbers of a part and of a use in lane 7 under each operation of the code: one computed test over the flags for each.
use Prim.Native.Nat.{ℕ, ◌+◌, ◌*◌, ◌/◌, ◌%◌, ◌^◌}
use mathlib.Core.Path.{◌≡◌, refl, sym, ◌∙◌, ap, subst}
use mathlib.Core.Bool.{Bool, true, false, not, ◌&&◌, ◌||◌}
use mathlib.Core.List.{List}
use lib.Bits.{bit_or, bit_and}
use lib.Dec.{T, eqb, eqb→eq}
use lib.ListN.{length, length-set}
use Rattle.psl.specs.Booleans.{bit}
use Rattle.lanes.specs.UpPass.{Part, cell_part, then_part, fuse_part}
use Rattle.lanes.specs.Uses.{Use, ended_lanes, then_use}
use Rattle.engine.specs.Sides.{one_if, side_code, use_code}
use Rattle.engine.specs.SideSteps.{has, Seen, Handed}

-- ---- a test at each Boolean

abbrev both : (Bool → Bool) → Bool
both f = f true && f false

every : (f : Bool → Bool) → T (both f) → (a : Bool) → T (f a)
every f h a = go a (f true) (f false) h (λ t. t) (λ t. t)
  where
    go : (a p q : Bool) → T (p && q) → (T p → T (f true)) → (T q → T (f false)) → T (f a)
    go true true q h k l = k tt
    go false true q h k l = l h
    go a false q h k l = absurd h

abbrev both3 : (Bool → Bool → Bool → Bool) → Bool
both3 f = both (λ a. both (λ b. both (λ c. f a b c)))

every3 : (f : Bool → Bool → Bool → Bool) → T (both3 f) → (a b c : Bool) → T (f a b c)
every3 f h a b c = every (f a b) (every (λ b. both (λ c. f a b c)) (every (λ a. both (λ b. both (λ c. f a b c))) h a) b) c

every6 : (f : Bool → Bool → Bool → Bool → Bool → Bool → Bool) → T (both3 (λ a b c. both3 (λ d e g. f a b c d e g))) → (a b c d e g : Bool) → T (f a b c d e g)
every6 f h a b c = every3 (f a b c) (every3 (λ a b c. both3 (λ d e g. f a b c d e g)) h a b c)

-- ---- the flags of a part: early, ends, empty; of a use: into, go

abbrev code : Bool → Bool → Bool → ℕ
code early ends empty = one_if early 1 + one_if ends 2 + one_if empty 4

abbrev use_code_of : Bool → Bool → ℕ
use_code_of into go = one_if into 1 + one_if go 2

-- x << 1 in a byte
abbrev doubled : ℕ → ℕ
doubled x = x * 2 ^ 1 % 2 ^ 8

abbrev same : Bool → Bool → Bool
same a b = (a && b) || not (a || b)

same_equal : (a b : Bool) → T (same a b) → a ≡ b
same_equal true true t = refl
same_equal true false t = absurd t
same_equal false true t = absurd t
same_equal false false t = refl

flag : (number : ℕ) (which : Bool → Bool → Bool → Bool) → T (both3 (λ a b c. same (has number (code a b c)) (which a b c))) → (x : Part)
    → has number (side_code x) ≡ which x.early (x.ends 7) x.empty
flag number which t x = same_equal _ _ (every3 (λ a b c. same (has number (code a b c)) (which a b c)) t x.early (x.ends 7) x.empty)

pub has_early : (x : Part) → has 1 (side_code x) ≡ x.early
has_early = flag 1 (λ a b c. a) tt

pub has_ends : (x : Part) → has 2 (side_code x) ≡ x.ends 7
has_ends = flag 2 (λ a b c. b) tt

pub has_empty : (x : Part) → has 4 (side_code x) ≡ x.empty
has_empty = flag 4 (λ a b c. c) tt

pub has_go : (w : Use) → has 2 (use_code w) ≡ w.go 7
has_go w = go (w.into 7) (w.go 7)
  where
    go : (a b : Bool) → has 2 (use_code_of a b) ≡ b
    go true true = refl
    go true false = refl
    go false true = refl
    go false false = refl

-- ---- up

module _ {part : ℕ} where
  pub seen_expected : {on live : Bool} → live ≡ true → Seen part on live (one_if on 3)
  seen_expected {on} {live} e = record { cell_is = λ p. rw e (go on); row_is = λ f. absurd (subst T (sym e ∙ f) tt) }
    where
      go : (on : Bool) → one_if on 3 ≡ side_code (cell_part on true)
      go true = refl
      go false = refl

  pub seen_part : {on live : Bool} → live ≡ false → Seen part on live part
  seen_part {on} {live} e = record { cell_is = λ p. p ∙ rw e (go on); row_is = λ f. refl }
    where
      go : (on : Bool) → one_if on 1 ≡ side_code (cell_part on false)
      go true = refl
      go false = refl

module _ (x y : Part) where
  pub then_last : bit_or (bit_or (bit_and (side_code y) (bit_or 2 (bit_and (side_code x) 4 / 2 ^ 2))) (one_if (has 4 (side_code y)) (bit_and (side_code x) 3))) (bit_and (bit_and (side_code x) (side_code y)) 4)
      ≡ side_code (then_part x y)
  then_last = eqb→eq _ _ (every6 test tt x.early (x.ends 7) x.empty y.early (y.ends 7) y.empty)
    where
      number : ℕ → ℕ → ℕ
      number a b = bit_or (bit_or (bit_and b (bit_or 2 (bit_and a 4 / 2 ^ 2))) (one_if (has 4 b) (bit_and a 3))) (bit_and (bit_and a b) 4)

      test : Bool → Bool → Bool → Bool → Bool → Bool → Bool
      test a b c d e f = eqb (number (code a b c) (code d e f)) (code ((a && f) || (c && d)) (e || (f && b)) (c && f))

  pub fuse_is : bit_or (bit_and (side_code y) 2) (one_if (has 1 (side_code y)) (bit_and (side_code x) 3)) ≡ side_code (fuse_part x y)
  fuse_is = eqb→eq _ _ (every6 test tt x.early (x.ends 7) x.empty y.early (y.ends 7) y.empty)
    where
      number : ℕ → ℕ → ℕ
      number a b = bit_or (bit_and b 2) (one_if (has 1 b) (bit_and a 3))

      test : Bool → Bool → Bool → Bool → Bool → Bool → Bool
      test a b c d e f = eqb (number (code a b c) (code d e f)) (code (a && d) (e || (d && b)) false)

-- ---- down

module _ (x : Part) (w : Use) (o : w.owner ≡ 64) where
  -- lane 7 ends a part by an attempt under way, or by one that enters it now
  ended_seven : ended_lanes x w 7 ≡ x.ends 7 || (x.early && w.into 7)
  ended_seven = rw o (go (x.ends 7))
    where
      go : (b : Bool) → (b && true) || (x.early && w.into 7) ≡ b || (x.early && w.into 7)
      go true = refl
      go false = refl

  pub ended_is : bit_and (bit_or (side_code x) (doubled (bit_and (bit_and (side_code x) (use_code w)) 1))) 2 ≡ one_if (ended_lanes x w 7) 2
  ended_is = rw ended_seven (eqb→eq _ _ (every6 test tt x.early (x.ends 7) x.empty (w.into 7) (w.go 7) false))
    where
      test : Bool → Bool → Bool → Bool → Bool → Bool → Bool
      test a b c i g z = eqb (bit_and (bit_or (code a b c) (doubled (bit_and (bit_and (code a b c) (use_code_of i g)) 1))) 2) (one_if (b || (a && i)) 2)

module _ (x : Part) (w : Use) where
  pub then_use_is : bit_or (one_if (ended_lanes x w 7) 2) (one_if (has 4 (side_code x)) (use_code w)) ≡ use_code (then_use x w)
  then_use_is = eqb→eq _ _ (every6 test tt x.early (x.ends 7) x.empty (w.into 7) (w.go 7) (ended_lanes x w 7))
    where
      test : Bool → Bool → Bool → Bool → Bool → Bool → Bool
      test a b c i g e = eqb (bit_or (one_if e 2) (one_if (has 4 (code a b c)) (use_code_of i g))) (use_code_of (c && i) (e || (c && g)))

-- handing on keeps the length of uses
pub handed_length : {n v used booleans word word' : ℕ} {uses uses' : List ℕ} → Handed n v used booleans word uses word' uses' → length uses' ≡ length uses
handed_length {v = v} {booleans = booleans} {uses = uses} {uses' = uses'} h = by (bit booleans (v % 64)) refl
  where
    by : (b : Bool) → bit booleans (v % 64) ≡ b → length uses' ≡ length uses
    by true e = ap length (h.cell_uses e)
    by false e = ap length (h.row_uses e) ∙ simp length-set
