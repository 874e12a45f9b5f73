-- The step of a set of cells, put together from the steps of its cells.
-- Nothing here has to be believed.
use Prim.Native.Nat.{ℕ, zero, suc, ◌≤◌, ◌<◌}
use Rattle.std.proofs.Common.{arith, ◌∙◌, inl, inr, ⊎_elim}
use Rattle.std.proofs.Math.Decide.{dec_lt}
use Rattle.std.specs.Prelude.{◌≡◌, refl, Bool, true, false, ◌&&◌, ◌⊎◌, eqb, ltb}
use Rattle.std.proofs.Math.Path.{sym, ap, ap₂}
use Rattle.std.proofs.Math.Bool.{◌||◌, or_comm, and-or_distrib_left}
use Rattle.psl.specs.Booleans.{Letter}
use Rattle.psl.specs.Sequences.{Sequence}
use Rattle.psl.proofs.Marks.Automaton.{empty, join, gate, step}
use Rattle.psl.proofs.Marks.Masks.{cells}
use Rattle.psl.proofs.Marks.Linear.{step_join, step_empty}
use Rattle.psl.specs.Tells.{any, Tells, does, doesnt, tells_eq, tells_or, tells_lt}
use Rattle.lanes.specs.Bits.{tells_same}
use Rattle.lanes.specs.CellSets.{fill, own, fill_same, fill_or, fill_none, fill_gate}

-- the cells below n that f tells
abbrev pub below : ℕ → (ℕ → Bool) → ℕ → Bool
below n f k = f k && ltb k n

lt_one : (k n : ℕ) → k < suc n → (k < n) ⊎ (k ≡ n)
lt_one k n h = elim (dec_lt k n) [ yes y ↦ inl y | no y ↦ inr (omega arith) ]

ltb_suc : (k n : ℕ) → ltb k (suc n) ≡ ltb k n || eqb k n
ltb_suc k n = tells_same (tells_lt k (suc n)) (tells_or (tells_lt k n) (tells_eq k n)) (lt_one k n) (⊎_elim (λ h. omega arith) (λ h. omega arith))

pub below_suc : (f : ℕ → Bool) (n k : ℕ) → below (suc n) f k ≡ below n f k || (f n && eqb k n)
below_suc f n k = go (eqb k n) (ltb k n) (ltb k (suc n)) (ltb_suc k n) (tells_eq k n)
  where
    go : (e l m : Bool) → m ≡ l || e → Tells (k ≡ n) e → f k && m ≡ (f k && l) || (f n && e)
    go true l m q (does h) = rw (q, h) (and-or_distrib_left (f n) l true)
    go false l m q (doesnt h) = rw q (neither (f k) (f n) l)
      where
        neither : (x z y : Bool) → x && (y || false) ≡ (x && y) || (z && false)
        neither true true true = refl
        neither true true false = refl
        neither true false true = refl
        neither true false false = refl
        neither false true y = refl
        neither false false y = refl

pub below_zero : (f : ℕ → Bool) (k : ℕ) → below 0 f k ≡ false
below_zero f k = go (f k) (ltb k 0) (tells_lt k 0)
  where
    go : (x y : Bool) → Tells (k < 0) y → x && y ≡ false
    go x true (does h) = absurd (omega arith)
    go true false h = refl
    go false false h = refl

pub below_all : (f : ℕ → Bool) (n k : ℕ) → k < n → f k ≡ below n f k
below_all f n k h = go (f k) (ltb k n) (tells_lt k n)
  where
    go : (x y : Bool) → Tells (k < n) y → x ≡ x && y
    go true true t = refl
    go false y t = refl
    go true false (doesnt q) = absurd (q h)

-- THE STEP OF A SET, from the steps of single cells: which end (E), and which cells they lead to (R)
module _ (r : Sequence) (c : Letter) (E : ℕ → Bool) (R : ℕ → ℕ → Bool) (f : ℕ → Bool) where
  abbrev Lane : ℕ → Type 0
  Lane l = ((step r c (own r 0 l)).0 ≡ E l) × ((step r c (own r 0 l)).1 ≡ fill r 0 (R l))

  abbrev lead : ℕ → ℕ → Bool
  lead n q = any n (λ l. f l && R l q)

  one_more : (n : ℕ) → fill r 0 (below (suc n) f) ≡ join r (gate r (f n) (own r 0 n)) (fill r 0 (below n f))
  one_more n = fill_same _ _ r 0 (λ k l h. below_suc f n k ∙ or_comm (below n f k) (f n && eqb k n))
      ∙ fill_or (λ k. f n && eqb k n) (below n f) r 0 ∙ ap (λ m. join r m (fill r 0 (below n f))) (fill_gate r 0 (f n) (λ k. eqb k n))

  gated : (d : Bool) (n : ℕ) → Lane n → ((step r c (gate r d (own r 0 n))).0 ≡ d && E n) × ((step r c (gate r d (own r 0 n))).1 ≡ fill r 0 (λ q. d && R n q))
  gated true n h = h
  gated false n h = ((step_empty r c).0, (step_empty r c).1 ∙ sym (fill_none r 0))

  spread : (n : ℕ) → ((l : ℕ) → l < n → Lane l)
      → ((step r c (fill r 0 (below n f))).0 ≡ any n (λ l. f l && E l)) × ((step r c (fill r 0 (below n f))).1 ≡ fill r 0 (lead n))
  unfolding any
  spread zero h = let e : fill r 0 (below 0 f) ≡ empty r = fill_same _ (λ k. false) r 0 (λ k l m. below_zero f k) ∙ fill_none r 0 in
      (ap (λ m. (step r c m).0) e ∙ (step_empty r c).0, ap (λ m. (step r c m).1) e ∙ (step_empty r c).1 ∙ sym (fill_none r 0))
  spread (suc n) h =
      let ih = spread n (λ l m. h l (omega arith)) in
      let g = gated (f n) n (h n (omega arith)) in
      let j = step_join r c (gate r (f n) (own r 0 n)) (fill r 0 (below n f)) in (
        ap (λ m. (step r c m).0) (one_more n) ∙ j.done ∙ ap₂ ◌||◌ g.0 ih.0,
        ap (λ m. (step r c m).1) (one_more n) ∙ j.marks ∙ ap₂ (join r) g.1 ih.1 ∙ sym (fill_or (λ q. f n && R n q) (lead n) r 0),
      )

  pub step_set : (n : ℕ) → cells r ≤ n → ((l : ℕ) → l < n → Lane l)
      → ((step r c (fill r 0 f)).0 ≡ any n (λ l. f l && E l)) × ((step r c (fill r 0 f)).1 ≡ fill r 0 (λ q. any n (λ l. f l && R l q)))
  step_set n s h =
      let e : fill r 0 f ≡ fill r 0 (below n f) = fill_same f (below n f) r 0 (λ k l m. below_all f n k (omega arith)) in
      let g = spread n h in
      (ap (λ m. (step r c m).0) e ∙ g.0, ap (λ m. (step r c m).1) e ∙ g.1)
