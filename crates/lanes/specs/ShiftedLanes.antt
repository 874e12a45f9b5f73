-- Lanes of a part that stands some cells to the right: they are the same lanes by higher numbers.
-- Nothing here has to be believed.
use Rattle.std.specs.Prelude.{ℕ, ◌-◌, ◌≤◌, ◌<◌, ◌≡◌, Bool, true, false, not, ◌&&◌, ltb}
use Rattle.std.proofs.Common.{arith, sym, ◌∙◌, ap}
use Rattle.psl.specs.Booleans.{Letter}
use Rattle.psl.specs.Sequences.{Sequence}
use Rattle.psl.proofs.Marks.Automaton.{empty}
use Rattle.psl.proofs.Marks.Linear.{step_empty}
use Rattle.psl.specs.Tells.{Tells, does, doesnt, tells_lt}
use Rattle.lanes.specs.OneLane.{ends, ends_is}
use Rattle.lanes.specs.CellSets.{own, own_low, own_shift}

-- lane l of a part that stands k cells to the right
abbrev pub shifted : ℕ → (ℕ → Bool) → ℕ → Bool
shifted k e l = not (ltb l k) && e (l - k)

pub ends_empty : (r : Sequence) (c : Letter) → ends r c (empty r) ≡ false
ends_empty r c = ends_is r c (empty r) ∙ (step_empty r c).0

-- a count of cells, 7 where more
pub data Cap (n : ℕ) : ℕ → Type 0 where
  exact : {k : ℕ} → k ≡ n → n < 7 → Cap n k
  over : {k : ℕ} → k ≡ 7 → 7 ≤ n → Cap n k

-- THE SHIFT: lanes counted from the part's own left, read by numbers from n on
pub lane_shift : (r : Sequence) (c : Letter) (e : ℕ → Bool) → ((l : ℕ) → l < 6 → e l ≡ ends r c (own r 0 l))
    → {n k : ℕ} → Cap n k → (l : ℕ) → l < 6 → shifted k e l ≡ ends r c (own r n l)
lane_shift r c e h {n} {k} p l i = go (ltb l k) (tells_lt l k)
  where
    low : l < n → false ≡ ends r c (own r n l)
    low j = sym (ap (ends r c) (own_low r n l j) ∙ ends_empty r c)

    go : (b : Bool) → Tells (l < k) b → not b && e (l - k) ≡ ends r c (own r n l)
    go true (does j) = low (under p j)
      where
        under : Cap n k → l < k → l < n
        under (exact a b) z = omega arith
        under (over a b) z = omega arith
    go false (doesnt j) = other p
      where
        other : Cap n k → e (l - k) ≡ ends r c (own r n l)
        other (exact a b) = rw a (h (l - n) (omega arith) ∙ ap (ends r c) (sym (own_shift r n l (omega arith))))
        other (over a b) = absurd (omega arith)
