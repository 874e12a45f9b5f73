-- The downward pass, one part: how it is used, what it hands to its operands, and that what is handed says what is expected next.
-- Nothing here has to be believed.
use Rattle.std.specs.Prelude.{ℕ, ◌+◌, ◌%◌, ◌≤◌, ◌<◌, ◌≡◌, refl, Bool, false, ◌&&◌, ◌||◌, T, eqb, ltb}
use Rattle.std.proofs.Common.{arith, sym, ◌∙◌, ap, ap₂, subst}
use Rattle.std.proofs.Math.Decide.{dec_lt}
use Rattle.std.proofs.Math.Bool.{and-true}
use Rattle.psl.specs.Booleans.{Boolean, Letter}
use Rattle.psl.specs.Sequences.{Sequence, cell, then, fuse, alt, star, plus}
use Rattle.psl.proofs.Marks.Automaton.{Marks, nullable}
use Rattle.psl.proofs.Marks.Words.{or_l, or_r}
use Rattle.psl.proofs.Marks.Feed.{any}
use Rattle.psl.proofs.Marks.Masks.{cells}
use Rattle.psl.specs.Tells.{tells_no, true_tells, tells_lt}
use Rattle.lanes.specs.OneLane.{ends, ended, next}
use Rattle.lanes.specs.CellSets.{fill, own, own_high}
use Rattle.lanes.specs.ShiftedLanes.{ends_empty, Cap, exact, over, lane_shift}
use Rattle.lanes.specs.UpPass.{Part, PartOk, choose, placed, placed_low}

-- How a part is used: by the weak node `owner`, or 64 for left sides and never; its first cell's number; the lanes that enter it on this letter, and on the next.
pub record Use : Type 0 where
  pub owner : ℕ
  pub base : ℕ
  pub into : ℕ → Bool
  pub go : ℕ → Bool

-- the lanes that a use is about: 0 to 6 for a weak node, 7 else
abbrev pub owned : ℕ → ℕ → Bool
owned o l = choose (ltb o 64) (ltb l 7) (eqb l 7)

-- the lanes that end a part on this letter
abbrev pub ended_lanes : Part → Use → ℕ → Bool
ended_lanes p w l = (placed w.base p.ends l && owned w.owner l) || (p.early && w.into l)

-- the number of the first cell to the right of a part
abbrev pub base_after : Part → Use → ℕ
base_after p w = (w.base % 8 + p.count % 8) % 8

-- what the right operand of `a ; b`, `a : b`, `a | b` is handed, and the operand of `a[*]`, `a[+]`; p is what was found of a
abbrev pub then_use : Part → Use → Use
then_use p w = record { owner = w.owner; base = base_after p w; into = λ l. p.empty && w.into l; go = λ l. ended_lanes p w l || (p.empty && w.go l) }

abbrev pub fuse_use : Part → Use → Use
fuse_use p w = record { owner = w.owner; base = base_after p w; into = ended_lanes p w; go = λ l. false }

abbrev pub alt_use : Part → Use → Use
alt_use p w = record { owner = w.owner; base = base_after p w; into = w.into; go = w.go }

abbrev pub loop_use : Part → Use → Use
loop_use p w = record { owner = w.owner; base = w.base; into = w.into; go = λ l. w.go l || ended_lanes p w l }

module _ {r : Sequence} {c : Letter} {m : Marks r} {p : Part} (s : PartOk r c m p) (w : Use) where
  -- ended lanes, merged and apart, are the automaton's
  pub ended_merged : w.owner ≡ 64 → ended_lanes p w 7 ≡ ended r c m (w.into 7)
  ended_merged o = rw (tells_no (tells_lt w.owner 64) (λ h. omega arith), s.early_is, and-true (p.ends 7), s.merged_is)

  own_ends : w.base + cells r ≤ 6 → (l : ℕ) → l < 7 → placed w.base p.ends l ≡ ends r c (own r w.base l)
  own_ends h l i = elim (dec_lt l 6) [
    | yes j ↦ placed_low w.base p.ends l j ∙ lane_shift r c p.ends s.lanes_are (exact refl (omega arith)) l j
    | no j ↦ (let e : l ≡ 6 = omega arith in rw e (sym (ap (ends r c) (own_high r w.base 6 h) ∙ ends_empty r c)))
  ]

  pub ended_apart : w.owner < 64 → w.base + cells r ≤ 6 → (l : ℕ) → l < 7 → ended_lanes p w l ≡ ended r c (own r w.base l) (w.into l)
  ended_apart o h l i = rw (true_tells (tells_lt w.owner 64) o, true_tells (tells_lt l 7) i, s.early_is, and-true (placed w.base p.ends l), own_ends h l i)

  -- the right operand's cells, n of them, begin where those of r end
  pub base_is : (n : ℕ) → w.base + (n + cells r) ≤ 6 → base_after p w ≡ w.base + cells r
  base_is n h = go s.count_is
    where
      go : Cap (cells r) p.count → base_after p w ≡ w.base + cells r
      go (exact e k) = omega arith
      go (over e k) = absurd (omega arith)

  right_fits : (n : ℕ) → w.base + (n + cells r) ≤ 6 → base_after p w + n ≤ 6
  right_fits n h = omega (arith, base_is n h)

-- lane 7 of what is handed on
module _ {x : Sequence} {c : Letter} {m : Marks x} {p : Part} (s : PartOk x c m p) (w : Use) (o : w.owner ≡ 64) where
  pub then_merged : (y : Sequence) (k : Marks y) → next y c k ((then_use p w).into 7) ((then_use p w).go 7)
      ≡ next y c k (nullable x && w.into 7) (ended x c m (w.into 7) || (nullable x && w.go 7))
  then_merged y k = ap₂ (λ (n e : Bool). next y c k (n && w.into 7) (e || (n && w.go 7))) s.empty_is (ended_merged s w o)

  pub fuse_merged : (y : Sequence) (k : Marks y) → next y c k ((fuse_use p w).into 7) ((fuse_use p w).go 7) ≡ next y c k (ended x c m (w.into 7)) false
  fuse_merged y k = ap (λ (e : Bool). next y c k e false) (ended_merged s w o)

  pub loop_merged : next x c m ((loop_use p w).into 7) ((loop_use p w).go 7) ≡ next x c m (w.into 7) (w.go 7 || ended x c m (w.into 7))
  loop_merged = ap (λ (e : Bool). next x c m (w.into 7) (w.go 7 || e)) (ended_merged s w o)

-- What a use has to say of the part r with the expected cells m. reaches o l q: lane l of weak node o leads to its cell q; Waits: some left side still has an expected cell.
module _ (c : Letter) (reaches : ℕ → ℕ → ℕ → Bool) (Waits : Type 0) where
  -- the cells of r that lane l expects next are those that it leads to
  abbrev pub LaneLeads : Use → Sequence → ℕ → Type 0
  LaneLeads w r l = next r c (own r w.base l) (w.into l) (w.go l) ≡ fill r w.base (reaches w.owner l)

  -- lane 7 expects some cell of r next
  abbrev pub SomeNext : Use → (r : Sequence) → Marks r → Type 0
  SomeNext w r m = T (any r (next r c m (w.into 7) (w.go 7)))

  -- the lanes of a weak node, kept apart
  pub record Apart (w : Use) (r : Sequence) : Type 0 where
    pub fits : w.base + cells r ≤ 6
    pub leads : (l : ℕ) → l < 7 → LaneLeads w r l

  -- THE USE IS RIGHT
  pub record Fine (w : Use) (r : Sequence) (m : Marks r) : Type 0 where
    pub apart : w.owner < 64 → Apart w r
    pub merged : w.owner ≡ 64 → SomeNext w r m → Waits

  -- a cell: its lanes
  pub fine_cell : {w : Use} {b : Boolean} {m : Bool} → Fine w (cell b) m → w.owner < 64 → (l : ℕ) → l < 7 → w.go l ≡ reaches w.owner l w.base
  fine_cell h o l i = (h.apart o).leads l i

  -- what r, used as w, hands on to its operand x as u
  handed_on : (w u : Use) {r x : Sequence} {m : Marks r} {k : Marks x} → u.owner ≡ w.owner
      → (w.owner < 64 → w.base + cells r ≤ 6 → (u.base + cells x ≤ 6) × ((l : ℕ) → l < 7 → LaneLeads w r l → LaneLeads u x l))
      → (w.owner ≡ 64 → SomeNext u x k → SomeNext w r m) → Fine w r m → Fine u x k
  handed_on w u {r} {x} e f g h = record {
    apart = λ o. (let k = h.apart (rw (← e) o) in let z = f (rw (← e) o) k.fits in record { fits = z.0; leads = λ l i. z.1 l i (k.leads l i) });
    merged = λ o t. h.merged (sym e ∙ o) (g (sym e ∙ o) t);
  }

  module _ {w : Use} {x y : Sequence} {m : Marks x × Marks y} where
    pub then_a : Fine w (then x y) m → Fine w x m.0
    then_a = handed_on w w refl (λ o f. (omega arith, λ l i k. ap (λ z. z.0) k)) (λ o. or_l (any x (next x c m.0 (w.into 7) (w.go 7))) _)

    pub fuse_a : Fine w (fuse x y) m → Fine w x m.0
    fuse_a = handed_on w w refl (λ o f. (omega arith, λ l i k. ap (λ z. z.0) k)) (λ o. or_l (any x (next x c m.0 (w.into 7) (w.go 7))) _)

    pub alt_a : Fine w (alt x y) m → Fine w x m.0
    alt_a = handed_on w w refl (λ o f. (omega arith, λ l i k. ap (λ z. z.0) k)) (λ o. or_l (any x (next x c m.0 (w.into 7) (w.go 7))) _)

    module _ {p : Part} (s : PartOk x c m.0 p) where
      pub then_b : Fine w (then x y) m → Fine (then_use p w) y m.1
      then_b = handed_on w (then_use p w) refl
          (λ o f. (right_fits s w (cells y) f, λ l i k. rw (base_is s w (cells y) f, s.empty_is, ended_apart s w o (omega arith) l i) (ap (λ z. z.1) k)))
          (λ o t. or_r (any x (next x c m.0 (w.into 7) (w.go 7))) _ (subst (λ z. T (any y z)) (then_merged s w o y m.1) t))

      pub fuse_b : Fine w (fuse x y) m → Fine (fuse_use p w) y m.1
      fuse_b = handed_on w (fuse_use p w) refl
          (λ o f. (right_fits s w (cells y) f, λ l i k. rw (base_is s w (cells y) f, ended_apart s w o (omega arith) l i) (ap (λ z. z.1) k)))
          (λ o t. or_r (any x (next x c m.0 (w.into 7) (w.go 7))) _ (subst (λ z. T (any y z)) (fuse_merged s w o y m.1) t))

      pub alt_b : Fine w (alt x y) m → Fine (alt_use p w) y m.1
      alt_b = handed_on w (alt_use p w) refl
          (λ o f. (right_fits s w (cells y) f, λ l i k. rw (base_is s w (cells y) f) (ap (λ z. z.1) k)))
          (λ o. or_r (any x (next x c m.0 (w.into 7) (w.go 7))) _)

  module _ {w : Use} {x : Sequence} {m : Marks x} {p : Part} (s : PartOk x c m p) where
    pub star_a : Fine w (star x) m → Fine (loop_use p w) x m
    star_a = handed_on w (loop_use p w) refl (λ o f. (f, λ l i k. rw (ended_apart s w o f l i) k)) (λ o. subst (λ z. T (any x z)) (loop_merged s w o))

    pub plus_a : Fine w (plus x) m → Fine (loop_use p w) x m
    plus_a = handed_on w (loop_use p w) refl (λ o f. (f, λ l i k. rw (ended_apart s w o f l i) k)) (λ o. subst (λ z. T (any x z)) (loop_merged s w o))
