-- The upward pass: what is found of each part from its operands, and that it is right.
-- Nothing here has to be believed.
use Rattle.std.specs.Prelude.{ℕ, ◌+◌, ◌<◌, ◌≡◌, refl, Bool, true, false, ◌&&◌, ◌||◌, eqb, ltb}
use Rattle.std.proofs.Common.{zero-add, arith, sym, ◌∙◌, ap₂}
use Rattle.std.proofs.Math.Bool.{or-false, or-true, and_comm}
use Rattle.psl.specs.Booleans.{Boolean, Letter, satisfies}
use Rattle.psl.specs.Sequences.{Sequence, cell, then, fuse, alt, star, plus}
use Rattle.psl.proofs.Marks.Automaton.{Marks, nullable}
use Rattle.psl.proofs.Marks.Masks.{cells}
use Rattle.psl.specs.Tells.{Tells, does, doesnt, tells_eq, tells_no, true_tells, tells_lt}
use Rattle.lanes.specs.OneLane.{early, ends, early_then, early_fuse}
use Rattle.lanes.specs.CellSets.{own}
use Rattle.lanes.specs.ShiftedLanes.{shifted, Cap, exact, over, lane_shift}
use Rattle.lanes.specs.Rows.{Row, r_bool, r_then, r_fuse, r_alt, r_star, r_plus, r_weak, r_left, r_rest, Sits, s_cell, s_then, s_fuse, s_alt, s_star, s_plus}

-- What the upward pass finds of a part: lanes 0 to 5 are its own cells from the left, lane 7 the expected ones.
pub record Part : Type 0 where
  pub empty : Bool
  pub early : Bool
  pub count : ℕ
  pub ends : ℕ → Bool

-- THE PART IS RIGHT: it is what the automaton says of r with the expected cells m, on letter c.
pub record PartOk (r : Sequence) (c : Letter) (m : Marks r) (p : Part) : Type 0 where
  pub empty_is : p.empty ≡ nullable r
  pub early_is : p.early ≡ early r c
  pub count_is : Cap (cells r) p.count
  pub merged_is : p.ends 7 ≡ ends r c m
  pub lanes_are : (l : ℕ) → l < 6 → p.ends l ≡ ends r c (own r 0 l)

abbrev pub choose : Bool → Bool → Bool → Bool
choose true x y = x
choose false x y = y

-- the lanes of b, k cells to the right; lane 7 stays
abbrev pub placed : ℕ → (ℕ → Bool) → ℕ → Bool
placed k e l = choose (eqb l 7) (e 7) (ltb l 6 && shifted k e l)

-- two counts together, 7 where more
abbrev pub capped : ℕ → ℕ → ℕ
capped j k = elim (ltb (j + k) 7) [ true ↦ j + k | false ↦ 7 ]

-- the part of a cell, of `a ; b`, `a : b`, `a | b`, and of `a[*]` (true) or `a[+]` (false)
abbrev pub cell_part : Bool → Bool → Part
cell_part on live = record { empty = false; early = on; count = 1; ends = λ l. on && choose (eqb l 7) live (eqb 0 l) }

abbrev pub then_part : Part → Part → Part
then_part x y = record {
  empty = x.empty && y.empty;
  early = (x.early && y.empty) || (x.empty && y.early);
  count = capped x.count y.count;
  ends = λ l. placed x.count y.ends l || (y.empty && x.ends l);
}

abbrev pub fuse_part : Part → Part → Part
fuse_part x y = record {
  empty = false;
  early = x.early && y.early;
  count = capped x.count y.count;
  ends = λ l. placed x.count y.ends l || (y.early && x.ends l);
}

abbrev pub alt_part : Part → Part → Part
alt_part x y = record {
  empty = x.empty || y.empty;
  early = x.early || y.early;
  count = capped x.count y.count;
  ends = λ l. placed x.count y.ends l || x.ends l;
}

abbrev pub loop_part : Bool → Part → Part
loop_part s x = record { empty = x.empty || s; early = x.early; count = x.count; ends = x.ends }

cap_add : {m n j k : ℕ} → Cap m j → Cap n k → Cap (n + m) (capped j k)
cap_add {m} {n} {j} {k} p q = go (ltb (j + k) 7) (tells_lt (j + k) 7) p q
  where
    go : (b : Bool) → Tells (j + k < 7) b → Cap m j → Cap n k → Cap (n + m) (elim b [ true ↦ j + k | false ↦ 7 ])
    go true (does h) (exact a b) (exact d e) = exact {k = j + k} (omega arith) (omega arith)
    go true (does h) (exact a b) (over d e) = absurd (omega arith)
    go true (does h) (over a b) q = absurd (omega arith)
    go false (doesnt h) (exact a b) (exact d e) = over refl (omega arith)
    go false (doesnt h) (exact a b) (over d e) = over refl (omega arith)
    go false (doesnt h) (over a b) q = over refl (omega arith)

-- below 6 a lane is shifted
pub placed_low : (k : ℕ) (e : ℕ → Bool) (l : ℕ) → l < 6 → placed k e l ≡ shifted k e l
placed_low k e l h = rw (tells_no (tells_eq l 7) (λ z. omega arith), true_tells (tells_lt l 6) h)

-- lane 7 of a cell is its mark, lane 0 itself
cell_ok : (b : Boolean) (c : Letter) (m live : Bool) → m ≡ live → PartOk (cell b) c m (cell_part (satisfies c b) live)
cell_ok b c m live e = record {
  empty_is = refl;
  early_is = refl;
  count_is = exact refl (omega arith);
  merged_is = rw (← e) (and_comm (satisfies c b) m);
  lanes_are = λ l h. rw (tells_no (tells_eq l 7) (λ z. omega arith)) (and_comm (satisfies c b) (eqb 0 l));
}

module _ (c : Letter) {x y : Sequence} {m : Marks x × Marks y} {p q : Part} (s : PartOk x c m.0 p) (t : PartOk y c m.1 q) where
  right_lanes : (l : ℕ) → l < 6 → placed p.count q.ends l ≡ ends y c (own y (0 + cells x) l)
  right_lanes l h = rw zero-add (placed_low p.count q.ends l h ∙ lane_shift y c q.ends t.lanes_are s.count_is l h)

  then_ok : PartOk (then x y) c m (then_part p q)
  then_ok = record {
    empty_is = ap₂ ◌&&◌ s.empty_is t.empty_is;
    early_is = rw (s.early_is, t.empty_is, s.empty_is, t.early_is) (sym (early_then x y c));
    count_is = cap_add s.count_is t.count_is;
    merged_is = rw (t.merged_is, s.merged_is, t.empty_is);
    lanes_are = λ l h. rw (right_lanes l h, s.lanes_are l h, t.empty_is);
  }

  fuse_ok : PartOk (fuse x y) c m (fuse_part p q)
  fuse_ok = record {
    empty_is = refl;
    early_is = rw (s.early_is, t.early_is) (sym (early_fuse x y c));
    count_is = cap_add s.count_is t.count_is;
    merged_is = rw (t.merged_is, s.merged_is, t.early_is);
    lanes_are = λ l h. rw (right_lanes l h, s.lanes_are l h, t.early_is);
  }

  alt_ok : PartOk (alt x y) c m (alt_part p q)
  alt_ok = record {
    empty_is = ap₂ ◌||◌ s.empty_is t.empty_is;
    early_is = ap₂ ◌||◌ s.early_is t.early_is;
    count_is = cap_add s.count_is t.count_is;
    merged_is = ap₂ ◌||◌ t.merged_is s.merged_is;
    lanes_are = λ l h. rw (right_lanes l h, s.lanes_are l h);
  }

module _ (c : Letter) {x : Sequence} {m : Marks x} {p : Part} (s : PartOk x c m p) where
  star_ok : PartOk (star x) c m (loop_part true p)
  star_ok = record { empty_is = or-true p.empty; early_is = s.early_is; count_is = s.count_is; merged_is = s.merged_is; lanes_are = s.lanes_are }

  plus_ok : PartOk (plus x) c m (loop_part false p)
  plus_ok = record { empty_is = or-false p.empty ∙ s.empty_is; early_is = s.early_is; count_is = s.count_is; merged_is = s.merged_is; lanes_are = s.lanes_are }

-- The upward pass: what it leaves at each row, from the operands; at a Boolean the part is the cell's.
module _ (row : ℕ → Row) (live : ℕ → Bool → Bool) (c : Letter) (part : ℕ → Part) where
  abbrev pub operand_by : Row → ℕ → Bool → ℕ → Part
  operand_by (r_bool b) n f v = cell_part (satisfies c b) (live n f)
  operand_by (r_then a b) n f v = part v
  operand_by (r_fuse a b) n f v = part v
  operand_by (r_alt a b) n f v = part v
  operand_by (r_star a) n f v = part v
  operand_by (r_plus a) n f v = part v
  operand_by (r_weak a) n f v = part v
  operand_by (r_left a) n f v = part v
  operand_by r_rest n f v = part v

  -- what is found of the operand v in field f of row n
  abbrev pub operand : ℕ → Bool → ℕ → Part
  operand n f v = operand_by (row v) n f v

  -- what the pass leaves at row v
  abbrev pub RowPart : Row → ℕ → Type 0
  RowPart (r_bool b) v = Unit
  RowPart (r_then a b) v = part v ≡ then_part (operand v false a) (operand v true b)
  RowPart (r_fuse a b) v = part v ≡ fuse_part (operand v false a) (operand v true b)
  RowPart (r_alt a b) v = part v ≡ alt_part (operand v false a) (operand v true b)
  RowPart (r_star a) v = part v ≡ loop_part true (operand v false a)
  RowPart (r_plus a) v = part v ≡ loop_part false (operand v false a)
  RowPart (r_weak a) v = Unit
  RowPart (r_left a) v = Unit
  RowPart r_rest v = Unit

  -- THE UPWARD PASS is right
  module _ (all : (v : ℕ) → RowPart (row v) v) where
    pub part_ok : {n : ℕ} {f : Bool} {v : ℕ} {r : Sequence} {m : Marks r} → Sits row live n f v r m → PartOk r c m (operand n f v)
    part_ok {n} {f} {v} (s_cell {b = b} {m = m} e k) = rw e (cell_ok b c m (live n f) k)
    part_ok {v = v} (s_then e s t) = let h = rw e at (all v) in rw (e, h) (then_ok c (part_ok s) (part_ok t))
    part_ok {v = v} (s_fuse e s t) = let h = rw e at (all v) in rw (e, h) (fuse_ok c (part_ok s) (part_ok t))
    part_ok {v = v} (s_alt e s t) = let h = rw e at (all v) in rw (e, h) (alt_ok c (part_ok s) (part_ok t))
    part_ok {v = v} (s_star e s) = let h = rw e at (all v) in rw (e, h) (star_ok c (part_ok s))
    part_ok {v = v} (s_plus e s) = let h = rw e at (all v) in rw (e, h) (plus_ok c (part_ok s))
