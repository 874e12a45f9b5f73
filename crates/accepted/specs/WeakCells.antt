-- The sequences of an accepted table's rows: what the rows read as, and that a weak one has at most 6 cells.
use Prim.Native.Nat.{ℕ, zero, suc, ◌≤◌, ◌<◌}
use native.Mathlib.Omega.{arith}
use Rattle.std.proofs.Math.Decide.{dec_lt}
use Rattle.std.specs.Prelude.{◌≡◌, Bool, List, T, eqb}
use Rattle.std.proofs.Math.Path.{refl, sym, ap}
use Rattle.std.proofs.Common.{◌∙◌, subst, eqb-true}
use Rattle.std.proofs.Math.Bool.{true, false}
use Rattle.psl.specs.Booleans.{Boolean}
use Rattle.psl.proofs.Marks.Masks.{cells}
use Rattle.psl.specs.Sequences.{Sequence, cell, then, fuse, alt, star, plus}
use Rattle.table.specs.Choice.{pick}
use Rattle.table.specs.Rows.{row_at}
use Rattle.table.specs.Trees.{boolean_at, sequence_at}
use Rattle.table.specs.Cells.{cells_in, cells_at}
use Rattle.table.specs.Subset.{kind_at, Subset}
use Rattle.table.proofs.Laws.Numbers.{same_test}
use Rattle.table.proofs.Laws.Runs.{clash}
use Rattle.table.proofs.Laws.Spans.{every}
use Rattle.lanes.specs.Rows.{Row, r_bool, r_weak, Has, IsOperand, build, read_within}
use Rattle.lanes.specs.Expected.{Table}
use Rattle.accepted.specs.Rows.{Shape, h_bool, h_then, h_fuse, h_alt, h_star, h_plus, h_weak, h_left, h_rest, shape_of, made, row_of}
use Rattle.accepted.specs.Shapes.{implied, by_implied}
use Rattle.accepted.specs.Sequences.{row_in, row_low, known, past_rows, sound}
use Rattle.table.proofs.Facts.Trees as R
use Rattle.table.specs.declared.Counts.{Counts}

abbrev bool_or_rest : Shape → Bool
bool_or_rest h_bool = true
bool_or_rest h_then = false
bool_or_rest h_fuse = false
bool_or_rest h_alt = false
bool_or_rest h_star = false
bool_or_rest h_plus = false
bool_or_rest h_weak = false
bool_or_rest h_left = false
bool_or_rest h_rest = true

abbrev no_sequence : Shape → Bool
no_sequence h_bool = false
no_sequence h_then = false
no_sequence h_fuse = false
no_sequence h_alt = false
no_sequence h_star = false
no_sequence h_plus = false
no_sequence h_weak = true
no_sequence h_left = true
no_sequence h_rest = true

abbrev is_weak_lem : Shape → Bool
is_weak_lem h_bool = false
is_weak_lem h_then = false
is_weak_lem h_fuse = false
is_weak_lem h_alt = false
is_weak_lem h_star = false
is_weak_lem h_plus = false
is_weak_lem h_weak = true
is_weak_lem h_left = false
is_weak_lem h_rest = false

-- the cells of a sequence, counted from either side
cells_same : (r : Sequence) → cells r ≡ cells_in r
cells_same (cell x) = refl
cells_same (then x y) = omega (arith, cells_same x, cells_same y)
cells_same (fuse x y) = omega (arith, cells_same x, cells_same y)
cells_same (alt x y) = omega (arith, cells_same x, cells_same y)
cells_same (star x) = cells_same x
cells_same (plus x) = cells_same x

low_shape : (k : ℕ) → k < 16 → T (bool_or_rest (shape_of k))
unfolding shape_of pick
low_shape k l = every (λ j. bool_or_rest (shape_of j)) 0 16 tt k (omega arith) (omega arith)

high_shape : (k : ℕ) → 20 < k → k < 51 → T (no_sequence (shape_of k))
unfolding shape_of pick
high_shape k l m = every (λ j. no_sequence (shape_of j)) 21 30 tt k (omega arith) (omega arith)

weak_shape : (k : ℕ) → k < 51 → is_weak_lem (shape_of k) ≡ true → k ≡ 32
unfolding shape_of pick
weak_shape k l e = eqb-true k 32 (t_so _ (by_implied _ _ (every (λ j. implied (is_weak_lem (shape_of j)) (eqb j 32)) 0 51 tt k (omega arith) (omega arith)) e))
  where
    t_so : (b : Bool) → T b → b ≡ true
    t_so true h = refl
    t_so false h = absurd h

module _ (a b : ℕ) (x : Boolean) where
  low_row : (h : Shape) → T (bool_or_rest h) → IsOperand (made h a b x) → made h a b x ≡ r_bool x
  low_row h_bool t q = refl
  low_row h_rest t q = absurd q
  low_row h_then t q = elim t [ ]
  low_row h_fuse t q = elim t [ ]
  low_row h_alt t q = elim t [ ]
  low_row h_star t q = elim t [ ]
  low_row h_plus t q = elim t [ ]
  low_row h_weak t q = elim t [ ]
  low_row h_left t q = elim t [ ]

  high_row : (h : Shape) → T (no_sequence h) → IsOperand (made h a b x) → ⊥
  high_row h_weak t q = q
  high_row h_left t q = q
  high_row h_rest t q = q
  high_row h_bool t q = elim t [ ]
  high_row h_then t q = elim t [ ]
  high_row h_fuse t q = elim t [ ]
  high_row h_alt t q = elim t [ ]
  high_row h_star t q = elim t [ ]
  high_row h_plus t q = elim t [ ]

  weak_row : (h : Shape) (v : ℕ) → made h a b x ≡ r_weak v → (is_weak_lem h ≡ true) × (v ≡ a)
  weak_row h_bool v e = clash cc
  weak_row h_then v e = clash cc
  weak_row h_fuse v e = clash cc
  weak_row h_alt v e = clash cc
  weak_row h_star v e = clash cc
  weak_row h_plus v e = clash cc
  weak_row h_weak v e = (refl, cc)
  weak_row h_left v e = clash cc
  weak_row h_rest v e = clash cc

module _ (t : List ℕ) (c : Counts) (z : Subset t c) where
  abbrev row_t : ℕ → Row
  row_t = row_of t c.nodes

  -- the row of a node of kind k
  pub row_at_lem : (k n : ℕ) → n < c.nodes → kind_at t n ≡ k → row_t n ≡ made (shape_of k) (row_at t n).a (row_at t n).b (boolean_at t n)
  row_at_lem k n l e = row_in t c z n l ∙ ap (λ (m : ℕ). made (shape_of m) (row_at t n).a (row_at t n).b (boolean_at t n)) e

  operand_in : (n : ℕ) (f : Bool) (v : ℕ) {r : Row} → n < c.nodes → row_t n ≡ r → Has r f v → (v < n) × IsOperand (row_t v)
  operand_in n f v l e h = let i = subst (λ x. Has x f v) (sym e) h in ((sound t c z).falls n f v i, (sound t c z).class n f v i)

  abbrev a : ℕ → ℕ
  a v = (row_at t v).a

  abbrev b : ℕ → ℕ
  b v = (row_at t v).b

  -- the operands read as their nodes: one row more
  module _ (k v : ℕ) (l : v < c.nodes) (m : v < suc k) (same : (w : ℕ) → w < v → IsOperand (row_t w) → read_within row_t k w ≡ sequence_at t w) where
    read_in : (f : Bool) (w : ℕ) {r : Row} → row_t v ≡ r → Has r f w → read_within row_t k w ≡ sequence_at t w
    read_in f w e h = let o = operand_in v f w l e h in same w o.0 o.1

    read_row : IsOperand (row_t v) → build (read_within row_t k) (row_t v) ≡ sequence_at t v
    unfolding shape_of pick
    read_row q = elim (dec_lt (kind_at t v) 16) [
      | yes p ↦ ap (build (read_within row_t k)) (row_in t c z v l ∙ low_row (a v) (b v) (boolean_at t v) (shape_of (kind_at t v)) (low_shape (kind_at t v) p) (subst IsOperand (row_in t c z v l) q))
          ∙ sym (R.is_cell t c z v l p)
      | no p ↦ elim (dec_lt 20 (kind_at t v)) [
        | yes s ↦ absurd (high_row (a v) (b v) (boolean_at t v) (shape_of (kind_at t v)) (high_shape (kind_at t v) s (known t c z v l)) (subst IsOperand (row_in t c z v l) q))
        | no s ↦ elim (same_test (kind_at t v) 16) [
          | yes e ↦ (let r = row_at_lem 16 v l e in ap (build (read_within row_t k)) r ∙ (λ i. then (read_in false (a v) r refl i) (read_in true (b v) r refl i)) ∙ sym (R.is_then t c z v l e))
          | no x ↦ elim (same_test (kind_at t v) 17) [
            | yes e ↦ (let r = row_at_lem 17 v l e in ap (build (read_within row_t k)) r ∙ (λ i. fuse (read_in false (a v) r refl i) (read_in true (b v) r refl i)) ∙ sym (R.is_fuse t c z v l e))
            | no y ↦ elim (same_test (kind_at t v) 18) [
              | yes e ↦ (let r = row_at_lem 18 v l e in ap (build (read_within row_t k)) r ∙ (λ i. alt (read_in false (a v) r refl i) (read_in true (b v) r refl i)) ∙ sym (R.is_alt t c z v l e))
              | no w ↦ elim (same_test (kind_at t v) 19) [
                | yes e ↦ (let r = row_at_lem 19 v l e in ap (build (read_within row_t k)) r ∙ (λ i. star (read_in false (a v) r refl i)) ∙ sym (R.is_star t c z v l e))
                | no u ↦ (let e : kind_at t v ≡ 20 = omega arith in
                    let r = row_at_lem 20 v l e in ap (build (read_within row_t k)) r ∙ (λ i. plus (read_in false (a v) r refl i)) ∙ sym (R.is_plus t c z v l e))
              ]
            ]
          ]
        ]
      ]
    ]

  -- a row that may stand as a sequence reads as the sequence of its node
  pub read_same : (k v : ℕ) → v < c.nodes → v < k → IsOperand (row_t v) → read_within row_t k v ≡ sequence_at t v
  unfolding read_within
  read_same zero v l m q = absurd (omega arith)
  read_same (suc k) v l m q = read_row k v l m (λ w p o. read_same k w (omega arith) (omega arith) o) q

  -- the operand of a weak row, and the row's kind
  pub weak_kind : (n v : ℕ) → row_t n ≡ r_weak v → (n < c.nodes) × (kind_at t n ≡ 32) × (v ≡ a n)
  weak_kind n v e =
      let l = row_low t c z n (λ r. r ≡ r_weak v) e (λ h. clash cc) in
      let w = weak_row (a n) (b n) (boolean_at t n) (shape_of (kind_at t n)) v (sym (row_in t c z n l) ∙ e) in
      (l, weak_shape (kind_at t n) (known t c z n l) w.0, w.1)

  few : (n v : ℕ) → row_t n ≡ r_weak v → cells (read_within row_t 63 v) ≤ 6
  unfolding cells_at
  few n v e =
      let w = weak_kind n v e in
      let o = operand_in n false v w.0 e refl in
      let r = read_same 63 v (omega (arith, o.0, w.0)) (omega (arith, o.0, w.0, z.layout.nodes_range)) o.1 in
      let p = z.cells n w.0 w.1 in
      omega (arith, cells_same (read_within row_t 63 v), ap cells_in r, ap cells_at_here w.2)
    where
      cells_at_here : ℕ → ℕ
      cells_at_here u = cells_in (sequence_at t u)

  -- ALL THAT THE PASSES NEED OF THE TABLE
  pub table : Table row_t
  table = record { sound = sound t c z; beyond = past_rows t c z; few = few }
