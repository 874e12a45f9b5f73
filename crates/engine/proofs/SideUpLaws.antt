-- The walk up the rows of left sides: what holds of the rows that are done, and that one row keeps it.
use Prim.Native.Nat.{ℕ, ◌%◌, ◌≤◌, ◌<◌}
use native.Mathlib.Omega.{arith}
use native.Mathlib.Decide.{dec_lt}
use mathlib.Core.Path.{◌≡◌, refl, sym, ◌∙◌, ap, ap₂, subst}
use mathlib.Core.Bool.{Bool, true, false}
use mathlib.Core.List.{List}
use lib.ListN.{length, get_or, set, length-set}
use lib.Seq.{get_or-set_same, get_or-set_other}
use Rattle.psl.specs.Booleans.{Boolean, bit, sample}
use Rattle.lanes.specs.Rows.{Row, r_bool, Has, IsSequence, Sound}
use Rattle.lanes.specs.UpPass.{Part, cell_part, operand}
use Rattle.lanes.specs.Ideal.{part_of, parts_right}
use Rattle.table.proofs.Laws.Numbers.{same_test}
use Rattle.words.specs.Bits.{bit_none}
use Rattle.words.specs.Sets.{Lowest, WithBit}
use Rattle.words.specs.Walk.{Turn, rest_in, Left, left_start, left_turn, left_end}
use Rattle.engine.specs.Reads.{kind_of, a_of, b_of}
use Rattle.engine.specs.Sides.{one_if, side_code, SideOperand, is_cell, is_row, SideRow, reads_then, reads_fuse, reads_alt, reads_star, reads_plus, reads_left, SideRows, LiveWords, LiveAtCells, first_part, SidesUp, OverSides}
use Rattle.engine.specs.declared.properties.Hits.{Hits}
use Rattle.engine.specs.SideSteps.{has, SeenAt, PartOf, Upped}
use Rattle.engine.proofs.SideLaws.{has_ends, has_early, has_empty}
use Rattle.engine.proofs.SideRowLaws.{clash, cell_apart, operand_sequence, sequence_row_lem, first_operand, with_bit_here, with_bit_else, Over, over_same, over_more, over_clear}

-- a list after a store
pub stored : (out : List ℕ) (i v : ℕ) (out' : List ℕ) → length out ≡ 64 → i < 64 → out' ≡ set out (i % 64) v → get_or out' i 0 ≡ v
stored out i v out' s l e = let m : i % 64 ≡ i = omega arith in rw (e, m) (get_or-set_same out i v 0 (omega arith))

pub stored_else : (out : List ℕ) (i v k : ℕ) (out' : List ℕ) → i < 64 → out' ≡ set out (i % 64) v → (k ≡ i → ⊥) → get_or out' k 0 ≡ get_or out k 0
stored_else out i v k out' l e z = let m : i % 64 ≡ i = omega arith in rw (e, m) (get_or-set_other out i k v 0 z)

pub stored_size : (out : List ℕ) (i v : ℕ) (out' : List ℕ) → out' ≡ set out i v → length out ≡ 64 → length out' ≡ 64
stored_size out i v out' e s = ap length e ∙ simp length-set s

-- The walk through the Booleans.
abbrev pub CellIs : ℕ → List ℕ → ℕ → Type 0
CellIs truth parts v = get_or parts v 0 ≡ one_if (bit truth v) 1

pub cells_turn : (truth : ℕ) (parts : List ℕ) {booleans left n rest v : ℕ} → length parts ≡ 64 → Left booleans left (CellIs truth parts) → Turn left n rest
    → v ≡ one_if (bit truth (n % 64)) 1 → Left booleans rest (CellIs truth (set parts (n % 64) v))
cells_turn truth parts {n = n} {v = v} s h turn e = left_turn h turn still here
  where
    here : CellIs truth (set parts (n % 64) v) n
    here = let m : n % 64 ≡ n = omega (arith, turn.small) in stored parts n v _ s turn.small refl ∙ e ∙ ap (λ (k : ℕ). one_if (bit truth k) 1) m

    still : (k : ℕ) → CellIs truth parts k → CellIs truth (set parts (n % 64) v) k
    still k d = elim (same_test k n) [ yes q ↦ rw q here | no z ↦ stored_else parts n v k _ turn.small refl z ∙ d ]

-- What is safe at any rows: lengths, and which bits are set.
pub record UpSafe (t : List ℕ) (sides left : ℕ) (parts lefts : List ℕ) (hits : Hits) : Type 0 where
  pub parts_size : length parts ≡ 64
  pub lefts_size : length lefts ≡ 64
  pub left_in : (k : ℕ) → bit left k ≡ true → bit sides k ≡ true
  pub ends_in : Over (λ k. 32 ≤ kind_of t k) sides left hits.ends
  pub early_in : Over (λ k. 32 ≤ kind_of t k) sides left hits.early
  pub empty_in : Over (λ k. 32 ≤ kind_of t k) sides left hits.empty

pub up_safe_start : (t : List ℕ) (sides : ℕ) (parts lefts : List ℕ) → length parts ≡ 64 → length lefts ≡ 64
    → UpSafe t sides sides parts lefts (record { ends = 0; early = 0; empty = 0 })
up_safe_start t sides parts lefts p q = record {
  parts_size = p;
  lefts_size = q;
  left_in = λ k e. e;
  ends_in = λ k e. absurd (clash e (bit_none k));
  early_in = λ k e. absurd (clash e (bit_none k));
  empty_in = λ k e. absurd (clash e (bit_none k));
}

pub over_sides : (t : List ℕ) (sides left word : ℕ) → Over (λ k. 32 ≤ kind_of t k) sides left word → OverSides t sides word
over_sides t sides left word o k e = let h = o k e in (h.0, h.2)

-- one row
module _ {t : List ℕ} {truth la lb sides left n rest : ℕ} {parts parts' lefts lefts' : List ℕ} {hits hits' : Hits}
    (safe : UpSafe t sides left parts lefts hits) (turn : Turn left n rest) (u : Upped t truth la lb parts parts' lefts lefts' n hits hits') where
  here : bit sides n ≡ true
  here = safe.left_in n turn.set

  abbrev Kind : ℕ → Type 0
  Kind k = 32 ≤ kind_of t k

  -- A word of the hits after row n: as it was, or with the row's flag where it stands over a left side.
  abbrev Flagged : ℕ → ℕ → Bool → Type 0
  Flagged word word' on = (kind_of t n < 32 → word' ≡ word) × (32 ≤ kind_of t n → WithBit word n on word')

  ends_flagged : Flagged hits.ends hits'.ends (has 2 u.first)
  ends_flagged = (λ l. ap (λ (h : Hits). h.ends) (u.put.found.hits_same l), λ l. (u.put.found.hit_is l).ends_on)

  early_flagged : Flagged hits.early hits'.early (has 1 u.first)
  early_flagged = (λ l. ap (λ (h : Hits). h.early) (u.put.found.hits_same l), λ l. (u.put.found.hit_is l).early_on)

  empty_flagged : Flagged hits.empty hits'.empty (has 4 u.first)
  empty_flagged = (λ l. ap (λ (h : Hits). h.empty) (u.put.found.hits_same l), λ l. (u.put.found.hit_is l).empty_on)

  flagged_over : {word word' : ℕ} {on : Bool} → Flagged word word' on → Over Kind sides left word → Over Kind sides rest word'
  flagged_over {word} {word'} f o = elim (dec_lt (kind_of t n) 32) [
    | yes l ↦ rw (f.0 l) (over_same Kind sides turn word o)
    | no l ↦ over_more Kind sides turn word word' (f.1 (omega arith)) here (omega arith) o
  ]

  flagged_else : {word word' : ℕ} {on : Bool} → Flagged word word' on → (k : ℕ) → (k ≡ n → ⊥) → bit word' k ≡ bit word k
  flagged_else f k z = elim (dec_lt (kind_of t n) 32) [
    | yes l ↦ ap (λ (w : ℕ). bit w k) (f.0 l)
    | no l ↦ with_bit_else (f.1 (omega arith)) turn.small k z
  ]

  pub up_safe_turn : UpSafe t sides rest parts' lefts' hits'
  up_safe_turn = record {
    parts_size = elim (dec_lt (kind_of t n) 32) [
      | yes l ↦ stored_size parts (n % 64) _ parts' (u.put.found.part_is l).2 safe.parts_size
      | no l ↦ ap length (u.put.found.parts_same (omega arith)) ∙ safe.parts_size
    ];
    lefts_size = stored_size lefts (n % 64) _ lefts' u.put.lefts_is safe.lefts_size;
    left_in = λ k e. safe.left_in k (rest_in turn k e).0;
    ends_in = flagged_over ends_flagged safe.ends_in;
    early_in = flagged_over early_flagged safe.early_in;
    empty_in = flagged_over empty_flagged safe.empty_in;
  }

  parts_else : (k : ℕ) → (k ≡ n → ⊥) → get_or parts' k 0 ≡ get_or parts k 0
  parts_else k z = elim (dec_lt (kind_of t n) 32) [
    | yes l ↦ stored_else parts n _ k parts' turn.small (u.put.found.part_is l).2 z
    | no l ↦ ap (λ (out : List ℕ). get_or out k 0) (u.put.found.parts_same (omega arith))
  ]

  lefts_else : (k : ℕ) → (k ≡ n → ⊥) → get_or lefts' k 0 ≡ get_or lefts k 0
  lefts_else k z = stored_else lefts n _ k lefts' turn.small u.put.lefts_is z

  -- A row over a left side has its flag in the word.
  flagged_here : {word word' : ℕ} {on : Bool} → Flagged word word' on → Over Kind sides left word → 32 ≤ kind_of t n → bit word' n ≡ on
  flagged_here {word} f o l = with_bit_here (f.1 l) turn.small (over_clear Kind sides turn word o)

module _ (t : List ℕ) (row : ℕ → Row) (live : ℕ → Bool → Bool) (booleans sides truth x : ℕ) where
  abbrev part : ℕ → Part
  part = part_of row live (sample x)

  abbrev first : ℕ → Part
  first n = first_part row live x n (a_of t n)

  abbrev second : ℕ → Part
  second n = operand row live (sample x) part n true (b_of t n)

  -- the numbers and bits of row k
  pub record RowFound (parts lefts : List ℕ) (hits : Hits) (k : ℕ) : Type 0 where
    pub part_is : kind_of t k < 32 → get_or parts k 0 ≡ side_code (part k)
    pub left_is : get_or lefts k 0 ≡ side_code (first k)
    pub ends_is : 32 ≤ kind_of t k → bit hits.ends k ≡ (first k).ends 7
    pub early_is : 32 ≤ kind_of t k → bit hits.early k ≡ (first k).early
    pub empty_is : 32 ≤ kind_of t k → bit hits.empty k ≡ (first k).empty

  -- the rows that are done, and the cells
  pub record UpSofar (left : ℕ) (parts lefts : List ℕ) (hits : Hits) : Type 0 where
    pub cells : (v : ℕ) (b : Boolean) → bit booleans v ≡ true → row v ≡ r_bool b → get_or parts v 0 ≡ one_if (bit truth v) 1
    pub rows : Left sides left (RowFound parts lefts hits)

  pub up_start : (parts lefts : List ℕ) (hits : Hits) → ((v : ℕ) → bit booleans v ≡ true → get_or parts v 0 ≡ one_if (bit truth v) 1) → UpSofar sides parts lefts hits
  up_start parts lefts hits h = record { cells = λ v b m e. h v m; rows = left_start sides }

  pub up_end : {parts lefts : List ℕ} {hits : Hits} → UpSofar 0 parts lefts hits → SidesUp t row live sides x lefts hits
  up_end h = record {
    lefts_are = λ n s. (left_end h.rows n s).left_is;
    ends_are = λ n s. (left_end h.rows n s).ends_is;
    early_are = λ n s. (left_end h.rows n s).early_is;
    empty_are = λ n s. (left_end h.rows n s).empty_is;
  }

  module _ (sound : Sound row) (all : SideRows t row booleans sides truth x) {la lb : ℕ} (words : LiveWords sides live la lb) (lit : LiveAtCells row live)
      {left n rest : ℕ} {parts parts' lefts lefts' : List ℕ} {hits hits' : Hits}
      (safe : UpSafe t sides left parts lefts hits) (low : Lowest left n) (turn : Turn left n rest)
      (u : Upped t truth la lb parts parts' lefts lefts' n hits hits') (h : UpSofar left parts lefts hits) where
    own : SideRow t row booleans sides truth x n
    own = all n (here safe turn u)

    small : n % 64 ≡ n
    small = omega (arith, turn.small)

    -- no cell is expected in a field that holds a sequence
    dark : (f : Bool) (v : ℕ) → Has (row n) f v → IsSequence (row v) → live n f ≡ false
    dark f v i s = go (live n f) refl
      where
        go : (b : Bool) → live n f ≡ b → b ≡ false
        go true e = absurd (cell_apart row n f v i s (lit n f e))
        go false e = refl

    -- what is seen in a field is what is found of its operand
    seen_right : (word : ℕ) (f : Bool) → bit word n ≡ live n f → (v r : ℕ) → Has (row n) f v → SideOperand t row booleans sides truth x n v → SeenAt parts truth word n v r
        → r ≡ side_code (operand row live (sample x) part n f v)
    seen_right word f w v r i (is_cell {b = b} l m e k) s =
        let p : v % 64 ≡ v = omega arith in
        rw e (s.cell_is (ap (λ (j : ℕ). get_or parts j 0) p ∙ h.cells v b m e ∙ ap (λ (j : ℕ). one_if (bit truth j) 1) (sym p))
        ∙ ap₂ (λ (on lives : Bool). side_code (cell_part on lives)) (ap (bit truth) p ∙ k) (ap (bit word) small ∙ w))
    seen_right word f w v r i (is_row l z s k) seen =
        let p : v % 64 ≡ v = omega (arith, turn.small) in
        let q = sequence_row_lem (all v s) k in
        seen.row_is (ap (bit word) small ∙ w ∙ dark f v i q) ∙ ap (λ (j : ℕ). get_or parts j 0) p ∙ (h.rows.done v s (low.below v l)).part_is k
        ∙ ap side_code (sym (operand_sequence row live (sample x) part (row v) n f v q))

    first_right : u.first ≡ side_code (first n)
    first_right = let o = first_operand own in seen_right la false (words n (here safe turn u) false) (a_of t n) u.first o.0 o.1 u.seen

    part_right : kind_of t n < 32 → (p : ℕ) → PartOf t truth lb parts n u.first p → p ≡ side_code (part n)
    part_right l p po = by own
      where
        by : SideRow t row booleans sides truth x n → p ≡ side_code (part n)
        by (reads_then k e a b) = po.pair.then_is k (first n) (second n) first_right (λ s. seen_right lb true (words n (here safe turn u) true) (b_of t n) s (rw e refl) b) ∙ ap side_code (sym (rw e at (parts_right row live (sample x) sound n)))
        by (reads_fuse k e a b) = po.pair.fuse_is k (first n) (second n) first_right (λ s. seen_right lb true (words n (here safe turn u) true) (b_of t n) s (rw e refl) b) ∙ ap side_code (sym (rw e at (parts_right row live (sample x) sound n)))
        by (reads_alt k e a b) = po.pair.alt_is k (first n) (second n) first_right (λ s. seen_right lb true (words n (here safe turn u) true) (b_of t n) s (rw e refl) b) ∙ ap side_code (sym (rw e at (parts_right row live (sample x) sound n)))
        by (reads_star k e a) = po.loop.star_is k (first n) first_right ∙ ap side_code (sym (rw e at (parts_right row live (sample x) sound n)))
        by (reads_plus k e a) = po.loop.plus_is k (first n) first_right ∙ ap side_code (sym (rw e at (parts_right row live (sample x) sound n)))
        by (reads_left k m e a) = absurd (omega arith)

    now_found : RowFound parts' lefts' hits' n
    now_found = record {
      part_is = λ l. (let p = u.put.found.part_is l in stored parts n p.0 parts' safe.parts_size turn.small p.2 ∙ part_right l p.0 p.1);
      left_is = stored lefts n u.first lefts' safe.lefts_size turn.small u.put.lefts_is ∙ first_right;
      ends_is = λ l. flagged_here safe turn u (ends_flagged safe turn u) safe.ends_in l ∙ ap (has 2) first_right ∙ has_ends (first n);
      early_is = λ l. flagged_here safe turn u (early_flagged safe turn u) safe.early_in l ∙ ap (has 1) first_right ∙ has_early (first n);
      empty_is = λ l. flagged_here safe turn u (empty_flagged safe turn u) safe.empty_in l ∙ ap (has 4) first_right ∙ has_empty (first n);
    }

    still_found : (k : ℕ) → RowFound parts lefts hits k → RowFound parts' lefts' hits' k
    still_found k f = elim (same_test k n) [
      | yes e ↦ rw e now_found
      | no z ↦ record {
        part_is = λ l. parts_else safe turn u k z ∙ f.part_is l;
        left_is = lefts_else safe turn u k z ∙ f.left_is;
        ends_is = λ l. flagged_else safe turn u (ends_flagged safe turn u) k z ∙ f.ends_is l;
        early_is = λ l. flagged_else safe turn u (early_flagged safe turn u) k z ∙ f.early_is l;
        empty_is = λ l. flagged_else safe turn u (empty_flagged safe turn u) k z ∙ f.empty_is l;
      }
    ]

    -- ONE ROW UP
    pub up_turn : UpSofar rest parts' lefts' hits'
    up_turn = record {
      cells = λ v b m e. parts_else safe turn u v (λ z. no_row b (ap row (sym z) ∙ e)) ∙ h.cells v b m e;
      rows = left_turn h.rows turn still_found now_found;
    }
      where
        no_row : (b : Boolean) → row n ≡ r_bool b → ⊥
        no_row b e = subst (λ (R : Row). Has R false (a_of t n)) e (first_operand own).0
