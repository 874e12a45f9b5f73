-- The words that `planned` finds are a plan. A sequence that is reached stands in a weak sequence or in a left side, and not in both: it is used once.
use Prim.Native.Nat.{ℕ, ◌%◌, ◌≤◌, ◌<◌}
use native.Mathlib.Omega.{arith}
use native.Mathlib.Decide.{dec_lt}
use native.Mathlib.Nat.{mod-eq_of_lt}
use mathlib.Core.Path.{◌≡◌, refl, sym, ◌∙◌, ap, subst}
use mathlib.Core.Bool.{Bool, true, false, not, ◌&&◌, ◌||◌}
use mathlib.Core.List.{List}
use mathlib.Core.Logic.{◌⊎◌, inl, inr, ⊎_elim}
use borrow.Author.Tests.{le-leb, leb-true, eqb-true, eq-eqb}
use lib.Bits.{bit_or}
use lib.Dec.{T, eqb, ltb, leb, leb-zero, leb-suc-suc}
use Rattle.psl.specs.Booleans.{bit}
use Rattle.words.specs.Sets.{WithBit}
use Rattle.words.specs.Bits.{bit_none, bit_or_lem}
use Rattle.table.specs.Choice.{pick}
use Rattle.table.specs.Kinds.{class_of, takes_of, fields_of, class_ok, in_q}
use Rattle.table.specs.Rows.{row_at}
use Rattle.table.specs.Uses.{use_in, uses_in_row, uses_of}
use Rattle.table.specs.Subset.{Field, field_a, field_b, field_c, holds_in, IsOperand, holds_at, value_at, kind_at, Subset}
use Rattle.table.proofs.Laws.Choices.{picked}
use Rattle.table.proofs.Laws.Rows.{operand_test}
use Rattle.table.proofs.Laws.Numbers.{same_test}
use Rattle.table.proofs.Laws.Spans.{every, class_at}
use Rattle.table.proofs.Laws.Sums.{sum_two}
use Rattle.accepted.specs.Shapes.{is_q, implied, by_implied}
use Rattle.accepted.specs.Sequences.{known}
use Rattle.table.specs.declared.Counts.{Counts}
use Rattle.table.specs.declared.kinds.Class.{Class}
use Rattle.table.specs.declared.kinds.Class.TheVariants.{Sequence}
use Rattle.table.specs.declared.kinds.Holds.{Holds}
use Rattle.table.specs.declared.kinds.Holds.TheVariants.{Nothing, Signal, B, Q, F}
use Rattle.engine.specs.Reads.{a_of}
use Rattle.engine.specs.Planned.{InSequence, OverLeft, StandsIn, in_a, in_b, Planned}
use Rattle.engine.specs.Reached.{follows, Leads, Comes, Spread, is_chosen}
use Rattle.engine.proofs.ReachedLaws.{or_left, or_right, or_so, and_so, so_and, with_on, with_so, so_names, leads_operand, least_spread}

-- ---- kinds, by computed tests

q_operand : (h : Holds) → T (is_q h) → IsOperand h
q_operand Q q = tt
q_operand Nothing q = elim q [ ]
q_operand Signal q = elim q [ ]
q_operand B q = elim q [ ]
q_operand F q = elim q [ ]

-- the operands of a sequence and of a weak sequence stand as sequences
abbrev q_test : Field → ℕ → Bool
q_test f k = implied (operand_test (holds_in (fields_of k) f)) (is_q (holds_in (fields_of k) f))

sequence_fields : (f : Field) (k : ℕ) → 16 ≤ k → k ≤ 20 → T (q_test f k)
unfolding fields_of takes_of pick
sequence_fields field_a k l m = every (q_test field_a) 16 5 tt k l (omega arith)
sequence_fields field_b k l m = every (q_test field_b) 16 5 tt k l (omega arith)
sequence_fields field_c k l m = every (q_test field_c) 16 5 tt k l (omega arith)

weak_fields : (f : Field) (k : ℕ) → k ≡ 32 → T (q_test f k)
unfolding fields_of takes_of pick
weak_fields field_a k e = every (q_test field_a) 32 1 tt k (omega arith) (omega arith)
weak_fields field_b k e = every (q_test field_b) 32 1 tt k (omega arith) (omega arith)
weak_fields field_c k e = every (q_test field_c) 32 1 tt k (omega arith) (omega arith)

a_of_sequence : (k : ℕ) → 16 ≤ k → k ≤ 20 → T (is_q (fields_of k).a)
unfolding fields_of takes_of pick
a_of_sequence k l m = every (λ j. is_q (fields_of j).a) 16 5 tt k l (omega arith)

a_of_weak : (k : ℕ) → k ≡ 32 → T (is_q (fields_of k).a)
unfolding fields_of takes_of pick
a_of_weak k e = every (λ j. is_q (fields_of j).a) 32 1 tt k (omega arith) (omega arith)

a_of_left : (k : ℕ) → 40 ≤ k → k ≤ 42 → T (is_q (fields_of k).a)
unfolding fields_of takes_of pick
a_of_left k l m = every (λ j. is_q (fields_of j).a) 40 3 tt k l (omega arith)

b_of_sequence : (k : ℕ) → 16 ≤ k → k ≤ 18 → T (is_q (fields_of k).b)
unfolding fields_of takes_of pick
b_of_sequence k l m = every (λ j. is_q (fields_of j).b) 16 3 tt k l (omega arith)

T_true : (b : Bool) → T b → b ≡ true
T_true true h = refl
T_true false h = absurd h

abbrev between : ℕ → ℕ → ℕ → Bool
between low high k = leb low k && leb k high

between_so : (low high k : ℕ) → between low high k ≡ true → (low ≤ k) × (k ≤ high)
between_so low high k e = let h = and_so (leb low k) (leb k high) e in (leb-true low k h.0, leb-true k high h.1)

-- and the other way round: the fields in which a sequence may stand
stands_a : (k : ℕ) → k < 51 → T (is_q (fields_of k).a) → ((16 ≤ k) × (k ≤ 20)) ⊎ ((k ≡ 32) ⊎ ((40 ≤ k) × (k ≤ 42)))
unfolding fields_of takes_of pick
stands_a k l q =
    let e = T_true _ (by_implied (is_q (fields_of k).a) (between 16 20 k || (eqb k 32 || between 40 42 k))
    (every (λ j. implied (is_q (fields_of j).a) (between 16 20 j || (eqb j 32 || between 40 42 j))) 0 51 tt k (omega arith) (omega arith)) (T_true _ q)) in
    ⊎_elim (λ h. inl (between_so 16 20 k h)) (λ h. inr (⊎_elim (λ w. inl (eqb-true k 32 w)) (λ o. inr (between_so 40 42 k o)) (or_so (eqb k 32) (between 40 42 k) h)))
    (or_so (between 16 20 k) (eqb k 32 || between 40 42 k) e)

stands_b : (k : ℕ) → k < 51 → T (is_q (fields_of k).b) → (16 ≤ k) × (k ≤ 18)
unfolding fields_of takes_of pick
stands_b k l q = between_so 16 18 k (T_true _ (by_implied (is_q (fields_of k).b) (between 16 18 k)
    (every (λ j. implied (is_q (fields_of j).b) (between 16 18 j)) 0 51 tt k (omega arith) (omega arith)) (T_true _ q)))

stands_c : (k : ℕ) → k < 51 → T (is_q (fields_of k).c) → ⊥
unfolding fields_of takes_of pick
stands_c k l q = by_implied (is_q (fields_of k).c) false (every (λ j. implied (is_q (fields_of j).c) false) 0 51 tt k (omega arith) (omega arith)) (T_true _ q)

-- a sequence stands in no other field
q_of_sequence : (h : Holds) (k : Class) → k ≡ Sequence → IsOperand h → T (class_ok h k) → T (is_q h)
q_of_sequence Nothing k e i o = absurd i
q_of_sequence Signal k e i o = absurd i
q_of_sequence B k e i o = subst (λ (x : Class). T (class_ok B x)) e o
q_of_sequence Q k e i o = tt
q_of_sequence F k e i o = subst (λ (x : Class). T (class_ok F x)) e o

sequence_class : (t : List ℕ) (n : ℕ) → InSequence t n → class_of (kind_at t n) ≡ Sequence
sequence_class t n s = sym (class_at 16 5 Sequence (unfold class_of pick in tt) (kind_at t n) s.from (let h = s.upto in omega arith))

-- what may stand as a sequence is of a kind up to 20
up_to_sequence : (h : Holds) (k : ℕ) → k < 51 → T (is_q h) → T (class_ok h (class_of k)) → k ≤ 20
unfolding class_of pick
up_to_sequence Q k l q o = leb-true k 20 (T_true _ (by_implied (in_q (class_of k)) (leb k 20) (every (λ j. implied (in_q (class_of j)) (leb j 20)) 0 51 tt k (omega arith) (omega arith)) (T_true _ o)))
up_to_sequence Nothing k l q o = elim q [ ]
up_to_sequence Signal k l q o = elim q [ ]
up_to_sequence B k l q o = elim q [ ]
up_to_sequence F k l q o = elim q [ ]

-- ---- the chosen rows

module _ (t : List ℕ) (low high left n : ℕ) where
  chosen_so : is_chosen t low high left n ≡ true → (low ≤ kind_at t n) × (kind_at t n ≤ high)
  unfolding is_chosen
  chosen_so e =
      let h = and_so (leb low (kind_at t n) && leb (kind_at t n) high) (leb left (kind_at t (a_of t n))) e in
      let g = and_so (leb low (kind_at t n)) (leb (kind_at t n) high) h.0 in
      (leb-true _ _ g.0, leb-true _ _ g.1)

  -- by the kind of the left side alone, where the kind is in the range
  chosen_left : low ≤ kind_at t n → kind_at t n ≤ high → is_chosen t low high left n ≡ leb left (kind_at t (a_of t n))
  unfolding is_chosen
  chosen_left l m = rw (le-leb _ _ l, le-leb _ _ m)

so_chosen : (t : List ℕ) (low high n : ℕ) → low ≤ kind_at t n → kind_at t n ≤ high → is_chosen t low high 0 n ≡ true
so_chosen t low high n l m = chosen_left t low high 0 n l m ∙ leb-zero (kind_at t (a_of t n))

boolean_kind : (t : List ℕ) (n : ℕ) → is_chosen t 0 15 0 n ≡ ltb (kind_at t n) 16
unfolding is_chosen
boolean_kind t n =
    (λ i. (leb-zero (kind_at t n) i && leb (kind_at t n) 15) && leb-zero (kind_at t (a_of t n)) i)
    ∙ and-true (leb (kind_at t n) 15) ∙ sym (leb-suc-suc (kind_at t n) 15)
  where
    and-true : (a : Bool) → a && true ≡ a
    and-true true = refl
    and-true false = refl

-- ---- a row is used in one row

module _ (t : List ℕ) (c : Counts) (z : Subset t c) where
  use_one : (h : Holds) (v : ℕ) → IsOperand h → use_in h v v ≡ 1
  use_one Nothing v i = absurd i
  use_one Signal v i = absurd i
  use_one B v i = picked (eqb v v) 1 0 (eq-eqb v v refl)
  use_one Q v i = picked (eqb v v) 1 0 (eq-eqb v v refl)
  use_one F v i = picked (eqb v v) 1 0 (eq-eqb v v refl)

  row_uses : (n : ℕ) (f : Field) (v : ℕ) → IsOperand (holds_at t n f) → value_at t n f ≡ v → 0 < uses_in_row (row_at t n) v
  unfolding uses_in_row
  row_uses n field_a v i e = let u = use_one (holds_at t n field_a) (value_at t n field_a) i in rw (sym e) (omega arith)
  row_uses n field_b v i e = let u = use_one (holds_at t n field_b) (value_at t n field_b) i in rw (sym e) (omega arith)
  row_uses n field_c v i e = let u = use_one (holds_at t n field_c) (value_at t n field_c) i in rw (sym e) (omega arith)

  one_row : (n m v : ℕ) (f g : Field) → n < c.nodes → m < c.nodes → v < c.nodes → 16 ≤ kind_at t v
      → IsOperand (holds_at t n f) → value_at t n f ≡ v → IsOperand (holds_at t m g) → value_at t m g ≡ v → n ≡ m
  unfolding uses_of
  one_row n m v f g ln lm lv k i d j e =
      let x = row_uses n f v i d in let y = row_uses m g v j e in let u = z.once v lv k in
      elim (same_test n m) [
        | yes q ↦ q
        | no q ↦ absurd (elim (dec_lt n m) [
          | yes l ↦ omega (arith, sum_two (λ i. uses_in_row (row_at t i) v) c.nodes n m l lm)
          | no l ↦ omega (arith, sum_two (λ i. uses_in_row (row_at t i) v) c.nodes m n (omega arith) ln)
        ])
      ]

  -- ---- what stands as a sequence

  stands_field : (n v : ℕ) → StandsIn t n v → (f : Field) × T (is_q (holds_at t n f)) × (value_at t n f ≡ v)
  stands_field n v (in_a e (inl s)) = (field_a, a_of_sequence (kind_at t n) s.from s.upto, sym e)
  stands_field n v (in_a e (inr (inl w))) = (field_a, a_of_weak (kind_at t n) w, sym e)
  stands_field n v (in_a e (inr (inr o))) = (field_a, a_of_left (kind_at t n) o.from o.upto, sym e)
  stands_field n v (in_b e l m) = (field_b, b_of_sequence (kind_at t n) l m, sym e)

  field_stands : (n : ℕ) (f : Field) → n < c.nodes → T (is_q (holds_at t n f)) → StandsIn t n (value_at t n f)
  field_stands n field_a l q = in_a refl (⊎_elim (λ s. inl (record { from = s.0; upto = s.1 }))
      (λ h. inr (⊎_elim inl (λ o. inr (record { from = o.0; upto = o.1 })) h)) (stands_a (kind_at t n) (known t c z n l) q))
  field_stands n field_b l q = let h = stands_b (kind_at t n) (known t c z n l) q in in_b refl h.0 h.1
  field_stands n field_c l q = absurd (stands_c (kind_at t n) (known t c z n l) q)

  -- an operand of kind 16 or more in such a field is a row of a sequence
  is_sequence : (n : ℕ) (f : Field) → n < c.nodes → T (is_q (holds_at t n f)) → 16 ≤ kind_at t (value_at t n f) → InSequence t (value_at t n f)
  is_sequence n f l q k =
      let s = z.smaller n l f (q_operand (holds_at t n f) q) in
      record { from = k; upto = up_to_sequence (holds_at t n f) (kind_at t (value_at t n f)) (known t c z (value_at t n f) (omega arith)) q (z.classes n l f) }

  -- ---- the plan

  leads_all : (n : ℕ) (f : Field) → IsOperand (holds_at t n f) → Leads t 0 n f
  unfolding follows
  leads_all n f i = so_and (operand_test (holds_at t n f)) (leb 0 (kind_at t (value_at t n f))) (so_names (holds_at t n f) i) (leb-zero (kind_at t (value_at t n f)))

  leads_from : (n : ℕ) (f : Field) → IsOperand (holds_at t n f) → 16 ≤ kind_at t (value_at t n f) → Leads t 16 n f
  unfolding follows
  leads_from n f i k = so_and (operand_test (holds_at t n f)) (leb 16 (kind_at t (value_at t n f))) (so_names (holds_at t n f) i) (le-leb 16 (kind_at t (value_at t n f)) k)

  leads_kind : (n : ℕ) (f : Field) → Leads t 16 n f → (operand_test (holds_at t n f) ≡ true) × (16 ≤ kind_at t (value_at t n f))
  unfolding follows
  leads_kind n f e = let h = and_so (operand_test (holds_at t n f)) (leb 16 (kind_at t (value_at t n f))) e in (h.0, leb-true 16 (kind_at t (value_at t n f)) h.1)

  module _ (root one rows weak weaks sequence sequences boolean left : ℕ) (inside : root < c.nodes) (no_sequence : ¬ (class_of (kind_at t root) ≡ Sequence))
      (one_is : WithBit 0 root true one) (rows_are : ((k : ℕ) → bit one k ≡ true → k < c.nodes) → Spread t 0 one rows)
      (weak_is : (k : ℕ) → bit weak k ≡ bit rows k && is_chosen t 32 32 0 k)
      (weaks_are : ((k : ℕ) → bit weak k ≡ true → k < c.nodes) → Spread t 16 weak weaks)
      (sequence_is : (k : ℕ) → bit sequence k ≡ bit rows k && is_chosen t 16 20 0 k)
      (sequences_are : (k : ℕ) → bit sequences k ≡ bit sequence k && not (bit weaks k))
      (boolean_is : (k : ℕ) → bit boolean k ≡ bit rows k && is_chosen t 0 15 0 k)
      (left_is : (k : ℕ) → bit left k ≡ bit rows k && is_chosen t 40 42 16 k)
    where
      abbrev sides : ℕ
      sides = bit_or left sequences

      root_small : root % 64 ≡ root
      root_small = mod-eq_of_lt (omega (arith, z.layout.nodes_range))

      one_root : (k : ℕ) → bit one k ≡ true → k ≡ root
      one_root k e = ⊎_elim (λ h. absurd (subst T (sym h ∙ bit_none k) tt)) (λ h. h.1 ∙ root_small) (with_so one_is k e)

      reached : Spread t 0 one rows
      reached = rows_are (λ k e. let h = one_root k e in omega arith)

      up_to_root : (k : ℕ) → bit rows k ≡ true → k ≤ root
      up_to_root = least_spread (λ k. k ≤ root) reached (λ k e. let h = one_root k e in omega arith)
          (λ n e p f l. let h = z.smaller n (omega arith) f (leads_operand t 0 n f l) in omega arith)

      low : (k : ℕ) → bit rows k ≡ true → k < c.nodes
      low k e = let h = up_to_root k e in omega arith

      operands : (n : ℕ) → bit rows n ≡ true → (f : Field) → IsOperand (holds_at t n f) → bit rows (value_at t n f) ≡ true
      operands n e f i = reached.closed n e f (leads_all n f i)

      weak_so : (k : ℕ) → bit weak k ≡ true → (bit rows k ≡ true) × (kind_at t k ≡ 32)
      weak_so k e =
          let h = and_so (bit rows k) (is_chosen t 32 32 0 k) (sym (weak_is k) ∙ e) in
          let g = chosen_so t 32 32 0 k h.1 in
          (h.0, omega (arith, g.0, g.1))

      weaks_reached : Spread t 16 weak weaks
      weaks_reached = weaks_are (λ k e. low k (weak_so k e).0)

      weak_rows : (k : ℕ) → bit weaks k ≡ true → (bit rows k ≡ true) × (InSequence t k ⊎ (kind_at t k ≡ 32))
      weak_rows = least_spread (λ k. (bit rows k ≡ true) × (InSequence t k ⊎ (kind_at t k ≡ 32))) weaks_reached
          (λ k e. let h = weak_so k e in (h.0, inr h.1))
          (λ n e p f l. (operands n p.0 f (leads_operand t 16 n f l), inl (part n f (low n p.0) p.1 (leads_kind n f l))))
        where
          q_field : (n : ℕ) (f : Field) → InSequence t n ⊎ (kind_at t n ≡ 32) → operand_test (holds_at t n f) ≡ true → T (is_q (holds_at t n f))
          q_field n f k e = by_implied (operand_test (holds_at t n f)) (is_q (holds_at t n f)) (⊎_elim (λ s. sequence_fields f (kind_at t n) s.from s.upto) (weak_fields f (kind_at t n)) k) e

          part : (n : ℕ) (f : Field) → n < c.nodes → InSequence t n ⊎ (kind_at t n ≡ 32)
              → (operand_test (holds_at t n f) ≡ true) × (16 ≤ kind_at t (value_at t n f)) → InSequence t (value_at t n f)
          part n f l k h = is_sequence n f l (q_field n f k h.0) h.1

      left_so : (k : ℕ) → bit left k ≡ true → (bit rows k ≡ true) × OverLeft t k
      left_so k e =
          let h = and_so (bit rows k) (is_chosen t 40 42 16 k) (sym (left_is k) ∙ e) in
          let g = chosen_so t 40 42 16 k h.1 in
          (h.0, record { from = g.0; upto = g.1 })

      sequence_so : (k : ℕ) → bit sequences k ≡ true → (bit rows k ≡ true) × InSequence t k × (not (bit weaks k) ≡ true)
      sequence_so k e =
          let d = and_so (bit sequence k) (not (bit weaks k)) (sym (sequences_are k) ∙ e) in
          let h = and_so (bit rows k) (is_chosen t 16 20 0 k) (sym (sequence_is k) ∙ d.0) in
          let g = chosen_so t 16 20 0 k h.1 in
          (h.0, record { from = g.0; upto = g.1 }, d.1)

      so_sequence : (k : ℕ) → bit rows k ≡ true → InSequence t k → bit weaks k ≡ false → bit sides k ≡ true
      so_sequence k e s w =
          bit_or_lem left sequences k
          ∙ or_right (bit left k) (bit sequences k) (sequences_are k ∙ so_and (bit sequence k) (not (bit weaks k))
          (sequence_is k ∙ so_and (bit rows k) (is_chosen t 16 20 0 k) e (so_chosen t 16 20 k s.from s.upto)) (ap not w))

      side_so : (k : ℕ) → bit sides k ≡ true → (bit left k ≡ true) ⊎ (bit sequences k ≡ true)
      side_so k e = or_so (bit left k) (bit sequences k) (sym (bit_or_lem left sequences k) ∙ e)

      side_rows : (k : ℕ) → bit sides k ≡ true → (bit rows k ≡ true) × (InSequence t k ⊎ OverLeft t k)
      side_rows k e = ⊎_elim (λ l. let h = left_so k l in (h.0, inr h.1)) (λ s. let h = sequence_so k s in (h.0, inl h.1)) (side_so k e)

      is_false : (b : Bool) → (b ≡ true → ⊥) → b ≡ false
      is_false true h = absurd (h refl)
      is_false false h = refl

      apart : (k : ℕ) → bit sides k ≡ true → bit weaks k ≡ false
      apart k e = is_false (bit weaks k) (λ w. ⊎_elim (λ l. over (left_so k l).1 (weak_rows k w).1) (λ s. subst T (sym (sequence_so k s).2 ∙ ap not w) tt) (side_so k e))
        where
          over : OverLeft t k → InSequence t k ⊎ (kind_at t k ≡ 32) → ⊥
          over o (inl s) = omega (arith, o.from, s.upto)
          over o (inr q) = omega (arith, o.from)

      weak_in : (n : ℕ) → bit rows n ≡ true → kind_at t n ≡ 32 → bit weaks n ≡ true
      weak_in n e k = weaks_reached.starts n (weak_is n ∙ so_and (bit rows n) (is_chosen t 32 32 0 n) e (so_chosen t 32 32 n (omega arith) (omega arith)))

      left_in : (n : ℕ) → bit rows n ≡ true → OverLeft t n → bit sides n ≡ leb 16 (kind_at t (a_of t n))
      left_in n e o =
          bit_or_lem left sequences n
          ∙ (λ i. (left_is n ∙ (λ j. e j && chosen_left t 40 42 16 n o.from o.upto j)) i || is_false (bit sequences n) (λ s. let h = sequence_so n s in omega (arith, o.from, h.1.upto)) i)
          ∙ or-false (leb 16 (kind_at t (a_of t n)))
        where
          or-false : (b : Bool) → b || false ≡ b
          or-false true = refl
          or-false false = refl

      weak_operands : (n v : ℕ) → bit weaks n ≡ true → StandsIn t n v → 16 ≤ kind_at t v → bit weaks v ≡ true
      weak_operands n v e s k =
          let w = stands_field n v s in
          subst (λ (u : ℕ). bit weaks u ≡ true) w.2 (weaks_reached.closed n e w.0 (leads_from n w.0 (q_operand (holds_at t n w.0) w.1) (subst (λ (u : ℕ). 16 ≤ kind_at t u) (sym w.2) k)))

      side_operands : (n v : ℕ) → bit sides n ≡ true → StandsIn t n v → 16 ≤ kind_at t v → bit sides v ≡ true
      side_operands n v e s k = so_sequence v in_rows v_sequence (is_false (bit weaks v) not_weak)
        where
          at : (f : Field) × T (is_q (holds_at t n f)) × (value_at t n f ≡ v)
          at = stands_field n v s

          n_in : bit rows n ≡ true
          n_in = (side_rows n e).0

          names_it : IsOperand (holds_at t n at.0)
          names_it = q_operand (holds_at t n at.0) at.1

          in_rows : bit rows v ≡ true
          in_rows = subst (λ (u : ℕ). bit rows u ≡ true) at.2 (operands n n_in at.0 names_it)

          v_sequence : InSequence t v
          v_sequence = subst (InSequence t) at.2 (is_sequence n at.0 (low n n_in) at.1 (subst (λ (u : ℕ). 16 ≤ kind_at t u) (sym at.2) k))

          -- else the weak row in which it stands is n
          not_weak : bit weaks v ≡ true → ⊥
          not_weak w = ⊎_elim (λ b. omega (arith, (weak_so v b).1, v_sequence.upto)) other (weaks_reached.source v w)
            where
              other : Comes t 16 weaks v → ⊥
              other m = subst T (sym m.reached ∙ ap (bit weaks) (sym same) ∙ apart n e) tt
                where
                  same : n ≡ m.from
                  same = one_row n m.from v at.0 m.field (low n n_in) (low m.from (weak_rows m.from m.reached).0) (low v in_rows) k
                      names_it at.2 (leads_operand t 16 m.from m.field m.leads) m.value

      sequences_in : (n : ℕ) → bit rows n ≡ true → InSequence t n → bit sides n || bit weaks n ≡ true
      sequences_in n e s = go (bit weaks n) refl
        where
          go : (b : Bool) → bit weaks n ≡ b → bit sides n || bit weaks n ≡ true
          go true w = or_right (bit sides n) (bit weaks n) w
          go false w = or_left (bit sides n) (bit weaks n) (so_sequence n e s w)

      users : (n : ℕ) → bit rows n ≡ true → InSequence t n → (m : ℕ) × (bit rows m ≡ true) × StandsIn t m n
      users n e s = ⊎_elim (λ h. absurd (no_sequence (subst (λ (k : ℕ). class_of (kind_at t k) ≡ Sequence) (one_root n h) (sequence_class t n s))))
          (λ m. (
            m.from,
            m.reached,
            subst (StandsIn t m.from) m.value (field_stands m.from m.field (low m.from m.reached)
                (q_of_sequence (holds_at t m.from m.field) (class_of (kind_at t (value_at t m.from m.field)))
                (ap (λ (k : ℕ). class_of (kind_at t k)) m.value ∙ sequence_class t n s)
                (leads_operand t 0 m.from m.field m.leads) (z.classes m.from (low m.from m.reached) m.field))),
          ))
          (reached.source n e)

      comes : (n : ℕ) → bit rows n ≡ true → (n ≡ root) ⊎ ((m : ℕ) × (f : Field) × (n < m) × (bit rows m ≡ true) × IsOperand (holds_at t m f) × (value_at t m f ≡ n))
      comes n e = ⊎_elim (λ h. inl (one_root n h)) (λ m. inr (m.from, m.field, m.larger, m.reached, leads_operand t 0 m.from m.field m.leads, m.value)) (reached.source n e)

      -- THE WORDS ARE A PLAN
      pub plan_is : Planned t root boolean (bit_or left sequences) weaks
      plan_is = record {
        reached = bit rows;
        root_reached = reached.starts root (subst (λ (k : ℕ). bit one k ≡ true) root_small (with_on one_is refl));
        up_to_root = up_to_root;
        operands = operands;
        booleans_are = λ n. boolean_is n ∙ ap (λ (b : Bool). bit rows n && b) (boolean_kind t n);
        side_rows = side_rows;
        weak_rows = weak_rows;
        apart = apart;
        weak_in = weak_in;
        left_in = left_in;
        side_operands = side_operands;
        weak_operands = weak_operands;
        sequences_in = sequences_in;
        users = users;
        comes = comes;
      }
