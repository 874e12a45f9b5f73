-- A plan has at most 32 weak sequences, so that the number of each is below 32.
use Rattle.std.specs.Prelude.{ℕ, zero, suc, ◌+◌, ◌-◌, ◌≤◌, ◌<◌, ◌≡◌, refl, Bool, true, false, not, ◌&&◌, List, ◌⊎◌, T, eqb, ltb}
use Rattle.std.proofs.Common.{arith, sym, subst, inl, inr, ⊎_elim, T_not}
use Rattle.std.proofs.Math.Decide.{dec_lt}
use Rattle.psl.specs.Booleans.{bit}
use Rattle.psl.specs.Tells.{tells_eq, tells_lt, tells_and, tells_or, tells_value, tells_no, true_tells}
use Rattle.table.specs.Choice.{pick}
use Rattle.table.specs.Kinds.{class_of, fields_of, takes_of, class_ok, in_q}
use Rattle.table.specs.Subset.{Subset, kind_at, Field, field_a, field_b, field_c, holds_in, holds_at, value_at, IsOperand}
use Rattle.table.proofs.Laws.Spans.{every}
use Rattle.table.specs.declared.Counts.{Counts}
use Rattle.table.specs.declared.kinds.Class.{Class}
use Rattle.table.specs.declared.kinds.Class.TheVariants.{Boolean as IsBoolean, Sequence as IsSequence, Property as IsProperty, Strong, Unknown}
use Rattle.table.specs.declared.kinds.Holds.{Holds}
use Rattle.table.specs.declared.kinds.Holds.TheVariants.{Nothing, Signal, B, Q, F}
use Rattle.table.specs.declared.kinds.Fields.{Fields}
use Rattle.accepted.specs.Sequences.{known}
use Rattle.accepted.specs.WeakCount.{marking, Met, met_first, met_skip, met_weak, met_one, met_two, met_few}
use Rattle.lanes.specs.Expected.{sequence_of}
use Rattle.engine.specs.Reads.{kind_of}
use Rattle.engine.specs.Planned.{Planned}
use Rattle.engine.specs.Weaks.{one_if, weaks_above, weak_number}
use Rattle.engine.specs.NodeView.{KindCase, a_boolean, a_sequence, k_weak, k_both, k_next, k_if, k_implies, k_or, k_always, k_until, k_suffix, k_suffix_next, k_never, case_of}
use Rattle.engine.specs.PlanProperty.{IsF}
use Rattle.engine.specs.PlanSides.{both_no}
use Rattle.engine.specs.PlanView as W

-- A property is named by a field for properties alone.
property_class : (k : ℕ) → k < 51 → 31 < k → T (not (in_q (class_of k)))
unfolding class_of pick
property_class k l m = every (λ k. not (in_q (class_of k))) 32 19 tt k (omega arith) (omega arith)

names_property : (h : Holds) (k : Class) → IsOperand h → T (class_ok h k) → T (not (in_q k)) → IsF h
names_property Nothing k o i x = absurd o
names_property Signal k o i x = absurd o
names_property B IsBoolean o i x = absurd x
names_property B IsSequence o i x = absurd i
names_property B IsProperty o i x = absurd i
names_property B Strong o i x = absurd i
names_property B Unknown o i x = absurd i
names_property Q k o i x = absurd (T_not (in_q k) x i)
names_property F k o i x = tt

-- Which fields are for properties
abbrev is_f_test : Holds → Bool
is_f_test Nothing = false
is_f_test Signal = false
is_f_test B = false
is_f_test Q = false
is_f_test F = true

is_f : (h : Holds) → IsF h → T (is_f_test h)
is_f Nothing i = i
is_f Signal i = i
is_f B i = i
is_f Q i = i
is_f F i = i

low_kind : (k : ℕ) → k < 32 → (f : Field) → IsF (holds_in (fields_of k) f) → ⊥
unfolding fields_of takes_of pick
low_kind k l field_a i = T_not (is_f_test (fields_of k).a) (every (λ k. not (is_f_test (fields_of k).a)) 0 32 tt k (omega arith) (omega arith)) (is_f (fields_of k).a i)
low_kind k l field_b i = T_not (is_f_test (fields_of k).b) (every (λ k. not (is_f_test (fields_of k).b)) 0 32 tt k (omega arith) (omega arith)) (is_f (fields_of k).b i)
low_kind k l field_c i = T_not (is_f_test (fields_of k).c) (every (λ k. not (is_f_test (fields_of k).c)) 0 32 tt k (omega arith) (omega arith)) (is_f (fields_of k).c i)

module _ (h : Fields) where
  none_f : (IsF h.a → ⊥) → (IsF h.b → ⊥) → (IsF h.c → ⊥) → (f : Field) → IsF (holds_in h f) → ⊥
  none_f a b c field_a i = a i
  none_f a b c field_b i = b i
  none_f a b c field_c i = c i

  only_a : (IsF h.b → ⊥) → (IsF h.c → ⊥) → (f : Field) → IsF (holds_in h f) → f ≡ field_a
  only_a b c field_a i = refl
  only_a b c field_b i = absurd (b i)
  only_a b c field_c i = absurd (c i)

  only_b : (IsF h.a → ⊥) → (IsF h.c → ⊥) → (f : Field) → IsF (holds_in h f) → f ≡ field_b
  only_b a c field_a i = absurd (a i)
  only_b a c field_b i = refl
  only_b a c field_c i = absurd (c i)

  a_and_b : (IsF h.c → ⊥) → (f : Field) → IsF (holds_in h f) → (f ≡ field_a) ⊎ (f ≡ field_b)
  a_and_b c field_a i = inl refl
  a_and_b c field_b i = inr refl
  a_and_b c field_c i = absurd (c i)

  b_and_c : (IsF h.a → ⊥) → (f : Field) → IsF (holds_in h f) → (f ≡ field_b) ⊎ (f ≡ field_c)
  b_and_c a field_a i = absurd (a i)
  b_and_c a field_b i = inl refl
  b_and_c a field_c i = inr refl

module _ (t : List ℕ) (c : Counts) (z : Subset t c) (root booleans sides weaks : ℕ) (p : Planned t root booleans sides weaks) (root_low : root < c.nodes) where
  low : (n : ℕ) → p.reached n ≡ true → n < c.nodes
  low = W.low t c z root booleans sides weaks p root_low

  abbrev prop : ℕ → Bool
  prop n = ltb 31 (kind_of t n)

  -- a row of the set with a weak sequence
  abbrev weak_here : ℕ → Bool
  weak_here n = bit weaks n && eqb (kind_of t n) 32

  marking_old : (mark : ℕ → Bool) (a j : ℕ) → mark j ≡ true → marking prop mark a j ≡ true
  marking_old mark a j e = true_tells (tells_or (tells_value (mark j)) (tells_eq j a)) (inl e)

  marking_new : (mark : ℕ → Bool) (a : ℕ) → marking prop mark a a ≡ true
  marking_new mark a = true_tells (tells_or (tells_value (mark a)) (tells_eq a a)) (inr refl)

  -- the k rows from n on were visited: the root and the properties that they name are marked
  record Walked (k n : ℕ) : Type 0 where
    mark : ℕ → Bool
    w : ℕ
    b : ℕ
    met : Met prop 64 n mark w b
    root_marked : mark root ≡ true
    marked : (m : ℕ) (f : Field) → n ≤ m → p.reached m ≡ true → IsF (holds_at t m f) → mark (value_at t m f) ≡ true
    counted : weaks_above t weaks k ≤ w

  module _ (k n : ℕ) (all : k + suc n ≡ 64) (h : Walked k (suc n)) where
    -- row n is visited
    step : (mark : ℕ → Bool) (w b : ℕ) → Met prop 64 n mark w b → ((j : ℕ) → h.mark j ≡ true → mark j ≡ true)
        → ((f : Field) → p.reached n ≡ true → IsF (holds_at t n f) → mark (value_at t n f) ≡ true) → h.w + one_if (weak_here n) ≤ w → Walked (suc k) n
    step mark w b met grows names count = record {
      mark = mark;
      w = w;
      b = b;
      met = met;
      root_marked = grows root h.root_marked;
      marked = λ m f l e i. elim (dec_lt n m) [
        | yes d ↦ grows (value_at t m f) (h.marked m f d e i)
        | no d ↦ (let q : n ≡ m = omega arith in subst (λ (j : ℕ). (p.reached j ≡ true) → IsF (holds_at t j f) → mark (value_at t j f) ≡ true) q (names f) e i)
      ];
      counted = (let q : 63 - k ≡ n = omega arith in rw q (omega (arith, h.counted)));
    }

    -- one or two rows more that are marked: those that row n names
    abbrev with_one : Field → ℕ → Bool
    with_one f = marking prop h.mark (value_at t n f)

    abbrev with_two : Field → Field → ℕ → Bool
    with_two f g = marking prop (with_one f) (value_at t n g)

    no_weak : (bit weaks n ≡ true → kind_of t n ≡ 32 → ⊥) → h.w + one_if (weak_here n) ≤ h.w
    no_weak other = rw (tells_no (tells_and (tells_value (bit weaks n)) (tells_eq (kind_of t n) 32)) (λ x. other x.0 x.1)) (omega arith)

    skip : (bit weaks n ≡ true → kind_of t n ≡ 32 → ⊥) → ((f : Field) → p.reached n ≡ true → IsF (holds_at t n f) → ⊥) → Walked (suc k) n
    skip other nothing = step h.mark h.w h.b (met_skip prop h.met) (λ j e. e) (λ f e i. absurd (nothing f e i)) (no_weak other)

    module _ (e : p.reached n ≡ true) where
      -- a property that is visited is marked
      on : 31 < kind_of t n → h.mark n && prop n ≡ true
      on l = true_tells (tells_and (tells_value (h.mark n)) (tells_lt 31 (kind_of t n))) (here (p.comes n e), l)
        where
          named : (m : ℕ) (f : Field) → n < m → p.reached m ≡ true → IsOperand (holds_at t m f) → value_at t m f ≡ n → h.mark n ≡ true
          named m f g r o v = subst (λ (j : ℕ). h.mark j ≡ true) v (h.marked m f g r (names_property (holds_at t m f) (class_of (kind_at t (value_at t m f))) o (z.classes m (low m r) f)
              (subst (λ (j : ℕ). T (not (in_q (class_of (kind_at t j))))) (sym v) (property_class (kind_at t n) (known t c z n (low n e)) l))))

          here : (n ≡ root) ⊎ ((m : ℕ) × (f : Field) × (n < m) × (p.reached m ≡ true) × IsOperand (holds_at t m f) × (value_at t m f ≡ n)) → h.mark n ≡ true
          here (inl q) = subst (λ (j : ℕ). h.mark j ≡ true) (sym q) h.root_marked
          here (inr u) = named u.0 u.1 u.2 u.3 u.4 u.5

      -- a row whose kind is K
      module _ (K : ℕ) (q : kind_of t n ≡ K) where
        abbrev Fs : Fields
        Fs = fields_of K

        by_kind : (f : Field) → IsF (holds_at t n f) → IsF (holds_in Fs f)
        by_kind f i = subst (λ (m : ℕ). IsF (holds_in (fields_of m) f)) q i

        none : (K ≡ 32 → ⊥) → ((f : Field) → IsF (holds_in Fs f) → ⊥) → Walked (suc k) n
        none other nothing = skip (λ x y. other (omega arith)) (λ f r i. nothing f (by_kind f i))

        one : (f : Field) → 32 < K → ((g : Field) → IsF (holds_in Fs g) → g ≡ f) → Walked (suc k) n
        one f l only = step (with_one f) h.w h.b (met_one prop h.met (on (omega arith)) (value_at t n f)) (λ j i. marking_old h.mark (value_at t n f) j i)
            (λ g r i. subst (λ (x : Field). with_one f (value_at t n x) ≡ true) (sym (only g (by_kind g i))) (marking_new h.mark (value_at t n f))) (no_weak (λ x y. omega arith))

        two : (f g : Field) → 32 < K → ((x : Field) → IsF (holds_in Fs x) → (x ≡ f) ⊎ (x ≡ g)) → Walked (suc k) n
        two f g l only = step (with_two f g) h.w (suc h.b) (met_two prop h.met (on (omega arith)) (value_at t n f) (value_at t n g))
            (λ j i. marking_old (with_one f) (value_at t n g) j (marking_old h.mark (value_at t n f) j i))
            (λ x r i. ⊎_elim (λ s. named x f s (marking_old (with_one f) (value_at t n g) (value_at t n f) (marking_new h.mark (value_at t n f))))
            (λ s. named x g s (marking_new (with_one f) (value_at t n g))) (only x (by_kind x i))) (no_weak (λ x y. omega arith))
          where
            named : (x y : Field) → x ≡ y → with_two f g (value_at t n y) ≡ true → with_two f g (value_at t n x) ≡ true
            named x y s m = subst (λ (d : Field). with_two f g (value_at t n d) ≡ true) (sym s) m

      weak : kind_of t n ≡ 32 → ((f : Field) → IsF (holds_in (fields_of 32) f) → ⊥) → Walked (suc k) n
      weak q nothing = step h.mark (suc h.w) h.b (met_weak prop h.met (on (omega arith))) (λ j i. i) (λ f r i. absurd (nothing f (by_kind 32 q f i)))
          (rw (true_tells (tells_and (tells_value (bit weaks n)) (tells_eq (kind_of t n) 32)) (p.weak_in n e q, q)) (omega arith))

      by_case : KindCase (kind_of t n) → Walked (suc k) n
      unfolding fields_of takes_of pick
      by_case (a_boolean l) = skip (λ x y. omega arith) (λ f r i. low_kind (kind_of t n) (omega arith) f i)
      by_case (a_sequence l m) = skip (λ x y. omega arith) (λ f r i. low_kind (kind_of t n) (omega arith) f i)
      by_case (k_weak q) = weak q (none_f (fields_of 32) (λ i. i) (λ i. i) (λ i. i))
      by_case (k_both q) = two 33 q field_a field_b (omega arith) (a_and_b (fields_of 33) (λ i. i))
      by_case (k_next q) = one 34 q field_a (omega arith) (only_a (fields_of 34) (λ i. i) (λ i. i))
      by_case (k_if q) = two 35 q field_b field_c (omega arith) (b_and_c (fields_of 35) (λ i. i))
      by_case (k_implies q) = one 36 q field_b (omega arith) (only_b (fields_of 36) (λ i. i) (λ i. i))
      by_case (k_or q) = one 37 q field_a (omega arith) (only_a (fields_of 37) (λ i. i) (λ i. i))
      by_case (k_always q) = one 38 q field_a (omega arith) (only_a (fields_of 38) (λ i. i) (λ i. i))
      by_case (k_until q) = one 39 q field_a (omega arith) (only_a (fields_of 39) (λ i. i) (λ i. i))
      by_case (k_suffix q) = one 40 q field_b (omega arith) (only_b (fields_of 40) (λ i. i) (λ i. i))
      by_case (k_suffix_next q) = one 41 q field_b (omega arith) (only_b (fields_of 41) (λ i. i) (λ i. i))
      by_case (k_never q) = none 42 q (λ x. omega arith) (none_f (fields_of 42) (λ i. i) (λ i. i) (λ i. i))

    visit : Walked (suc k) n
    visit = go (p.reached n) refl
      where
        go : (b : Bool) → p.reached n ≡ b → Walked (suc k) n
        go true e = by_case e (case_of t c z (sequence_of (W.row t c z root booleans sides weaks p root_low)) p.reached low n e)
        go false e = skip (λ x y. both_no (p.reached n) (p.weak_rows n x).0 e) (λ f r i. both_no (p.reached n) r e)

  walk : (k n : ℕ) → k + n ≡ 64 → Walked k n
  walk zero n all = record {
    mark = λ j. eqb j root;
    w = 0;
    b = 0;
    met = subst (λ (m : ℕ). Met prop 64 m (λ j. eqb j root) 0 0) (omega arith) (met_first prop 64 root);
    root_marked = true_tells (tells_eq root root) refl;
    marked = λ m f l e i. absurd (omega (arith, low m e, z.layout.nodes_range));
    counted = omega arith;
  }
  walk (suc k) n all = visit k n (omega arith) (walk k (suc n) (omega arith))

  -- however many rows are counted from the top
  pub at_most_32 : (k : ℕ) → k ≤ 64 → weaks_above t weaks k ≤ 32
  at_most_32 k l = let h = walk k (64 - k) (omega arith) in omega (arith, h.counted, met_few prop (omega arith) h.met)

  -- and a row is itself among the 32
  pub few_weaks : (n : ℕ) → bit weaks n ≡ true → kind_of t n ≡ 32 → weak_number t weaks n < 32
  few_weaks n x q =
      let l : n < 64 = omega (arith, low n (p.weak_rows n x).0, z.layout.nodes_range) in
      let g : 63 - (63 - n) ≡ n = omega arith in
      let s : weaks_above t weaks (63 - n) + 1 ≤ 32 = rw (g, true_tells (tells_and (tells_value (bit weaks n)) (tells_eq (kind_of t n) 32)) (x, q)) at (at_most_32 (suc (63 - n)) (omega arith)) in
      omega arith
