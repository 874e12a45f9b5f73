-- A property's rows as nodes of the model: those that the property reaches; any other neither sends, keeps nor breaks.
use Rattle.std.specs.Prelude.{ℕ, ◌≤◌, ◌<◌, ◌≡◌, Bool, true, false, ◌&&◌, ◌||◌, List, ◌⊎◌, T, eqb, ltb}
use Rattle.std.proofs.Common.{arith, ◌∙◌, ⊎_elim, lt-ltb, le-ltb, ne_eqb}
use Rattle.std.proofs.Math.Decide.{dec_lt}
use Rattle.std.proofs.Math.Path.{refl, ap}
use Rattle.psl.specs.Booleans.{Boolean, constant}
use Rattle.psl.specs.Sequences.{Sequence}
use Rattle.psl.specs.Tells.{tells_lt, tells_or, tells_and, tells_true}
use Rattle.psl.proofs.Model.Nodes.{Node, n_bool, n_weak, n_never, n_both, n_next, n_always, n_if_else, n_implies, n_or, n_until, n_suffix, n_suffix_next}
use Rattle.table.specs.Choice.{pick}
use Rattle.table.specs.Kinds.{class_of}
use Rattle.table.specs.Trees.{boolean_at}
use Rattle.table.specs.Subset.{Subset, InSubset}
use Rattle.table.proofs.Laws.Spans.{every}
use Rattle.table.proofs.Laws.Choices.{picked, passed}
use Rattle.table.specs.declared.Counts.{Counts}
use Rattle.table.specs.declared.kinds.Class.{Class}
use Rattle.table.specs.declared.kinds.Class.TheVariants.{Boolean as IsBoolean, Sequence as IsSequence, Property as IsProperty, Strong, Unknown}
use Rattle.accepted.specs.Shapes.{implied, by_implied}
use Rattle.accepted.specs.Sequences.{known}
use Rattle.engine.specs.Reads.{kind_of, a_of, b_of, c_of}

-- The kinds that a row of an accepted table can have.
pub data KindCase (k : ℕ) : Type 0 where
  a_boolean : k < 16 → KindCase k
  a_sequence : 16 ≤ k → k ≤ 20 → KindCase k
  k_weak : k ≡ 32 → KindCase k
  k_both : k ≡ 33 → KindCase k
  k_next : k ≡ 34 → KindCase k
  k_if : k ≡ 35 → KindCase k
  k_implies : k ≡ 36 → KindCase k
  k_or : k ≡ 37 → KindCase k
  k_always : k ≡ 38 → KindCase k
  k_until : k ≡ 39 → KindCase k
  k_suffix : k ≡ 40 → KindCase k
  k_suffix_next : k ≡ 41 → KindCase k
  k_never : k ≡ 42 → KindCase k

unfoldable pub in_subset : Class → Bool
in_subset IsBoolean = true
in_subset IsSequence = true
in_subset IsProperty = true
in_subset Strong = false
in_subset Unknown = false

pub in_subset_so : (k : Class) → InSubset k → in_subset k ≡ true
unfolding in_subset
in_subset_so IsBoolean i = refl
in_subset_so IsSequence i = refl
in_subset_so IsProperty i = refl
in_subset_so Strong i = absurd i
in_subset_so Unknown i = absurd i

ranged : ℕ → Bool
ranged k = ltb k 16 || ((ltb 15 k && ltb k 21) || (ltb 31 k && ltb k 43))

in_range : (k : ℕ) → k < 51 → InSubset (class_of k) → T (ranged k)
unfolding class_of pick in_subset ranged
in_range k l i = by_implied (in_subset (class_of k)) (ranged k) (every (λ k. implied (in_subset (class_of k)) (ranged k)) 0 51 tt k (omega arith) (omega arith)) (in_subset_so (class_of k) i)

range_is : (k : ℕ) → T (ranged k) → (k < 16) ⊎ (((15 < k) × (k < 21)) ⊎ ((31 < k) × (k < 43)))
unfolding ranged
range_is k t = tells_true (tells_or (tells_lt k 16) (tells_or (tells_and (tells_lt 15 k) (tells_lt k 21)) (tells_and (tells_lt 31 k) (tells_lt k 43)))) (T_true (ranged k) t)
  where
    T_true : (b : Bool) → T b → b ≡ true
    T_true true h = refl
    T_true false h = absurd h

high_case : (k : ℕ) → 31 < k → k < 43 → KindCase k
high_case k l m = elim (dec_lt k 33) [ yes p32 ↦ k_weak (omega arith) | no p32 ↦ elim (dec_lt k 34) [ yes p33 ↦ k_both (omega arith) | no p33 ↦ elim (dec_lt k 35) [ yes p34 ↦ k_next (omega arith) | no p34 ↦ elim (dec_lt k 36) [ yes p35 ↦ k_if (omega arith) | no p35 ↦ elim (dec_lt k 37) [ yes p36 ↦ k_implies (omega arith) | no p36 ↦ elim (dec_lt k 38) [ yes p37 ↦ k_or (omega arith) | no p37 ↦ elim (dec_lt k 39) [ yes p38 ↦ k_always (omega arith) | no p38 ↦ elim (dec_lt k 40) [ yes p39 ↦ k_until (omega arith) | no p39 ↦ elim (dec_lt k 41) [ yes p40 ↦ k_suffix (omega arith) | no p40 ↦ elim (dec_lt k 42) [ yes p41 ↦ k_suffix_next (omega arith) | no p41 ↦ k_never (omega arith) ] ] ] ] ] ] ] ] ] ]

pub kind_case : (k : ℕ) → k < 51 → InSubset (class_of k) → KindCase k
kind_case k l i = ⊎_elim (λ p. a_boolean p) (⊎_elim (λ p. a_sequence p.0 (omega (arith, p.1))) (λ p. high_case k p.0 p.1)) (range_is k (in_range k l i))

-- The node of a row: of its kind, its own Boolean, what its operands read as, and their numbers.
unfoldable pub node_by : ℕ → Boolean → (ℕ → Boolean) → (ℕ → Sequence) → ℕ → ℕ → ℕ → Node
node_by k own bool seq a b c =
    pick (ltb k 16) (n_bool own)
    (pick (eqb k 32) (n_weak (seq a))
    (pick (eqb k 33) (n_both a b)
    (pick (eqb k 34) (n_next a)
    (pick (eqb k 35) (n_if_else (bool a) b c)
    (pick (eqb k 36) (n_implies (bool a) b)
    (pick (eqb k 37) (n_or a (bool b))
    (pick (eqb k 38) (n_always a)
    (pick (eqb k 39) (n_until a (bool b))
    (pick (eqb k 40) (n_suffix (seq a) b)
    (pick (eqb k 41) (n_suffix_next (seq a) b)
    (pick (eqb k 42) (n_never (seq a))
    (n_bool (constant true)))))))))))))

abbrev pub kept_node : Bool → Node → Node
kept_node true nd = nd
kept_node false nd = n_bool (constant true)

-- The node of n where it is reached; `seq` tells what an operand reads as.
unfoldable pub viewed_node : List ℕ → (ℕ → Sequence) → (ℕ → Bool) → ℕ → Node
viewed_node t seq reached n = kept_node (reached n) (node_by (kind_of t n) (boolean_at t n) (boolean_at t) seq (a_of t n) (b_of t n) (c_of t n))

module _ (t : List ℕ) (c : Counts) (z : Subset t c) (seq : ℕ → Sequence) (reached : ℕ → Bool) (low : (n : ℕ) → reached n ≡ true → n < c.nodes) where
  abbrev pub node : ℕ → Node
  node = viewed_node t seq reached

  pub case_of : (n : ℕ) → reached n ≡ true → KindCase (kind_of t n)
  case_of n e = kind_case (kind_of t n) (known t c z n (low n e)) (z.kinds n (low n e))

  pub node_at : (k n : ℕ) → reached n ≡ true → kind_of t n ≡ k → node n ≡ node_by k (boolean_at t n) (boolean_at t) seq (a_of t n) (b_of t n) (c_of t n)
  unfolding viewed_node
  node_at k n e q = ap (λ (b : Bool). kept_node b (node_by (kind_of t n) (boolean_at t n) (boolean_at t) seq (a_of t n) (b_of t n) (c_of t n))) e
      ∙ ap (λ (m : ℕ). node_by m (boolean_at t n) (boolean_at t) seq (a_of t n) (b_of t n) (c_of t n)) q

  pub node_out : (n : ℕ) → reached n ≡ false → node n ≡ n_bool (constant true)
  unfolding viewed_node
  node_out n e = ap (λ (b : Bool). kept_node b (node_by (kind_of t n) (boolean_at t n) (boolean_at t) seq (a_of t n) (b_of t n) (c_of t n))) e

  pub node_boolean : (n : ℕ) → reached n ≡ true → kind_of t n < 16 → node n ≡ n_bool (boolean_at t n)
  unfolding node_by
  node_boolean n e l = node_at (kind_of t n) n e refl ∙ picked (ltb (kind_of t n) 16) _ _ (lt-ltb (kind_of t n) 16 l)

  pub node_sequence : (n : ℕ) → reached n ≡ true → 16 ≤ kind_of t n → kind_of t n ≤ 20 → node n ≡ n_bool (constant true)
  unfolding node_by
  node_sequence n e l m = node_at (kind_of t n) n e refl ∙ passed (ltb (kind_of t n) 16) _ _ (le-ltb (kind_of t n) 16 l)
      ∙ passed (eqb (kind_of t n) 32) _ _ (ne_eqb (kind_of t n) 32 (λ q. omega arith))
      ∙ passed (eqb (kind_of t n) 33) _ _ (ne_eqb (kind_of t n) 33 (λ q. omega arith))
      ∙ passed (eqb (kind_of t n) 34) _ _ (ne_eqb (kind_of t n) 34 (λ q. omega arith))
      ∙ passed (eqb (kind_of t n) 35) _ _ (ne_eqb (kind_of t n) 35 (λ q. omega arith))
      ∙ passed (eqb (kind_of t n) 36) _ _ (ne_eqb (kind_of t n) 36 (λ q. omega arith))
      ∙ passed (eqb (kind_of t n) 37) _ _ (ne_eqb (kind_of t n) 37 (λ q. omega arith))
      ∙ passed (eqb (kind_of t n) 38) _ _ (ne_eqb (kind_of t n) 38 (λ q. omega arith))
      ∙ passed (eqb (kind_of t n) 39) _ _ (ne_eqb (kind_of t n) 39 (λ q. omega arith))
      ∙ passed (eqb (kind_of t n) 40) _ _ (ne_eqb (kind_of t n) 40 (λ q. omega arith))
      ∙ passed (eqb (kind_of t n) 41) _ _ (ne_eqb (kind_of t n) 41 (λ q. omega arith))
      ∙ passed (eqb (kind_of t n) 42) _ _ (ne_eqb (kind_of t n) 42 (λ q. omega arith))
