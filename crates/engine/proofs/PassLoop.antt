-- The loop of the downward pass: the bytes hold what is ahead, and where the rows are those of a property the pass goes on.
use Prim.Native.Nat.{ℕ, ◌^◌, ◌≤◌, ◌<◌}
use native.Mathlib.Nat.{mod-eq_of_lt}
use native.Mathlib.Omega.{arith}
use native.Mathlib.Decide.{dec_lt}
use mathlib.Core.Path.{◌≡◌, refl, sym, ◌∙◌, ap, ap₂}
use mathlib.Core.Bool.{Bool, true, false, not, ◌&&◌, ◌||◌, and-false, and-true}
use mathlib.Core.List.{List}
use lib.Dec.{eqb, ltb}
use borrow.Author.Tests.{lt-ltb, le-ltb, eq-eqb, ne_eqb}
use Rattle.psl.specs.Booleans.{bit}
use Rattle.psl.proofs.Model.Nodes.{Node}
use Rattle.words.specs.Bits.{fewer_bits}
use Rattle.words.specs.Sets.{Highest, WithoutBit}
use Rattle.words.specs.Walk.{Turn}
use Rattle.engine.specs.Reads.{Held, Within}
use Rattle.engine.specs.Properties.{PropertyRows, Passed, Visits}
use Rattle.engine.specs.PropertyVisits.{stage_of, visit_at, called, visited, Visitable}
use Rattle.engine.specs.declared.properties.Letter.{Letter}
use Rattle.engine.specs.declared.properties.Pass.{Pass}
use Rattle.engine.proofs.TruthLaws.{clash}
use Rattle.engine.proofs.StepLaws.{either}
use Rattle.engine.proofs.PassLaws.{and_parts, Going, going_start, start_from, going_turn, turn_from, going_end, begin_above, under}

-- It goes on, and the rows below those that are done are ahead, where they can be visited.
pub record GoingAhead (t : List ℕ) (leaves first : ℕ) (l : Letter) (x root : ℕ) (node : ℕ → Node) (reached : ℕ → Bool) (hit : ℕ → Bool → Bool) (p : Pass) (ahead left : ℕ) : Type 0 where
  pub going : Going t leaves first l x root node reached hit p left
  pub low : (k : ℕ) → k < going.from → Held t k → bit leaves k ≡ false → bit ahead k ≡ true

-- What is left are the rows ahead that are called.
abbrev pub LeftIs : Letter → Pass → ℕ → ℕ → Type 0
LeftIs l p ahead left = (k : ℕ) → bit left k ≡ called p.begin l.was l.hits.ends k && bit ahead k

pub record Loop (t : List ℕ) (leaves first : ℕ) (l : Letter) (p : Pass) (ahead : ℕ) : Type 0 where
  pub within : Within t ahead
  pub no_leaf : (k : ℕ) → bit ahead k ≡ true → bit leaves k ≡ false
  pub goes : (left : ℕ) → LeftIs l p ahead left → (x root : ℕ) (node : ℕ → Node) (reached : ℕ → Bool) (hit : ℕ → Bool → Bool)
      → PropertyRows t leaves first l x root node reached hit → GoingAhead t leaves first l x root node reached hit p ahead left

-- where a row is ahead unless it is a leaf, what is left is what is visited
ahead_is : (leaves ahead k : ℕ) → ((k : ℕ) → bit ahead k ≡ true → bit leaves k ≡ false) → (bit leaves k ≡ false → bit ahead k ≡ true) → bit ahead k ≡ not (bit leaves k)
ahead_is leaves ahead k none all = go (bit leaves k) refl
  where
    shut : bit leaves k ≡ true → (b : Bool) → bit ahead k ≡ b → b ≡ false
    shut e true h = clash e (none k h)
    shut e false h = refl

    go : (b : Bool) → bit leaves k ≡ b → bit ahead k ≡ not b
    go true e = shut e (bit ahead k) refl
    go false e = all e

module _ {t : List ℕ} {leaves first : ℕ} {l : Letter} where
  pub loop_start : (ahead : ℕ) → Visits t leaves first l.was l.hits.ends → Visitable t leaves ahead → Loop t leaves first l (record { begin = first; held = 0; broken = false }) ahead
  loop_start ahead there v = record { within = v.in_bytes; no_leaf = v.no_leaf; goes = start }
    where
      start : (left : ℕ) → LeftIs l (record { begin = first; held = 0; broken = false }) ahead left → (x root : ℕ) (node : ℕ → Node) (reached : ℕ → Bool) (hit : ℕ → Bool → Bool)
          → PropertyRows t leaves first l x root node reached hit
          → GoingAhead t leaves first l x root node reached hit (record { begin = first; held = 0; broken = false }) ahead left
      start left is x root node reached hit rows = record {
        going = going_start t leaves first l x root node reached hit rows left (λ k. is k ∙ same k (called first l.was l.hits.ends k) refl);
        low = λ k a h e. v.all k (omega (arith, rows.root_low, start_from t leaves first l x root node reached hit rows left (λ k. is k ∙ same k (called first l.was l.hits.ends k) refl))) h e;
      }
        where
          small : (k : ℕ) → called first l.was l.hits.ends k ≡ true → k < 64
          small k e = let in-root = rows.up_to_root k (either (bit first k || bit l.was k) (bit l.hits.ends k) e (λ a. either (bit first k) (bit l.was k) a (rows.first_in k) (rows.was_in k)) (rows.ends_in k)) in
              omega (arith, rows.root_low)

          same : (k : ℕ) (b : Bool) → called first l.was l.hits.ends k ≡ b → b && bit ahead k ≡ b && not (bit leaves k)
          same k true e = ahead_is leaves ahead k v.no_leaf (λ f. v.all k (small k e) (there k e f) f)
          same k false e = refl

  -- n is taken
  module _ {p : Pass} {ahead left : ℕ} (loop : Loop t leaves first l p ahead) (left_is : LeftIs l p ahead left) {n taken : ℕ} (turn : Turn left n taken) (high : Highest left n) where
    some : 0 < left
    some = let h = turn.less in omega arith

    ahead_here : bit ahead n ≡ true
    ahead_here = (and_parts (called p.begin l.was l.hits.ends n) (bit ahead n) (sym (left_is n) ∙ high.set some)).1

    pub held_here : Held t n
    held_here = loop.within n ahead_here

    module _ {rest : ℕ} (without : WithoutBit ahead n rest) where
      bits : (k : ℕ) → bit rest k ≡ bit ahead k && not (eqb k n)
      bits k = without.each k ∙ ap (λ (m : ℕ). bit ahead k && not (eqb k m)) (mod-eq_of_lt (high.small some))

      still : (k : ℕ) → bit rest k ≡ true → bit ahead k ≡ true
      still k e = (and_parts (bit ahead k) (not (eqb k n)) (sym (bits k) ∙ e)).0

      other : (k : ℕ) → (k ≡ n → ⊥) → bit rest k ≡ bit ahead k
      other k z = bits k ∙ ap (λ (b : Bool). bit ahead k && not b) (ne_eqb k n z) ∙ and-true (bit ahead k)

      gone : bit rest n ≡ false
      gone = bits n ∙ ap (λ (b : Bool). bit ahead n && not b) (eq-eqb n n refl) ∙ and-false (bit ahead n)

      pub loop_less : ahead < 2 ^ 64 → rest < 2 ^ 64 → rest < ahead
      loop_less fits fits' = fewer_bits 64 rest ahead n fits' fits still gone ahead_here

      module _ (r : Pass) (step : stage_of r ≡ visit_at t n l (stage_of p)) (word : ℕ) (is : LeftIs l r rest word)
          (x root : ℕ) (node : ℕ → Node) (reached : ℕ → Bool) (hit : ℕ → Bool → Bool)
          (rows : PropertyRows t leaves first l x root node reached hit) where
        abbrev g : GoingAhead t leaves first l x root node reached hit p ahead left
        g = loop.goes left left_is x root node reached hit rows

        below : (k : ℕ) → k < n → k < g.going.from
        below k a = let u = under t leaves first l x root node reached hit rows g.going some high in omega arith

        -- below n a row is ahead unless it is a leaf
        low_bits : (k : ℕ) → k < n → bit rest k ≡ not (bit leaves k)
        low_bits k a = other k (λ z. omega arith) ∙ ahead_is leaves ahead k loop.no_leaf (λ e. g.low k (below k a) (omega (arith, held_here)) e)

        -- from n on nothing is left
        none : (k : ℕ) → n ≤ k → called r.begin l.was l.hits.ends k && bit rest k ≡ false
        none k a = elim (dec_lt n k) [
          | yes b ↦
              ap₂ (λ (c d : Bool). ((c || bit l.was k) || bit l.hits.ends k) && d) (begin_above t leaves first l x root node reached hit rows g.going some high r step k a) (other k (λ z. omega arith))
              ∙ sym (left_is k) ∙ high.above k b
          | no b ↦ (let e : k ≡ n = omega arith in rw e (ap (λ (c : Bool). called r.begin l.was l.hits.ends n && c) gone ∙ and-false (called r.begin l.was l.hits.ends n)))
        ]

        visited_left : (k : ℕ) → bit word k ≡ visited r.begin l.was l.hits.ends leaves k && ltb k n
        visited_left k = elim (dec_lt k n) [
          | yes a ↦
              is k ∙ ap (λ (b : Bool). called r.begin l.was l.hits.ends k && b) (low_bits k a)
              ∙ sym (ap (λ (b : Bool). visited r.begin l.was l.hits.ends leaves k && b) (lt-ltb k n a) ∙ and-true (visited r.begin l.was l.hits.ends leaves k))
          | no a ↦
              is k ∙ none k (omega arith)
              ∙ sym (ap (λ (b : Bool). visited r.begin l.was l.hits.ends leaves k && b) (le-ltb k n (omega arith)) ∙ and-false (visited r.begin l.was l.hits.ends leaves k))
        ]

        next : Going t leaves first l x root node reached hit r word
        next = going_turn t leaves first l x root node reached hit rows g.going some high r step word visited_left

        less : (k : ℕ) → k < next.from → k < n
        unfolding next
        less k a = omega (arith, turn_from t leaves first l x root node reached hit rows g.going some high r step word visited_left)

        turned : GoingAhead t leaves first l x root node reached hit r rest word
        turned = record {
          going = next;
          low = λ k a h e. let b = less k a in other k (λ z. omega arith) ∙ g.low k (below k b) h e;
        }

      pub loop_turn : {r : Pass} → stage_of r ≡ visit_at t n l (stage_of p) → Loop t leaves first l r rest
      loop_turn {r} step = record {
        within = λ k e. loop.within k (still k e);
        no_leaf = λ k e. loop.no_leaf k (still k e);
        goes = turned r step;
      }

  pub loop_end : {p : Pass} {ahead left : ℕ} → left ≡ 0 → Loop t leaves first l p ahead → LeftIs l p ahead left → (x root : ℕ) (node : ℕ → Node) (reached : ℕ → Bool) (hit : ℕ → Bool → Bool)
      → PropertyRows t leaves first l x root node reached hit → Passed first l.was x root node hit p.begin p.held p.broken
  loop_end e loop is x root node reached hit rows = going_end t leaves first l x root node reached hit rows (rw e at (loop.goes _ is x root node reached hit rows).going)
