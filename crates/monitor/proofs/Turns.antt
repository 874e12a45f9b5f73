-- One cycle more of a property that goes on.
use Prim.Native.Nat.{ℕ, suc, ◌+◌, ◌%◌, ◌<◌}
use native.Mathlib.Omega.{arith}
use mathlib.Core.Path.{◌≡◌, sym, ◌∙◌, ap, ap₂, subst}
use mathlib.Core.Bool.{Bool, ◌&&◌, ◌||◌}
use mathlib.Core.List.{List, [], ◌∷◌, ◌++◌}
use lib.Dec.{eqb}
use Rattle.std.proofs.Math.Bool.{and_comm}
use lib.ListN.{length}
use Rattle.psl.specs.Booleans.{bit}
use Rattle.psl.specs.Verdicts.{pending, Right, judged}
use Rattle.table.specs.Trees.{property_at}
use Rattle.words.specs.Bits.{bit_none}
use Rattle.words.specs.Sets.{WithBit}
use Rattle.engine.specs.Cycled.{Standing, Cycled}
use Rattle.monitor.specs.declared.verdict.Verdict.{Verdict}
use Rattle.monitor.specs.Follows.{verdict_of, Turns}
use Rattle.engine.specs.Goes.{Goes, standing, next_right}

-- the root, at the first cycle alone
first_word : {n m root first : ℕ} → n ≡ m → root < 64 → WithBit 0 root (eqb n 0) first → (k : ℕ) → bit first k ≡ eqb k root && eqb m 0
first_word {n} {m} {root} {first} e l w k = w.each k
    ∙ ap₂ (λ (a b : Bool). a || b) (bit_none k) (ap₂ (λ (i j : ℕ). eqb i 0 && eqb k j) e small ∙ and_comm (eqb m 0) (eqb k root))
  where
    small : root % 64 ≡ root
    small = omega arith

module _ {t : List ℕ} {root booleans sides weaks : ℕ} {v : List ℕ} {held live_a live_b : ℕ} {families : List ℕ} (g : Goes t root booleans sides weaks v held live_a live_b families)
    (n first x held' live_a' live_b' : ℕ) (families' : List ℕ) (broke quiet : Bool) (verdict : Verdict) (read : n ≡ length v) (word : WithBit 0 root (eqb n 0) first)
    (cycle : (s : Standing t root booleans sides weaks first held live_a live_b families) → Cycled s x held' live_a' live_b' families' broke quiet)
    (says : verdict_of verdict ≡ judged broke quiet (n + 1)) where
  first_is : (k : ℕ) → bit first k ≡ eqb k root && eqb (length v) 0
  first_is = first_word read (omega (arith, g.root_low, g.subset.layout.nodes_range)) word

  pub turned : Right (property_at t root) v (pending (length v)) → Turns g x verdict held' live_a' live_b' families'
  turned r =
      let c = cycle (standing g first first_is) in
      record { right = subst (Right (property_at t root) (v ++ x ∷ [])) (ap (judged broke quiet) count ∙ sym says) (next_right g first first_is c r); keeps = c.represents }
    where
      count : suc (length v) ≡ n + 1
      count = omega arith
