-- A monitor that was opened is ready.
use Prim.Native.Nat.{ℕ, ◌<◌}
use native.Mathlib.Omega.{arith}
use mathlib.Core.Path.{◌≡◌, sym, ◌∙◌, ap, subst}
use mathlib.Core.List.{List, []}
use lib.ListN.{replicate}
use Rattle.table.specs.Roots.{root_at}
use Rattle.table.specs.Kinds.{class_of}
use Rattle.std.specs.Prelude.{Result}
use Rattle.std.proofs.Common.{Fits, w8}
use Rattle.table.specs.Check.{checked_reply, table_reply}
use Rattle.table.specs.Subset.{Subset, kind_at}
use Rattle.table.specs.declared.Counts.{Counts}
use Rattle.table.specs.declared.Refusal.{Refusal}
use Rattle.table.specs.declared.kinds.Class.TheVariants.{Sequence}
use Rattle.engine.specs.declared.plan.Plan.{Plan}
use Rattle.engine.specs.Planned.{Planned}
use Rattle.monitor.specs.declared.Monitor.{Monitor}
use Rattle.engine.specs.Goes.{Goes}
use Rattle.monitor.specs.Opening.{begins}
use Rattle.monitor.specs.Opens.{Blank, Ready}

module _ (t : List ℕ) (m : Monitor) (plan : Plan) (r : ℕ) (blank : Blank plan 0 m) (root_is : plan.root ≡ r)
    (planned : (counts : Counts) → Subset t counts → r < counts.nodes → ¬ (class_of (kind_at t r) ≡ Sequence) → Planned t r plan.booleans plan.sides plan.weaks)
    (c : Counts) (z : Subset t c) (property : ℕ) (low : property < c.properties) (is_root : r ≡ root_at t c.nodes property) where
  inside : r < c.nodes
  inside = subst (λ (n : ℕ). n < c.nodes) (sym is_root) (z.roots property low)

  no_sequence : ¬ (class_of (kind_at t r) ≡ Sequence)
  no_sequence = subst (λ (n : ℕ). ¬ (class_of (kind_at t n) ≡ Sequence)) (sym is_root) (z.root_classes property low)

  from_plan : Goes t plan.root plan.booleans plan.sides plan.weaks [] 0 0 0 (replicate 32 0)
  from_plan = subst (λ (n : ℕ). Goes t n plan.booleans plan.sides plan.weaks [] 0 0 0 (replicate 32 0)) (sym root_is)
      (begins t c z r plan.booleans plan.sides plan.weaks (planned c z inside no_sequence) inside no_sequence)

  pub ready : Ready t c property m
  ready = record {
    root_is = ap (λ (p : Plan). p.root) blank.plan_is ∙ root_is ∙ is_root;
    goes = rw (blank.plan_is, blank.none_held, blank.none_live.0, blank.none_live.1, blank.families_are) from_plan;
  }

-- A root is below 64, so that a byte holds it.
pub root_low : {t : List ℕ} {c : Counts} {property r : ℕ} → Subset t c → property < c.properties → r ≡ root_at t c.nodes property
    → Fits w8 r
root_low z low s = omega (arith, z.roots _ low, z.layout.nodes_range, s)

-- What the check's reply is, by its answer.
pub told : (t : List ℕ) {checked answer : Result Counts Refusal} → checked_reply checked ≡ table_reply t → checked ≡ answer
    → table_reply t ≡ checked_reply answer
told t e q = sym e ∙ ap checked_reply q
