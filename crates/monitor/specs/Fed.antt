-- WHY THE DEMANDS HOLD: what stands in a monitor that was opened on an accepted table and fed samples one by one. Nobody has to believe it: opening gives it
-- (`fed_opened`), a step keeps it (`fed_granted`, `refused_stays`), and what follows of the answers is in Demands, which does not name it.
use Rattle.std.specs.Prelude.{ℕ, ◌<◌, ◌≡◌, refl, List, [], ◌∷◌, ◌++◌, length}
use Rattle.std.proofs.Common.{arith, sym, ◌∙◌, ap, subst}
use Rattle.std.proofs.Math.Decide.{dec_lt}
use Rattle.psl.specs.Tells.{tells_dec}
use Rattle.psl.specs.Verdicts.{pending, Right, is_pending}
use Rattle.psl.specs.Verdicts as Psl
use Rattle.psl.specs.Properties.{Property}
use Rattle.psl.proofs.Laws.{broken_stays, settled_stays}
use Rattle.psl.proofs.Model.Verdicts.{right_none}
use Rattle.table.specs.Reply.{Reply, refused, granted, not_both, granted_one}
use Rattle.table.specs.Roots.{root_at}
use Rattle.table.specs.Trees.{property_at, property_of}
use Rattle.table.specs.Check.{table_reply}
use Rattle.table.specs.Subset.{Layout}
use Rattle.table.proofs.Facts.Accepted.{granted_subset}
use Rattle.table.specs.declared.Counts.{Counts}
use Rattle.words.specs.Ends.{has_from}
use Rattle.engine.specs.Goes.{goes_on}
use Rattle.monitor.specs.declared.Monitor.{Monitor}
use Rattle.monitor.specs.declared.verdict.Verdict.{Verdict}
use Rattle.monitor.specs.declared.verdict.Verdict.TheVariants.{Broken, Settled, Pending}
use Rattle.monitor.specs.Opens.{count_limit, GoesOn, OpenIs, opened}
use Rattle.monitor.specs.Follows.{verdict_of, signals_of, Undeclared, Advances, DeclaredStep, StepIs}

-- The signals that a step tests a sample against are those of an accepted table: S is 32 at most, so that its second byte is 0.
pub signals_are : (t : List ℕ) (counts : Counts) → Layout t counts → signals_of t ≡ counts.signals
signals_are t counts l = omega (arith, l.signals, l.signals_range)

pub undeclared_test : (t : List ℕ) (x : ℕ) → Dec (Undeclared t x)
undeclared_test t x = tells_dec (has_from x (signals_of t))

-- The property stands so after the samples v: its verdict is right, and while it is pending it goes on.
pub data Stood (t v : List ℕ) (m : Monitor) : Verdict → Type 0 where
  stood_broken : {n : ℕ} → Right (property_at t m.plan.root) v (Psl.broken n) → Stood t v m (Broken n)
  stood_settled : {n : ℕ} → Right (property_at t m.plan.root) v (Psl.settled n) → Stood t v m (Settled n)
  stood_pending : {n : ℕ} → n ≡ length v → Right (property_at t m.plan.root) v (pending (length v)) → GoesOn t v m → Stood t v m (Pending n)

-- The monitor stands for property number `property` of the accepted table, after the samples v.
pub record Fed (t : List ℕ) (counts : Counts) (property : ℕ) (v : List ℕ) (m : Monitor) : Type 0 where
  pub accepted : table_reply t ≡ granted counts
  pub numbered : property < counts.properties
  pub root_is : m.plan.root ≡ root_at t counts.nodes property
  pub stood : Stood t v m m.stand.verdict

right_of : (t v : List ℕ) (m : Monitor) (d : Verdict) → Stood t v m d → Right (property_at t m.plan.root) v (verdict_of d)
right_of t v m (Broken n) (stood_broken r) = r
right_of t v m (Settled n) (stood_settled r) = r
right_of t v m (Pending n) (stood_pending e r g) = subst (λ (k : ℕ). Right (property_at t m.plan.root) v (pending k)) (sym e) r

-- ITS VERDICT is the right one
pub fed_right : (t : List ℕ) (counts : Counts) (property : ℕ) (v : List ℕ) (m : Monitor) → Fed t counts property v m
    → Right (property_of t counts.nodes property) v (verdict_of m.stand.verdict)
unfolding property_of
fed_right t counts property v m f = subst (λ (root : ℕ). Right (property_at t root) v (verdict_of m.stand.verdict)) f.root_is (right_of t v m m.stand.verdict f.stood)

-- OPENED, it has been fed nothing
pub fed_opened : (t : List ℕ) (counts : Counts) (property : ℕ) (m : Monitor) → OpenIs t property (granted counts) m → Fed t counts property [] m
fed_opened t counts property m (opened e l blank ready) = record {
  accepted = e;
  numbered = l;
  root_is = ready.root_is;
  stood = subst (Stood t [] m) (sym blank.verdict_is) (stood_pending refl (right_none (property_at t m.plan.root)) ready.goes);
}

pub counted : {f : Property} {v : List ℕ} {n : ℕ} → Right f v (pending n) → n ≡ length v
counted (is_pending e a b) = e

stood_of : {t v : List ℕ} {m : Monitor} (d : Verdict) → Right (property_at t m.plan.root) v (verdict_of d) → GoesOn t v m → Stood t v m d
stood_of (Broken n) r g = stood_broken r
stood_of (Settled n) r g = stood_settled r
stood_of {t} {v} {m} (Pending n) r g = stood_pending (counted r) (subst (λ (k : ℕ). Right (property_at t m.plan.root) v (pending k)) (counted r) r) g

-- A REFUSED STEP leaves any monitor as it was
module _ (t : List ℕ) (m : Monitor) (x : ℕ) (after : Monitor) where
  pub refused_stays : (number place : ℕ) → StepIs t m x (refused number place) after → after ≡ m
  refused_stays number place s = elim (undeclared_test t x) [ yes u ↦ (s.undeclared u).1 | no d ↦ by m.stand.verdict (s.declared d) ]
    where
      by : (d : Verdict) → DeclaredStep t m x (refused number place) after d → after ≡ m
      by (Broken n) h = h.1
      by (Settled n) h = h.1
      by (Pending n) h = elim (dec_lt n count_limit) [ yes l ↦ absurd (not_both (h.1 l).replies) | no l ↦ (h.0 (omega arith)).1 ]

module _ (t : List ℕ) (counts : Counts) (property : ℕ) (v : List ℕ) (m : Monitor) (x : ℕ) (f : Fed t counts property v m) where
  pub fed_signals : signals_of t ≡ counts.signals
  fed_signals = signals_are t counts (granted_subset t counts f.accepted).layout

  -- GRANTED a verdict, that is the one which stands then, and it has been fed one sample more
  module _ (reply : Reply Psl.Verdict) (after : Monitor) where
    abbrev pub Next : Type 0
    Next = (reply ≡ granted (verdict_of after.stand.verdict)) × Fed t counts property (v ++ x ∷ []) after

    stays : (d : Verdict) → m.stand.verdict ≡ d → reply ≡ granted (verdict_of d) → after ≡ m → Stood t (v ++ x ∷ []) m d → Next
    stays d e r s h = rw s (
      r ∙ ap (λ (d : Verdict). granted (verdict_of d)) (sym e),
      record { accepted = f.accepted; numbered = f.numbered; root_is = f.root_is; stood = subst (Stood t (v ++ x ∷ []) m) (sym e) h },
    )

    moves : (n : ℕ) → n ≡ length v → Right (property_at t m.plan.root) v (pending (length v)) → GoesOn t v m → Advances t m n x reply after → Next
    moves n e r g a =
        let h = a.turns v e r g in (
          a.replies,
          record { accepted = f.accepted; numbered = f.numbered; root_is = rw a.plan_stays f.root_is; stood = stood_in a.plan_stays h.right (goes_on g x h.keeps) },
        )
      where
        stood_in : after.plan ≡ m.plan → Right (property_at t m.plan.root) (v ++ x ∷ []) (verdict_of after.stand.verdict)
            → GoesOn t (v ++ x ∷ []) (record { plan = m.plan; stand = after.stand; families = after.families }) → Stood t (v ++ x ∷ []) after after.stand.verdict
        stood_in e r g = rw e (stood_of after.stand.verdict r g)

    by : (d : Verdict) → m.stand.verdict ≡ d → (d ≡ Pending (length v) → length v < count_limit) → Stood t v m d → DeclaredStep t m x reply after d → Next
    by (Broken n) e low (stood_broken r) s = stays (Broken n) e s.0 s.1 (stood_broken (broken_stays (x ∷ []) r))
    by (Settled n) e low (stood_settled r) s = stays (Settled n) e s.0 s.1 (stood_settled (settled_stays (x ∷ []) r))
    by (Pending n) e low (stood_pending q r g) s = moves n q r g (s.1 (let l = low (ap Pending q) in omega arith))

    pub fed_step : (m.stand.verdict ≡ Pending (length v) → length v < count_limit) → ¬ Undeclared t x → StepIs t m x reply after → Next
    fed_step low d s = by m.stand.verdict refl low f.stood (s.declared d)

  pub fed_granted : (d : Psl.Verdict) (after : Monitor) → StepIs t m x (granted d) after → (d ≡ verdict_of after.stand.verdict) × Fed t counts property (v ++ x ∷ []) after
  fed_granted d after s = elim (undeclared_test t x) [
    | yes u ↦ absurd (not_both (sym (s.undeclared u).0))
    | no n ↦ (let h = fed_step (granted d) after (λ e. below e (s.declared n)) n s in (granted_one h.0, h.1))
  ]
    where
      below : m.stand.verdict ≡ Pending (length v) → DeclaredStep t m x (granted d) after m.stand.verdict → length v < count_limit
      below e h = elim (dec_lt (length v) count_limit) [
        | yes l ↦ l
        | no l ↦ absurd (not_both (sym ((subst (DeclaredStep t m x (granted d) after) e h).0 (omega arith)).0))
      ]
