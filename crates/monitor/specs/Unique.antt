-- Any two answers that a contract of this crate allows are equal, with the monitors afterwards. Bytes lent by `&` are as they were.
-- Where a step moves on (`Moves`), its monitor is one that was opened on the table and fed, and a family is a word, below 2 ^ 64: that is the exception.
use Rattle.std.specs.Prelude.{ℕ, ◌≤◌, ◌<◌, ◌≡◌, refl, List, Result, Ok, Err}
use Rattle.std.proofs.Common.{arith, sym, ◌∙◌, ap, subst}
use Rattle.std.proofs.Math.Decide.{dec_lt}
use Rattle.psl.specs.Verdicts as Psl
use Rattle.psl.proofs.Laws.{one_verdict}
use Rattle.table.proofs.Laws.Runs.{clash}
use Rattle.table.specs.Reply.{Reply, granted, not_both, granted_one, refused_one}
use Rattle.table.specs.Check.{table_reply}
use Rattle.table.specs.declared.Counts.{Counts}
use Rattle.table.specs.declared.Refusal.{Refusal}
use Rattle.engine.specs.declared.plan.Plan.{Plan}
use Rattle.engine.specs.Planned.{Planned}
use Rattle.engine.specs.Unique.{plan_one, weak_low, Words, held_one, live_a_one, live_b_one, families_one}
use Rattle.monitor.specs.declared.Monitor.{Monitor}
use Rattle.monitor.specs.declared.verdict.Verdict.{Verdict}
use Rattle.monitor.specs.declared.verdict.Verdict.TheVariants.{Broken, Settled, Pending}
use Rattle.monitor.specs.Opens.{count_limit, no_plan, Blank, Shut, Ready, OpenIs, no_table, no_property, opened}
use Rattle.monitor.specs.Follows.{verdict_of, answer_reply, Undeclared, Advances, DeclaredStep, StepIs}
use Rattle.monitor.specs.Fed.{undeclared_test, Stood, stood_pending, Fed}

monitor_one : (m m' : Monitor) → m.plan ≡ m'.plan → m.stand.verdict ≡ m'.stand.verdict → m.stand.expected.held ≡ m'.stand.expected.held
    → m.stand.expected.live.a ≡ m'.stand.expected.live.a → m.stand.expected.live.b ≡ m'.stand.expected.live.b → m.families ≡ m'.families → m ≡ m'
monitor_one m m' p d h a b f = λ i. record { plan = p i; stand = record { verdict = d i; expected = record { held = h i; live = record { a = a i; b = b i } } }; families = f i }

-- ---- `Monitor::new`, `open`

pub blank_one : (plan : Plan) (cycles : ℕ) (m m' : Monitor) → Blank plan cycles m → Blank plan cycles m' → m ≡ m'
blank_one plan cycles m m' p q = monitor_one m m' (p.plan_is ∙ sym q.plan_is) (p.verdict_is ∙ sym q.verdict_is) (p.none_held ∙ sym q.none_held)
    (p.none_live.0 ∙ sym q.none_live.0) (p.none_live.1 ∙ sym q.none_live.1) (p.families_are ∙ sym q.families_are)

ready_one : (t : List ℕ) (counts : Counts) (property : ℕ) (m m' : Monitor) → Ready t counts property m → Ready t counts property m' → m.plan ≡ m'.plan
ready_one t counts property m m' p q =
    let e : m'.plan.root ≡ m.plan.root = q.root_is ∙ sym p.root_is in
    let h = plan_one t p.goes.counts p.goes.subset p.goes.root_low p.goes.plan
    (subst (λ (root : ℕ). Planned t root m'.plan.booleans m'.plan.sides m'.plan.weaks) e q.goes.plan) in
    λ i. record { booleans = h.0 i; sides = h.1 i; weaks = h.2 i; root = sym e i }

shut_one : {m m' : Monitor} → Shut m → Shut m' → m ≡ m'
shut_one p q = blank_one no_plan count_limit _ _ p q

pub too_far : (t : List ℕ) {c d : Counts} {property : ℕ} → table_reply t ≡ granted c → table_reply t ≡ granted d → c.properties ≤ property → property < d.properties → ⊥
too_far t e f l k = let z = ap (λ (counts : Counts). counts.properties) (granted_one (sym e ∙ f)) in omega arith

pub open_one : {t : List ℕ} {property : ℕ} {reply reply' : Reply Counts} {m m' : Monitor} → OpenIs t property reply m → OpenIs t property reply' m'
    → (reply ≡ reply') × (m ≡ m')
open_one (no_table e p) (no_table f q) = (sym e ∙ f, shut_one p q)
open_one (no_table e p) (no_property f l q) = absurd (not_both (sym e ∙ f))
open_one (no_table e p) (opened f l b r) = absurd (not_both (sym e ∙ f))
open_one (no_property e l p) (no_table f q) = absurd (not_both (sym f ∙ e))
open_one (no_property e l p) (no_property f k q) = (refl, shut_one p q)
open_one {t} (no_property e l p) (opened f k b r) = absurd (too_far t e f l k)
open_one (opened e l b r) (no_table f q) = absurd (not_both (sym f ∙ e))
open_one {t} (opened e l b r) (no_property f k q) = absurd (too_far t f e k l)
open_one {t} {property} (opened {m = m} e l b r) (opened {m = m'} f k b' r') =
    let c = granted_one (sym e ∙ f) in
    (ap granted c, blank_one m.plan 0 m m' b (subst (λ (plan : Plan). Blank plan 0 m') (sym (ready_one t _ property m m' (subst (λ (x : Counts). Ready t x property m) c r) r')) b'))

-- ---- `step_lent`, `step`, and `advance`, which says the same of the monitor lent to it

pub verdict_one : (d d' : Verdict) → verdict_of d ≡ verdict_of d' → d ≡ d'
verdict_one (Broken n) (Broken m) e = cc
verdict_one (Broken n) (Settled m) e = clash cc
verdict_one (Broken n) (Pending m) e = clash cc
verdict_one (Settled n) (Broken m) e = clash cc
verdict_one (Settled n) (Settled m) e = cc
verdict_one (Settled n) (Pending m) e = clash cc
verdict_one (Pending n) (Broken m) e = clash cc
verdict_one (Pending n) (Settled m) e = clash cc
verdict_one (Pending n) (Pending m) e = cc

-- The step gives a new verdict: the sample is declared, nothing was decided, and one cycle more can be counted. Any other step leaves any monitor as it is.
abbrev pub Moves : List ℕ → Monitor → ℕ → Type 0
Moves t m x = (¬ Undeclared t x) × (n : ℕ) × (m.stand.verdict ≡ Pending n) × (n < count_limit)

module _ (t : List ℕ) (counts : Counts) (property : ℕ) (v : List ℕ) (m : Monitor) (x : ℕ) (r r' : Reply Psl.Verdict) (after after' : Monitor)
    (f : Moves t m x → Fed t counts property v m) (fits : Moves t m x → Words after.families × Words after'.families) where
  abbrev One : Type 0
  One = (r ≡ r') × (after ≡ after')

  -- the new verdict, and words of what is then kept
  advances_one : Moves t m x → (n : ℕ) → Stood t v m (Pending n) → Advances t m n x r after → Advances t m n x r' after' → One
  advances_one on n (stood_pending e right g) p q =
      let a = p.turns v e right g in
      let b = q.turns v e right g in
      let d = one_verdict a.right b.right in (
        p.replies ∙ ap granted d ∙ sym q.replies,
        monitor_one after after' (p.plan_stays ∙ sym q.plan_stays) (verdict_one after.stand.verdict after'.stand.verdict d)
            (held_one a.keeps b.keeps) (live_a_one a.keeps b.keeps) (live_b_one a.keeps b.keeps)
            (families_one a.keeps b.keeps (weak_low g.subset g.root_low g.plan) (fits on).0 (fits on).1),
      )

  declared_one : ¬ Undeclared t x → (d : Verdict) → m.stand.verdict ≡ d → DeclaredStep t m x r after d → DeclaredStep t m x r' after' d → One
  declared_one u (Broken n) e p q = (p.0 ∙ sym q.0, p.1 ∙ sym q.1)
  declared_one u (Settled n) e p q = (p.0 ∙ sym q.0, p.1 ∙ sym q.1)
  declared_one u (Pending n) e p q = elim (dec_lt n count_limit) [
    | yes l ↦ (let on : Moves t m x = (u, n, e, l) in advances_one on n (subst (Stood t v m) e (f on).stood) (p.1 l) (q.1 l))
    | no l ↦ (let k : count_limit ≤ n = omega arith in ((p.0 k).0 ∙ sym (q.0 k).0, (p.0 k).1 ∙ sym (q.0 k).1))
  ]

  pub step_one : StepIs t m x r after → StepIs t m x r' after' → One
  step_one p q = elim (undeclared_test t x) [
    | yes u ↦ ((p.undeclared u).0 ∙ sym (q.undeclared u).0, (p.undeclared u).1 ∙ sym (q.undeclared u).1)
    | no u ↦ declared_one u m.stand.verdict refl (p.declared u) (q.declared u)
  ]

-- An answer is told by its reply.
pub answer_one : (a b : Result Verdict Refusal) → answer_reply a ≡ answer_reply b → a ≡ b
answer_one (Err r) (Err q) e = let h = refused_one e in λ i. Err (record { number = h.0 i; place = h.1 i })
answer_one (Err r) (Ok d) e = absurd (not_both e)
answer_one (Ok d) (Err r) e = absurd (not_both (sym e))
answer_one (Ok c) (Ok d) e = ap Ok (verdict_one c d (granted_one e))
