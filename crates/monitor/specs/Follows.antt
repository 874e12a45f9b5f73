-- What a step does: 13; then a verdict already given is repeated; then 14; else the new verdict. A refusal and a repeated verdict leave the monitor as it was.
use Rattle.std.specs.Prelude.{ℕ, ◌≤◌, ◌<◌, ◌≡◌, List, [], ◌∷◌, ◌++◌, length, Option, Some, None, Result, Ok, Err}
use Rattle.psl.specs.Verdicts.{broken, settled, pending, Right}
use Rattle.psl.specs.Verdicts as Psl
use Rattle.table.specs.Reply.{Reply, refused, granted}
use Rattle.table.specs.Trees.{property_at}
use Rattle.table.specs.declared.Refusal.{Refusal}
use Rattle.monitor.specs.declared.verdict.Verdict.{Verdict}
use Rattle.monitor.specs.declared.verdict.Verdict.TheVariants.{Broken, Settled, Pending}
use Rattle.engine.specs.declared.plan.Plan.{Plan}
use Rattle.monitor.specs.declared.Stand.{Stand}
use Rattle.monitor.specs.declared.Monitor.{Monitor}
use Rattle.little.specs.Bytes.{byte_at}
use Rattle.words.specs.Sets.{HasFrom}
use Rattle.engine.specs.CycleRight.{Represented}
use Rattle.engine.specs.Goes.{Goes, kept_after}
use Rattle.monitor.specs.Opens.{count_limit, GoesOn}

-- The verdict, as document 01 has it.
abbrev pub verdict_of : Verdict → Psl.Verdict
verdict_of (Broken n) = broken n
verdict_of (Settled n) = settled n
verdict_of (Pending n) = pending n

-- Document 01's number and values for each case of an answer.
abbrev pub answer_reply : Result Verdict Refusal → Reply Psl.Verdict
answer_reply (Err r) = refused r.number r.place
answer_reply (Ok verdict) = granted (verdict_of verdict)

-- The cycles read, of a property that goes on.
abbrev pub going_of : Verdict → Option ℕ
going_of (Broken n) = None
going_of (Settled n) = None
going_of (Pending n) = Some n

-- The first signal number that is none: S, as the table's header has it.
abbrev pub signals_of : List ℕ → ℕ
signals_of t = byte_at t 2

-- "a sample sets a bit S or above"
abbrev pub Undeclared : List ℕ → ℕ → Type 0
Undeclared t x = HasFrom x (signals_of t)

-- One sample more of a property that is pending and goes on: its verdict is right for the samples fed and this one, and the words hold what is then kept.
pub record Turns {t : List ℕ} {root booleans sides weaks : ℕ} {v : List ℕ} {held live_a live_b : ℕ} {families : List ℕ} (g : Goes t root booleans sides weaks v held live_a live_b families)
    (x : ℕ) (d : Verdict) (held' live_a' live_b' : ℕ) (families' : List ℕ) : Type 0 where
  pub right : Right (property_at t root) (v ++ x ∷ []) (verdict_of d)
  pub keeps : Represented t weaks (kept_after g x) held' live_a' live_b' families'

-- A step from n cycles read, where one more can be counted: the reply is the new verdict.
pub record Advances (t : List ℕ) (before : Monitor) (n x : ℕ) (reply : Reply Psl.Verdict) (after : Monitor) : Type 0 where
  pub replies : reply ≡ granted (verdict_of after.stand.verdict)
  pub plan_stays : after.plan ≡ before.plan
  pub turns : (v : List ℕ) → n ≡ length v → Right (property_at t before.plan.root) v (pending (length v))
      → (g : GoesOn t v before) → Turns g x after.stand.verdict after.stand.expected.held after.stand.expected.live.a after.stand.expected.live.b after.families

-- The monitor of these parts.
abbrev pub monitor_of : Plan → Stand → List ℕ → Monitor
monitor_of plan stand families = record { plan = plan; stand = stand; families = families }

-- A declared sample, by the verdict that stands: "then a verdict already given is repeated, state unchanged; then 14", which is all that the monitor of a refused opening
-- comes to, since it stands at the count limit; else one cycle more.
abbrev pub DeclaredStep : List ℕ → Monitor → ℕ → Reply Psl.Verdict → Monitor → Verdict → Type 0
DeclaredStep t before x reply after (Broken n) = (reply ≡ granted (broken n)) × (after ≡ before)
DeclaredStep t before x reply after (Settled n) = (reply ≡ granted (settled n)) × (after ≡ before)
DeclaredStep t before x reply after (Pending n) = (count_limit ≤ n → (reply ≡ refused 14 0) × (after ≡ before)) × (n < count_limit → Advances t before n x reply after)

pub record DeclaredIs (t : List ℕ) (before : Monitor) (x : ℕ) (reply : Reply Psl.Verdict) (after : Monitor) : Type 0 where
  pub steps : DeclaredStep t before x reply after before.stand.verdict

-- "A single cycle: 13", also after a verdict; then as a declared sample
pub record StepIs (t : List ℕ) (before : Monitor) (x : ℕ) (reply : Reply Psl.Verdict) (after : Monitor) : Type 0 where
  pub undeclared : Undeclared t x → (reply ≡ refused 13 0) × (after ≡ before)
  pub declared : ¬ Undeclared t x → DeclaredStep t before x reply after before.stand.verdict
