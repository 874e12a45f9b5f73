-- What opening does: refusals 1 to 11, then 12, with a monitor that is shut; else a monitor that has read nothing and stands for the property.
use Rattle.std.specs.Prelude.{ℕ, ◌≤◌, ◌<◌, ◌≡◌, List, [], replicate}
use Rattle.table.specs.Reply.{Reply, refused, granted}
use Rattle.table.specs.Check.{table_reply}
use Rattle.table.specs.Roots.{root_at}
use Rattle.table.specs.declared.Counts.{Counts}
use Rattle.engine.specs.declared.plan.Plan.{Plan}
use Rattle.engine.specs.Goes.{Goes}
use Rattle.monitor.specs.declared.Monitor.{Monitor}
use Rattle.monitor.specs.declared.verdict.Verdict.TheVariants.{Pending}

-- 14: the most cycles that are counted, `Monitor::CYCLES`.
abbrev pub count_limit : ℕ
count_limit = 4294967295

-- The families of a monitor, `Monitor::FAMILIES`: a property has no more weak sequences.
abbrev pub family_count : ℕ
family_count = 32

abbrev pub no_plan : Plan
no_plan = record { booleans = 0; sides = 0; weaks = 0; root = 0 }

-- A monitor of this plan that expects nothing, pending after so many cycles.
pub record Blank (plan : Plan) (cycles : ℕ) (m : Monitor) : Type 0 where
  pub plan_is : m.plan ≡ plan
  pub verdict_is : m.stand.verdict ≡ Pending cycles
  pub none_held : m.stand.expected.held ≡ 0
  pub none_live : (m.stand.expected.live.a ≡ 0) × (m.stand.expected.live.b ≡ 0)
  pub families_are : m.families ≡ replicate family_count 0

-- The monitor of a refused opening: it stands at the count limit, so that every step of it is refused, on any table, and leaves it as it is.
abbrev pub Shut : Monitor → Type 0
Shut m = Blank no_plan count_limit m

-- The words of the monitor are what the cycles over the samples v left, for the property of its plan.
abbrev pub GoesOn : List ℕ → List ℕ → Monitor → Type 0
GoesOn t v m =
    Goes t m.plan.root m.plan.booleans m.plan.sides m.plan.weaks v m.stand.expected.held m.stand.expected.live.a m.stand.expected.live.b m.families

-- It is the monitor of the property, and can be fed.
pub record Ready (t : List ℕ) (counts : Counts) (property : ℕ) (m : Monitor) : Type 0 where
  pub root_is : m.plan.root ≡ root_at t counts.nodes property
  pub goes : GoesOn t [] m

-- "Opening a property: 1 to 11, then 12"
pub data OpenIs (t : List ℕ) (property : ℕ) : Reply Counts → Monitor → Type 0 where
  -- 1 to 11
  no_table : {number place : ℕ} {m : Monitor} → table_reply t ≡ refused number place → Shut m → OpenIs t property (refused number place) m
  -- "12: property number not below P"
  no_property : {counts : Counts} {m : Monitor} → table_reply t ≡ granted counts → counts.properties ≤ property → Shut m → OpenIs t property (refused 12 0) m
  -- else it is opened, with the counts of its table
  opened : {counts : Counts} {m : Monitor} → table_reply t ≡ granted counts → property < counts.properties → Blank m.plan 0 m → Ready t counts property m
      → OpenIs t property (granted counts) m
