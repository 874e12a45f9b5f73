-- JUDGING a trace file: "1 to 11, 12, 15, 13 (lowest cycle), and only then is the first cycle judged".
use Rattle.std.specs.Prelude.{ℕ, ◌≤◌, ◌<◌, List, ◌≡◌}
use Rattle.psl.specs.Verdicts.{Verdict, Right}
use Rattle.table.specs.Reply.{Reply, refused, granted}
use Rattle.table.specs.Trees.{property_of}
use Rattle.table.specs.Check.{table_reply}
use Rattle.table.specs.declared.Counts.{Counts}
use Rattle.trace.specs.Trace.{samples_of}
use Rattle.trace.specs.Refusals.{file_reply}

-- The reply to property number `property` of the table t on the trace file.
pub data Judged (t file : List ℕ) (property : ℕ) : Reply Verdict → Type 0 where
  -- "1 to 11"
  no_table : {number place : ℕ} → table_reply t ≡ refused number place → Judged t file property (refused number place)
  -- "12: property number not below P"
  no_property : {counts : Counts} → table_reply t ≡ granted counts → counts.properties ≤ property → Judged t file property (refused 12 0)
  -- "15, 13 (lowest cycle)"
  no_trace : {counts : Counts} {number place : ℕ} → table_reply t ≡ granted counts → property < counts.properties
      → file_reply counts.signals file ≡ refused number place
      → Judged t file property (refused number place)
  -- else the right verdict of the property's tree on the samples
  given : {counts : Counts} {cycles : ℕ} {d : Verdict} → table_reply t ≡ granted counts → property < counts.properties
      → file_reply counts.signals file ≡ granted cycles
      → Right (property_of t counts.nodes property) (samples_of file) d → Judged t file property (granted d)
