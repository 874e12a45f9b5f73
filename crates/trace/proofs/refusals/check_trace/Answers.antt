use Rattle.std.proofs.Common.{ap, ◌∙◌}
use Rattle.std.specs.Prelude.{Err}
use Rattle.trace.specs.Refusals.{trace_reply}
use Rattle.trace.proofs.Scan.{answer_right, answer_wrong}
use Rattle.trace.proofs.refusals.check_trace.Goals as goal

pub returns-then-not-is_right : goal.returns-then-not-is_right
returns-then-not-is_right c = ap trace_reply (ap Err c.at.ensures ∙ answer_wrong _ _ _ _ c.new-header.ensures c.is_right.ensures c.if-not-is_right.true)

pub returns : goal.returns
returns c = ap trace_reply (answer_right _ _ _ _ c.new-header.ensures c.is_right.ensures _ c.if-not-is_right.false c.declared.ensures)
