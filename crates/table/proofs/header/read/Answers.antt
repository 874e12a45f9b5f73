use Rattle.std.proofs.Common.{sym, ◌∙◌}
use Rattle.table.proofs.Facts.Accepted.{replies_one}
use Rattle.table.proofs.Laws.Headers.{counted_nodes}
use Rattle.table.proofs.header.read.Goals as goal

pub returns-then-layout_fits-clause-nodes : goal.returns-then-layout_fits-clause-nodes
returns-then-layout_fits-clause-nodes c = counted_nodes _ _ _ _ (sym (replies_one c.new.result _ c.new.ensures) ∙ c.in_ok-counts.was)
