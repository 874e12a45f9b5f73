use Rattle.std.proofs.Common.{arith, ◌+◌, ◌∙◌}
use Rattle.table.specs.Passes.{row_cells}
use Rattle.table.proofs.CellLaws.{falls_before, row_so, kept_so}
use Rattle.table.proofs.cells.CellCounts.of.Goals as goal

pub loop-node-preserved : goal.loop-node-preserved
loop-node-preserved c = let falls = falls_before (c.loop-node.node + 1) (omega arith) c.requires.1 in
    rw c.from.ensures (kept_so _ _ _ falls c.loop-node.invariant _ (omega arith)
    (c.row.ensures ∙ (λ i. row_cells c.loop-node.cells.of_node (c.row_at.ensures i)) ∙ row_so _ _ _ falls c.loop-node.invariant))
