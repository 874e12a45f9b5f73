use Rattle.table.specs.Passes.{CellsSo}
use Rattle.table.proofs.cells.CellCounts.of.Given as goal

abbrev pub invariant-loop-node : goal.invariant-loop-node
invariant-loop-node l = CellsSo l.table l.node l.cells.of_node
