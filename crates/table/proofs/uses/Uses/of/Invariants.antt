use Rattle.std.proofs.Common.{◌+◌, replicate}
use Rattle.table.specs.Rows.{row_at}
use Rattle.table.specs.First.{sum_to}
use Rattle.table.specs.Uses.{uses_in_row, root_use}
use Rattle.table.specs.Passes.{Counted}
use Rattle.table.proofs.uses.Uses.of.Given as goal

abbrev pub invariant-loop-node : goal.invariant-loop-node
invariant-loop-node l = Counted (replicate 64 0) l.uses.of_node (λ node. sum_to (λ k. uses_in_row (row_at l.table k) node) l.node)

abbrev pub invariant-loop-property : goal.invariant-loop-property
invariant-loop-property l =
    Counted (replicate 64 0) l.uses.of_node
    (λ node. sum_to (λ k. uses_in_row (row_at l.table k) node) l.counts.nodes + sum_to (root_use l.table l.counts.nodes node) l.property)
