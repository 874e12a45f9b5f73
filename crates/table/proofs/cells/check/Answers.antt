use Rattle.std.proofs.Common.{arith, rules, ◌≡◌, ◌+◌, ◌∙◌}
use Rattle.table.specs.Causes.{rule_number}
use Rattle.table.specs.Cells.{cell_rule}
use Rattle.table.specs.Passes.{weak_rule}
use Rattle.table.specs.Rows.{row_at}
use Rattle.table.proofs.CellLaws.{falls_before, cells_before, weak_so}
use Rattle.table.proofs.cells.check.Goals as goal

pub returns : goal.returns
returns c = c.first.ensures (cell_rule c.args.table.now) (λ i l answer post.
    (let h : rule_number answer ≡ weak_rule c.of-cells.result.of_node (row_at c.args.table.now i) = search rules in
    h ∙ weak_so _ _ _ (falls_before (i + 1) (omega arith) c.requires.1) (cells_before i (omega arith) c.of-cells.ensures)))
