use Rattle.std.proofs.Common.{ℕ, add-zero, ap, get_or, ◌∙◌}
use Rattle.table.specs.Rows.{row_at, edge_row}
use Rattle.engine.proofs.row.HeldRow.kind.Goals as goal

pub returns : goal.returns
unfolding row_at edge_row
returns c = c.byte.ensures ∙ ap (λ (i : ℕ). get_or c.args.self.table.now i 0) (add-zero _)
