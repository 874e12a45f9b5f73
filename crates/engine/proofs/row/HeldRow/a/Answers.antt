use Rattle.table.specs.Rows.{row_at, edge_row}
use Rattle.engine.proofs.row.HeldRow.a.Goals as goal

pub returns : goal.returns
unfolding row_at edge_row
returns c = c.byte.ensures
