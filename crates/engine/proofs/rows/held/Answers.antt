use Rattle.std.proofs.Common.{rules}
use Rattle.engine.proofs.RowLaws.{held_some, held_all}
use Rattle.engine.proofs.rows.held.Goals as goal

pub returns-then-bytes-lt272 : goal.returns-then-bytes-lt272
returns-then-bytes-lt272 c = held_some _ (search rules) (search rules)

pub returns-else-bytes-lt272 : goal.returns-else-bytes-lt272
returns-else-bytes-lt272 c = held_all _ (search rules)
