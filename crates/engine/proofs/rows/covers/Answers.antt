use Rattle.std.proofs.Common.{rules}
use Rattle.engine.proofs.RowLaws.{covers_is}
use Rattle.engine.proofs.rows.covers.Goals as goal

pub returns : goal.returns
returns c = covers_is _ _ _ (search rules) (search rules) c.held.ensures
