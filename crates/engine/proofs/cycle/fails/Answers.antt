use Rattle.std.proofs.Common.{rules}
use Rattle.engine.proofs.CycleLaws.{fails_tells}
use Rattle.engine.proofs.cycle.fails.Goals as goal

pub returns : goal.returns
returns c = fails_tells _ _ _ (search rules) (search rules) (search rules) c.has_from.ensures
