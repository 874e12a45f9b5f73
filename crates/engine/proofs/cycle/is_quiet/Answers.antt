use Rattle.engine.proofs.CycleLaws.{quiet_tells}
use Rattle.engine.proofs.cycle.is_quiet.Goals as goal

pub returns : goal.returns
returns c = let none = c.default.ensures in rw (c.eq.ensures, none.0, none.1.0, none.1.1) (quiet_tells _ _ _ _)
