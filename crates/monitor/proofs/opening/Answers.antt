use Rattle.monitor.proofs.Readies.{ready, root_low}
use Rattle.monitor.proofs.opening.Goals as goal

pub overflow_cast-root : goal.overflow_cast-root
overflow_cast-root c = root_low c.requires.0 c.requires.1 c.root_at-root.ensures

pub returns-clause-ready : goal.returns-clause-ready
returns-clause-ready c = ready _ _ _ _ c.new.ensures c.planned.ensures.root_value c.planned.ensures.planned _ c.requires.0 _ c.requires.1 c.root_at-root.ensures
