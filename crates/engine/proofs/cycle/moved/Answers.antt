use Rattle.std.proofs.Common.{refl}
use Rattle.table.proofs.Laws.Zeros.{zeros}
use Rattle.engine.specs.CycleWeaks.{no_weaks}
use Rattle.engine.proofs.CycleLaws.{weaks_left}
use Rattle.engine.proofs.cycle.moved.Goals as goal

pub returns-then-plan-eq0 : goal.returns-then-plan-eq0
returns-then-plan-eq0 c = λ row rows x live enter told. no_weaks c.if-plan-eq0.true

pub returns : goal.returns
returns c = λ row rows x live enter told. weaks_left c.downward.new.self told c.upward.ensures (record { leads_none = zeros 256; met_none = refl }) c.downward.ensures c.families.ensures
