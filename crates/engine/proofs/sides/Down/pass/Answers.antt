use Rattle.engine.proofs.SideDownLaws.{down_safe_turn, down_turn, down_end}
use Rattle.engine.proofs.sides.Down.pass.Goals as goal

pub loop-n-preserved : goal.loop-n-preserved
loop-n-preserved c = let inv = c.loop-n.invariant in let step = c.in-Some.ensures.steps in (
  down_safe_turn inv.0 step.1 c.visit-live.ensures,
  λ row rows before truth x enter all users entering found.
      down_turn _ row rows before _ _ truth _ _ x _ enter all users entering found inv.0 step.0 step.1 c.visit-live.ensures (inv.1 row rows before truth x enter all users entering found),
)

pub returns-clause-next : goal.returns-clause-next
returns-clause-next c = λ row rows before truth x enter all users entering found.
    down_end _ row rows before _ _ truth _ _ x _ enter (rw c.in-None.ensures.steps.0 at (c.loop-n.invariant.1 row rows before truth x enter all users entering found))
