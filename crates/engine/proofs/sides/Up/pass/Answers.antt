use Rattle.engine.proofs.SideUpLaws.{up_safe_turn, up_turn, up_end}
use Rattle.engine.proofs.sides.Up.pass.Goals as goal

pub loop-n-preserved : goal.loop-n-preserved
loop-n-preserved c = let inv = c.loop-n.invariant in let step = c.in-Some.ensures.steps in (
  up_safe_turn inv.0 step.1 c.visit-hits.ensures,
  λ row before x sound all words lit. up_turn _ row before _ _ _ x sound all words lit inv.0 step.0 step.1 c.visit-hits.ensures (inv.1 row before x sound all words lit),
)

pub returns-clause-found : goal.returns-clause-found
returns-clause-found c = λ row before x sound all words lit. up_end _ row before _ _ _ x (rw c.in-None.ensures.steps.0 at (c.loop-n.invariant.1 row before x sound all words lit))
