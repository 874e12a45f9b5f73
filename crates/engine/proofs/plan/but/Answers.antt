use Rattle.engine.proofs.ReachedLaws.{but_is}
use Rattle.engine.proofs.plan.but.Goals as goal

pub returns : goal.returns
returns c = but_is c.args.rows c.args.others c.ranges.rows.fits c.ranges.others.fits
