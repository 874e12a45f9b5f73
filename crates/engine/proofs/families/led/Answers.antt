use Rattle.engine.proofs.FamilyLaws.{led_is}
use Rattle.engine.proofs.families.led.Goals as goal

pub returns : goal.returns
returns c = led_is _ _ _ c.requires.1 c.spread.ensures
