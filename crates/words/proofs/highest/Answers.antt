use Rattle.std.proofs.Common.{arith}
use Rattle.words.specs.Ends.{highest_is}
use Rattle.words.proofs.highest.Goals as goal

pub returns-else-word-eq0 : goal.returns-else-word-eq0
returns-else-word-eq0 c = highest_is _ (omega arith) c.ranges.word.fits
