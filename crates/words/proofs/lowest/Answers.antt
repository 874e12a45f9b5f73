use Rattle.words.specs.Ends.{lowest_is}
use Rattle.words.proofs.lowest.Goals as goal

pub returns : goal.returns
returns c = lowest_is _ c.ranges.word.fits
