use Rattle.words.proofs.Answers.{without_lowest_is}
use Rattle.words.proofs.without_lowest.Goals as goal

pub returns : goal.returns
returns c = without_lowest_is _ c.ranges.word.fits
