use Rattle.words.proofs.Answers.{without_bit_is}
use Rattle.words.proofs.without_bit.Goals as goal

pub returns : goal.returns
returns c = without_bit_is _ _ c.ranges.word.fits
