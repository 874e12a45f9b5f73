use Rattle.std.proofs.Common.{rules}
use Rattle.words.proofs.Answers.{without_highest_is}
use Rattle.words.proofs.without_highest.Goals as goal

pub returns : goal.returns
returns c = without_highest_is _ _ _ c.ranges.word.fits (search rules) c.highest.ensures c.without_bit.ensures
