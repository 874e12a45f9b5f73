use Rattle.words.proofs.Answers.{has_from_is, has_from_none}
use Rattle.words.proofs.has_from.Goals as goal

pub returns-then-index-lt64 : goal.returns-then-index-lt64
returns-then-index-lt64 c = has_from_is _ _

pub returns-else-index-lt64 : goal.returns-else-index-lt64
returns-else-index-lt64 c = has_from_none _ _ c.ranges.word.fits c.if-index-lt64.false
