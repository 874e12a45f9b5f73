use Rattle.words.proofs.Answers.{with_bit_is}
use Rattle.words.proofs.with_bit.Goals as goal

pub returns : goal.returns
returns c = with_bit_is _ _ _
