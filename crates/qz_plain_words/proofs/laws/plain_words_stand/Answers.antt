use Rattle.qz_plain_words.proofs.Replying.{plain_law}
use Rattle.qz_plain_words.proofs.laws.plain_words_stand.Goals as goal

pub returns : goal.returns
returns c = plain_law
