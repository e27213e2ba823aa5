use Rattle.qz_serial.proofs.Tokens.{tokens_law}
use Rattle.qz_serial.proofs.laws.tokens_ask.Goals as goal

pub returns : goal.returns
returns c p = tokens_law _
