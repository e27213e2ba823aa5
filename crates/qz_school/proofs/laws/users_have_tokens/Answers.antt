use Rattle.qz_school.proofs.Tokens.{tokens_law}
use Rattle.qz_school.proofs.laws.users_have_tokens.Goals as goal

pub returns : goal.returns
returns c = tokens_law
