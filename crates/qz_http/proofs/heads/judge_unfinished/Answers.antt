use Rattle.qz_http.specs.Judgements.{too_long}
use Rattle.qz_http.proofs.heads.judge_unfinished.Goals as goal

pub returns-else-bytes-lt-MOST_BYTES : goal.returns-else-bytes-lt-MOST_BYTES
returns-else-bytes-lt-MOST_BYTES c = λ unfinished. too_long c.if-bytes-lt-MOST_BYTES.false unfinished
