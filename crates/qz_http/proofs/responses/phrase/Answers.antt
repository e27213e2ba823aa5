use Rattle.std.proofs.Common.{refl}
use Rattle.qz_http.proofs.ResponseLemmas.{phrase_read}
use Rattle.qz_http.proofs.responses.phrase.Goals as goal

pub returns-in-Ok : goal.returns-in-Ok
returns-in-Ok c =
    let code = c.in-Ok.ensures in
    phrase_read c.args.status c.in-Ok.code c.canonical_reason.result c.unwrap_or.result _ code.0.0 code.0.1 code.1 c.canonical_reason.ensures.value c.unwrap_or.ensures refl
