use Rattle.qz_http.proofs.PieceLemmas.{gives-append}
use Rattle.qz_http.proofs.laws.later_bytes_change_nothing_given.Goals as goal

pub returns : goal.returns
returns c = gives-append
