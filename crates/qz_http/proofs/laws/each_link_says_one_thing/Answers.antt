use Rattle.qz_http.specs.Links.{fed, new_link}
use Rattle.qz_http.specs.Talk.{ended_link}
use Rattle.qz_http.proofs.UniqueLemmas.{one_talk}
use Rattle.qz_http.proofs.laws.each_link_says_one_thing.Goals as goal

pub returns : goal.returns
returns c = λ bytes items others why other x y. one_talk (ended_link (fed new_link bytes)) items others why other x y
