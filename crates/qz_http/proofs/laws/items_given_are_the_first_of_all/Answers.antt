use Rattle.std.proofs.Common.{refl}
use Rattle.qz_http.specs.Links.{new_link}
use Rattle.qz_http.proofs.TalkLemmas.{served}
use Rattle.qz_http.proofs.laws.items_given_are_the_first_of_all.Goals as goal

pub returns : goal.returns
returns c = λ after bytes more items rest why so later. served new_link after bytes items so refl more rest why later
