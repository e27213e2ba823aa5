use Rattle.std.proofs.Common.{◌≡◌, ◌++◌, ◌∷◌, [], ap, sym, ◌∙◌}
use Rattle.std.specs.Prelude.{option_and_then, option_copied}
use Rattle.qz_grading.specs.Grading.{at_place}
use Rattle.qz_roster.specs.Texts.{value_at}
use Rattle.qz_roster.proofs.PeopleLemmas.{key-empty}
use Rattle.qz_roster.proofs.people.People.keep_user.Goals as goal

pub unwrap-requires : goal.unwrap-requires
unwrap-requires c =
    let room = c.requires.room c.in-Some.token.now (sym c.made_token.ensures ∙ ap option_copied c.in-Some.is) in
    c.push.ensures.succeeds room.keys

pub returns-in-Some-clause-keys : goal.returns-in-Some-clause-keys
returns-in-Some-clause-keys c = λ n k.
    let items : c.push.new.self.items ≡ c.args.self.now.keys.items ++ c.new.result ∷ [] = rw c.unwrap.ensures at c.push.ensures.items in
    ap (λ ms. option_and_then (λ m. value_at m k) (at_place ms n)) items ∙ key-empty c.args.self.now.keys.items c.new.result n k c.new.ensures.empty
