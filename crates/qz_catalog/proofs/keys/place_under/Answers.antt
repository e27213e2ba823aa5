use Rattle.std.proofs.Common.{◌≡◌, ℕ, List, Option, take, ap, ◌∙◌}
use Rattle.std.specs.Option.{option_or}
use Rattle.std.specs.Prelude.{position}
use Rattle.qz_terms.specs.declared.record.Record.{Record}
use Rattle.qz_terms.specs.Cause.{has_key}
use Rattle.qz_roster.specs.People.{is_asked_with}
use Rattle.qz_catalog.proofs.KeyLemmas.{key-place}
use Rattle.qz_catalog.proofs.keys.place_under.Goals as goal

pub returns : goal.returns
returns c =
    let list = c.args.book.now.records.items in
    let caller = c.args.caller in
    let key = c.args.key.now in
    let front : c.place_of.result ≡ position (has_key caller key) (take 1 list) = c.place_of.ensures ∙ ap (λ (l : List Record). position (has_key caller key) (take 1 l)) c.deref.ensures.value in
    let later : c.place_of-2.result ≡ position (is_asked_with caller key) list = c.place_of-2.ensures list c.requires.roster.people in
    c.or.ensures
    ∙ ap (λ (o : Option ℕ). option_or o c.place_of-2.result) front
    ∙ ap (option_or (position (has_key caller key) (take 1 list))) later
    ∙ key-place caller key list c.requires.held.legal c.requires.held.some
