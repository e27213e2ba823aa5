use Rattle.std.proofs.Common.{sym, ap, ◌∙◌, arith}
use Rattle.std.specs.Prelude.{option_map}
use Rattle.qz_roster.specs.declared.people.Owner.{Owner}
use Rattle.qz_roster.proofs.PeopleLemmas.{place-inside}
use Rattle.qz_catalog.proofs.Users.{token-nowhere, token-there}
use Rattle.qz_catalog.proofs.people.token_place.Goals as goal

pub returns-in_err-owner : goal.returns-in_err-owner
returns-in_err-owner c =
    c.from_residual.ensures ∙ sym (token-nowhere c.args.book.now.records.items c.args.token.now
    (sym (c.requires.roster.people.places c.args.token.now) ∙ ap (option_map (λ (o : Owner). o.at)) (sym c.owner.ensures ∙ c.in_err-owner.was)))

pub overflow_add-result : goal.overflow_add-result
overflow_add-result c =
    let inside = place-inside c.args.book.now.records.items c.args.token.now c.in_ok-owner.owner.at (sym (ap (option_map (λ (o : Owner). o.at)) (sym c.owner.ensures ∙ c.in_ok-owner.was)) ∙ c.requires.roster.people.places c.args.token.now) in
    let few = c.requires.held.few in
    omega arith

pub returns : goal.returns
returns c =
    sym (token-there c.args.book.now.records.items c.args.token.now c.in_ok-owner.owner.at
    (sym (c.requires.roster.people.places c.args.token.now) ∙ ap (option_map (λ (o : Owner). o.at)) (sym c.owner.ensures ∙ c.in_ok-owner.was)))
