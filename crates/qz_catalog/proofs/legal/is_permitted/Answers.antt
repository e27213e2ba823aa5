use Rattle.std.proofs.Common.{sym, ap, ◌∙◌}
use Rattle.std.specs.Prelude.{is_none}
use Rattle.qz_roster.proofs.PeopleLemmas.{role-at}
use Rattle.qz_catalog.proofs.Allowing.{none-told, not-there, permitted}
use Rattle.qz_catalog.proofs.legal.is_permitted.Goals as goal

pub returns-in_default : goal.returns-in_default
returns-in_default c =
    let list = c.args.book.now.records.items in
    not-there list c.args.number c.args.request.now (sym (role-at list c.args.book.now.roster.people c.args.number c.requires.roster.people) ∙ sym c.role.ensures ∙ c.in_default.is)

pub returns : goal.returns
returns c =
    let list = c.args.book.now.records.items in
    none-told c.forbidden.result c.is_none.result c.is_none.ensures ∙ ap is_none c.forbidden.ensures ∙ permitted list c.args.number c.in-Some.role c.args.request.now c.in_ok-user.user c.in_ok-user.ensures.0 c.in_ok-user.ensures.1 (sym c.in-Some.is ∙ c.role.ensures ∙ role-at list c.args.book.now.roster.people c.args.number c.requires.roster.people)
