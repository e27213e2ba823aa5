use Rattle.std.proofs.Common.{subst}
use Rattle.qz_catalog.specs.Keeping.{IsTold}
use Rattle.qz_catalog_turns.specs.Owning.{TurnReplies}
use Rattle.qz_terms.specs.declared.people.User.{User}
use Rattle.qz_terms.specs.declared.reply.Reply.TheVariants as reply
use Rattle.qz_terms.specs.Legal.{IsLegalCatalog}
use Rattle.qz_visit.proofs.Standing.{some_part}
use Rattle.qz_visit.proofs.Working.{jobs_visited}
use Rattle.qz_visit.proofs.school.School.jobs_for_worker.Goals as goal

pub returns : goal.returns
returns g c =
    let ps = c.passes.inside.parts.items in
    let own = rw (← c.passes.view_is, ← c.self.view_is) at c.requires.own in
    let t = subst (λ (u : User). TurnReplies IsLegalCatalog reply.Refused (IsTold c.args.moment u c.args.ask.now) c.passes.inside.records c.answer-told.new.pass c.answer-told.result.reply c.answer-told.result.own) c.requires.user c.answer-told.ensures in
    rw (c.by_catalog.ensures, ← c.passes.view_is) (jobs_visited c.passes.inside.records c.answer-told.new.pass ps c.args.moment c.args.ask.now c.answer-told.result
    (record { some = some_part _ _ c.passes.inside.records ps c.self.invariant.0 own; may = c.requires.asked; caller_is = c.requires.caller; request_is = c.requires.jobs }) t)
