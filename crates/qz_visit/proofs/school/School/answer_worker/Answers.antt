use Rattle.std.proofs.Common.{◌≡◌, None, refl, sym, ◌∙◌}
use Rattle.std.proofs.lemmas.Result.{err_from_is_err_and}
use Rattle.qz_terms.specs.Catalog.{worker}
use Rattle.qz_terms.specs.Cause.{forbidden}
use Rattle.qz_school.proofs.Missing.{jobs_left}
use Rattle.qz_visit.proofs.Standing.{some_part}
use Rattle.qz_visit.proofs.Working.{refused_visited, wants_visited}
use Rattle.qz_visit.proofs.school.School.answer_worker.Goals as goal

pub returns-in_err-user : goal.returns-in_err-user
returns-in_err-user g c =
    let q = err_from_is_err_and c.from_residual.result c.from_residual.ensures.1 in
    let p = c.args.passes.now in
    let own = rw (← c.self.view_is) at c.requires.own in
    rw (q.1, q.2) (wants_visited p.records p.parts c.args.moment c.args.ask.now (some_part _ _ p.records p.parts c.self.invariant.0 own) c.requires.asked)

pub returns-in-Some : goal.returns-in-Some
returns-in-Some g c =
    let p = c.args.passes.now in
    let own = rw (← c.self.view_is) at c.requires.own in
    let who : c.in_ok-user.user ≡ worker = c.in_ok-user.ensures in
    refused_visited p.records p.parts c.args.moment c.args.ask.now c.in-Some.refusal (record { some = some_part _ _ p.records p.parts c.self.invariant.0 own; may = c.requires.asked; caller_is = c.requires.caller; request_is = refl })
    (rw who at (sym c.forbidden.ensures ∙ c.in-Some.is))

pub jobs_for_worker-requires-clause-jobs : goal.jobs_for_worker-requires-clause-jobs
jobs_for_worker-requires-clause-jobs g c =
    let who : c.in_ok-user.user ≡ worker = c.in_ok-user.ensures in
    let free : forbidden c.in_ok-user.user c.args.ask.now.request ≡ None = sym c.forbidden.ensures ∙ c.in_default.is in
    jobs_left c.args.ask.now.request (rw who at free) c.in_default-request.not-Live c.in_default-request-2.not-Work c.in_default-request-3.not-Settle
