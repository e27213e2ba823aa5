use Rattle.std.proofs.Common.{◌≡◌, None, sym, ◌∙◌}
use Rattle.std.proofs.lemmas.Result.{err_from_is_err_and}
use Rattle.qz_terms.specs.Catalog.{worker}
use Rattle.qz_terms.specs.Cause.{forbidden}
use Rattle.qz_solo.proofs.Seeing.{seen_from}
use Rattle.qz_school.proofs.Missing.{jobs_left}
use Rattle.qz_solo.proofs.Settling.{asks_jobs, jobs_served, worker_refused, worker_wants}
use Rattle.qz_solo.proofs.Standing.{told_records}
use Rattle.qz_solo.proofs.solo.Solo.answer_worker.Goals as goal

pub returns-in_err-user : goal.returns-in_err-user
returns-in_err-user g c =
    let p = err_from_is_err_and c.from_residual.result c.from_residual.ensures.1 in
    let l = c.args.self.now in
    rw (p.1, p.2) (worker_wants g.K.Keeper.sound g.K.Keeper.faults l.catalog l.parts c.args.moment c.args.ask.now c.len-length.ensures.solo c.requires.asked)

pub returns-in-Some : goal.returns-in-Some
returns-in-Some g c =
    let l = c.args.self.now in
    let who : c.in_ok-user.user ≡ worker = c.in_ok-user.ensures in
    worker_refused g.K.Keeper.sound g.K.Keeper.faults l.catalog l.parts c.args.moment c.args.ask.now c.in-Some.refusal c.len-length.ensures.solo c.requires.asked c.requires.caller
    (rw who at (sym c.forbidden.ensures ∙ c.in-Some.is))

pub apply-requires : goal.apply-requires
apply-requires g c =
    let who : c.in_ok-user.user ≡ worker = c.in_ok-user.ensures in
    let free : forbidden c.in_ok-user.user c.args.ask.now.request ≡ None = sym c.forbidden.ensures ∙ c.in_default.is in
    let jobs = jobs_left c.args.ask.now.request (rw who at free) c.in_default-request.not-Live c.in_default-request-2.not-Work c.in_default-request-3.not-Settle in
    record { asked = asks_jobs c.self.inside.catalog.held c.in_ok-user.user c.args.ask.now c.args.moment who c.requires.asked c.requires.caller jobs; brief = c.requires.asked.brief; names = c.requires.asked.names }

pub invariant_of-self : goal.invariant_of-self
invariant_of-self g c = told_records _ c.self.inside.catalog c.apply.new.self c.self.inside.shards.items c.args.moment c.in_ok-user.user c.args.ask.now c.apply.result c.self.invariant c.apply.ensures.answer

pub returns : goal.returns
returns g c =
    let cs = c.self.inside.catalog in
    let ss = c.self.inside.shards.items in
    let who : c.in_ok-user.user ≡ worker = c.in_ok-user.ensures in
    let free : forbidden c.in_ok-user.user c.args.ask.now.request ≡ None = sym c.forbidden.ensures ∙ c.in_default.is in
    let jobs = jobs_left c.args.ask.now.request (rw who at free) c.in_default-request.not-Live c.in_default-request-2.not-Work c.in_default-request-3.not-Settle in
    seen_from g.K.Keeper.sound g.K.Keeper.faults c.args.self.now (record { catalog = cs; parts = ss }) _ c.args.moment c.args.ask.now c.apply.result c.self.view_is
    (jobs_served g.K.Keeper.sound g.K.Keeper.faults cs c.apply.new.self ss c.args.moment c.args.ask.now c.apply.result c.self.invariant c.requires.asked c.requires.caller jobs (record { call = rw who at c.apply.ensures.answer; goes_on = c.apply.ensures.goes_on }))
