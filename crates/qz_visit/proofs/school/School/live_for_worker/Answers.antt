use Rattle.std.proofs.Common.{◌<◌, ◌≤◌, ℕ, length, sym, ap, ◌∙◌, subst, arith}
use Rattle.std.specs.Prelude.{slice_set}
use Rattle.std.proofs.lemmas.Result.{err_from_is_err_and}
use Rattle.qz_terms.specs.declared.request.Request.TheVariants as request
use Rattle.qz_terms.specs.Legal.{IsLegal}
use Rattle.qz_visit.specs.Visits.{Visited, at_part}
use Rattle.qz_visit.proofs.Passing.{put_none, seats}
use Rattle.qz_visit.proofs.Standing.{some_part, there_at}
use Rattle.qz_visit.proofs.Working.{live_visited, nowhere_visited}
use Rattle.qz_visit.proofs.school.School.live_for_worker.Goals as goal

pub returns-in_err-index : goal.returns-in_err-index
returns-in_err-index g c =
    let q = err_from_is_err_and c.from_residual.result c.from_residual.ensures.1 in
    let p = c.args.passes.now in
    let own = rw (← c.self.view_is) at c.requires.own in
    let missing = c.in_err-index.ensures.missing in
    let long = c.len.ensures in
    let beyond = missing.0 in
    let past : length c.self.inside.parts.items ≤ c.args.shard = omega (arith, long, beyond) in
    rw (q.1, q.2) (nowhere_visited p.records p.parts c.args.moment c.args.ask.now c.args.shard c.args.attempt c.in_err-index.field-0.0 (record { some = some_part _ _ p.records p.parts c.self.invariant.0 own; may = c.requires.asked; caller_is = c.requires.caller; request_is = c.requires.live })
    (subst (λ (n : ℕ). n ≤ c.args.shard) (sym own.count) past, missing.1))

pub answer_live-reply-requires : goal.answer_live-reply-requires
answer_live-reply-requires g c =
    let ls = c.self.inside.parts.items in
    let ps = c.passes.inside.parts.items in
    let k = c.in_ok-index.index in
    let own = rw (← c.passes.view_is, ← c.self.view_is) at c.requires.own in
    let there = c.in_ok-index.ensures.there in
    let at = there.0 in
    let within = there.1 in
    let long = c.len.ensures in
    let inside : k < length ls = omega (arith, at, within, long) in
    record { own = own.parts k c.index.result.now c.index_mut-pass.result.now (there_at ls k c.index.result.now inside c.index.ensures) (there_at ps k c.index_mut-pass.result.now (subst (λ (n : ℕ). k < n) (sym own.count) inside) c.index_mut-pass.ensures.value) }

pub returns : goal.returns
returns g c =
    let ls = c.self.inside.parts.items in
    let ps = c.passes.inside.parts.items in
    let k = c.in_ok-index.index in
    let own = rw (← c.passes.view_is, ← c.self.view_is) at c.requires.own in
    let there = c.in_ok-index.ensures.there in
    let at = there.0 in
    let within = there.1 in
    let long = c.len.ensures in
    let inside : k < length ls = omega (arith, at, within, long) in
    let placed = c.self.invariant.0.placed k c.index.result.now (there_at ls k c.index.result.now inside c.index.ensures) in
    let p = c.passes.inside in
    let after = slice_set ps k c.answer_live-reply.new.pass in
    let visited = live_visited (IsLegal placed.place.index placed.place.count) p.records ps k c.index_mut-pass.result.now c.answer_live-reply.new.pass c.args.moment c.args.ask.now c.args.attempt c.answer_live-reply.result
    (there_at ps k c.index_mut-pass.result.now (subst (λ (n : ℕ). k < n) (sym own.count) inside) c.index_mut-pass.ensures.value)
    (record { some = some_part _ _ p.records ps c.self.invariant.0 own; may = c.requires.asked; caller_is = c.requires.caller; request_is = c.requires.live ∙ ap (λ (n : ℕ). request.Live n c.args.attempt) (sym at) }) (c.answer_live-reply.ensures.at placed.place placed.keyed) in
    rw (c.without.ensures, ← c.passes.view_is) (subst (λ (n : ℕ). Visited (seats p.records ps) (seats p.records after) c.args.moment c.args.ask.now (at_part n (put_none c.answer_live-reply.result))) at visited)
