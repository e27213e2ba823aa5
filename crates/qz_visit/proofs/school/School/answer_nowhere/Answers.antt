use Rattle.std.proofs.Common.{ℕ, length, sym, subst}
use Rattle.qz_visit.specs.Tokens.{IsBeyond}
use Rattle.qz_visit.proofs.Standing.{beyond_step, going_visited, some_part}
use Rattle.qz_visit.proofs.school.School.answer_nowhere.Goals as goal

pub step_nowhere-requires-clause-beyond : goal.step_nowhere-requires-clause-beyond
step_nowhere-requires-clause-beyond g c = beyond_step _ c.args.ask.now.request c.in-Work.job c.in-Work.shard c.in-Work.is c.requires.beyond

pub returns : goal.returns
returns g c =
    let p = c.args.passes.now in
    let own = rw (← c.self.view_is) at c.requires.own in
    let beyond : IsBeyond (length c.self.inside.parts.items) c.args.ask.now.request = rw (← c.self.view_is) at c.requires.beyond in
    going_visited p.records p.parts c.args.moment c.args.ask.now c.args.user.now (some_part _ _ p.records p.parts c.self.invariant.0 own) c.requires.asked c.requires.known c.requires.may
    (subst (λ (n : ℕ). IsBeyond n c.args.ask.now.request) (sym own.count) beyond) c.in_default.not-Work
