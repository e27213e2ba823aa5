use Rattle.std.proofs.Common.{◌≡◌, ℕ, length, sym, subst, arith}
use Rattle.qz_visit.specs.Tokens.{IsBeyond}
use Rattle.qz_visit.proofs.Asking.{forbidden_visited}
use Rattle.qz_visit.proofs.Standing.{some_part}
use Rattle.qz_visit.proofs.school.School.answer_user.Goals as goal

pub returns-in-Some : goal.returns-in-Some
returns-in-Some g c =
    let p = c.args.passes.now in
    let own = rw (← c.self.view_is) at c.requires.own in
    forbidden_visited p.records p.parts c.args.moment c.args.ask.now c.args.user.now c.in-Some.refusal (some_part _ _ p.records p.parts c.self.invariant.0 own) c.requires.asked c.requires.known (sym c.if-asks_catalog.ensures) (sym c.in-Some.ensures)

pub answer_nowhere-requires : goal.answer_nowhere-requires
answer_nowhere-requires g c =
    let told = c.len-count.ensures in
    let long : c.len-count.result ≡ length c.self.inside.parts.items = omega (arith, told) in
    let beyond : IsBeyond (length c.self.inside.parts.items) c.args.ask.now.request = subst (λ (n : ℕ). IsBeyond n c.args.ask.now.request) long c.in-None.ensures.beyond in
    record {
      own = c.requires.own;
      asked = c.requires.asked;
      known = c.requires.known;
      may = sym c.in_default.ensures;
      beyond = rw (← c.self.view_is) beyond;
    }
