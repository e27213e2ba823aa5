use Rattle.std.proofs.Common.{◌≡◌, ◌<◌, ℕ, None, length, sym, subst, arith}
use Rattle.qz_terms.specs.Cause.{missing_shard}
use Rattle.qz_terms.specs.SchoolAnswer.{part_of}
use Rattle.qz_visit.proofs.Standing.{comes_visited, here_at, some_part, there_at, tied_at}
use Rattle.qz_visit.proofs.school.School.answer_part.Goals as goal

pub answer_at-told-requires-clause-tied : goal.answer_at-told-requires-clause-tied
answer_at-told-requires-clause-tied g c =
    let ls = c.self.inside.parts.items in
    let ps = c.passes.inside.parts.items in
    let k = c.args.index in
    let own = rw (← c.passes.view_is, ← c.self.view_is) at c.requires.own in
    let inside : k < length ls = rw (← c.self.view_is) at c.requires.inside in
    let within : k < length ps = subst (λ (n : ℕ). k < n) (sym own.count) inside in
    tied_at c.self.inside.records ls c.passes.inside.records ps k c.index.result.now c.index_mut.result.now c.self.invariant.0 own (there_at ls k c.index.result.now inside c.index.ensures) (there_at ps k c.index_mut.result.now within c.index_mut.ensures.value)

pub answer_at-told-requires-clause-here : goal.answer_at-told-requires-clause-here
answer_at-told-requires-clause-here g c =
    let ls = c.self.inside.parts.items in
    let k = c.args.index in
    let inside : k < length ls = rw (← c.self.view_is) at c.requires.inside in
    here_at c.self.inside.records (length ls) k c.index.result.now c.args.user.now c.args.ask.now.request (c.self.invariant.0.placed k c.index.result.now (there_at ls k c.index.result.now inside c.index.ensures)) (rw (← c.self.view_is) at c.requires.part)

pub by_shard-requires : goal.by_shard-requires
by_shard-requires g c =
    let inside : c.args.index < length c.self.inside.parts.items = rw (← c.self.view_is) at c.requires.inside in
    let few = c.self.invariant.0.few in
    omega (arith, inside, few)

pub returns : goal.returns
returns g c =
    let ls = c.self.inside.parts.items in
    let ps = c.passes.inside.parts.items in
    let k = c.args.index in
    let user = c.args.user.now in
    let x = c.args.ask.now.request in
    let own = rw (← c.passes.view_is, ← c.self.view_is) at c.requires.own in
    let inside : k < length ls = rw (← c.self.view_is) at c.requires.inside in
    let within : k < length ps = subst (λ (n : ℕ). k < n) (sym own.count) inside in
    let part : part_of (length ls) user x ≡ k = rw (← c.self.view_is) at c.requires.part in
    let missing : missing_shard (length ls) x ≡ None = rw (← c.self.view_is) at c.requires.there in
    rw (c.by_shard.ensures, ← c.passes.view_is) (comes_visited c.passes.inside.records c.answer_at-told.new.seen ps k c.index_mut.result.now c.answer_at-told.new.pass c.args.moment c.args.ask.now user c.answer_at-told.result (some_part _ _ c.passes.inside.records ps c.self.invariant.0 own)
    (there_at ps k c.index_mut.result.now within c.index_mut.ensures.value) c.requires.asked (rw (← c.passes.view_is) at c.requires.known)
    (record { goes = c.requires.goes; part = subst (λ (n : ℕ). part_of n user x ≡ k) (sym own.count) part; there = subst (λ (n : ℕ). missing_shard n x ≡ None) (sym own.count) missing }) c.answer_at-told.ensures)
