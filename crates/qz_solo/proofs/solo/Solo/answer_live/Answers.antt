use Rattle.std.proofs.Common.{◌≡◌, ◌<◌, ◌≤◌, length, arith}
use Rattle.std.proofs.lemmas.Result.{err_from_is_err_and}
use Rattle.qz_terms.specs.Answer.{live_answer}
use Rattle.qz_solo.proofs.Seeing.{known_seen, seen_from, seen_still}
use Rattle.qz_solo.proofs.Serving.{among_served, part_served}
use Rattle.qz_solo.proofs.Standing.{looked_part, part_there}
use Rattle.qz_school.proofs.Missing.{live_nowhere}
use Rattle.qz_solo.proofs.Steps.{live_goes, live_means, live_other}
use Rattle.qz_solo.proofs.solo.Solo.answer_live.Goals as goal

pub returns-in_err-index : goal.returns-in_err-index
returns-in_err-index g c =
    let p = err_from_is_err_and c.from_residual.result c.from_residual.ensures.1 in
    let cs = c.self.inside.catalog in
    let ss = c.self.inside.shards.items in
    let ask = c.args.ask.now in
    let user = c.args.user.now in
    let known = known_seen c.args.self.now (record { catalog = cs; parts = ss }) ask user c.self.view_is c.requires.known in
    let missing = c.in_err-index.ensures.missing in
    let long = c.len.ensures in
    let beyond = missing.0 in
    let past : length ss ≤ c.args.shard = omega (arith, long, beyond) in
    rw (p.1, p.2, missing.1) (seen_still g.K.Keeper.sound g.K.Keeper.faults c.args.self.now (record { catalog = cs; parts = ss }) c.args.moment ask _ c.self.view_is
    (among_served g.K.Keeper.sound g.K.Keeper.faults cs ss c.args.moment ask user _ c.self.invariant c.requires.asked known (live_other ask c.args.shard c.args.attempt c.requires.live)
    (live_nowhere cs.held.list (length ss) ask user c.args.shard c.args.attempt c.requires.live c.requires.may past)))

pub invariant_of-self : goal.invariant_of-self
invariant_of-self g c =
    let ss = c.self.inside.shards.items in
    let s = c.index_mut.result.now in
    let there = c.in_ok-index.ensures.there in
    let at = there.0 in
    let within = there.1 in
    let long = c.len.ensures in
    let inside : c.in_ok-index.index < length ss = omega (arith, at, within, long) in
    looked_part g.K.Keeper.sound g.K.Keeper.faults c.self.inside.catalog ss c.in_ok-index.index s c.live.new.shard (λ h t. t ≡ live_answer h c.args.attempt) c.live.result c.self.invariant (part_there ss c.in_ok-index.index s inside c.index_mut.ensures.value) c.live.ensures

pub returns : goal.returns
returns g c =
    let cs = c.self.inside.catalog in
    let ss = c.self.inside.shards.items in
    let s = c.index_mut.result.now in
    let ask = c.args.ask.now in
    let user = c.args.user.now in
    let known = known_seen c.args.self.now (record { catalog = cs; parts = ss }) ask user c.self.view_is c.requires.known in
    let there = c.in_ok-index.ensures.there in
    let at = there.0 in
    let within = there.1 in
    let long = c.len.ensures in
    let inside : c.in_ok-index.index < length ss = omega (arith, at, within, long) in
    let fits : c.args.shard < length ss = omega (arith, within, long) in
    seen_from g.K.Keeper.sound g.K.Keeper.faults c.args.self.now (record { catalog = cs; parts = ss }) _ c.args.moment ask c.live.result c.self.view_is
    (part_served g.K.Keeper.sound g.K.Keeper.faults cs ss c.in_ok-index.index s c.live.new.shard c.args.moment ask user c.live.result c.self.invariant (part_there ss c.in_ok-index.index s inside c.index_mut.ensures.value) c.requires.asked known
    (live_goes cs.held.list (length ss) ask user c.args.shard c.in_ok-index.index c.args.attempt c.requires.live c.requires.may (at, fits))
    (live_means g.K.Keeper.sound g.K.Keeper.faults cs.held.list c.args.moment ask user c.args.shard c.args.attempt s c.live.new.shard c.live.result c.requires.live c.requires.may c.live.ensures))
