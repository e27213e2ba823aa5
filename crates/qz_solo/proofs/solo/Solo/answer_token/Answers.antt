use Rattle.std.proofs.lemmas.Result.{err_from_is_err_and}
use Rattle.qz_catalog.specs.Keeping.{TellsUser}
use Rattle.qz_solo.proofs.Seeing.{seen_from, serves_from}
use Rattle.qz_solo.proofs.Serving.{known_here, serves_mended, user_known, user_untold}
use Rattle.qz_solo.proofs.Standing.{looked_records}
use Rattle.qz_school.specs.Solos.{held_of, lists_in}
use Rattle.qz_solo.proofs.solo.Solo.answer_token.Goals as goal

pub invariant_of-self : goal.invariant_of-self
invariant_of-self g c = looked_records _ c.self.inside.catalog c.user.new.self c.self.inside.shards.items _ (TellsUser c.args.token.now) c.user.result c.self.invariant c.user.ensures.told

pub returns-in_err-user : goal.returns-in_err-user
returns-in_err-user g c =
    let p = err_from_is_err_and c.from_residual.result c.from_residual.ensures.1 in
    let cs = c.self.inside.catalog in
    let ss = c.self.inside.shards.items in
    rw (p.1, p.2) (seen_from g.K.Keeper.sound g.K.Keeper.faults c.args.self.now (record { catalog = cs; parts = ss }) _ c.args.moment c.args.ask.now _ c.self.view_is
    (user_untold g.K.Keeper.sound g.K.Keeper.faults cs c.user.new.self ss c.args.moment c.args.ask.now c.args.token.now c.in_err-user.field-0.0 c.self.invariant c.requires.asked c.requires.caller (record { call = c.in_err-user.ensures.told; goes_on = c.in_err-user.ensures.goes_on })))

pub invariant_of-self-2 : goal.invariant_of-self-2
invariant_of-self-2 g c = looked_records _ c.self.inside.catalog c.user.new.self c.self.inside.shards.items _ (TellsUser c.args.token.now) c.user.result c.self.invariant c.user.ensures.told

pub answer_user-requires-clause-known : goal.answer_user-requires-clause-known
answer_user-requires-clause-known g c =
    let cs = c.self.inside.catalog in
    let ss = c.self.inside.shards.items in
    known_here (lists_in (record { catalog = cs; parts = ss })) (held_of ss) c.user.new.self.held c.args.ask.now c.in_ok-user.user
    (user_known g.K.Keeper.sound g.K.Keeper.faults cs c.user.new.self ss c.args.moment c.args.ask.now c.args.token.now c.in_ok-user.user c.self.invariant c.requires.asked c.requires.caller (record { call = c.in_ok-user.ensures.told; goes_on = c.in_ok-user.ensures.goes_on }))

pub returns : goal.returns
returns g c =
    let cs = c.self.inside.catalog in
    let ss = c.self.inside.shards.items in
    serves_from g.K.Keeper.sound g.K.Keeper.faults c.args.self.now (record { catalog = cs; parts = ss }) c.answer_user.new.self c.args.moment c.args.ask.now c.answer_user.result c.self.view_is
    (serves_mended g.K.Keeper.sound g.K.Keeper.faults cs c.user.new.self ss c.answer_user.new.self c.args.moment c.args.ask.now c.in_ok-user.user c.answer_user.result c.self.invariant c.requires.asked
    (user_known g.K.Keeper.sound g.K.Keeper.faults cs c.user.new.self ss c.args.moment c.args.ask.now c.args.token.now c.in_ok-user.user c.self.invariant c.requires.asked c.requires.caller (record { call = c.in_ok-user.ensures.told; goes_on = c.in_ok-user.ensures.goes_on }))
    c.user.ensures.goes_on c.answer_user.ensures)
