use Rattle.std.proofs.Common.{◌≡◌, ◌∙◌, ap, refl, subst, sym}
use Rattle.qz_shard_turns.specs.Posing.{list_seen}
use Rattle.qz_shard_turns.specs.Tying.{IsTied}
use Rattle.qz_shard_turns.proofs.Posing.{answer-tied, came, came-longer, posed-asked}
use Rattle.qz_shard_turns.proofs.answering.AnsweringErrandPart.go.Goals as goal

pub answered-told-requires-clause-asked : goal.answered-told-requires-clause-asked
answered-told-requires-clause-asked g c = posed-asked _ _ _ _ _ _ _ _ c.part.inside.shard.held c.requires.can_go.2 (rw (← c.part.view_is) at c.requires.begins.begins)

pub returns-clause-done : goal.returns-clause-done
returns-clause-done g c = rw (← c.part.view_is) (record {
  result = c.answered-told.result;
  told_is = refl;
  comes = came g.K.Keeper.sound g.K.Keeper.faults _ _ _ _ _ _ _ _ c.part.inside.shard c.answered-told.new.shard c.answered-told.result c.requires.can_go.2 (rw (← c.part.view_is) at c.requires.begins.begins)
      c.answered-told.ensures.answer c.answered-told.ensures.older c.answered-told.ensures.shard c.len-found.ensures.legal c.len-left.ensures.legal;
})

pub returns-clause-grows : goal.returns-clause-grows
returns-clause-grows g c =
    let comes = came g.K.Keeper.sound g.K.Keeper.faults _ _ _ _ _ _ _ _ c.part.inside.shard c.answered-told.new.shard c.answered-told.result c.requires.can_go.2 (rw (← c.part.view_is) at c.requires.begins.begins)
    c.answered-told.ensures.answer c.answered-told.ensures.older c.answered-told.ensures.shard c.len-found.ensures.legal c.len-left.ensures.legal in
    rw (← c.part.view_is) (record { begins = came-longer g.K.Keeper.faults (list_seen c.args.self.now.note) c.args.self.now.moment c.args.self.now.user.now c.args.self.now.plan.now c.args.self.now.ask.now c.part.inside.shard c.answered-told.new.shard c.answered-told.result comes; faults = c.answered-told.ensures.goes_on.later })

pub returns-clause-fits : goal.returns-clause-fits
returns-clause-fits g c =
    let noted : c.args.self.now.note ≡ Rattle.std.proofs.Common.Some c.in-Some.note = sym c.take.ensures.value ∙ c.in-Some.is in
    record {
      still = λ place seen fitted begins can.
          answer-tied _ place (record { shard = c.part.inside.shard; note = c.part.inside.note }) (record { shard = c.answered-told.new.shard; note = c.join.new.pass }) c.in-Some.note seen.list _ _ _ _ c.answered-told.result
          (subst (IsTied place) (sym c.part.view_is) fitted) c.join.ensures c.answered-told.ensures.shard (rw noted at can.2) (rw (← c.part.view_is) at begins.begins) c.answered-told.ensures.answer c.answered-told.ensures.older;
    }
