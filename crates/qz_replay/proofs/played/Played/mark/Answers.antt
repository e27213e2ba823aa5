use Rattle.qz_replay.proofs.played.Played.mark.Goals as goal

pub returns : goal.returns
returns c =
    let shown = c.mark.ensures.value c.self.inside.question c.self.invariant.bound in
    rw (← c.self.view_is, ← c.self.invariant.behaviour) shown
