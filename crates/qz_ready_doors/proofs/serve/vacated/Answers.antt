use Rattle.std.proofs.Common.{◌≡◌, [], ap, ◌∙◌, ◌++◌, append-nil, arith, length, map}
use Rattle.std.proofs.lemmas.List.{length-drop, nil_from_length}
use Rattle.qz_ready_doors.specs.Kept.{free_slot}
use Rattle.qz_ready_doors.proofs.serve.vacated.Goals as goal

pub returns : goal.returns
returns g c =
    let none : c.loop-slot.rest.items ≡ [] = nil_from_length c.loop-slot.rest.items (omega (arith, ap length c.in_default.ensures.items, ap length c.in_default.ensures.rest, length-drop 1 c.loop-slot.rest.items)) in
    c.loop-slot.invariant.0 ∙ ap (λ l. map free_slot c.loop-slot.desks.items ++ l) none ∙ append-nil (map free_slot c.loop-slot.desks.items)
