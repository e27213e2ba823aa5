use Rattle.std.proofs.Common.{◌≡◌, ◌-◌, length, take, drop, ◌∙◌, ap}
use Rattle.std.proofs.lemmas.List.{take_rest, drop-drop}
use Rattle.qz_outside.proofs.Steps.{gives_front}
use Rattle.qz_outside.proofs.memory_source.MemorySourceSource.read.Goals as goal

pub returns-clause-bytes : goal.returns-clause-bytes
returns-clause-bytes c =
    let at = c.self.inside.at in
    let bytes = c.self.inside.bytes in
    let left_is : take (length c.as_slice.result.now - at) (drop at c.as_slice.result.now) ≡ drop at bytes = take_rest c.as_slice.result.now at ∙ ap (drop at) c.as_slice.ensures in
    let h = gives_front (drop at bytes) c.args.room.now c.copy_from_slice.new.self c.self.inside.most c.min-count.result
    (rw (← left_is, ← c.min.ensures) c.min-count.ensures) c.self.invariant.0 (rw (← left_is) c.copy_from_slice.ensures.after) in
    rw (← c.self.view_is, ← drop-drop c.min-count.result at bytes) h
