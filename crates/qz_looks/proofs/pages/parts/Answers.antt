use Rattle.std.proofs.Common.{◌≡◌, ◌+◌, ◌++◌, ◌∷◌, [], Some, None}
use Rattle.qz_terms.specs.History.{slot}
use Rattle.qz_terms.specs.Parts.{part}
use Rattle.qz_lives.specs.Attempts.{slot_of}
use Rattle.qz_book.specs.Plays.{IsSlot}
use Rattle.qz_looks.proofs.PageLemmas.{parts-more, parts-same}
use Rattle.qz_looks.proofs.pages.parts.Goals.{in-Some+in_ok-part+in_ok-push, in_default}
use Rattle.qz_looks.proofs.pages.parts.Goals as goal

pub loop-place-preserved : goal.loop-place-preserved
loop-place-preserved c =
    let h = c.args.book.now in
    let a = c.args.attempt in
    let n = c.loop-place.place in
    elim c.match-slot.branch [
      | in-Some+in_ok-part+in_ok-push w ↦
          let here : IsSlot (Some w.in-Some.played) (slot h a (n + 1)) = w.in-Some.ensures in
          let made : w.in_ok-part.field-0 ≡ part c.args.visible (slot_of w.in-Some.played.run.now w.in-Some.played.question.now) = w.in_ok-part.ensures in
          let pushed : w.push.new.self.items ≡ c.loop-place.items.items ++ w.in_ok-part.field-0 ∷ [] = w.in_ok-push.ensures.items in
          rw (w.items-is, pushed) (parts-more c.args.visible h a n c.loop-place.items.items w.in_ok-part.field-0 (slot_of w.in-Some.played.run.now w.in-Some.played.question.now) c.loop-place.invariant here.0 made)
      | in_default w ↦
          let none : slot h a (n + 1) ≡ None = w.in_default.ensures in
          rw w.items-is (parts-same c.args.visible h a n c.loop-place.items.items c.loop-place.invariant none)
    ]
