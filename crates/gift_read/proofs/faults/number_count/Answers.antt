use Rattle.std.proofs.Common.{◌≡◌, length, map, ap, ◌∙◌, arith, length-append}
use Rattle.std.proofs.lemmas.List.{length-map}
use Rattle.gift_read.specs.declared.places.Landmark.TheVariants.{Equals, Others}
use Rattle.gift_read.specs.Parts.{pieces, numbers}
use Rattle.gift_read.specs.Places.{is_at, equals, before, from}
use Rattle.gift_read.specs.Values.{num_of, other_of, others}
use Rattle.gift_read.proofs.ValueLemmas.{other_of-some}
use Rattle.gift_read.proofs.faults.number_count.Goals as goal

pub returns-else-is_empty : goal.returns-else-is_empty
returns-else-is_empty c format =
    let own = c.args.answers.now in
    let numbers_are : c.split.result.0.now ≡ numbers own = c.split.ensures.before ∙ ap (before (is_at Others)) c.behind.ensures in
    let others_are : c.split.result.1.now ≡ others own = c.split.ensures.from ∙ ap (from (is_at Others)) c.behind.ensures in
    let some = other_of-some format (others own) (rw others_are at c.if-is_empty.ensures) in
    let counted = rw numbers_are at c.piece_count-count.ensures.value in
    let found = pieces (is_at Equals) equals (numbers own) in
    omega (arith, counted, ap length some, length-append (map (num_of format) found) (other_of format (others own)), length-map found (num_of format))
