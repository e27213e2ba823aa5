use Rattle.std.proofs.Common.{◌+◌, if◌then◌else◌, List, Option, Some, unwrap_or, filter_map, ap, subst, ◌∙◌}
use Rattle.std.specs.BTreeMap.{Updates}
use Rattle.qz_grading.specs.declared.response.Response.{Response}
use Rattle.qz_grading.specs.declared.response.Step.{Step}
use Rattle.qz_grading.specs.Grading.{blank}
use Rattle.qz_grading.specs.Steps.{before, last_of, response_of}
use Rattle.qz_room.specs.Pairs.{pair_cmp}
use Rattle.qz_terms.specs.declared.plan.Bound.{Bound}
use Rattle.qz_stats.specs.Counts.{count_in}
use Rattle.qz_stats.specs.Picks.{tells}
use Rattle.qz_stats.specs.Shards.{slot_in}
use Rattle.qz_stats.proofs.Tallies.{noted-more}
use Rattle.qz_stats.proofs.picks.note_slot.Goals as goal

pub loop-number-preserved : goal.loop-number-preserved
loop-number-preserved c =
    let told = c.last_response-response.ensures ∙ ap (λ (s : List Step). last_of (filter_map response_of (before s))) c.steps.ensures.value in
    let noted =
    subst (λ (b : Bound). Updates pair_cmp c.loop-number.counts c.note.new.counts (b.version, c.loop-number.number) (Some (count_in c.loop-number.counts (b.version, c.loop-number.number) + (if c.tells.result then 1 else 0)))) c.bound.ensures.value c.in_ok-note.ensures in
    noted-more c.args.counts.now c.loop-number.counts c.note.new.counts (slot_in c.args.slot.now) c.loop-number.number c.tells.result c.loop-number.invariant
    (c.tells.ensures ∙ ap (λ (o : Option Response). tells c.loop-number.number (unwrap_or o blank).answer) told) noted
