use Rattle.std.proofs.Common.{◌≡◌, take}
use Rattle.std.specs.Prelude.{filter_map, option_copied}
use Rattle.qz_grading.specs.Steps.{last_of, response_of}
use Rattle.qz_stats.proofs.Lasts.{IsBefore}
use Rattle.qz_stats.proofs.numbers.last_response.Given as goal

abbrev pub invariant-loop-step : goal.invariant-loop-step
invariant-loop-step l = record {
  last : option_copied l.last ≡ last_of (filter_map response_of (take l.step-index l.steps));
  before : IsBefore l.steps l.step-index;
}
