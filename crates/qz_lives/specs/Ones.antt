-- One attempt: whether it is finished, its total, as its runs tell it, and what growth leaves of it.
use Rattle.std.specs.Prelude.{◌≡◌, Bool, List, ℤ, map, zip, Option, None, option_and_then, option_map}
use Rattle.qz_grading.specs.declared.question.Question.{Question}
use Rattle.qz_terms.specs.declared.record.How.{How}
use Rattle.qz_terms.specs.declared.record.How.TheVariants as how
use Rattle.qz_terms.specs.History.{ended_finished}
use Rattle.qz_terms.specs.Rows.{total_of}
use Rattle.qz_usage.specs.Usages.{scored}
use Rattle.qz_lives.specs.declared.live.Ending.{Ending}
use Rattle.qz_lives.specs.declared.live.Live.{Live}
use Rattle.qz_lives.specs.Runs.{AreRoomier}

-- whether it ended by a finish
abbrev pub has_finished : Live → Bool
has_finished l = ended_finished (option_map (λ (e : Ending). e.how) l.ending)

abbrev pub total_if : Option ℤ → How → Option ℤ
total_if total how.Finished = total
total_if total how.Abandoned = None

-- of an attempt that is finished, under the questions that are bound to its slots
abbrev pub total_by : Live → List Question → Option ℤ
total_by l qs = option_and_then (λ (e : Ending). total_if (total_of (map scored (zip l.slots qs))) e.how) l.ending

-- the same attempt, with no less room
pub record IsRoomier (old new : Live) : Type 0 where
  pub begun : new.begun ≡ old.begun
  pub ending : new.ending ≡ old.ending
  pub slots : AreRoomier old.slots new.slots
