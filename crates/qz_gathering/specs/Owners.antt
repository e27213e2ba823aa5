-- Whose a record is: whether a request made it, as far as its key and its event tell.
use Rattle.std.specs.Prelude.{ℕ, Bool, true, false, ◌&&◌, List, ◌==◌, Option, None, Some, bytes_eq}
use Rattle.qz_grading.specs.declared.refusal.AttemptId.{AttemptId}
use Rattle.qz_terms.specs.declared.ask.Ask.{Ask}
use Rattle.qz_terms.specs.declared.record.Event.{Event}
use Rattle.qz_terms.specs.declared.record.Event.TheVariants as event
use Rattle.qz_terms.specs.declared.record.How.{How}
use Rattle.qz_terms.specs.declared.record.How.TheVariants as how
use Rattle.qz_terms.specs.declared.record.Record.{Record}
use Rattle.qz_terms.specs.declared.request.Request.{Request}
use Rattle.qz_terms.specs.declared.request.Request.TheVariants as request
use Rattle.qz_terms.specs.Cause.{is_start_of, same_slot, same_step}
use Rattle.qz_terms.specs.History.{same_attempt}
use Rattle.qz_terms.specs.Sameness.{same_request}

-- a finish ends its attempt as finished, and a settling in either way
abbrev pub is_end_of : AttemptId → How → Request → Bool
is_end_of a how.Finished (request.Finish attempt) = same_attempt a attempt
is_end_of a how (request.Settle attempt) = same_attempt a attempt
is_end_of a how x = false

abbrev pub is_work_of : ℕ → Request → Bool
is_work_of number (request.Work job shard) = number == job
is_work_of number x = false

-- Whether the definitions make such an event of a request, over some lists: one of the same quiz, of the same attempt, slot and step, or of the
-- same job; or where the catalogue keeps it, the request itself.
abbrev pub makes : Request → Event → Bool
makes x (event.Founded shards token) = false
makes x (event.Asked kept) = same_request kept x
makes x (event.Started quiz nth behaviour bounds learned) = is_start_of quiz x
makes x (event.Acted attempt slot step) = same_slot attempt slot x && same_step step x
makes x (event.Noted attempt slot step) = same_slot attempt slot x && same_step step x
makes x (event.Ended attempt how) = is_end_of attempt how x
makes x (event.Rebound job attempt slot bound learned) = is_work_of job x
makes x (event.Skipped job attempt slot bound newer) = is_work_of job x
makes x (event.JobDone job quiz position) = is_work_of job x

-- the same key, or none in both
abbrev pub same_key : Option (List ℕ) → Option (List ℕ) → Bool
same_key None None = true
same_key (Some a) (Some b) = bytes_eq a b
same_key a b = false

-- a record with the key of what was asked, and an event of the request
abbrev pub owns : Ask → Record → Bool
owns ask r = same_key r.key ask.key && makes ask.request r.event
