-- What is put into the catalogue's list, and the answer to a request over it.
use Rattle.std.specs.Prelude.{ℕ, max, Bool, true, false, not, ◌&&◌, List, map, length, if◌then◌else◌, Some, None, Option, unwrap_or}
use Rattle.qz_grading.specs.declared.question.Question.{Question}
use Rattle.qz_grading.specs.Steps.{last_of}
use Rattle.qz_terms.specs.declared.ask.Ask.{Ask}
use Rattle.qz_terms.specs.declared.people.User.{User}
use Rattle.qz_terms.specs.declared.record.Event.TheVariants as event
use Rattle.qz_terms.specs.declared.record.Record.{Record}
use Rattle.qz_terms.specs.declared.reply.Done.{Done}
use Rattle.qz_terms.specs.declared.reply.Done.TheVariants as done
use Rattle.qz_terms.specs.declared.reply.Reply.{Reply}
use Rattle.qz_terms.specs.declared.reply.Reply.TheVariants as reply
use Rattle.qz_terms.specs.declared.request.Request.{Request}
use Rattle.qz_terms.specs.declared.request.Request.TheVariants as request
use Rattle.qz_terms.specs.Catalog as catalog
use Rattle.qz_terms.specs.Cause.{Verdict, verdict_in}
use Rattle.qz_terms.specs.Answer.{list_with, reply_to, said_of_put}

-- ---- which requests go to the catalogue

-- whether a request goes to the catalogue
abbrev pub asks_catalog : Request → Bool
asks_catalog (request.User name role token) = true
asks_catalog (request.Group name) = true
asks_catalog (request.Member group user) = true
asks_catalog (request.Import gift) = true
asks_catalog (request.Edit entry gift) = true
asks_catalog (request.Tune entry penalty hints) = true
asks_catalog (request.Quiz name behaviour) = true
asks_catalog (request.Slot quiz entry max) = true
asks_catalog (request.Ready quiz) = true
asks_catalog (request.Remax quiz slot max) = true
asks_catalog (request.Policy quiz method grade) = true
asks_catalog (request.Times quiz opens closes limit allowed handling grace review) = true
asks_catalog (request.Override quiz whom number opens closes limit allowed) = true
asks_catalog (request.Regrade quiz) = true
asks_catalog request.Jobs = true
asks_catalog (request.Bank entry version) = true
asks_catalog x = false

-- no look at the catalogue puts a record
abbrev pub is_look_in : Request → Bool
is_look_in request.Jobs = true
is_look_in (request.Bank entry version) = true
is_look_in x = false

-- whether the catalogue keeps a request
abbrev pub keeps_record : Request → Bool
keeps_record x = asks_catalog x && not (is_look_in x)

-- ---- the record that a request puts

-- the moment of a request to the catalogue: the clock's, but not before the last record
abbrev pub moment_in : List Record → ℕ → ℕ
moment_in c now = max now (unwrap_or (last_of (map (λ (r : Record). r.moment) c)) 0)

abbrev pub record_in : List Record → ℕ → User → Ask → Record
record_in c now user ask = record { moment = moment_in c now; caller = user.number; owner = 0; key = ask.key; terms = None; event = event.Asked ask.request }

abbrev pub put_in : List Record → ℕ → User → Ask → Option Record
put_in c now user ask = if is_look_in ask.request then None else Some (record_in c now user ask)

-- ---- the answer over the catalogue's list

abbrev pub gift_reply : Option Question → Done
gift_reply None = done.Idle
gift_reply (Some q) = done.Gift q

abbrev pub looked_in_by : List Record → Request → Done
looked_in_by c (request.Bank entry version) = gift_reply (catalog.version c entry version)
looked_in_by c x = done.Jobs (length (catalog.jobs c))

abbrev pub catalog_verdict : List Record → ℕ → User → Ask → Verdict
catalog_verdict c now user ask = verdict_in c user (record_in c now user ask) ask

abbrev pub catalog_answer : List Record → ℕ → User → Ask → Reply
catalog_answer c now user ask = reply_to (catalog_verdict c now user ask) (said_of_put c (put_in c now user ask) (reply.Ok (length c) (looked_in_by c ask.request)))

abbrev pub catalog_after : List Record → ℕ → User → Ask → List Record
catalog_after c now user ask = list_with (catalog_verdict c now user ask) c (put_in c now user ask)
