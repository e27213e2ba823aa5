-- A school of one shard for worked lines: two students, one true-false question, and a quiz with one slot of max mark 2.
use Rattle.std.specs.Prelude.{◌≡◌, ℕ, Bool, true, List, [], ◌∷◌, pos, Some, None, codes, refl}
use Rattle.qz_grading.specs.declared.outcome.Behaviour.TheVariants.{Deferred}
use Rattle.qz_grading.specs.declared.question.Bank.{Bank}
use Rattle.qz_grading.specs.declared.question.Format.TheVariants as format
use Rattle.qz_grading.specs.declared.question.Kind.TheVariants as kind
use Rattle.qz_grading.specs.declared.question.Question.{Question}
use Rattle.qz_grading.specs.declared.question.Rich.{Rich}
use Rattle.qz_grading.specs.declared.refusal.AttemptId.{AttemptId}
use Rattle.qz_terms.specs.declared.ask.Ask.{Ask}
use Rattle.qz_terms.specs.declared.people.Caller.TheVariants as caller
use Rattle.qz_terms.specs.declared.people.Role.TheVariants as role
use Rattle.qz_terms.specs.declared.record.Event.TheVariants as event
use Rattle.qz_terms.specs.declared.record.Record.{Record}
use Rattle.qz_terms.specs.declared.reply.Done.TheVariants as done
use Rattle.qz_terms.specs.declared.reply.Reply.{Reply}
use Rattle.qz_terms.specs.declared.reply.Reply.TheVariants as reply
use Rattle.qz_terms.specs.declared.request.Request.{Request}
use Rattle.qz_terms.specs.declared.request.Request.TheVariants as request
use Rattle.qz_terms.specs.SchoolAnswer.{catalog_list, school_answer, shard_list}

-- the records of the catalogue and of its one shard
pub record School : Type 0 where
  pub records : List Record
  pub part : List Record

-- a request with a key, one that only looks, and one of a worker
abbrev pub asked_with : List ℕ → List ℕ → Request → Ask
asked_with token key x = record { caller = caller.Token token; key = Some key; request = x }

abbrev pub look : List ℕ → Request → Ask
look token x = record { caller = caller.Token token; key = None; request = x }

abbrev pub told : School → ℕ → Ask → Reply
told s now ask = school_answer s.records (s.part ∷ []) now ask

abbrev pub then_has : School → ℕ → Ask → School
then_has s now ask = record { records = catalog_list s.records now ask; part = shard_list s.records s.part now ask }

abbrev pub plain : List ℕ → Rich
plain text = record { format = format.Moodle; text = text }

abbrev pub true_false : List ℕ → Bool → Question
true_false name right = record { name = name; text = plain name; general = plain []; kind = kind.TrueFalse right (plain []) (plain []); penalty = pos 10000000; hints = [] }

abbrev pub one_of : Question → Bank
one_of q = record { items = record { category = codes "Default" ∷ []; question = q } ∷ [] }

abbrev pub founded : School
founded = record { records = record { moment = 0; caller = 0; owner = 0; key = None; terms = None; event = event.Founded 1 (codes "root") } ∷ []; part = [] }

abbrev pub first_attempt : AttemptId
first_attempt = record { user = 2; nth = 1 }

-- ---- the lines that make it

abbrev make_ann : Ask
make_ann = asked_with (codes "root") (codes "a1") (request.User (codes "ann") role.Student (codes "ann"))

abbrev make_bob : Ask
make_bob = asked_with (codes "root") (codes "a2") (request.User (codes "bob") role.Student (codes "bob"))

abbrev import_sky : Ask
import_sky = asked_with (codes "root") (codes "a3") (request.Import (one_of (true_false (codes "Sky") true)))

abbrev make_quiz : Ask
make_quiz = asked_with (codes "root") (codes "a4") (request.Quiz (codes "Q") Deferred)

abbrev make_slot : Ask
make_slot = asked_with (codes "root") (codes "a5") (request.Slot 1 1 (pos 20000000))

abbrev make_ready : Ask
make_ready = asked_with (codes "root") (codes "a6") (request.Ready 1)

abbrev with_ann : School
with_ann = then_has founded 100 make_ann

abbrev with_bob : School
with_bob = then_has with_ann 100 make_bob

abbrev pub with_sky : School
with_sky = then_has with_bob 100 import_sky

abbrev with_quiz : School
with_quiz = then_has with_sky 100 make_quiz

abbrev with_slot : School
with_slot = then_has with_quiz 100 make_slot

abbrev pub school : School
school = then_has with_slot 100 make_ready

pub ann_is_made : told founded 100 make_ann ≡ reply.Ok 2 (done.Made 2)
ann_is_made = refl

pub bob_is_made : told with_ann 100 make_bob ≡ reply.Ok 3 (done.Made 3)
bob_is_made = refl

pub sky_is_imported : told with_bob 100 import_sky ≡ reply.Ok 4 (done.Imported 1 1)
sky_is_imported = refl

pub quiz_is_made : told with_sky 100 make_quiz ≡ reply.Ok 5 (done.Made 1)
quiz_is_made = refl

pub slot_is_made : told with_quiz 100 make_slot ≡ reply.Ok 6 (done.Slot 1)
slot_is_made = refl

pub quiz_is_ready : told with_slot 100 make_ready ≡ reply.Ok 7 done.Done
quiz_is_ready = refl
