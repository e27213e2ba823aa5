-- Worked records: a step that is noted, a teacher's mark, a settling and a slot that is skipped are allowed where they stand, and so
-- are records of the catalogue. Then what isn't allowed.
use Rattle.std.specs.Prelude.{◌≡◌, ℕ, true, false, List, [], ◌∷◌, pos, Some, None, codes, Option, refl}
use Rattle.qz_grading.specs.declared.outcome.Behaviour.TheVariants.{Immediate}
use Rattle.qz_grading.specs.declared.response.Answer.TheVariants as answer
use Rattle.qz_grading.specs.declared.response.Response.{Response}
use Rattle.qz_grading.specs.declared.response.Step.TheVariants as step
use Rattle.qz_grading.specs.declared.question.Shape.{Shape}
use Rattle.qz_terms.specs.declared.access.Handling.TheVariants as handling
use Rattle.qz_terms.specs.declared.access.Review.TheVariants as review
use Rattle.qz_terms.specs.declared.access.Settings.{Settings}
use Rattle.qz_terms.specs.declared.ask.Ask.{Ask}
use Rattle.qz_terms.specs.declared.people.Caller.TheVariants as caller
use Rattle.qz_terms.specs.declared.people.Role.TheVariants as role
use Rattle.qz_terms.specs.declared.people.User.{User}
use Rattle.qz_terms.specs.declared.plan.Job.{Job}
use Rattle.qz_terms.specs.declared.plan.Plan.{Plan}
use Rattle.qz_terms.specs.declared.record.Event.TheVariants as event
use Rattle.qz_terms.specs.declared.record.How.TheVariants as how
use Rattle.qz_terms.specs.declared.record.Record.{Record}
use Rattle.qz_terms.specs.declared.record.Terms.{Terms}
use Rattle.qz_terms.specs.declared.request.Request.{Request}
use Rattle.qz_terms.specs.declared.request.Request.TheVariants as request
use Rattle.qz_terms.specs.Access.{default_settings}
use Rattle.qz_terms.specs.Catalog as catalog
use Rattle.qz_terms_examples.specs.ExamplesLegal.{ann, anns, bound_at_7, bound_at_9, done_record, finish_record, plan_at_7, rebind_record, save_record, sky_1, start_record, terms}
use Rattle.qz_terms_examples.specs.ExamplesSchool.{asked_with, first_attempt, founded, one_of, school, true_false, with_sky}
use Rattle.qz_terms_examples.specs.ExamplesSkipped.{three, two, with_job}
use Rattle.qz_terms.specs.History as history
use Rattle.qz_terms.specs.Legal.{Agrees, IsAllowed, IsAllowedInCatalog, LearnsNew, at_least_floor, bound_at, has_its_owner, has_new_key, is_bare, is_plan_for}

-- ---- a step that was the same as before

abbrev pick : ℕ → Response
pick n = record { answer = answer.Pick n; certainty = 0 }

abbrev save_again : Ask
save_again = asked_with (codes "ann") (codes "k7") (request.Save first_attempt 1 0 (answer.Pick 1))

abbrev pub noted_record : Record
noted_record = anns 125 (codes "k7") (event.Noted first_attempt 1 (step.Save (pick 1)))

pub noted_is_allowed : IsAllowed 0 1 (start_record ∷ save_record ∷ []) noted_record
noted_is_allowed = record {
  owner = refl;
  moment = refl;
  key = refl;
  event = record { user = ann; plan = plan_at_7; ask = save_again; keyed = refl; by_caller = refl; under_terms = refl; of_quiz = refl; when_ready = refl; granted = refl; put = refl };
}

pub noted_agrees : Agrees school.records (start_record ∷ save_record ∷ []) noted_record
noted_agrees = record {
  caller = refl;
  event = record {
    quiz = 1;
    of_quiz = refl;
    its_terms = record { terms = record { at = 7; settings = default_settings }; terms_are = refl; within = refl; plan = plan_at_7; plan_is = refl; settings = refl; ready = refl };
  };
}

-- ---- a mark that the manager gives

abbrev root : User
root = record { number = 1; name = codes "admin"; role = role.Manager; token = codes "root" }

abbrev pub mark_record : Record
mark_record = record { moment = 140; caller = 1; owner = 2; key = Some (codes "m1"); terms = terms; event = event.Acted first_attempt 1 (step.Mark (pos 10000000) (pos 20000000)) }

pub mark_is_allowed : IsAllowed 0 1 (start_record ∷ save_record ∷ finish_record ∷ []) mark_record
mark_is_allowed = record {
  owner = refl;
  moment = refl;
  key = refl;
  event = record { user = root; plan = plan_at_7; ask = asked_with (codes "root") (codes "m1") (request.Mark first_attempt 1 (pos 10000000)); keyed = refl; by_caller = refl; under_terms = refl; of_quiz = refl; when_ready = refl; granted = refl; put = refl };
}

-- ---- a worker settles an attempt that is expired

abbrev closing : Settings
closing = record { opens = 0; closes = 200; limit = 0; allowed = 1; handling = handling.GracePeriod; grace = 30; review = review.Always }

abbrev settled_record : Record
settled_record = record { moment = 231; caller = 0; owner = 2; key = None; terms = Some (record { at = 8; settings = closing }); event = event.Ended first_attempt how.Abandoned }

pub settling_is_allowed : IsAllowed 0 1 (start_record ∷ []) settled_record
settling_is_allowed = record {
  owner = refl;
  moment = refl;
  key = refl;
  event = record { user = catalog.worker; plan = record plan_at_7 { at = 8; settings = closing }; ask = record { caller = caller.Worker; key = None; request = request.Settle first_attempt }; keyed = refl; by_caller = refl; under_terms = refl; of_quiz = refl; when_ready = refl; granted = refl; put = refl };
}

-- ---- a slot whose newer version has another shape

abbrev at_6 : Option Terms
at_6 = Some (record { at = 6; settings = default_settings })

abbrev pub pick_record : Record
pick_record = record { moment = 110; caller = 2; owner = 2; key = Some (codes "k1"); terms = at_6; event = event.Started 1 1 Immediate (record { entry = 1; version = 1; max = pos 10000000; at = 6 } ∷ []) (record { entry = 1; version = 1; question = three } ∷ []) }

abbrev pub submit_record : Record
submit_record = record { moment = 120; caller = 2; owner = 2; key = Some (codes "k2"); terms = at_6; event = event.Acted first_attempt 1 (step.Submit (pick 1)) }

abbrev pub of_three : Shape
of_three = record { kind = 3; first = 3; second = 0 }

abbrev of_two : Shape
of_two = record { kind = 3; first = 2; second = 0 }

abbrev pub skip_record : Record
skip_record = record { moment = 160; caller = 1; owner = 2; key = None; terms = None; event = event.Skipped 1 first_attempt 1 of_three of_two }

pub skip_is_allowed : IsAllowed 0 1 (pick_record ∷ submit_record ∷ []) skip_record
skip_is_allowed = record { owner = refl; moment = refl; key = refl; event = record { bare = refl; undone = refl; unskipped = refl; old = three; old_is = refl; bound_is = refl; other = refl } }

abbrev plan_at_8 : Plan
plan_at_8 = record plan_at_7 {
  at = 8;
  behaviour = Immediate;
  policy = record plan_at_7.policy { sum = pos 10000000 };
  slots = record { entry = 1; version = 2; max = pos 10000000 } ∷ [];
  questions = two ∷ [];
}

abbrev pub the_job : Job
the_job = record { number = 1; position = 8; plan = plan_at_8 }

pub skip_agrees : Agrees with_job.records (pick_record ∷ submit_record ∷ []) skip_record
skip_agrees = record { caller = refl; event = record { quiz = 1; of_quiz = refl; position = 8; its_job = record { job = the_job; job_is = refl; quiz = refl; position_is = refl }; bound_is = refl; newer_is = refl } }

abbrev done_at_8 : Record
done_at_8 = record { moment = 165; caller = 1; owner = 0; key = None; terms = None; event = event.JobDone 1 1 8 }

-- the slot is no target any more, so the job is done
pub done_is_allowed : IsAllowed 0 1 (pick_record ∷ submit_record ∷ skip_record ∷ []) done_at_8
done_is_allowed = record { owner = refl; moment = refl; key = refl; event = record { bare = refl; undone = refl; none_left = refl } }

-- ---- records of the catalogue

abbrev founding : Record
founding = record { moment = 0; caller = 0; owner = 0; key = None; terms = None; event = event.Founded 1 (codes "root") }

pub founding_is_allowed : IsAllowedInCatalog [] founding
founding_is_allowed = record { owner = refl; terms = refl; moment = refl; event = refl }

abbrev pub roots : List ℕ → Request → Record
roots key x = record { moment = 100; caller = 1; owner = 0; key = Some key; terms = None; event = event.Asked x }

pub user_is_allowed : IsAllowedInCatalog founded.records (roots (codes "a1") (request.User (codes "ann") role.Student (codes "ann")))
user_is_allowed = record { owner = refl; terms = refl; moment = refl; event = record { user = root; by_caller = refl; kept = refl; keyed = refl; granted = refl } }

pub import_is_allowed : IsAllowedInCatalog with_sky.records (roots (codes "i1") (request.Import (one_of (true_false (codes "Sea") true))))
import_is_allowed = record { owner = refl; terms = refl; moment = refl; event = record { user = root; by_caller = refl; kept = refl; keyed = refl; granted = refl } }

pub regrade_is_allowed : IsAllowedInCatalog school.records (roots (codes "r1") (request.Regrade 1))
regrade_is_allowed = record { owner = refl; terms = refl; moment = refl; event = record { user = root; by_caller = refl; kept = refl; keyed = refl; granted = refl } }

-- ---- what isn't allowed

-- the owner is the user of the attempt, a user of the shard, and nobody where a job is done
pub not_anothers : has_its_owner 0 1 (record save_record { owner = 3 }) ≡ false
not_anothers = refl

pub not_of_this_shard : has_its_owner 1 2 start_record ≡ false
not_of_this_shard = refl

pub of_this_shard : has_its_owner 0 2 start_record ≡ true
of_this_shard = refl

pub nobodys : has_its_owner 0 1 (record done_record { owner = 2 }) ≡ false
nobodys = refl

pub not_in_a_shard : has_its_owner 0 1 founding ≡ false
not_in_a_shard = refl

-- a key stands once for a caller
pub not_twice : has_new_key (start_record ∷ []) (record save_record { key = Some (codes "k1") }) ≡ false
not_twice = refl

pub but_for_another : has_new_key (start_record ∷ []) (record save_record { caller = 1; key = Some (codes "k1") }) ≡ true
but_for_another = refl

pub not_with_a_key : is_bare (record rebind_record { key = Some (codes "k9") }) ≡ false
not_with_a_key = refl

pub not_with_terms : is_bare (record rebind_record { terms = terms }) ≡ false
not_with_terms = refl

-- no start stands on an older plan than the floor
pub below_the_floor : at_least_floor (done_record ∷ []) 1 terms ≡ false
below_the_floor = refl

pub at_the_floor : at_least_floor (done_record ∷ []) 1 (Some (record { at = 9; settings = default_settings })) ≡ true
at_the_floor = refl

pub another_quiz : at_least_floor (done_record ∷ []) 2 terms ≡ true
another_quiz = refl

pub bound_elsewhere : bound_at terms bound_at_9 ≡ false
bound_elsewhere = refl

-- a moment before that of the owner's last record isn't that of a record
pub not_before : history.time (start_record ∷ save_record ∷ []) 2 119 ≡ 120
not_before = refl

-- the plan is of the quiz that is started, or of that of the attempt
pub plan_of_another : is_plan_for [] plan_at_7 (request.Start 2) ≡ false
plan_of_another = refl

pub plan_of_anothers_attempt : is_plan_for (start_record ∷ []) (record plan_at_7 { quiz = 2 }) (request.Finish first_attempt) ≡ false
plan_of_anothers_attempt = refl

-- a job isn't done while a slot is left, and two slots with one version learn it once
pub one_is_left : history.targets (start_record ∷ save_record ∷ finish_record ∷ []) 1 1 9 ≡ (first_attempt, 1) ∷ []
one_is_left = refl

pub none_is_left_at_its_own : history.targets (start_record ∷ save_record ∷ finish_record ∷ []) 1 1 7 ≡ []
none_is_left_at_its_own = refl

pub learned_once : LearnsNew [] (bound_at_7 ∷ bound_at_7 ∷ []) (sky_1 ∷ [])
learned_once = refl

pub known_already : LearnsNew (start_record ∷ []) (bound_at_7 ∷ []) []
known_already = refl
