-- Worked records: a start, a save, a finish and the records of a job are allowed where they stand, and agree with the catalogue.
use Rattle.std.specs.Prelude.{◌≡◌, ℕ, true, false, List, [], ◌∷◌, pos, Some, None, codes, Option, refl}
use Rattle.qz_grading.specs.declared.outcome.Behaviour.TheVariants.{Deferred}
use Rattle.qz_grading.specs.declared.response.Answer.TheVariants as answer
use Rattle.qz_grading.specs.declared.response.Step.TheVariants as step
use Rattle.qz_terms.specs.declared.ask.Ask.{Ask}
use Rattle.qz_terms.specs.declared.grades.Method.TheVariants as method
use Rattle.qz_terms.specs.declared.people.Role.TheVariants as role
use Rattle.qz_terms.specs.declared.people.User.{User}
use Rattle.qz_terms.specs.declared.plan.Bound.{Bound}
use Rattle.qz_terms.specs.declared.plan.Job.{Job}
use Rattle.qz_terms.specs.declared.plan.Plan.{Plan}
use Rattle.qz_terms.specs.declared.record.Event.{Event}
use Rattle.qz_terms.specs.declared.record.Event.TheVariants as event
use Rattle.qz_terms.specs.declared.record.How.TheVariants as how
use Rattle.qz_terms.specs.declared.record.Learned.{Learned}
use Rattle.qz_terms.specs.declared.record.Record.{Record}
use Rattle.qz_terms.specs.declared.record.Terms.{Terms}
use Rattle.qz_terms.specs.declared.request.Request.TheVariants as request
use Rattle.qz_terms.specs.Access.{default_settings}
use Rattle.qz_terms.specs.CatalogAnswer.{keeps_record}
use Rattle.qz_terms.specs.Catalog as catalog
use Rattle.qz_terms.specs.Cause.{is_keyed}
use Rattle.qz_terms_examples.specs.ExamplesSchool.{School, asked_with, first_attempt, school, then_has, true_false}
use Rattle.qz_terms.specs.Kept.{IsKept}
use Rattle.qz_terms.specs.Legal.{Agrees, IsAllowed}

-- the plan of the quiz before and after the correction
abbrev pub plan_at_7 : Plan
plan_at_7 = record {
  at = 7;
  quiz = 1;
  name = codes "Q";
  ready = true;
  behaviour = Deferred;
  settings = default_settings;
  policy = record { method = method.Highest; grade = pos 1000000; sum = pos 20000000 };
  slots = record { entry = 1; version = 1; max = pos 20000000 } ∷ [];
  questions = true_false (codes "Sky") true ∷ [];
}

pub the_plan : catalog.plan school.records 1 2 ≡ Some plan_at_7
the_plan = refl

abbrev pub ann : User
ann = record { number = 2; name = codes "ann"; role = role.Student; token = codes "ann" }

abbrev start : Ask
start = asked_with (codes "ann") (codes "k1") (request.Start 1)

abbrev save : Ask
save = asked_with (codes "ann") (codes "k2") (request.Save first_attempt 1 0 (answer.Pick 1))

abbrev finish : Ask
finish = asked_with (codes "ann") (codes "k3") (request.Finish first_attempt)

abbrev pub terms : Option Terms
terms = Some (record { at = 7; settings = default_settings })

abbrev pub anns : ℕ → List ℕ → Event → Record
anns moment key e = record { moment = moment; caller = 2; owner = 2; key = Some key; terms = terms; event = e }

abbrev pub sky_1 : Learned
sky_1 = record { entry = 1; version = 1; question = true_false (codes "Sky") true }

abbrev pub sky_2 : Learned
sky_2 = record { entry = 1; version = 2; question = true_false (codes "Sky") false }

abbrev pub bound_at_7 : Bound
bound_at_7 = record { entry = 1; version = 1; max = pos 20000000; at = 7 }

abbrev pub bound_at_9 : Bound
bound_at_9 = record { entry = 1; version = 2; max = pos 20000000; at = 9 }

abbrev pub start_record : Record
start_record = anns 110 (codes "k1") (event.Started 1 1 Deferred (bound_at_7 ∷ []) (sky_1 ∷ []))

abbrev pub save_record : Record
save_record = anns 120 (codes "k2") (event.Acted first_attempt 1 (step.Save (record { answer = answer.Pick 1; certainty = 0 })))

abbrev pub finish_record : Record
finish_record = anns 130 (codes "k3") (event.Ended first_attempt how.Finished)

abbrev pub rebind_record : Record
rebind_record = record { moment = 180; caller = 1; owner = 2; key = None; terms = None; event = event.Rebound 1 first_attempt 1 bound_at_9 (sky_2 ∷ []) }

abbrev pub done_record : Record
done_record = record { moment = 183; caller = 1; owner = 0; key = None; terms = None; event = event.JobDone 1 1 9 }

pub start_is_allowed : IsAllowed 0 1 [] start_record
start_is_allowed = record {
  owner = refl;
  moment = refl;
  key = refl;
  event = record {
    is_put = record { user = ann; plan = plan_at_7; ask = start; keyed = refl; by_caller = refl; under_terms = refl; of_quiz = refl; when_ready = refl; granted = refl; put = refl };
    learns = refl;
    above_floor = refl;
    at_terms = refl;
  };
}

pub save_is_allowed : IsAllowed 0 1 (start_record ∷ []) save_record
save_is_allowed = record {
  owner = refl;
  moment = refl;
  key = refl;
  event = record { user = ann; plan = plan_at_7; ask = save; keyed = refl; by_caller = refl; under_terms = refl; of_quiz = refl; when_ready = refl; granted = refl; put = refl };
}

pub finish_is_allowed : IsAllowed 0 1 (start_record ∷ save_record ∷ []) finish_record
finish_is_allowed = record {
  owner = refl;
  moment = refl;
  key = refl;
  event = record { user = ann; plan = plan_at_7; ask = finish; keyed = refl; by_caller = refl; under_terms = refl; of_quiz = refl; when_ready = refl; granted = refl; put = refl };
}

pub rebind_is_allowed : IsAllowed 0 1 (start_record ∷ save_record ∷ finish_record ∷ []) rebind_record
rebind_is_allowed = record {
  owner = refl;
  moment = refl;
  key = refl;
  event = record { bare = refl; undone = refl; quiz = 1; of_quiz = refl; first = refl; learns = refl; old = true_false (codes "Sky") true; newer = true_false (codes "Sky") false; old_is = refl; newer_is = refl; same = refl };
}

pub done_is_allowed : IsAllowed 0 1 (start_record ∷ save_record ∷ finish_record ∷ rebind_record ∷ []) done_record
done_is_allowed = record { owner = refl; moment = refl; key = refl; event = record { bare = refl; undone = refl; none_left = refl } }

-- ---- agreement

pub start_agrees : Agrees school.records [] start_record
start_agrees = record {
  caller = refl;
  event = record {
    its_terms = record { terms = record { at = 7; settings = default_settings }; terms_are = refl; within = refl; plan = plan_at_7; plan_is = refl; settings = refl; ready = refl };
    owner = refl;
    behaviour = refl;
    bounds_are = refl;
    learns = refl;
  };
}

pub save_agrees : Agrees school.records (start_record ∷ []) save_record
save_agrees = record {
  caller = refl;
  event = record {
    quiz = 1;
    of_quiz = refl;
    its_terms = record { terms = record { at = 7; settings = default_settings }; terms_are = refl; within = refl; plan = plan_at_7; plan_is = refl; settings = refl; ready = refl };
  };
}

abbrev plan_at_9 : Plan
plan_at_9 = record plan_at_7 {
  at = 9;
  slots = record { entry = 1; version = 2; max = pos 20000000 } ∷ [];
  questions = true_false (codes "Sky") false ∷ [];
}

abbrev corrected : School
corrected = then_has (then_has school 160 (asked_with (codes "root") (codes "c1") (request.Edit 1 (true_false (codes "Sky") false)))) 170 (asked_with (codes "root") (codes "c2") (request.Regrade 1))

abbrev the_job : Job
the_job = record { number = 1; position = 9; plan = plan_at_9 }

pub rebind_agrees : Agrees corrected.records (start_record ∷ save_record ∷ finish_record ∷ []) rebind_record
rebind_agrees = record { caller = refl; event = record { quiz = 1; of_quiz = refl; its_job = record { job = the_job; job_is = refl; quiz = refl; position_is = refl }; bound_is = refl; learns = refl } }

pub done_agrees : Agrees corrected.records (start_record ∷ save_record ∷ finish_record ∷ rebind_record ∷ []) done_record
done_agrees = record { caller = refl; event = record { job = the_job; job_is = refl; quiz = refl; position_is = refl } }

-- a finish has a key, and a settling has none
pub no_keyless_finish : is_keyed (record finish { key = None }) ≡ false
no_keyless_finish = refl

pub no_settling_with_a_key : is_keyed (record finish { request = request.Settle first_attempt }) ≡ false
no_settling_with_a_key = refl

-- what a save's record keeps, and a start is no request to the catalogue
pub save_is_kept : IsKept save_record
save_is_kept = record { moment = refl; terms = refl; settings = refl; event = refl }

pub start_is_no_record_of_the_catalogue : keeps_record (request.Start 1) ≡ false
start_is_no_record_of_the_catalogue = refl
