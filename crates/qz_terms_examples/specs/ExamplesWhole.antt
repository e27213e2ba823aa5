-- Worked lists: a whole school that is legal and agrees, and records that aren't allowed, that disagree, or that were changed by hand.
use Rattle.std.specs.Ordering.{int_eq}
use Rattle.std.specs.Prelude.{◌≡◌, ℕ, zero, suc, Bool, true, false, List, [], ◌∷◌, ◌++◌, map, take, pos, ◌==◌, slice_get, Some, None, codes, Option, unwrap_or, option_map, refl}
use Rattle.std.proofs.Common.{ap, subst, sym, true≢false}
use Rattle.std.proofs.lemmas.List.{append-nil, append_assoc}
use Rattle.qz_grading.specs.declared.outcome.Behaviour.TheVariants.{Deferred, Information}
use Rattle.qz_grading.specs.declared.question.Shape.{Shape}
use Rattle.qz_grading.specs.declared.refusal.AttemptId.{AttemptId}
use Rattle.qz_grading.specs.Grading.{at_place, shape}
use Rattle.qz_terms.specs.declared.people.Role.TheVariants as role
use Rattle.qz_terms.specs.declared.people.User.{User}
use Rattle.qz_terms.specs.declared.plan.Bound.{Bound}
use Rattle.qz_terms.specs.declared.plan.Job.{Job}
use Rattle.qz_terms.specs.declared.plan.Plan.{Plan}
use Rattle.qz_terms.specs.declared.record.Event.TheVariants as event
use Rattle.qz_terms.specs.declared.record.Record.{Record}
use Rattle.qz_terms.specs.declared.record.Terms.{Terms}
use Rattle.qz_terms.specs.declared.request.Request.TheVariants as request
use Rattle.qz_terms.specs.Access.{default_settings}
use Rattle.qz_terms.specs.Answer.{bind}
use Rattle.qz_terms.specs.Catalog as catalog
use Rattle.qz_terms_examples.specs.ExamplesAllowed.{of_three, pick_record, roots, skip_record, submit_record, the_job}
use Rattle.qz_terms_examples.specs.ExamplesLegal.{ann, anns, bound_at_7, bound_at_9, done_record, finish_is_allowed, finish_record, plan_at_7, rebind_record, save_agrees, save_is_allowed, save_record, sky_1, sky_2, start_agrees, start_is_allowed, start_record}
use Rattle.qz_terms_examples.specs.ExamplesSchool.{asked_with, first_attempt, school, true_false, with_sky}
use Rattle.qz_terms_examples.specs.ExamplesSkipped.{three, with_job}
use Rattle.qz_terms.specs.History as history
use Rattle.qz_terms.specs.Kept.{IsKept, KeepsEvent}
use Rattle.qz_terms.specs.Legal.{Agrees, AllAgree, IsAllowed, IsAllowedInCatalog, IsAltered, IsBehind, IsLegal, IsLegalCatalog, IsSchool, past_end, positions}
use Rattle.qz_terms.specs.Lists.{first_of}

-- ---- each record of a list, behind those before it

abbrev Each : (List Record → Record → Type 0) → List Record → List Record → Type 0
Each P front [] = Unit {0}
Each P front (x ∷ xs) = P front x × Each P (front ++ x ∷ []) xs

each-behind : (P : List Record → Record → Type 0) (h front : List Record) → Each P front h → (l : List Record) (r : Record) (rest : List Record) → h ≡ l ++ r ∷ rest → P (front ++ l) r
each-behind P [] front all [] r rest e = absurd cc
each-behind P [] front all (y ∷ l) r rest e = absurd cc
each-behind P (x ∷ xs) front all [] r rest e = let same : x ≡ r = cc in subst (λ (t : List Record). P t r) (sym (append-nil front)) (subst (P front) same all.0)
each-behind P (x ∷ xs) front all (y ∷ l) r rest e =
    let head : x ≡ y = cc in
    let tail : xs ≡ l ++ r ∷ rest = cc in
    let behind : P ((front ++ x ∷ []) ++ l) r = each-behind P xs (front ++ x ∷ []) all.1 l r rest tail in
    subst (λ (t : Record). P (front ++ t ∷ l) r) head (subst (λ (t : List Record). P t r) (append_assoc front (x ∷ []) l) behind)

-- ---- a whole school: seven records of the catalogue, and a start, a save and a finish

abbrev root : User
root = record { number = 1; name = codes "admin"; role = role.Manager; token = codes "root" }

-- the founding, and six that root asked
the_catalogue : Each IsAllowedInCatalog [] school.records
the_catalogue = (
  record { owner = refl; terms = refl; moment = refl; event = refl },
  (
    record { owner = refl; terms = refl; moment = refl; event = record { user = root; by_caller = refl; kept = refl; keyed = refl; granted = refl } },
    (
      record { owner = refl; terms = refl; moment = refl; event = record { user = root; by_caller = refl; kept = refl; keyed = refl; granted = refl } },
      (
        record { owner = refl; terms = refl; moment = refl; event = record { user = root; by_caller = refl; kept = refl; keyed = refl; granted = refl } },
        (
          record { owner = refl; terms = refl; moment = refl; event = record { user = root; by_caller = refl; kept = refl; keyed = refl; granted = refl } },
          (
            record { owner = refl; terms = refl; moment = refl; event = record { user = root; by_caller = refl; kept = refl; keyed = refl; granted = refl } },
            (record { owner = refl; terms = refl; moment = refl; event = record { user = root; by_caller = refl; kept = refl; keyed = refl; granted = refl } }, tt),
          ),
        ),
      ),
    ),
  ),
)

pub the_catalogue_is_legal : IsLegalCatalog school.records
the_catalogue_is_legal = record { each = each-behind IsAllowedInCatalog school.records [] the_catalogue }

abbrev pub attempt_of_ann : List Record
attempt_of_ann = start_record ∷ save_record ∷ finish_record ∷ []

pub the_list_is_legal : IsLegal 0 1 attempt_of_ann
the_list_is_legal = record { each = each-behind (IsAllowed 0 1) attempt_of_ann [] (start_is_allowed, (save_is_allowed, (finish_is_allowed, tt))) }

pub finish_agrees : Agrees school.records (start_record ∷ save_record ∷ []) finish_record
finish_agrees = record {
  caller = refl;
  event = record {
    quiz = 1;
    of_quiz = refl;
    its_terms = record { terms = record { at = 7; settings = default_settings }; terms_are = refl; within = refl; plan = plan_at_7; plan_is = refl; settings = refl; ready = refl };
  };
}

pub the_list_agrees : AllAgree school.records attempt_of_ann
the_list_agrees = record { each = each-behind (Agrees school.records) attempt_of_ann [] (start_agrees, (save_agrees, (finish_agrees, tt))) }

-- of one list, the one that is there
one_list : (P : ℕ → List Record → Type 0) (list : List Record) → P 0 list → (k : ℕ) (h : List Record) → slice_get (list ∷ []) k ≡ Some h → P k h
one_list P list first zero h e = let same : list ≡ h = cc in subst (P 0) same first
one_list P list first (suc k) h e = absurd cc

pub a_school : IsSchool school.records (attempt_of_ann ∷ [])
a_school = record {
  records = the_catalogue_is_legal;
  founded = refl;
  legal = one_list (λ k h. IsLegal k 1 h) attempt_of_ann the_list_is_legal;
  agree = one_list (λ k h. AllAgree school.records h) attempt_of_ann the_list_agrees;
}

-- a school with another number of lists than it was founded with is none
pub two_lists : IsSchool school.records (attempt_of_ann ∷ [] ∷ []) → ⊥
two_lists s = true≢false (ap (λ (o : Option ℕ). unwrap_or (option_map (λ n. n == 1) o) false) s.founded)

-- ---- a start whose bound has another max mark: it is allowed, and disagrees

abbrev bound_of_3 : Bound
bound_of_3 = record bound_at_7 { max = pos 30000000 }

abbrev pub other_start : Record
other_start = anns 110 (codes "k1") (event.Started 1 1 Deferred (bound_of_3 ∷ []) (sky_1 ∷ []))

pub other_start_is_allowed : IsAllowed 0 1 [] other_start
other_start_is_allowed = record {
  owner = refl;
  moment = refl;
  key = refl;
  event = record {
    is_put = record {
      user = ann;
      plan = record plan_at_7 { slots = record { entry = 1; version = 1; max = pos 30000000 } ∷ [] };
      ask = asked_with (codes "ann") (codes "k1") (request.Start 1);
      keyed = refl;
      by_caller = refl;
      under_terms = refl;
      of_quiz = refl;
      when_ready = refl;
      granted = refl;
      put = refl;
    };
    learns = refl;
    above_floor = refl;
    at_terms = refl;
  };
}

abbrev first_is_of_3 : List Bound → Bool
first_is_of_3 [] = false
first_is_of_3 (b ∷ bs) = int_eq b.max (pos 30000000)

abbrev at_of : Option Terms → ℕ
at_of None = 0
at_of (Some t) = t.at

pub other_start_disagrees : Agrees school.records [] other_start → ⊥
other_start_disagrees a =
    let its = a.event.its_terms in
    let at : 7 ≡ its.terms.at = ap at_of its.terms_are in
    let plan_is : Some plan_at_7 ≡ Some its.plan = subst (λ (n : ℕ). catalog.plan (take n school.records) 1 2 ≡ Some its.plan) (sym at) its.plan_is in
    let same : plan_at_7 ≡ its.plan = cc in
    let bounds : bound_of_3 ∷ [] ≡ map (bind its.terms.at) plan_at_7.slots = subst (λ (p : Plan). bound_of_3 ∷ [] ≡ map (bind its.terms.at) p.slots) (sym same) a.event.bounds_are in
    true≢false (ap first_is_of_3 bounds)

none_agree : (c : List Record) → AllAgree c []
none_agree c = record { each = each-behind (Agrees c) [] [] tt }

pub it_is_altered : IsAltered school.records (other_start ∷ []) 1
it_is_altered = record { before = []; own = other_start; rest = []; list = refl; agree = none_agree school.records; within = refl; disagrees = other_start_disagrees; at = refl }

-- ---- the positions that a record names, and one past the catalogue's end

pub of_a_start : positions start_record ≡ 7 ∷ 7 ∷ []
of_a_start = refl

pub of_a_save : positions save_record ≡ 7 ∷ []
of_a_save = refl

pub of_a_rebound : positions rebind_record ≡ 9 ∷ []
of_a_rebound = refl

pub of_a_job_done : positions done_record ≡ 9 ∷ []
of_a_job_done = refl

pub of_a_skipped : positions skip_record ≡ []
of_a_skipped = refl

abbrev later_start : Record
later_start = record start_record { terms = Some (record { at = 9; settings = default_settings }); event = event.Started 1 1 Deferred (record bound_at_7 { at = 9 } ∷ []) (sky_1 ∷ []) }

-- this catalogue has four records
pub it_is_behind : IsBehind with_sky.records (later_start ∷ []) 9
it_is_behind = record { before = []; own = later_start; rest = []; list = refl; agree = none_agree with_sky.records; past = refl }

pub not_behind : past_end school.records start_record ≡ None
not_behind = refl

-- ---- a job binds its first target before its second

abbrev bobs_attempt : AttemptId
bobs_attempt = record { user = 3; nth = 1 }

abbrev bobs_start : Record
bobs_start = record { moment = 115; caller = 3; owner = 3; key = Some (codes "k1"); terms = start_record.terms; event = event.Started 1 1 Deferred (bound_at_7 ∷ []) [] }

abbrev second_target : Record
second_target = record rebind_record { owner = 3; event = event.Rebound 1 bobs_attempt 1 bound_at_9 (sky_2 ∷ []) }

abbrev both_started : List Record
both_started = start_record ∷ bobs_start ∷ []

abbrev is_bobs : Option (AttemptId × ℕ) → Bool
is_bobs None = false
is_bobs (Some t) = t.0.user == 3

pub not_the_second : IsAllowed 0 1 both_started second_target → ⊥
not_the_second a =
    let quiz : Some 1 ≡ Some a.event.quiz = a.event.of_quiz in
    let same : 1 ≡ a.event.quiz = cc in
    let first : first_of (history.targets both_started 1 1 9) ≡ Some (bobs_attempt, 1) = subst (λ (q : ℕ). first_of (history.targets both_started 1 q 9) ≡ Some (bobs_attempt, 1)) (sym same) a.event.first in
    true≢false (sym (ap is_bobs first))

pub but_the_first : IsAllowed 0 1 both_started rebind_record
but_the_first = record {
  owner = refl;
  moment = refl;
  key = refl;
  event = record { bare = refl; undone = refl; quiz = 1; of_quiz = refl; first = refl; learns = refl; old = true_false (codes "Sky") true; newer = true_false (codes "Sky") false; old_is = refl; newer_is = refl; same = refl };
}

-- ---- records changed by hand

-- a quiz of the information behaviour is kept and allowed, though no request can make it
pub information_is_kept : KeepsEvent (event.Asked (request.Quiz (codes "Q") Information))
information_is_kept = (refl, tt)

pub information_is_allowed : IsAllowedInCatalog with_sky.records (roots (codes "q1") (request.Quiz (codes "Q") Information))
information_is_allowed = record { owner = refl; terms = refl; moment = refl; event = record { user = root; by_caller = refl; kept = refl; keyed = refl; granted = refl } }

-- a shape of no kind is kept and allowed too, and disagrees
abbrev of_no_kind : Shape
of_no_kind = record { kind = 8; first = 2; second = 0 }

abbrev other_skip : Record
other_skip = record skip_record { event = event.Skipped 1 first_attempt 1 of_three of_no_kind }

pub other_skip_is_kept : IsKept other_skip
other_skip_is_kept = record { moment = refl; terms = refl; settings = refl; event = tt }

pub other_skip_is_allowed : IsAllowed 0 1 (pick_record ∷ submit_record ∷ []) other_skip
other_skip_is_allowed = record { owner = refl; moment = refl; key = refl; event = record { bare = refl; undone = refl; unskipped = refl; old = three; old_is = refl; bound_is = refl; other = refl } }

abbrev is_of_no_kind : Option Shape → Bool
is_of_no_kind None = false
is_of_no_kind (Some s) = s.kind == 8

pub other_skip_disagrees : Agrees with_job.records (pick_record ∷ submit_record ∷ []) other_skip → ⊥
other_skip_disagrees a =
    let job_is : Some the_job ≡ Some a.event.its_job.job = a.event.its_job.job_is in
    let same : the_job ≡ a.event.its_job.job = cc in
    let newer : option_map shape (at_place the_job.plan.questions 1) ≡ Some of_no_kind = subst (λ (j : Job). option_map shape (at_place j.plan.questions 1) ≡ Some of_no_kind) (sym same) a.event.newer_is in
    true≢false (sym (ap is_of_no_kind newer))

-- terms stand in no record of a job
pub done_with_terms : IsKept (record done_record { terms = start_record.terms }) → ⊥
done_with_terms kept = true≢false kept.terms
