-- Worked settings: what is due, what is set otherwise, and what settings refuse.
use Rattle.std.specs.Prelude.{◌≡◌, ℕ, true, false, List, [], ◌∷◌, map, replicate, Some, None, refl}
use Rattle.qz_grading.specs.declared.outcome.State.TheVariants as state
use Rattle.qz_grading.specs.declared.refusal.Refusal.TheVariants as refusal
use Rattle.qz_terms.specs.declared.access.Handling.{Handling}
use Rattle.qz_terms.specs.declared.access.Handling.TheVariants as handling
use Rattle.qz_terms.specs.declared.access.Override.{Override}
use Rattle.qz_terms.specs.declared.access.Review.{Review}
use Rattle.qz_terms.specs.declared.access.Review.TheVariants as review
use Rattle.qz_terms.specs.declared.access.Settings.{Settings}
use Rattle.qz_terms.specs.declared.people.Role.TheVariants as role
use Rattle.qz_terms.specs.declared.request.Request.{Request}
use Rattle.qz_terms.specs.declared.request.Request.TheVariants as request
use Rattle.qz_terms.specs.Access.{answer_cause, due, effective, expired, finish_cause, start_cause}
use Rattle.qz_terms.specs.Catalog.{worker}
use Rattle.qz_terms.specs.Cause.{may_ask, role_may, rule_of}
use Rattle.qz_terms.specs.Review.{shown_state, shows_grade, shows_marks}

abbrev limited : ℕ → ℕ → Handling → ℕ → Settings
limited closes limit h grace = record { opens = 50; closes = closes; limit = limit; allowed = 2; handling = h; grace = grace; review = review.Always }

abbrev none_set : Override
none_set = record { opens = None; closes = None; limit = None; allowed = None }

-- ---- due

pub time_ends_first : due (limited 200 60 handling.AutoSubmit 0) 100 ≡ Some 160
time_ends_first = refl

pub quiz_closes_first : due (limited 200 600 handling.AutoSubmit 0) 100 ≡ Some 200
quiz_closes_first = refl

pub never_due : due (limited 0 0 handling.AutoSubmit 0) 100 ≡ None
never_due = refl

-- at the due moment it isn't expired; grace counts under a grace period alone
pub not_yet : expired (limited 200 0 handling.AutoSubmit 30) 100 200 ≡ false
not_yet = refl

pub a_moment_later : expired (limited 200 0 handling.AutoSubmit 30) 100 201 ≡ true
a_moment_later = refl

pub in_grace : expired (limited 200 0 handling.GracePeriod 30) 100 230 ≡ false
in_grace = refl

pub out_of_grace : expired (limited 200 0 handling.GracePeriod 30) 100 231 ≡ true
out_of_grace = refl

pub no_grace_for_others : expired (limited 200 0 handling.AutoAbandon 30) 100 201 ≡ true
no_grace_for_others = refl

-- ---- what is set otherwise

-- the earliest opening, the latest closing, no limit at all, the most attempts
pub most_lenient :
    effective (limited 200 60 handling.AutoSubmit 0) None (record none_set { opens = Some 40; closes = Some 300; limit = Some 0; allowed = Some 3 } ∷ record none_set { opens = Some 30; closes = Some 250; limit = Some 90; allowed = Some 5 } ∷ [])
    ≡ record { opens = 30; closes = 300; limit = 0; allowed = 5; handling = handling.AutoSubmit; grace = 0; review = review.Always }
most_lenient = refl

-- the user's own counts where it is set, also where it is less lenient; groups count where they set something
pub users_own :
    effective (limited 200 60 handling.AutoSubmit 0) (Some (record none_set { limit = Some 10 })) (record none_set { limit = Some 0; closes = Some 150 } ∷ [])
    ≡ record { opens = 50; closes = 150; limit = 10; allowed = 2; handling = handling.AutoSubmit; grace = 0; review = review.Always }
users_own = refl

-- ---- refusals in order

pub not_ready_first : start_cause (limited 200 0 handling.AutoSubmit 0) false 300 2 None ≡ Some (refusal.NotOpen 0)
not_ready_first = refl

pub not_open_yet : start_cause (limited 200 0 handling.AutoSubmit 0) true 49 2 None ≡ Some (refusal.NotOpen 50)
not_open_yet = refl

pub closed_before_count : start_cause (limited 200 0 handling.AutoSubmit 0) true 201 2 None ≡ Some (refusal.Late 200)
closed_before_count = refl

pub count_before_unfinished : start_cause (limited 200 0 handling.AutoSubmit 0) true 200 2 (Some (record { user = 2; nth = 1 })) ≡ Some (refusal.NoAttemptsLeft 2)
count_before_unfinished = refl

pub one_is_unfinished : start_cause (limited 200 0 handling.AutoSubmit 0) true 50 1 (Some (record { user = 2; nth = 1 })) ≡ Some (refusal.Unfinished (record { user = 2; nth = 1 }))
one_is_unfinished = refl

pub may_start : start_cause (limited 200 0 handling.AutoSubmit 0) true 200 1 None ≡ None
may_start = refl

-- late comes before closed, and a finish may come in grace
pub late_before_closed : answer_cause (limited 200 0 handling.GracePeriod 30) 100 201 (Some 3) ≡ Some (refusal.Late 200)
late_before_closed = refl

pub closed_in_time : answer_cause (limited 200 0 handling.GracePeriod 30) 100 200 (Some 3) ≡ Some (refusal.Closed 3)
closed_in_time = refl

pub finish_in_grace : finish_cause (limited 200 0 handling.GracePeriod 30) 100 230 None ≡ None
finish_in_grace = refl

pub finish_late : finish_cause (limited 200 0 handling.GracePeriod 30) 100 231 None ≡ Some (refusal.Late 200)
finish_late = refl

-- ---- what is shown

abbrev shows : Review → ℕ → Settings
shows r closes = record { opens = 0; closes = closes; limit = 0; allowed = 0; handling = handling.AutoSubmit; grace = 0; review = r }

pub always_shown : shows_marks (shows review.Always 200) false 100 ≡ true
always_shown = refl

pub at_finish_not_before : shows_marks (shows review.Finish 200) false 300 ≡ false
at_finish_not_before = refl

pub at_finish : shows_marks (shows review.Finish 200) true 100 ≡ true
at_finish = refl

pub at_close_not_before : shows_marks (shows review.Close 200) true 200 ≡ false
at_close_not_before = refl

pub at_close_once_ended : shows_marks (shows review.Close 200) false 201 ≡ false
at_close_once_ended = refl

pub never_closes : shows_marks (shows review.Close 0) true 100 ≡ true
never_closes = refl

pub finish_hides_no_grade : shows_grade (shows review.Finish 200) 100 ≡ true
finish_hides_no_grade = refl

pub close_hides_it : shows_grade (shows review.Close 200) 200 ≡ false
close_hides_it = refl

pub without_closing_it_is_shown : shows_grade (shows review.Close 0) 0 ≡ true
without_closing_it_is_shown = refl

pub states_behind_a_finish : map (shown_state false) (state.NeedsGrading ∷ state.GaveUp ∷ state.GradedWrong ∷ state.GradedPartial ∷ state.GradedRight ∷ state.MangrWrong ∷ state.MangrPartial ∷ state.MangrRight ∷ []) ≡ replicate 8 state.Finished
states_behind_a_finish = refl

pub states_before_it : map (shown_state false) (state.Todo ∷ state.Complete ∷ state.Invalid ∷ state.Finished ∷ []) ≡ state.Todo ∷ state.Complete ∷ state.Invalid ∷ state.Finished ∷ []
states_before_it = refl

-- ---- who may ask what: rules 1 to 5, of users and groups, of quizzes, of answers, of work, of looks

pub managers : map (role_may role.Manager) (1 ∷ 2 ∷ 3 ∷ 4 ∷ 5 ∷ []) ≡ true ∷ true ∷ false ∷ true ∷ true ∷ []
managers = refl

pub teachers : map (role_may role.Teacher) (1 ∷ 2 ∷ 3 ∷ 4 ∷ 5 ∷ []) ≡ false ∷ true ∷ false ∷ true ∷ true ∷ []
teachers = refl

pub students : map (role_may role.Student) (1 ∷ 2 ∷ 3 ∷ 4 ∷ 5 ∷ []) ≡ false ∷ false ∷ true ∷ false ∷ true ∷ []
students = refl

abbrev of_five : List Request
of_five = request.Group [] ∷ request.Ready 1 ∷ request.Finish (record { user = 2; nth = 1 }) ∷ request.Jobs ∷ request.Grade 1 2 ∷ []

pub their_rules : map rule_of of_five ≡ 1 ∷ 2 ∷ 3 ∷ 4 ∷ 5 ∷ []
their_rules = refl

pub workers : map (may_ask worker) of_five ≡ false ∷ false ∷ false ∷ true ∷ false ∷ []
workers = refl
