-- When an attempt may start, be answered and be finished: settings, what is set otherwise, the moment that is due.
use Rattle.std.specs.List.{list_any}
use Rattle.std.specs.Prelude.{ℕ, ◌+◌, min, Bool, false, not, ◌&&◌, List, [], ◌∷◌, if◌then◌else◌, nat_lt, nat_le, ◌==◌, Some, None, filter_map, Option, unwrap_or, option_map, option_and_then}
use Rattle.qz_grading.specs.declared.refusal.AttemptId.{AttemptId}
use Rattle.qz_grading.specs.declared.refusal.Refusal.{Refusal}
use Rattle.qz_grading.specs.declared.refusal.Refusal.TheVariants as refusal
use Rattle.qz_grading.specs.Behaviours.{first_some, when}
use Rattle.qz_terms.specs.declared.access.Handling.{Handling}
use Rattle.qz_terms.specs.declared.access.Handling.TheVariants as handling
use Rattle.qz_terms.specs.declared.access.Override.{Override}
use Rattle.qz_terms.specs.declared.access.Review.TheVariants as review
use Rattle.qz_terms.specs.declared.access.Settings.{Settings}
use Rattle.qz_terms.specs.declared.record.How.{How}
use Rattle.qz_terms.specs.declared.record.How.TheVariants as how
use Rattle.qz_terms.specs.Lists.{greatest, least}

-- ---- settings

-- those of a new quiz
abbrev pub default_settings : Settings
default_settings = record { opens = 0; closes = 0; limit = 0; allowed = 0; handling = handling.AutoSubmit; grace = 0; review = review.Always }

-- the most lenient of several ends, times or numbers: none at all (0) where it is there, else the greatest
abbrev pub longest : List ℕ → Option ℕ
longest values = if list_any (λ n. n == 0) values then Some 0 else greatest values

-- what is set for the user counts, else the most lenient of what is set for the groups, else the quiz's own
abbrev pub chosen : Option ℕ → Option ℕ → ℕ → ℕ
chosen user groups quiz = unwrap_or user (unwrap_or groups quiz)

-- each setting by itself; the most lenient opening is the earliest
abbrev pub effective : Settings → Option Override → List Override → Settings
effective quiz user groups = record quiz {
  opens = chosen (option_and_then (λ (o : Override). o.opens) user) (least (filter_map (λ (o : Override). o.opens) groups)) quiz.opens;
  closes = chosen (option_and_then (λ (o : Override). o.closes) user) (longest (filter_map (λ (o : Override). o.closes) groups)) quiz.closes;
  limit = chosen (option_and_then (λ (o : Override). o.limit) user) (longest (filter_map (λ (o : Override). o.limit) groups)) quiz.limit;
  allowed = chosen (option_and_then (λ (o : Override). o.allowed) user) (longest (filter_map (λ (o : Override). o.allowed) groups)) quiz.allowed;
}

-- ---- due

-- 0 stands for none
abbrev pub if_set : ℕ → ℕ → Option ℕ
if_set setting moment = if setting == 0 then None else Some moment

abbrev pub lesser : Option ℕ → Option ℕ → Option ℕ
lesser None b = b
lesser (Some a) None = Some a
lesser (Some a) (Some b) = Some (min a b)

-- the lesser of the end of the quiz and the end of the time, of those that are set
abbrev pub due : Settings → ℕ → Option ℕ
due s start = lesser (if_set s.closes s.closes) (if_set s.limit (start + s.limit))

abbrev pub is_past : Option ℕ → ℕ → Bool
is_past None moment = false
is_past (Some end) moment = nat_lt end moment

abbrev pub grace_under : Handling → ℕ → ℕ
grace_under handling.GracePeriod grace = grace
grace_under h grace = 0

-- how much longer an attempt may be finished
abbrev pub grace_of : Settings → ℕ
grace_of s = grace_under s.handling s.grace

abbrev pub expired : Settings → ℕ → ℕ → Bool
expired s start moment = is_past (option_map (λ d. d + grace_of s) (due s start)) moment

-- how settling ends an attempt that is expired
abbrev pub settled_by : Handling → How
settled_by handling.AutoSubmit = how.Finished
settled_by handling.GracePeriod = how.Abandoned
settled_by handling.AutoAbandon = how.Abandoned

-- ---- refusals, in order

abbrev pub closed_at : Option ℕ → Option Refusal
closed_at ended = option_map refusal.Closed ended

abbrev pub late : Bool → Option ℕ → Option Refusal
late is_late due = if is_late then option_map refusal.Late due else None

-- of a start, with the attempts made so far and the first of them that goes on
abbrev pub start_cause : Settings → Bool → ℕ → ℕ → Option AttemptId → Option Refusal
start_cause s ready moment made unfinished = first_some (
    when (not ready) (refusal.NotOpen 0)
    ∷ when (nat_lt moment s.opens) (refusal.NotOpen s.opens)
    ∷ late (is_past (if_set s.closes s.closes) moment) (Some s.closes)
    ∷ when (not (s.allowed == 0) && nat_le s.allowed made) (refusal.NoAttemptsLeft s.allowed)
    ∷ option_map refusal.Unfinished unfinished
    ∷ [])

-- of an answer, in an attempt that started at this moment and ended at this place, if it did
abbrev pub answer_cause : Settings → ℕ → ℕ → Option ℕ → Option Refusal
answer_cause s start moment ended = first_some (late (is_past (due s start) moment) (due s start) ∷ closed_at ended ∷ [])

-- of a finish, which may come later under a grace period
abbrev pub finish_cause : Settings → ℕ → ℕ → Option ℕ → Option Refusal
finish_cause s start moment ended = first_some (late (expired s start moment) (due s start) ∷ closed_at ended ∷ [])
