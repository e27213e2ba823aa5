-- Worked ranges: what records keep, and what they don't.
use Rattle.std.specs.Prelude.{◌≡◌, ℕ, Bool, true, false, ◌&&◌, nat_le, List, [], ◌∷◌, map, length, replicate, sum_by, pos, negsuc, Some, None, codes, refl}
use Rattle.std.specs.List.{list_all}
use Rattle.std.proofs.Common.{ap, ◌∙◌, leb-true, sym, true≢false}
use Rattle.std.proofs.lemmas.List.Elements.{All-cons, All-nil}
use Rattle.qz_grading.specs.declared.outcome.Behaviour.TheVariants.{Deferred}
use Rattle.qz_grading.specs.declared.response.Answer.TheVariants as answer
use Rattle.qz_grading.specs.declared.question.Question.{Question}
use Rattle.qz_grading.specs.declared.response.Response.{Response}
use Rattle.qz_grading.specs.declared.response.Step.TheVariants as step
use Rattle.qz_grading.specs.Canonical.{canonical_size}
use Rattle.qz_grading.specs.Questions.{IsQuestion, texts}
use Rattle.qz_terms.specs.declared.access.Handling.TheVariants as handling
use Rattle.qz_terms.specs.declared.access.Review.TheVariants as review
use Rattle.qz_terms.specs.declared.access.Settings.{Settings}
use Rattle.qz_terms.specs.declared.grades.Method.TheVariants as method
use Rattle.qz_terms.specs.declared.plan.Bound.{Bound}
use Rattle.qz_terms.specs.declared.people.Role.TheVariants as role
use Rattle.qz_terms.specs.declared.record.Event.TheVariants as event
use Rattle.qz_terms.specs.declared.record.Learned.{Learned}
use Rattle.qz_terms.specs.declared.request.Request.TheVariants as request
use Rattle.qz_terms.specs.declared.request.Whom.TheVariants as whom
use Rattle.qz_terms.specs.CatalogAnswer.{keeps_record}
use Rattle.qz_terms_examples.specs.ExamplesAllowed.{mark_record, noted_record, skip_record}
use Rattle.qz_terms_examples.specs.ExamplesLegal.{bound_at_7, done_record, finish_record, rebind_record, save_record, start_record}
use Rattle.qz_terms_examples.specs.ExamplesSchool.{one_of, true_false}
use Rattle.qz_terms.specs.Kept.{AreQuestions, IsKept, KeepsEvent, KeepsRequest, are_hints, are_settings, if_there, is_allowed, is_answer, is_bound, is_duration, is_moment, is_penalty, is_quiz_grade, is_step}

-- ---- numbers, at their greatest and past it

pub greatest_moment : is_moment 4102444799 ≡ true
greatest_moment = refl

pub past_all_moments : is_moment 4102444800 ≡ false
past_all_moments = refl

-- a year
pub longest : is_duration 31536000 ≡ true
longest = refl

pub too_long : is_duration 31536001 ≡ false
too_long = refl

pub most_attempts : is_allowed 1000 ≡ true
most_attempts = refl

pub too_many_attempts : is_allowed 1001 ≡ false
too_many_attempts = refl

pub what_isnt_set : if_there is_allowed None ≡ true
what_isnt_set = refl

pub what_is_set : if_there is_allowed (Some 1001) ≡ false
what_is_set = refl

pub greatest_grade : is_quiz_grade (pos 1000000000) ≡ true
greatest_grade = refl

pub too_great_a_grade : is_quiz_grade (pos 1000000001) ≡ false
too_great_a_grade = refl

pub grade_below_0 : is_quiz_grade (negsuc 0) ≡ false
grade_below_0 = refl

pub greatest_max : is_bound (record bound_at_7 { max = pos 100000000000 }) ≡ true
greatest_max = refl

pub too_great_a_max : is_bound (record bound_at_7 { max = pos 100000000001 }) ≡ false
too_great_a_max = refl

pub max_below_0 : is_bound (record bound_at_7 { max = negsuc 0 }) ≡ false
max_below_0 = refl

pub greatest_penalty : is_penalty (pos 10000000) ≡ true
greatest_penalty = refl

pub too_great_a_penalty : is_penalty (pos 10000001) ≡ false
too_great_a_penalty = refl

pub penalty_below_0 : is_penalty (negsuc 0) ≡ false
penalty_below_0 = refl

-- each setting by itself
abbrev widest : Settings
widest = record { opens = 4102444799; closes = 4102444799; limit = 31536000; allowed = 1000; handling = handling.GracePeriod; grace = 31536000; review = review.Close }

pub all_in_range : are_settings widest ≡ true
all_in_range = refl

pub opens_too_late : are_settings (record widest { opens = 4102444800 }) ≡ false
opens_too_late = refl

pub closes_too_late : are_settings (record widest { closes = 4102444800 }) ≡ false
closes_too_late = refl

pub limit_too_long : are_settings (record widest { limit = 31536001 }) ≡ false
limit_too_long = refl

pub allows_too_many : are_settings (record widest { allowed = 1001 }) ≡ false
allows_too_many = refl

pub grace_too_long : are_settings (record widest { grace = 31536001 }) ≡ false
grace_too_long = refl

-- ---- hints and answers

pub twenty_hints : are_hints (replicate 20 (codes "x")) ≡ true
twenty_hints = refl

pub too_many_hints : are_hints (replicate 21 (codes "x")) ≡ false
too_many_hints = refl

pub longest_hint : are_hints (replicate 4096 120 ∷ []) ≡ true
longest_hint = refl

pub too_long_a_hint : are_hints (replicate 4097 120 ∷ []) ≡ false
too_long_a_hint = refl

abbrev typed : List ℕ → Response
typed text = record { answer = answer.Words text; certainty = 0 }

-- of a text its length is kept
pub longest_text : (text : List ℕ) → length text ≡ 65536 → is_answer (answer.Words text) ≡ true
longest_text text count = ap (λ n. nat_le n 65536) count

pub too_long_a_text : (text : List ℕ) → length text ≡ 65537 → is_answer (answer.Words text) ≡ false
too_long_a_text text count = ap (λ n. nat_le n 65536) count

pub of_each_step : (text : List ℕ) → length text ≡ 65537 → map is_step (step.Save (typed text) ∷ step.Submit (typed text) ∷ []) ≡ false ∷ false ∷ []
of_each_step text count = ap (λ n. nat_le n 65536 ∷ nat_le n 65536 ∷ []) count

-- a start has at most 200 slots, each with its bound
pub too_many_slots : (quiz nth : ℕ) (bounds : List Bound) (learned : List Learned) → length bounds ≡ 201 → KeepsEvent (event.Started quiz nth Deferred bounds learned) → ⊥
too_many_slots quiz nth bounds learned count kept = true≢false (sym kept.0 ∙ ap (λ n. nat_le n 200 && list_all is_bound bounds) count)

pub a_bad_bound : KeepsEvent (event.Started 1 1 Deferred (record bound_at_7 { max = negsuc 0 } ∷ []) []) → ⊥
a_bad_bound kept = true≢false (sym kept.0)

-- nothing is kept of a choice
pub any_choice : is_answer (answer.Pick 255) ≡ true
any_choice = refl

-- ---- questions

abbrev sky : Bool → Question
sky right = true_false (codes "Sky") right

sound : (right : Bool) → IsQuestion (sky right)
sound right = record {
  kind = record { few = leb-true 0 64 refl; enough = leb-true 0 0 refl; numbers = refl; no_blank = refl; right_choice = refl; stem = refl };
  penalty = (record { le = tt }, record { le = tt });
  lengths = refl;
  few_hints = leb-true 0 20 refl;
  hints = refl;
  together = leb-true 6 262144 refl;
}

-- its texts count together, and not its canonical text
pub six_bytes : sum_by length (texts (sky true)) ≡ 6
six_bytes = refl

pub eighteen_in_canonical_text : canonical_size (sky true) ≡ 18
eighteen_in_canonical_text = refl

one_sound : (right : Bool) → AreQuestions (sky right ∷ [])
one_sound right = All-cons IsQuestion (sky right) [] (sound right) (All-nil IsQuestion)

-- ---- records of a shard

pub start_is_kept : IsKept start_record
start_is_kept = record { moment = refl; terms = refl; settings = refl; event = (refl, one_sound true) }

pub save_is_kept : IsKept save_record
save_is_kept = record { moment = refl; terms = refl; settings = refl; event = refl }

pub noted_is_kept : IsKept noted_record
noted_is_kept = record { moment = refl; terms = refl; settings = refl; event = refl }

pub mark_is_kept : IsKept mark_record
mark_is_kept = record { moment = refl; terms = refl; settings = refl; event = refl }

pub finish_is_kept : IsKept finish_record
finish_is_kept = record { moment = refl; terms = refl; settings = refl; event = tt }

pub rebind_is_kept : IsKept rebind_record
rebind_is_kept = record { moment = refl; terms = refl; settings = refl; event = (refl, one_sound false) }

pub skip_is_kept : IsKept skip_record
skip_is_kept = record { moment = refl; terms = refl; settings = refl; event = tt }

pub done_is_kept : IsKept done_record
done_is_kept = record { moment = refl; terms = refl; settings = refl; event = tt }

-- ---- records of the catalogue

pub sixty_four_shards : KeepsEvent (event.Founded 64 (codes "root"))
sixty_four_shards = refl

pub no_more_shards : KeepsEvent (event.Founded 65 (codes "root")) → ⊥
no_more_shards kept = true≢false (sym kept)

pub no_fewer_than_one : KeepsEvent (event.Founded 0 (codes "root")) → ⊥
no_fewer_than_one kept = true≢false (sym kept)

-- an import keeps its questions
pub import_is_kept : KeepsEvent (event.Asked (request.Import (one_of (sky true))))
import_is_kept = (refl, one_sound true)

pub edit_is_kept : KeepsEvent (event.Asked (request.Edit 1 (sky false)))
edit_is_kept = (refl, sound false)

pub tune_is_kept : KeepsRequest (request.Tune 1 (pos 5000000) (codes "Look up" ∷ []))
tune_is_kept = refl

pub tune_is_not : KeepsRequest (request.Tune 1 (pos 10000001) []) → ⊥
tune_is_not kept = true≢false (sym kept)

pub policy_is_kept : KeepsRequest (request.Policy 1 method.First (pos 1000000))
policy_is_kept = refl

pub policy_is_not : KeepsRequest (request.Policy 1 method.First (pos 1000000001)) → ⊥
policy_is_not kept = true≢false (sym kept)

pub times_are_kept : KeepsRequest (request.Times 1 0 200 0 1 handling.GracePeriod 30 review.Always)
times_are_kept = refl

pub times_are_not : KeepsRequest (request.Times 1 0 4102444800 0 1 handling.GracePeriod 30 review.Always) → ⊥
times_are_not kept = true≢false (sym kept)

pub override_is_kept : KeepsRequest (request.Override 1 whom.User 2 None (Some 300) (Some 60) None)
override_is_kept = refl

pub override_is_not : KeepsRequest (request.Override 1 whom.User 2 None None (Some 31536001) None) → ⊥
override_is_not kept = true≢false (sym kept)

-- the names and tokens of users have no test here, and a look has no record
pub any_user : KeepsEvent (event.Asked (request.User [] role.Student []))
any_user = (refl, tt)

pub no_look : keeps_record (request.Bank 1 1) ≡ false
no_look = refl

pub no_jobs : keeps_record request.Jobs ≡ false
no_jobs = refl
