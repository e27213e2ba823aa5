-- What every record keeps: the ranges of its numbers, the lengths of its texts, and the conditions on its questions. Names,
-- tokens, keys and the max marks that are asked for have no test here. Bytes of anything else spell no record.
use Rattle.std.specs.List.{list_all}
use Rattle.std.specs.Prelude.{◌≡◌, ℕ, ◌*◌, Bool, true, false, ◌&&◌, List, map, length, ℤ, pos, nat_le, ◌==◌, int_le, is_some, Option, unwrap_or, option_map, All}
use Rattle.qz_decimal.specs.Numbers.{grade_one, one}
use Rattle.qz_grading.specs.declared.limits.TheConstants.{MOST_HINT, MOST_HINTS, MOST_TEXT}
use Rattle.qz_grading.specs.declared.question.Item.{Item}
use Rattle.qz_grading.specs.declared.question.Kind.{Kind}
use Rattle.qz_grading.specs.declared.question.Kind.TheVariants as kind
use Rattle.qz_grading.specs.declared.question.Question.{Question}
use Rattle.qz_grading.specs.declared.response.Answer.{Answer}
use Rattle.qz_grading.specs.declared.response.Answer.TheVariants as answer
use Rattle.qz_grading.specs.declared.response.Response.{Response}
use Rattle.qz_grading.specs.declared.response.Step.{Step}
use Rattle.qz_grading.specs.declared.response.Step.TheVariants as step
use Rattle.qz_grading.specs.Questions.{IsQuestion, are_no_longer}
use Rattle.qz_terms.specs.declared.access.Settings.{Settings}
use Rattle.qz_terms.specs.declared.limits.TheConstants.{GREATEST_MOMENT, LONGEST_DURATION, MOST_ALLOWED, MOST_SHARDS, MOST_SLOTS}
use Rattle.qz_terms.specs.declared.plan.Bound.{Bound}
use Rattle.qz_terms.specs.declared.plan.Plan.{Plan}
use Rattle.qz_terms.specs.declared.plan.Planned.{Planned}
use Rattle.qz_terms.specs.declared.record.Event.{Event}
use Rattle.qz_terms.specs.declared.record.Event.TheVariants as event
use Rattle.qz_terms.specs.declared.record.Learned.{Learned}
use Rattle.qz_terms.specs.declared.record.Record.{Record}
use Rattle.qz_terms.specs.declared.record.Terms.{Terms}
use Rattle.qz_terms.specs.declared.request.Request.{Request}
use Rattle.qz_terms.specs.declared.request.Request.TheVariants as request
use Rattle.qz_terms.specs.CatalogAnswer.{keeps_record}

-- ---- numbers

abbrev pub is_moment : ℕ → Bool
is_moment n = nat_le n GREATEST_MOMENT

abbrev pub is_duration : ℕ → Bool
is_duration n = nat_le n LONGEST_DURATION

abbrev pub is_allowed : ℕ → Bool
is_allowed n = nat_le n MOST_ALLOWED

abbrev pub if_there : (ℕ → Bool) → Option ℕ → Bool
if_there p o = unwrap_or (option_map p o) true

abbrev pub are_settings : Settings → Bool
are_settings s = is_moment s.opens && (is_moment s.closes && (is_duration s.limit && (is_allowed s.allowed && is_duration s.grace)))

abbrev pub is_quiz_grade : ℤ → Bool
is_quiz_grade g = int_le (pos 0) g && int_le g (pos (10000 * grade_one))

abbrev pub is_bound : Bound → Bool
is_bound b = int_le (pos 0) b.max && int_le b.max (pos (10000 * one))

-- ---- responses

-- of a response only the length of its text is kept
abbrev pub is_answer : Answer → Bool
is_answer (answer.Words text) = nat_le (length text) MOST_TEXT
is_answer a = true

abbrev pub is_response : Response → Bool
is_response r = is_answer r.answer

abbrev pub is_step : Step → Bool
is_step (step.Save r) = is_response r
is_step (step.Submit r) = is_response r
is_step x = true

-- ---- questions

abbrev pub are_hints : List (List ℕ) → Bool
are_hints hints = nat_le (length hints) MOST_HINTS && are_no_longer MOST_HINT hints

abbrev pub is_penalty : ℤ → Bool
is_penalty p = int_le (pos 0) p && int_le p (pos one)

abbrev pub AreQuestions : List Question → Type 0
AreQuestions qs = All IsQuestion qs

abbrev pub AreLearned : List Learned → Type 0
AreLearned ls = AreQuestions (map (λ (l : Learned). l.question) ls)

-- ---- records

-- what a request to the catalogue keeps beside; any other has no record of its own
abbrev pub KeepsRequest : Request → Type 0
KeepsRequest (request.Import gift) = AreQuestions (map (λ (i : Item). i.question) gift.items)
KeepsRequest (request.Edit entry gift) = IsQuestion gift
KeepsRequest (request.Tune entry penalty hints) = is_penalty penalty && are_hints hints ≡ true
KeepsRequest (request.Policy quiz method grade) = is_quiz_grade grade ≡ true
KeepsRequest (request.Times quiz opens closes limit allowed handling grace review) = are_settings (record { opens = opens; closes = closes; limit = limit; allowed = allowed; handling = handling; grace = grace; review = review }) ≡ true
KeepsRequest (request.Override quiz whom number opens closes limit allowed) = if_there is_moment opens && (if_there is_moment closes && (if_there is_duration limit && if_there is_allowed allowed)) ≡ true
KeepsRequest x = Unit {0}

abbrev pub KeepsEvent : Event → Type 0
KeepsEvent (event.Founded shards token) = nat_le 1 shards && nat_le shards MOST_SHARDS ≡ true
KeepsEvent (event.Asked x) = (keeps_record x ≡ true) × KeepsRequest x
KeepsEvent (event.Started quiz nth behaviour bounds learned) = (nat_le (length bounds) MOST_SLOTS && list_all is_bound bounds ≡ true) × AreLearned learned
KeepsEvent (event.Acted a k x) = is_step x ≡ true
KeepsEvent (event.Noted a k x) = is_step x ≡ true
KeepsEvent (event.Ended a how) = Unit {0}
KeepsEvent (event.Rebound job a k bound learned) = (is_bound bound ≡ true) × AreLearned learned
KeepsEvent (event.Skipped job a k bound newer) = Unit {0}
KeepsEvent (event.JobDone job quiz position) = Unit {0}

-- terms stand exactly in the records of a start, a step and an end
abbrev pub has_terms : Event → Bool
has_terms (event.Started quiz nth behaviour bounds learned) = true
has_terms (event.Acted a k x) = true
has_terms (event.Noted a k x) = true
has_terms (event.Ended a how) = true
has_terms e = false

pub record IsKept (r : Record) : Type 0 where
  pub moment : is_moment r.moment ≡ true
  pub terms : is_some r.terms ≡ has_terms r.event
  pub settings : unwrap_or (option_map (λ (t : Terms). are_settings t.settings) r.terms) true ≡ true
  pub event : KeepsEvent r.event

-- ---- what is handed over with a request

-- what every request keeps, also one that no record is made of
abbrev pub KeepsAsked : Request → Type 0
KeepsAsked (request.Save attempt slot certainty response) = is_answer response ≡ true
KeepsAsked (request.Submit attempt slot certainty response) = is_answer response ≡ true
KeepsAsked x = KeepsRequest x

-- A description has no general feedback, since none is written in its canonical text: so the limit of that text is one of its texts.
abbrev pub described_by : Kind → List ℕ → Bool
described_by kind.Description general = length general == 0
described_by k general = true

abbrev pub is_described : Question → Bool
is_described q = described_by q.kind q.general.text

-- what every request keeps that brings questions
abbrev pub asks_described : Request → Bool
asks_described (request.Import gift) = list_all (λ (i : Item). is_described i.question) gift.items
asks_described (request.Edit entry gift) = is_described gift
asks_described x = true

abbrev pub is_planned : Planned → Bool
is_planned s = int_le (pos 0) s.max && int_le s.max (pos (10000 * one))

-- what every plan keeps
pub record IsKeptPlan (p : Plan) : Type 0 where
  pub settings : are_settings p.settings ≡ true
  pub few : nat_le (length p.slots) MOST_SLOTS ≡ true
  pub slots : list_all is_planned p.slots ≡ true
  pub grade : is_quiz_grade p.policy.grade ≡ true
  pub sum : int_le (pos 0) p.policy.sum && int_le p.policy.sum (pos (2000000 * one)) ≡ true
  pub questions : AreQuestions p.questions
