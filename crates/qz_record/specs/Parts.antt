-- The parts of a record, from formats and texts to events: their fields in order.
use Rattle.std.specs.Prelude.{ℕ, Bool, true, false, ◌&&◌, List, [], ◌∷◌, Option}
use Rattle.qz_grading.specs.declared.outcome.Behaviour.{Behaviour}
use Rattle.qz_grading.specs.declared.outcome.Behaviour.TheVariants as behaviour
use Rattle.qz_grading.specs.declared.question.Bank.{Bank}
use Rattle.qz_grading.specs.declared.question.Choice.{Choice}
use Rattle.qz_grading.specs.declared.question.Extent.{Extent}
use Rattle.qz_grading.specs.declared.question.Extent.TheVariants as extent
use Rattle.qz_grading.specs.declared.question.Format.{Format}
use Rattle.qz_grading.specs.declared.question.Format.TheVariants as format
use Rattle.qz_grading.specs.declared.question.Item.{Item}
use Rattle.qz_grading.specs.declared.question.Kind.{Kind}
use Rattle.qz_grading.specs.declared.question.Kind.TheVariants as kind
use Rattle.qz_grading.specs.declared.question.Num.{Num}
use Rattle.qz_grading.specs.declared.question.Pair.{Pair}
use Rattle.qz_grading.specs.declared.question.Question.{Question}
use Rattle.qz_grading.specs.declared.question.Rich.{Rich}
use Rattle.qz_grading.specs.declared.question.Shape.{Shape}
use Rattle.qz_grading.specs.declared.question.Short.{Short}
use Rattle.qz_grading.specs.declared.refusal.AttemptId.{AttemptId}
use Rattle.qz_grading.specs.declared.response.Answer.{Answer}
use Rattle.qz_grading.specs.declared.response.Answer.TheVariants as answer
use Rattle.qz_grading.specs.declared.response.Response.{Response}
use Rattle.qz_grading.specs.declared.response.Step.{Step}
use Rattle.qz_grading.specs.declared.response.Step.TheVariants as step
use Rattle.qz_terms.specs.declared.access.Handling.{Handling}
use Rattle.qz_terms.specs.declared.access.Handling.TheVariants as handling
use Rattle.qz_terms.specs.declared.access.Review.{Review}
use Rattle.qz_terms.specs.declared.access.Review.TheVariants as review
use Rattle.qz_terms.specs.declared.access.Settings.{Settings}
use Rattle.qz_terms.specs.declared.grades.Method.{Method}
use Rattle.qz_terms.specs.declared.grades.Method.TheVariants as method
use Rattle.qz_terms.specs.declared.people.Role.{Role}
use Rattle.qz_terms.specs.declared.people.Role.TheVariants as role
use Rattle.qz_terms.specs.declared.plan.Bound.{Bound}
use Rattle.qz_terms.specs.declared.record.Event.{Event}
use Rattle.qz_terms.specs.declared.record.Event.TheVariants as event
use Rattle.qz_terms.specs.declared.record.How.{How}
use Rattle.qz_terms.specs.declared.record.How.TheVariants as how
use Rattle.qz_terms.specs.declared.record.Learned.{Learned}
use Rattle.qz_terms.specs.declared.record.Record.{Record}
use Rattle.qz_terms.specs.declared.record.Terms.{Terms}
use Rattle.qz_terms.specs.declared.request.Request.{Request}
use Rattle.qz_terms.specs.declared.request.Request.TheVariants as request
use Rattle.qz_terms.specs.declared.request.Whom.{Whom}
use Rattle.qz_terms.specs.declared.request.Whom.TheVariants as whom
use Rattle.qz_record.specs.Fields.{Field, ◌⊗◌, bare, bool_field, holding, i128_field, i64_field, list_field, names, one_of, option_field, struct, text_field, u16_field, u32_field, u64_field, u8_field}

-- ---- questions

unfoldable pub format_field : Field Format
format_field = names (bare format.Moodle ∷ bare format.Html ∷ bare format.Plain ∷ bare format.Markdown ∷ [])

unfoldable pub rich_field : Field Rich
rich_field = struct (λ x. record { format = x.0; text = x.1 }) (λ r. (r.format, r.text)) (format_field ⊗ text_field)

unfoldable pub choice_field : Field Choice
choice_field = struct (λ x. record { weight = x.0.0; text = x.0.1; feedback = x.1 }) (λ c. ((c.weight, c.text), c.feedback)) (i64_field ⊗ rich_field ⊗ rich_field)

unfoldable pub pair_field : Field Pair
pair_field = struct (λ x. record { stem = x.0; answer = x.1 }) (λ p. (p.stem, p.answer)) (rich_field ⊗ text_field)

unfoldable pub short_field : Field Short
short_field = struct (λ x. record { weight = x.0.0; pattern = x.0.1; feedback = x.1 }) (λ s. ((s.weight, s.pattern), s.feedback)) (i64_field ⊗ text_field ⊗ rich_field)

abbrev pub fits_extent : Extent → Bool
fits_extent extent.Any = true
fits_extent (extent.Near centre slack) = i128_field.fits centre && i128_field.fits slack
fits_extent (extent.Between low high) = i128_field.fits low && i128_field.fits high

unfoldable pub extent_field : Field Extent
extent_field = record {
  fits = fits_extent;
  read = one_of (
      bare extent.Any
      ∷ holding (λ x. extent.Near x.0 x.1) (i128_field ⊗ i128_field)
      ∷ holding (λ x. extent.Between x.0 x.1) (i128_field ⊗ i128_field)
      ∷ []);
}

unfoldable pub num_field : Field Num
num_field = struct (λ x. record { weight = x.0.0; extent = x.0.1; feedback = x.1 }) (λ n. ((n.weight, n.extent), n.feedback)) (i64_field ⊗ extent_field ⊗ rich_field)

abbrev pub fits_kind : Kind → Bool
fits_kind (kind.TrueFalse right on_wrong on_right) = bool_field.fits right && rich_field.fits on_wrong && rich_field.fits on_right
fits_kind (kind.One choices) = (list_field choice_field).fits choices
fits_kind (kind.Several choices) = (list_field choice_field).fits choices
fits_kind (kind.Matching pairs) = (list_field pair_field).fits pairs
fits_kind (kind.ShortAnswer answers) = (list_field short_field).fits answers
fits_kind (kind.Numerical answers) = (list_field num_field).fits answers
fits_kind k = true

unfoldable pub kind_field : Field Kind
kind_field = record {
  fits = fits_kind;
  read = one_of (
      bare kind.Description
      ∷ bare kind.Essay
      ∷ holding (λ x. kind.TrueFalse x.0.0 x.0.1 x.1) (bool_field ⊗ rich_field ⊗ rich_field)
      ∷ holding (λ x. kind.One x) (list_field choice_field)
      ∷ holding (λ x. kind.Several x) (list_field choice_field)
      ∷ holding (λ x. kind.Matching x) (list_field pair_field)
      ∷ holding (λ x. kind.ShortAnswer x) (list_field short_field)
      ∷ holding (λ x. kind.Numerical x) (list_field num_field)
      ∷ []);
}

unfoldable pub question_field : Field Question
question_field = struct
    (λ x. record { name = x.0.0.0.0.0; text = x.0.0.0.0.1; general = x.0.0.0.1; kind = x.0.0.1; penalty = x.0.1; hints = x.1 })
    (λ q. (((((q.name, q.text), q.general), q.kind), q.penalty), q.hints))
    (text_field ⊗ rich_field ⊗ rich_field ⊗ kind_field ⊗ i64_field ⊗ list_field text_field)

unfoldable pub item_field : Field Item
item_field = struct (λ x. record { category = x.0; question = x.1 }) (λ i. (i.category, i.question)) (list_field text_field ⊗ question_field)

unfoldable pub bank_field : Field Bank
bank_field = struct (λ x. record { items = x }) (λ b. b.items) (list_field item_field)

unfoldable pub shape_field : Field Shape
shape_field = struct (λ x. record { kind = x.0.0; first = x.0.1; second = x.1 }) (λ s. ((s.kind, s.first), s.second)) (u8_field ⊗ u8_field ⊗ u8_field)

-- ---- steps

abbrev pub fits_answer : Answer → Bool
fits_answer answer.Blank = true
fits_answer (answer.Pick n) = u8_field.fits n
fits_answer (answer.Picks ns) = (list_field u8_field).fits ns
fits_answer (answer.Match ns) = (list_field u8_field).fits ns
fits_answer (answer.Words text) = text_field.fits text

unfoldable pub answer_field : Field Answer
answer_field = record {
  fits = fits_answer;
  read = one_of (
      bare answer.Blank
      ∷ holding (λ x. answer.Pick x) u8_field
      ∷ holding (λ x. answer.Picks x) (list_field u8_field)
      ∷ holding (λ x. answer.Match x) (list_field u8_field)
      ∷ holding (λ x. answer.Words x) text_field
      ∷ []);
}

unfoldable pub response_field : Field Response
response_field = struct (λ x. record { answer = x.0; certainty = x.1 }) (λ r. (r.answer, r.certainty)) (answer_field ⊗ u8_field)

abbrev pub fits_step : Step → Bool
fits_step (step.Save r) = response_field.fits r
fits_step (step.Submit r) = response_field.fits r
fits_step (step.Mark mark max) = i64_field.fits mark && i64_field.fits max
fits_step x = true

unfoldable pub step_field : Field Step
step_field = record {
  fits = fits_step;
  read = one_of (
      holding (λ x. step.Save x) response_field
      ∷ holding (λ x. step.Submit x) response_field
      ∷ bare step.Again
      ∷ bare step.Finish
      ∷ holding (λ x. step.Mark x.0 x.1) (i64_field ⊗ i64_field)
      ∷ []);
}

unfoldable pub behaviour_field : Field Behaviour
behaviour_field = names (bare behaviour.Deferred ∷ bare behaviour.Immediate ∷ bare behaviour.Interactive ∷ bare behaviour.Adaptive ∷ bare behaviour.AdaptiveNoPenalty ∷ bare behaviour.DeferredCbm ∷ bare behaviour.ImmediateCbm ∷ bare behaviour.Manual ∷ bare behaviour.Information ∷ [])

unfoldable pub attempt_field : Field AttemptId
attempt_field = struct (λ x. record { user = x.0; nth = x.1 }) (λ a. (a.user, a.nth)) (u32_field ⊗ u32_field)

-- ---- settings

unfoldable pub handling_field : Field Handling
handling_field = names (bare handling.AutoSubmit ∷ bare handling.GracePeriod ∷ bare handling.AutoAbandon ∷ [])

unfoldable pub review_field : Field Review
review_field = names (bare review.Always ∷ bare review.Finish ∷ bare review.Close ∷ [])

unfoldable pub method_field : Field Method
method_field = names (bare method.Highest ∷ bare method.Average ∷ bare method.First ∷ bare method.Last ∷ [])

unfoldable pub settings_field : Field Settings
settings_field = struct
    (λ x. record { opens = x.0.0.0.0.0.0; closes = x.0.0.0.0.0.1; limit = x.0.0.0.0.1; allowed = x.0.0.0.1; handling = x.0.0.1; grace = x.0.1; review = x.1 })
    (λ s. ((((((s.opens, s.closes), s.limit), s.allowed), s.handling), s.grace), s.review))
    (u64_field ⊗ u64_field ⊗ u32_field ⊗ u32_field ⊗ handling_field ⊗ u32_field ⊗ review_field)

unfoldable pub terms_field : Field Terms
terms_field = struct (λ x. record { at = x.0; settings = x.1 }) (λ t. (t.at, t.settings)) (u64_field ⊗ settings_field)

unfoldable pub bound_field : Field Bound
bound_field = struct (λ x. record { entry = x.0.0.0; version = x.0.0.1; max = x.0.1; at = x.1 }) (λ b. (((b.entry, b.version), b.max), b.at)) (u32_field ⊗ u32_field ⊗ i64_field ⊗ u64_field)

unfoldable pub learned_field : Field Learned
learned_field = struct (λ x. record { entry = x.0.0; version = x.0.1; question = x.1 }) (λ l. ((l.entry, l.version), l.question)) (u32_field ⊗ u32_field ⊗ question_field)

-- ---- requests to the catalogue

unfoldable pub role_field : Field Role
role_field = names (bare role.Manager ∷ bare role.Teacher ∷ bare role.Student ∷ [])

unfoldable pub whom_field : Field Whom
whom_field = names (bare whom.User ∷ bare whom.Group ∷ [])

-- the fourteen that the catalogue keeps; no other fits
abbrev pub fits_request : Request → Bool
fits_request (request.User name role token) = text_field.fits name && role_field.fits role && text_field.fits token
fits_request (request.Group name) = text_field.fits name
fits_request (request.Member group user) = u32_field.fits group && u32_field.fits user
fits_request (request.Import gift) = bank_field.fits gift
fits_request (request.Edit entry gift) = u32_field.fits entry && question_field.fits gift
fits_request (request.Tune entry penalty hints) = u32_field.fits entry && i64_field.fits penalty && (list_field text_field).fits hints
fits_request (request.Quiz name behaviour) = text_field.fits name && behaviour_field.fits behaviour
fits_request (request.Slot quiz entry max) = u32_field.fits quiz && u32_field.fits entry && i64_field.fits max
fits_request (request.Ready quiz) = u32_field.fits quiz
fits_request (request.Remax quiz slot max) = u32_field.fits quiz && u16_field.fits slot && i64_field.fits max
fits_request (request.Policy quiz method grade) = u32_field.fits quiz && method_field.fits method && i128_field.fits grade
fits_request (request.Times quiz opens closes limit allowed handling grace review) = u32_field.fits quiz && u64_field.fits opens && u64_field.fits closes && u32_field.fits limit && u32_field.fits allowed && handling_field.fits handling && u32_field.fits grace && review_field.fits review
fits_request (request.Override quiz whom number opens closes limit allowed) = u32_field.fits quiz && whom_field.fits whom && u32_field.fits number && (option_field u64_field).fits opens && (option_field u64_field).fits closes && (option_field u32_field).fits limit && (option_field u32_field).fits allowed
fits_request (request.Regrade quiz) = u32_field.fits quiz
fits_request x = false

unfoldable pub user_request : List ℕ → Option (Request × List ℕ)
user_request = holding (λ x. request.User x.0.0 x.0.1 x.1) (text_field ⊗ role_field ⊗ text_field)

unfoldable pub group_request : List ℕ → Option (Request × List ℕ)
group_request = holding (λ x. request.Group x) text_field

unfoldable pub member_request : List ℕ → Option (Request × List ℕ)
member_request = holding (λ x. request.Member x.0 x.1) (u32_field ⊗ u32_field)

unfoldable pub import_request : List ℕ → Option (Request × List ℕ)
import_request = holding (λ x. request.Import x) bank_field

unfoldable pub edit_request : List ℕ → Option (Request × List ℕ)
edit_request = holding (λ x. request.Edit x.0 x.1) (u32_field ⊗ question_field)

unfoldable pub tune_request : List ℕ → Option (Request × List ℕ)
tune_request = holding (λ x. request.Tune x.0.0 x.0.1 x.1) (u32_field ⊗ i64_field ⊗ list_field text_field)

unfoldable pub quiz_request : List ℕ → Option (Request × List ℕ)
quiz_request = holding (λ x. request.Quiz x.0 x.1) (text_field ⊗ behaviour_field)

unfoldable pub slot_request : List ℕ → Option (Request × List ℕ)
slot_request = holding (λ x. request.Slot x.0.0 x.0.1 x.1) (u32_field ⊗ u32_field ⊗ i64_field)

unfoldable pub ready_request : List ℕ → Option (Request × List ℕ)
ready_request = holding (λ x. request.Ready x) u32_field

unfoldable pub remax_request : List ℕ → Option (Request × List ℕ)
remax_request = holding (λ x. request.Remax x.0.0 x.0.1 x.1) (u32_field ⊗ u16_field ⊗ i64_field)

unfoldable pub policy_request : List ℕ → Option (Request × List ℕ)
policy_request = holding (λ x. request.Policy x.0.0 x.0.1 x.1) (u32_field ⊗ method_field ⊗ i128_field)

unfoldable pub times_request : List ℕ → Option (Request × List ℕ)
times_request = holding (λ x. request.Times x.0.0.0.0.0.0.0 x.0.0.0.0.0.0.1 x.0.0.0.0.0.1 x.0.0.0.0.1 x.0.0.0.1 x.0.0.1 x.0.1 x.1) (u32_field ⊗ u64_field ⊗ u64_field ⊗ u32_field ⊗ u32_field ⊗ handling_field ⊗ u32_field ⊗ review_field)

unfoldable pub override_request : List ℕ → Option (Request × List ℕ)
override_request = holding (λ x. request.Override x.0.0.0.0.0.0 x.0.0.0.0.0.1 x.0.0.0.0.1 x.0.0.0.1 x.0.0.1 x.0.1 x.1) (u32_field ⊗ whom_field ⊗ u32_field ⊗ option_field u64_field ⊗ option_field u64_field ⊗ option_field u32_field ⊗ option_field u32_field)

unfoldable pub regrade_request : List ℕ → Option (Request × List ℕ)
regrade_request = holding (λ x. request.Regrade x) u32_field

unfoldable pub request_field : Field Request
request_field = record {
  fits = fits_request;
  read = one_of (
      user_request
      ∷ group_request
      ∷ member_request
      ∷ import_request
      ∷ edit_request
      ∷ tune_request
      ∷ quiz_request
      ∷ slot_request
      ∷ ready_request
      ∷ remax_request
      ∷ policy_request
      ∷ times_request
      ∷ override_request
      ∷ regrade_request
      ∷ []);
}

-- ---- records

unfoldable pub how_field : Field How
how_field = names (bare how.Finished ∷ bare how.Abandoned ∷ [])

abbrev pub fits_event : Event → Bool
fits_event (event.Founded shards token) = u8_field.fits shards && text_field.fits token
fits_event (event.Asked request) = request_field.fits request
fits_event (event.Started quiz nth behaviour bounds learned) = u32_field.fits quiz && u32_field.fits nth && behaviour_field.fits behaviour && (list_field bound_field).fits bounds && (list_field learned_field).fits learned
fits_event (event.Acted attempt slot x) = attempt_field.fits attempt && u16_field.fits slot && step_field.fits x
fits_event (event.Noted attempt slot x) = attempt_field.fits attempt && u16_field.fits slot && step_field.fits x
fits_event (event.Ended attempt how) = attempt_field.fits attempt && how_field.fits how
fits_event (event.Rebound job attempt slot bound learned) = u32_field.fits job && attempt_field.fits attempt && u16_field.fits slot && bound_field.fits bound && (list_field learned_field).fits learned
fits_event (event.Skipped job attempt slot bound newer) = u32_field.fits job && attempt_field.fits attempt && u16_field.fits slot && shape_field.fits bound && shape_field.fits newer
fits_event (event.JobDone job quiz position) = u32_field.fits job && u32_field.fits quiz && u64_field.fits position

unfoldable pub founded_event : List ℕ → Option (Event × List ℕ)
founded_event = holding (λ x. event.Founded x.0 x.1) (u8_field ⊗ text_field)

unfoldable pub asked_event : List ℕ → Option (Event × List ℕ)
asked_event = holding (λ x. event.Asked x) request_field

unfoldable pub started_event : List ℕ → Option (Event × List ℕ)
started_event = holding (λ x. event.Started x.0.0.0.0 x.0.0.0.1 x.0.0.1 x.0.1 x.1) (u32_field ⊗ u32_field ⊗ behaviour_field ⊗ list_field bound_field ⊗ list_field learned_field)

unfoldable pub acted_event : List ℕ → Option (Event × List ℕ)
acted_event = holding (λ x. event.Acted x.0.0 x.0.1 x.1) (attempt_field ⊗ u16_field ⊗ step_field)

unfoldable pub noted_event : List ℕ → Option (Event × List ℕ)
noted_event = holding (λ x. event.Noted x.0.0 x.0.1 x.1) (attempt_field ⊗ u16_field ⊗ step_field)

unfoldable pub ended_event : List ℕ → Option (Event × List ℕ)
ended_event = holding (λ x. event.Ended x.0 x.1) (attempt_field ⊗ how_field)

unfoldable pub rebound_event : List ℕ → Option (Event × List ℕ)
rebound_event = holding (λ x. event.Rebound x.0.0.0.0 x.0.0.0.1 x.0.0.1 x.0.1 x.1) (u32_field ⊗ attempt_field ⊗ u16_field ⊗ bound_field ⊗ list_field learned_field)

unfoldable pub skipped_event : List ℕ → Option (Event × List ℕ)
skipped_event = holding (λ x. event.Skipped x.0.0.0.0 x.0.0.0.1 x.0.0.1 x.0.1 x.1) (u32_field ⊗ attempt_field ⊗ u16_field ⊗ shape_field ⊗ shape_field)

unfoldable pub jobdone_event : List ℕ → Option (Event × List ℕ)
jobdone_event = holding (λ x. event.JobDone x.0.0 x.0.1 x.1) (u32_field ⊗ u32_field ⊗ u64_field)

unfoldable pub event_field : Field Event
event_field = record {
  fits = fits_event;
  read = one_of (
      founded_event
      ∷ asked_event
      ∷ started_event
      ∷ acted_event
      ∷ noted_event
      ∷ ended_event
      ∷ rebound_event
      ∷ skipped_event
      ∷ jobdone_event
      ∷ []);
}

unfoldable pub record_field : Field Record
record_field = struct
    (λ x. record { moment = x.0.0.0.0.0; caller = x.0.0.0.0.1; owner = x.0.0.0.1; key = x.0.0.1; terms = x.0.1; event = x.1 })
    (λ r. (((((r.moment, r.caller), r.owner), r.key), r.terms), r.event))
    (u64_field ⊗ u32_field ⊗ u32_field ⊗ option_field text_field ⊗ option_field terms_field ⊗ event_field)
