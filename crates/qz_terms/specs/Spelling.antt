-- The bytes of a record. Numbers are little endian; a text is its length and its UTF-8, a list its count and its items, an
-- option 0, or 1 and the value, an enum the number of the variant and its fields, a struct its fields.
use Rattle.std.specs.Int.{cast_unsigned, to_le_bytes, w128, w16, w32, w64}
use Rattle.std.specs.Prelude.{ℕ, max, Bool, true, false, List, [], ◌∷◌, ◌++◌, length, ℤ, Some, None, flat_map, Option}
use Rattle.qz_grading.specs.declared.outcome.Behaviour.{Behaviour}
use Rattle.qz_grading.specs.declared.outcome.Behaviour.TheVariants as behaviour
use Rattle.qz_grading.specs.declared.question.Bank.{Bank}
use Rattle.qz_grading.specs.declared.question.Choice.{Choice}
use Rattle.qz_grading.specs.declared.question.Extent.{Extent}
use Rattle.qz_grading.specs.declared.question.Extent.TheVariants as extent
use Rattle.qz_grading.specs.declared.question.Format.{Format}
use Rattle.qz_grading.specs.declared.question.Format.TheVariants as format
use Rattle.qz_grading.specs.declared.question.Item.{Item}
use Rattle.qz_grading.specs.declared.question.Kind.{Kind}
use Rattle.qz_grading.specs.declared.question.Kind.TheVariants as kind
use Rattle.qz_grading.specs.declared.question.Num.{Num}
use Rattle.qz_grading.specs.declared.question.Pair.{Pair}
use Rattle.qz_grading.specs.declared.question.Question.{Question}
use Rattle.qz_grading.specs.declared.question.Rich.{Rich}
use Rattle.qz_grading.specs.declared.question.Shape.{Shape}
use Rattle.qz_grading.specs.declared.question.Short.{Short}
use Rattle.qz_grading.specs.declared.refusal.AttemptId.{AttemptId}
use Rattle.qz_grading.specs.declared.response.Answer.{Answer}
use Rattle.qz_grading.specs.declared.response.Answer.TheVariants as answer
use Rattle.qz_grading.specs.declared.response.Response.{Response}
use Rattle.qz_grading.specs.declared.response.Step.{Step}
use Rattle.qz_grading.specs.declared.response.Step.TheVariants as step
use Rattle.qz_grading.specs.Grading.{grade}
use Rattle.qz_terms.specs.declared.access.Handling.{Handling}
use Rattle.qz_terms.specs.declared.access.Handling.TheVariants as handling
use Rattle.qz_terms.specs.declared.access.Review.{Review}
use Rattle.qz_terms.specs.declared.access.Review.TheVariants as review
use Rattle.qz_terms.specs.declared.access.Settings.{Settings}
use Rattle.qz_terms.specs.declared.grades.Method.{Method}
use Rattle.qz_terms.specs.declared.grades.Method.TheVariants as method
use Rattle.qz_terms.specs.declared.people.Role.{Role}
use Rattle.qz_terms.specs.declared.people.Role.TheVariants as role
use Rattle.qz_terms.specs.declared.plan.Bound.{Bound}
use Rattle.qz_terms.specs.declared.record.Event.{Event}
use Rattle.qz_terms.specs.declared.record.Event.TheVariants as event
use Rattle.qz_terms.specs.declared.record.How.{How}
use Rattle.qz_terms.specs.declared.record.How.TheVariants as how
use Rattle.qz_terms.specs.declared.record.Learned.{Learned}
use Rattle.qz_terms.specs.declared.record.Record.{Record}
use Rattle.qz_terms.specs.declared.record.Terms.{Terms}
use Rattle.qz_terms.specs.declared.request.Request.{Request}
use Rattle.qz_terms.specs.declared.request.Request.TheVariants as request
use Rattle.qz_terms.specs.declared.request.Whom.{Whom}
use Rattle.qz_terms.specs.declared.request.Whom.TheVariants as whom

-- ---- numbers, texts, lists

abbrev pub one_byte : ℕ → List ℕ
one_byte n = n ∷ []

abbrev pub two_bytes : ℕ → List ℕ
two_bytes n = to_le_bytes w16 n

abbrev pub four_bytes : ℕ → List ℕ
four_bytes n = to_le_bytes w32 n

abbrev pub eight_bytes : ℕ → List ℕ
eight_bytes n = to_le_bytes w64 n

-- marks and fractions
abbrev pub signed_bytes : ℤ → List ℕ
signed_bytes z = to_le_bytes w64 (cast_unsigned w64 z)

-- grades and decimals
abbrev pub wide_bytes : ℤ → List ℕ
wide_bytes z = to_le_bytes w128 (cast_unsigned w128 z)

abbrev pub text_bytes : List ℕ → List ℕ
text_bytes text = four_bytes (length text) ++ text

abbrev pub list_bytes : {A : Type 0} → (A → List ℕ) → List A → List ℕ
list_bytes item xs = four_bytes (length xs) ++ flat_map item xs

abbrev pub option_bytes : {A : Type 0} → (A → List ℕ) → Option A → List ℕ
option_bytes item None = 0 ∷ []
option_bytes item (Some x) = 1 ∷ item x

abbrev pub bool_bytes : Bool → List ℕ
bool_bytes false = 0 ∷ []
bool_bytes true = 1 ∷ []

-- ---- questions

abbrev pub format_bytes : Format → List ℕ
format_bytes format.Moodle = 0 ∷ []
format_bytes format.Html = 1 ∷ []
format_bytes format.Plain = 2 ∷ []
format_bytes format.Markdown = 3 ∷ []

abbrev pub rich_bytes : Rich → List ℕ
rich_bytes r = format_bytes r.format ++ text_bytes r.text

abbrev pub choice_bytes : Choice → List ℕ
choice_bytes c = signed_bytes c.weight ++ rich_bytes c.text ++ rich_bytes c.feedback

abbrev pub pair_bytes : Pair → List ℕ
pair_bytes p = rich_bytes p.stem ++ text_bytes p.answer

abbrev pub short_bytes : Short → List ℕ
short_bytes s = signed_bytes s.weight ++ text_bytes s.pattern ++ rich_bytes s.feedback

abbrev pub extent_bytes : Extent → List ℕ
extent_bytes extent.Any = 0 ∷ []
extent_bytes (extent.Near centre slack) = 1 ∷ (wide_bytes centre ++ wide_bytes slack)
extent_bytes (extent.Between low high) = 2 ∷ (wide_bytes low ++ wide_bytes high)

abbrev pub num_bytes : Num → List ℕ
num_bytes n = signed_bytes n.weight ++ extent_bytes n.extent ++ rich_bytes n.feedback

abbrev pub kind_bytes : Kind → List ℕ
kind_bytes kind.Description = 0 ∷ []
kind_bytes kind.Essay = 1 ∷ []
kind_bytes (kind.TrueFalse right on_wrong on_right) = 2 ∷ (bool_bytes right ++ rich_bytes on_wrong ++ rich_bytes on_right)
kind_bytes (kind.One choices) = 3 ∷ list_bytes choice_bytes choices
kind_bytes (kind.Several choices) = 4 ∷ list_bytes choice_bytes choices
kind_bytes (kind.Matching pairs) = 5 ∷ list_bytes pair_bytes pairs
kind_bytes (kind.ShortAnswer answers) = 6 ∷ list_bytes short_bytes answers
kind_bytes (kind.Numerical answers) = 7 ∷ list_bytes num_bytes answers

abbrev pub question_bytes : Question → List ℕ
question_bytes q = text_bytes q.name ++ rich_bytes q.text ++ rich_bytes q.general ++ kind_bytes q.kind ++ signed_bytes q.penalty ++ list_bytes text_bytes q.hints

abbrev pub item_bytes : Item → List ℕ
item_bytes i = list_bytes text_bytes i.category ++ question_bytes i.question

abbrev pub bank_bytes : Bank → List ℕ
bank_bytes b = list_bytes item_bytes b.items

abbrev pub shape_bytes : Shape → List ℕ
shape_bytes s = one_byte s.kind ++ one_byte s.first ++ one_byte s.second

-- ---- steps

abbrev pub answer_bytes : Answer → List ℕ
answer_bytes answer.Blank = 0 ∷ []
answer_bytes (answer.Pick n) = 1 ∷ one_byte n
answer_bytes (answer.Picks ns) = 2 ∷ list_bytes one_byte ns
answer_bytes (answer.Match ns) = 3 ∷ list_bytes one_byte ns
answer_bytes (answer.Words text) = 4 ∷ text_bytes text

abbrev pub response_bytes : Response → List ℕ
response_bytes r = answer_bytes r.answer ++ one_byte r.certainty

abbrev pub step_bytes : Step → List ℕ
step_bytes (step.Save r) = 0 ∷ response_bytes r
step_bytes (step.Submit r) = 1 ∷ response_bytes r
step_bytes step.Again = 2 ∷ []
step_bytes step.Finish = 3 ∷ []
step_bytes (step.Mark mark max) = 4 ∷ (signed_bytes mark ++ signed_bytes max)

abbrev pub behaviour_bytes : Behaviour → List ℕ
behaviour_bytes behaviour.Deferred = 0 ∷ []
behaviour_bytes behaviour.Immediate = 1 ∷ []
behaviour_bytes behaviour.Interactive = 2 ∷ []
behaviour_bytes behaviour.Adaptive = 3 ∷ []
behaviour_bytes behaviour.AdaptiveNoPenalty = 4 ∷ []
behaviour_bytes behaviour.DeferredCbm = 5 ∷ []
behaviour_bytes behaviour.ImmediateCbm = 6 ∷ []
behaviour_bytes behaviour.Manual = 7 ∷ []
behaviour_bytes behaviour.Information = 8 ∷ []

abbrev pub attempt_bytes : AttemptId → List ℕ
attempt_bytes a = four_bytes a.user ++ four_bytes a.nth

-- ---- settings

abbrev pub handling_bytes : Handling → List ℕ
handling_bytes handling.AutoSubmit = 0 ∷ []
handling_bytes handling.GracePeriod = 1 ∷ []
handling_bytes handling.AutoAbandon = 2 ∷ []

abbrev pub review_bytes : Review → List ℕ
review_bytes review.Always = 0 ∷ []
review_bytes review.Finish = 1 ∷ []
review_bytes review.Close = 2 ∷ []

abbrev pub method_bytes : Method → List ℕ
method_bytes method.Highest = 0 ∷ []
method_bytes method.Average = 1 ∷ []
method_bytes method.First = 2 ∷ []
method_bytes method.Last = 3 ∷ []

abbrev pub settings_bytes : Settings → List ℕ
settings_bytes s = eight_bytes s.opens ++ eight_bytes s.closes ++ four_bytes s.limit ++ four_bytes s.allowed ++ handling_bytes s.handling ++ four_bytes s.grace ++ review_bytes s.review

abbrev pub terms_bytes : Terms → List ℕ
terms_bytes t = eight_bytes t.at ++ settings_bytes t.settings

abbrev pub bound_bytes : Bound → List ℕ
bound_bytes b = four_bytes b.entry ++ four_bytes b.version ++ signed_bytes b.max ++ eight_bytes b.at

abbrev pub learned_bytes : Learned → List ℕ
learned_bytes l = four_bytes l.entry ++ four_bytes l.version ++ question_bytes l.question

-- ---- requests to the catalogue

abbrev pub role_bytes : Role → List ℕ
role_bytes role.Manager = 0 ∷ []
role_bytes role.Teacher = 1 ∷ []
role_bytes role.Student = 2 ∷ []

abbrev pub whom_bytes : Whom → List ℕ
whom_bytes whom.User = 0 ∷ []
whom_bytes whom.Group = 1 ∷ []

-- the fourteen that the catalogue keeps; no other stands in a record
abbrev pub request_bytes : Request → List ℕ
request_bytes (request.User name role token) = 0 ∷ (text_bytes name ++ role_bytes role ++ text_bytes token)
request_bytes (request.Group name) = 1 ∷ text_bytes name
request_bytes (request.Member group user) = 2 ∷ (four_bytes group ++ four_bytes user)
request_bytes (request.Import gift) = 3 ∷ bank_bytes gift
request_bytes (request.Edit entry gift) = 4 ∷ (four_bytes entry ++ question_bytes gift)
request_bytes (request.Tune entry penalty hints) = 5 ∷ (four_bytes entry ++ signed_bytes penalty ++ list_bytes text_bytes hints)
request_bytes (request.Quiz name behaviour) = 6 ∷ (text_bytes name ++ behaviour_bytes behaviour)
request_bytes (request.Slot quiz entry max) = 7 ∷ (four_bytes quiz ++ four_bytes entry ++ signed_bytes max)
request_bytes (request.Ready quiz) = 8 ∷ four_bytes quiz
request_bytes (request.Remax quiz slot max) = 9 ∷ (four_bytes quiz ++ two_bytes slot ++ signed_bytes max)
request_bytes (request.Policy quiz method grade) = 10 ∷ (four_bytes quiz ++ method_bytes method ++ wide_bytes grade)
request_bytes (request.Times quiz opens closes limit allowed handling grace review) =
    11 ∷ (four_bytes quiz ++ eight_bytes opens ++ eight_bytes closes ++ four_bytes limit ++ four_bytes allowed ++ handling_bytes handling ++ four_bytes grace ++ review_bytes review)
request_bytes (request.Override quiz whom number opens closes limit allowed) =
    12 ∷ (four_bytes quiz ++ whom_bytes whom ++ four_bytes number ++ option_bytes eight_bytes opens ++ option_bytes eight_bytes closes ++ option_bytes four_bytes limit ++ option_bytes four_bytes allowed)
request_bytes (request.Regrade quiz) = 13 ∷ four_bytes quiz
request_bytes other = []

-- ---- records

abbrev pub how_bytes : How → List ℕ
how_bytes how.Finished = 0 ∷ []
how_bytes how.Abandoned = 1 ∷ []

abbrev pub event_bytes : Event → List ℕ
event_bytes (event.Founded shards token) = 0 ∷ (one_byte shards ++ text_bytes token)
event_bytes (event.Asked request) = 1 ∷ request_bytes request
event_bytes (event.Started quiz nth behaviour bounds learned) = 2 ∷ (four_bytes quiz ++ four_bytes nth ++ behaviour_bytes behaviour ++ list_bytes bound_bytes bounds ++ list_bytes learned_bytes learned)
event_bytes (event.Acted attempt slot x) = 3 ∷ (attempt_bytes attempt ++ two_bytes slot ++ step_bytes x)
event_bytes (event.Noted attempt slot x) = 4 ∷ (attempt_bytes attempt ++ two_bytes slot ++ step_bytes x)
event_bytes (event.Ended attempt how) = 5 ∷ (attempt_bytes attempt ++ how_bytes how)
event_bytes (event.Rebound job attempt slot bound learned) = 6 ∷ (four_bytes job ++ attempt_bytes attempt ++ two_bytes slot ++ bound_bytes bound ++ list_bytes learned_bytes learned)
event_bytes (event.Skipped job attempt slot bound newer) = 7 ∷ (four_bytes job ++ attempt_bytes attempt ++ two_bytes slot ++ shape_bytes bound ++ shape_bytes newer)
event_bytes (event.JobDone job quiz position) = 8 ∷ (four_bytes job ++ four_bytes quiz ++ eight_bytes position)

abbrev pub spelling : Record → List ℕ
spelling r = eight_bytes r.moment ++ four_bytes r.caller ++ four_bytes r.owner ++ option_bytes text_bytes r.key ++ option_bytes terms_bytes r.terms ++ event_bytes r.event
