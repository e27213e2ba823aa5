-- Each part of a record, from formats to records: what is read is what was spelled, and what was spelled is read.
use Rattle.std.proofs.Common.{◌≡◌, ℕ, Bool, true, List, [], ◌∷◌, ◌++◌, ℤ, Option, Some, refl}
use Rattle.qz_grading.specs.declared.outcome.Behaviour.{Behaviour}
use Rattle.qz_grading.specs.declared.outcome.Behaviour.TheVariants as behaviour
use Rattle.qz_grading.specs.declared.question.Bank.{Bank}
use Rattle.qz_grading.specs.declared.question.Choice.{Choice}
use Rattle.qz_grading.specs.declared.question.Extent.{Extent}
use Rattle.qz_grading.specs.declared.question.Extent.TheVariants as extent
use Rattle.qz_grading.specs.declared.question.Format.{Format}
use Rattle.qz_grading.specs.declared.question.Format.TheVariants as format
use Rattle.qz_grading.specs.declared.question.Item.{Item}
use Rattle.qz_grading.specs.declared.question.Kind.{Kind}
use Rattle.qz_grading.specs.declared.question.Kind.TheVariants as kind
use Rattle.qz_grading.specs.declared.question.Num.{Num}
use Rattle.qz_grading.specs.declared.question.Pair.{Pair}
use Rattle.qz_grading.specs.declared.question.Question.{Question}
use Rattle.qz_grading.specs.declared.question.Rich.{Rich}
use Rattle.qz_grading.specs.declared.question.Shape.{Shape}
use Rattle.qz_grading.specs.declared.question.Short.{Short}
use Rattle.qz_grading.specs.declared.refusal.AttemptId.{AttemptId}
use Rattle.qz_grading.specs.declared.response.Answer.{Answer}
use Rattle.qz_grading.specs.declared.response.Answer.TheVariants as answer
use Rattle.qz_grading.specs.declared.response.Response.{Response}
use Rattle.qz_grading.specs.declared.response.Step.{Step}
use Rattle.qz_grading.specs.declared.response.Step.TheVariants as step
use Rattle.qz_terms.specs.declared.access.Handling.{Handling}
use Rattle.qz_terms.specs.declared.access.Handling.TheVariants as handling
use Rattle.qz_terms.specs.declared.access.Review.{Review}
use Rattle.qz_terms.specs.declared.access.Review.TheVariants as review
use Rattle.qz_terms.specs.declared.access.Settings.{Settings}
use Rattle.qz_terms.specs.declared.grades.Method.{Method}
use Rattle.qz_terms.specs.declared.grades.Method.TheVariants as method
use Rattle.qz_terms.specs.declared.people.Role.{Role}
use Rattle.qz_terms.specs.declared.people.Role.TheVariants as role
use Rattle.qz_terms.specs.declared.plan.Bound.{Bound}
use Rattle.qz_terms.specs.declared.record.Event.{Event}
use Rattle.qz_terms.specs.declared.record.Event.TheVariants as event
use Rattle.qz_terms.specs.declared.record.How.{How}
use Rattle.qz_terms.specs.declared.record.How.TheVariants as how
use Rattle.qz_terms.specs.declared.record.Learned.{Learned}
use Rattle.qz_terms.specs.declared.record.Record.{Record}
use Rattle.qz_terms.specs.declared.record.Terms.{Terms}
use Rattle.qz_terms.specs.declared.request.Request.{Request}
use Rattle.qz_terms.specs.declared.request.Request.TheVariants as request
use Rattle.qz_terms.specs.declared.request.Whom.{Whom}
use Rattle.qz_terms.specs.declared.request.Whom.TheVariants as whom
use Rattle.qz_terms.specs.Spelling.{answer_bytes, attempt_bytes, bank_bytes, behaviour_bytes, bound_bytes, choice_bytes, event_bytes, extent_bytes, format_bytes, handling_bytes, how_bytes, item_bytes, kind_bytes, learned_bytes, method_bytes, num_bytes, pair_bytes, question_bytes, request_bytes, response_bytes, review_bytes, rich_bytes, role_bytes, settings_bytes, shape_bytes, short_bytes, spelling, step_bytes, terms_bytes, whom_bytes}
use Rattle.qz_record.specs.Fields.{◌⊗◌, always, bare, bool_field, holding, i128_field, i64_field, list_field, text_field, u8_field}
use Rattle.qz_record.specs.Parts.{acted_event, answer_field, asked_event, attempt_field, bank_field, behaviour_field, bound_field, choice_field, edit_request, ended_event, event_field, extent_field, fits_answer, fits_event, fits_extent, fits_kind, fits_request, fits_step, format_field, founded_event, group_request, handling_field, how_field, import_request, item_field, jobdone_event, kind_field, learned_field, member_request, method_field, noted_event, num_field, override_request, pair_field, policy_request, question_field, quiz_request, ready_request, rebound_event, record_field, regrade_request, remax_request, request_field, response_field, review_field, rich_field, role_field, settings_field, shape_field, short_field, skipped_event, slot_request, started_event, step_field, terms_field, times_request, tune_request, user_request, whom_field}
use Rattle.qz_record.proofs.Codes.{IsCode, ◌⊠◌, bare-variant, held, holding-variant, one_of-takes, option-code, struct-code}
use Rattle.qz_record.proofs.NumberCodes.{bool-code, i128-code, i64-code, list-code, text-code, u16-code, u32-code, u64-code, u8-code}

format-again : (x : Format) (rest : List ℕ) → format_field.fits x ≡ true → format_field.read (format_bytes x ++ rest) ≡ Some (x, rest)
unfolding format_field
format-again format.Moodle rest fits = refl
format-again format.Html rest fits = refl
format-again format.Plain rest fits = refl
format-again format.Markdown rest fits = refl

pub format-code : IsCode format_field format_bytes
unfolding format_field
format-code = record {
  again = format-again;
  takes = one_of-takes always format_bytes (bare format.Moodle ∷ bare format.Html ∷ bare format.Plain ∷ bare format.Markdown ∷ [])
      (bare-variant always format_bytes 0 format.Moodle refl refl, (bare-variant always format_bytes 1 format.Html refl refl, (bare-variant always format_bytes 2 format.Plain refl refl, (bare-variant always format_bytes 3 format.Markdown refl refl, tt))));
}

pub rich-code : IsCode rich_field rich_bytes
unfolding rich_field
rich-code = struct-code (λ (x : Format × (List ℕ)). record { format = x.0; text = x.1 }) (λ (v : Rich). (v.format, v.text)) (format-code ⊠ text-code) (λ x. refl) (λ x. refl)

pub choice-code : IsCode choice_field choice_bytes
unfolding choice_field
choice-code = struct-code (λ (x : (ℤ × Rich) × Rich). record { weight = x.0.0; text = x.0.1; feedback = x.1 }) (λ (v : Choice). ((v.weight, v.text), v.feedback)) (i64-code ⊠ rich-code ⊠ rich-code) (λ x. refl) (λ x. refl)

pub pair-code : IsCode pair_field pair_bytes
unfolding pair_field
pair-code = struct-code (λ (x : Rich × (List ℕ)). record { stem = x.0; answer = x.1 }) (λ (v : Pair). (v.stem, v.answer)) (rich-code ⊠ text-code) (λ x. refl) (λ x. refl)

pub short-code : IsCode short_field short_bytes
unfolding short_field
short-code = struct-code (λ (x : (ℤ × (List ℕ)) × Rich). record { weight = x.0.0; pattern = x.0.1; feedback = x.1 }) (λ (v : Short). ((v.weight, v.pattern), v.feedback)) (i64-code ⊠ text-code ⊠ rich-code) (λ x. refl) (λ x. refl)

extent-again : (x : Extent) (rest : List ℕ) → fits_extent x ≡ true → extent_field.read (extent_bytes x ++ rest) ≡ Some (x, rest)
unfolding extent_field
extent-again extent.Any rest fits = refl
extent-again (extent.Near x0 x1) rest fits = held (λ (y : ℤ × ℤ). extent.Near y.0 y.1) (i128-code ⊠ i128-code) (x0, x1) rest fits
extent-again (extent.Between x0 x1) rest fits = held (λ (y : ℤ × ℤ). extent.Between y.0 y.1) (i128-code ⊠ i128-code) (x0, x1) rest fits

pub extent-code : IsCode extent_field extent_bytes
unfolding extent_field
extent-code = record {
  again = extent-again;
  takes = one_of-takes fits_extent extent_bytes
      (bare extent.Any ∷ holding (λ (y : ℤ × ℤ). extent.Near y.0 y.1) (i128_field ⊗ i128_field) ∷ holding (λ (y : ℤ × ℤ). extent.Between y.0 y.1) (i128_field ⊗ i128_field) ∷ []) (
        bare-variant fits_extent extent_bytes 0 extent.Any refl refl,
        (
          holding-variant fits_extent extent_bytes 1 (λ (y : ℤ × ℤ). extent.Near y.0 y.1) (i128-code ⊠ i128-code) (λ y good. good) (λ y. refl),
          (
            holding-variant fits_extent extent_bytes 2 (λ (y : ℤ × ℤ). extent.Between y.0 y.1) (i128-code ⊠ i128-code) (λ y good. good) (λ y. refl),
            tt,
          ),
        ),
      );
}

pub num-code : IsCode num_field num_bytes
unfolding num_field
num-code = struct-code (λ (x : (ℤ × Extent) × Rich). record { weight = x.0.0; extent = x.0.1; feedback = x.1 }) (λ (v : Num). ((v.weight, v.extent), v.feedback)) (i64-code ⊠ extent-code ⊠ rich-code) (λ x. refl) (λ x. refl)

kind-again : (x : Kind) (rest : List ℕ) → fits_kind x ≡ true → kind_field.read (kind_bytes x ++ rest) ≡ Some (x, rest)
unfolding kind_field
kind-again kind.Description rest fits = refl
kind-again kind.Essay rest fits = refl
kind-again (kind.TrueFalse x0 x1 x2) rest fits = held (λ (y : (Bool × Rich) × Rich). kind.TrueFalse y.0.0 y.0.1 y.1) (bool-code ⊠ rich-code ⊠ rich-code) ((x0, x1), x2) rest fits
kind-again (kind.One x0) rest fits = held (λ (y : List Choice). kind.One y) (list-code choice-code) x0 rest fits
kind-again (kind.Several x0) rest fits = held (λ (y : List Choice). kind.Several y) (list-code choice-code) x0 rest fits
kind-again (kind.Matching x0) rest fits = held (λ (y : List Pair). kind.Matching y) (list-code pair-code) x0 rest fits
kind-again (kind.ShortAnswer x0) rest fits = held (λ (y : List Short). kind.ShortAnswer y) (list-code short-code) x0 rest fits
kind-again (kind.Numerical x0) rest fits = held (λ (y : List Num). kind.Numerical y) (list-code num-code) x0 rest fits

pub kind-code : IsCode kind_field kind_bytes
unfolding kind_field
kind-code = record {
  again = kind-again;
  takes = one_of-takes fits_kind kind_bytes
      (bare kind.Description ∷ bare kind.Essay ∷ holding (λ (y : (Bool × Rich) × Rich). kind.TrueFalse y.0.0 y.0.1 y.1) (bool_field ⊗ rich_field ⊗ rich_field) ∷ holding (λ (y : List Choice). kind.One y) (list_field choice_field) ∷ holding (λ (y : List Choice). kind.Several y) (list_field choice_field) ∷ holding (λ (y : List Pair). kind.Matching y) (list_field pair_field) ∷ holding (λ (y : List Short). kind.ShortAnswer y) (list_field short_field) ∷ holding (λ (y : List Num). kind.Numerical y) (list_field num_field) ∷ []) (
        bare-variant fits_kind kind_bytes 0 kind.Description refl refl,
        (
          bare-variant fits_kind kind_bytes 1 kind.Essay refl refl,
          (
            holding-variant fits_kind kind_bytes 2 (λ (y : (Bool × Rich) × Rich). kind.TrueFalse y.0.0 y.0.1 y.1) (bool-code ⊠ rich-code ⊠ rich-code) (λ y good. good) (λ y. refl),
            (
              holding-variant fits_kind kind_bytes 3 (λ (y : List Choice). kind.One y) (list-code choice-code) (λ y good. good) (λ y. refl),
              (
                holding-variant fits_kind kind_bytes 4 (λ (y : List Choice). kind.Several y) (list-code choice-code) (λ y good. good) (λ y. refl),
                (
                  holding-variant fits_kind kind_bytes 5 (λ (y : List Pair). kind.Matching y) (list-code pair-code) (λ y good. good) (λ y. refl),
                  (
                    holding-variant fits_kind kind_bytes 6 (λ (y : List Short). kind.ShortAnswer y) (list-code short-code) (λ y good. good) (λ y. refl),
                    (
                      holding-variant fits_kind kind_bytes 7 (λ (y : List Num). kind.Numerical y) (list-code num-code) (λ y good. good) (λ y. refl),
                      tt,
                    ),
                  ),
                ),
              ),
            ),
          ),
        ),
      );
}

pub question-code : IsCode question_field question_bytes
unfolding question_field
question-code = struct-code (λ (x : (((((List ℕ) × Rich) × Rich) × Kind) × ℤ) × (List (List ℕ))). record { name = x.0.0.0.0.0; text = x.0.0.0.0.1; general = x.0.0.0.1; kind = x.0.0.1; penalty = x.0.1; hints = x.1 }) (λ (v : Question). (((((v.name, v.text), v.general), v.kind), v.penalty), v.hints)) (text-code ⊠ rich-code ⊠ rich-code ⊠ kind-code ⊠ i64-code ⊠ (list-code text-code)) (λ x. refl) (λ x. refl)

pub item-code : IsCode item_field item_bytes
unfolding item_field
item-code = struct-code (λ (x : (List (List ℕ)) × Question). record { category = x.0; question = x.1 }) (λ (v : Item). (v.category, v.question)) ((list-code text-code) ⊠ question-code) (λ x. refl) (λ x. refl)

pub bank-code : IsCode bank_field bank_bytes
unfolding bank_field
bank-code = struct-code (λ (x : List Item). record { items = x }) (λ (v : Bank). v.items) (list-code item-code) (λ x. refl) (λ x. refl)

pub shape-code : IsCode shape_field shape_bytes
unfolding shape_field
shape-code = struct-code (λ (x : (ℕ × ℕ) × ℕ). record { kind = x.0.0; first = x.0.1; second = x.1 }) (λ (v : Shape). ((v.kind, v.first), v.second)) (u8-code ⊠ u8-code ⊠ u8-code) (λ x. refl) (λ x. refl)

answer-again : (x : Answer) (rest : List ℕ) → fits_answer x ≡ true → answer_field.read (answer_bytes x ++ rest) ≡ Some (x, rest)
unfolding answer_field
answer-again answer.Blank rest fits = refl
answer-again (answer.Pick x0) rest fits = held (λ (y : ℕ). answer.Pick y) u8-code x0 rest fits
answer-again (answer.Picks x0) rest fits = held (λ (y : List ℕ). answer.Picks y) (list-code u8-code) x0 rest fits
answer-again (answer.Match x0) rest fits = held (λ (y : List ℕ). answer.Match y) (list-code u8-code) x0 rest fits
answer-again (answer.Words x0) rest fits = held (λ (y : List ℕ). answer.Words y) text-code x0 rest fits

pub answer-code : IsCode answer_field answer_bytes
unfolding answer_field
answer-code = record {
  again = answer-again;
  takes = one_of-takes fits_answer answer_bytes
      (bare answer.Blank ∷ holding (λ (y : ℕ). answer.Pick y) u8_field ∷ holding (λ (y : List ℕ). answer.Picks y) (list_field u8_field) ∷ holding (λ (y : List ℕ). answer.Match y) (list_field u8_field) ∷ holding (λ (y : List ℕ). answer.Words y) text_field ∷ []) (
        bare-variant fits_answer answer_bytes 0 answer.Blank refl refl,
        (
          holding-variant fits_answer answer_bytes 1 (λ (y : ℕ). answer.Pick y) u8-code (λ y good. good) (λ y. refl),
          (
            holding-variant fits_answer answer_bytes 2 (λ (y : List ℕ). answer.Picks y) (list-code u8-code) (λ y good. good) (λ y. refl),
            (
              holding-variant fits_answer answer_bytes 3 (λ (y : List ℕ). answer.Match y) (list-code u8-code) (λ y good. good) (λ y. refl),
              (
                holding-variant fits_answer answer_bytes 4 (λ (y : List ℕ). answer.Words y) text-code (λ y good. good) (λ y. refl),
                tt,
              ),
            ),
          ),
        ),
      );
}

pub response-code : IsCode response_field response_bytes
unfolding response_field
response-code = struct-code (λ (x : Answer × ℕ). record { answer = x.0; certainty = x.1 }) (λ (v : Response). (v.answer, v.certainty)) (answer-code ⊠ u8-code) (λ x. refl) (λ x. refl)

step-again : (x : Step) (rest : List ℕ) → fits_step x ≡ true → step_field.read (step_bytes x ++ rest) ≡ Some (x, rest)
unfolding step_field
step-again (step.Save x0) rest fits = held (λ (y : Response). step.Save y) response-code x0 rest fits
step-again (step.Submit x0) rest fits = held (λ (y : Response). step.Submit y) response-code x0 rest fits
step-again step.Again rest fits = refl
step-again step.Finish rest fits = refl
step-again (step.Mark x0 x1) rest fits = held (λ (y : ℤ × ℤ). step.Mark y.0 y.1) (i64-code ⊠ i64-code) (x0, x1) rest fits

pub step-code : IsCode step_field step_bytes
unfolding step_field
step-code = record {
  again = step-again;
  takes = one_of-takes fits_step step_bytes
      (holding (λ (y : Response). step.Save y) response_field ∷ holding (λ (y : Response). step.Submit y) response_field ∷ bare step.Again ∷ bare step.Finish ∷ holding (λ (y : ℤ × ℤ). step.Mark y.0 y.1) (i64_field ⊗ i64_field) ∷ []) (
        holding-variant fits_step step_bytes 0 (λ (y : Response). step.Save y) response-code (λ y good. good) (λ y. refl),
        (
          holding-variant fits_step step_bytes 1 (λ (y : Response). step.Submit y) response-code (λ y good. good) (λ y. refl),
          (
            bare-variant fits_step step_bytes 2 step.Again refl refl,
            (
              bare-variant fits_step step_bytes 3 step.Finish refl refl,
              (
                holding-variant fits_step step_bytes 4 (λ (y : ℤ × ℤ). step.Mark y.0 y.1) (i64-code ⊠ i64-code) (λ y good. good) (λ y. refl),
                tt,
              ),
            ),
          ),
        ),
      );
}

behaviour-again : (x : Behaviour) (rest : List ℕ) → behaviour_field.fits x ≡ true → behaviour_field.read (behaviour_bytes x ++ rest) ≡ Some (x, rest)
unfolding behaviour_field
behaviour-again behaviour.Deferred rest fits = refl
behaviour-again behaviour.Immediate rest fits = refl
behaviour-again behaviour.Interactive rest fits = refl
behaviour-again behaviour.Adaptive rest fits = refl
behaviour-again behaviour.AdaptiveNoPenalty rest fits = refl
behaviour-again behaviour.DeferredCbm rest fits = refl
behaviour-again behaviour.ImmediateCbm rest fits = refl
behaviour-again behaviour.Manual rest fits = refl
behaviour-again behaviour.Information rest fits = refl

pub behaviour-code : IsCode behaviour_field behaviour_bytes
unfolding behaviour_field
behaviour-code = record {
  again = behaviour-again;
  takes = one_of-takes always behaviour_bytes (bare behaviour.Deferred ∷ bare behaviour.Immediate ∷ bare behaviour.Interactive ∷ bare behaviour.Adaptive ∷ bare behaviour.AdaptiveNoPenalty ∷ bare behaviour.DeferredCbm ∷ bare behaviour.ImmediateCbm ∷ bare behaviour.Manual ∷ bare behaviour.Information ∷ [])
      (bare-variant always behaviour_bytes 0 behaviour.Deferred refl refl, (bare-variant always behaviour_bytes 1 behaviour.Immediate refl refl, (bare-variant always behaviour_bytes 2 behaviour.Interactive refl refl, (bare-variant always behaviour_bytes 3 behaviour.Adaptive refl refl, (bare-variant always behaviour_bytes 4 behaviour.AdaptiveNoPenalty refl refl, (bare-variant always behaviour_bytes 5 behaviour.DeferredCbm refl refl, (bare-variant always behaviour_bytes 6 behaviour.ImmediateCbm refl refl, (bare-variant always behaviour_bytes 7 behaviour.Manual refl refl, (bare-variant always behaviour_bytes 8 behaviour.Information refl refl, tt)))))))));
}

pub attempt-code : IsCode attempt_field attempt_bytes
unfolding attempt_field
attempt-code = struct-code (λ (x : ℕ × ℕ). record { user = x.0; nth = x.1 }) (λ (v : AttemptId). (v.user, v.nth)) (u32-code ⊠ u32-code) (λ x. refl) (λ x. refl)

handling-again : (x : Handling) (rest : List ℕ) → handling_field.fits x ≡ true → handling_field.read (handling_bytes x ++ rest) ≡ Some (x, rest)
unfolding handling_field
handling-again handling.AutoSubmit rest fits = refl
handling-again handling.GracePeriod rest fits = refl
handling-again handling.AutoAbandon rest fits = refl

pub handling-code : IsCode handling_field handling_bytes
unfolding handling_field
handling-code = record {
  again = handling-again;
  takes = one_of-takes always handling_bytes (bare handling.AutoSubmit ∷ bare handling.GracePeriod ∷ bare handling.AutoAbandon ∷ [])
      (bare-variant always handling_bytes 0 handling.AutoSubmit refl refl, (bare-variant always handling_bytes 1 handling.GracePeriod refl refl, (bare-variant always handling_bytes 2 handling.AutoAbandon refl refl, tt)));
}

review-again : (x : Review) (rest : List ℕ) → review_field.fits x ≡ true → review_field.read (review_bytes x ++ rest) ≡ Some (x, rest)
unfolding review_field
review-again review.Always rest fits = refl
review-again review.Finish rest fits = refl
review-again review.Close rest fits = refl

pub review-code : IsCode review_field review_bytes
unfolding review_field
review-code = record {
  again = review-again;
  takes = one_of-takes always review_bytes (bare review.Always ∷ bare review.Finish ∷ bare review.Close ∷ [])
      (bare-variant always review_bytes 0 review.Always refl refl, (bare-variant always review_bytes 1 review.Finish refl refl, (bare-variant always review_bytes 2 review.Close refl refl, tt)));
}

method-again : (x : Method) (rest : List ℕ) → method_field.fits x ≡ true → method_field.read (method_bytes x ++ rest) ≡ Some (x, rest)
unfolding method_field
method-again method.Highest rest fits = refl
method-again method.Average rest fits = refl
method-again method.First rest fits = refl
method-again method.Last rest fits = refl

pub method-code : IsCode method_field method_bytes
unfolding method_field
method-code = record {
  again = method-again;
  takes = one_of-takes always method_bytes (bare method.Highest ∷ bare method.Average ∷ bare method.First ∷ bare method.Last ∷ [])
      (bare-variant always method_bytes 0 method.Highest refl refl, (bare-variant always method_bytes 1 method.Average refl refl, (bare-variant always method_bytes 2 method.First refl refl, (bare-variant always method_bytes 3 method.Last refl refl, tt))));
}

pub settings-code : IsCode settings_field settings_bytes
unfolding settings_field
settings-code = struct-code (λ (x : (((((ℕ × ℕ) × ℕ) × ℕ) × Handling) × ℕ) × Review). record { opens = x.0.0.0.0.0.0; closes = x.0.0.0.0.0.1; limit = x.0.0.0.0.1; allowed = x.0.0.0.1; handling = x.0.0.1; grace = x.0.1; review = x.1 }) (λ (v : Settings). ((((((v.opens, v.closes), v.limit), v.allowed), v.handling), v.grace), v.review)) (u64-code ⊠ u64-code ⊠ u32-code ⊠ u32-code ⊠ handling-code ⊠ u32-code ⊠ review-code) (λ x. refl) (λ x. refl)

pub terms-code : IsCode terms_field terms_bytes
unfolding terms_field
terms-code = struct-code (λ (x : ℕ × Settings). record { at = x.0; settings = x.1 }) (λ (v : Terms). (v.at, v.settings)) (u64-code ⊠ settings-code) (λ x. refl) (λ x. refl)

pub bound-code : IsCode bound_field bound_bytes
unfolding bound_field
bound-code = struct-code (λ (x : ((ℕ × ℕ) × ℤ) × ℕ). record { entry = x.0.0.0; version = x.0.0.1; max = x.0.1; at = x.1 }) (λ (v : Bound). (((v.entry, v.version), v.max), v.at)) (u32-code ⊠ u32-code ⊠ i64-code ⊠ u64-code) (λ x. refl) (λ x. refl)

pub learned-code : IsCode learned_field learned_bytes
unfolding learned_field
learned-code = struct-code (λ (x : (ℕ × ℕ) × Question). record { entry = x.0.0; version = x.0.1; question = x.1 }) (λ (v : Learned). ((v.entry, v.version), v.question)) (u32-code ⊠ u32-code ⊠ question-code) (λ x. refl) (λ x. refl)

role-again : (x : Role) (rest : List ℕ) → role_field.fits x ≡ true → role_field.read (role_bytes x ++ rest) ≡ Some (x, rest)
unfolding role_field
role-again role.Manager rest fits = refl
role-again role.Teacher rest fits = refl
role-again role.Student rest fits = refl

pub role-code : IsCode role_field role_bytes
unfolding role_field
role-code = record {
  again = role-again;
  takes = one_of-takes always role_bytes (bare role.Manager ∷ bare role.Teacher ∷ bare role.Student ∷ [])
      (bare-variant always role_bytes 0 role.Manager refl refl, (bare-variant always role_bytes 1 role.Teacher refl refl, (bare-variant always role_bytes 2 role.Student refl refl, tt)));
}

whom-again : (x : Whom) (rest : List ℕ) → whom_field.fits x ≡ true → whom_field.read (whom_bytes x ++ rest) ≡ Some (x, rest)
unfolding whom_field
whom-again whom.User rest fits = refl
whom-again whom.Group rest fits = refl

pub whom-code : IsCode whom_field whom_bytes
unfolding whom_field
whom-code = record {
  again = whom-again;
  takes = one_of-takes always whom_bytes (bare whom.User ∷ bare whom.Group ∷ [])
      (bare-variant always whom_bytes 0 whom.User refl refl, (bare-variant always whom_bytes 1 whom.Group refl refl, tt));
}

request-again : (x : Request) (rest : List ℕ) → fits_request x ≡ true → request_field.read (request_bytes x ++ rest) ≡ Some (x, rest)
unfolding request_field user_request group_request member_request import_request edit_request tune_request quiz_request slot_request ready_request remax_request policy_request times_request override_request regrade_request
request-again (request.User x0 x1 x2) rest fits = held (λ (y : ((List ℕ) × Role) × (List ℕ)). request.User y.0.0 y.0.1 y.1) (text-code ⊠ role-code ⊠ text-code) ((x0, x1), x2) rest fits
request-again (request.Group x0) rest fits = held (λ (y : List ℕ). request.Group y) text-code x0 rest fits
request-again (request.Member x0 x1) rest fits = held (λ (y : ℕ × ℕ). request.Member y.0 y.1) (u32-code ⊠ u32-code) (x0, x1) rest fits
request-again (request.Import x0) rest fits = held (λ (y : Bank). request.Import y) bank-code x0 rest fits
request-again (request.Edit x0 x1) rest fits = held (λ (y : ℕ × Question). request.Edit y.0 y.1) (u32-code ⊠ question-code) (x0, x1) rest fits
request-again (request.Tune x0 x1 x2) rest fits = held (λ (y : (ℕ × ℤ) × (List (List ℕ))). request.Tune y.0.0 y.0.1 y.1) (u32-code ⊠ i64-code ⊠ (list-code text-code)) ((x0, x1), x2) rest fits
request-again (request.Quiz x0 x1) rest fits = held (λ (y : (List ℕ) × Behaviour). request.Quiz y.0 y.1) (text-code ⊠ behaviour-code) (x0, x1) rest fits
request-again (request.Slot x0 x1 x2) rest fits = held (λ (y : (ℕ × ℕ) × ℤ). request.Slot y.0.0 y.0.1 y.1) (u32-code ⊠ u32-code ⊠ i64-code) ((x0, x1), x2) rest fits
request-again (request.Ready x0) rest fits = held (λ (y : ℕ). request.Ready y) u32-code x0 rest fits
request-again (request.Remax x0 x1 x2) rest fits = held (λ (y : (ℕ × ℕ) × ℤ). request.Remax y.0.0 y.0.1 y.1) (u32-code ⊠ u16-code ⊠ i64-code) ((x0, x1), x2) rest fits
request-again (request.Policy x0 x1 x2) rest fits = held (λ (y : (ℕ × Method) × ℤ). request.Policy y.0.0 y.0.1 y.1) (u32-code ⊠ method-code ⊠ i128-code) ((x0, x1), x2) rest fits
request-again (request.Times x0 x1 x2 x3 x4 x5 x6 x7) rest fits = held (λ (y : ((((((ℕ × ℕ) × ℕ) × ℕ) × ℕ) × Handling) × ℕ) × Review). request.Times y.0.0.0.0.0.0.0 y.0.0.0.0.0.0.1 y.0.0.0.0.0.1 y.0.0.0.0.1 y.0.0.0.1 y.0.0.1 y.0.1 y.1) (u32-code ⊠ u64-code ⊠ u64-code ⊠ u32-code ⊠ u32-code ⊠ handling-code ⊠ u32-code ⊠ review-code) (((((((x0, x1), x2), x3), x4), x5), x6), x7) rest fits
request-again (request.Override x0 x1 x2 x3 x4 x5 x6) rest fits = held (λ (y : (((((ℕ × Whom) × ℕ) × (Option ℕ)) × (Option ℕ)) × (Option ℕ)) × (Option ℕ)). request.Override y.0.0.0.0.0.0 y.0.0.0.0.0.1 y.0.0.0.0.1 y.0.0.0.1 y.0.0.1 y.0.1 y.1) (u32-code ⊠ whom-code ⊠ u32-code ⊠ (option-code u64-code) ⊠ (option-code u64-code) ⊠ (option-code u32-code) ⊠ (option-code u32-code)) ((((((x0, x1), x2), x3), x4), x5), x6) rest fits
request-again (request.Regrade x0) rest fits = held (λ (y : ℕ). request.Regrade y) u32-code x0 rest fits
request-again x rest fits = absurd cc

pub request-code : IsCode request_field request_bytes
unfolding request_field user_request group_request member_request import_request edit_request tune_request quiz_request slot_request ready_request remax_request policy_request times_request override_request regrade_request
request-code = record {
  again = request-again;
  takes = one_of-takes fits_request request_bytes
      (user_request ∷ group_request ∷ member_request ∷ import_request ∷ edit_request ∷ tune_request ∷ quiz_request ∷ slot_request ∷ ready_request ∷ remax_request ∷ policy_request ∷ times_request ∷ override_request ∷ regrade_request ∷ []) (
        holding-variant fits_request request_bytes 0 (λ (y : ((List ℕ) × Role) × (List ℕ)). request.User y.0.0 y.0.1 y.1) (text-code ⊠ role-code ⊠ text-code) (λ y good. good) (λ y. refl),
        (
          holding-variant fits_request request_bytes 1 (λ (y : List ℕ). request.Group y) text-code (λ y good. good) (λ y. refl),
          (
            holding-variant fits_request request_bytes 2 (λ (y : ℕ × ℕ). request.Member y.0 y.1) (u32-code ⊠ u32-code) (λ y good. good) (λ y. refl),
            (
              holding-variant fits_request request_bytes 3 (λ (y : Bank). request.Import y) bank-code (λ y good. good) (λ y. refl),
              (
                holding-variant fits_request request_bytes 4 (λ (y : ℕ × Question). request.Edit y.0 y.1) (u32-code ⊠ question-code) (λ y good. good) (λ y. refl),
                (
                  holding-variant fits_request request_bytes 5 (λ (y : (ℕ × ℤ) × (List (List ℕ))). request.Tune y.0.0 y.0.1 y.1) (u32-code ⊠ i64-code ⊠ (list-code text-code)) (λ y good. good) (λ y. refl),
                  (
                    holding-variant fits_request request_bytes 6 (λ (y : (List ℕ) × Behaviour). request.Quiz y.0 y.1) (text-code ⊠ behaviour-code) (λ y good. good) (λ y. refl),
                    (
                      holding-variant fits_request request_bytes 7 (λ (y : (ℕ × ℕ) × ℤ). request.Slot y.0.0 y.0.1 y.1) (u32-code ⊠ u32-code ⊠ i64-code) (λ y good. good) (λ y. refl),
                      (
                        holding-variant fits_request request_bytes 8 (λ (y : ℕ). request.Ready y) u32-code (λ y good. good) (λ y. refl),
                        (
                          holding-variant fits_request request_bytes 9 (λ (y : (ℕ × ℕ) × ℤ). request.Remax y.0.0 y.0.1 y.1) (u32-code ⊠ u16-code ⊠ i64-code) (λ y good. good) (λ y. refl),
                          (
                            holding-variant fits_request request_bytes 10 (λ (y : (ℕ × Method) × ℤ). request.Policy y.0.0 y.0.1 y.1) (u32-code ⊠ method-code ⊠ i128-code) (λ y good. good) (λ y. refl),
                            (
                              holding-variant fits_request request_bytes 11 (λ (y : ((((((ℕ × ℕ) × ℕ) × ℕ) × ℕ) × Handling) × ℕ) × Review). request.Times y.0.0.0.0.0.0.0 y.0.0.0.0.0.0.1 y.0.0.0.0.0.1 y.0.0.0.0.1 y.0.0.0.1 y.0.0.1 y.0.1 y.1) (u32-code ⊠ u64-code ⊠ u64-code ⊠ u32-code ⊠ u32-code ⊠ handling-code ⊠ u32-code ⊠ review-code) (λ y good. good) (λ y. refl),
                              (
                                holding-variant fits_request request_bytes 12 (λ (y : (((((ℕ × Whom) × ℕ) × (Option ℕ)) × (Option ℕ)) × (Option ℕ)) × (Option ℕ)). request.Override y.0.0.0.0.0.0 y.0.0.0.0.0.1 y.0.0.0.0.1 y.0.0.0.1 y.0.0.1 y.0.1 y.1) (u32-code ⊠ whom-code ⊠ u32-code ⊠ (option-code u64-code) ⊠ (option-code u64-code) ⊠ (option-code u32-code) ⊠ (option-code u32-code)) (λ y good. good) (λ y. refl),
                                (
                                  holding-variant fits_request request_bytes 13 (λ (y : ℕ). request.Regrade y) u32-code (λ y good. good) (λ y. refl),
                                  tt,
                                ),
                              ),
                            ),
                          ),
                        ),
                      ),
                    ),
                  ),
                ),
              ),
            ),
          ),
        ),
      );
}

how-again : (x : How) (rest : List ℕ) → how_field.fits x ≡ true → how_field.read (how_bytes x ++ rest) ≡ Some (x, rest)
unfolding how_field
how-again how.Finished rest fits = refl
how-again how.Abandoned rest fits = refl

pub how-code : IsCode how_field how_bytes
unfolding how_field
how-code = record {
  again = how-again;
  takes = one_of-takes always how_bytes (bare how.Finished ∷ bare how.Abandoned ∷ [])
      (bare-variant always how_bytes 0 how.Finished refl refl, (bare-variant always how_bytes 1 how.Abandoned refl refl, tt));
}

event-again : (x : Event) (rest : List ℕ) → fits_event x ≡ true → event_field.read (event_bytes x ++ rest) ≡ Some (x, rest)
unfolding event_field founded_event asked_event started_event acted_event noted_event ended_event rebound_event skipped_event jobdone_event
event-again (event.Founded x0 x1) rest fits = held (λ (y : ℕ × (List ℕ)). event.Founded y.0 y.1) (u8-code ⊠ text-code) (x0, x1) rest fits
event-again (event.Asked x0) rest fits = held (λ (y : Request). event.Asked y) request-code x0 rest fits
event-again (event.Started x0 x1 x2 x3 x4) rest fits = held (λ (y : (((ℕ × ℕ) × Behaviour) × (List Bound)) × (List Learned)). event.Started y.0.0.0.0 y.0.0.0.1 y.0.0.1 y.0.1 y.1) (u32-code ⊠ u32-code ⊠ behaviour-code ⊠ (list-code bound-code) ⊠ (list-code learned-code)) ((((x0, x1), x2), x3), x4) rest fits
event-again (event.Acted x0 x1 x2) rest fits = held (λ (y : (AttemptId × ℕ) × Step). event.Acted y.0.0 y.0.1 y.1) (attempt-code ⊠ u16-code ⊠ step-code) ((x0, x1), x2) rest fits
event-again (event.Noted x0 x1 x2) rest fits = held (λ (y : (AttemptId × ℕ) × Step). event.Noted y.0.0 y.0.1 y.1) (attempt-code ⊠ u16-code ⊠ step-code) ((x0, x1), x2) rest fits
event-again (event.Ended x0 x1) rest fits = held (λ (y : AttemptId × How). event.Ended y.0 y.1) (attempt-code ⊠ how-code) (x0, x1) rest fits
event-again (event.Rebound x0 x1 x2 x3 x4) rest fits = held (λ (y : (((ℕ × AttemptId) × ℕ) × Bound) × (List Learned)). event.Rebound y.0.0.0.0 y.0.0.0.1 y.0.0.1 y.0.1 y.1) (u32-code ⊠ attempt-code ⊠ u16-code ⊠ bound-code ⊠ (list-code learned-code)) ((((x0, x1), x2), x3), x4) rest fits
event-again (event.Skipped x0 x1 x2 x3 x4) rest fits = held (λ (y : (((ℕ × AttemptId) × ℕ) × Shape) × Shape). event.Skipped y.0.0.0.0 y.0.0.0.1 y.0.0.1 y.0.1 y.1) (u32-code ⊠ attempt-code ⊠ u16-code ⊠ shape-code ⊠ shape-code) ((((x0, x1), x2), x3), x4) rest fits
event-again (event.JobDone x0 x1 x2) rest fits = held (λ (y : (ℕ × ℕ) × ℕ). event.JobDone y.0.0 y.0.1 y.1) (u32-code ⊠ u32-code ⊠ u64-code) ((x0, x1), x2) rest fits

pub event-code : IsCode event_field event_bytes
unfolding event_field founded_event asked_event started_event acted_event noted_event ended_event rebound_event skipped_event jobdone_event
event-code = record {
  again = event-again;
  takes = one_of-takes fits_event event_bytes
      (founded_event ∷ asked_event ∷ started_event ∷ acted_event ∷ noted_event ∷ ended_event ∷ rebound_event ∷ skipped_event ∷ jobdone_event ∷ []) (
        holding-variant fits_event event_bytes 0 (λ (y : ℕ × (List ℕ)). event.Founded y.0 y.1) (u8-code ⊠ text-code) (λ y good. good) (λ y. refl),
        (
          holding-variant fits_event event_bytes 1 (λ (y : Request). event.Asked y) request-code (λ y good. good) (λ y. refl),
          (
            holding-variant fits_event event_bytes 2 (λ (y : (((ℕ × ℕ) × Behaviour) × (List Bound)) × (List Learned)). event.Started y.0.0.0.0 y.0.0.0.1 y.0.0.1 y.0.1 y.1) (u32-code ⊠ u32-code ⊠ behaviour-code ⊠ (list-code bound-code) ⊠ (list-code learned-code)) (λ y good. good) (λ y. refl),
            (
              holding-variant fits_event event_bytes 3 (λ (y : (AttemptId × ℕ) × Step). event.Acted y.0.0 y.0.1 y.1) (attempt-code ⊠ u16-code ⊠ step-code) (λ y good. good) (λ y. refl),
              (
                holding-variant fits_event event_bytes 4 (λ (y : (AttemptId × ℕ) × Step). event.Noted y.0.0 y.0.1 y.1) (attempt-code ⊠ u16-code ⊠ step-code) (λ y good. good) (λ y. refl),
                (
                  holding-variant fits_event event_bytes 5 (λ (y : AttemptId × How). event.Ended y.0 y.1) (attempt-code ⊠ how-code) (λ y good. good) (λ y. refl),
                  (
                    holding-variant fits_event event_bytes 6 (λ (y : (((ℕ × AttemptId) × ℕ) × Bound) × (List Learned)). event.Rebound y.0.0.0.0 y.0.0.0.1 y.0.0.1 y.0.1 y.1) (u32-code ⊠ attempt-code ⊠ u16-code ⊠ bound-code ⊠ (list-code learned-code)) (λ y good. good) (λ y. refl),
                    (
                      holding-variant fits_event event_bytes 7 (λ (y : (((ℕ × AttemptId) × ℕ) × Shape) × Shape). event.Skipped y.0.0.0.0 y.0.0.0.1 y.0.0.1 y.0.1 y.1) (u32-code ⊠ attempt-code ⊠ u16-code ⊠ shape-code ⊠ shape-code) (λ y good. good) (λ y. refl),
                      (
                        holding-variant fits_event event_bytes 8 (λ (y : (ℕ × ℕ) × ℕ). event.JobDone y.0.0 y.0.1 y.1) (u32-code ⊠ u32-code ⊠ u64-code) (λ y good. good) (λ y. refl),
                        tt,
                      ),
                    ),
                  ),
                ),
              ),
            ),
          ),
        ),
      );
}

pub record-code : IsCode record_field spelling
unfolding record_field
record-code = struct-code (λ (x : ((((ℕ × ℕ) × ℕ) × (Option (List ℕ))) × (Option Terms)) × Event). record { moment = x.0.0.0.0.0; caller = x.0.0.0.0.1; owner = x.0.0.0.1; key = x.0.0.1; terms = x.0.1; event = x.1 }) (λ (v : Record). (((((v.moment, v.caller), v.owner), v.key), v.terms), v.event)) (u64-code ⊠ u32-code ⊠ u32-code ⊠ (option-code text-code) ⊠ (option-code terms-code) ⊠ event-code) (λ x. refl) (λ x. refl)
