-- Worked bytes of records.
use Rattle.std.specs.Prelude.{◌≡◌, ℕ, true, List, [], ◌∷◌, ◌++◌, map, length, replicate, pos, negsuc, Some, None, codes, refl}
use Rattle.qz_grading.specs.declared.outcome.Behaviour.TheVariants as behaviour
use Rattle.qz_grading.specs.declared.question.Choice.{Choice}
use Rattle.qz_grading.specs.declared.question.Extent.TheVariants as extent
use Rattle.qz_grading.specs.declared.question.Format.TheVariants as format
use Rattle.qz_grading.specs.declared.question.Kind.TheVariants as kind
use Rattle.qz_grading.specs.declared.question.Rich.{Rich}
use Rattle.qz_grading.specs.declared.response.Answer.TheVariants as answer
use Rattle.qz_grading.specs.declared.response.Step.TheVariants as step
use Rattle.qz_terms.specs.declared.grades.Method.TheVariants as method
use Rattle.qz_terms.specs.declared.people.Role.TheVariants as role
use Rattle.qz_terms.specs.declared.record.How.TheVariants as how
use Rattle.qz_terms.specs.declared.request.Request.TheVariants as request
use Rattle.qz_terms.specs.declared.request.Whom.TheVariants as whom
use Rattle.qz_terms.specs.declared.access.Handling.TheVariants as handling
use Rattle.qz_terms.specs.declared.access.Review.TheVariants as review
use Rattle.qz_terms.specs.declared.record.Event.TheVariants as event
use Rattle.qz_terms.specs.declared.record.Record.{Record}
use Rattle.qz_terms.specs.Spelling.{answer_bytes, bank_bytes, choice_bytes, event_bytes, extent_bytes, kind_bytes, num_bytes, pair_bytes, request_bytes, short_bytes, signed_bytes, spelling, step_bytes, text_bytes, wide_bytes}

-- the first job, of the first quiz, is done at position 9
abbrev job_done : Record
job_done = record { moment = 100; caller = 0; owner = 0; key = None; terms = None; event = event.JobDone 1 1 9 }

pub a_job_done : spelling job_done ≡ 100 ∷ 0 ∷ 0 ∷ 0 ∷ 0 ∷ 0 ∷ 0 ∷ 0 ∷ 0 ∷ 0 ∷ 0 ∷ 0 ∷ 0 ∷ 0 ∷ 0 ∷ 0 ∷ 0 ∷ 0 ∷ 8 ∷ 1 ∷ 0 ∷ 0 ∷ 0 ∷ 1 ∷ 0 ∷ 0 ∷ 0 ∷ 9 ∷ 0 ∷ 0 ∷ 0 ∷ 0 ∷ 0 ∷ 0 ∷ 0 ∷ []
a_job_done = refl

pub its_length : length (spelling job_done) ≡ 35
its_length = refl

-- minus 1, and 258
pub a_negative_mark : signed_bytes (negsuc 0) ≡ 255 ∷ 255 ∷ 255 ∷ 255 ∷ 255 ∷ 255 ∷ 255 ∷ 255 ∷ []
a_negative_mark = refl

pub a_text : text_bytes (codes "ab") ≡ 2 ∷ 0 ∷ 0 ∷ 0 ∷ 97 ∷ 98 ∷ []
a_text = refl

-- the founding of a school with one shard
pub a_founding : spelling (record { moment = 0; caller = 0; owner = 0; key = None; terms = None; event = event.Founded 1 (codes "root") }) ≡ replicate 18 0 ++ (0 ∷ 1 ∷ 4 ∷ 0 ∷ 0 ∷ 0 ∷ []) ++ codes "root"
a_founding = refl

-- a student saves true, under settings of a quiz that closes at 200
abbrev saved_true : Record
saved_true = record {
  moment = 1;
  caller = 2;
  owner = 2;
  key = Some (codes "k");
  terms = Some (record { at = 7; settings = record { opens = 0; closes = 200; limit = 0; allowed = 1; handling = handling.GracePeriod; grace = 30; review = review.Close } });
  event = event.Acted (record { user = 2; nth = 1 }) 1 (step.Save (record { answer = answer.Pick 1; certainty = 0 }));
}

pub a_save : spelling saved_true ≡
    1 ∷ 0 ∷ 0 ∷ 0 ∷ 0 ∷ 0 ∷ 0 ∷ 0 ∷ 2 ∷ 0 ∷ 0 ∷ 0 ∷ 2 ∷ 0 ∷ 0 ∷ 0 ∷ 1 ∷ 1 ∷ 0 ∷ 0 ∷ 0 ∷ 107
    ∷ 1 ∷ 7 ∷ 0 ∷ 0 ∷ 0 ∷ 0 ∷ 0 ∷ 0 ∷ 0 ∷ 0 ∷ 0 ∷ 0 ∷ 0 ∷ 0 ∷ 0 ∷ 0 ∷ 0 ∷ 200 ∷ 0 ∷ 0 ∷ 0 ∷ 0 ∷ 0 ∷ 0 ∷ 0 ∷ 0 ∷ 0 ∷ 0 ∷ 0 ∷ 1 ∷ 0 ∷ 0 ∷ 0 ∷ 1 ∷ 30 ∷ 0 ∷ 0 ∷ 0 ∷ 2
    ∷ 3 ∷ 2 ∷ 0 ∷ 0 ∷ 0 ∷ 1 ∷ 0 ∷ 0 ∷ 0 ∷ 1 ∷ 0 ∷ 0 ∷ 1 ∷ 1 ∷ 0 ∷ []
a_save = refl

-- ---- parts of questions

abbrev zeros : ℕ → List ℕ
zeros n = replicate n 0

abbrev html : List ℕ → Rich
html text = record { format = format.Html; text = text }

abbrev a_choice : Choice
a_choice = record { weight = pos 10000000; text = html (codes "a"); feedback = html [] }

-- 10^7 is 128, 150, 152
abbrev whole : List ℕ
whole = 128 ∷ 150 ∷ 152 ∷ 0 ∷ 0 ∷ 0 ∷ 0 ∷ 0 ∷ []

abbrev letter : List ℕ
letter = 1 ∷ 0 ∷ 0 ∷ 0 ∷ codes "a"

pub of_a_choice : choice_bytes a_choice ≡ whole ++ (1 ∷ letter) ++ (1 ∷ zeros 4)
of_a_choice = refl

pub of_a_pair : pair_bytes (record { stem = html (codes "a"); answer = codes "a" }) ≡ (1 ∷ letter) ++ letter
of_a_pair = refl

pub of_a_short : short_bytes (record { weight = pos 10000000; pattern = codes "a"; feedback = html [] }) ≡ whole ++ letter ++ (1 ∷ zeros 4)
of_a_short = refl

pub of_minus_2 : wide_bytes (negsuc 1) ≡ 254 ∷ replicate 15 255
of_minus_2 = refl

pub of_any : extent_bytes extent.Any ≡ 0 ∷ []
of_any = refl

pub of_near : extent_bytes (extent.Near (pos 258) (pos 1)) ≡ 1 ∷ 2 ∷ 1 ∷ zeros 14 ++ (1 ∷ zeros 15)
of_near = refl

pub of_between : extent_bytes (extent.Between (pos 1) (pos 258)) ≡ 2 ∷ 1 ∷ zeros 15 ++ (2 ∷ 1 ∷ zeros 14)
of_between = refl

pub of_a_number : num_bytes (record { weight = pos 10000000; extent = extent.Any; feedback = html [] }) ≡ whole ++ (0 ∷ 1 ∷ zeros 4)
of_a_number = refl

pub of_each_kind :
    map kind_bytes (kind.Description ∷ kind.Essay ∷ kind.TrueFalse true (html []) (html (codes "a")) ∷ kind.One [] ∷ kind.Several (a_choice ∷ []) ∷ kind.Matching [] ∷ kind.ShortAnswer [] ∷ kind.Numerical [] ∷ [])
    ≡ (0 ∷ []) ∷ (1 ∷ []) ∷ (2 ∷ 1 ∷ (1 ∷ zeros 4) ++ (1 ∷ letter)) ∷ (3 ∷ zeros 4) ∷ (4 ∷ 1 ∷ 0 ∷ 0 ∷ 0 ∷ choice_bytes a_choice) ∷ (5 ∷ zeros 4) ∷ (6 ∷ zeros 4) ∷ (7 ∷ zeros 4) ∷ []
of_each_kind = refl

-- one question without hints, whose penalty is 1, in the category a
pub of_a_bank :
    bank_bytes (record { items = record { category = codes "a" ∷ []; question = record { name = codes "a"; text = html (codes "a"); general = html []; kind = kind.Essay; penalty = pos 10000000; hints = codes "a" ∷ [] } } ∷ [] })
    ≡ (1 ∷ 0 ∷ 0 ∷ 0 ∷ []) ++ (1 ∷ 0 ∷ 0 ∷ 0 ∷ letter) ++ letter ++ (1 ∷ letter) ++ (1 ∷ zeros 4) ++ (1 ∷ []) ++ whole ++ (1 ∷ 0 ∷ 0 ∷ 0 ∷ letter)
of_a_bank = refl

-- ---- answers and steps

pub of_each_answer :
    map answer_bytes (answer.Blank ∷ answer.Pick 3 ∷ answer.Picks (1 ∷ 3 ∷ []) ∷ answer.Match (2 ∷ []) ∷ answer.Words (codes "a") ∷ [])
    ≡ (0 ∷ []) ∷ (1 ∷ 3 ∷ []) ∷ (2 ∷ 2 ∷ 0 ∷ 0 ∷ 0 ∷ 1 ∷ 3 ∷ []) ∷ (3 ∷ 1 ∷ 0 ∷ 0 ∷ 0 ∷ 2 ∷ []) ∷ (4 ∷ letter) ∷ []
of_each_answer = refl

pub of_each_step :
    map step_bytes (step.Save (record { answer = answer.Pick 1; certainty = 2 }) ∷ step.Submit (record { answer = answer.Blank; certainty = 3 }) ∷ step.Again ∷ step.Finish ∷ step.Mark (pos 0) (pos 10000000) ∷ [])
    ≡ (0 ∷ 1 ∷ 1 ∷ 2 ∷ []) ∷ (1 ∷ 0 ∷ 3 ∷ []) ∷ (2 ∷ []) ∷ (3 ∷ []) ∷ (4 ∷ zeros 8 ++ whole) ∷ []
of_each_step = refl

-- ---- requests to the catalogue

pub of_a_user : request_bytes (request.User (codes "a") role.Student (codes "a")) ≡ 0 ∷ letter ++ (2 ∷ letter)
of_a_user = refl

pub of_a_group : request_bytes (request.Group (codes "a")) ≡ 1 ∷ letter
of_a_group = refl

pub of_a_member : request_bytes (request.Member 1 2) ≡ 2 ∷ 1 ∷ 0 ∷ 0 ∷ 0 ∷ 2 ∷ 0 ∷ 0 ∷ 0 ∷ []
of_a_member = refl

pub of_an_import : request_bytes (request.Import (record { items = [] })) ≡ 3 ∷ zeros 4
of_an_import = refl

pub of_a_tuning : request_bytes (request.Tune 1 (pos 10000000) (codes "a" ∷ [])) ≡ 5 ∷ 1 ∷ 0 ∷ 0 ∷ 0 ∷ whole ++ (1 ∷ 0 ∷ 0 ∷ 0 ∷ letter)
of_a_tuning = refl

pub of_a_quiz : request_bytes (request.Quiz (codes "a") behaviour.ImmediateCbm) ≡ 6 ∷ letter ++ (6 ∷ [])
of_a_quiz = refl

pub of_a_slot : request_bytes (request.Slot 1 2 (pos 10000000)) ≡ 7 ∷ 1 ∷ 0 ∷ 0 ∷ 0 ∷ 2 ∷ 0 ∷ 0 ∷ 0 ∷ whole
of_a_slot = refl

pub of_a_ready : request_bytes (request.Ready 1) ≡ 8 ∷ 1 ∷ 0 ∷ 0 ∷ 0 ∷ []
of_a_ready = refl

pub of_a_remax : request_bytes (request.Remax 1 2 (pos 10000000)) ≡ 9 ∷ 1 ∷ 0 ∷ 0 ∷ 0 ∷ 2 ∷ 0 ∷ whole
of_a_remax = refl

pub of_a_policy : request_bytes (request.Policy 1 method.Last (pos 1)) ≡ 10 ∷ 1 ∷ 0 ∷ 0 ∷ 0 ∷ 3 ∷ 1 ∷ zeros 15
of_a_policy = refl

pub of_times : request_bytes (request.Times 1 2 3 4 5 handling.AutoAbandon 6 review.Finish) ≡ 11 ∷ 1 ∷ 0 ∷ 0 ∷ 0 ∷ 2 ∷ zeros 7 ++ (3 ∷ zeros 7) ++ (4 ∷ 0 ∷ 0 ∷ 0 ∷ 5 ∷ 0 ∷ 0 ∷ 0 ∷ 2 ∷ 6 ∷ 0 ∷ 0 ∷ 0 ∷ 1 ∷ [])
of_times = refl

pub of_an_override : request_bytes (request.Override 1 whom.Group 2 None (Some 3) (Some 4) None) ≡ 12 ∷ 1 ∷ 0 ∷ 0 ∷ 0 ∷ 1 ∷ 2 ∷ 0 ∷ 0 ∷ 0 ∷ 0 ∷ 1 ∷ 3 ∷ zeros 7 ++ (1 ∷ 4 ∷ 0 ∷ 0 ∷ 0 ∷ 0 ∷ [])
of_an_override = refl

pub of_a_regrade : request_bytes (request.Regrade 1) ≡ 13 ∷ 1 ∷ 0 ∷ 0 ∷ 0 ∷ []
of_a_regrade = refl

-- ---- events of a shard

pub of_a_start :
    event_bytes (event.Started 1 2 behaviour.Deferred (record { entry = 3; version = 4; max = pos 10000000; at = 7 } ∷ []) [])
    ≡ 2 ∷ 1 ∷ 0 ∷ 0 ∷ 0 ∷ 2 ∷ 0 ∷ 0 ∷ 0 ∷ 0 ∷ 1 ∷ 0 ∷ 0 ∷ 0 ∷ 3 ∷ 0 ∷ 0 ∷ 0 ∷ 4 ∷ 0 ∷ 0 ∷ 0 ∷ whole ++ (7 ∷ zeros 11)
of_a_start = refl

pub of_an_end : event_bytes (event.Ended (record { user = 2; nth = 1 }) how.Abandoned) ≡ 5 ∷ 2 ∷ 0 ∷ 0 ∷ 0 ∷ 1 ∷ 0 ∷ 0 ∷ 0 ∷ 1 ∷ []
of_an_end = refl

pub of_a_rebinding :
    event_bytes (event.Rebound 1 (record { user = 2; nth = 1 }) 5 (record { entry = 3; version = 4; max = pos 10000000; at = 7 }) [])
    ≡ 6 ∷ 1 ∷ 0 ∷ 0 ∷ 0 ∷ 2 ∷ 0 ∷ 0 ∷ 0 ∷ 1 ∷ 0 ∷ 0 ∷ 0 ∷ 5 ∷ 0 ∷ 3 ∷ 0 ∷ 0 ∷ 0 ∷ 4 ∷ 0 ∷ 0 ∷ 0 ∷ whole ++ (7 ∷ zeros 11)
of_a_rebinding = refl

pub of_a_skip :
    event_bytes (event.Skipped 1 (record { user = 2; nth = 1 }) 5 (record { kind = 3; first = 3; second = 0 }) (record { kind = 3; first = 2; second = 0 }))
    ≡ 7 ∷ 1 ∷ 0 ∷ 0 ∷ 0 ∷ 2 ∷ 0 ∷ 0 ∷ 0 ∷ 1 ∷ 0 ∷ 0 ∷ 0 ∷ 5 ∷ 0 ∷ 3 ∷ 3 ∷ 0 ∷ 3 ∷ 2 ∷ 0 ∷ []
of_a_skip = refl
