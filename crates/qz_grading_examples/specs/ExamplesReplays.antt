-- Worked replays: what each line of the replay of one slot says. The questions are as GIFT would read them.
use Rattle.std.specs.Prelude.{◌≡◌, ℕ, Bool, true, false, if◌then◌else◌, List, [], ◌∷◌, ◌++◌, nat_le, length, filter, map, replicate, Option, Some, None, ℤ, pos, negsuc, codes, refl}
use Rattle.std.proofs.Common.{ap}
use Rattle.qz_decimal.specs.Decimals.{decimal_in, digits_in, tens_in, exact_size}
use Rattle.qz_text.specs.Computing.{patterns}
use Rattle.qz_grading.specs.declared.outcome.Behaviour.{Behaviour}
use Rattle.qz_grading.specs.declared.outcome.Behaviour.TheVariants as behaviour
use Rattle.qz_grading.specs.declared.outcome.Moved.{Moved}
use Rattle.qz_grading.specs.declared.outcome.Moved.TheVariants.{Kept, Same}
use Rattle.qz_grading.specs.declared.outcome.State.{State}
use Rattle.qz_grading.specs.declared.outcome.State.TheVariants as state
use Rattle.qz_grading.specs.declared.question.Choice.{Choice}
use Rattle.qz_grading.specs.declared.question.Extent.TheVariants as extent
use Rattle.qz_grading.specs.declared.question.Format.TheVariants.{Moodle}
use Rattle.qz_grading.specs.declared.question.Kind.{Kind}
use Rattle.qz_grading.specs.declared.question.Kind.TheVariants as kind
use Rattle.qz_grading.specs.declared.question.Pair.{Pair}
use Rattle.qz_grading.specs.declared.question.Question.{Question}
use Rattle.qz_grading.specs.declared.question.Rich.{Rich}
use Rattle.qz_grading.specs.declared.refusal.Refusal.{Refusal}
use Rattle.qz_grading.specs.declared.refusal.Refusal.TheVariants as refusal
use Rattle.qz_grading.specs.declared.response.Answer.{Answer}
use Rattle.qz_grading.specs.declared.response.Answer.TheVariants as answer
use Rattle.qz_grading.specs.declared.response.Response.{Response}
use Rattle.qz_grading.specs.declared.response.Step.{Step}
use Rattle.qz_grading.specs.declared.response.Step.TheVariants as step
use Rattle.qz_grading.specs.Behaviours.{first_some, graded, marked, moved, outcome, when}
use Rattle.qz_grading.specs.Shapes.{same_shape, shape}
use Rattle.qz_grading.specs.Slots.{is_full_for, slot_mark, slot_state, step_cause}
use Rattle.qz_grading.specs.Steps.{is_answering, is_mark}
use Rattle.qz_grading.specs.Words.{behaviour_word, kind_word, state_word}

-- ---- what a line says

pub record Asked : Type 0 where
  pub behaviour : Behaviour
  pub max : ℤ
  pub question : Question

-- what the slot shows now; that the step was the same as before, and what the slot shows; or why the step was refused
pub data Line : Type 0 where
  Shows : State → Option ℤ → Line
  Again : State → Option ℤ → Line
  Refused : Refusal → Line

-- after these steps
abbrev shown : Asked → List Step → Line
shown a taken = Shows (slot_state a.behaviour a.question taken) (slot_mark a.behaviour a.question a.max taken)

abbrev line_by : Moved → Asked → List Step → Step → Line
line_by Kept a taken x = shown a (taken ++ x ∷ [])
line_by Same a taken x = Again (slot_state a.behaviour a.question taken) (slot_mark a.behaviour a.question a.max taken)

-- the line of a step after those that were taken
abbrev line : Asked → List Step → Step → Line
line a taken x = elim (step_cause a.behaviour a.question a.max taken x) [ None ↦ line_by (moved taken x) a taken x | Some r ↦ Refused r ]

-- the line of a newer question and max mark
abbrev bound : Asked → List Step → ℤ → Question → Line
bound a taken max newer =
    if same_shape (shape a.question) (shape newer) then shown (record a { max = max; question = newer }) taken
    else Refused (refusal.Incompatible (shape a.question) (shape newer))

-- ---- questions and steps

abbrev plain : List ℕ → Rich
plain text = record { format = Moodle; text = text }

-- its text, which names it
abbrev asking : List ℕ → Kind → Question
asking text k = record { name = text; text = plain text; general = plain []; kind = k; penalty = pos 3333333; hints = [] }

abbrev true_false : Bool → Kind
true_false right = kind.TrueFalse right (plain []) (plain [])

-- without a text, so that the name is made up
abbrev untitled : Kind → Question
untitled k = record { name = codes "Question"; text = plain []; general = plain []; kind = k; penalty = pos 3333333; hints = [] }

abbrev respond : ℕ → Answer → Response
respond certainty given = record { answer = given; certainty = certainty }

abbrev save : Answer → Step
save given = step.Save (respond 0 given)

abbrev submit : Answer → Step
submit given = step.Submit (respond 0 given)

abbrev pick : ℕ → Answer
pick n = answer.Pick n

-- ---- deferred feedback, max mark 2, true is right

abbrev deferred : Asked
deferred = record { behaviour = behaviour.Deferred; max = pos 20000000; question = untitled (true_false true) }

pub nothing_yet : shown deferred [] ≡ Shows state.Todo None
nothing_yet = refl

pub true_is_saved : line deferred [] (save (pick 1)) ≡ Shows state.Complete None
true_is_saved = refl

pub true_is_right : line deferred (save (pick 1) ∷ []) step.Finish ≡ Shows state.GradedRight (Some (pos 20000000))
true_is_right = refl

pub nothing_is_given_up : line deferred [] step.Finish ≡ Shows state.GaveUp None
nothing_is_given_up = refl

-- the blank response stands from the first
pub blank_is_the_same : line deferred [] (save answer.Blank) ≡ Again state.Todo None
blank_is_the_same = refl

pub true_is_the_same : line deferred (save (pick 1) ∷ []) (save (pick 1)) ≡ Again state.Complete None
true_is_the_same = refl

-- of a true-false question there is no third choice; a second finish comes late
pub no_third_choice : line deferred [] (save (pick 3)) ≡ Refused refusal.Misfit
no_third_choice = refl

pub finished_once : line deferred (step.Finish ∷ []) step.Finish ≡ Refused (refusal.SlotEnded state.GaveUp)
finished_once = refl

pub false_is_saved : line deferred [] (save (pick 2)) ≡ Shows state.Complete None
false_is_saved = refl

pub false_is_wrong : line deferred (save (pick 2) ∷ []) step.Finish ≡ Shows state.GradedWrong (Some (pos 0))
false_is_wrong = refl

-- late comes before misfit
pub late_before_misfit : line deferred (save (pick 2) ∷ step.Finish ∷ []) (save (pick 3)) ≡ Refused (refusal.SlotEnded state.GradedWrong)
late_before_misfit = refl

pub nothing_is_submitted : line deferred [] (submit (pick 1)) ≡ Refused (refusal.WrongAction behaviour.Deferred)
nothing_is_submitted = refl

pub its_word : behaviour_word behaviour.Deferred ≡ codes "deferredfeedback"
its_word = refl

-- also where the slot has ended
pub wrong_before_late : line deferred (step.Finish ∷ []) (submit (pick 1)) ≡ Refused (refusal.WrongAction behaviour.Deferred)
wrong_before_late = refl

pub marked_after_the_finish : line deferred [] (step.Mark (pos 10000000) (pos 20000000)) ≡ Refused refusal.NotFinished
marked_after_the_finish = refl

pub out_of_range_first : line deferred [] (step.Mark (pos 20000001) (pos 20000000)) ≡ Refused (refusal.OutOfRange (pos 20000000))
out_of_range_first = refl

-- a last response that was taken back is given up
pub taken_back : line deferred (save (pick 1) ∷ save answer.Blank ∷ []) step.Finish ≡ Shows state.GaveUp None
taken_back = refl

-- what stands behind a finish isn't read
pub nothing_behind_the_finish : shown deferred (save (pick 1) ∷ step.Finish ∷ save (pick 2) ∷ []) ≡ Shows state.GradedRight (Some (pos 20000000))
nothing_behind_the_finish = refl

-- ---- bound to a newer version: the same steps are read again

pub false_is_right_now : bound deferred (save (pick 1) ∷ step.Finish ∷ []) (pos 20000000) (untitled (true_false false)) ≡ Shows state.GradedWrong (Some (pos 0))
false_is_right_now = refl

abbrev choice : ℤ → List ℕ → Choice
choice weight text = record { weight = weight; text = plain text; feedback = plain [] }

abbrev a_or_b : Question
a_or_b = untitled (kind.One (choice (pos 10000000) (codes "a") ∷ choice (pos 0) (codes "b") ∷ []))

pub another_shape : bound deferred (save (pick 1) ∷ step.Finish ∷ []) (pos 20000000) a_or_b ≡ Refused (refusal.Incompatible (record { kind = 2; first = 0; second = 0 }) (record { kind = 3; first = 2; second = 0 }))
another_shape = refl

pub word_of_the_bound : kind_word 2 ≡ codes "truefalse"
word_of_the_bound = refl

pub word_of_the_newer : kind_word 3 ≡ codes "choice"
word_of_the_newer = refl

-- ---- three choices of a third each, max mark 3

abbrev thirds : Asked
thirds = record { behaviour = behaviour.Deferred; max = pos 30000000; question = asking (codes "Q") (kind.Several (choice (pos 3333333) (codes "a") ∷ choice (pos 3333333) (codes "b") ∷ choice (pos 3333333) (codes "c") ∷ [])) }

abbrev all_three : Answer
all_three = answer.Picks (1 ∷ 2 ∷ 3 ∷ [])

pub three_not_yet : shown thirds [] ≡ Shows state.Todo None
three_not_yet = refl

pub three_are_saved : line thirds [] (save all_three) ≡ Shows state.Complete None
three_are_saved = refl

-- together they count as right, and earn what they are worth
pub three_are_right : line thirds (save all_three ∷ []) step.Finish ≡ Shows state.GradedRight (Some (pos 29999997))
three_are_right = refl

-- ---- three pairs, max mark 10

abbrev pair : List ℕ → List ℕ → Pair
pair stem text = record { stem = plain stem; answer = text }

abbrev pairs : Asked
pairs = record { behaviour = behaviour.Deferred; max = pos 100000000; question = asking (codes "M") (kind.Matching (pair (codes "a") (codes "x") ∷ pair (codes "b") (codes "y") ∷ pair (codes "c") (codes "z") ∷ [])) }

abbrev two_right : Answer
two_right = answer.Match (1 ∷ 2 ∷ 1 ∷ [])

pub pairs_not_yet : shown pairs [] ≡ Shows state.Todo None
pairs_not_yet = refl

pub pairs_are_saved : line pairs [] (save two_right) ≡ Shows state.Complete None
pairs_are_saved = refl

pub two_pairs_are_right : line pairs (save two_right ∷ []) step.Finish ≡ Shows state.GradedPartial (Some (pos 66666670))
two_pairs_are_right = refl

-- partly answered it isn't complete, and is graded
pub one_stem_left : line pairs [] (save (answer.Match (1 ∷ 2 ∷ 0 ∷ []))) ≡ Shows state.Todo None
one_stem_left = refl

pub one_stem_wrong : line pairs (save (answer.Match (1 ∷ 2 ∷ 0 ∷ [])) ∷ []) step.Finish ≡ Shows state.GradedPartial (Some (pos 66666670))
one_stem_wrong = refl

-- ---- a number with a tolerance, max mark 1

abbrev number : Asked
number = record { behaviour = behaviour.Deferred; max = pos 10000000; question = asking (codes "N") (kind.Numerical (record { weight = pos 10000000; extent = extent.Near (pos 31400000000) (pos 100000000); feedback = plain [] } ∷ [])) }

abbrev typed : List ℕ → Answer
typed text = answer.Words text

pub number_not_yet : shown number [] ≡ Shows state.Todo None
number_not_yet = refl

pub at_the_edge : line number [] (save (typed (codes "3.15"))) ≡ Shows state.Complete None
unfolding decimal_in digits_in tens_in exact_size
at_the_edge = refl

pub the_edge_is_right : line number (save (typed (codes "3.15")) ∷ []) step.Finish ≡ Shows state.GradedRight (Some (pos 10000000))
unfolding decimal_in digits_in tens_in exact_size
the_edge_is_right = refl

pub past_the_edge : line number [] (save (typed (codes "3.1500000001"))) ≡ Shows state.Complete None
unfolding decimal_in digits_in tens_in exact_size
past_the_edge = refl

pub past_the_edge_is_wrong : line number (save (typed (codes "3.1500000001")) ∷ []) step.Finish ≡ Shows state.GradedWrong (Some (pos 0))
unfolding decimal_in digits_in tens_in exact_size
past_the_edge_is_wrong = refl

-- the edge below
pub lower_edge_is_right : line number (save (typed (codes "3.13")) ∷ []) step.Finish ≡ Shows state.GradedRight (Some (pos 10000000))
unfolding decimal_in digits_in tens_in exact_size
lower_edge_is_right = refl

-- so great a number has no reading
pub no_number : line number [] (save (typed (codes "1e99"))) ≡ Shows state.Todo None
unfolding decimal_in digits_in tens_in exact_size
no_number = refl

pub no_number_is_given_up : line number (save (typed (codes "1e99")) ∷ []) step.Finish ≡ Shows state.GaveUp None
unfolding decimal_in digits_in tens_in exact_size
no_number_is_given_up = refl

-- ---- interactive, max mark 3, two hints: each wrong try costs a third

abbrev with_tries : ℕ → Asked
with_tries hints = record { behaviour = behaviour.Interactive; max = pos 30000000; question = record (asking (codes "Q") (true_false true)) { hints = replicate hints [] } }

abbrev three_tries : Asked
three_tries = with_tries 2

abbrev one_wrong : List Step
one_wrong = submit (pick 2) ∷ []

abbrev one_again : List Step
one_again = submit (pick 2) ∷ step.Again ∷ []

abbrev two_wrong : List Step
two_wrong = submit (pick 2) ∷ step.Again ∷ submit (pick 2) ∷ []

abbrev two_again : List Step
two_again = submit (pick 2) ∷ step.Again ∷ submit (pick 2) ∷ step.Again ∷ []

pub no_try_yet : shown three_tries [] ≡ Shows state.Todo None
no_try_yet = refl

pub first_try : line three_tries [] (submit (pick 2)) ≡ Shows state.Todo None
first_try = refl

pub first_again : line three_tries one_wrong step.Again ≡ Shows state.Todo None
first_again = refl

pub second_try : line three_tries one_again (submit (pick 2)) ≡ Shows state.Todo None
second_try = refl

pub second_again : line three_tries two_wrong step.Again ≡ Shows state.Todo None
second_again = refl

pub third_try : line three_tries two_again (submit (pick 1)) ≡ Shows state.GradedRight (Some (pos 10000002))
third_try = refl

-- "try again" has to come first
pub no_save_before_again : line three_tries one_wrong (save (pick 1)) ≡ Refused refusal.NeedsTryAgain
no_save_before_again = refl

pub no_submit_before_again : line three_tries one_wrong (submit (pick 1)) ≡ Refused refusal.NeedsTryAgain
no_submit_before_again = refl

pub again_after_a_try : line three_tries [] step.Again ≡ Refused (refusal.WrongAction behaviour.Interactive)
again_after_a_try = refl

pub again_once : line three_tries one_again step.Again ≡ Refused (refusal.WrongAction behaviour.Interactive)
again_once = refl

-- a blank submit is no try
pub blank_is_no_try : line three_tries [] (submit answer.Blank) ≡ Shows state.Invalid None
blank_is_no_try = refl

pub no_again_after_it : line three_tries (submit answer.Blank ∷ []) step.Again ≡ Refused (refusal.WrongAction behaviour.Interactive)
no_again_after_it = refl

-- a finish after two wrong tries, with true saved: two penalties
pub finished_by_the_last : line three_tries (two_again ++ save (pick 1) ∷ []) step.Finish ≡ Shows state.GradedRight (Some (pos 10000002))
finished_by_the_last = refl

-- the last try allowed ends the slot, and takes no step but a finish
pub only_try : line (with_tries 0) [] (submit (pick 2)) ≡ Shows state.GradedWrong (Some (pos 0))
only_try = refl

pub nothing_after_it : line (with_tries 0) one_wrong (save (pick 1)) ≡ Refused (refusal.SlotEnded state.GradedWrong)
nothing_after_it = refl

pub but_a_finish : line (with_tries 0) one_wrong step.Finish ≡ Shows state.GradedWrong (Some (pos 0))
but_a_finish = refl

-- the first right try ends the slot, whole
pub right_at_once : line three_tries [] (submit (pick 1)) ≡ Shows state.GradedRight (Some (pos 30000000))
right_at_once = refl

-- ---- adaptive, max mark 2, penalty 0.1

abbrev adaptive : Asked
adaptive = record { behaviour = behaviour.Adaptive; max = pos 20000000; question = record (asking (codes "Q") (true_false true)) { penalty = pos 1000000 } }

abbrev wrong_then_right : List Step
wrong_then_right = submit (pick 2) ∷ submit (pick 1) ∷ []

pub no_adaptive_try : shown adaptive [] ≡ Shows state.Todo None
no_adaptive_try = refl

pub wrong_try : line adaptive [] (submit (pick 2)) ≡ Shows state.Todo (Some (pos 0))
wrong_try = refl

pub wrong_try_again : line adaptive (submit (pick 2) ∷ []) (submit (pick 2)) ≡ Again state.Todo (Some (pos 0))
wrong_try_again = refl

pub right_try : line adaptive (submit (pick 2) ∷ []) (submit (pick 1)) ≡ Shows state.Complete (Some (pos 18000000))
right_try = refl

pub best_try_stays : line adaptive wrong_then_right step.Finish ≡ Shows state.GradedRight (Some (pos 18000000))
best_try_stays = refl

-- nothing was tried, and the finish gives 0
pub nothing_was_tried : line adaptive [] step.Finish ≡ Shows state.GaveUp (Some (pos 0))
nothing_was_tried = refl

-- the last response is a further try at the finish, where it differs
pub a_further_try : line adaptive (submit (pick 2) ∷ save (pick 1) ∷ []) step.Finish ≡ Shows state.GradedRight (Some (pos 18000000))
a_further_try = refl

-- the best fraction stays, though the last response is wrong
pub best_and_last : line adaptive (submit (pick 1) ∷ save (pick 2) ∷ []) step.Finish ≡ Shows state.GradedWrong (Some (pos 20000000))
best_and_last = refl

-- the response of the try before is a step, but no try, where another step stands between: it costs nothing, and isn't complete
pub no_try_but_a_step : line adaptive (submit (pick 1) ∷ save (pick 2) ∷ []) (submit (pick 1)) ≡ Shows state.Todo (Some (pos 20000000))
no_try_but_a_step = refl

-- nor does it count where a third response is right
pub second_of_three : line adaptive (submit (pick 2) ∷ save (pick 1) ∷ submit (pick 2) ∷ []) (submit (pick 1)) ≡ Shows state.Complete (Some (pos 18000000))
second_of_three = refl

abbrev tries_of : Asked → List Step → ℕ
tries_of a taken = (outcome a.behaviour a.question taken).tries

-- a finish adds a try where the last response is another, and gradable
pub a_try_more : tries_of adaptive (submit (pick 2) ∷ save (pick 1) ∷ step.Finish ∷ []) ≡ 2
a_try_more = refl

pub no_try_for_the_same : tries_of adaptive (submit (pick 1) ∷ step.Finish ∷ []) ≡ 1
no_try_for_the_same = refl

pub no_try_for_a_blank : tries_of adaptive (submit (pick 1) ∷ save answer.Blank ∷ step.Finish ∷ []) ≡ 1
no_try_for_a_blank = refl

pub tries_before_again : tries_of three_tries two_again ≡ 2
tries_before_again = refl

pub no_tries_elsewhere : tries_of deferred (save (pick 1) ∷ step.Finish ∷ []) ≡ 0
no_tries_elsewhere = refl

-- a wrong try behind a right one is complete
pub wrong_behind_right : line adaptive (submit (pick 1) ∷ []) (submit (pick 2)) ≡ Shows state.Complete (Some (pos 20000000))
wrong_behind_right = refl

pub blank_is_invalid : line adaptive (submit (pick 1) ∷ []) (submit answer.Blank) ≡ Shows state.Invalid (Some (pos 20000000))
blank_is_invalid = refl

-- without penalty the second try counts whole
pub without_penalty : line (record adaptive { behaviour = behaviour.AdaptiveNoPenalty }) (submit (pick 2) ∷ []) (submit (pick 1)) ≡ Shows state.Complete (Some (pos 20000000))
without_penalty = refl

pub no_again : line adaptive one_wrong step.Again ≡ Refused (refusal.WrongAction behaviour.Adaptive)
no_again = refl

-- ---- immediate feedback

abbrev immediate : Asked
immediate = record deferred { behaviour = behaviour.Immediate }

pub blank_submit : line immediate [] (submit answer.Blank) ≡ Shows state.Invalid None
blank_submit = refl

-- a response that is only saved stays to do
pub only_saved : line immediate [] (save (pick 1)) ≡ Shows state.Todo None
only_saved = refl

pub first_submit_ends : line immediate (save (pick 2) ∷ []) (submit (pick 1)) ≡ Shows state.GradedRight (Some (pos 20000000))
first_submit_ends = refl

-- a submit of what was saved isn't the same step
pub saved_then_submitted : line immediate (save (pick 1) ∷ []) (submit (pick 1)) ≡ Shows state.GradedRight (Some (pos 20000000))
saved_then_submitted = refl

pub nothing_else_is_taken : line immediate (submit (pick 2) ∷ []) (submit (pick 1)) ≡ Refused (refusal.SlotEnded state.GradedWrong)
nothing_else_is_taken = refl

pub finish_keeps_it : line immediate (submit (pick 2) ∷ []) step.Finish ≡ Shows state.GradedWrong (Some (pos 0))
finish_keeps_it = refl

pub saved_counts_at_last : line immediate (save (pick 1) ∷ []) step.Finish ≡ Shows state.GradedRight (Some (pos 20000000))
saved_counts_at_last = refl

-- of two submits, which a newer version may have let stand, the first counts
pub first_of_two : shown immediate (submit (pick 1) ∷ submit (pick 2) ∷ []) ≡ Shows state.GradedRight (Some (pos 20000000))
first_of_two = refl

-- and of tries behind a right one none counts
pub first_right_of_two : shown three_tries (submit (pick 1) ∷ submit (pick 2) ∷ []) ≡ Shows state.GradedRight (Some (pos 30000000))
first_right_of_two = refl

-- ---- certainty, max mark 1

abbrev certain : Behaviour → Asked
certain b = record { behaviour = b; max = pos 10000000; question = asking (codes "Q") (true_false true) }

abbrev sure : ℕ → ℕ → Step
sure certainty n = step.Save (respond certainty (pick n))

pub certain_not_yet : shown (certain behaviour.DeferredCbm) [] ≡ Shows state.Todo None
certain_not_yet = refl

pub surely_false : line (certain behaviour.DeferredCbm) [] (sure 3 2) ≡ Shows state.Complete None
surely_false = refl

pub surely_wrong : line (certain behaviour.DeferredCbm) (sure 3 2 ∷ []) step.Finish ≡ Shows state.GradedWrong (Some (negsuc 59999999))
surely_wrong = refl

pub surely_true : line (certain behaviour.DeferredCbm) [] (sure 3 1) ≡ Shows state.Complete None
surely_true = refl

pub surely_right : line (certain behaviour.DeferredCbm) (sure 3 1 ∷ []) step.Finish ≡ Shows state.GradedRight (Some (pos 30000000))
surely_right = refl

pub rather_wrong : line (certain behaviour.DeferredCbm) (sure 2 2 ∷ []) step.Finish ≡ Shows state.GradedWrong (Some (negsuc 19999999))
rather_wrong = refl

pub rather_right : line (certain behaviour.DeferredCbm) (sure 2 1 ∷ []) step.Finish ≡ Shows state.GradedRight (Some (pos 20000000))
rather_right = refl

pub maybe_wrong : line (certain behaviour.DeferredCbm) (sure 1 2 ∷ []) step.Finish ≡ Shows state.GradedWrong (Some (pos 0))
maybe_wrong = refl

-- no certainty: it isn't complete, and counts as 1 at the finish
pub unsaid : line (certain behaviour.DeferredCbm) [] (sure 0 1) ≡ Shows state.Todo None
unsaid = refl

pub unsaid_and_right : line (certain behaviour.DeferredCbm) (sure 0 1 ∷ []) step.Finish ≡ Shows state.GradedRight (Some (pos 10000000))
unsaid_and_right = refl

pub submitted_unsaid : line (certain behaviour.ImmediateCbm) [] (submit (pick 1)) ≡ Shows state.Invalid None
submitted_unsaid = refl

pub submitted_surely : line (certain behaviour.ImmediateCbm) (submit (pick 1) ∷ []) (step.Submit (respond 3 (pick 2))) ≡ Shows state.GradedWrong (Some (negsuc 59999999))
submitted_surely = refl

-- the same answer, more certain, isn't the same
pub more_certain : line (certain behaviour.DeferredCbm) (sure 1 1 ∷ []) (sure 2 1) ≡ Shows state.Complete None
more_certain = refl

-- ---- marked by a teacher, max mark 5, then bound anew with max mark 3

abbrev manual : Asked
manual = record { behaviour = behaviour.Manual; max = pos 50000000; question = untitled (true_false true) }

abbrev handed_in : List Step
handed_in = save (pick 1) ∷ step.Finish ∷ []

abbrev give : ℤ → Step
give mark = step.Mark mark (pos 50000000)

pub manual_not_yet : shown manual [] ≡ Shows state.Todo None
manual_not_yet = refl

pub manual_is_saved : line manual [] (save (pick 1)) ≡ Shows state.Complete None
manual_is_saved = refl

pub needs_grading : line manual (save (pick 1) ∷ []) step.Finish ≡ Shows state.NeedsGrading None
needs_grading = refl

pub four_of_five : line manual handed_in (give (pos 40000000)) ≡ Shows state.MangrPartial (Some (pos 40000000))
four_of_five = refl

pub six_of_five : line manual (handed_in ++ give (pos 40000000) ∷ []) (give (pos 60000000)) ≡ Refused (refusal.OutOfRange (pos 50000000))
six_of_five = refl

-- the mark given is rescaled, and the state stays
pub of_three : bound manual (handed_in ++ give (pos 40000000) ∷ []) (pos 30000000) (untitled (true_false true)) ≡ Shows state.MangrPartial (Some (pos 24000000))
of_three = refl

-- the last mark counts
pub five_of_five : line manual (handed_in ++ give (pos 40000000) ∷ []) (give (pos 50000000)) ≡ Shows state.MangrRight (Some (pos 50000000))
five_of_five = refl

pub none_of_five : line manual (handed_in ++ give (pos 40000000) ∷ []) (give (pos 0)) ≡ Shows state.MangrWrong (Some (pos 0))
none_of_five = refl

pub below_nothing : line manual handed_in (give (negsuc 0)) ≡ Refused (refusal.OutOfRange (pos 50000000))
below_nothing = refl

-- a save after the teacher's mark: the state that is shown
pub showing_the_mark : line manual (handed_in ++ give (pos 40000000) ∷ []) (save (pick 1)) ≡ Refused (refusal.SlotEnded state.MangrPartial)
showing_the_mark = refl

pub nothing_to_mark : line manual [] step.Finish ≡ Shows state.GaveUp None
nothing_to_mark = refl

-- ---- an essay, and a description

pub essay_is_written : line (record manual { question = asking (codes "Write.") kind.Essay }) [] (save (typed (codes "Once"))) ≡ Shows state.Complete None
unfolding patterns
essay_is_written = refl

abbrev described : Asked
described = record { behaviour = behaviour.Information; max = pos 0; question = asking (codes "Read.") kind.Description }

pub nothing_to_save : line described [] (save answer.Blank) ≡ Refused (refusal.WrongAction behaviour.Information)
nothing_to_save = refl

pub nothing_to_grade : line described (step.Finish ∷ []) (step.Mark (pos 0) (pos 0)) ≡ Refused (refusal.WrongAction behaviour.Information)
nothing_to_grade = refl

pub read_to_its_end : line described [] step.Finish ≡ Shows state.Finished None
read_to_its_end = refl

-- ---- states by how right a fraction is

pub least_partial : map graded (pos 9 ∷ pos 10 ∷ []) ≡ state.GradedWrong ∷ state.GradedPartial ∷ []
least_partial = refl

pub greatest_partial : map graded (pos 9999990 ∷ pos 9999991 ∷ []) ≡ state.GradedPartial ∷ state.GradedRight ∷ []
greatest_partial = refl

pub by_a_teacher : map marked (pos 9 ∷ pos 10 ∷ pos 9999990 ∷ pos 9999991 ∷ []) ≡ state.MangrWrong ∷ state.MangrPartial ∷ state.MangrPartial ∷ state.MangrRight ∷ []
by_a_teacher = refl

-- ---- limits: what comes of so many steps

abbrev when_full : ℕ → List (Option Refusal) → ℕ → Option Refusal
when_full most others count = first_some (when (nat_le most count) (refusal.TooMany most) ∷ others)

pub last_answering : (s : List Step) → length (filter is_answering s) ≡ 9999 → is_full_for s (save (pick 1)) ≡ None
last_answering s e = ap (when_full 10000 (None ∷ [])) e

pub no_more_answering : (s : List Step) → length (filter is_answering s) ≡ 10000 → is_full_for s (save (pick 1)) ≡ Some (refusal.TooMany 10000)
no_more_answering s e = ap (when_full 10000 (None ∷ [])) e

pub nor_again : (s : List Step) → length (filter is_answering s) ≡ 10000 → is_full_for s step.Again ≡ Some (refusal.TooMany 10000)
nor_again s e = ap (when_full 10000 (None ∷ [])) e

pub last_mark : (s : List Step) → length (filter is_mark s) ≡ 999 → is_full_for s (give (pos 0)) ≡ None
last_mark s e = ap (when_full 1000 []) e

pub no_more_marks : (s : List Step) → length (filter is_mark s) ≡ 1000 → is_full_for s (give (pos 0)) ≡ Some (refusal.TooMany 1000)
no_more_marks s e = ap (when_full 1000 []) e

pub a_finish_is_never_too_many : (s : List Step) → is_full_for s step.Finish ≡ None
a_finish_is_never_too_many s = refl

-- ---- the words of states

pub word_of_a_partial : state_word state.MangrPartial ≡ codes "mangrpartial"
word_of_a_partial = refl
