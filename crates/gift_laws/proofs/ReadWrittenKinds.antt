-- What is read of a kind is a kind of a written question.
use Rattle.std.proofs.Common.{◌≡◌, ◌≢◌, ℕ, true, false, not, ◌&&◌, List, [], ◌∷◌, ◌++◌, drop, map, refl, ap, ◌∙◌}
use Rattle.std.specs.Str.{chars}
use Rattle.std.proofs.lemmas.Bool.{and_parts, cond_both}
use Rattle.std.proofs.lemmas.Str.{chars-nil}
use Rattle.qz_grading.specs.declared.question.Choice.{Choice}
use Rattle.qz_grading.specs.declared.question.Format.{Format}
use Rattle.qz_grading.specs.declared.question.Num.{Num}
use Rattle.qz_grading.specs.declared.question.Pair.{Pair}
use Rattle.qz_grading.specs.declared.question.Rich.{Rich}
use Rattle.qz_grading.specs.declared.question.Short.{Short}
use Rattle.qz_grading.specs.Canonical.{is_nothing}
use Rattle.qz_grading.specs.Grading.{is_blank}
use Rattle.qz_grading.specs.Questions.{is_weight, is_extent, are_weighed, are_weighed_shorts, are_weighed_extents, no_blank_choice, no_blank_answer, no_blank_pattern, IsSound}
use Rattle.gift_read.specs.declared.places.Landmark.TheVariants as landmark
use Rattle.gift_read.specs.declared.parts.Sort.{Sort}
use Rattle.gift_read.specs.declared.parts.Sort.TheVariants as sort
use Rattle.gift_read.specs.Places.{Marks, tilde, equals, is_at, before, from, occurs, trimmed}
use Rattle.gift_read.specs.Texts.{spelled, text_of, shown, formatted, rich_of}
use Rattle.gift_read.specs.Parts.{Part, pieces_of, numbers, answer_marks, feedback_marks}
use Rattle.gift_read.specs.Values.{unweighed, choice_of, empty_rich, pair_of, short_of, num_of, other_of, others, on_wrong, on_right, kind_in}
use Rattle.gift_read.specs.Faults.{has_stray_arrow}
use Rattle.gift_laws.specs.Written.{IsText, IsRich, Each, has_arrow, IsPair, IsChoice, IsAnswer, IsNumber, IsKind}
use Rattle.gift_laws.proofs.ReadWrittenMarks.{IsArrowless, arrowless-kept, before_arrow-arrowless, unoccurring-arrowless, kept-from, kept-drop, kept-trimmed, kept-shown, kept-pieces, kept-answer, kept-feedback, kept-unweighed}
use Rattle.gift_laws.proofs.ReadWrittenTexts.{IsGood, good-kept, spelled-chars, text_of-text, nothing-text, rich_of-rich}

-- ---- each of a list

each-mapped : {X Y : Type 0} (P : X → Type 0) (Q : Y → Type 0) (f : X → Y) → ((x : X) → P x → Q (f x)) → (xs : List X) → Each P xs → Each Q (map f xs)
each-mapped P Q f one [] each = tt
each-mapped P Q f one (x ∷ xs) each = (one x each.0, each-mapped P Q f one xs each.1)

each-both : {X : Type 0} (P Q : X → Type 0) (xs : List X) → Each P xs → Each Q xs → Each (λ (x : X). P x × Q x) xs
each-both P Q [] first second = tt
each-both P Q (x ∷ xs) first second = ((first.0, second.0), each-both P Q xs first.1 second.1)

each-append : {X : Type 0} (P : X → Type 0) (xs ys : List X) → Each P xs → Each P ys → Each P (xs ++ ys)
each-append P [] ys first second = second
each-append P (x ∷ xs) ys first second = (first.0, each-append P xs ys first.1 second)

-- ---- texts without an arrow

text_of-arrowless : (marks : Marks) → IsGood marks → IsArrowless marks → has_arrow (chars (text_of marks)) ≡ false
text_of-arrowless marks good none =
    ap has_arrow (spelled-chars (trimmed marks) (kept-trimmed IsGood good-kept marks good)) ∙ kept-trimmed IsArrowless arrowless-kept marks none

nothing-arrowless : has_arrow (chars []) ≡ false
nothing-arrowless = ap has_arrow chars-nil

rich_of-arrowless : (default : Format) (marks : Marks) → IsGood marks → IsArrowless marks → has_arrow (chars (rich_of default marks).text) ≡ false
rich_of-arrowless default marks good none =
    cond_both (is_nothing (spelled (shown marks))) (record { format = default; text = [] }) (formatted default marks) (λ (r : Rich). has_arrow (chars r.text) ≡ false)
    (λ e. nothing-arrowless)
    (λ e. ap has_arrow (spelled-chars (shown marks) (kept-shown IsGood good-kept marks good)) ∙ kept-shown IsArrowless arrowless-kept marks none)

-- ---- what isn't blank isn't empty

some-unblank : (text : List ℕ) → not (is_blank text) ≡ true → text ≢ []
some-unblank [] e none = cc
some-unblank (b ∷ text) e none = cc

-- ---- choices

record IsChoiceText (default : Format) (c : Choice) : Type 0 where
  text : IsRich default c.text
  feedback : IsRich default c.feedback

choice-text : (f : Format) (p : Part) → IsGood p.1 → IsChoiceText f (choice_of f p)
choice-text f (sign, piece) good = record {
  text = rich_of-rich f (unweighed (answer_marks piece)) (kept-unweighed IsGood good-kept (answer_marks piece) (kept-answer IsGood good-kept piece good));
  feedback = rich_of-rich f (feedback_marks piece) (kept-feedback IsGood good-kept piece good);
}

choices-are : (default : Format) (cs : List Choice) → Each (IsChoiceText default) cs → are_weighed cs ≡ true → no_blank_choice cs ≡ true → Each (IsChoice default) cs
choices-are default [] each weighed unblank = tt
choices-are default (c ∷ cs) each weighed unblank =
    let weight = and_parts (is_weight c.weight) (are_weighed cs) weighed in
    let some = and_parts (not (is_blank c.text.text)) (no_blank_choice cs) unblank in
    (record { weight = weight.0; text = each.0.text; some = some-unblank c.text.text some.0; feedback = each.0.feedback }, choices-are default cs each.1 weight.1 some.1)

-- ---- pairs

record IsPairText (default : Format) (p : Pair) : Type 0 where
  stem : IsRich default p.stem
  no_arrow : has_arrow (chars p.stem.text) ≡ false
  answer : IsText p.answer

pair-text : (f : Format) (p : Part) → IsGood p.1 → IsPairText f (pair_of f p)
pair-text f (sign, piece) good =
    let here = is_at landmark.Arrow in
    let stem : Marks = before here piece in
    let answer : Marks = drop 2 (from here piece) in
    let good_stem = good-kept.ahead here piece good in
    let good_answer = kept-drop IsGood good-kept 2 (from here piece) (kept-from IsGood good-kept here piece good) in
    cond_both (occurs here piece) (record { stem = rich_of f stem; answer = text_of answer }) (record { stem = empty_rich f; answer = [] }) (IsPairText f)
    (λ e. record { stem = rich_of-rich f stem good_stem; no_arrow = rich_of-arrowless f stem good_stem (before_arrow-arrowless piece); answer = text_of-text answer good_answer })
    (λ e. record { stem = record { text = nothing-text; empty = λ none. refl }; no_arrow = nothing-arrowless; answer = nothing-text })

pairs-are : (default : Format) (ps : List Pair) → Each (IsPairText default) ps → no_blank_answer ps ≡ true → Each (IsPair default) ps
pairs-are default [] each unblank = tt
pairs-are default (p ∷ ps) each unblank =
    let some = and_parts (not (is_blank p.answer)) (no_blank_answer ps) unblank in
    (record { stem = each.0.stem; no_arrow = each.0.no_arrow; answer = each.0.answer; some = some-unblank p.answer some.0 }, pairs-are default ps each.1 some.1)

-- ---- short answers

record IsAnswerText (default : Format) (s : Short) : Type 0 where
  pattern : IsText s.pattern
  no_arrow : has_arrow (chars s.pattern) ≡ false
  feedback : IsRich default s.feedback
  no_arrow_behind : has_arrow (chars s.feedback.text) ≡ false

answer-text : (f : Format) (p : Part) → IsGood p.1 × IsArrowless p.1 → IsAnswerText f (short_of f p)
answer-text f (sign, piece) is =
    let pattern : Marks = unweighed (answer_marks piece) in
    let feedback : Marks = feedback_marks piece in
    let good_pattern = kept-unweighed IsGood good-kept (answer_marks piece) (kept-answer IsGood good-kept piece is.0) in
    let good_feedback = kept-feedback IsGood good-kept piece is.0 in
    record {
      pattern = text_of-text pattern good_pattern;
      no_arrow = text_of-arrowless pattern good_pattern (kept-unweighed IsArrowless arrowless-kept (answer_marks piece) (kept-answer IsArrowless arrowless-kept piece is.1));
      feedback = rich_of-rich f feedback good_feedback;
      no_arrow_behind = rich_of-arrowless f feedback good_feedback (kept-feedback IsArrowless arrowless-kept piece is.1);
    }

answers-are : (default : Format) (ss : List Short) → Each (IsAnswerText default) ss → are_weighed_shorts ss ≡ true → no_blank_pattern ss ≡ true → Each (IsAnswer default) ss
answers-are default [] each weighed unblank = tt
answers-are default (s ∷ ss) each weighed unblank =
    let weight = and_parts (is_weight s.weight) (are_weighed_shorts ss) weighed in
    let some = and_parts (not (is_blank s.pattern)) (no_blank_pattern ss) unblank in (
      record {
        weight = weight.0;
        pattern = each.0.pattern;
        some = some-unblank s.pattern some.0;
        no_arrow = each.0.no_arrow;
        feedback = each.0.feedback;
        no_arrow_behind = each.0.no_arrow_behind;
      },
      answers-are default ss each.1 weight.1 some.1,
    )

-- ---- numbers

abbrev HasFeedback : Format → Num → Type 0
HasFeedback default n = IsRich default n.feedback

number-text : (f : Format) (p : Part) → IsGood p.1 → HasFeedback f (num_of f p)
number-text f (sign, piece) good = rich_of-rich f (feedback_marks piece) (kept-feedback IsGood good-kept piece good)

other-text : (f : Format) (marks : Marks) → IsGood marks → Each (HasFeedback f) (other_of f marks)
other-text f [] good = tt
other-text f (m ∷ marks) good = (rich_of-rich f (drop 2 (m ∷ marks)) (kept-drop IsGood good-kept 2 (m ∷ marks) good), tt)

numbers-are : (default : Format) (ns : List Num) → Each (HasFeedback default) ns → are_weighed_extents ns ≡ true → Each (IsNumber default) ns
numbers-are default [] each ranged = tt
numbers-are default (n ∷ ns) each ranged =
    let parts = and_parts (is_weight n.weight && is_extent n.extent) (are_weighed_extents ns) ranged in
    let range = and_parts (is_weight n.weight) (is_extent n.extent) parts.0 in
    (record { weight = range.0; extent = range.1; feedback = each.0 }, numbers-are default ns each.1 parts.1)

-- ---- every kind

choices-read : (f : Format) (answers : Marks) → IsGood answers → Each (IsChoiceText f) (map (choice_of f) (pieces_of sort.One answers))
choices-read f answers good = each-mapped (λ (p : Part). IsGood p.1) (IsChoiceText f) (choice_of f) (choice-text f) (pieces_of sort.One answers) (kept-pieces IsGood good-kept (is_at landmark.Choice) tilde answers good)

pub kind_in-kind : (f : Format) (answers : Marks) (s : Sort) → IsGood answers → IsSound (kind_in f answers s) → has_stray_arrow s answers ≡ false → IsKind f (kind_in f answers s)
kind_in-kind f answers sort.Description good sound none = tt
kind_in-kind f answers sort.Essay good sound none = tt
kind_in-kind f answers (sort.TrueFalse right) good sound none =
    let feedback = kept-feedback IsGood good-kept answers good in (
      rich_of-rich f (on_wrong answers) (good-kept.ahead (is_at landmark.Hash) (feedback_marks answers) feedback),
      rich_of-rich f (on_right answers) (kept-feedback IsGood good-kept (feedback_marks answers) feedback),
    )
kind_in-kind f answers sort.One good sound none = choices-are f (map (choice_of f) (pieces_of sort.One answers)) (choices-read f answers good) sound.numbers sound.no_blank
kind_in-kind f answers sort.Several good sound none = choices-are f (map (choice_of f) (pieces_of sort.Several answers)) (choices-read f answers good) sound.numbers sound.no_blank
kind_in-kind f answers sort.Matching good sound none =
    let pieces = pieces_of sort.Matching answers in
    pairs-are f (map (pair_of f) pieces) (each-mapped (λ (p : Part). IsGood p.1) (IsPairText f) (pair_of f) (pair-text f) pieces (kept-pieces IsGood good-kept (is_at landmark.Equals) equals answers good)) sound.no_blank
kind_in-kind f answers sort.ShortAnswer good sound none =
    let pieces = pieces_of sort.ShortAnswer answers in
    let good_pieces = kept-pieces IsGood good-kept (is_at landmark.Equals) equals answers good in
    let no_arrows = kept-pieces IsArrowless arrowless-kept (is_at landmark.Equals) equals answers (unoccurring-arrowless answers none) in
    let both = each-both (λ (p : Part). IsGood p.1) (λ (p : Part). IsArrowless p.1) pieces good_pieces no_arrows in
    answers-are f (map (short_of f) pieces) (each-mapped (λ (p : Part). IsGood p.1 × IsArrowless p.1) (IsAnswerText f) (short_of f) (answer-text f) pieces both) sound.numbers sound.no_blank
kind_in-kind f answers sort.Numerical good sound none =
    let pieces = pieces_of sort.Numerical answers in
    let behind = kept-drop IsGood good-kept 1 answers good in
    let good_pieces = kept-pieces IsGood good-kept (is_at landmark.Equals) equals (numbers answers) (good-kept.ahead (is_at landmark.Others) (drop 1 answers) behind) in
    let first = each-mapped (λ (p : Part). IsGood p.1) (HasFeedback f) (num_of f) (number-text f) pieces good_pieces in
    let other = other-text f (others answers) (kept-from IsGood good-kept (is_at landmark.Others) (drop 1 answers) behind) in
    numbers-are f (map (num_of f) pieces ++ other_of f (others answers)) (each-append (HasFeedback f) (map (num_of f) pieces) (other_of f (others answers)) first other) sound.numbers
