-- What a block without a broken rule spells is a written question.
use Rattle.std.proofs.Common.{◌≡◌, ℕ, false, List, [], ◌∷◌, ◌++◌, drop, refl}
use Rattle.std.proofs.lemmas.Bool.{cond_both}
use Rattle.std.proofs.lemmas.List.{nil_from_length}
use Rattle.gift_lex.specs.declared.block.Block.{Block}
use Rattle.qz_grading.specs.declared.question.Format.TheVariants as format
use Rattle.gift_read.specs.declared.places.Landmark.TheVariants as landmark
use Rattle.gift_read.specs.Places.{Marks, is_at, before, from, is_last, is_ink, are_blank, unled}
use Rattle.gift_read.specs.Texts.{text_of, shown, formatted}
use Rattle.gift_read.specs.Parts.{is_named, in_name, name_marks, body, text_before, in_braces, answer_part, text_behind, gap, question_text, general_marks, answers, sort_of}
use Rattle.gift_read.specs.Values.{name_or, question}
use Rattle.gift_read.specs.Category.{is_category}
use Rattle.gift_read.specs.Faults.{broken}
use Rattle.gift_laws.specs.Written.{IsText, IsWritten}
use Rattle.gift_read.proofs.QuestionLemmas.{values-kept, size-kept, description-general}
use Rattle.gift_laws.proofs.ReadWrittenMarks.{kept-from, kept-drop, kept-trimmed, kept-shown}
use Rattle.gift_laws.proofs.ReadWrittenTexts.{IsGood, good-kept, good-append, text_of-text, shown-text, rich_of-rich, IsNamed, made_name-named}
use Rattle.gift_laws.proofs.ReadWrittenKinds.{kind_in-kind}

-- ---- parts of a block

good-in_name : (marks : Marks) → IsGood marks → IsGood (in_name marks)
good-in_name marks good = kept-drop IsGood good-kept 2 (unled marks) (kept-from IsGood good-kept is_ink marks good)

good-name : (marks : Marks) → IsGood marks → IsGood (name_marks marks)
good-name marks good =
    cond_both (is_named marks) (before (is_at landmark.Colons) (in_name marks)) [] IsGood (λ e. good-kept.ahead (is_at landmark.Colons) (in_name marks) (good-in_name marks good)) (λ e. good-kept.nothing)

good-body : (marks : Marks) → IsGood marks → IsGood (body marks)
good-body marks good =
    let behind : Marks = from (is_at landmark.Colons) (in_name marks) in
    cond_both (is_named marks) (drop 2 behind) marks IsGood (λ e. kept-drop IsGood good-kept 2 behind (kept-from IsGood good-kept (is_at landmark.Colons) (in_name marks) (good-in_name marks good))) (λ e. good)

good-in_braces : (body : Marks) → IsGood body → IsGood (in_braces body)
good-in_braces body good = kept-drop IsGood good-kept 1 (from (is_at landmark.Opening) body) (kept-from IsGood good-kept (is_at landmark.Opening) body good)

good-part : (body : Marks) → IsGood body → IsGood (answer_part body)
good-part body good = good-kept.ahead (is_at landmark.Closing) (in_braces body) (good-in_braces body good)

good-question_text : (body : Marks) → IsGood body → IsGood (question_text body)
good-question_text body good =
    let before_it = good-kept.ahead (is_at landmark.Opening) body good in
    let behind = kept-drop IsGood good-kept 1 (from (is_at landmark.Closing) (in_braces body)) (kept-from IsGood good-kept (is_at landmark.Closing) (in_braces body) (good-in_braces body good)) in
    cond_both (are_blank (text_behind body)) (text_before body) (text_before body ++ (gap ++ text_behind body)) IsGood
    (λ e. before_it) (λ e. good-append (text_before body) (gap ++ text_behind body) before_it (good-append gap (text_behind body) (record { all = refl }) behind))

good-general : (part : Marks) → IsGood part → IsGood (general_marks part)
good-general part good =
    let here = is_last (is_at landmark.Hashes) in
    kept-drop IsGood good-kept 4 (from here part) (kept-from IsGood good-kept here part good)

good-answers : (part : Marks) → IsGood part → IsGood (answers part)
good-answers part good =
    let here = is_last (is_at landmark.Hashes) in
    kept-trimmed IsGood good-kept (before here part) (good-kept.ahead here part good)

-- ---- the name

name_or-named : (name : List ℕ) (text : Marks) → IsText name → IsGood text → IsNamed (name_or name text)
name_or-named [] text is good = made_name-named text good
name_or-named (b ∷ name) text is good = record { text = is; some = λ none. cc }

-- ---- the question

pub question-written : (b : Block) → IsGood b.marks → is_category b.marks ≡ false → broken b ≡ [] → IsWritten (question b)
question-written b good asked whole =
    let rest : Marks = body b.marks in
    let text : Marks = question_text rest in
    let f = (formatted format.Moodle text).format in
    let good_body = good-body b.marks good in
    let good_text = good-question_text rest good_body in
    let good_part = good-part rest good_body in
    let kept = values-kept b asked whole in
    let name = name_or-named (text_of (name_marks b.marks)) (shown text) (text_of-text (name_marks b.marks) (good-name b.marks good)) (kept-shown IsGood good-kept text good_text) in
    record {
      name = name.text;
      named = name.some;
      text = shown-text text good_text;
      general = rich_of-rich f (general_marks (answer_part rest)) (good-general (answer_part rest) good_part);
      described = λ is. nil_from_length _ (description-general f rest is);
      kind = kind_in-kind f (answers (answer_part rest)) (sort_of rest) (good-answers (answer_part rest) good_part) kept.0 kept.2;
      sound = kept.0;
      penalty = refl;
      no_hints = refl;
      lengths = kept.1;
      size = size-kept b asked whole;
    }
