-- The parts of a written question, read back from its marks: what every kind shares.
use Rattle.std.proofs.Common.{◌≡◌, ◌≢◌, ℕ, Bool, true, false, ◌||◌, List, [], ◌∷◌, ◌++◌, drop, refl, ap, ◌∙◌}
use Rattle.std.specs.Str.{chars}
use Rattle.gift_lex.specs.declared.block.Block.{Block}
use Rattle.gift_lex.specs.declared.block.Piece.TheVariants.{Sign}
use Rattle.qz_grading.specs.declared.question.Format.TheVariants as format
use Rattle.qz_grading.specs.declared.question.Kind.TheVariants as kind
use Rattle.qz_grading.specs.declared.question.Question.{Question}
use Rattle.qz_grading.specs.declared.question.Rich.{Rich}
use Rattle.gift_read.specs.declared.places.Landmark.TheVariants as landmark
use Rattle.gift_read.specs.declared.parts.Sort.{Sort}
use Rattle.gift_read.specs.declared.parts.Sort.TheVariants as sort
use Rattle.gift_read.specs.Places.{Marks, is_at, before, from, occurs}
use Rattle.gift_read.specs.Texts.{text_of, shown, formatted, rich_of}
use Rattle.gift_read.specs.Parts.{name_marks, body, text_before, in_braces, answer_part, text_behind, question_text, general_marks, answers, sort_in, sort_of}
use Rattle.gift_read.specs.Values.{name_or, question_with, question_in, question, kind_in}
use Rattle.gift_read.specs.Faults.{is_nameless, has_stray_brace, is_unclosed, broken_values, broken_body, broken_question, flaws_in, flaws}
use Rattle.gift_read.specs.Category.{is_category}
use Rattle.gift_laws.specs.Written.{IsText}
use Rattle.gift_laws.proofs.ReadBackPlaces.{Passes, passes-plain, passes-before, passes-from, passes-occurs, found-before, found-from, found-occurs, are_plain}
use Rattle.gift_laws.proofs.ReadBackMarks.{text_marks-plain}
use Rattle.gift_laws.proofs.ReadBackRich.{marks_of_text, rich_marks, rich_marks-plain, formatted-rich, text_of-own}

-- ---- the name

-- marks of a named block
abbrev pub named_marks : List ℕ → Marks → Marks
named_marks name rest = Sign 58 ∷ Sign 58 ∷ (marks_of_text name ++ (Sign 58 ∷ Sign 58 ∷ rest))

passes-colons : (name : List ℕ) → Passes (is_at landmark.Colons) (marks_of_text name)
passes-colons name = passes-plain 58 (58 ∷ []) (marks_of_text name) (text_marks-plain (chars name))

pub named-no_category : (name : List ℕ) (rest : Marks) → is_category (named_marks name rest) ≡ false
named-no_category name rest = refl

pub named-not_nameless : (name : List ℕ) (rest : Marks) → is_nameless (named_marks name rest) ≡ false
named-not_nameless name rest = rw (found-occurs (is_at landmark.Colons) (marks_of_text name) (Sign 58) (Sign 58 ∷ rest) (passes-colons name) refl) refl

pub named-name : (name : List ℕ) (rest : Marks) → name_marks (named_marks name rest) ≡ marks_of_text name
named-name name rest = found-before (is_at landmark.Colons) (marks_of_text name) (Sign 58) (Sign 58 ∷ rest) (passes-colons name) refl

pub named-body : (name : List ℕ) (rest : Marks) → body (named_marks name rest) ≡ rest
named-body name rest = ap (drop 2) (found-from (is_at landmark.Colons) (marks_of_text name) (Sign 58) (Sign 58 ∷ rest) (passes-colons name) refl)

name_or-own : (name : List ℕ) (text : Marks) → name ≢ [] → name_or name text ≡ name
name_or-own [] text some = absurd (some refl)
name_or-own (c ∷ name) text some = refl

-- ---- what follows the name, with braces

abbrev pub braced : Marks → Marks → Marks
braced text inner = text ++ (Sign 123 ∷ (inner ++ (Sign 125 ∷ [])))

module _ (text inner : Marks) (plain : are_plain text ≡ true) (closed : Passes (is_at landmark.Closing) inner) where
  passes-opening : Passes (is_at landmark.Opening) text
  passes-opening = passes-plain 123 [] text plain

  pub braced-before : text_before (braced text inner) ≡ text
  braced-before = found-before (is_at landmark.Opening) text (Sign 123) (inner ++ (Sign 125 ∷ [])) passes-opening refl

  pub braced-opens : occurs (is_at landmark.Opening) (braced text inner) ≡ true
  braced-opens = found-occurs (is_at landmark.Opening) text (Sign 123) (inner ++ (Sign 125 ∷ [])) passes-opening refl

  pub braced-in : in_braces (braced text inner) ≡ inner ++ (Sign 125 ∷ [])
  braced-in = ap (drop 1) (found-from (is_at landmark.Opening) text (Sign 123) (inner ++ (Sign 125 ∷ [])) passes-opening refl)

  pub braced-part : answer_part (braced text inner) ≡ inner
  braced-part = rw braced-in (found-before (is_at landmark.Closing) inner (Sign 125) [] closed refl)

  pub braced-behind : text_behind (braced text inner) ≡ []
  braced-behind = rw braced-in (ap (drop 1) (found-from (is_at landmark.Closing) inner (Sign 125) [] closed refl))

  pub braced-text : question_text (braced text inner) ≡ text
  braced-text = rw (braced-behind, braced-before) refl

  pub braced-sort : sort_of (braced text inner) ≡ sort_in (answers inner)
  braced-sort = rw (braced-opens, braced-part) refl

  pub braced-no_stray : has_stray_brace (braced text inner) ≡ false
  braced-no_stray = rw (braced-before, braced-behind, passes-occurs (is_at landmark.Closing) text (passes-plain 125 [] text plain)) refl

  pub braced-closed : is_unclosed (braced text inner) ≡ false
  braced-closed = rw (braced-opens, braced-in, found-occurs (is_at landmark.Closing) inner (Sign 125) [] closed refl) refl

-- ---- the question

-- by its parts
abbrev question_of : List ℕ → Marks → Rich → Marks → Sort → Question
question_of name text whole part s = question_with (name_or name (shown text)) whole (rich_of whole.format (general_marks part)) (kind_in whole.format (answers part) s)

-- a block with this name, and what follows it
question-named : (b : Block) (name : List ℕ) (rest : Marks) → IsText name → b.marks ≡ named_marks name rest → question b ≡ question_in name rest
question-named b name rest is_name is =
    ap (λ (m : Marks). question_in (text_of (name_marks m)) (body m)) is
    ∙ ap (λ (m : Marks). question_in (text_of m) (body (named_marks name rest))) (named-name name rest)
    ∙ ap (λ (n : List ℕ). question_in n (body (named_marks name rest))) (text_of-own name is_name)
    ∙ ap (λ (m : Marks). question_in name m) (named-body name rest)

-- where the text is this one
question-of_text : (name : List ℕ) (r : Rich) (rest part : Marks) (s : Sort) → name ≢ [] → IsText r.text → question_text rest ≡ rich_marks format.Moodle r → answer_part rest ≡ part → sort_of rest ≡ s
    → question_in name rest ≡ question_with name r (rich_of r.format (general_marks part)) (kind_in r.format (answers part) s)
question-of_text name r rest part s named is_text text_is part_is sort_is =
    ap (λ (t : Marks). question_of name t (formatted format.Moodle t) (answer_part rest) (sort_of rest)) text_is
    ∙ ap (λ (w : Rich). question_of name (rich_marks format.Moodle r) w (answer_part rest) (sort_of rest)) (formatted-rich format.Moodle r is_text)
    ∙ ap (λ (p : Marks). question_of name (rich_marks format.Moodle r) r p (sort_of rest)) part_is
    ∙ ap (λ (t : Sort). question_of name (rich_marks format.Moodle r) r part t) sort_is
    ∙ ap (λ (n : List ℕ). question_with n r (rich_of r.format (general_marks part)) (kind_in r.format (answers part) s)) (name_or-own name (shown (rich_marks format.Moodle r)) named)

-- its faults are those of its values
flaws-named : (b : Block) (name : List ℕ) (rest part : Marks) (s : Sort) → b.marks ≡ named_marks name rest → has_stray_brace rest ≡ false → is_unclosed rest ≡ false → answer_part rest ≡ part → sort_of rest ≡ s
    → flaws b ≡ broken_values (question b) s (answers part)
flaws-named b name rest part s is no_stray closed part_is sort_is =
    let rest_is : body b.marks ≡ rest = ap body is ∙ named-body name rest in
    let braces : (has_stray_brace (body b.marks) || is_unclosed (body b.marks)) ≡ false =
    ap (λ (m : Marks). has_stray_brace m || is_unclosed m) rest_is ∙ ap (λ (x : Bool). x || is_unclosed rest) no_stray ∙ closed in
    ap (λ (x : Bool). flaws_in x b) (ap is_category is ∙ named-no_category name rest)
    ∙ ap (λ (x : Bool). broken_question x b) (ap is_nameless is ∙ named-not_nameless name rest)
    ∙ ap (λ (x : Bool). broken_body x b) braces
    ∙ ap (λ (m : Marks). broken_values (question b) (sort_of m) (answers (answer_part m))) rest_is
    ∙ ap (λ (t : Sort). broken_values (question b) t (answers (answer_part rest))) sort_is
    ∙ ap (λ (p : Marks). broken_values (question b) s (answers p)) part_is

pub braced-question : (b : Block) (name : List ℕ) (r : Rich) (inner : Marks) → IsText name → name ≢ [] → IsText r.text → Passes (is_at landmark.Closing) inner
    → b.marks ≡ named_marks name (braced (rich_marks format.Moodle r) inner)
    → question b ≡ question_with name r (rich_of r.format (general_marks inner)) (kind_in r.format (answers inner) (sort_in (answers inner)))
braced-question b name r inner is_name named is_text closed is =
    let plain = rich_marks-plain format.Moodle r in
    let text = rich_marks format.Moodle r in
    question-named b name (braced text inner) is_name is
    ∙ question-of_text name r (braced text inner) inner (sort_in (answers inner)) named is_text (braced-text text inner plain closed) (braced-part text inner plain closed) (braced-sort text inner plain closed)

pub braced-flaws : (b : Block) (name : List ℕ) (r : Rich) (inner : Marks) → Passes (is_at landmark.Closing) inner
    → b.marks ≡ named_marks name (braced (rich_marks format.Moodle r) inner)
    → flaws b ≡ broken_values (question b) (sort_in (answers inner)) (answers inner)
braced-flaws b name r inner closed is =
    let plain = rich_marks-plain format.Moodle r in
    let text = rich_marks format.Moodle r in
    flaws-named b name (braced text inner) inner (sort_in (answers inner)) is (braced-no_stray text inner plain closed) (braced-closed text inner plain closed) (braced-part text inner plain closed) (braced-sort text inner plain closed)

-- ---- without braces

plain-text : (text : Marks) → are_plain text ≡ true → (question_text text ≡ text) × (answer_part text ≡ []) × (sort_of text ≡ sort.Description) × (has_stray_brace text ≡ false) × (is_unclosed text ≡ false)
plain-text text plain =
    let opening = passes-plain 123 [] text plain in
    let none : from (is_at landmark.Opening) text ≡ [] = passes-from (is_at landmark.Opening) text opening in
    let whole : before (is_at landmark.Opening) text ≡ text = passes-before (is_at landmark.Opening) text opening in
    let no_open : occurs (is_at landmark.Opening) text ≡ false = passes-occurs (is_at landmark.Opening) text opening in
    let no_close : occurs (is_at landmark.Closing) text ≡ false = passes-occurs (is_at landmark.Closing) text (passes-plain 125 [] text plain) in (
      rw (none, whole) refl,
      rw none refl,
      rw no_open refl,
      rw (none, whole, no_close) refl,
      rw no_open refl,
    )

pub unbraced-question : (b : Block) (name : List ℕ) (r : Rich) → IsText name → name ≢ [] → IsText r.text → b.marks ≡ named_marks name (rich_marks format.Moodle r)
    → question b ≡ question_with name r (rich_of r.format []) kind.Description
unbraced-question b name r is_name named is_text is =
    let text = rich_marks format.Moodle r in
    let parts = plain-text text (rich_marks-plain format.Moodle r) in
    question-named b name text is_name is ∙ question-of_text name r text [] sort.Description named is_text parts.0 parts.1 parts.2

pub unbraced-flaws : (b : Block) (name : List ℕ) (r : Rich) → b.marks ≡ named_marks name (rich_marks format.Moodle r) → flaws b ≡ broken_values (question b) sort.Description []
unbraced-flaws b name r is =
    let text = rich_marks format.Moodle r in
    let parts = plain-text text (rich_marks-plain format.Moodle r) in
    flaws-named b name text [] sort.Description is parts.3 parts.4 parts.1 parts.2
