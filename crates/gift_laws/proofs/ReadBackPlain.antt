-- Descriptions, essays and true-false questions, read back.
use Rattle.std.proofs.Common.{◌≡◌, ◌≢◌, ℕ, Bool, true, false, not, ◌||◌, List, [], ◌∷◌, ◌++◌, length, refl, ap, ◌∙◌}
use Rattle.std.proofs.lemmas.Bool.{eqb-true}
use Rattle.std.proofs.lemmas.List.{nil_from_length}
use Rattle.std.proofs.lemmas.List.Folds.{list_all-append}
use Rattle.gift_lex.specs.declared.block.Block.{Block}
use Rattle.gift_lex.specs.declared.block.Piece.TheVariants.{Plain}
use Rattle.qz_grading.specs.declared.question.Format.TheVariants as format
use Rattle.qz_grading.specs.declared.question.Kind.{Kind}
use Rattle.qz_grading.specs.declared.question.Kind.TheVariants as kind
use Rattle.qz_grading.specs.declared.question.Question.{Question}
use Rattle.qz_grading.specs.declared.question.Rich.{Rich}
use Rattle.qz_grading.specs.Canonical.{is_nothing}
use Rattle.qz_grading.specs.Questions.{are_no_longer, texts}
use Rattle.gift_read.specs.declared.places.Landmark.TheVariants as landmark
use Rattle.gift_read.specs.declared.parts.Sort.{Sort}
use Rattle.gift_read.specs.declared.parts.Sort.TheVariants as sort
use Rattle.gift_read.specs.Places.{Marks, is_at, trimmed}
use Rattle.gift_read.specs.Texts.{rich_of}
use Rattle.gift_read.specs.Parts.{answers, general_marks, sort_in}
use Rattle.gift_read.specs.Values.{question_with, question, kind_in}
use Rattle.qz_grading.specs.declared.limits.TheConstants.{MOST_TEXT}
use Rattle.gift_read.specs.Faults.{broken_values}
use Rattle.gift_read.specs.Category.{is_category}
use Rattle.gift_laws.specs.Written.{IsText, IsRich}
use Rattle.gift_laws.proofs.ReadBackPlaces
use Rattle.gift_laws.proofs.ReadBackPlaces.{Passes, are_plain}
use Rattle.gift_laws.proofs.ReadBackRich.{rich_marks, rich_marks-plain, rich_of-nothing, rich_of-around}
use Rattle.gift_laws.proofs.ReadBackFrame.{named_marks, named-no_category, braced, braced-question, braced-flaws, unbraced-question, unbraced-flaws}
use Rattle.gift_laws.proofs.ReadBackGeneral.{hashes, with_general, general-before, general-marks, closed-general}
use Rattle.gift_laws.proofs.ReadBackTold.{IsFaultless, faultless-values, IsRead}

-- what every question keeps of its texts
abbrev pub IsShort : Question → Type 0
IsShort q = are_no_longer MOST_TEXT (texts q) ≡ true

pub no_text : (r : Rich) → is_nothing r.text ≡ true → r.text ≡ []
no_text r none = nil_from_length r.text (eqb-true (length r.text) 0 none)

-- ---- descriptions

pub reads-description : (b : Block) (name : List ℕ) (r general : Rich) → IsText name → name ≢ [] → IsText r.text → IsRich r.format general → general.text ≡ []
    → IsShort (question_with name r general kind.Description)
    → b.marks ≡ named_marks name (rich_marks format.Moodle r) → IsRead b (question_with name r general kind.Description)
reads-description b name r general is_name named is_text is_general none short is =
    let q = question_with name r general kind.Description in
    let value : question b ≡ q =
    unbraced-question b name r is_name named is_text is ∙ ap (λ (g : Rich). question_with name r g kind.Description) (rich_of-nothing r.format general is_general none) in
    let faultless : IsFaultless q sort.Description [] = record {
      short = ap (λ (x : Bool). not x || false) short;
      pieces = refl;
      weights = refl;
      pairs = refl;
      numbers = refl;
      feedback = refl;
      right = refl;
    } in
    record {
      value = value;
      flawless = unbraced-flaws b name r is ∙ ap (λ (p : Question). broken_values p sort.Description []) value ∙ faultless-values q sort.Description [] faultless;
      asked = ap is_category is ∙ named-no_category name (rich_marks format.Moodle r);
    }

-- ---- with braces: what is to be shown of the answers and the general feedback

pub reads-braced : (b : Block) (name : List ℕ) (r general : Rich) (k : Kind) (inner a : Marks) (s : Sort) → IsText name → name ≢ [] → IsText r.text → Passes (is_at landmark.Closing) inner
    → answers inner ≡ a → sort_in a ≡ s → kind_in r.format a s ≡ k → rich_of r.format (general_marks inner) ≡ general
    → IsFaultless (question_with name r general k) s a
    → b.marks ≡ named_marks name (braced (rich_marks format.Moodle r) inner) → IsRead b (question_with name r general k)
reads-braced b name r general k inner a s is_name named is_text closed answers_are sort_is kind_is general_is faultless is =
    let q = question_with name r general k in
    let sorted : sort_in (answers inner) ≡ s = ap sort_in answers_are ∙ sort_is in
    let value : question b ≡ q =
    braced-question b name r inner is_name named is_text closed is
    ∙ ap (λ (g : Rich). question_with name r g (kind_in r.format (answers inner) (sort_in (answers inner)))) general_is
    ∙ ap (λ (t : Sort). question_with name r general (kind_in r.format (answers inner) t)) sorted
    ∙ ap (λ (m : Marks). question_with name r general (kind_in r.format m s)) answers_are
    ∙ ap (λ (j : Kind). question_with name r general j) kind_is in
    record {
      value = value;
      flawless = braced-flaws b name r inner closed is
          ∙ ap (λ (p : Question). broken_values p (sort_in (answers inner)) (answers inner)) value
          ∙ ap (λ (t : Sort). broken_values q t (answers inner)) sorted
          ∙ ap (λ (m : Marks). broken_values q s m) answers_are
          ∙ faultless-values q s a faultless;
      asked = ap is_category is ∙ named-no_category name (braced (rich_marks format.Moodle r) inner);
    }

-- ---- essays

abbrev pub essay_inner : Bool → Marks → Marks
essay_inner true general = []
essay_inner false general = Plain 10 ∷ Plain 9 ∷ (hashes ++ (general ++ (Plain 10 ∷ [])))

pub plain-behind : (marks : Marks) → are_plain marks ≡ true → are_plain (marks ++ (Plain 10 ∷ [])) ≡ true
plain-behind marks plain = list_all-append _ marks (Plain 10 ∷ []) ∙ rw plain refl

pub reads-essay : (b : Block) (name : List ℕ) (r general : Rich) → IsText name → name ≢ [] → IsText r.text → IsRich r.format general
    → IsShort (question_with name r general kind.Essay) → (none : Bool) → is_nothing general.text ≡ none
    → b.marks ≡ named_marks name (braced (rich_marks format.Moodle r) (essay_inner none (rich_marks r.format general))) → IsRead b (question_with name r general kind.Essay)
reads-essay b name r general is_name named is_text is_general short true none is =
    reads-braced b name r general kind.Essay [] [] sort.Essay is_name named is_text (ReadBackPlaces.passes-nil (is_at landmark.Closing)) refl refl refl (rich_of-nothing r.format general is_general (no_text general none))
    (record { short = ap (λ (x : Bool). not x || false) short; pieces = refl; weights = refl; pairs = refl; numbers = refl; feedback = refl; right = refl }) is
reads-essay b name r general is_name named is_text is_general short false none is =
    let gm = rich_marks r.format general ++ (Plain 10 ∷ []) in
    let plain = plain-behind (rich_marks r.format general) (rich_marks-plain r.format general) in
    let led : Marks = Plain 10 ∷ Plain 9 ∷ [] in
    let here = is_at landmark.Closing in
    let closed = closed-general led gm false (ReadBackPlaces.passes-plain 125 [] led refl) plain in
    reads-braced b name r general kind.Essay (with_general led false gm) [] sort.Essay is_name named is_text closed
    (ap trimmed (general-before led gm false refl plain)) refl refl
    (ap (rich_of r.format) (general-marks led gm false refl plain) ∙ rich_of-around r.format general [] (Plain 10 ∷ []) is_general refl refl)
    (record { short = ap (λ (x : Bool). not x || false) short; pieces = refl; weights = refl; pairs = refl; numbers = refl; feedback = refl; right = refl }) is
