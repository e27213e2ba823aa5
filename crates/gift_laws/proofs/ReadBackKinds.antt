-- Written questions, kind by kind: their canonical text is read as them.
use Rattle.std.proofs.Common.{◌≡◌, ◌≢◌, ◌≤◌, ℕ, Bool, true, false, cond, ◌&&◌, List, [], ◌∷◌, ◌++◌, refl, ap, ◌∙◌, append_assoc, append-nil, codes}
use Rattle.std.specs.Char.{encode_utf8}
use Rattle.gift_lex.specs.declared.block.Piece.TheVariants.{Sign}
use Rattle.qz_grading.specs.declared.question.Format.{Format}
use Rattle.qz_grading.specs.declared.question.Format.TheVariants as format
use Rattle.qz_grading.specs.declared.question.Kind.{Kind}
use Rattle.qz_grading.specs.declared.question.Kind.TheVariants as kind
use Rattle.qz_grading.specs.declared.question.Rich.{Rich}
use Rattle.qz_grading.specs.Canonical.{is_nothing, rich_text, canonical_size, general_line}
use Rattle.gift_read.specs.Places.{Marks}
use Rattle.qz_grading.specs.declared.limits.TheConstants.{MOST_TOGETHER}
use Rattle.gift_read.specs.Values.{question_with}
use Rattle.gift_laws.specs.Written.{IsText, IsRich}
use Rattle.gift_laws.proofs.ReadBackRich.{rich_characters, rich_marks}
use Rattle.gift_laws.proofs.ReadBackFrame.{named_marks, braced}
use Rattle.gift_laws.proofs.ReadBackGeneral.{hashes}
use Rattle.gift_laws.proofs.ReadBackPlain.{IsShort, reads-description, reads-essay}
use Rattle.gift_laws.proofs.ReadBackTruth.{word, tail_of, truth_inner, reads-truth}
use Rattle.gift_laws.proofs.ReadBackBank.{IsQuestionText}
use Rattle.gift_laws.proofs.ReadBackWriting.{Writes, Writes-nil, Writes-append, Writes-ascii, Writes-rich, Writes-behind, one-line}
use Rattle.gift_laws.proofs.ReadBackParts.{Writes-hashes, general_lines, written-general, several-lines, part_inner-lines}

-- what every kind takes of a question
pub record IsFramed (name : List ℕ) (r general : Rich) (k : Kind) : Type 0 where
  pub own_name : IsText name
  pub named : name ≢ []
  pub own_text : IsText r.text
  pub own_general : IsRich r.format general
  pub short : IsShort (question_with name r general k)
  pub small : canonical_size (question_with name r general k) ≤ MOST_TOGETHER

-- ---- descriptions

pub asks-description : (name : List ℕ) (r general : Rich) → IsFramed name r general kind.Description → general.text ≡ [] → IsQuestionText (question_with name r general kind.Description)
asks-description name r general is none =
    one-line (question_with name r general kind.Description) [] [] [] is.own_name is.own_text refl Writes-nil is.small
    (λ b marks. reads-description b name r general is.own_name is.named is.own_text is.own_general none is.short (marks ∙ ap (named_marks name) (append-nil (rich_marks format.Moodle r))))

-- ---- essays

Writes-braces : Writes (codes "{}") (codes "{}") (Sign 123 ∷ Sign 125 ∷ [])
unfolding encode_utf8
Writes-braces = Writes-ascii (codes "{}") refl refl refl refl refl

pub Writes-opening : Writes (codes "{") (codes "{") (Sign 123 ∷ [])
unfolding encode_utf8
Writes-opening = Writes-ascii (codes "{") refl refl refl refl refl

pub asks-essay : (name : List ℕ) (r general : Rich) → IsFramed name r general kind.Essay → (none : Bool) → is_nothing general.text ≡ none → IsQuestionText (question_with name r general kind.Essay)
asks-essay name r general is true e =
    one-line (question_with name r general kind.Essay) (codes "{}") (codes "{}") (Sign 123 ∷ Sign 125 ∷ []) is.own_name is.own_text (rw e refl) Writes-braces is.small
    (λ b marks. reads-essay b name r general is.own_name is.named is.own_text is.own_general is.short true e marks)
asks-essay name r general is false e =
    let f = r.format in
    several-lines (question_with name r general kind.Essay) (codes "{") (general_line f general) [] (general_lines f general false) is.own_name is.own_text (rw e refl) Writes-opening (written-general f general is.own_general.text false e) is.small
    (λ b marks. reads-essay b name r general is.own_name is.named is.own_text is.own_general is.short false e (marks ∙ ap (λ (t : Marks). named_marks name (braced (rich_marks format.Moodle r) t)) (part_inner-lines f general [] [] false)))

-- ---- true-false questions

abbrev opening_word : Bool → List ℕ
opening_word right = cond right (codes "{TRUE") (codes "{FALSE")

Writes-word : (right : Bool) → Writes (opening_word right) (opening_word right) (Sign 123 ∷ word right)
unfolding encode_utf8
Writes-word true = Writes-ascii (codes "{TRUE") refl refl refl refl refl
Writes-word false = Writes-ascii (codes "{FALSE") refl refl refl refl refl

pub Writes-hash : Writes (codes "#") (codes "#") (Sign 35 ∷ [])
unfolding encode_utf8
Writes-hash = Writes-ascii (codes "#") refl refl refl refl refl

pub Writes-closing : Writes (codes "}") (codes "}") (Sign 125 ∷ [])
unfolding encode_utf8
Writes-closing = Writes-ascii (codes "}") refl refl refl refl refl

-- the feedback for a wrong answer
Writes-wrong : (f : Format) (wrong : Rich) → IsText wrong.text → (none : Bool) → Writes (cond none [] (codes "#" ++ rich_text f wrong)) (cond none [] (codes "#" ++ rich_characters f wrong)) (cond none [] (Sign 35 ∷ rich_marks f wrong))
Writes-wrong f wrong is true = Writes-nil
Writes-wrong f wrong is false = Writes-append (codes "#") (rich_text f wrong) (codes "#") (rich_characters f wrong) (Sign 35 ∷ []) (rich_marks f wrong) Writes-hash (Writes-rich f wrong is)

tail-parts : (f : Format) (wrong right : Rich) (no_wrong no_right : Bool)
    → cond (no_wrong && no_right) [] (Sign 35 ∷ rich_marks f wrong) ++ cond no_right [] (Sign 35 ∷ rich_marks f right) ≡ tail_of f wrong right no_wrong no_right
tail-parts f wrong right true true = refl
tail-parts f wrong right false true = append-nil (Sign 35 ∷ rich_marks f wrong)
tail-parts f wrong right true false = refl
tail-parts f wrong right false false = refl

truth-marks : (f : Format) (right : Bool) (on_wrong on_right general : Rich) (no_wrong no_right none : Bool)
    → (((Sign 123 ∷ word right) ++ cond (no_wrong && no_right) [] (Sign 35 ∷ rich_marks f on_wrong)) ++ cond no_right [] (Sign 35 ∷ rich_marks f on_right)) ++ cond none [] (hashes ++ rich_marks f general) ++ (Sign 125 ∷ [])
    ≡ Sign 123 ∷ (truth_inner f right on_wrong on_right general no_wrong no_right none ++ (Sign 125 ∷ []))
truth-marks f right on_wrong on_right general no_wrong no_right none =
    let w : Marks = cond (no_wrong && no_right) [] (Sign 35 ∷ rich_marks f on_wrong) in
    let r : Marks = cond no_right [] (Sign 35 ∷ rich_marks f on_right) in
    ap (λ (t : Marks). Sign 123 ∷ ((t ++ cond none [] (hashes ++ rich_marks f general)) ++ (Sign 125 ∷ [])))
    (append_assoc (word right) w r ∙ ap (λ (t : Marks). word right ++ t) (tail-parts f on_wrong on_right no_wrong no_right))

pub asks-truth : (name : List ℕ) (r general on_wrong on_right : Rich) (right : Bool) → IsFramed name r general (kind.TrueFalse right on_wrong on_right) → IsRich r.format on_wrong → IsRich r.format on_right
    → IsQuestionText (question_with name r general (kind.TrueFalse right on_wrong on_right))
asks-truth name r general on_wrong on_right right is is_wrong is_right =
    let f = r.format in
    let no_wrong = is_nothing on_wrong.text in
    let no_right = is_nothing on_right.text in
    let none = is_nothing general.text in
    let writes = Writes-append _ _ _ _ _ _
    (Writes-append _ _ _ _ _ _
    (Writes-append _ _ _ _ _ _
    (Writes-append _ _ _ _ _ _ (Writes-word right) (Writes-wrong f on_wrong is_wrong.text (no_wrong && no_right)))
    (Writes-behind (codes "#") (Sign 35 ∷ []) f on_right Writes-hash is_right.text no_right refl))
    (Writes-behind (codes "####") hashes f general Writes-hashes is.own_general.text none refl))
    Writes-closing in
    one-line (question_with name r general (kind.TrueFalse right on_wrong on_right)) _ _ _ is.own_name is.own_text refl writes is.small
    (λ b marks. reads-truth b name r general on_wrong on_right right is.own_name is.named is.own_text is.own_general is_wrong is_right is.short no_wrong no_right none refl refl refl
    (marks ∙ ap (λ (t : Marks). named_marks name (rich_marks format.Moodle r ++ t)) (truth-marks f right on_wrong on_right general no_wrong no_right none)))
