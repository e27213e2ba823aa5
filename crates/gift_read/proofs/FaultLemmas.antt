-- Which rule is the first that a block breaks.
use Rattle.std.proofs.Common.{◌≡◌, ℕ, ◌<◌, ◌≤◌, Bool, true, false, not, List, [], ◌∷◌, Some, None, Err, refl, sym, ap, ◌∙◌, arith}
use Rattle.std.proofs.Math.Bool.{or-true}
use Rattle.std.proofs.lemmas.Bool.{lt-ltb, le-ltb}
use Rattle.gift_lex.specs.declared.block.Block.{Block}
use Rattle.qz_grading.specs.declared.question.Format.{Format}
use Rattle.qz_grading.specs.declared.question.Format.TheVariants.{Moodle}
use Rattle.qz_grading.specs.Canonical.{canonical_size}
use Rattle.qz_grading.specs.Questions.{texts, are_no_longer, parts}
use Rattle.gift_read.specs.Category.{is_category}
use Rattle.gift_read.specs.FirstFault.{first_of, IsWhole}
use Rattle.qz_grading.specs.declared.limits.TheConstants.{MOST_PARTS, MOST_TEXT, MOST_TOGETHER}
use Rattle.gift_read.specs.Faults.{is_nameless, has_stray_brace, is_unclosed, when, is_long, broken_values, is_large, or_large, broken, line_of}
use Rattle.gift_read.specs.Gift.{told, told_by}
use Rattle.gift_read.specs.Parts.{body, question_text, answer_part, answers, sort_of}
use Rattle.gift_read.specs.Texts.{formatted}
use Rattle.gift_read.specs.Values.{kind_in, question}

-- a count of pieces that is the same in every format
parts-question : (b : Block) (count : ℕ) → ((format : Format) → count ≡ parts (kind_in format (answers (answer_part (body b.marks))) (sort_of (body b.marks)))) → count ≡ parts (question b).kind
parts-question b count counted = counted (formatted Moodle (question_text (body b.marks))).format

-- Too many pieces are told before anything else of a question.
pub too_many_parts : (b : Block) (count : ℕ) → is_category b.marks ≡ false → is_nameless b.marks ≡ false → has_stray_brace (body b.marks) ≡ false → is_unclosed (body b.marks) ≡ false
    → ((format : Format) → count ≡ parts (kind_in format (answers (answer_part (body b.marks))) (sort_of (body b.marks)))) → MOST_PARTS < count → first_of (broken b) ≡ Some 2
too_many_parts b count asked named no_stray closed counted many =
    let same = parts-question b count counted in
    let short = are_no_longer MOST_TEXT (texts (question b)) in
    let long : is_long (question b) ≡ true = rw (lt-ltb MOST_PARTS (parts (question b).kind) (omega (arith, same))) (or-true (not short)) in
    rw (asked, named, no_stray, closed, long) refl

-- where nothing is told before, the length of the whole is
told_last : (b : Block) (flaws : List ℕ) → None ≡ first_of flaws → first_of (or_large flaws b) ≡ first_of (when (is_large b) 2)
told_last b [] none = refl
told_last b (rule ∷ rules) none = cc

-- A question that is short enough and of which nothing else is told is without fault.
pub told_nothing : (b : Block) → is_category b.marks ≡ false → IsWhole b → None ≡ first_of (broken_values (question b) (sort_of (body b.marks)) (answers (answer_part (body b.marks))))
    → canonical_size (question b) ≤ MOST_TOGETHER → None ≡ first_of (broken b)
told_nothing b asked whole none short =
    let small : is_large b ≡ false = rw (asked, le-ltb MOST_TOGETHER (canonical_size (question b)) short) refl in
    let last = told_last b (broken_values (question b) (sort_of (body b.marks)) (answers (answer_part (body b.marks)))) none in
    sym (ap (λ (found : List ℕ). first_of (or_large found b)) whole.flaws ∙ last ∙ ap (λ (large : Bool). first_of (when large 2)) small)

-- the first rule that a block breaks is its fault
pub told-fault : (b : Block) (rule : ℕ) → Some rule ≡ first_of (broken b) → told b ≡ Err (record { line = line_of b rule; rule = rule })
told-fault b rule first = go (broken b) (is_category b.marks) first
  where
    go : (rules : List ℕ) (is : Bool) → Some rule ≡ first_of rules → told_by rules is b ≡ Err (record { line = line_of b rule; rule = rule })
    go [] is e = cc
    go (found ∷ rules) is e = let same : found ≡ rule = cc in rw same refl
