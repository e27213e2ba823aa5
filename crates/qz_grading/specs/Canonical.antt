-- The canonical text of questions in GIFT, in bytes.
use Rattle.std.specs.List.{list_all}
use Rattle.std.specs.Ordering.{int_eq}
use Rattle.std.specs.Prelude.{ℕ, ◌+◌, Bool, false, not, ◌&&◌, ◌||◌, List, [], ◌∷◌, ◌++◌, length, ℤ, pos, if◌then◌else◌, ◌==◌, codes, bytes_eq, fold, zip, flat_map}
use Rattle.qz_decimal.specs.Numbers.{one}
use Rattle.qz_grading.specs.declared.question.Bank.{Bank}
use Rattle.qz_grading.specs.declared.question.Choice.{Choice}
use Rattle.qz_grading.specs.declared.question.Extent.{Extent}
use Rattle.qz_grading.specs.declared.question.Extent.TheVariants as extent
use Rattle.qz_grading.specs.declared.question.Format.{Format}
use Rattle.qz_grading.specs.declared.question.Format.TheVariants as format
use Rattle.qz_grading.specs.declared.question.Item.{Item}
use Rattle.qz_grading.specs.declared.question.Kind.{Kind}
use Rattle.qz_grading.specs.declared.question.Kind.TheVariants as kind
use Rattle.qz_grading.specs.declared.question.Num.{Num}
use Rattle.qz_grading.specs.declared.question.Pair.{Pair}
use Rattle.qz_grading.specs.declared.question.Question.{Question}
use Rattle.qz_grading.specs.declared.question.Rich.{Rich}
use Rattle.qz_grading.specs.declared.question.Short.{Short}
pub use Rattle.qz_grading.specs.Words.{is_nothing, without_zeros, behind_point, short_natural, short_number, decimal_text}

-- ---- texts

-- a tilde, an equals sign, a hash, a brace, a colon or a backslash
abbrev pub is_sign : ℕ → Bool
is_sign c = (c == 126) || (c == 61) || (c == 35) || (c == 123) || (c == 125) || (c == 58) || (c == 92)

-- a sign gets a backslash, and a line feed is written as backslash and n
abbrev pub escaped_byte : ℕ → List ℕ
escaped_byte c = if c == 10 then 92 ∷ 110 ∷ [] else (if is_sign c then 92 ∷ c ∷ [] else c ∷ [])

abbrev pub escaped : List ℕ → List ℕ
escaped text = flat_map escaped_byte text

abbrev pub begins_with : ℕ → List ℕ → Bool
begins_with c [] = false
begins_with c (d ∷ ds) = d == c

abbrev pub format_mark : Format → List ℕ
format_mark format.Moodle = codes "[moodle]"
format_mark format.Html = codes "[html]"
format_mark format.Plain = codes "[plain]"
format_mark format.Markdown = codes "[markdown]"

abbrev pub same_format : Format → Format → Bool
same_format a b = bytes_eq (format_mark a) (format_mark b)

-- a text, with a format mark where its format isn't the default or the text begins with a bracket
abbrev pub rich_text : Format → Rich → List ℕ
rich_text default r = (if not (same_format default r.format) || begins_with 91 r.text then format_mark r.format else []) ++ escaped r.text

-- behind this sign, where it isn't empty
abbrev pub rich_behind : List ℕ → Format → Rich → List ℕ
rich_behind sign default r = if is_nothing r.text then [] else sign ++ rich_text default r

-- ---- numbers

-- a weight of 1 is 100 percent
abbrev pub weight_text : ℤ → List ℕ
weight_text weight = codes "%" ++ short_number 5 weight ++ codes "%"

-- every number, a number, a number with a tolerance, or two numbers
abbrev pub extent_text : Extent → List ℕ
extent_text extent.Any = codes "*"
extent_text (extent.Near centre slack) = decimal_text centre ++ (if int_eq slack (pos 0) then [] else codes ":" ++ decimal_text slack)
extent_text (extent.Between low high) = decimal_text low ++ codes ".." ++ decimal_text high

-- ---- pieces

abbrev pub line : List ℕ → List ℕ
line text = 9 ∷ (text ++ (10 ∷ []))

-- the weight is written where it isn't the sign's own, or the text behind it begins with a percent sign
abbrev pub weight_if_needed : ℤ → ℤ → List ℕ → List ℕ
weight_if_needed own weight text = if int_eq own weight && not (begins_with 37 text) then [] else weight_text weight

-- a piece that is the right one of a single choice, or any short or numerical answer
abbrev pub equals_piece : Format → ℤ → List ℕ → List ℕ → Rich → List ℕ
equals_piece default weight plain text feedback = line (codes "=" ++ weight_if_needed (pos one) weight plain ++ text ++ rich_behind (codes "#") default feedback)

abbrev pub tilde_piece : Format → ℤ → List ℕ → List ℕ → Rich → List ℕ
tilde_piece default weight plain text feedback = line (codes "~" ++ weight_if_needed (pos 0) weight plain ++ text ++ rich_behind (codes "#") default feedback)

abbrev pub tilde_choice : Format → Choice → List ℕ
tilde_choice default c = tilde_piece default c.weight c.text.text (rich_text default c.text) c.feedback

abbrev pub equals_choice : Format → Choice → List ℕ
equals_choice default c = equals_piece default c.weight c.text.text (rich_text default c.text) c.feedback

-- the first choice of full weight has an equals sign
abbrev pub single_choices : Format → List Choice → List ℕ
single_choices default [] = []
single_choices default (c ∷ cs) = if int_eq c.weight (pos one) then equals_choice default c ++ flat_map (tilde_choice default) cs else tilde_choice default c ++ single_choices default cs

abbrev pub pair_piece : Format → Pair → List ℕ
pair_piece default p = line (codes "=" ++ rich_text default p.stem ++ codes " -> " ++ escaped p.answer)

abbrev pub short_piece : Format → Short → List ℕ
short_piece default s = equals_piece default s.weight s.pattern (escaped s.pattern) s.feedback

abbrev pub num_piece : Format → Num → List ℕ
num_piece default n = equals_piece default n.weight [] (extent_text n.extent) n.feedback

-- ---- the answer part

abbrev pub general_behind : Format → Rich → List ℕ
general_behind default general = rich_behind (codes "####") default general

abbrev pub general_line : Format → Rich → List ℕ
general_line default general = if is_nothing general.text then [] else line (general_behind default general)

abbrev pub in_lines : List ℕ → List ℕ → Format → Rich → List ℕ
in_lines opening pieces default general = opening ++ (10 ∷ []) ++ pieces ++ general_line default general ++ codes "}"

-- the feedback for a wrong answer comes first, and is written where either isn't empty
abbrev pub true_false_text : Bool → Rich → Rich → Format → Rich → List ℕ
true_false_text right on_wrong on_right default general =
    (if right then codes "{TRUE" else codes "{FALSE")
    ++ (if is_nothing on_wrong.text && is_nothing on_right.text then [] else codes "#" ++ rich_text default on_wrong)
    ++ rich_behind (codes "#") default on_right
    ++ general_behind default general
    ++ codes "}"

abbrev pub answer_part : Kind → Format → Rich → List ℕ
answer_part kind.Description default general = []
answer_part kind.Essay default general = if is_nothing general.text then codes "{}" else in_lines (codes "{") [] default general
answer_part (kind.TrueFalse right on_wrong on_right) default general = true_false_text right on_wrong on_right default general
answer_part (kind.One choices) default general = in_lines (codes "{") (single_choices default choices) default general
answer_part (kind.Several choices) default general = in_lines (codes "{") (flat_map (tilde_choice default) choices) default general
answer_part (kind.Matching pairs) default general = in_lines (codes "{") (flat_map (pair_piece default) pairs) default general
answer_part (kind.ShortAnswer answers) default general = in_lines (codes "{") (flat_map (short_piece default) answers) default general
answer_part (kind.Numerical answers) default general = in_lines (codes "{#") (flat_map (num_piece default) answers) default general

-- ---- questions and banks

-- the name, the text, the answer part, and a blank line
abbrev pub canonical_question : Question → List ℕ
canonical_question q = codes "::" ++ escaped q.name ++ codes "::" ++ rich_text format.Moodle q.text ++ answer_part q.kind q.text.format q.general ++ (10 ∷ 10 ∷ [])

-- a slash in a name is doubled
abbrev pub category_name : List ℕ → List ℕ
category_name name = flat_map (λ c. if c == 47 then 47 ∷ 47 ∷ [] else c ∷ []) name

abbrev pub category_path : List (List ℕ) → List ℕ
category_path [] = []
category_path (name ∷ []) = category_name name
category_path (name ∷ next ∷ names) = category_name name ++ (47 ∷ category_path (next ∷ names))

abbrev pub same_texts : List (List ℕ) → List (List ℕ) → Bool
same_texts one other = (length one == length other) && list_all (λ (p : List ℕ × List ℕ). bytes_eq p.0 p.1) (zip one other)

-- written before a question whose category isn't that of the question before
abbrev pub category_line : List (List ℕ) → List (List ℕ) → List ℕ
category_line before path = if same_texts before path then [] else codes "$CATEGORY: " ++ category_path path ++ (10 ∷ 10 ∷ [])

abbrev pub canonical_items : List (List ℕ) → List Item → List ℕ
canonical_items before [] = []
canonical_items before (i ∷ is) = category_line before i.category ++ canonical_question i.question ++ canonical_items i.category is

-- before any category line a question stands in the category Default
abbrev pub canonical : Bank → List ℕ
canonical bank = canonical_items (codes "Default" ∷ []) bank.items

-- ---- the size that a version may have

abbrev pub canonical_size : Question → ℕ
canonical_size q = length (canonical_question q) + fold (λ n hint. n + length hint) 0 q.hints
