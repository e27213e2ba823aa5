-- Which questions are the same as values: part by part, in order.
use Rattle.std.specs.List.{list_all}
use Rattle.std.specs.Ordering.{int_eq}
use Rattle.std.specs.Prelude.{ℕ, Bool, true, false, ◌&&◌, List, length, zip, ◌==◌, bytes_eq}
use Rattle.qz_grading.specs.declared.question.Bank.{Bank}
use Rattle.qz_grading.specs.declared.question.Choice.{Choice}
use Rattle.qz_grading.specs.declared.question.Extent.{Extent}
use Rattle.qz_grading.specs.declared.question.Extent.TheVariants as extent
use Rattle.qz_grading.specs.declared.question.Item.{Item}
use Rattle.qz_grading.specs.declared.question.Kind.{Kind}
use Rattle.qz_grading.specs.declared.question.Kind.TheVariants as kind
use Rattle.qz_grading.specs.declared.question.Num.{Num}
use Rattle.qz_grading.specs.declared.question.Pair.{Pair}
use Rattle.qz_grading.specs.declared.question.Question.{Question}
use Rattle.qz_grading.specs.declared.question.Rich.{Rich}
use Rattle.qz_grading.specs.declared.question.Short.{Short}
use Rattle.qz_grading.specs.Canonical.{same_format, same_texts}

-- as many items, each the same as the one at its place
abbrev pub all_same : {A : Type 0} → (A → A → Bool) → List A → List A → Bool
all_same {A = A} is_same xs ys = (length xs == length ys) && list_all (λ (p : A × A). is_same p.0 p.1) (zip xs ys)

abbrev pub same_bool : Bool → Bool → Bool
same_bool true b = b
same_bool false true = false
same_bool false false = true

abbrev pub same_rich : Rich → Rich → Bool
same_rich a b = same_format a.format b.format && bytes_eq a.text b.text

abbrev pub same_choice : Choice → Choice → Bool
same_choice a b = int_eq a.weight b.weight && (same_rich a.text b.text && same_rich a.feedback b.feedback)

abbrev pub same_pair : Pair → Pair → Bool
same_pair a b = same_rich a.stem b.stem && bytes_eq a.answer b.answer

abbrev pub same_short : Short → Short → Bool
same_short a b = int_eq a.weight b.weight && (bytes_eq a.pattern b.pattern && same_rich a.feedback b.feedback)

abbrev pub same_extent : Extent → Extent → Bool
same_extent extent.Any extent.Any = true
same_extent (extent.Near c s) (extent.Near d t) = int_eq c d && int_eq s t
same_extent (extent.Between l h) (extent.Between m i) = int_eq l m && int_eq h i
same_extent a b = false

abbrev pub same_num : Num → Num → Bool
same_num a b = int_eq a.weight b.weight && (same_extent a.extent b.extent && same_rich a.feedback b.feedback)

abbrev pub same_kind : Kind → Kind → Bool
same_kind kind.Description kind.Description = true
same_kind kind.Essay kind.Essay = true
same_kind (kind.TrueFalse r w o) (kind.TrueFalse s v p) = same_bool r s && (same_rich w v && same_rich o p)
same_kind (kind.One a) (kind.One b) = all_same same_choice a b
same_kind (kind.Several a) (kind.Several b) = all_same same_choice a b
same_kind (kind.Matching a) (kind.Matching b) = all_same same_pair a b
same_kind (kind.ShortAnswer a) (kind.ShortAnswer b) = all_same same_short a b
same_kind (kind.Numerical a) (kind.Numerical b) = all_same same_num a b
same_kind a b = false

abbrev pub same_question : Question → Question → Bool
same_question a b = bytes_eq a.name b.name && (same_rich a.text b.text && (same_rich a.general b.general && (same_kind a.kind b.kind && (int_eq a.penalty b.penalty && same_texts a.hints b.hints))))

abbrev pub same_item : Item → Item → Bool
same_item a b = same_texts a.category b.category && same_question a.question b.question

abbrev pub same_bank : Bank → Bank → Bool
same_bank a b = all_same same_item a.items b.items
