-- No description that is read has a general feedback.
use Rattle.std.proofs.Common.{◌≡◌, ℕ, Bool, true, false, ◌==◌, List, [], ◌∷◌, Option, Some, Result, Ok, Err, refl, sym, ap, subst}
use Rattle.std.specs.List.{list_all}
use Rattle.std.specs.Prelude.{IfSome}
use Rattle.std.specs.Str.{is_utf8}
use Rattle.std.proofs.lemmas.Bool.{and_parts}
use Rattle.gift_lex.specs.declared.block.Block.{Block}
use Rattle.gift_lex.specs.Blocks.{blocks_of}
use Rattle.gift_read.specs.declared.reading.Entry.{Entry}
use Rattle.gift_read.specs.declared.reading.Entry.TheVariants as entry
use Rattle.gift_read.specs.Category.{is_category}
use Rattle.gift_read.specs.Faults.{broken}
use Rattle.gift_read.specs.Gift.{Fault, told_by, told, onto, followed, items_of, in_bank, reading_of, reading}
use Rattle.gift_read.specs.Parts.{body}
use Rattle.gift_read.specs.Values.{question}
use Rattle.gift_read.proofs.QuestionLemmas.{description-general}
use Rattle.qz_grading.specs.declared.question.Bank.{Bank}
use Rattle.qz_grading.specs.declared.question.Item.{Item}
use Rattle.qz_grading.specs.declared.question.Kind.{Kind}
use Rattle.qz_grading.specs.declared.question.Kind.TheVariants as kind
use Rattle.qz_grading.specs.declared.question.Question.{Question}
use Rattle.qz_terms.specs.Kept.{described_by, is_described}
use Rattle.qz_wire.specs.BankWords.{only_question}

abbrev are_described : List Item → Bool
are_described items = list_all (λ (i : Item). is_described i.question) items

-- ---- what is read

block-described : (b : Block) → is_described (question b) ≡ true
block-described b = go (question b).kind refl
  where
    go : (k : Kind) → (question b).kind ≡ k → described_by k (question b).general.text ≡ true
    go kind.Description is = ap (λ (n : ℕ). n == 0) (description-general (question b).text.format (body b.marks) is)
    go kind.Essay is = refl
    go (kind.TrueFalse right on_wrong on_right) is = refl
    go (kind.One choices) is = refl
    go (kind.Several choices) is = refl
    go (kind.Matching pairs) is = refl
    go (kind.ShortAnswer answers) is = refl
    go (kind.Numerical answers) is = refl

abbrev DescribedIfAsked : Result Entry Fault → Type 0
DescribedIfAsked (Ok (entry.Asked q)) = is_described q ≡ true
DescribedIfAsked (Ok (entry.Category path)) = Unit {0}
DescribedIfAsked (Err fault) = Unit {0}

told-described : (rules : List ℕ) (is : Bool) (b : Block) → DescribedIfAsked (told_by rules is b)
told-described (rule ∷ rules) is b = tt
told-described [] true b = tt
told-described [] false b = block-described b

abbrev DescribedIfRead : Result (List Item) Fault → Type 0
DescribedIfRead (Ok items) = are_described items ≡ true
DescribedIfRead (Err fault) = Unit {0}

onto-described : (names : List (List ℕ)) (q : Question) (later : Result (List Item) Fault) → is_described q ≡ true → DescribedIfRead later → DescribedIfRead (onto (record { category = names; question = q }) later)
onto-described names q (Ok items) here rest = rw (here, rest) refl
onto-described names q (Err fault) here rest = tt

followed-described : (names : List (List ℕ)) (e : Result Entry Fault) (later : List (List ℕ) → Result (List Item) Fault) → DescribedIfAsked e → ((n : List (List ℕ)) → DescribedIfRead (later n)) → DescribedIfRead (followed names e later)
followed-described names (Err fault) later here rest = tt
followed-described names (Ok (entry.Category path)) later here rest = rest path
followed-described names (Ok (entry.Asked q)) later here rest = onto-described names q (later names) here (rest names)

items-described : (names : List (List ℕ)) (blocks : List Block) → DescribedIfRead (items_of names blocks)
items-described names [] = refl
items-described names (b ∷ blocks) = followed-described names (told b) (λ n. items_of n blocks) (told-described (broken b) (is_category b.marks) b) (λ n. items-described n blocks)

abbrev DescribedIfBank : Result Bank Fault → Type 0
DescribedIfBank (Ok bank) = are_described bank.items ≡ true
DescribedIfBank (Err fault) = Unit {0}

in_bank-described : (r : Result (List Item) Fault) → DescribedIfRead r → DescribedIfBank (in_bank r)
in_bank-described (Ok items) all = all
in_bank-described (Err fault) all = tt

reading_of-described : (valid : Bool) (text : List ℕ) → DescribedIfBank (reading_of valid text)
reading_of-described true text = in_bank-described _ (items-described _ (blocks_of text))
reading_of-described false text = tt

-- of every bank that is read
pub read-described : (text : List ℕ) (bank : Bank) → reading text ≡ Ok bank → list_all (λ (i : Item). is_described i.question) bank.items ≡ true
read-described text bank is = subst DescribedIfBank is (reading_of-described (is_utf8 text) text)

-- ---- the one question of a bank

only-described : (items : List Item) → are_described items ≡ true → IfSome (only_question items) (λ q. is_described q ≡ true)
only-described [] all = tt
only-described (item ∷ []) all = (and_parts _ _ all).0
only-described (item ∷ next ∷ items) all = tt

pub the-described : (items : List Item) (q : Question) → Some q ≡ only_question items → list_all (λ (i : Item). is_described i.question) items ≡ true → is_described q ≡ true
the-described items q is all = subst (λ (found : Option Question). IfSome found (λ q. is_described q ≡ true)) (sym is) (only-described items all)
