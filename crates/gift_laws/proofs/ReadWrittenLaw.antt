-- What a text is read as is a bank of written questions.
use Rattle.std.proofs.Common.{◌≡◌, ℕ, Bool, true, false, List, [], ◌∷◌, codes, refl, subst}
use Rattle.std.specs.Prelude.{Result, Ok, Err}
use Rattle.std.specs.Str.{is_utf8}
use Rattle.std.proofs.lemmas.Str.{IsUtf8-from_is_utf8}
use Rattle.gift_lex.specs.declared.block.Block.{Block}
use Rattle.gift_lex.specs.Blocks.{blocks_of}
use Rattle.qz_grading.specs.declared.question.Bank.{Bank}
use Rattle.qz_grading.specs.declared.question.Item.{Item}
use Rattle.qz_grading.specs.declared.question.Question.{Question}
use Rattle.gift_read.specs.declared.reading.Entry.{Entry}
use Rattle.gift_read.specs.declared.reading.Entry.TheVariants as entry
use Rattle.gift_read.specs.Category.{is_category, path, is_bad_path}
use Rattle.gift_read.specs.Faults.{when, broken}
use Rattle.gift_read.specs.Gift.{Fault, told_by, told, onto, followed, items_of, in_bank, reading_of}
use Rattle.gift_laws.specs.Written.{Each, IsWritten, AreItems, ReadsWritten}
use Rattle.gift_read.proofs.QuestionLemmas.{none-before, none-broken}
use Rattle.gift_laws.proofs.ReadWrittenBlocks.{IsLexed, blocks_of-lexed}
use Rattle.gift_laws.proofs.ReadWrittenCategory.{IsPath, path-is, default-is}
use Rattle.gift_laws.proofs.ReadWrittenQuestion.{question-written}

-- ---- one block

abbrev IsEntry : Result Entry Fault → Type 0
IsEntry (Err fault) = Unit {0}
IsEntry (Ok (entry.Category path)) = IsPath path
IsEntry (Ok (entry.Asked q)) = IsWritten q

path-written : (b : Block) → IsLexed b → is_category b.marks ≡ true → broken b ≡ [] → IsPath (path b.marks)
path-written b is category whole =
    let flawless : when (is_bad_path b.marks) 3 ≡ [] = rw category at (none-broken b whole).0 in
    path-is b.marks is.good (is.feedless category) (none-before [] (is_bad_path b.marks) 3 flawless).1

told-written : (b : Block) → IsLexed b → IsEntry (told b)
told-written b is = go (broken b) (is_category b.marks) refl refl
  where
    go : (rules : List ℕ) (category : Bool) → broken b ≡ rules → is_category b.marks ≡ category → IsEntry (told_by rules category b)
    go (rule ∷ rules) category whole e = tt
    go [] true whole e = path-written b is e whole
    go [] false whole e = question-written b is.good e whole

-- ---- items

abbrev AreItemsRead : Result (List Item) Fault → Type 0
AreItemsRead (Ok items) = AreItems items
AreItemsRead (Err fault) = Unit {0}

onto-written : (names : List (List ℕ)) (q : Question) (later : Result (List Item) Fault) → IsPath names → IsWritten q → AreItemsRead later → AreItemsRead (onto (record { category = names; question = q }) later)
onto-written names q (Ok items) path is later = (record { named = path.named; names = path.names; question = is }, later)
onto-written names q (Err fault) path is later = tt

followed-written : (names : List (List ℕ)) (e : Result Entry Fault) (later : List (List ℕ) → Result (List Item) Fault) → IsPath names → IsEntry e
    → ((names : List (List ℕ)) → IsPath names → AreItemsRead (later names)) → AreItemsRead (followed names e later)
followed-written names (Err fault) later path is written = tt
followed-written names (Ok (entry.Category next)) later path is written = written next is
followed-written names (Ok (entry.Asked q)) later path is written = onto-written names q (later names) path is (written names path)

items-written : (names : List (List ℕ)) (blocks : List Block) → IsPath names → Each IsLexed blocks → AreItemsRead (items_of names blocks)
items-written names [] path lexed = tt
items-written names (b ∷ blocks) path lexed = followed-written names (told b) (λ n. items_of n blocks) path (told-written b lexed.0) (λ n is. items-written n blocks is lexed.1)

-- ---- the whole text

bank-written : (items : Result (List Item) Fault) (bank : Bank) → AreItemsRead items → in_bank items ≡ Ok bank → AreItems bank.items
bank-written (Ok items) bank written e = let same : items ≡ bank.items = cc in subst AreItems same written
bank-written (Err fault) bank written e = cc

reading-written : (text : List ℕ) (bank : Bank) (utf8 : Bool) → is_utf8 text ≡ utf8 → reading_of utf8 text ≡ Ok bank → AreItems bank.items
reading-written text bank false is e = cc
reading-written text bank true is e =
    let default = codes "Default" ∷ [] in
    bank-written (items_of default (blocks_of text)) bank (items-written default (blocks_of text) default-is (blocks_of-lexed text (IsUtf8-from_is_utf8 text is))) e

pub reads_written : ReadsWritten
reads_written = record { written = λ text bank e. reading-written text bank (is_utf8 text) refl e }
