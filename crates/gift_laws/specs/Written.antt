-- Questions as a reading makes them.
use Rattle.std.specs.Prelude.{◌≡◌, ◌≢◌, ℕ, ◌≤◌, ◌==◌, ◌&&◌, ◌||◌, Bool, true, false, not, IsTrue, List, [], ◌∷◌, Ok}
use Rattle.std.specs.List.{list_all}
use Rattle.std.specs.Str.{IsUtf8, chars}
use Rattle.qz_grading.specs.declared.question.Choice.{Choice}
use Rattle.qz_grading.specs.declared.question.Format.{Format}
use Rattle.qz_grading.specs.declared.question.Kind.{Kind}
use Rattle.qz_grading.specs.declared.question.Kind.TheVariants as kind
use Rattle.qz_grading.specs.declared.question.Num.{Num}
use Rattle.qz_grading.specs.declared.question.Pair.{Pair}
use Rattle.qz_grading.specs.declared.question.Question.{Question}
use Rattle.qz_grading.specs.declared.question.Rich.{Rich}
use Rattle.qz_grading.specs.declared.question.Short.{Short}
use Rattle.qz_grading.specs.declared.question.Bank.{Bank}
use Rattle.qz_grading.specs.declared.question.Item.{Item}
use Rattle.qz_grading.specs.Canonical.{canonical, canonical_size}
use Rattle.qz_grading.specs.Grading.{is_space}
use Rattle.qz_grading.specs.Questions.{IsSound, are_no_longer, texts, is_weight, is_extent}
use Rattle.gift_lex.specs.Blocks.{carriage_return, line_feed}
use Rattle.gift_read.specs.Category.{slash}
use Rattle.gift_read.specs.Gift.{reading}
use Rattle.qz_grading.specs.declared.limits.TheConstants.{MOST_TEXT, MOST_TOGETHER}
use Rattle.gift_read.specs.Values.{penalty_of}

-- ---- texts

-- characters that don't begin with white space
abbrev pub begins_ink : List ℕ → Bool
begins_ink [] = true
begins_ink (c ∷ cs) = not (is_space c)

-- or end with it
abbrev pub ends_ink : List ℕ → Bool
ends_ink [] = true
ends_ink (c ∷ []) = not (is_space c)
ends_ink (c ∷ d ∷ cs) = ends_ink (d ∷ cs)

abbrev pub has_no_return : List ℕ → Bool
has_no_return cs = list_all (λ c. not (c == carriage_return)) cs

-- a text in UTF-8 without outer white space and without a carriage return
pub record IsText (text : List ℕ) : Type 0 where
  pub utf8 : IsUtf8 text
  pub begins : IsTrue (begins_ink (chars text))
  pub ends : IsTrue (ends_ink (chars text))
  pub no_return : IsTrue (has_no_return (chars text))

-- where such a text is empty it has the default format
pub record IsRich (default : Format) (r : Rich) : Type 0 where
  pub text : IsText r.text
  pub empty : r.text ≡ [] → r.format ≡ default

-- each of a list is such
abbrev pub Each : {T : Type 0} → (T → Type 0) → List T → Type 0
Each P [] = Unit {0}
Each P (x ∷ xs) = P x × Each P xs

-- ---- kinds

-- a minus and a greater sign behind it
abbrev pub has_arrow : List ℕ → Bool
has_arrow [] = false
has_arrow (c ∷ []) = false
has_arrow (c ∷ d ∷ cs) = (c == 45 && d == 62) || has_arrow (d ∷ cs)

-- a stem has no arrow, and an answer isn't empty
pub record IsPair (default : Format) (p : Pair) : Type 0 where
  pub stem : IsRich default p.stem
  pub no_arrow : has_arrow (chars p.stem.text) ≡ false
  pub answer : IsText p.answer
  pub some : p.answer ≢ []

-- a choice isn't empty, and has a weight
pub record IsChoice (default : Format) (c : Choice) : Type 0 where
  pub weight : IsTrue (is_weight c.weight)
  pub text : IsRich default c.text
  pub some : c.text.text ≢ []
  pub feedback : IsRich default c.feedback

-- A pattern isn't empty. An arrow in it, or in its feedback, would make the question one of matching.
pub record IsAnswer (default : Format) (s : Short) : Type 0 where
  pub weight : IsTrue (is_weight s.weight)
  pub pattern : IsText s.pattern
  pub some : s.pattern ≢ []
  pub no_arrow : has_arrow (chars s.pattern) ≡ false
  pub feedback : IsRich default s.feedback
  pub no_arrow_behind : has_arrow (chars s.feedback.text) ≡ false

-- a number, or numbers, with a weight
pub record IsNumber (default : Format) (n : Num) : Type 0 where
  pub weight : IsTrue (is_weight n.weight)
  pub extent : IsTrue (is_extent n.extent)
  pub feedback : IsRich default n.feedback

-- the texts of a kind are such
abbrev pub IsKind : Format → Kind → Type 0
IsKind default kind.Description = Unit {0}
IsKind default kind.Essay = Unit {0}
IsKind default (kind.TrueFalse right on_wrong on_right) = IsRich default on_wrong × IsRich default on_right
IsKind default (kind.One choices) = Each (IsChoice default) choices
IsKind default (kind.Several choices) = Each (IsChoice default) choices
IsKind default (kind.Matching pairs) = Each (IsPair default) pairs
IsKind default (kind.ShortAnswer answers) = Each (IsAnswer default) answers
IsKind default (kind.Numerical answers) = Each (IsNumber default) answers

-- ---- questions

pub record IsWritten (q : Question) : Type 0 where
  pub name : IsText q.name
  pub named : q.name ≢ []
  pub text : IsText q.text.text
  pub general : IsRich q.text.format q.general
  -- a description has no braces for it
  pub described : q.kind ≡ kind.Description → q.general.text ≡ []
  pub kind : IsKind q.text.format q.kind
  pub sound : IsSound q.kind
  pub penalty : q.penalty ≡ penalty_of q.kind
  pub no_hints : q.hints ≡ []
  pub lengths : IsTrue (are_no_longer MOST_TEXT (texts q))
  pub size : canonical_size q ≤ MOST_TOGETHER

-- ---- categories

-- a name that doesn't begin with a slash
abbrev pub begins_name : List ℕ → Bool
begins_name [] = false
begins_name (c ∷ cs) = not (c == slash)

-- a name of a category isn't empty and has no line feed
pub record IsName (name : List ℕ) : Type 0 where
  pub text : IsText name
  pub begins : IsTrue (begins_name (chars name))
  pub feedless : IsTrue (list_all (λ c. not (c == line_feed)) (chars name))

abbrev pub AreNames : List (List ℕ) → Type 0
AreNames [] = Unit {0}
AreNames (name ∷ names) = IsName name × AreNames names

-- ---- banks

pub record IsItem (i : Item) : Type 0 where
  pub named : i.category ≢ []
  pub names : AreNames i.category
  pub question : IsWritten i.question

abbrev pub AreItems : List Item → Type 0
AreItems [] = Unit {0}
AreItems (i ∷ is) = IsItem i × AreItems is

-- a bank of such questions is what its canonical text is read as
pub record ReadsBack : Type 0 where
  pub same : (bank : Bank) → AreItems bank.items → reading (canonical bank) ≡ Ok bank

-- each text that has a reading is read as a bank of such questions
pub record ReadsWritten : Type 0 where
  pub written : (text : List ℕ) (bank : Bank) → reading text ≡ Ok bank → AreItems bank.items

-- Reading, writing and reading again gives what was read.
pub record ReadsAgain : Type 0 where
  pub same : (text : List ℕ) (bank : Bank) → reading text ≡ Ok bank → reading (canonical bank) ≡ Ok bank
