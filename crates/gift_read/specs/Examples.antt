-- Worked texts: what each kind is read as.
use Rattle.std.specs.Prelude.{◌≡◌, ℕ, List, [], ◌∷◌, ℤ, pos, Result, Ok, Err, codes, refl}
use Rattle.qz_grading.specs.declared.question.Bank.{Bank}
use Rattle.qz_grading.specs.declared.question.Choice.{Choice}
use Rattle.qz_grading.specs.declared.question.Format.TheVariants as format
use Rattle.qz_grading.specs.declared.question.Item.{Item}
use Rattle.qz_grading.specs.declared.question.Kind.{Kind}
use Rattle.qz_grading.specs.declared.question.Kind.TheVariants as kind
use Rattle.qz_grading.specs.declared.question.Question.{Question}
use Rattle.qz_grading.specs.declared.question.Rich.{Rich}
use Rattle.qz_grading.specs.Canonical.{canonical}
use Rattle.gift_read.specs.Computing.{gift}
use Rattle.gift_read.specs.Gift.{Fault, reading}

-- ---- what texts are read as

abbrev pub moodle : List ℕ → Rich
moodle text = record { format = format.Moodle; text = text }

abbrev pub html : List ℕ → Rich
html text = record { format = format.Html; text = text }

abbrev pub asked : List ℕ → List ℕ → Kind → Question
asked name text k = record { name = name; text = moodle text; general = moodle []; kind = k; penalty = pos 3333333; hints = [] }

abbrev pub read_as : List Item → Result Bank Fault
read_as items = Ok (record { items = items })

abbrev pub in_category : List (List ℕ) → Question → Item
in_category names q = record { category = names; question = q }

abbrev pub one : Question → Result Bank Fault
one q = read_as (in_category (codes "Default" ∷ []) q ∷ [])

abbrev pub at_fault : ℕ → ℕ → Result Bank Fault
at_fault line rule = Err (record { line = line; rule = rule })

pub no_bytes : reading [] ≡ read_as []
unfolding gift
no_bytes = refl

-- ---- a question as a site exports it

abbrev exported : List ℕ
exported = codes "// question: 0  name: Switch category to $course$/top/Week 1\n$CATEGORY: $course$/top/Week 1\n\n\n// question: 11  name: Capital\n::Capital::[html]<p>Capital of France?</p>{\n\t=Paris#Yes\n\t~Lyon#No\n\t~%50%Paris area\n\t####See page 4\n}\n\n"

abbrev html_choice : ℤ → List ℕ → List ℕ → Choice
html_choice weight text feedback = record { weight = weight; text = html text; feedback = html feedback }

abbrev capital : Question
capital = record {
  name = codes "Capital";
  text = html (codes "<p>Capital of France?</p>");
  general = html (codes "See page 4");
  kind = kind.One (html_choice (pos 10000000) (codes "Paris") (codes "Yes") ∷ html_choice (pos 0) (codes "Lyon") (codes "No") ∷ html_choice (pos 5000000) (codes "Paris area") [] ∷ []);
  penalty = pos 3333333;
  hints = [];
}

abbrev exported_bank : Bank
exported_bank = record { items = in_category (codes "$course$" ∷ codes "top" ∷ codes "Week 1" ∷ []) capital ∷ [] }

pub an_export : reading exported ≡ Ok exported_bank
unfolding gift
an_export = refl

pub its_canonical_text : reading (canonical exported_bank) ≡ Ok exported_bank
unfolding gift
its_canonical_text = refl
