-- The grades of a quiz, as a text with columns and as a table of comma-separated values.
use Rattle.std.specs.Prelude.{ℕ, ◌-◌, Bool, true, false, List, [], ◌∷◌, ◌++◌, length, replicate, flat_map, codes, decimal}
use Rattle.csv.specs.Writing.{default_writer, row_text}
use Rattle.qz_terms.specs.declared.reply.Done.{Done}
use Rattle.qz_terms.specs.declared.reply.Done.TheVariants as done
use Rattle.qz_terms.specs.declared.reply.Row.{Row}
use Rattle.qz_pages.specs.Shown.{grade_or}

-- the rows that an answer has
abbrev pub rows_of : Done → List Row
rows_of (done.Report rows) = rows
rows_of d = []

abbrev pub is_report : Done → Bool
is_report (done.Report rows) = true
is_report d = false

-- at the right end of so many places, and never cut
abbrev pub right_in : ℕ → List ℕ → List ℕ
right_in places text = replicate (places - length text) 32 ++ text

abbrev pub row_line : Row → List ℕ
row_line r =
    right_in 8 (decimal r.user) ++ codes " " ++ right_in 12 (grade_or (codes "-") r.grade)
    ++ codes " " ++ r.name ++ codes "\n"

abbrev pub grades_text : List Row → List ℕ
grades_text rows = flat_map row_line rows

abbrev pub header : List (List ℕ)
header = codes "user" ∷ codes "name" ∷ codes "grade" ∷ []

-- a user without a grade has an empty field there
abbrev pub row_fields : Row → List (List ℕ)
row_fields r = decimal r.user ∷ r.name ∷ grade_or [] r.grade ∷ []

-- the header and the rows, as the csv crate writes records with its default settings
abbrev pub csv_row : List (List ℕ) → List ℕ
csv_row fields = row_text default_writer fields

abbrev pub grades_csv : List Row → List ℕ
grades_csv rows = csv_row header ++ flat_map (λ (r : Row). csv_row (row_fields r)) rows
