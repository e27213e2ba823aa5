-- Where a target leads.
use Rattle.std.specs.Prelude.{ℕ, ◌≡◌, ◌||◌, ◌==◌, List, [], ◌∷◌, length, option_map, unwrap_or, bytes_eq, if◌then◌else◌, codes}
use Rattle.qz_wire.specs.Lines.{after}
use Rattle.qz_wire.specs.Words.{parts_at}
use Rattle.qz_http.specs.declared.routes.Path.{Path}
use Rattle.qz_http.specs.declared.routes.Path.TheVariants as path

pub data Way : Type 0 where
  nowhere ask : Way
  entry : List ℕ → List ℕ → Way
  page text_report csv_report : List ℕ → Way

abbrev slash : ℕ
slash = 47

-- two parameters, each with a byte and without a slash
abbrev pub two_parameters : List (List ℕ) → Way
two_parameters [] = nowhere
two_parameters (first ∷ []) = nowhere
two_parameters (first ∷ second ∷ []) = if length first == 0 || length second == 0 then nowhere else entry first second
two_parameters (first ∷ second ∷ third ∷ more) = nowhere

-- one such parameter
abbrev pub one_parameter : List (List ℕ) → Way
one_parameter [] = nowhere
one_parameter (first ∷ []) = if length first == 0 then nowhere else page first
one_parameter (first ∷ second ∷ more) = nowhere

abbrev pub report_named : List ℕ → List ℕ → Way
report_named name quiz = if bytes_eq name (codes "grades.txt") then text_report quiz else (if bytes_eq name (codes "grades.csv") then csv_report quiz else nowhere)

-- one such parameter, and the name of a report
abbrev pub report_below : List (List ℕ) → Way
report_below [] = nowhere
report_below (quiz ∷ []) = nowhere
report_below (quiz ∷ name ∷ []) = if length quiz == 0 then nowhere else report_named name quiz
report_below (quiz ∷ name ∷ third ∷ more) = nowhere

-- what stands behind this, taken apart at its slashes
abbrev pub below : List ℕ → (List (List ℕ) → Way) → List ℕ → Way → Way
below front way target other = unwrap_or (option_map (λ rest. way (parts_at slash rest)) (after front target)) other

-- `/api/ask`, `/entry/{entry}/{version}`, `/attempt/{attempt}`, `/quiz/{quiz}/grades.txt` and `/quiz/{quiz}/grades.csv`; the target is taken
-- as it stands
abbrev pub way_of : List ℕ → Way
way_of target =
    if bytes_eq target (codes "/api/ask") then ask
    else below (codes "/entry/") two_parameters target
    (below (codes "/attempt/") one_parameter target (below (codes "/quiz/") report_below target nowhere))

-- what a reader of the code answers
abbrev pub IsPath : Way → Path → Type 0
IsPath way path.Nowhere = way ≡ nowhere
IsPath way path.Ask = way ≡ ask
IsPath way (path.Entry first second) = way ≡ entry first.now second.now
IsPath way (path.Page attempt) = way ≡ page attempt.now
IsPath way (path.TextReport quiz) = way ≡ text_report quiz.now
IsPath way (path.CsvReport quiz) = way ≡ csv_report quiz.now
