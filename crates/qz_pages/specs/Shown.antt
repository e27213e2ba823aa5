-- How what is shown is spelled.
use Rattle.std.specs.Prelude.{ℕ, List, Option, Some, None, ℤ, codes}
use Rattle.qz_grading.specs.Words.{grade_text}
use Rattle.qz_terms.specs.declared.reply.Shown.{Shown}
use Rattle.qz_terms.specs.declared.reply.Shown.TheVariants as shown

-- a dash where there is none
abbrev pub shown_words : {A : Type 0} → (A → List ℕ) → Shown A → List ℕ
shown_words spelling shown.None = codes "-"
shown_words spelling shown.Hidden = codes "hidden"
shown_words spelling (shown.Value x) = spelling x

abbrev pub grade_or : List ℕ → Option ℤ → List ℕ
grade_or nothing None = nothing
grade_or nothing (Some grade) = grade_text grade
