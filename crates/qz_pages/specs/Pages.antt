-- An attempt as a page of HTML.
use Rattle.std.specs.Prelude.{ℕ, Bool, true, false, List, [], ◌∷◌, ◌++◌, Option, Some, None, if◌then◌else◌, map, flat_map, codes}
use Rattle.qz_text.specs.Html.{html_of}
use Rattle.qz_grading.specs.declared.refusal.AttemptId.{AttemptId}
use Rattle.qz_grading.specs.Words.{attempt_word, mark_text, state_word}
use Rattle.qz_terms.specs.declared.reply.Done.{Done}
use Rattle.qz_terms.specs.declared.reply.Done.TheVariants as done
use Rattle.qz_terms.specs.declared.reply.Part.{Part}
use Rattle.qz_terms.specs.Parts.{nonempty, shows_feedback}
use Rattle.qz_pages.specs.Dates.{due_text}
use Rattle.qz_pages.specs.Shown.{shown_words}

-- what stands between the tags of a paragraph
abbrev pub paragraph : List ℕ → List ℕ
paragraph html = codes "<p>" ++ html ++ codes "</p>"

-- a paragraph for a text that isn't empty
abbrev pub feedback_html : List ℕ → List ℕ
feedback_html text = if nonempty text then paragraph (html_of text) else []

abbrev pub hint_html : Option (List ℕ) → List ℕ
hint_html None = []
hint_html (Some hint) = paragraph (codes "Hint: " ++ html_of hint)

-- the feedbacks and the general feedback, under a state that is graded or that a teacher gave
abbrev pub feedbacks_html : Part → List ℕ
feedbacks_html p = if shows_feedback p.state then flat_map feedback_html p.feedback ++ feedback_html p.general else []

abbrev pub standing_html : Part → List ℕ
standing_html p = paragraph (state_word p.state ++ codes " " ++ shown_words mark_text p.mark)

abbrev pub slot_line : Part → List ℕ
slot_line p =
    codes "<li><pre>" ++ html_of p.text ++ codes "</pre>" ++ standing_html p
    ++ hint_html p.hint ++ feedbacks_html p ++ codes "</li>"

abbrev pub title_line : List ℕ → List ℕ
title_line quiz = codes "<title>" ++ html_of quiz ++ codes "</title>"

abbrev pub heading_line : AttemptId → List ℕ → List ℕ
heading_line attempt quiz = codes "<h1>" ++ html_of quiz ++ codes ": attempt " ++ attempt_word attempt ++ codes "</h1>"

abbrev pub due_line : Option ℕ → List ℕ
due_line due = paragraph (codes "Due " ++ due_text due)

abbrev pub slot_lines : List Part → List (List ℕ)
slot_lines parts = codes "<ol>" ∷ (map slot_line parts ++ codes "</ol>" ∷ [])

-- lines, each with the line feed that ends it
abbrev pub ended : List (List ℕ) → List ℕ
ended lines = flat_map (λ (line : List ℕ). line ++ codes "\n") lines

-- the page that an answer has
abbrev pub page_text : Done → List ℕ
page_text (done.Page attempt quiz due parts) =
    ended (codes "<!doctype html>" ∷ title_line quiz ∷ heading_line attempt quiz ∷ due_line due ∷ slot_lines parts)
page_text d = []

abbrev pub is_page : Done → Bool
is_page (done.Page attempt quiz due parts) = true
is_page d = false
