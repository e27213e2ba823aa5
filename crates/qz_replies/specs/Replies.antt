-- What is said of a reply: its words, one by one and without escapes, and its line.
use Rattle.std.specs.Prelude.{ℕ, List, [], ◌∷◌, ◌++◌, Option, Some, None, ℤ, map, decimal, codes}
use Rattle.qz_grading.specs.declared.outcome.State.{State}
use Rattle.qz_grading.specs.declared.refusal.AttemptId.{AttemptId}
use Rattle.qz_grading.specs.Canonical.{canonical_question}
use Rattle.qz_grading.specs.Words.{attempt_word, grade_text, mark_text, state_word}
use Rattle.qz_terms.specs.declared.record.How.TheVariants as how
use Rattle.qz_terms.specs.declared.record.How.{How}
use Rattle.qz_terms.specs.declared.reply.Done.TheVariants as done
use Rattle.qz_terms.specs.declared.reply.Done.{Done}
use Rattle.qz_terms.specs.declared.reply.Reply.TheVariants as reply
use Rattle.qz_terms.specs.declared.reply.Reply.{Reply}
use Rattle.qz_terms.specs.declared.reply.Row.{Row}
use Rattle.qz_terms.specs.declared.reply.Shown.{Shown}
use Rattle.qz_terms.specs.declared.reply.Status.TheVariants as status
use Rattle.qz_terms.specs.declared.reply.Status.{Status}
use Rattle.qz_pages.specs.Pages.{page_text}
use Rattle.qz_pages.specs.Shown.{shown_words}
use Rattle.qz_wire.specs.Lines.{newline}
use Rattle.qz_wire.specs.Refusals.{refused_words, shape_list}
use Rattle.qz_wire.specs.Spaced.{behind}

-- ---- values

abbrev pub moment_word : Option ℕ → List ℕ
moment_word None = codes "-"
moment_word (Some moment) = decimal moment

abbrev pub attempt_or_dash : Option AttemptId → List ℕ
attempt_or_dash None = codes "-"
attempt_or_dash (Some a) = attempt_word a

abbrev pub grade_or_dash : Option ℤ → List ℕ
grade_or_dash None = codes "-"
grade_or_dash (Some g) = grade_text g

abbrev pub how_word : How → List ℕ
how_word how.Finished = codes "finished"
how_word how.Abandoned = codes "abandoned"

abbrev pub status_word : Status → List ℕ
status_word status.Live = codes "live"
status_word status.Finished = codes "finished"
status_word status.Abandoned = codes "abandoned"

-- `USER:GRADE`
abbrev pub row_word : Row → List ℕ
row_word r = decimal r.user ++ (codes ":" ++ grade_or_dash r.grade)

-- ---- words

-- the state and the mark of a slot
abbrev pub standing_list : State → Shown ℤ → List (List ℕ)
standing_list state mark = state_word state ∷ shown_words mark_text mark ∷ []

-- an attempt and one of its slots
abbrev pub slot_list : AttemptId → ℕ → List (List ℕ)
slot_list attempt slot = attempt_word attempt ∷ decimal slot ∷ []

-- the words behind the place
abbrev pub done_list : Done → List (List ℕ)
done_list (done.Made number) = codes "made" ∷ decimal number ∷ []
done_list done.Done = codes "done" ∷ []
done_list (done.Imported first count) = codes "imported" ∷ decimal first ∷ decimal count ∷ []
done_list (done.Version entry version) = codes "version" ∷ decimal entry ∷ decimal version ∷ []
done_list (done.Slot number) = codes "slot" ∷ decimal number ∷ []
done_list (done.Job number) = codes "job" ∷ decimal number ∷ []
done_list (done.Started attempt slots due) = codes "started" ∷ attempt_word attempt ∷ decimal slots ∷ moment_word due ∷ []
done_list (done.Stepped state mark) = codes "step" ∷ standing_list state mark
done_list (done.Same state mark) = codes "same" ∷ standing_list state mark
done_list (done.Finished total) = codes "finished" ∷ shown_words mark_text total ∷ []
done_list (done.Marked state mark) = codes "marked" ∷ standing_list state mark
done_list (done.Rebound attempt slot state mark) = codes "rebound" ∷ slot_list attempt slot ++ standing_list state mark
done_list (done.Skipped attempt slot bound newer) = codes "skipped" ∷ slot_list attempt slot ++ shape_list bound ++ shape_list newer
done_list (done.JobDone job) = codes "jobdone" ∷ decimal job ∷ []
done_list (done.AlreadyDone job) = codes "alreadydone" ∷ decimal job ∷ []
done_list (done.Settled attempt h) = codes "settled" ∷ attempt_word attempt ∷ how_word h ∷ []
done_list done.Idle = codes "idle" ∷ []
done_list (done.Live attempt) = codes "live" ∷ attempt_or_dash attempt ∷ []
done_list (done.Jobs count) = codes "jobs" ∷ decimal count ∷ []
done_list (done.SlotView state mark version steps) = codes "slot" ∷ standing_list state mark ++ decimal version ∷ decimal steps ∷ []
done_list (done.Attempt s total due) = codes "attempt" ∷ status_word s ∷ shown_words mark_text total ∷ moment_word due ∷ []
done_list (done.Page attempt quiz due parts) = codes "page" ∷ page_text (done.Page attempt quiz due parts) ∷ []
done_list (done.Grade grade) = codes "grade" ∷ shown_words grade_text grade ∷ []
done_list (done.Report rows) = codes "report" ∷ map row_word rows
done_list (done.Gift question) = codes "gift" ∷ canonical_question question ∷ []

-- ---- the line

abbrev pub reply_words : Reply → List ℕ
reply_words (reply.Ok place d) = codes "ok " ++ decimal place ++ behind (done_list d)
reply_words (reply.Refused r) = codes "refused " ++ refused_words r

abbrev pub reply_line : Reply → List ℕ
reply_line r = reply_words r ++ newline
