-- A large school in memory: what is asked to make it, and what is told of it.
use Rattle.std.specs.Prelude.{ℕ, ◌+◌, ◌*◌, ◌%◌, ◌==◌, if◌then◌else◌, List, [], ◌∷◌, ◌++◌, ℤ, map, flat_map, fold, length, replicate, Option, Some, None, codes, decimal}
use Rattle.std.specs.Io.KnownBytes.{Appends, Keeps}
use Rattle.qz_ending.specs.declared.stop.Stop.{Stop}
use Rattle.qz_ending.specs.declared.stop.Stop.TheVariants as stop
use Rattle.qz_grading.specs.declared.refusal.AttemptId.{AttemptId}
use Rattle.qz_grading.specs.Words.{mark_text}
use Rattle.qz_outside.specs.Causes.{HasRisen}
use Rattle.qz_outside.specs.Sources.{AppendsFront}
use Rattle.qz_terms.specs.declared.record.Record.{Record}
use Rattle.qz_terms.specs.Lists.{places_to}
use Rattle.qz_terms.specs.Rows.{sum_of}
use Rattle.qz_terms.specs.Serial.{Asking, Line, Lists, Unread, lists_over, part_list}
use Rattle.qz_solo.specs.Marks.{marks_of}
use Rattle.qz_solo.specs.Memory.{founded_lists}
use Rattle.qz_wire.specs.Asking.{ask_of}
use Rattle.qz_wire.specs.Lines.{newline}
use Rattle.qz_wire.specs.Words.{words_of}
use Rattle.qz_script.specs.ScriptLines.{item_by}

-- ---- what is asked, all at the moment 1000

-- student i, with the token s1, s2, ..
abbrev pub user_line : ℕ → List ℕ
user_line i = codes "1000 root u" ++ (decimal i ++ (codes " user s" ++ (decimal i ++ (codes " student s" ++ decimal i))))

-- ten questions of which true is right
abbrev pub import_line : List ℕ
import_line =
    codes "1000 root bank import "
    ++ codes "Bulk\\s1\\s{T}\\n\\nBulk\\s2\\s{T}\\n\\nBulk\\s3\\s{T}\\n\\nBulk\\s4\\s{T}\\n\\nBulk\\s5\\s{T}\\n\\n"
    ++ codes "Bulk\\s6\\s{T}\\n\\nBulk\\s7\\s{T}\\n\\nBulk\\s8\\s{T}\\n\\nBulk\\s9\\s{T}\\n\\nBulk\\s10\\s{T}"

-- slot k asks question k for a max mark of 1
abbrev pub slot_line : ℕ → List ℕ
slot_line k = codes "1000 root slot" ++ (decimal k ++ (codes " slot 1 " ++ (decimal k ++ codes " 1")))

abbrev pub quiz_lines : List (List ℕ)
quiz_lines =
    import_line ∷ codes "1000 root quiz quiz Bulk deferredfeedback"
    ∷ (map slot_line (places_to 10) ++ codes "1000 root ready ready 1" ∷ [])

-- student i is user i + 1, behind the manager, and starts once
abbrev pub attempt_of : ℕ → AttemptId
attempt_of i = record { user = i + 1; nth = 1 }

-- false where i + k is divisible by 3, and else true
abbrev pub picked : ℕ → ℕ → ℕ
picked i k = if (i + k) % 3 == 0 then 2 else 1

abbrev pub start_line : ℕ → List ℕ
start_line i = codes "1000 s" ++ (decimal i ++ codes " start start 1")

abbrev pub save_line : ℕ → ℕ → List ℕ
save_line i k =
    codes "1000 s" ++ (decimal i ++ (codes " save" ++ (decimal k ++ (codes " save " ++ (decimal (i + 1)
    ++ (codes ".1 " ++ (decimal k ++ (codes " 0 pick:" ++ decimal (picked i k)))))))))

abbrev pub finish_line : ℕ → List ℕ
finish_line i = codes "1000 s" ++ (decimal i ++ (codes " finish finish " ++ (decimal (i + 1) ++ codes ".1")))

-- what student i asks
abbrev pub student_lines : ℕ → List (List ℕ)
student_lines i = start_line i ∷ (map (save_line i) (places_to 10) ++ finish_line i ∷ [])

-- the users, the quiz, and one student after the other
abbrev pub bulk_lines : ℕ → List (List ℕ)
bulk_lines n = map user_line (places_to n) ++ (quiz_lines ++ flat_map student_lines (places_to n))

-- ---- then the first question is corrected, and false is right

abbrev pub edit_line : List ℕ
edit_line = codes "1000 root edit edit 1 Bulk\\s1\\s{F}"

abbrev pub regrade_line : List ℕ
regrade_line = codes "1000 root regrade regrade 1"

abbrev pub work_line : List ℕ
work_line = codes "1000 root - work 1 0"

-- a step of the job for each slot of each attempt, and one more, with which it is done
abbrev pub work_lines : ℕ → List (List ℕ)
work_lines n = replicate (10 * n + 1) work_line

abbrev pub regrade_lines : ℕ → List (List ℕ)
regrade_lines n = edit_line ∷ regrade_line ∷ work_lines n

-- ---- what comes of it

-- the moment and the request of a line
abbrev pub asked_by : List ℕ → Line
asked_by line = item_by (ask_of (words_of line))

-- the lists that the answer leaves, where memory isn't wanting; a line without a reading changes nothing
abbrev pub after_asking : Lists → Line → Lists
after_asking a (Unread place rule) = a
after_asking a (Asking now ask) = lists_over a now ask

abbrev pub after_line : Lists → List ℕ → Lists
after_line a line = after_asking a (asked_by line)

-- the school of so many students, founded with one shard and this token of the manager
abbrev pub school_of : ℕ → Lists
school_of n = fold after_line (founded_lists 1 (codes "root")) (bulk_lines n)

-- and behind the regrade
abbrev pub regraded : ℕ → Lists
regraded n = fold after_line (school_of n) (regrade_lines n)

-- the marks of the attempts of so many students
abbrev pub all_marks : List Record → ℕ → List ℤ
all_marks h n = flat_map (λ i. marks_of h (attempt_of i)) (places_to n)

abbrev pub mark_sum : Lists → ℕ → ℤ
mark_sum a n = sum_of (all_marks (part_list a 0) n)

-- how many students there are, how many records catalogue and shard have, and two sums
abbrev pub told_text : ℕ → ℕ → ℕ → List ℕ → List ℕ → List ℕ
told_text n records steps before after =
    codes "students " ++ (decimal n ++ (codes "\nrecords " ++ (decimal records
    ++ (codes " " ++ (decimal steps ++ (codes "\nsum " ++ (before ++ (codes " " ++ (after ++ newline)))))))))

-- what is told of a school whose marks had this sum before the edit
abbrev pub school_text : ℕ → ℤ → Lists → List ℕ
school_text n before a = told_text n (length a.records.list) (length (part_list a 0)) (mark_text before) (mark_text (mark_sum a n))

-- of the lists at the end, and of the sums before the edit and at the end
abbrev pub bulk_text : ℕ → List ℕ
bulk_text n = school_text n (mark_sum (school_of n) n) (regraded n)

-- ---- how it ends

-- with want of memory nothing was written
abbrev pub BulkEnds : ℕ → Option (List ℕ) → Option (List ℕ) → ℕ → ℕ → Option Stop → Type 0
BulkEnds n old new before now None = Appends old new (bulk_text n)
BulkEnds n old new before now (Some stop.SinkFault) = AppendsFront old new (bulk_text n) × HasRisen before now
BulkEnds n old new before now (Some stop.Memory) = Keeps old new
BulkEnds n old new before now (Some s) = ⊥
