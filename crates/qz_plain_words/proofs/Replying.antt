-- The words of refusals, and of replies without a text.
use Rattle.std.proofs.Common.{◌≡◌, ℕ, true, false, List, [], ◌∷◌, ◌++◌, Option, Some, None, ℤ, map, decimal, codes, refl}
use Rattle.std.specs.List.{list_all}
use Rattle.qz_grading.specs.declared.refusal.AttemptId.{AttemptId}
use Rattle.qz_grading.specs.declared.refusal.Refusal.{Refusal}
use Rattle.qz_grading.specs.declared.refusal.Refusal.TheVariants as refusal
use Rattle.qz_grading.specs.Words.{grade_text, mark_text}
use Rattle.qz_terms.specs.declared.record.How.{How}
use Rattle.qz_terms.specs.declared.record.How.TheVariants as how
use Rattle.qz_terms.specs.declared.reply.Done.{Done}
use Rattle.qz_terms.specs.declared.reply.Done.TheVariants as done
use Rattle.qz_terms.specs.declared.reply.Row.{Row}
use Rattle.qz_terms.specs.declared.reply.Shown.{Shown}
use Rattle.qz_terms.specs.declared.reply.Shown.TheVariants as shown
use Rattle.qz_terms.specs.declared.reply.Status.{Status}
use Rattle.qz_terms.specs.declared.reply.Status.TheVariants as status
use Rattle.qz_pages.specs.Shown.{shown_words}
use Rattle.qz_wire.specs.Refusals.{refusal_list, thing_number}
use Rattle.qz_replies.specs.Replies.{attempt_or_dash, done_list, grade_or_dash, how_word, moment_word, row_word, status_word}
use Rattle.qz_plain_words.specs.Plain.{PlainWordsStand, holds_text}
use Rattle.qz_plain_words.proofs.Words.{as_it_is, attempt-word, behaviour-word, decimal-word, each-stands, grade-word, is_word, kind-word, mark-word, state-word, word-all, word-append}

shown-word : {A : Type 0} (spelling : A → List ℕ) → ((x : A) → is_word (spelling x) ≡ true) → (s : Shown A) → is_word (shown_words spelling s) ≡ true
shown-word spelling each shown.None = refl
shown-word spelling each shown.Hidden = refl
shown-word spelling each (shown.Value x) = each x

moment-word : (m : Option ℕ) → is_word (moment_word m) ≡ true
moment-word None = refl
moment-word (Some moment) = decimal-word moment

attempt_or_dash-word : (a : Option AttemptId) → is_word (attempt_or_dash a) ≡ true
attempt_or_dash-word None = refl
attempt_or_dash-word (Some a) = attempt-word a

grade_or_dash-word : (g : Option ℤ) → is_word (grade_or_dash g) ≡ true
grade_or_dash-word None = refl
grade_or_dash-word (Some g) = grade-word g

row-word : (r : Row) → is_word (row_word r) ≡ true
row-word r = word-append (decimal r.user) (codes ":" ++ grade_or_dash r.grade) (decimal-word r.user) (word-all (grade_or_dash r.grade) (grade_or_dash-word r.grade))

how-word : (h : How) → is_word (how_word h) ≡ true
how-word how.Finished = refl
how-word how.Abandoned = refl

status-word : (s : Status) → is_word (status_word s) ≡ true
status-word status.Live = refl
status-word status.Finished = refl
status-word status.Abandoned = refl

rows-words : (rs : List Row) → list_all is_word (map row_word rs) ≡ true
rows-words [] = refl
rows-words (r ∷ rs) = rw (row-word r, rows-words rs) refl

-- ---- all words

refusal-words : (r : Refusal) → list_all is_word (refusal_list r) ≡ true
refusal-words (refusal.Malformed place rule) = rw (decimal-word place, decimal-word rule) refl
refusal-words refusal.UnknownToken = refl
refusal-words (refusal.Forbidden rule) = rw (decimal-word rule) refl
refusal-words (refusal.Unknown what) = rw (decimal-word (thing_number what)) refl
refusal-words (refusal.KeyReused place) = rw (decimal-word place) refl
refusal-words (refusal.NotOpen opens) = rw (decimal-word opens) refl
refusal-words (refusal.Late due) = rw (decimal-word due) refl
refusal-words (refusal.Closed place) = rw (decimal-word place) refl
refusal-words (refusal.NoAttemptsLeft allowed) = rw (decimal-word allowed) refl
refusal-words (refusal.Unfinished attempt) = rw (attempt-word attempt) refl
refusal-words (refusal.WrongAction b) = rw (behaviour-word b) refl
refusal-words (refusal.SlotEnded s) = rw (state-word s) refl
refusal-words refusal.NeedsTryAgain = refl
refusal-words refusal.Misfit = refl
refusal-words (refusal.OutOfRange max) = rw (mark-word max) refl
refusal-words refusal.NotFinished = refl
refusal-words (refusal.Incompatible bound newer) = rw (kind-word bound.kind, decimal-word bound.first, decimal-word bound.second, kind-word newer.kind, decimal-word newer.first, decimal-word newer.second) refl
refusal-words (refusal.TooMany limit) = rw (decimal-word limit) refl
refusal-words refusal.KeepFault = refl
refusal-words refusal.Memory = refl

marked : (m : Shown ℤ) → is_word (shown_words mark_text m) ≡ true
marked m = shown-word mark_text mark-word m

graded : (g : Shown ℤ) → is_word (shown_words grade_text g) ≡ true
graded g = shown-word grade_text grade-word g

done-words : (d : Done) → holds_text d ≡ false → list_all is_word (done_list d) ≡ true
done-words (done.Made number) plain = rw (decimal-word number) refl
done-words done.Done plain = refl
done-words (done.Imported first count) plain = rw (decimal-word first, decimal-word count) refl
done-words (done.Version entry version) plain = rw (decimal-word entry, decimal-word version) refl
done-words (done.Slot number) plain = rw (decimal-word number) refl
done-words (done.Job number) plain = rw (decimal-word number) refl
done-words (done.Started attempt slots due) plain = rw (attempt-word attempt, decimal-word slots, moment-word due) refl
done-words (done.Stepped s mark) plain = rw (state-word s, marked mark) refl
done-words (done.Same s mark) plain = rw (state-word s, marked mark) refl
done-words (done.Finished total) plain = rw (marked total) refl
done-words (done.Marked s mark) plain = rw (state-word s, marked mark) refl
done-words (done.Rebound attempt slot s mark) plain = rw (attempt-word attempt, decimal-word slot, state-word s, marked mark) refl
done-words (done.Skipped attempt slot bound newer) plain = rw (attempt-word attempt, decimal-word slot, kind-word bound.kind, decimal-word bound.first, decimal-word bound.second, kind-word newer.kind, decimal-word newer.first, decimal-word newer.second) refl
done-words (done.JobDone job) plain = rw (decimal-word job) refl
done-words (done.AlreadyDone job) plain = rw (decimal-word job) refl
done-words (done.Settled attempt h) plain = rw (attempt-word attempt, how-word h) refl
done-words done.Idle plain = refl
done-words (done.Live attempt) plain = rw (attempt_or_dash-word attempt) refl
done-words (done.Jobs count) plain = rw (decimal-word count) refl
done-words (done.SlotView s mark version steps) plain = rw (state-word s, marked mark, decimal-word version, decimal-word steps) refl
done-words (done.Attempt s total due) plain = rw (status-word s, marked total, moment-word due) refl
done-words (done.Page attempt quiz due parts) plain = absurd cc
done-words (done.Grade grade) plain = rw (graded grade) refl
done-words (done.Report rows) plain = rows-words rows
done-words (done.Gift question) plain = absurd cc

pub plain_law : PlainWordsStand
plain_law = record {
  places = λ n. as_it_is (decimal n) (decimal-word n);
  refusals = λ r. each-stands (refusal_list r) (refusal-words r);
  others = λ d plain. each-stands (done_list d) (done-words d plain);
}
