-- One who asks a school and notes what is asked.
use Rattle.std.specs.Prelude.{◌≡◌, ℕ, List, [], ◌∷◌, ◌++◌, length}
use Rattle.qz_grading.specs.declared.refusal.Refusal.TheVariants as refusal
use Rattle.qz_terms.specs.declared.ask.Ask.{Ask}
use Rattle.qz_terms.specs.declared.reply.Reply.{Reply}
use Rattle.qz_terms.specs.declared.reply.Reply.TheVariants as reply
use Rattle.qz_visit.specs.Visits.{Asked, Holder, Visitor, seen_in}
use Rattle.qz_gather.specs.declared.note.Note.{Note}
use Rattle.qz_gather.specs.Notes.{AreTrueOf, Notes}

-- one who asks a school, and the notes of all that was asked, the first one first
pub record Clerk : Type 0 where
  pub visit : Visitor
  pub notes : List Note

-- the passes of one who asked a school, and these notes
pub record Book : Type 0 where
  pub passes : Holder
  pub notes : List Note

-- a number is kept for each shard
abbrev pub CountsEach : Visitor → Type 0
CountsEach v = length v.last.parts ≡ length v.passes.parts

-- each note is true of what the passes see
pub record IsKept (v : Visitor) (notes : List Note) : Type 0 where
  pub counts : CountsEach v
  pub true_of : AreTrueOf (seen_in v.passes) notes

-- Where there is no room for its note a request isn't asked, and memory is said to be wanting. Else the school is asked as by anyone, and one note
-- more tells what was asked and what it came to.
pub data Answers (a b : Clerk) (now : ℕ) (ask : Ask) (told : Reply) : Type 0 where
  unasked : b ≡ a → told ≡ reply.Refused refusal.Memory → Answers a b now ask told
  noted : (n : Note) → b.visit.school ≡ a.visit.school → Asked a.visit.passes b.visit.passes b.visit.last now ask told → Notes b.visit.last now ask told n → b.notes ≡ a.notes ++ n ∷ [] → Answers a b now ask told
