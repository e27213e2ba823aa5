-- A report through the lists of a school, by what the calls at its shards came to, one after the other.
use Rattle.std.specs.List.{AllZip}
use Rattle.std.specs.Prelude.{◌≡◌, ℕ, ◌+◌, ◌<◌, ◌≤◌, ℤ, List, Option, length, slice_get, slice_set, Some, None, Result, Ok, Err, MatchResult}
use Rattle.qz_grading.specs.declared.refusal.Refusal.{Refusal}
use Rattle.qz_grading.specs.declared.refusal.Refusal.TheVariants as refusal
use Rattle.qz_terms.specs.declared.ask.Ask.{Ask}
use Rattle.qz_terms.specs.declared.people.User.{User}
use Rattle.qz_terms.specs.declared.record.Record.{Record}
use Rattle.qz_terms.specs.declared.reply.Reply.{Reply}
use Rattle.qz_terms.specs.declared.reply.Reply.TheVariants as reply
use Rattle.qz_terms.specs.declared.request.Request.TheVariants as request
use Rattle.qz_terms.specs.SchoolAnswer.{refusal_among, report_answer}
use Rattle.qz_terms.specs.Serial.{Held, Lists, Mended, lists_of}
use Rattle.qz_keeper.specs.Lists.{Looks, OneCall}
use Rattle.qz_serial.specs.Once.{AskedOnce}
use Rattle.qz_serial.specs.Paths.{IsAskable, IsKnown}

-- Of the first so many lists none is in doubt any more, and the others are as they were.
pub record MendedUpTo (count : ℕ) (old new : List Held) : Type 0 where
  pub mends : AllZip Mended old new
  pub clear : (k : ℕ) (h : Held) → k < count → slice_get new k ≡ Some h → h.doubt ≡ None
  pub same : (k : ℕ) → count ≤ k → slice_get new k ≡ slice_get old k

-- with this catalogue and these lists of the shards
abbrev pub with_parts : Held → List Held → Lists
with_parts records parts = record { records = records; parts = parts }

-- a user who is known asks for the report of a quiz, and isn't refused
pub record IsReporting (a : Lists) (mended : Held) (ask : Ask) (user : User) (quiz : ℕ) : Type 0 where
  pub askable : IsAskable a ask
  pub known : IsKnown a mended ask user
  pub request_is : ask.request ≡ request.Report quiz
  pub among : refusal_among mended.list (length a.parts) user ask.request ≡ None

-- Each shard is mended and tells its rows, in order; the first that doesn't ends the report.
pub record ReportsAsk (failed : Type 0) : Type 0 where
  pub begin : (parts : List Held) → MendedUpTo 0 parts parts
  pub rows : (a : Lists) (mended held new : Held) (parts : List Held) (i now : ℕ) (ask : Ask) (user : User) (quiz : ℕ) (rows : List Record → List (ℕ × Option ℤ)) (told : Result (List (ℕ × Option ℤ)) Refusal)
      → IsReporting a mended ask user quiz → MendedUpTo i a.parts parts → slice_get parts i ≡ Some held → OneCall failed (λ r. Err r) (Looks (λ h t. t ≡ Ok (rows h))) held new told
      → MatchResult told (λ t. MendedUpTo (i + 1) a.parts (slice_set parts i new) × (t ≡ rows new.list)) (λ r. AskedOnce failed a (with_parts mended (slice_set parts i new)) now ask (reply.Refused r))
  pub wanting : (a : Lists) (mended : Held) (parts : List Held) (i now : ℕ) (ask : Ask) (user : User) (quiz : ℕ) → IsReporting a mended ask user quiz → MendedUpTo i a.parts parts
      → AskedOnce failed a (with_parts mended parts) now ask (reply.Refused refusal.Memory)
  pub told : (a : Lists) (mended : Held) (parts : List Held) (now : ℕ) (ask : Ask) (user : User) (quiz : ℕ) (told : Reply) → IsReporting a mended ask user quiz → MendedUpTo (length a.parts) a.parts parts
      → told ≡ report_answer mended.list (lists_of parts) quiz → AskedOnce failed a (with_parts mended parts) now ask told
