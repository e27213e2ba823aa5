-- What a refused request leaves of the lists of a school.
use Rattle.std.specs.Prelude.{◌≡◌, ◌≢◌, ℕ}
use Rattle.qz_grading.specs.declared.refusal.Refusal.{Refusal}
use Rattle.qz_grading.specs.declared.refusal.Refusal.TheVariants as refusal
use Rattle.qz_terms.specs.declared.ask.Ask.{Ask}
use Rattle.qz_terms.specs.declared.reply.Reply.TheVariants as reply
use Rattle.qz_terms.specs.Serial.{AllMended, Asks, KeepsUnread, Lists, lists_of}

-- the lists were mended, and hold what they held then; a record more may be in doubt
pub record HoldAsMended (a b : Lists) (ask : Ask) : Type 0 where
  pub mended : Lists
  pub mends : AllMended a mended
  pub keeps : KeepsUnread a mended ask
  pub records : b.records.list ≡ mended.records.list
  pub parts : lists_of b.parts ≡ lists_of mended.parts

-- A refused request leaves each list mended or as it was, and one that it doesn't read as it was. Where a keeper failed, a record more may be
-- in doubt.
pub record RefusedLeavesAll : Type 0 where
  pub leaves : (a b : Lists) (now : ℕ) (ask : Ask) (why : Refusal) → Asks a b now ask (reply.Refused why) → why ≢ refusal.KeepFault → AllMended a b × KeepsUnread a b ask
  pub fails : (a b : Lists) (now : ℕ) (ask : Ask) → Asks a b now ask (reply.Refused refusal.KeepFault) → HoldAsMended a b ask
