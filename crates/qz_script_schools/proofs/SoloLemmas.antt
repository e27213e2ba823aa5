-- A school in memory takes what is read, answers once, and no keeper of its lists fails.
use Rattle.std.proofs.Common.{◌≤◌, ℕ, List, [], None, Some, Option, IfSome, length, arith}
use Rattle.std.specs.Prelude.{unwrap_or}
use Rattle.qz_outside.specs.Causes.{HasRisen}
use Rattle.qz_serial.specs.Once.{AskedOnce}
use Rattle.qz_school.specs.Answering.{MayBeAsked}
use Rattle.qz_terms.specs.declared.ask.Ask.{Ask}
use Rattle.qz_terms.specs.declared.reply.Reply.{Reply}
use Rattle.qz_terms.specs.Serial.{Lists}
use Rattle.qz_wire.specs.Asking.{CanBeAsked}
use Rattle.qz_wire.specs.Brief.{IsBriefToken}
use Rattle.qz_script.specs.Retries.{AnswersOnce, TakesLines}

brief-key : (key : Option (List ℕ)) → IfSome key IsBriefToken → length (unwrap_or key []) ≤ 64
brief-key None brief = omega arith
brief-key (Some key) brief = brief.1

may-be : (now : ℕ) (ask : Ask) → CanBeAsked ask now → MayBeAsked ask now
may-be now ask can = record { keyed = can.keyed; kept = can.kept; described = can.described; moment_kept = can.moment_kept; brief = brief-key ask.key can.brief.key; names = can.brief.names }

-- whatever a line or a link can ask may be asked of a school
pub takes_lines : TakesLines (λ now ask. MayBeAsked ask now)
takes_lines = record { taken = may-be }

asked_once : (a b : Lists) (now : ℕ) (ask : Ask) (r : Reply) → AskedOnce ⊥ a b now ask r → AskedOnce (HasRisen 0 0) a b now ask r
asked_once a b now ask r o = record { asks = o.asks; cause = λ said. absurd (o.cause said); stands = o.stands; stays = o.stays; again = o.again }

pub solo_answers_once : AnswersOnce (λ (a : Lists). a) (λ (a : Lists). 0) (AskedOnce ⊥)
solo_answers_once = record { once = asked_once; later = λ a b now ask r o. omega arith }
