-- What one request comes to in the lists of a school, of which records may be in doubt.
use Rattle.std.specs.Prelude.{◌≡◌, ℕ, ◌<◌, true, is_some, length}
use Rattle.qz_grading.specs.declared.refusal.Refusal.TheVariants as refusal
use Rattle.qz_terms.specs.declared.ask.Ask.{Ask}
use Rattle.qz_terms.specs.declared.reply.Done.{Done}
use Rattle.qz_terms.specs.declared.reply.Reply.{Reply}
use Rattle.qz_terms.specs.declared.reply.Reply.TheVariants as reply
use Rattle.qz_terms.specs.Cause.{is_keyed}
use Rattle.qz_terms.specs.Serial.{AllMended, Asks, Lists}
use Rattle.qz_serial.specs.Standing.{StandsIn}

-- what was said before; or a keeper failed, or memory was wanting
pub data IsSaidAgain (told r : Reply) : Type 0 where
  same : r ≡ told → IsSaidAgain told r
  unkept : r ≡ reply.Refused refusal.KeepFault → IsSaidAgain told r
  unsaid : r ≡ reply.Refused refusal.Memory → IsSaidAgain told r

-- A request comes to what it may, and a keeper is said to have failed only where one did. Accepted with a key the request stands in the
-- lists from then on; what stood in them goes on standing; and what stood in them already is said again, and nothing is added but by
-- mending.
pub record AskedOnce (failed : Type 0) (a b : Lists) (now : ℕ) (ask : Ask) (r : Reply) : Type 0 where
  pub asks : Asks a b now ask r
  pub cause : r ≡ reply.Refused refusal.KeepFault → failed
  pub stands : (place : ℕ) (d : Done) → is_some ask.key ≡ true → r ≡ reply.Ok place d → StandsIn b ask r
  pub stays : (x : Ask) (told : Reply) → StandsIn a x told → StandsIn b x told
  pub again : (told : Reply) → StandsIn a ask told → IsSaidAgain told r × AllMended a b

-- Whatever a request comes to that has a key where it has to, it acts once.
pub record ActsOnceInLists (failed : Type 0) : Type 0 where
  pub once : (a b : Lists) (now : ℕ) (ask : Ask) (r : Reply) → 0 < length a.parts → is_keyed ask ≡ true → Asks a b now ask r → (r ≡ reply.Refused refusal.KeepFault → failed) → AskedOnce failed a b now ask r
