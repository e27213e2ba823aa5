-- How lines are answered that ask again.
use Rattle.std.specs.Prelude.{◌≡◌, ℕ, ◌<◌, ◌≤◌, is_some, true, List, slice_get, Some}
use Rattle.qz_outside.specs.Causes.{HasRisen}
use Rattle.qz_terms.specs.declared.ask.Ask.{Ask}
use Rattle.qz_terms.specs.declared.reply.Done.{Done}
use Rattle.qz_terms.specs.declared.reply.Reply.{Reply}
use Rattle.qz_terms.specs.declared.reply.Reply.TheVariants as reply
use Rattle.qz_terms.specs.Serial.{Asking, Goes, Line, Lists, Unread}
use Rattle.qz_serial.specs.Once.{AskedOnce, IsSaidAgain}
use Rattle.qz_serial.specs.Standing.{StandsIn}
use Rattle.qz_wire.specs.Asking.{CanBeAsked}

-- whatever a line or a link can ask may be asked
pub record TakesLines (takes : ℕ → Ask → Type 0) : Type 0 where
  pub taken : (now : ℕ) (ask : Ask) → CanBeAsked ask now → takes now ask

-- what is seen of a desk: its lists, and how many requests were refused because a keeper of them failed
pub record Seen : Type 0 where
  pub lists : Lists
  pub faults : ℕ

-- A request acts once, and the count of faults never falls: it rises where a keeper is said to have failed.
pub record IsServedOnce (a b : Seen) (now : ℕ) (ask : Ask) (r : Reply) : Type 0 where
  pub once : AskedOnce (HasRisen a.faults b.faults) a.lists b.lists now ask r
  pub later : a.faults ≤ b.faults

-- each request to a desk with these lists and this count is answered so
pub record AnswersOnce {D : Type 0} (lists : D → Lists) (faults : D → ℕ) (answers : D → D → ℕ → Ask → Reply → Type 0) : Type 0 where
  pub once : (a b : D) (now : ℕ) (ask : Ask) (r : Reply) → answers a b now ask r → AskedOnce (HasRisen (faults a) (faults b)) (lists a) (lists b) now ask r
  pub later : (a b : D) (now : ℕ) (ask : Ask) (r : Reply) → answers a b now ask r → faults a ≤ faults b

-- so a line is answered
abbrev pub GoesOnce : Seen → Seen → Line → Reply → Type 0
GoesOnce a b (Unread place rule) r = Goes a.lists b.lists (Unread place rule) r × (b.faults ≡ a.faults)
GoesOnce a b (Asking now ask) r = IsServedOnce a b now ask r

-- ---- of lines in turn

-- this line asks, with a key, and was accepted
pub record IsAccepted (lines : List Line) (replies : List Reply) (n : ℕ) (ask : Ask) (told : Reply) : Type 0 where
  pub now : ℕ
  pub place : ℕ
  pub done : Done
  pub line : slice_get lines n ≡ Some (Asking now ask)
  pub keyed : is_some ask.key ≡ true
  pub accepted : told ≡ reply.Ok place done
  pub reply : slice_get replies n ≡ Some told

-- Each later line that asks the same again, by the same caller with the same key, is told the same again.
pub record ActOnce (lines : List Line) (replies : List Reply) : Type 0 where
  pub again : (n m now : ℕ) (ask : Ask) (told r : Reply) → n < m → IsAccepted lines replies n ask told → slice_get lines m ≡ Some (Asking now ask) → slice_get replies m ≡ Some r → IsSaidAgain told r

-- each accepted request stands in the lists
pub record AllStand (b : Lists) (lines : List Line) (replies : List Reply) : Type 0 where
  pub stands : (n : ℕ) (ask : Ask) (told : Reply) → IsAccepted lines replies n ask told → StandsIn b ask told
