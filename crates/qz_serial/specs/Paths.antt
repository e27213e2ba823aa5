-- The ways that a request goes through the lists of a school, by what the calls at single lists came to.
use Rattle.std.specs.Prelude.{◌≡◌, ℕ, ◌<◌, Bool, true, false, not, ◌&&◌, List, length, slice_get, slice_set, Some, None, Result, Err, MatchResult}
use Rattle.qz_grading.specs.declared.refusal.Refusal.{Refusal}
use Rattle.qz_grading.specs.declared.refusal.Refusal.TheVariants as refusal
use Rattle.qz_terms.specs.declared.ask.Ask.{Ask}
use Rattle.qz_terms.specs.declared.people.Caller.TheVariants as caller
use Rattle.qz_terms.specs.declared.people.User.{User}
use Rattle.qz_terms.specs.declared.record.Record.{Record}
use Rattle.qz_terms.specs.declared.reply.Reply.{Reply}
use Rattle.qz_terms.specs.declared.reply.Reply.TheVariants as reply
use Rattle.qz_terms.specs.declared.request.Request.{Request}
use Rattle.qz_terms.specs.CatalogAnswer.{asks_catalog}
use Rattle.qz_terms.specs.SchoolAnswer.{part_of, refusal_among}
use Rattle.qz_terms.specs.Catalog.{user_of, user_of_token}
use Rattle.qz_terms.specs.Cause.{is_keyed}
use Rattle.qz_terms.specs.Serial.{Held, Lists, is_report}
use Rattle.qz_keeper.specs.Lists.{IsSettled, Looks, OneCall}
use Rattle.qz_serial.specs.Calls.{CatalogAnswers, ShardAnswers}
use Rattle.qz_serial.specs.Once.{AskedOnce}

-- ---- lists of which one or two are others

-- with another catalogue
abbrev pub with_records : Lists → Held → Lists
with_records a h = record { records = h; parts = a.parts }

-- with another list of this shard
abbrev pub with_part : Lists → ℕ → Held → Lists
with_part a k g = record { records = a.records; parts = slice_set a.parts k g }

-- with another catalogue, and another list of this shard
abbrev pub with_both : Lists → Held → ℕ → Held → Lists
with_both a h k g = record { records = h; parts = slice_set a.parts k g }

-- ---- what is asked

-- there is a shard, and the request has a key where it has to
pub record IsAskable (a : Lists) (ask : Ask) : Type 0 where
  pub shards : 0 < length a.parts
  pub keyed : is_keyed ask ≡ true

-- it goes to a shard, and to one alone
abbrev pub goes_to_part : Request → Bool
goes_to_part x = not (asks_catalog x) && not (is_report x)

-- A request of this user, that a catalogue doesn't refuse, goes to this shard of so many.
pub record IsGoing (c : List Record) (count : ℕ) (ask : Ask) (user : User) (k : ℕ) : Type 0 where
  pub goes : goes_to_part ask.request ≡ true
  pub found : user_of c ask.caller ≡ Some user
  pub among : refusal_among c count user ask.request ≡ None
  pub part : part_of count user ask.request ≡ k

-- ---- the requests of users with a token

-- what is said of a token over a catalogue: whose it is, or that it is nobody's
abbrev pub FindsUser : List ℕ → List Record → Result User Refusal → Type 0
FindsUser token c told = MatchResult told (λ user. user_of_token c token ≡ Some user) (λ r. (r ≡ refusal.UnknownToken) × (user_of_token c token ≡ None))

-- The catalogue, of which no record is in doubt any more, knows the user with the token.
pub record IsKnown (a : Lists) (mended : Held) (ask : Ask) (user : User) : Type 0 where
  pub token : List ℕ
  pub caller_is : ask.caller ≡ caller.Token token
  pub settled : IsSettled a.records mended
  pub found : user_of mended.list ask.caller ≡ Some user

-- The catalogue is mended first, and finds the user. Then it answers what goes to it, and refuses what it may; and what goes to a shard, that
-- shard alone is mended for and answers.
pub record TokensAsk (failed : Type 0) : Type 0 where
  pub user : (a : Lists) (mended : Held) (now : ℕ) (ask : Ask) (token : List ℕ) (told : Result User Refusal) → IsAskable a ask → ask.caller ≡ caller.Token token
      → OneCall failed (λ r. Err r) (Looks (FindsUser token)) a.records mended told → MatchResult told (IsKnown a mended ask) (λ r. AskedOnce failed a (with_records a mended) now ask (reply.Refused r))
  pub records : (a : Lists) (mended new : Held) (now : ℕ) (ask : Ask) (user : User) (told : Reply) → IsAskable a ask → IsKnown a mended ask user → asks_catalog ask.request ≡ true
      → OneCall failed reply.Refused (CatalogAnswers now user ask) mended new told → AskedOnce failed a (with_records a new) now ask told
  pub refused : (a : Lists) (mended : Held) (now : ℕ) (ask : Ask) (user : User) (r : Refusal) → IsAskable a ask → IsKnown a mended ask user → asks_catalog ask.request ≡ false
      → refusal_among mended.list (length a.parts) user ask.request ≡ Some r → AskedOnce failed a (with_records a mended) now ask (reply.Refused r)
  -- memory was wanting before a shard was asked
  pub wanting : (a : Lists) (mended : Held) (now : ℕ) (ask : Ask) (user : User) → IsAskable a ask → IsKnown a mended ask user → AskedOnce failed a (with_records a mended) now ask (reply.Refused refusal.Memory)
  pub shard : (a : Lists) (mended held new : Held) (k now : ℕ) (ask : Ask) (user : User) (told : Reply) → IsAskable a ask → IsKnown a mended ask user → IsGoing mended.list (length a.parts) ask user k
      → slice_get a.parts k ≡ Some held → OneCall failed reply.Refused (ShardAnswers mended.list now user ask) held new told → AskedOnce failed a (with_both a mended k new) now ask told
