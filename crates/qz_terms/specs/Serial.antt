-- What one caller may see of a school, request by request.
use Rattle.std.specs.List.{AllZip, list_any, range_with_len}
use Rattle.std.specs.Prelude.{◌≡◌, ℕ, Bool, true, false, not, ◌||◌, List, [], ◌∷◌, ◌++◌, map, length, drop, is_some, is_none, if◌then◌else◌, ◌==◌, slice_get, Some, None, Option, unwrap_or, option_map, option_to_list, slice_set}
use Rattle.qz_grading.specs.declared.refusal.Refusal.TheVariants as refusal
use Rattle.qz_terms.specs.declared.ask.Ask.{Ask}
use Rattle.qz_terms.specs.declared.people.Caller.{Caller}
use Rattle.qz_terms.specs.declared.people.Caller.TheVariants as caller
use Rattle.qz_terms.specs.declared.record.Record.{Record}
use Rattle.qz_terms.specs.declared.reply.Reply.{Reply}
use Rattle.qz_terms.specs.declared.reply.Reply.TheVariants as reply
use Rattle.qz_terms.specs.declared.request.Request.{Request}
use Rattle.qz_terms.specs.declared.request.Request.TheVariants as request
use Rattle.qz_terms.specs.SchoolAnswer.{asked_part, catalog_list, refusal_among, school_answer, shard_list}
use Rattle.qz_terms.specs.Catalog.{user_of, worker}
use Rattle.qz_terms.specs.Cause.{may_ask}
use Rattle.qz_terms.specs.History as history
use Rattle.qz_terms.specs.Lists.{first_of, up_to_first}

-- a list of records, and the record in doubt behind it, if any
pub record Held : Type 0 where
  pub list : List Record
  pub doubt : Option Record

-- those of the catalogue and of each shard
pub record Lists : Type 0 where
  pub records : Held
  pub parts : List Held

-- a line of a script that has no reading, or a request at a moment
pub data Line : Type 0 where
  Unread : (place rule : ℕ) → Line
  Asking : (moment : ℕ) → Ask → Line

abbrev pub lists_of : List Held → List (List Record)
lists_of parts = map (λ (k : Held). k.list) parts

abbrev pub part_list : Lists → ℕ → List Record
part_list a k = unwrap_or (option_map (λ (h : Held). h.list) (slice_get a.parts k)) []

-- ---- the lists that a request reads

-- a request of a user that is refused neither by the catalogue nor for its shard goes on to the shards
abbrev pub goes_on : Lists → Ask → Bool
goes_on a ask = unwrap_or (option_map (λ user. is_none (refusal_among a.records.list (length a.parts) user ask.request)) (user_of a.records.list ask.caller)) false

-- the shard whose list it reads, where it reads one
abbrev pub part_read : Lists → Ask → Option ℕ
part_read a ask = if goes_on a ask then asked_part a.records.list (length a.parts) ask else None

abbrev pub is_report : Request → Bool
is_report (request.Report quiz) = true
is_report x = false

-- a report reads each shard, in order
abbrev pub parts_asked : Lists → Ask → List ℕ
parts_asked a ask = if is_report ask.request then (if goes_on a ask then range_with_len 0 (length a.parts) else []) else option_to_list (part_read a ask)

-- no number stands for the catalogue
abbrev pub shards_asked : Lists → Ask → List (Option ℕ)
shards_asked a ask = map (λ k. Some k) (parts_asked a ask)

abbrev pub catalog_if : Bool → List (Option ℕ)
catalog_if true = None ∷ []
catalog_if false = []

abbrev pub is_started : Lists → Ask → Request → Bool
is_started a ask (request.Settle attempt) = list_any (λ k. is_some (history.start (part_list a k) attempt)) (parts_asked a ask)
is_started a ask x = false

-- what a worker asks: where attempts go on is read of a shard alone, a settling finds the attempt first, and what a worker
-- may not ask reads nothing
abbrev pub worker_route : Lists → Ask → Request → List (Option ℕ)
worker_route a ask (request.Live shard attempt) = shards_asked a ask
worker_route a ask (request.Settle attempt) = shards_asked a ask ++ catalog_if (is_started a ask ask.request)
worker_route a ask x = if may_ask worker x then None ∷ shards_asked a ask else []

-- the lists that a request would read, in turn; a user is looked for in the catalogue first
abbrev pub route : Lists → Ask → Caller → List (Option ℕ)
route a ask (caller.Token token) = None ∷ shards_asked a ask
route a ask caller.Worker = worker_route a ask ask.request

abbrev pub held_in : Lists → Option ℕ → Held
held_in a None = a.records
held_in a (Some k) = unwrap_or (slice_get a.parts k) (record { list = []; doubt = None })

abbrev pub is_in_doubt : Lists → Option ℕ → Bool
is_in_doubt a part = is_some (held_in a part).doubt

-- it reads up to the first that is in doubt
abbrev pub lists_read : Lists → Ask → List (Option ℕ)
lists_read a ask = up_to_first (is_in_doubt a) (route a ask ask.caller)

-- whether none of them is
abbrev pub is_settled : Lists → Ask → Bool
is_settled a ask = not (list_any (is_in_doubt a) (route a ask ask.caller))

abbrev pub is_catalog : Option ℕ → Bool
is_catalog part = is_none part

abbrev pub is_part : ℕ → Option ℕ → Bool
is_part k part = unwrap_or (option_map (λ n. n == k) part) false

abbrev pub reads_catalog : Lists → Ask → Bool
reads_catalog a ask = list_any is_catalog (lists_read a ask)

abbrev pub reads_part : Lists → Ask → ℕ → Bool
reads_part a ask k = list_any (is_part k) (lists_read a ask)

-- ---- mending

-- Before a list is read it is mended: a record in doubt is dropped or adopted.
pub data Mended : (old new : Held) → Type 0 where
  stays : (k : Held) → Mended k k
  dropped : (l : List Record) (x : Record) → Mended (record { list = l; doubt = Some x }) (record { list = l; doubt = None })
  adopted : (l : List Record) (x : Record) → Mended (record { list = l; doubt = Some x }) (record { list = l ++ x ∷ []; doubt = None })

pub record AllMended (old new : Lists) : Type 0 where
  pub records : Mended old.records new.records
  pub parts : AllZip Mended old.parts new.parts

-- A list that the request doesn't read stays as it is, with its doubt.
pub record KeepsUnread (old new : Lists) (ask : Ask) : Type 0 where
  pub records : reads_catalog new ask ≡ false → new.records ≡ old.records
  pub parts : (k : ℕ) → reads_part new ask k ≡ false → slice_get new.parts k ≡ slice_get old.parts k

-- ---- one request

abbrev pub reply_over : Lists → ℕ → Ask → Reply
reply_over a now ask = school_answer a.records.list (lists_of a.parts) now ask

abbrev pub with_list : List Record → Held
with_list l = record { list = l; doubt = None }

abbrev pub records_over : Lists → ℕ → Ask → Held
records_over a now ask = if reads_catalog a ask then with_list (catalog_list a.records.list now ask) else a.records

abbrev pub parts_over : Lists → ℕ → Ask → Option ℕ → List Held
parts_over a now ask None = a.parts
parts_over a now ask (Some k) = slice_set a.parts k (with_list (shard_list a.records.list (part_list a k) now ask))

-- the lists with the record that the request puts
abbrev pub lists_over : Lists → ℕ → Ask → Lists
lists_over a now ask = record { records = records_over a now ask; parts = parts_over a now ask (part_read a ask) }

-- the record that a longer list has behind the first
abbrev pub added : List Record → List Record → Option Record
added old new = first_of (drop (length old) new)

abbrev pub doubted : List Record → List Record → Held
doubted old new = record { list = old; doubt = added old new }

abbrev pub doubted_records : Lists → ℕ → Ask → Held
doubted_records a now ask = if reads_catalog a ask then doubted a.records.list (catalog_list a.records.list now ask) else a.records

abbrev pub doubted_parts : Lists → ℕ → Ask → Option ℕ → List Held
doubted_parts a now ask None = a.parts
doubted_parts a now ask (Some k) = slice_set a.parts k (doubted (part_list a k) (shard_list a.records.list (part_list a k) now ask))

-- the lists with that record in doubt
abbrev pub doubt_over : Lists → ℕ → Ask → Lists
doubt_over a now ask = record { records = doubted_records a now ask; parts = doubted_parts a now ask (part_read a ask) }

abbrev pub added_to_part : Lists → ℕ → Ask → Option ℕ → Option Record
added_to_part a now ask None = None
added_to_part a now ask (Some k) = added (part_list a k) (shard_list a.records.list (part_list a k) now ask)

-- whether the request puts a record
abbrev pub puts_record : Lists → ℕ → Ask → Bool
puts_record a now ask = is_some (added a.records.list (catalog_list a.records.list now ask)) || is_some (added_to_part a now ask (part_read a ask))

-- it is answered, or the record that it puts is in doubt, or a list that it reads stays in doubt, or memory was wanting
pub data Turn : (a b : Lists) (now : ℕ) (ask : Ask) (r : Reply) → Type 0 where
  answered : (m : Lists) (now : ℕ) (ask : Ask) → is_settled m ask ≡ true → Turn m (lists_over m now ask) now ask (reply_over m now ask)
  put_in_doubt : (m : Lists) (now : ℕ) (ask : Ask) → is_settled m ask ≡ true → puts_record m now ask ≡ true → Turn m (doubt_over m now ask) now ask (reply.Refused refusal.KeepFault)
  stayed_in_doubt : (m : Lists) (now : ℕ) (ask : Ask) → is_settled m ask ≡ false → Turn m m now ask (reply.Refused refusal.KeepFault)
  no_memory : (m : Lists) (now : ℕ) (ask : Ask) → Turn m m now ask (reply.Refused refusal.Memory)

pub record Asks (a b : Lists) (now : ℕ) (ask : Ask) (r : Reply) : Type 0 where
  pub mended : Lists
  pub mends : AllMended a mended
  pub keeps : KeepsUnread a mended ask
  pub turn : Turn mended b now ask r

-- ---- lines in turn

abbrev pub Goes : Lists → Lists → Line → Reply → Type 0
Goes a b (Unread place rule) r = (r ≡ reply.Refused (refusal.Malformed place rule)) × (b ≡ a)
Goes a b (Asking now ask) r = Asks a b now ask r

-- the replies to these lines in turn, and the lists at the end
pub data Serial : (a : Lists) (lines : List Line) (replies : List Reply) (b : Lists) → Type 0 where
  ended : (a : Lists) → Serial a [] [] a
  next : (a b c : Lists) (i : Line) (r : Reply) (is : List Line) (rs : List Reply) → Goes a b i r → Serial b is rs c → Serial a (i ∷ is) (r ∷ rs) c
