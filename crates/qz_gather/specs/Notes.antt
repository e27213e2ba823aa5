-- What a note of a request says, and of which lists it is true.
use mathlib.Core.List.{IsPrefix}
use Rattle.std.specs.List.{AllZip, zip}
use Rattle.std.specs.Prelude.{◌≡◌, ℕ, ◌≤◌, Bool, true, false, not, ◌&&◌, List, [], ◌∷◌, ◌++◌, length, map, nat_lt, option_map, slice_get, take, unwrap_or, Option, Some, None, IfSome}
use Rattle.qz_grading.specs.declared.refusal.Refusal.TheVariants as refusal
use Rattle.qz_terms.specs.declared.ask.Ask.{Ask}
use Rattle.qz_terms.specs.declared.record.Record.{Record}
use Rattle.qz_terms.specs.declared.reply.Done.{Done}
use Rattle.qz_terms.specs.declared.reply.Reply.{Reply}
use Rattle.qz_terms.specs.declared.reply.Reply.TheVariants as reply
use Rattle.qz_terms.specs.Laws.{tells_of_outside}
use Rattle.qz_terms.specs.Serial.{Held, Lists, held_in, lists_over, reply_over, with_list}
use Rattle.qz_turn.specs.declared.view.Tale.{Tale}
use Rattle.qz_visit.specs.declared.last.Last.{Last}
use Rattle.qz_visit.specs.Visits.{Tellings, lists_told}
use Rattle.qz_gather.specs.declared.note.Note.{Note}

-- ---- the lists of a note

-- the first so many records of a list
abbrev pub front : ℕ × Tale Record → Held
front p = with_list (take p.0 p.1.list)

-- of each list as many records as the note counts
abbrev pub lists_noted : Tellings → Note → Lists
lists_noted t n = record { records = front (n.catalog, t.records); parts = map front (zip n.parts t.parts) }

-- it counts each list, and no more records of it than were seen
pub record IsCounted (t : Tellings) (n : Note) : Type 0 where
  pub catalog : n.catalog ≤ length t.records.list
  pub parts : AllZip (λ count s. count ≤ length s.list) n.parts t.parts

-- ---- what is said of them

-- the answer by the definitions
abbrev pub answer_noted : Tellings → Note → Reply
answer_noted t n = reply_over (lists_noted t n) n.moment n.ask

-- The answer over these lists puts this record behind the list of this shard (none: of the catalogue).
pub record Puts (a : Lists) (now : ℕ) (ask : Ask) (list : Option ℕ) (r : Record) : Type 0 where
  pub longer : (held_in (lists_over a now ask) list).list ≡ (held_in a list).list ++ r ∷ []

-- Over its lists the answer puts a record behind the list that the note names, and that was seen next in it.
pub record PutsNext (t : Tellings) (n : Note) : Type 0 where
  pub own : Record
  pub puts : Puts (lists_noted t n) n.moment n.ask n.list own
  pub next : IsPrefix ((held_in (lists_noted t n) n.list).list ++ own ∷ []) (held_in (lists_told t) n.list).list

-- A note is true of the lists that were seen. A reply that stands in it is the answer over as many records as it counts, or tells that a keeper
-- failed or that memory was wanting. It says that a record was put only where that answer puts one, which was then seen next; and where a reply
-- stands in it, exactly where that is the answer and the answer puts a record. It says that one is in doubt only where a keeper failed.
pub record IsTrueOf (t : Tellings) (n : Note) : Type 0 where
  pub counted : IsCounted t n
  pub answer : IfSome n.reply (λ told. tells_of_outside told ≡ false → told ≡ answer_noted t n)
  pub put : n.put ≡ true → PutsNext t n
  pub told : n.put ≡ true → IfSome n.reply (λ told. told ≡ answer_noted t n)
  pub every : (told : Reply) (list : Option ℕ) (r : Record) → n.reply ≡ Some told → told ≡ answer_noted t n → Puts (lists_noted t n) n.moment n.ask list r → (n.put ≡ true) × (n.list ≡ list)
  pub doubt : n.doubt ≡ true → n.reply ≡ Some (reply.Refused refusal.KeepFault)

-- each of these notes is
pub record AreTrueOf (t : Tellings) (notes : List Note) : Type 0 where
  pub each : (k : ℕ) (n : Note) → slice_get notes k ≡ Some n → IsTrueOf t n

-- ---- how it is made

-- A reply is noted; one that accepts may be left out.
pub data IsNoted (told : Reply) : Option Reply → Type 0 where
  copied : IsNoted told (Some told)
  left_out : (place : ℕ) (d : Done) → told ≡ reply.Ok place d → IsNoted told None

-- what is kept of a request names a list that is there
abbrev pub is_there : Last → Bool
is_there last = unwrap_or (option_map (λ shard. nat_lt shard (length last.parts)) last.list) true

-- The note of a request: what was asked and when, the reply, and what is kept of it.
pub record Notes (last : Last) (now : ℕ) (ask : Ask) (told : Reply) (n : Note) : Type 0 where
  pub ask_is : n.ask ≡ ask
  pub moment_is : n.moment ≡ now
  pub reply : IsNoted told n.reply
  pub catalog : n.catalog ≡ last.catalog
  pub parts : n.parts ≡ last.parts
  pub list : n.list ≡ last.list
  pub put : n.put ≡ is_there last && last.put
  pub doubt : n.doubt ≡ is_there last && (not last.put && last.doubt)
