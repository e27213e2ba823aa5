-- What holds of every world that possible events make of a school.
use mathlib.Core.List.{IsPrefix}
use Rattle.std.specs.Prelude.{◌≡◌, ℕ, false, List, length, slice_get, Some}
use Rattle.qz_keeper.specs.Lists.{EachMayStand}
use Rattle.qz_terms.specs.declared.record.Record.{Record}
use Rattle.qz_terms.specs.Catalog.{shards}
use Rattle.qz_terms.specs.Laws.{tells_of_outside}
use Rattle.qz_terms.specs.Legal.{AllAgree, IsLegal, IsLegalCatalog, IsSchool}
use Rattle.qz_terms.specs.SchoolAnswer.{part_at, school_answer}
use Rattle.qz_terms.specs.Serial.{Lists, held_in}
use Rattle.qz_schedule.specs.Worlds.{AllPossible, Happening, Told, Visit, World, lists_in, loaded, world}

-- these lists of the catalogue and of the shards begin those of a school
pub record Begin (a : Lists) (c : List Record) (parts : List (List Record)) : Type 0 where
  pub records : IsPrefix c a.records.list
  pub each : (k : ℕ) → IsPrefix (part_at parts k) (held_in a (Some k)).list

-- The lists of a school with so many shards are legal and agree, also with the record in doubt, where one is.
pub record IsSound (count : ℕ) (a : Lists) : Type 0 where
  pub counts : length a.parts ≡ count
  pub founded : shards a.records.list ≡ Some count
  pub records : EachMayStand IsLegalCatalog a.records
  pub legal : (k : ℕ) → EachMayStand (IsLegal k count) (held_in a (Some k))
  pub agree : (k : ℕ) → EachMayStand (AllAgree a.records.list) (held_in a (Some k))

-- What a caller had seen begins the lists. The reply is the answer over it, but where a keeper failed or memory was wanting.
pub record IsAnswerOver (a : Lists) (t : Told) : Type 0 where
  pub seen : Begin a t.records t.parts
  pub answer : tells_of_outside t.reply ≡ false → t.reply ≡ school_answer t.records t.parts t.moment t.ask

-- Its lists are sound, what each caller has seen begins them, and each reply is an answer over what its caller had then seen.
pub record IsRight (count : ℕ) (w : World) : Type 0 where
  pub lists : IsSound count (lists_in w)
  pub seen : (k : ℕ) (v : Visit) → slice_get w.visits k ≡ Some v → Begin (lists_in w) v.records v.parts
  pub told : (i : ℕ) (t : Told) → slice_get w.told i ≡ Some t → IsAnswerOver (lists_in w) t

-- So is each world that possible events, whichever and in whatever order, make of a school that was loaded.
pub record EverySchedule : Type 0 where
  pub right : (c : List Record) (parts : List (List Record)) (callers : ℕ) (events : List Happening) → IsSchool c parts → AllPossible (loaded c parts callers) events
      → IsRight (length parts) (world (loaded c parts callers) events)
