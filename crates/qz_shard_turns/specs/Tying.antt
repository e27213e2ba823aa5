-- A shard behind its lock, tied to the catalogue behind another.
use Rattle.std.specs.Prelude.{◌≡◌, ℕ, List, Option, Some, Result, Err}
use Rattle.qz_catalog_turns.specs.Turning.{Calls, Looked, tale_of}
use Rattle.qz_grading.specs.declared.refusal.Refusal.{Refusal}
use Rattle.qz_keeper.specs.Lists.{EachMayStand, Looks}
use Rattle.qz_shard.specs.Keeping as part
use Rattle.qz_terms.specs.declared.record.Record.{Record}
use Rattle.qz_terms.specs.Legal.{AllAgree, IsLegal, IsLegalCatalog}
use Rattle.qz_turn.specs.Passes.{Lock, Standing}
use Rattle.qz_turn.specs.Tales.{Follows}
use Rattle.qz_turn.specs.Turns.{note_of}

-- the shard, and a note of the catalogue's lock
pub record Behind (K : Type 0) : Type 0 where
  pub shard : part.Keeping K
  pub note : Standing Record (Unit {0})

-- which shard stands behind a lock: a note of its catalogue's lock, its index, and how many shards there are
pub record Placed : Type 0 where
  pub note : Standing Record (Unit {0})
  pub index : ℕ
  pub count : ℕ

-- It is this shard, the note is one of the catalogue's lock and has seen a legal list, and each list of the shard that may stand agrees with that list.
pub record IsTied {K : Type 0} (place : Placed) (p : Behind K) : Type 0 where
  pub index_is : p.shard.index ≡ place.index
  pub count_is : p.shard.count ≡ place.count
  pub own : p.note.lock ≡ place.note.lock
  pub catalog : IsLegalCatalog p.note.seen.list
  pub agree : EachMayStand (AllAgree p.note.seen.list) p.shard.held

-- what an errand did to a shard, and what it was told
pub record Did {A K : Type 0} (faults : K → ℕ) (refused : Refusal → A) (Answers : List Record → A → List Record → Type 0) (before after : part.Keeping K) (told : Option A) : Type 0 where
  pub answer : A
  pub told_is : told ≡ Some answer
  pub calls : Calls (IsLegal before.index before.count) refused Answers (tale_of before.held (faults before.keeper)) (tale_of after.held (faults after.keeper)) answer

-- a pass has seen at least what it had seen, and stays that of its lock, with its numbers
pub record SeesMore {K : Type 0} (old new : Standing Record K) : Type 0 where
  pub begins : Follows old.seen new.seen
  pub numbers : new.numbers ≡ old.numbers
  pub lock : new.lock ≡ old.lock

-- and none of its turns since then put a record
pub record HasLooked {K : Type 0} (old new : Standing Record K) : Type 0 where
  pub sees : SeesMore old new
  pub looks : Looked old new

-- a shard's lock is tied to the catalogue's
pub record IsTiedTo (parts : Lock Placed) (records : Lock (Unit {0})) : Type 0 where
  pub place : Placed
  pub keyed : parts.key ≡ Some place
  pub own : place.note.lock ≡ records

-- what an errand that looked did to what stands behind the lock: the note stays
pub record WasLooked {A K : Type 0} (faults : K → ℕ) (Says : List Record → Result A Refusal → Type 0) (before after : Behind K) (told : Option (Result A Refusal)) : Type 0 where
  pub did : Did faults (λ r. Err r) (Looks Says) before.shard after.shard told
  pub kept : after.note ≡ before.note

-- and it was given another that has seen the same
pub record WasFound {A K : Type 0} (faults : K → ℕ) (Says : List Record → Result A Refusal → Type 0) (before after : Behind K) (told : Option (Result A Refusal)) (note : Option (Standing Record (Unit {0}))) : Type 0 where
  pub looked : WasLooked faults Says before after told
  pub noted : note ≡ Some (note_of before.note)
