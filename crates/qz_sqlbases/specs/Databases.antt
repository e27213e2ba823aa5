-- What bases tell of the lists in their databases, and what their calls do to them.
use Rattle.std.specs.Prelude.{◌≡◌, ◌≢◌, ℕ, Bool, true, false, List, Option, Result, MatchResult}
use Rattle.qz_disks.specs.declared.shelf.ShelfErr.{ShelfErr}
use Rattle.qz_disks.specs.Keepers.{Reopens}
use Rattle.qz_disks.specs.Shelves.{Place}
pub use Rattle.qz_sqlkeep.specs.Keeping.{told_by}

-- a list as it stands in a database: its payloads, where the store tells them, and the payload that was in doubt as it was given back
pub record Standing : Type 0 where
  pub payloads : Option (List (List ℕ))
  pub doubt : Option (List ℕ)

abbrev pub standing_as : Option (List (List ℕ)) → Option (List ℕ) → Standing
standing_as payloads doubt = record { payloads = payloads; doubt = doubt }

-- the databases by their places: which are out, and the list of each that isn't
pub record Lists : Type 0 where
  pub is_out : Place → Bool
  pub list : Place → Standing

-- each database is as it was, and out where it was out
pub record SameLists (old new : Lists) : Type 0 where
  pub is_out : (at : Place) → new.is_out at ≡ old.is_out at
  pub list : (at : Place) → new.list at ≡ old.list at

-- so is each database but the one at a place
pub record ChangesAt (changed : Place) (old new : Lists) : Type 0 where
  pub is_out : (at : Place) → at ≢ changed → new.is_out at ≡ old.is_out at
  pub list : (at : Place) → at ≢ changed → new.list at ≡ old.list at

-- A database was handed out as a keeper with the payloads found: the list that stood there, or that with the payload in doubt.
-- The keeper's list is these payloads, and none is in doubt.
pub record HandsOut (at : Place) (old new : Lists) (tells : Bool) (kept : Option (List (List ℕ))) (doubt : Option (List ℕ)) (found : List (List ℕ)) : Type 0 where
  pub stands : Reopens (old.list at).payloads kept (old.list at).doubt doubt found
  pub told : kept ≡ told_by tells found
  pub out : new.is_out at ≡ true
  pub others : ChangesAt at old new

abbrev pub EndsHandingOut : {R : Type 0} → Place → Lists → Lists → Bool → (R → Option (List (List ℕ))) → (R → Option (List ℕ)) → (R → List (List ℕ)) → Result R ShelfErr → Type 0
EndsHandingOut at old new tells kept doubt found result = MatchResult result (λ r. HandsOut at old new tells (kept r) (doubt r) (found r)) (λ _. SameLists old new)

-- a keeper was given back, and its list stands in the database, with the payload in doubt or without it
pub record TakesBack (at : Place) (old new : Lists) (list : Standing) : Type 0 where
  pub stands : new.list at ≡ list
  pub here : new.is_out at ≡ false
  pub others : ChangesAt at old new
