-- What is kept beside the records of a shard, and a last record whose reply isn't kept yet.
use Rattle.std.specs.Prelude.{◌≡◌, ◌+◌, ◌-◌, ◌<◌, ◌^◌, [], ◌∷◌, ◌++◌, length, vec_len, vec_capacity}
use Rattle.qz_index.specs.Indexed.{HasRoomFor, IsIndexed}
use Rattle.qz_lives.specs.declared.prepared.Prepared.{Prepared}
use Rattle.qz_lives.specs.Attempts.{AreLives}
use Rattle.qz_lives.specs.Changes.{IsReady}
use Rattle.qz_terms.specs.History.{version}
use Rattle.qz_book.specs.declared.listing.Listing.{Listing}
use Rattle.qz_terms.specs.declared.record.Record.{Record}

-- the index and the attempts are those of the list
pub record IsListing (l : Listing) : Type 0 where
  pub indexed : IsIndexed l.index l.records.items
  pub alive : AreLives l.lives l.records.items

-- list and index have room for a record
pub record HasEntries (l : Listing) (r : Record) : Type 0 where
  pub few : length l.records.items + 1 < 2 ^ 32 - 1
  pub room : vec_len l.records < vec_capacity l.records
  pub entries : HasRoomFor l.index r

-- and what its attempt takes is made
pub record HasRoom (l : Listing) (r : Record) (p : Prepared) : Type 0 where
  pub entered : HasEntries l r
  pub prepared : IsReady l.lives (version (l.records.items ++ r ∷ [])) r p

-- the attempts have followed a record that isn't in the list yet
pub record IsFollowed (old new : Listing) (r : Record) : Type 0 where
  pub records : new.records ≡ old.records
  pub index : new.index ≡ old.index
  pub alive : AreLives new.lives (old.records.items ++ r ∷ [])
