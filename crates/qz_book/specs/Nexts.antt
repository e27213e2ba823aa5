-- A record that may be put next, and a list that it was put into.
use Rattle.std.specs.Prelude.{◌≡◌, ℕ, ◌+◌, ◌-◌, ◌<◌, ◌^◌, true, List, [], ◌∷◌, ◌++◌, length}
use Rattle.qz_terms.specs.declared.record.Record.{Record}
use Rattle.qz_terms.specs.Kept.{IsKept}
use Rattle.qz_terms.specs.Legal.{IsAllowed}
use Rattle.qz_book.specs.Held.{IsHeld, is_asked}

pub record IsNext (index count : ℕ) (h : List Record) (r : Record) : Type 0 where
  pub allowed : IsAllowed index count h r
  pub kept : IsKept r
  pub asked : is_asked r ≡ true

-- the list of some shard, which may put this record next
pub record CanGrow (h : List Record) (r : Record) : Type 0 where
  pub index : ℕ
  pub count : ℕ
  pub held : IsHeld index count h
  pub next : IsNext index count h r

-- the record stands at the end
pub record IsPut (h g : List Record) (r : Record) : Type 0 where
  pub put : g ≡ h ++ r ∷ []
  pub few : length h + 1 < 2 ^ 32 - 1
