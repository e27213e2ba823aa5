-- What the records of each user tell of that user.
use Rattle.std.specs.BTreeMap.{get}
use Rattle.std.specs.Ordering.{nat_cmp}
use Rattle.std.specs.Prelude.{◌≡◌, ℕ, List, IsSome, filter_map, unwrap_or}
use Rattle.qz_grading.specs.Steps.{last_of}
use Rattle.qz_terms.specs.declared.record.Record.{Record}
use Rattle.qz_terms.specs.History.{next_attempt, owned_moment, place}
use Rattle.qz_index.specs.declared.owners.Owners.{Owners}
use Rattle.qz_index.specs.declared.owners.Tally.{Tally}

abbrev pub last_moment : List Record → ℕ → ℕ
last_moment h u = unwrap_or (last_of (filter_map (owned_moment u) h)) 0

abbrev pub tally_in : List Record → ℕ → Tally
tally_in h u = record { records = place h u; last = last_moment h u; next = (next_attempt h u).nth }

-- where a user has no entry, that of no record
abbrev pub tally : Owners → ℕ → Tally
tally owners u = unwrap_or (get nat_cmp owners.tallies u) (record { records = 0; last = 0; next = 1 })

abbrev pub HasTally : Owners → ℕ → Type 0
HasTally owners u = IsSome (get nat_cmp owners.tallies u)

-- each user's tally is what the list tells
pub record AreTallied (owners : Owners) (h : List Record) : Type 0 where
  pub each : (u : ℕ) → tally owners u ≡ tally_in h u
