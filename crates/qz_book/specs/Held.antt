-- What every shard keeps of its list.
use Rattle.std.specs.Prelude.{◌≡◌, ℕ, ◌<◌, ◌-◌, ◌^◌, Bool, true, false, List, length, nat_lt, nat_le, ◌&&◌, All}
use Rattle.std.specs.List.{list_all}
use Rattle.qz_terms.specs.declared.limits.TheConstants.{MOST_SHARDS}
use Rattle.qz_terms.specs.declared.record.Event.{Event}
use Rattle.qz_terms.specs.declared.record.Event.TheVariants as event
use Rattle.qz_terms.specs.declared.record.Record.{Record}
use Rattle.qz_terms.specs.Kept.{IsKept}
use Rattle.qz_terms.specs.Legal.{IsLegal}

-- one of so many shards as a school may have
abbrev pub is_shard : ℕ → ℕ → Bool
is_shard index count = nat_lt index count && nat_le count MOST_SHARDS

-- what a request to a shard puts, also a worker's
abbrev pub is_asked_event : Event → Bool
is_asked_event (event.Started quiz nth behaviour bounds learned) = true
is_asked_event (event.Acted a k x) = true
is_asked_event (event.Noted a k x) = true
is_asked_event (event.Ended a how) = true
is_asked_event (event.Rebound job a k bound learned) = true
is_asked_event (event.Skipped job a k bound newer) = true
is_asked_event (event.JobDone job quiz position) = true
is_asked_event e = false

abbrev pub is_asked : Record → Bool
is_asked r = is_asked_event r.event

pub record IsHeld (index count : ℕ) (h : List Record) : Type 0 where
  pub shard : is_shard index count ≡ true
  pub legal : IsLegal index count h
  pub kept : All IsKept h
  pub asked : list_all is_asked h ≡ true
  pub few : length h < 2 ^ 32 - 1

-- the list of some shard
pub record IsSound (h : List Record) : Type 0 where
  pub index : ℕ
  pub count : ℕ
  pub held : IsHeld index count h
