-- How many there are of what has no map of its own.
use Rattle.std.specs.Prelude.{◌≡◌, ◌<◌, true, List, length, is_some, vec_len, vec_capacity}
use Rattle.qz_terms.specs.declared.record.Record.{Record}
use Rattle.qz_terms.specs.Catalog.{asked, entries, groups, jobs, regrade_by}
use Rattle.qz_roster.specs.declared.counts.Counts.{Counts}

-- These are as many as the records tell, and their jobs.
pub record AreCountsOf (c : List Record) (n : Counts) : Type 0 where
  pub groups : n.groups ≡ length (groups c)
  pub entries : n.entries ≡ length (entries c)
  pub jobs : n.jobs.items ≡ jobs c

pub record HasJobRoom (n : Counts) (r : Record) : Type 0 where
  pub jobs : is_some (regrade_by 0 (asked r)) ≡ true → vec_len n.jobs < vec_capacity n.jobs
