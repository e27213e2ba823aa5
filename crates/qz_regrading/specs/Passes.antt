-- What a pass has met, and what is done so far.
use Rattle.std.specs.Prelude.{◌≡◌, ℕ, ◌+◌, ◌-◌, ◌^◌, ◌<◌, ◌≤◌, true, false, length, Option, Some, None}
use Rattle.qz_grading.specs.declared.refusal.Refusal.{Refusal}
use Rattle.qz_grading.specs.declared.refusal.Refusal.TheVariants as refusal
use Rattle.qz_grading.specs.declared.refusal.Thing.{Thing}
use Rattle.qz_grading.specs.declared.refusal.Thing.TheVariants as thing
use Rattle.qz_outside.specs.Causes.{HasRisen, counted}
use Rattle.qz_terms.specs.History.{is_done}
use Rattle.qz_terms.specs.Serial.{Lists, part_list}
use Rattle.qz_regrading.specs.declared.ends.LoopEnd.{LoopEnd}
use Rattle.qz_regrading.specs.declared.ends.LoopEnd.TheVariants as ends
use Rattle.qz_regrading.specs.declared.met.Met.{Met}
use Rattle.qz_regrading.specs.Loops.{AllDone, HasRisenBy}
use Rattle.qz_regrading.specs.Workers.{KeepsParts}

-- nothing was met that left a job open
abbrev pub IsClean : Met → Type 0
IsClean m = (m.faults ≡ 0) × (m.short ≡ false)

-- with one more refusal; a count that stands at the last value of a `u64` stays there
abbrev pub met_with : Met → Refusal → Met
met_with m refusal.KeepFault = record m { faults = counted m.faults }
met_with m why = record m { short = true }

-- what a pass came to
abbrev pub MetEnds : Met → LoopEnd → Type 0
MetEnds m ends.Done = IsClean m
MetEnds m (ends.Left faults) = (faults ≡ m.faults) × (0 < faults) × (faults < 2 ^ 64)
MetEnds m ends.Short = (m.faults ≡ 0) × (m.short ≡ true)

-- a part of a pass: what was met before and after it, while the desk's faults rose
pub record Meets (a b : Lists) (before after : ℕ) (m n : Met) : Type 0 where
  pub keeps : KeepsParts a b
  pub later : before ≤ after
  pub faults : after < 2 ^ 64 - 1 → before + n.faults ≤ after + m.faults
  pub clean : IsClean n → IsClean m

-- what isn't there, where that is why a request was refused
abbrev pub missing_thing : Refusal → Option Thing
missing_thing (refusal.Unknown what) = Some what
missing_thing why = None

-- why work on a job ended before it was done in a shard
pub record IsRefused (b : Lists) (before after shard : ℕ) (why : Refusal) : Type 0 where
  pub missing : why ≡ refusal.Unknown thing.Shard → length b.parts ≤ shard
  pub fault : why ≡ refusal.KeepFault → HasRisen before after

-- the jobs from one to before another are done in a shard
pub record AreDone (a : Lists) (shard from next : ℕ) : Type 0 where
  pub done : (job : ℕ) → from ≤ job → job < next → is_done (part_list a shard) job ≡ true

-- and in the shards before one that are there
pub record AreDoneBefore (a : Lists) (shards from next : ℕ) : Type 0 where
  pub done : (shard : ℕ) → shard < shards → shard < length a.parts → AreDone a shard from next

-- and in each shard
abbrev pub AreDoneInAll : Lists → ℕ → ℕ → Type 0
AreDoneInAll a from next = AreDoneBefore a (length a.parts) from next

-- how a pass ended that met this
pub record PassEnds (b : Lists) (before after : ℕ) (m : Met) : Type 0 where
  pub later : before ≤ after
  pub faults : HasRisenBy before m.faults after
  pub done : IsClean m → AllDone b
