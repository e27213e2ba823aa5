-- How the loop of a worker ended.
use Rattle.std.specs.Prelude.{◌≡◌, ℕ, ◌+◌, ◌-◌, ◌^◌, ◌<◌, ◌≤◌, true, List, length}
use Rattle.qz_asking.specs.Asking.{Answerer}
use Rattle.qz_terms.specs.declared.ask.Ask.{Ask}
use Rattle.qz_terms.specs.declared.reply.Reply.{Reply}
use Rattle.qz_terms.specs.Catalog.{jobs}
use Rattle.qz_terms.specs.History.{is_done}
use Rattle.qz_terms.specs.Serial.{Lists, part_list}
use Rattle.qz_regrading.specs.declared.ends.LoopEnd.{LoopEnd}
use Rattle.qz_regrading.specs.declared.ends.LoopEnd.TheVariants as ends
use Rattle.qz_regrading.specs.Working.{Sweeps, Worked, Works, counts_to, keep_faults}

-- what the last pass asked, by how it ended: so many of its requests were refused because a keeper failed
abbrev pub EndsBy : LoopEnd → List Worked → Type 0
EndsBy ends.Done ws = keep_faults ws ≡ 0
EndsBy (ends.Left faults) ws = faults ≡ counts_to (keep_faults ws)
EndsBy ends.Short ws = keep_faults ws ≡ 0

-- Passes of a worker lead from one desk and clock to another, one after the other, each of which searched every shard for attempts to settle.
pub data MakesPasses {D C : Type 0} (tells : C → ℕ → C → Type 0) (answers : D → D → ℕ → Ask → Reply → Type 0) (lists : D → Lists) : Answerer D C → Answerer D C → Type 0 where
  none : (a : Answerer D C) → MakesPasses tells answers lists a a
  more : (a b c : Answerer D C) (asked : List Worked) → MakesPasses tells answers lists a b → Works tells answers b asked c → Sweeps (length (lists c.desk).parts) asked → MakesPasses tells answers lists a c

-- A worker's passes lead from one desk and clock to another: those before the last, and the last one, which searched every shard as well and
-- ended so.
pub record Regrades {D C : Type 0} (tells : C → ℕ → C → Type 0) (answers : D → D → ℕ → Ask → Reply → Type 0) (lists : D → Lists) (a b : Answerer D C) (end : LoopEnd) : Type 0 where
  pub between : Answerer D C
  pub before : MakesPasses tells answers lists a between
  pub last : List Worked
  pub works : Works tells answers between last b
  pub sweeps : Sweeps (length (lists b.desk).parts) last
  pub ended : EndsBy end last

-- each job of the catalogue, numbered from 1, is done in each shard, numbered from 0
pub record AllDone (a : Lists) : Type 0 where
  pub done : (job shard : ℕ) → 1 ≤ job → job ≤ length (jobs a.records.list) → shard < length a.parts → is_done (part_list a shard) job ≡ true

-- a count of faults rose by at least this number, unless it stands at the last value of a `u64`
abbrev pub HasRisenBy : ℕ → ℕ → ℕ → Type 0
HasRisenBy before n after = after < 2 ^ 64 - 1 → before + n ≤ after

-- it ended over these lists, where the desk's faults rose from one number to another
abbrev pub LoopEnds : Lists → (before after : ℕ) → LoopEnd → Type 0
LoopEnds a before after ends.Done = AllDone a
LoopEnds a before after (ends.Left faults) = (0 < faults) × HasRisenBy before faults after
LoopEnds a before after ends.Short = Unit {0}
