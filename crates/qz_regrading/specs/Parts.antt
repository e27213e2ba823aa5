-- What the parts of a pass ask, and what they are told.
use Rattle.std.specs.Prelude.{◌≡◌, ℕ, ◌+◌, ◌≤◌, Bool, true, false, List, [], ◌∷◌, length, Option, Some, None, Result, Ok, Err, ◌==◌}
use Rattle.qz_asking.specs.Asking.{Answerer}
use Rattle.qz_grading.specs.declared.refusal.AttemptId.{AttemptId}
use Rattle.qz_grading.specs.declared.refusal.Refusal.{Refusal}
use Rattle.qz_grading.specs.declared.refusal.Refusal.TheVariants as refusal
use Rattle.qz_grading.specs.declared.refusal.Thing.TheVariants as thing
use Rattle.qz_terms.specs.declared.ask.Ask.{Ask}
use Rattle.qz_terms.specs.declared.reply.Reply.{Reply}
use Rattle.qz_terms.specs.declared.request.Request.TheVariants as request
use Rattle.qz_terms.specs.Serial.{Lists}
use Rattle.qz_regrading.specs.declared.met.Met.{Met}
use Rattle.qz_regrading.specs.Passes.{met_with, missing_thing}
use Rattle.qz_regrading.specs.Working.{IsSearched, Next, NoMore, Nothing, Sweeps, Told, Worked, Works, counts_to, found_in, keep_faults, looks_at, settled_in, told_by}

-- nothing is asked of attempts
pub record IsQuiet (ws : List Worked) : Type 0 where
  pub looks : (shard : ℕ) → looks_at shard ws ≡ []
  pub found : found_in ws ≡ []
  pub settled : settled_in ws ≡ []

abbrev pub faults_of : Refusal → ℕ
faults_of refusal.KeepFault = 1
faults_of why = 0

abbrev pub faults_told : {T : Type 0} → Result T Refusal → ℕ
faults_told (Ok x) = 0
faults_told (Err why) = faults_of why

-- work on jobs, of which so much was refused because a keeper failed
pub record IsWork (faults : ℕ) (ws : List Worked) : Type 0 where
  pub quiet : IsQuiet ws
  pub faults_are : keep_faults ws ≡ faults

-- what keepers failed in is met
abbrev pub MeetsFaults : Met → Met → List Worked → Type 0
MeetsFaults m n ws = counts_to n.faults ≡ counts_to (m.faults + keep_faults ws)

pub record MeetsQuietly (m n : Met) (ws : List Worked) : Type 0 where
  pub quiet : IsQuiet ws
  pub met : MeetsFaults m n ws

-- one attempt is asked to be settled
pub record MeetsSettling (attempt : AttemptId) (m n : Met) (ws : List Worked) : Type 0 where
  pub looks : (shard : ℕ) → looks_at shard ws ≡ []
  pub found : found_in ws ≡ []
  pub settled : settled_in ws ≡ attempt ∷ []
  pub met : MeetsFaults m n ws

-- ---- looks

abbrev pub told_in : Result (Option AttemptId) Refusal → Told
told_in (Ok (Some attempt)) = Next attempt
told_in (Ok None) = NoMore
told_in (Err why) = Nothing

-- one look at a shard, which told this; over such lists the shard is missing only where it isn't there
pub record LooksBehind {D C : Type 0} (tells : C → ℕ → C → Type 0) (answers : D → D → ℕ → Ask → Reply → Type 0) (lists : D → Lists) (shard : ℕ) (attempt : AttemptId) (a b : Answerer D C) (result : Result (Option AttemptId) Refusal) : Type 0 where
  pub reply : Reply
  pub works : Works tells answers a ((record { request = request.Live shard attempt; reply = reply }) ∷ []) b
  pub told : told_by reply ≡ told_in result
  pub faults : keep_faults ((record { request = request.Live shard attempt; reply = reply }) ∷ []) ≡ faults_told result
  pub missing : result ≡ Err (refusal.Unknown thing.Shard) → length (lists b.desk).parts ≤ shard

-- a refusal is met, unless a shard is why that isn't there
abbrev pub MeetsIfThere : Refusal → Met → Met → Bool → Type 0
MeetsIfThere why m n true = n ≡ met_with m why
MeetsIfThere why m n false = (missing_thing why ≡ Some thing.Shard) × (n ≡ m)

-- a search of one shard
pub record SearchesShard (shard : ℕ) (m n : Met) (ws : List Worked) : Type 0 where
  pub searched : IsSearched (looks_at shard ws)
  pub others : (other : ℕ) → (shard == other) ≡ false → looks_at other ws ≡ []
  pub settled : settled_in ws ≡ found_in ws
  pub met : MeetsFaults m n ws

-- a search of all shards, so many
pub record MeetsSweeping (shards : ℕ) (m n : Met) (ws : List Worked) : Type 0 where
  pub sweeps : Sweeps shards ws
  pub met : MeetsFaults m n ws

-- a pass, in which so many keepers failed
pub record IsPass (shards : ℕ) (m : Met) (ws : List Worked) : Type 0 where
  pub sweeps : Sweeps shards ws
  pub met : counts_to m.faults ≡ counts_to (keep_faults ws)
