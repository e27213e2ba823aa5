-- Where the versions stand that a shard has learned.
use Rattle.std.specs.BTreeMap.{get}
use Rattle.std.specs.Prelude.{◌≡◌, ℕ, All, List, IsSome, MatchOption, None, Option, Some, option_and_then, option_map, slice_get, unwrap_or}
use Rattle.qz_room.specs.Pairs.{pair_cmp}
use Rattle.qz_grading.specs.declared.question.Question.{Question}
use Rattle.qz_terms.specs.declared.record.Learned.{Learned}
use Rattle.qz_terms.specs.declared.record.Record.{Record}
use Rattle.qz_terms.specs.History.{learned_by, version}
use Rattle.qz_index.specs.declared.versions.Origin.{Origin}
use Rattle.qz_index.specs.declared.versions.Versions.{Versions}

-- where a version was learned, if it was
abbrev pub origin : Versions → ℕ → ℕ → Option Origin
origin versions entry number = unwrap_or (get pair_cmp versions.origins (entry, number)) None

abbrev pub HasOrigin : Versions → ℕ → ℕ → Type 0
HasOrigin versions entry number = IsSome (get pair_cmp versions.origins (entry, number))

abbrev pub HasOrigins : Versions → List Learned → Type 0
HasOrigins versions learned = All (λ (l : Learned). HasOrigin versions l.entry l.version) learned

-- the question that stands there
abbrev pub question_at : List Record → Origin → Option Question
question_at h o = option_and_then (λ (r : Record). option_map (λ (l : Learned). l.question) (slice_get (learned_by r.event) o.item)) (slice_get h o.place)

-- a version that isn't learned has no origin, and the question of any other stands at its origin
abbrev pub StandsAt : List Record → Option Question → Option Origin → Type 0
StandsAt h known place = MatchOption place (known ≡ None) (λ o. (q : Question) × (known ≡ Some q) × (question_at h o ≡ Some q))

pub record AreVersions (versions : Versions) (h : List Record) : Type 0 where
  pub each : (entry number : ℕ) → StandsAt h (version h entry number) (origin versions entry number)
