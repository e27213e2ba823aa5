-- What calls at single lists come to, one after the other.
use Rattle.std.specs.Prelude.{◌≡◌, ◌⊎◌, ℕ, true, List, None, is_some}
use Rattle.qz_grading.specs.declared.refusal.Refusal.{Refusal}
use Rattle.qz_grading.specs.declared.refusal.Refusal.TheVariants as refusal
use Rattle.qz_terms.specs.declared.ask.Ask.{Ask}
use Rattle.qz_terms.specs.declared.people.User.{User}
use Rattle.qz_terms.specs.declared.record.Record.{Record}
use Rattle.qz_terms.specs.declared.reply.Reply.{Reply}
use Rattle.qz_terms.specs.declared.reply.Reply.TheVariants as reply
use Rattle.qz_terms.specs.CatalogAnswer.{catalog_after, catalog_answer}
use Rattle.qz_terms.specs.SchoolAnswer.{user_after, user_answer}
use Rattle.qz_terms.specs.Serial.{Held, Mended}
use Rattle.qz_keeper.specs.Lists.{CallEnds, IsSettled, Looks, OneCall}

-- ---- what is answered over one list

-- what the catalogue says to a request that goes to it, and its list afterwards
abbrev pub CatalogAnswers : ℕ → User → Ask → List Record → Reply → List Record → Type 0
CatalogAnswers now user ask c told new = (told ≡ catalog_answer c now user ask) × (new ≡ catalog_after c now user ask)

-- what a shard says under a catalogue, and its list afterwards
abbrev pub ShardAnswers : List Record → ℕ → User → Ask → List Record → Reply → List Record → Type 0
ShardAnswers c now user ask h told new = (told ≡ user_answer c h now ask user) × (new ≡ user_after c h now ask user)

-- ---- calls one after the other

-- What a call that only looks comes to. None is in doubt in the list any more, and what is told is said of it; or its keeper failed, and a
-- record stays in doubt; or memory was wanting.
pub data LookEnds {A : Type 0} (failed : Type 0) (refused : Refusal → A) (Says : List Record → A → Type 0) (old new : Held) (told : A) : Type 0 where
  looked : IsSettled old new → Says new.list told → LookEnds failed refused Says old new told
  unread : failed → Mended old new → is_some new.doubt ≡ true → told ≡ refused refusal.KeepFault → LookEnds failed refused Says old new told
  unlooked : Mended old new → told ≡ refused refusal.Memory → LookEnds failed refused Says old new told

-- Of calls with these answers.
pub record CallsCompose {A : Type 0} (failed : Type 0) (refused : Refusal → A) (Answers : List Record → A → List Record → Type 0) : Type 0 where
  -- a list of which no record is in doubt is read as it is
  pub settled : (old new : Held) (told : A) → old.doubt ≡ None → OneCall failed refused Answers old new told → CallEnds failed refused Answers old new told
  -- behind another call the list isn't mended again
  pub after : (old mid new : Held) (told : A) → IsSettled old mid → OneCall failed refused Answers mid new told → OneCall failed refused Answers old new told
  pub wanting : (old new : Held) → Mended old new → OneCall failed refused Answers old new (refused refusal.Memory)
  -- where what is told is no answer, the keeper failed or memory was wanting
  pub cause : (old new : Held) (told : A) → OneCall failed refused Answers old new told → ((h g : List Record) → Answers h told g → ⊥) → failed ⊎ (told ≡ refused refusal.Memory)

-- Of calls that only look.
pub record LooksCompose {A : Type 0} (failed : Type 0) (refused : Refusal → A) (Says : List Record → A → Type 0) : Type 0 where
  pub ends : (old new : Held) (told : A) → OneCall failed refused (Looks Says) old new told → LookEnds failed refused Says old new told
  -- a list of which no record is in doubt stays as it is
  pub still : (old new : Held) (told : A) → old.doubt ≡ None → OneCall failed refused (Looks Says) old new told → (new ≡ old) × (Says old.list told ⊎ (told ≡ refused refusal.Memory))

-- A look behind which no other call comes is the whole call, where what was looked up says so.
pub record LooksAreCalls {A B : Type 0} (failed : Type 0) (refused : Refusal → A) (Says : List Record → A → Type 0) (also : Refusal → B) (Answers : List Record → B → List Record → Type 0) : Type 0 where
  pub alone : (old new : Held) (told : A) (said : B) → LookEnds failed refused Says old new told → (Says new.list told → Answers new.list said new.list) → ((r : Refusal) → told ≡ refused r → said ≡ also r)
      → OneCall failed also Answers old new said

-- A call with some answers is one with others that these mean, and so is one for a worse cause.
pub record CallsMean {A : Type 0} (failed worse : Type 0) (refused : Refusal → A) (Answers Others : List Record → A → List Record → Type 0) : Type 0 where
  pub each : (old new : Held) (told : A) → (failed → worse) → ((h : List Record) (t : A) (g : List Record) → Answers h t g → Others h t g) → OneCall failed refused Answers old new told → OneCall worse refused Others old new told
  -- behind another call, where they mean so over the mended list
  pub after : (old mid new : Held) (told : A) → (failed → worse) → IsSettled old mid → ((t : A) (g : List Record) → Answers mid.list t g → Others mid.list t g) → OneCall failed refused Answers mid new told → OneCall worse refused Others old new told

-- The calls of a school at its catalogue and at its shards compose.
pub record RepliesCompose (failed : Type 0) : Type 0 where
  pub records : (now : ℕ) (user : User) (ask : Ask) → CallsCompose failed reply.Refused (CatalogAnswers now user ask)
  pub shard : (c : List Record) (now : ℕ) (user : User) (ask : Ask) → CallsCompose failed reply.Refused (ShardAnswers c now user ask)
