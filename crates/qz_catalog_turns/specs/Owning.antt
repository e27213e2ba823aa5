-- What became of a request's own record, in the turn in which it was answered.
use Rattle.std.specs.Prelude.{◌≡◌, ℕ, Bool, List, [], ◌∷◌, ◌++◌, Option, Some, None, if◌then◌else◌, nat_lt}
use Rattle.qz_catalog.specs.Keeping.{Keeping}
use Rattle.qz_grading.specs.declared.refusal.Refusal.{Refusal}
use Rattle.qz_keeper.specs.Lists.{CallEnds, OneCall}
use Rattle.qz_terms.specs.declared.record.Record.{Record}
use Rattle.qz_terms.specs.declared.reply.Reply.{Reply}
use Rattle.qz_terms.specs.declared.reply.Reply.TheVariants as reply
use Rattle.qz_terms.specs.Legal.{IsLegalCatalog}
use Rattle.qz_terms.specs.Serial.{Held}
use Rattle.qz_turn.specs.declared.view.Tale.{Tale}
use Rattle.qz_turn.specs.Passes.{Standing}
use Rattle.qz_catalog_turns.specs.declared.replied.OwnRecord.{OwnRecord}
use Rattle.qz_catalog_turns.specs.declared.replied.OwnRecord.TheVariants as own
use Rattle.qz_catalog_turns.specs.declared.replied.Replied.{Replied}
use Rattle.qz_catalog_turns.specs.Turning.{Calls, TurnCalls, held_of, tale_of}

-- What became of a request's own record.
-- The list as it was mended, the list as the turn left it, and the request's own record between them.
pub data Leaves : (mended new : Held) → OwnRecord → Type 0 where
  absent : (h : Held) → Leaves h h own.Absent
  stands : (l : List Record) (r : Record) → Leaves (record { list = l; doubt = None }) (record { list = l ++ r ∷ []; doubt = None }) own.Stands
  in_doubt : (l : List Record) (r : Record) → Leaves (record { list = l; doubt = None }) (record { list = l; doubt = Some r }) own.InDoubt

-- One turn in which a request was replied to, and what it left behind the mended list.
pub record TurnReplies {A K : Type 0} (P : List Record → Type 0) (refused : Refusal → A) (Answers : List Record → A → List Record → Type 0) (old new : Standing Record K) (told : A) (own : OwnRecord) : Type 0 where
  pub turn : TurnCalls P refused Answers old new told
  pub leaves : Leaves turn.calls.call.mended (held_of new.seen) own

-- ---- within a turn

-- by whether none is in doubt afterwards, and by how many records were found and how many were left
abbrev pub own_of : Bool → ℕ → ℕ → OwnRecord
own_of is_settled found left = if is_settled then (if nat_lt found left then own.Stands else own.Absent) else own.InDoubt

-- what a request comes to over a list that was mended
pub record ReplyEnds {A : Type 0} (failed : Type 0) (refused : Refusal → A) (Answers : List Record → A → List Record → Type 0) (mended new : Held) (told : A) (own : OwnRecord) : Type 0 where
  pub ends : CallEnds failed refused Answers mended new told
  pub leaves : Leaves mended new own

-- the list was mended first
pub record OneReply {A : Type 0} (failed : Type 0) (refused : Refusal → A) (Answers : List Record → A → List Record → Type 0) (old new : Held) (told : A) (own : OwnRecord) : Type 0 where
  pub call : OneCall failed refused Answers old new told
  pub leaves : Leaves call.mended new own

-- between what was found of a list and what is seen of it
pub record CallReplies {A : Type 0} (P : List Record → Type 0) (refused : Refusal → A) (Answers : List Record → A → List Record → Type 0) (found seen : Tale Record) (told : A) (own : OwnRecord) : Type 0 where
  pub calls : Calls P refused Answers found seen told
  pub leaves : Leaves calls.call.mended (held_of seen) own

-- what an errand did to a catalogue, and what it replied
pub record DidReply {K : Type 0} (faults : K → ℕ) (Answers : List Record → Reply → List Record → Type 0) (before after : Keeping K) (told : Option Replied) : Type 0 where
  pub replied : Replied
  pub told_is : told ≡ Some replied
  pub comes : CallReplies IsLegalCatalog reply.Refused Answers (tale_of before.held (faults before.keeper)) (tale_of after.held (faults after.keeper)) replied.reply replied.own
