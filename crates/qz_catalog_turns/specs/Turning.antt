-- What one turn at a list comes to, as the pass that made it tells.
use Rattle.std.specs.List.{All}
use Rattle.std.specs.Prelude.{◌≡◌, ℕ, true, List, ◌++◌, Option, Some, is_some}
use Rattle.qz_catalog.specs.Keeping.{Keeping}
use Rattle.qz_grading.specs.declared.refusal.Refusal.{Refusal}
use Rattle.qz_keeper.specs.Lists.{EachMayStand, OneCall}
use Rattle.qz_outside.specs.Causes.{HasRisen}
use Rattle.qz_terms.specs.declared.record.Record.{Record}
use Rattle.qz_terms.specs.Legal.{IsLegalCatalog}
use Rattle.qz_terms.specs.Serial.{Held, Mended}
use Rattle.qz_turn.specs.declared.view.Tale.{Tale}
use Rattle.qz_turn.specs.declared.view.Turn.{Turn}
use Rattle.qz_turn.specs.Passes.{Standing}
use Rattle.qz_turn.specs.Tales.{Follows}
use Rattle.qz_turn.specs.Turns.{AddsTurn}

-- what a list tells, with its record in doubt and how often its keeper failed
abbrev pub tale_of : Held → ℕ → Tale Record
tale_of held faults = record { list = held.list; doubt = held.doubt; faults = faults }

-- a list as it was told, with its record in doubt
abbrev pub held_of : Tale Record → Held
held_of tale = record { list = tale.list; doubt = tale.doubt }

-- A keeper failed between what was found of its list and what is seen of it: its count rose, and a record of the list is in doubt since.
abbrev pub Fails : Tale Record → Tale Record → Type 0
Fails found seen = HasRisen found.faults seen.faults × (is_some seen.doubt ≡ true)

-- A call at a list, between what was found and what is seen of it. Each list that may stand before it or afterwards has P.
pub record Calls {A : Type 0} (P : List Record → Type 0) (refused : Refusal → A) (Answers : List Record → A → List Record → Type 0) (found seen : Tale Record) (told : A) : Type 0 where
  pub call : OneCall (Fails found seen) refused Answers (held_of found) (held_of seen) told
  pub found_may : EachMayStand P (held_of found)
  pub seen_may : EachMayStand P (held_of seen)

-- One turn of a pass: it found what goes on from what it had seen, and the call came to this. It keeps its lock and its numbers, and its turn is told.
pub record TurnCalls {A K : Type 0} (P : List Record → Type 0) (refused : Refusal → A) (Answers : List Record → A → List Record → Type 0) (old new : Standing Record K) (told : A) : Type 0 where
  pub begins : Follows old.seen new.found
  pub grows : Follows new.found new.seen
  pub calls : Calls P refused Answers new.found new.seen told
  pub numbers : new.numbers ≡ old.numbers
  pub lock : new.lock ≡ old.lock
  pub turns : AddsTurn old new

-- a turn that put no record: what it found was mended, and stays
abbrev pub IsLook : Turn Record → Type 0
IsLook t = Mended (held_of t.found) (held_of t.left)

-- all turns of a pass, from one time to a later one, put no record
pub record Looked {K : Type 0} (old new : Standing Record K) : Type 0 where
  pub turns : List (Turn Record)
  pub added : new.turns ≡ old.turns ++ turns
  pub looks : All IsLook turns

-- what an errand did to a catalogue, and what it was told
pub record Did {A K : Type 0} (faults : K → ℕ) (refused : Refusal → A) (Answers : List Record → A → List Record → Type 0) (before after : Keeping K) (told : Option A) : Type 0 where
  pub answer : A
  pub told_is : told ≡ Some answer
  pub calls : Calls IsLegalCatalog refused Answers (tale_of before.held (faults before.keeper)) (tale_of after.held (faults after.keeper)) answer
