-- How a school is founded: the catalogue's journal of the empty list becomes one of the founding's record.
use Rattle.std.specs.Prelude.{◌≡◌, ◌≢◌, ◌⊎◌, ℕ, List, [], ◌∷◌, Option, Some, None, Result, Ok, Err, MatchResult}
use Rattle.qz_terms.specs.declared.record.Event.TheVariants as event
use Rattle.qz_terms.specs.declared.record.Record.{Record}
use Rattle.qz_journal.specs.Frames.{stands_for}
use Rattle.qz_journal.specs.Journals.{StandFor}
use Rattle.qz_folders.specs.declared.fault.FoundFault.{FoundFault}
use Rattle.qz_folders.specs.declared.fault.FoundFault.TheVariants.{Already, Damaged, Fault, Memory}
use Rattle.qz_folders.specs.Opening.{StandsStill}

-- the record of a school that is founded with so many shards and its manager's token
abbrev pub founding : ℕ → List ℕ → Record
founding shards token = record { moment = 0; caller = 0; owner = 0; key = None; terms = None; event = event.Founded shards token }

-- a file of the empty list stands for this payload alone, whatever a crash leaves of it
pub record IsFounded (payload bytes : List ℕ) (new : List ℕ → Type 0) : Type 0 where
  pub was_empty : stands_for bytes ≡ Ok []
  pub founded : StandFor (payload ∷ []) None new

-- a file of the empty list stands for it still, or for this payload alone
pub record IsInDoubt (payload bytes : List ℕ) (new : List ℕ → Type 0) : Type 0 where
  pub was_empty : stands_for bytes ≡ Ok []
  pub stand : StandFor [] (Some payload) new

-- a file of a list that isn't empty stands for it still
pub record WasFounded (bytes : List ℕ) (new : List ℕ → Type 0) : Type 0 where
  pub list : List (List ℕ)
  pub some : list ≢ []
  pub stood : stands_for bytes ≡ Ok list
  pub stands : StandFor list None new

-- a file that is damaged there stands for what it might have stood for before
pub record IsDamagedAt (place : ℕ) (bytes : List ℕ) (old new : List ℕ → Type 0) : Type 0 where
  pub damaged : stands_for bytes ≡ Err place
  pub stands : StandsStill old new

abbrev pub FailsFounding : List ℕ → List ℕ → (List ℕ → Type 0) → (List ℕ → Type 0) → FoundFault → Type 0
FailsFounding payload bytes old new Already = WasFounded bytes new
FailsFounding payload bytes old new (Damaged place) = IsDamagedAt place bytes old new
FailsFounding payload bytes old new Fault = StandsStill old new ⊎ IsInDoubt payload bytes new
FailsFounding payload bytes old new Memory = StandsStill old new

-- what became of a file that read as these bytes, by what a crash might have left of it and may leave now
abbrev pub EndsFounding : List ℕ → List ℕ → (List ℕ → Type 0) → (List ℕ → Type 0) → Result (Unit {0}) FoundFault → Type 0
EndsFounding payload bytes old new result = MatchResult result (λ _. IsFounded payload bytes new) (FailsFounding payload bytes old new)

-- ---- a journal's first payload

-- what a journal keeps after a call, where its disk tells it, and the payload in doubt
pub record Keeps (payloads : List (List ℕ)) (in_doubt : Option (List ℕ)) (kept : Option (List (List ℕ))) (doubt : Option (List ℕ)) : Type 0 where
  pub told : kept ≡ Some payloads
  pub doubtful : doubt ≡ in_doubt

abbrev FailsPutting : List (List ℕ) → List ℕ → Option (List (List ℕ)) → Option (List ℕ) → FoundFault → Type 0
FailsPutting payloads payload kept doubt Already = (payloads ≢ []) × Keeps payloads None kept doubt
FailsPutting payloads payload kept doubt (Damaged place) = ⊥
FailsPutting payloads payload kept doubt Fault = (payloads ≡ []) × Keeps [] (Some payload) kept doubt
FailsPutting payloads payload kept doubt Memory = Keeps payloads None kept doubt

-- a payload was put into a journal of these, if they were none
abbrev pub PutsFirst : List (List ℕ) → List ℕ → Option (List (List ℕ)) → Option (List ℕ) → Result (Unit {0}) FoundFault → Type 0
PutsFirst payloads payload kept doubt result = MatchResult result (λ _. (payloads ≡ []) × Keeps (payload ∷ []) None kept doubt) (FailsPutting payloads payload kept doubt)
