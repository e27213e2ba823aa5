-- What a catalogue keeps, and the plan that it gives.
use Rattle.std.specs.List.{list_all}
use Rattle.std.specs.Prelude.{◌≡◌, ℕ, ◌+◌, ◌<◌, ◌≤◌, ◌-◌, take, slice_get, slice_index, Some, ◌^◌, Bool, true, false, List, [], ◌∷◌, ◌++◌, length, map, None, Option, option_map, unwrap_or, All}
use Rattle.qz_bank.specs.declared.entry.Entry.{Entry}
use Rattle.qz_bank.specs.Laws.{IsBankOf}
use Rattle.qz_terms.specs.declared.plan.Plan.{Plan}
use Rattle.qz_terms.specs.declared.record.Event.TheVariants as event
use Rattle.qz_terms.specs.declared.record.Record.{Record}
use Rattle.qz_terms.specs.declared.request.Request.{Request}
use Rattle.qz_terms.specs.Catalog.{asked, asked_reply, jobs, own_settings, plan_under, regrade_by}
use Rattle.qz_terms.specs.Kept.{IsKept, asks_described}
use Rattle.qz_terms.specs.Legal.{IsLegalCatalog}
use Rattle.qz_roster.specs.Roster.{IsRosterOf}
use Rattle.qz_catalog.specs.declared.book.Book.{Book}
use Rattle.qz_catalog.specs.Shown.{done_with, is_showable}

-- ---- plans

-- a plan that isn't whole has no questions
abbrev pub lean : Bool → Plan → Plan
lean true p = p
lean false p = record p { questions = [] }

-- ---- what every catalogue keeps

-- no description that a record brings has a general feedback
abbrev pub keeps_described : Record → Bool
keeps_described r = unwrap_or (option_map asks_described (asked r)) true

-- its records, and the bank that they make
pub record IsHeld (c : List Record) (es : List Entry) : Type 0 where
  pub legal : IsLegalCatalog c
  pub kept : All IsKept c
  pub described : list_all keeps_described c ≡ true
  pub some : 1 ≤ length c
  pub few : length c < 2 ^ 32 - 1
  pub bank : IsBankOf c es

-- the reply to a request whose record stands last shows this number
pub record IsShownBy (l : List Record) (x : Request) (n : ℕ) : Type 0 where
  pub done : done_with x n ≡ asked_reply l x
  pub fits : is_showable x n ≡ true

-- the numbers that the replies showed, each over the records up to its own
pub record AreShown (c : List Record) (ns : List ℕ) : Type 0 where
  pub count : length ns ≡ length c
  pub each : (k : ℕ) (r : Record) (x : Request) → slice_get c k ≡ Some r → asked r ≡ Some x → IsShownBy (take (k + 1) c) x (slice_index ns k)

-- a quiz at the position of a job, with its own settings and without its questions
abbrev pub pinned : List Record → ℕ × ℕ → Option Plan
pinned c j = option_map (lean false) (plan_under (own_settings (take j.0 c) j.1) (take j.0 c) j.1)

-- these are the plans that the jobs pinned, in order
pub record ArePinned (c : List Record) (ps : List Plan) : Type 0 where
  pub each : map (pinned c) (jobs c) ≡ map (λ p. Some p) ps

-- this is the plan that a record pins behind these, if it makes a job
pub record IsPin (c : List Record) (r : Record) (pin : Option Plan) : Type 0 where
  pub told : option_map (pinned (c ++ r ∷ [])) (regrade_by (length c + 1) (asked r)) ≡ option_map (λ p. Some p) pin

-- the bank and the roster are those of the records
pub record IsIndexed (b : Book) : Type 0 where
  pub held : IsHeld b.records.items b.entries
  pub roster : IsRosterOf b.records.items b.roster

pub record IsBook (b : Book) : Type 0 where
  pub indexed : IsIndexed b
  pub shown : AreShown b.records.items b.shown.items
  pub pinned : ArePinned b.records.items b.pinned.items

-- the records of a school that was founded with so many shards and its manager's token
abbrev pub founded : ℕ → List ℕ → List Record
founded shards token = record { moment = 0; caller = 0; owner = 0; key = None; terms = None; event = event.Founded shards token } ∷ []
