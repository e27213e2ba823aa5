-- What the parts of the catalogue that decide a request and put its record promise each other.
use Rattle.std.specs.Prelude.{◌≡◌, ℕ, ◌<◌, ◌≤◌, ◌-◌, ◌^◌, ◌⊎◌, ◌+◌, true, List, [], ◌∷◌, ◌++◌, length, take, slice_get, Option, Some, None, is_some, option_map, unwrap_or, ℤ, pos, int_lt, ◌||◌, false, vec_len, vec_capacity}
use Rattle.qz_grading.specs.declared.question.Question.{Question}
use Rattle.qz_grading.specs.declared.refusal.Refusal.{Refusal}
use Rattle.qz_grading.specs.declared.refusal.Refusal.TheVariants as refusal
use Rattle.qz_grading.specs.Behaviours.{when}
use Rattle.qz_bank.specs.declared.entry.Entry.{Entry}
use Rattle.qz_bank.specs.declared.prepared.Prepared.{Prepared}
use Rattle.qz_bank.specs.Banks as banks
use Rattle.qz_bank.specs.Changes as changes
use Rattle.qz_terms.specs.declared.ask.Ask.{Ask}
use Rattle.qz_terms.specs.declared.limits.TheConstants.{MOST_ENTRIES, MOST_SLOTS}
use Rattle.qz_terms.specs.declared.people.User.{User}
use Rattle.qz_terms.specs.declared.record.Event.TheVariants as event
use Rattle.qz_terms.specs.declared.record.Record.{Record}
use Rattle.qz_terms.specs.declared.reply.Reply.{Reply}
use Rattle.qz_terms.specs.declared.reply.Reply.TheVariants as reply
use Rattle.qz_terms.specs.declared.request.Request.{Request}
use Rattle.qz_terms.specs.declared.request.Request.TheVariants as request
use Rattle.qz_terms.specs.Catalog as catalog
use Rattle.qz_terms.specs.CatalogAnswer.{asks_catalog, catalog_after, catalog_answer, is_look_in}
use Rattle.qz_terms.specs.Cause.{Verdict, Denied, Repeated, by_key, cause_in, forbidden, is_keyed, keeps_request, missing_in, most_for_kind, verdict_in}
use Rattle.qz_terms.specs.Kept.{IsKept, KeepsAsked, asks_described, is_moment}
use Rattle.qz_terms.specs.Legal.{IsLegalCatalog}
use Rattle.qz_roster.specs.Roster.{HasRoom, IsNext, IsRosterOf}
use Rattle.qz_catalog.specs.declared.book.Book.{Book}
use Rattle.qz_catalog.specs.Holdings.{ArePinned, AreShown, IsHeld}
use Rattle.qz_catalog.specs.declared.decision.Decision.{Decision}
use Rattle.qz_catalog.specs.declared.decision.Decision.TheVariants as decision
use Rattle.qz_catalog.specs.declared.keys.Found.{Found}
use Rattle.qz_catalog.specs.declared.keys.Found.TheVariants as found

-- ---- what is asked, and how it is answered

-- It goes to the catalogue, has a key where it has to, its caller is this user, all is in range, and no description that it
-- brings has a general feedback.
pub record IsAsked (c : List Record) (user : User) (ask : Ask) (moment : ℕ) : Type 0 where
  pub keyed : is_keyed ask ≡ true
  pub of_catalog : asks_catalog ask.request ≡ true
  pub by_user : catalog.user_of c ask.caller ≡ Some user
  pub kept_request : KeepsAsked ask.request
  pub described : asks_described ask.request ≡ true
  pub kept_moment : is_moment moment ≡ true

-- the reply is the answer and the list is what it leaves, or memory was wanting and the list is as it was
abbrev pub Answers : List Record → ℕ → User → Ask → Reply → List Record → Type 0
Answers c now user ask told g =
    ((told ≡ catalog_answer c now user ask) × (g ≡ catalog_after c now user ask))
    ⊎ ((told ≡ reply.Refused refusal.Memory) × (g ≡ c))

-- ---- what is decided

-- a record of this request under this key: no cause depends on its moment or its caller
abbrev pub stand_in : Option (List ℕ) → Request → Record
stand_in key x = record { moment = 0; caller = 0; owner = 0; key = key; terms = None; event = event.Asked x }

-- the causes that are tested before the bank is changed: those of a new version are tested with the change
abbrev pub early_cause : List Record → Option (List ℕ) → Request → Option Refusal
early_cause c key (request.Edit entry gift) = None
early_cause c key (request.Tune entry penalty hints) = None
early_cause c key x = cause_in c (stand_in key x) x

-- a record at this place, from 0, which a request made, is answered again
abbrev pub IsRepeated : List Record → ℕ → Verdict → Type 0
IsRepeated c n v = (r : Record) × (slice_get c n ≡ Some r) × (is_some (catalog.asked r) ≡ true) × (v ≡ Repeated (take (n + 1) c) r)

-- no cause before the change of the bank, and nothing under the key
pub record IsFree (c : List Record) (user : User) (ask : Ask) : Type 0 where
  pub permitted : forbidden user ask.request ≡ None
  pub there : missing_in c ask.request ≡ None
  pub new : by_key (keeps_request ask.request) user.number ask.key c ≡ None
  pub early : early_cause c ask.key ask.request ≡ None

-- ---- what a request does to the bank

abbrev pub bank_cause : List Entry → Request → Option Refusal
bank_cause es (request.Import gift) = banks.import_cause es gift
bank_cause es (request.Edit entry gift) = banks.change_cause es entry (request.Edit entry gift)
bank_cause es (request.Tune entry penalty hints) = banks.change_cause es entry (request.Tune entry penalty hints)
bank_cause es x = None

abbrev pub bank_after : List Entry → Request → List Entry
bank_after es (request.Import gift) = banks.imported es gift
bank_after es (request.Edit entry gift) = banks.changed es entry (request.Edit entry gift)
bank_after es (request.Tune entry penalty hints) = banks.changed es entry (request.Tune entry penalty hints)
bank_after es x = es

-- what a record does to it, if a request made it
abbrev pub bank_told : List Entry → Option Request → List Entry
bank_told es None = es
bank_told es (Some x) = bank_after es x

-- the bank once a change that was prepared is put, if there is one
abbrev pub bank_with : List Entry → Option Prepared → List Entry
bank_with es None = es
bank_with es (Some p) = changes.with_change es p

-- a change, if there is one, may be put
abbrev pub MayPut : List Entry → Option Prepared → Type 0
MayPut es None = Unit {0}
MayPut es (Some p) = changes.CanPut es p

-- ---- max marks, as the bank has them

-- the greatest for an entry's latest version
abbrev pub greatest_of : List Entry → ℕ → ℤ
greatest_of es entry = unwrap_or (option_map (λ (q : Question). most_for_kind q.kind) (banks.newest es entry)) (pos 0)

abbrev pub bad_for : List Entry → ℕ → ℤ → Option Refusal
bad_for es entry max = when (int_lt max (pos 0) || int_lt (greatest_of es entry) max) (refusal.OutOfRange (greatest_of es entry))

-- ---- what is said of a record

-- The list ends with it, and a request made it.
pub record IsToldOver (l : List Record) (r : Record) : Type 0 where
  pub legal : IsLegalCatalog l
  pub few : length l < 2 ^ 32 - 1
  pub before : List Record
  pub ends : l ≡ before ++ r ∷ []
  pub request : Request
  pub asked : catalog.asked r ≡ Some request

-- the record at this place, from 0, was made by a request
pub record IsAskedAt (c : List Record) (n : ℕ) : Type 0 where
  pub item : Record
  pub at : slice_get c n ≡ Some item
  pub asked : is_some (catalog.asked item) ≡ true

-- ---- what is put

-- there is room for a record, which may stand behind those of a book, and the change prepared is what the record does to the bank
pub record IsReady (b : Book) (r : Record) (p : Option Prepared) : Type 0 where
  pub roster : IsRosterOf b.records.items b.roster
  pub shown : AreShown b.records.items b.shown.items
  pub pinned : ArePinned b.records.items b.pinned.items
  pub next : IsNext b.records.items r
  pub entries : length (catalog.entries b.records.items) ≤ MOST_ENTRIES
  pub held : IsHeld (b.records.items ++ r ∷ []) (bank_with b.entries p)
  pub change : MayPut b.entries p
  pub room : HasRoom b.roster r
  pub records : vec_len b.records < vec_capacity b.records
  pub numbers : vec_len b.shown < vec_capacity b.shown
  pub pins : vec_len b.pinned < vec_capacity b.pinned

-- the record may stand behind those of a book, and the change prepared is what it does to the bank
pub record CanPut (b : Book) (r : Record) (p : Option Prepared) : Type 0 where
  pub next : IsNext b.records.items r
  pub kept : IsKept r
  pub change : MayPut b.entries p
  pub held : length b.records.items + 1 < 2 ^ 32 - 1 → IsHeld (b.records.items ++ r ∷ []) (bank_with b.entries p)

-- the records and their bank, and a request that nothing stands against but a new version's own causes
pub record IsPosed (c : List Record) (es : List Entry) (now : ℕ) (user : User) (ask : Ask) : Type 0 where
  pub held : IsHeld c es
  pub asked : IsAsked c user ask now
  pub keeps : is_look_in ask.request ≡ false
  pub free : IsFree c user ask

-- ---- the numbers of a reply

-- so many entries a request imports
abbrev pub import_size : Request → ℕ
import_size (request.Import gift) = length gift.items
import_size x = 0

-- the quiz that a slot is made of
abbrev pub slotted_quiz : Request → ℕ
slotted_quiz (request.Slot quiz entry max) = quiz
slotted_quiz x = 0

-- a list whose last record a request made, whose numbers a reply has room for
pub record IsShort (l : List Record) (x : Request) : Type 0 where
  pub few : length l < 2 ^ 32 - 1
  pub entries : length (catalog.entries l) ≤ MOST_ENTRIES
  pub made : import_size x ≤ length (catalog.entries l)
  pub slots : length (catalog.slots l (slotted_quiz x)) ≤ MOST_SLOTS

-- ---- what is decided of a request

-- what stands under a key gives this verdict, if any
abbrev pub IsFound : List Record → Option Found → Option Verdict → Type 0
IsFound c None v = v ≡ None
IsFound c (Some (found.Same n)) v = (w : Verdict) × (v ≡ Some w) × IsRepeated c n w
IsFound c (Some (found.Other place)) v = v ≡ Some (Denied (refusal.KeyReused place))

abbrev pub IsDecision : List Record → User → Ask → Decision → Type 0
IsDecision c user ask (decision.Refused r) = verdict_in c user (stand_in ask.key ask.request) ask ≡ Denied r
IsDecision c user ask (decision.Repeated n) = IsRepeated c n (verdict_in c user (stand_in ask.key ask.request) ask)
IsDecision c user ask decision.Free = IsFree c user ask

-- a reply that leaves the list as it is, at whatever moment
pub record IsLooked (c : List Record) (user : User) (ask : Ask) (told : Reply) : Type 0 where
  pub reply : (now : ℕ) → told ≡ catalog_answer c now user ask
  pub list : (now : ℕ) → c ≡ catalog_after c now user ask
