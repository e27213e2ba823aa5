-- A list of records that a keeper keeps, of which one record may be in doubt, and what one call at it comes to.
use Rattle.std.specs.Prelude.{◌≡◌, ℕ, true, List, [], ◌∷◌, ◌++◌, length, map, All, Option, Some, None, is_some, option_map, IfSome, Result, Ok, Err, MatchResult}
use Rattle.qz_disks.specs.declared.keeper.KeepErr.{KeepErr}
use Rattle.qz_disks.specs.declared.keeper.KeepErr.TheVariants.{Fault, Memory}
use Rattle.qz_grading.specs.declared.refusal.Refusal.{Refusal}
use Rattle.qz_grading.specs.declared.refusal.Refusal.TheVariants as refusal
use Rattle.qz_record.specs.Records.{is_spellable}
use Rattle.qz_terms.specs.declared.record.Record.{Record}
use Rattle.qz_terms.specs.Serial.{Held, Mended, doubted}
use Rattle.qz_terms.specs.Spelling.{spelling}
use Rattle.qz_keeper.specs.Custody.{Custody, IsAppended, IsFoundOut, pending, pending_of}

-- a keeper keeps a list: its payloads, where it tells them, are the spellings of these records
abbrev pub KeepsList : Option (List (List ℕ)) → List Record → Type 0
KeepsList payloads list = IfSome payloads (λ told. told ≡ map spelling list)

-- each list that may stand has P: the list, and where a record is in doubt the list with it
pub record EachMayStand (P : List Record → Type 0) (held : Held) : Type 0 where
  pub without : P held.list
  pub with_doubt : IfSome held.doubt (λ r. P (held.list ++ r ∷ []))

-- a list with a record behind it, if there is one
abbrev pub with_next : Option Record → List Record → List Record
with_next None list = list
with_next (Some r) list = list ++ r ∷ []

-- a record has a spelling of its own
abbrev pub IsSpellable : Record → Type 0
IsSpellable r = is_spellable r ≡ true

-- A list and its keeper: the payloads spell it, and behind it the record that was found. What isn't in the list yet may stand next, and
-- is in doubt or found. No record has the spelling of another.
pub record IsKeptList {K : Type 0} (kept : K → Option (List (List ℕ))) (MayFollow : List Record → Record → Type 0) (list : List Record) (c : Custody K) : Type 0 where
  pub keeps : KeepsList (kept c.keeper) (with_next c.found list)
  pub next : IfSome (pending c) (MayFollow list)
  pub one : IfSome c.found (λ _. c.doubt ≡ None)
  pub spellable : All IsSpellable list
  pub next_spellable : IfSome (pending c) IsSpellable

-- a list as it is seen: what isn't in it yet is in doubt
abbrev pub held_in : {K : Type 0} → List Record → Custody K → Held
held_in list c = record { list = list; doubt = pending c }

-- what is said where a keeper didn't answer
abbrev pub refusal_of : KeepErr → Refusal
refusal_of Fault = refusal.KeepFault
refusal_of Memory = refusal.Memory

-- what is told of an answer, or of why it wasn't given
abbrev pub told_of : {A : Type 0} → (Refusal → A) → Result A KeepErr → A
told_of refused (Ok told) = told
told_of refused (Err e) = refused (refusal_of e)

-- What a call at a list that was mended comes to. Answers is what is said over a list, and the list afterwards. The call is
-- answered; or its keeper failed, and the record that its answer puts is in doubt, or one is in doubt already and stays so; or memory
-- was wanting.
pub data CallEnds {A : Type 0} (failed : Type 0) (refused : Refusal → A) (Answers : List Record → A → List Record → Type 0) (mended new : Held) (told : A) : Type 0 where
  answered : mended.doubt ≡ None → new.doubt ≡ None → Answers mended.list told new.list → CallEnds failed refused Answers mended new told
  put_in_doubt : failed → (answer : A) (r : Record) → mended.doubt ≡ None → Answers mended.list answer (mended.list ++ r ∷ []) → new ≡ record { list = mended.list; doubt = Some r } → told ≡ refused refusal.KeepFault → CallEnds failed refused Answers mended new told
  stayed_in_doubt : failed → is_some mended.doubt ≡ true → new ≡ mended → told ≡ refused refusal.KeepFault → CallEnds failed refused Answers mended new told
  no_memory : new ≡ mended → told ≡ refused refusal.Memory → CallEnds failed refused Answers mended new told

-- One call at a list of which a record may be in doubt: the list is mended first.
pub record OneCall {A : Type 0} (failed : Type 0) (refused : Refusal → A) (Answers : List Record → A → List Record → Type 0) (old new : Held) (told : A) : Type 0 where
  pub mended : Held
  pub mends : Mended old mended
  pub ends : CallEnds failed refused Answers mended new told

-- Such a call that looks only: what is said over a list, which stays as it is.
abbrev pub Looks : {A : Type 0} → (List Record → A → Type 0) → List Record → A → List Record → Type 0
Looks Says list told new = Says list told × (new ≡ list)

-- What is stored of a list: it, with its record in doubt in doubt there too; or, where that was found, it and that record.
pub data IsStored (payloads : Option (List (List ℕ))) (payload : Option (List ℕ)) (held : Held) : Type 0 where
  whole : KeepsList payloads held.list → payload ≡ option_map spelling held.doubt → IsStored payloads payload held
  longer : (r : Record) → held.doubt ≡ Some r → KeepsList payloads (held.list ++ r ∷ []) → payload ≡ None → IsStored payloads payload held

-- ---- a mending

-- none is in doubt any more
pub record IsSettled (old new : Held) : Type 0 where
  pub mends : Mended old new
  pub no_doubt : new.doubt ≡ None

-- all is as it was; a keeper fails only where it is asked, of a record in doubt
pub record IsUnsettled (failed : Type 0) (old new : Held) (e : KeepErr) : Type 0 where
  pub same : new ≡ old
  pub in_doubt : e ≡ Fault → is_some old.doubt ≡ true
  pub cause : e ≡ Fault → failed

abbrev pub Settles : Type 0 → Held → Held → Result (Unit {0}) KeepErr → Type 0
Settles failed old new result = MatchResult result (λ _. IsSettled old new) (IsUnsettled failed old new)

-- ---- what follows for a list from its payloads

-- What the calls of a keeper of records do to the payloads, they do to the list.
pub record ListsFollow : Type 0 where
  pub counted : (payloads : Option (List (List ℕ))) (list : List Record) → KeepsList payloads list → IfSome payloads (λ told. length told ≡ length list)
  pub appended : (old new : Option (List (List ℕ))) (list : List Record) (doubt : Option Record) (r : Record) → KeepsList old list → IsAppended old new doubt r → KeepsList new (list ++ r ∷ [])
  pub found : (old new : Option (List (List ℕ))) (list : List Record) (r : Record) (doubt found : Option Record) → KeepsList old list → IsFoundOut old new r doubt found → KeepsList new (with_next found list)
  pub seen : (list : List Record) (r : Record) (doubt found : Option Record) (old new : Option (List (List ℕ))) → IsFoundOut old new r doubt found → Mended (record { list = list; doubt = Some r }) (record { list = list; doubt = pending_of doubt found })
  pub put : (list : List Record) (r : Record) → Mended (record { list = list; doubt = Some r }) (record { list = with_next (Some r) list; doubt = None })
  -- the record put in doubt is the one that the list with it has more
  pub doubted : (list : List Record) (r : Record) → doubted list (list ++ r ∷ []) ≡ record { list = list; doubt = Some r }
