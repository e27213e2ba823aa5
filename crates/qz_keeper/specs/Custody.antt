-- What a keeper of records has, and what its calls do to the payloads kept and to the record in doubt.
use Rattle.std.specs.Prelude.{◌≡◌, ℕ, true, List, Option, Some, None, option_map, IfSome, Result, MatchResult}
use Rattle.qz_disks.specs.declared.keeper.KeepErr.{KeepErr}
use Rattle.qz_disks.specs.declared.keeper.KeepErr.TheVariants.{Fault, Memory}
use Rattle.qz_disks.specs.Keepers.{with_one_more}
use Rattle.qz_record.specs.Records.{is_spellable}
use Rattle.qz_terms.specs.declared.record.Record.{Record}
use Rattle.qz_terms.specs.Spelling.{spelling}

-- the keeper of the payloads, the record in doubt, and one that was found to be kept and isn't in the list yet
pub record Custody (K : Type 0) : Type 0 where
  pub keeper : K
  pub doubt : Option Record
  pub found : Option Record

-- The payload in doubt is the spelling of the record in doubt, which is a spelling of its own. One that was found isn't in doubt.
pub record IsInCustody (payload : Option (List ℕ)) (doubt found : Option Record) : Type 0 where
  pub spelled : payload ≡ option_map spelling doubt
  pub spellable : IfSome doubt (λ r. is_spellable r ≡ true)
  pub one : IfSome found (λ r. (is_spellable r ≡ true) × (doubt ≡ None))

-- none is in doubt, and none waits to be put
pub record IsReady {K : Type 0} (c : Custody K) : Type 0 where
  pub no_doubt : c.doubt ≡ None
  pub none_found : c.found ≡ None

-- what a list doesn't have yet, and may have
abbrev pub pending_of : Option Record → Option Record → Option Record
pending_of None found = found
pending_of (Some r) found = Some r

abbrev pub pending : {K : Type 0} → Custody K → Option Record
pending c = pending_of c.doubt c.found

-- the payloads with a record's spelling, where they are told
abbrev pub with_record : Record → Option (List (List ℕ)) → Option (List (List ℕ))
with_record r payloads = option_map (with_one_more (spelling r)) payloads

-- ---- an append

-- the record is kept
pub record IsAppended (old new : Option (List (List ℕ))) (doubt : Option Record) (r : Record) : Type 0 where
  pub kept : new ≡ with_record r old
  pub no_doubt : doubt ≡ None
  pub spellable : is_spellable r ≡ true

-- it isn't kept: after a fault it is in doubt, and where memory was wanting none is
abbrev pub doubt_after : Record → KeepErr → Option Record
doubt_after r Fault = Some r
doubt_after r Memory = None

pub record IsNotAppended (old new : Option (List (List ℕ))) (doubt : Option Record) (r : Record) (e : KeepErr) : Type 0 where
  pub kept : new ≡ old
  pub in_doubt : doubt ≡ doubt_after r e
  pub spellable : e ≡ Fault → is_spellable r ≡ true

-- the record was appended, unless that failed
abbrev pub Appends : Option (List (List ℕ)) → Option (List (List ℕ)) → Option Record → Record → Option KeepErr → Type 0
Appends old new doubt r None = IsAppended old new doubt r
Appends old new doubt r (Some e) = IsNotAppended old new doubt r e

-- ---- finding out

-- the payloads with the record that was found, if one was
abbrev pub with_found : Option Record → Option (List (List ℕ)) → Option (List (List ℕ))
with_found None payloads = payloads
with_found (Some r) payloads = with_record r payloads

-- the record in doubt was found or dropped: the payloads are as before, with it or without
pub record IsFoundOut (old new : Option (List (List ℕ))) (r : Record) (doubt found : Option Record) : Type 0 where
  pub kept : new ≡ with_found found old
  pub was : IfSome found (λ x. x ≡ r)
  pub no_doubt : doubt ≡ None

-- it is in doubt still
pub record StaysInDoubt (old new : Option (List (List ℕ))) (r : Record) (doubt found : Option Record) : Type 0 where
  pub kept : new ≡ old
  pub in_doubt : doubt ≡ Some r
  pub none_found : found ≡ None

abbrev pub FindsOut : Option (List (List ℕ)) → Option (List (List ℕ)) → Record → Option Record → Option Record → Result (Unit {0}) KeepErr → Type 0
FindsOut old new r doubt found result = MatchResult result (λ _. IsFoundOut old new r doubt found) (λ _. StaysInDoubt old new r doubt found)
