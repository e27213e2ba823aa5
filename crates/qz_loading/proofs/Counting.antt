-- The first record of a catalogue, and the lists of shards.
use Rattle.std.proofs.Common.{◌≡◌, ℕ, ◌≤◌, List, [], ◌∷◌, length, get_or, None, Some, refl, true, false, Bool, ◌==◌, arith}
use Rattle.qz_grading.specs.Grading.{at_place}
use Rattle.qz_terms.specs.declared.people.User.{User}
use Rattle.qz_terms.specs.declared.record.Event.{Event}
use Rattle.qz_terms.specs.declared.record.Event.TheVariants as event
use Rattle.qz_terms.specs.declared.record.Record.{Record}
use Rattle.qz_terms.specs.Legal.{CatalogEventIsAllowed, IsLegalCatalog}

nobody : (n : ℕ) (user : User) (b : Bool) → (n == 0) ≡ b → at_place {A = User} [] n ≡ Some user → ⊥
nobody n user true is got = let none : None ≡ Some user = rw is at got in absurd cc
nobody n user false is got = let none : None ≡ Some user = rw is at got in absurd cc

-- an event is a founding
pub record IsFounding (e : Event) : Type 0 where
  pub shards : ℕ
  pub token : List ℕ
  pub is : e ≡ event.Founded shards token

begins : (r : Record) (e : Event) → CatalogEventIsAllowed [] r e → IsFounding e
begins r (event.Founded shards token) allowed = record { shards = shards; token = token; is = refl }
begins r (event.Asked x) allowed = absurd (nobody r.caller allowed.user (r.caller == 0) refl allowed.by_caller)
begins r e allowed = absurd allowed

pub first_founds : (c : List Record) (r : Record) → IsLegalCatalog c → 1 ≤ length c → r ≡ get_or c 0 r → IsFounding r.event
first_founds [] r legal some is = absurd (omega arith)
first_founds (first ∷ rest) r legal some is = rw is (begins first first.event (legal.each [] first rest refl).event)
