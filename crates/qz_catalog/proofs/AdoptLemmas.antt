-- A record that is allowed behind others, and is put there.
use Rattle.std.proofs.Common.{◌≡◌, ℕ, ◌+◌, ◌-◌, ◌<◌, ◌≤◌, ◌^◌, Bool, true, false, List, [], ◌∷◌, ◌++◌, Option, Some, None, length, refl, sym, ap, subst, ◌∙◌, arith}
use Rattle.std.specs.Prelude.{◌==◌, vec_len, vec_capacity}
use Rattle.std.proofs.lemmas.List.Elements.{All-nil, All-push}
use Rattle.std.proofs.lemmas.List.Folds.{list_all-append}
use Rattle.qz_grading.specs.Grading.{at_place}
use Rattle.qz_terms.specs.declared.people.User.{User}
use Rattle.qz_terms.specs.declared.record.Event.{Event}
use Rattle.qz_terms.specs.declared.record.Event.TheVariants as event
use Rattle.qz_terms.specs.declared.record.Record.{Record}
use Rattle.qz_terms.specs.declared.request.Request.{Request}
use Rattle.qz_terms.specs.Catalog.{asked, users}
use Rattle.qz_terms.specs.Catalog as catalog
use Rattle.qz_terms.specs.Kept.{IsKept}
use Rattle.qz_terms.specs.Legal.{CatalogEventIsAllowed, IsAllowedInCatalog, IsLegalCatalog}
use Rattle.qz_bank.specs.declared.entry.Entry.{Entry}
use Rattle.qz_bank.specs.Laws.{IsBankOf, changes_bank}
use Rattle.qz_bank.proofs.FollowingLemmas.{other-follows}
use Rattle.qz_roster.specs.People.{is_called}
use Rattle.qz_roster.specs.Roster.{HasRoom, IsNext, IsRosterOf}
use Rattle.qz_catalog.specs.declared.book.Book.{Book}
use Rattle.qz_catalog.specs.Applying.{IsReady, bank_cause, bank_told}
use Rattle.qz_catalog.specs.Holdings.{ArePinned, AreShown, IsBook, IsHeld, founded, keeps_described}
use Rattle.qz_catalog.proofs.Accepted.{accepted}
use Rattle.qz_catalog.proofs.Answering.{longer}
use Rattle.qz_catalog.proofs.Deciding.{bank-after}
use Rattle.qz_catalog.proofs.Granting.{legal-push}
use Rattle.qz_catalog.proofs.ShownLemmas.{called-by}
use Rattle.qz_catalog.proofs.Versions.{bank-free}

-- ---- it may stand behind them

called-of : (c : List Record) (r : Record) (e : Event) → r.event ≡ e → CatalogEventIsAllowed c r e → is_called (length (users c)) r ≡ true
called-of c r (event.Founded shards token) is allowed = rw is refl
called-of c r (event.Asked x) is allowed = called-by c r.caller allowed.user _ allowed.by_caller
called-of c r e is allowed = absurd allowed

pub allowed-next : (c : List Record) (r : Record) → IsLegalCatalog c → IsAllowedInCatalog c r → IsNext c r
allowed-next c r legal allowed = record {
  there = λ x is. (accepted (c ++ r ∷ []) c r [] x (legal-push c r legal allowed) refl is).there;
  called = called-of c r r.event refl allowed.event;
}

-- nothing in the bank stands against it
pub allowed-free : (c : List Record) (es : List Entry) (r : Record) → IsHeld c es → IsAllowedInCatalog c r → (x : Request) → asked r ≡ Some x → bank_cause es x ≡ None
allowed-free c es r held allowed = λ x is.
    let a = accepted (c ++ r ∷ []) c r [] x (legal-push c r held.legal allowed) refl is in
    bank-free c es r x held.bank a.there a.causeless

-- ---- the list with it

bank-more : (c : List Record) (es : List Entry) (r : Record) (o : Option Request) → asked r ≡ o → IsBankOf c es → ((x : Request) → asked r ≡ Some x → bank_cause es x ≡ None) → IsBankOf (c ++ r ∷ []) (bank_told es o)
bank-more c es r None is bank free = other-follows c es r bank (ap changes_bank is)
bank-more c es r (Some x) is bank free = bank-after c es r x bank is (free x is)

pub held-more : (c : List Record) (es : List Entry) (r : Record) → IsHeld c es → IsAllowedInCatalog c r → IsKept r → keeps_described r ≡ true → length c + 1 < 2 ^ 32 - 1 → IsHeld (c ++ r ∷ []) (bank_told es (asked r))
held-more c es r held allowed kept described few = record {
  legal = legal-push c r held.legal allowed;
  kept = All-push IsKept c r held.kept kept;
  described = list_all-append keeps_described c (r ∷ []) ∙ rw (held.described, described) refl;
  some = let long = longer c r in omega arith;
  few = let long = longer c r in omega arith;
  bank = bank-more c es r (asked r) refl held.bank (allowed-free c es r held allowed);
}

-- room that was made changes no reading
pub room-book : (old new : Book) → IsBook old → IsRosterOf new.records.items new.roster → new.records.items ≡ old.records.items → new.shown.items ≡ old.shown.items → new.pinned.items ≡ old.pinned.items → new.entries ≡ old.entries → IsBook new
room-book old new book roster records shown pinned entries = record {
  indexed = record {
    held = subst (λ (l : List Record). IsHeld l new.entries) (sym records) (subst (IsHeld old.records.items) (sym entries) book.indexed.held);
    roster = roster;
  };
  shown = subst (λ (l : List Record). AreShown l new.shown.items) (sym records) (subst (AreShown old.records.items) (sym shown) book.shown);
  pinned = subst (λ (l : List Record). ArePinned l new.pinned.items) (sym records) (subst (ArePinned old.records.items) (sym pinned) book.pinned);
}

-- ---- the first

pub nobody : (n : ℕ) (user : User) (b : Bool) → (n == 0) ≡ b → at_place {A = User} [] n ≡ Some user → ⊥
nobody n user true is got = let none : None ≡ Some user = rw is at got in absurd cc
nobody n user false is got = let none : None ≡ Some user = rw is at got in absurd cc

unasked-by : (r : Record) (e : Event) → r.event ≡ e → CatalogEventIsAllowed [] r e → asked r ≡ None
unasked-by r (event.Founded shards token) is allowed = rw is refl
unasked-by r (event.Asked x) is allowed = absurd (nobody r.caller allowed.user (r.caller == 0) refl allowed.by_caller)
unasked-by r e is allowed = absurd allowed

-- no request made it
pub first-unasked : (r : Record) → IsAllowedInCatalog [] r → asked r ≡ None
first-unasked r allowed = unasked-by r r.event refl allowed.event

-- of no record
none-before : (k : List Record) (r : Record) (rest : List Record) → [] ≡ k ++ r ∷ rest → ⊥
none-before [] r rest is = absurd cc
none-before (s ∷ k) r rest is = absurd cc

pub legal-none : IsLegalCatalog []
legal-none = record { each = λ k r rest is. absurd (none-before k r rest is) }

bank-none : IsBankOf [] []
bank-none = record { entries = refl; none_ahead = λ e ahead. refl }

pub held-first : (r : Record) → IsAllowedInCatalog [] r → IsKept r → IsHeld (r ∷ []) []
held-first r allowed kept = record {
  legal = legal-push [] r legal-none allowed;
  kept = All-push IsKept [] r (All-nil IsKept) kept;
  described = rw (first-unasked r allowed) refl;
  some = omega arith;
  few = omega arith;
  bank = other-follows [] [] r bank-none (ap changes_bank (first-unasked r allowed));
}

shown-none : AreShown [] []
shown-none = record { count = refl; each = λ k r x got asks. let none : None ≡ Some r = got in absurd cc }

-- it may be put into a book of none, for which there is room
pub begin-ready : (b : Book) (r : Record) → IsAllowedInCatalog [] r → IsKept r → b.records.items ≡ [] → b.entries ≡ [] → b.shown.items ≡ [] → b.pinned.items ≡ [] → IsRosterOf b.records.items b.roster → HasRoom b.roster r
    → vec_len b.records < vec_capacity b.records → vec_len b.shown < vec_capacity b.shown → vec_len b.pinned < vec_capacity b.pinned → IsReady b r None
begin-ready b r allowed kept records entries shown pinned roster room place number pin = record {
  roster = roster;
  shown = subst (λ (l : List Record). AreShown l b.shown.items) (sym records) (subst (AreShown []) (sym shown) shown-none);
  pinned = subst (λ (l : List Record). ArePinned l b.pinned.items) (sym records) (subst (ArePinned []) (sym pinned) (record { each = refl }));
  next = subst (λ (l : List Record). IsNext l r) (sym records) (allowed-next [] r legal-none allowed);
  entries = subst (λ (l : List Record). length (catalog.entries l) ≤ 20000) (sym records) (omega arith);
  held = subst (λ (l : List Record). IsHeld (l ++ r ∷ []) b.entries) (sym records) (subst (IsHeld (r ∷ [])) (sym entries) (held-first r allowed kept));
  change = tt;
  room = room;
  records = place;
  numbers = number;
  pins = pin;
}

-- ---- a founding

pub founding-allowed : (r : Record) (shards : ℕ) (token : List ℕ) → r ∷ [] ≡ founded shards token → IsAllowedInCatalog [] r
founding-allowed r shards token is =
    let same : r ≡ record { moment = 0; caller = 0; owner = 0; key = None; terms = None; event = event.Founded shards token } = cc in
    subst (IsAllowedInCatalog []) (sym same) (record { owner = refl; terms = refl; moment = refl; event = refl })
