-- The tests of which records may stand behind a catalogue's.
use Rattle.std.proofs.Common.{◌≡◌, ℕ, zero, suc, ◌+◌, ◌-◌, ◌≤◌, Bool, true, false, not, List, [], ◌∷◌, Option, Some, None, length, map, option_map, refl, sym, ap, ◌∙◌, arith}
use Rattle.std.specs.Bool.{Decides}
use Rattle.std.specs.List.{enumerate_from}
use Rattle.std.specs.Prelude.{◌==◌, ◌&&◌, filter_map, if◌then◌else◌, is_none, is_some, slice_get, unwrap_or}
use Rattle.std.proofs.lemmas.Bool.{eq-eqb, eqb-false, eqb-true}
use Rattle.qz_grading.specs.declared.refusal.Refusal.{Refusal}
use Rattle.qz_grading.specs.declared.refusal.Refusal.TheVariants as refusal
use Rattle.qz_grading.specs.Behaviours.{first_some, when}
use Rattle.qz_grading.specs.Grading.{at_place}
use Rattle.qz_terms.specs.declared.people.Role.{Role}
use Rattle.qz_terms.specs.declared.people.User.{User}
use Rattle.qz_terms.specs.declared.record.Event.{Event}
use Rattle.qz_terms.specs.declared.record.Event.TheVariants as event
use Rattle.qz_terms.specs.declared.record.Record.{Record}
use Rattle.qz_terms.specs.declared.record.Terms.{Terms}
use Rattle.qz_terms.specs.declared.request.Request.{Request}
use Rattle.qz_terms.specs.Catalog.{Person, made_user, user_with, users}
use Rattle.qz_terms.specs.CatalogAnswer.{keeps_record, moment_in}
use Rattle.qz_terms.specs.Cause.{Granted, Verdict, by_key, cause_in, denied, forbidden, keeps_request, missing_in, role_may, rule_of}
use Rattle.qz_terms.specs.Kept.{IsKept, KeepsEvent}
use Rattle.qz_terms.specs.Legal.{AskIsAllowed, CatalogEventIsAllowed, IsAllowedInCatalog}
use Rattle.qz_terms.proofs.Standing.{free-by, never-granted}
use Rattle.qz_bank.specs.declared.entry.Entry.{Entry}
use Rattle.qz_bank.specs.Laws.{IsBankOf}
use Rattle.qz_catalog.specs.Allowed.{can_be_asked, can_stand, can_stand_by, is_permitted}
use Rattle.qz_catalog.specs.Applying.{bank_cause, early_cause, stand_in}
use Rattle.qz_catalog.proofs.Deciding.{cause-none, cause-same}
use Rattle.qz_catalog.proofs.Marks.{and-left, and-right}
use Rattle.qz_catalog.proofs.Versions.{bank-free}

-- ---- options

none-of : {A : Type 0} (o : Option A) → is_none o ≡ true → o ≡ None
none-of None is = refl
none-of (Some x) is = absurd cc

pub none-told : {A : Type 0} (o : Option A) (none : Bool) → is_some o ≡ not none → none ≡ is_none o
none-told None true is = refl
none-told None false is = absurd cc
none-told (Some x) true is = absurd cc
none-told (Some x) false is = refl

pub not-some : {A : Type 0} (o : Option A) → is_some o ≡ false → o ≡ None
not-some None is = refl
not-some (Some x) is = absurd cc

both : (b c : Bool) → b ≡ true → c ≡ true → b && c ≡ true
both true c is also = also
both false c is also = absurd cc

-- ---- who asks

number-from : (k : ℕ) (ps : List Person) (i : ℕ) (u : User) → slice_get (map (λ (m : ℕ × Person). user_with m.0 m.1) (enumerate_from k ps)) i ≡ Some u → u.number ≡ k + i
number-from k [] i u got = absurd cc
number-from k (p ∷ ps) zero u got =
    let same : user_with k p ≡ u = cc in
    let number : k ≡ u.number = ap (λ (v : User). v.number) same in
    omega arith
number-from k (p ∷ ps) (suc i) u got = let more = number-from (k + 1) ps i u got in omega arith

numbered-by : (c : List Record) (n : ℕ) (u : User) (b : Bool) → (n == 0) ≡ b → at_place (users c) n ≡ Some u → u.number ≡ n
numbered-by c n u true is got = let none : None ≡ Some u = rw is at got in absurd cc
numbered-by c n u false is got =
    let got : slice_get (users c) (n - 1) ≡ Some u = rw is at got in
    let number = number-from 1 (filter_map made_user c) (n - 1) u got in
    let above = eqb-false n 0 is in
    omega arith

numbered-at : (c : List Record) (n : ℕ) (u : User) → at_place (users c) n ≡ Some u → u.number ≡ n
numbered-at c n u got = numbered-by c n u (n == 0) refl got

-- what a user may ask depends on the number and the role
same-asker : (s u : User) (x : Request) → s.number ≡ u.number → s.role ≡ u.role → forbidden s x ≡ forbidden u x
same-asker s u x number role =
    ap (λ n. when (not (if n == 0 then rule_of x == 4 else role_may s.role (rule_of x))) (refusal.Forbidden (rule_of x))) number
    ∙ ap (λ r. when (not (if u.number == 0 then rule_of x == 4 else role_may r (rule_of x))) (refusal.Forbidden (rule_of x))) role

permitted-by : (c : List Record) (n : ℕ) (role : Role) (x : Request) (s : User) (o : Option User) → at_place (users c) n ≡ o → s.number ≡ n → s.role ≡ role → Some role ≡ option_map (λ (u : User). u.role) o → is_none (forbidden s x) ≡ is_permitted c n x
permitted-by c n role x s None got number is told = absurd cc
permitted-by c n role x s (Some u) got number is told =
    let same : role ≡ u.role = cc in
    rw got (ap is_none (same-asker s u x (number ∙ sym (numbered-at c n u got)) (is ∙ same)))

pub permitted : (c : List Record) (n : ℕ) (role : Role) (x : Request) (s : User) → s.number ≡ n → s.role ≡ role → Some role ≡ option_map (λ (u : User). u.role) (at_place (users c) n) → is_none (forbidden s x) ≡ is_permitted c n x
permitted c n role x s number is told = permitted-by c n role x s (at_place (users c) n) refl number is told

nobody-by : (c : List Record) (n : ℕ) (x : Request) (o : Option User) → at_place (users c) n ≡ o → option_map (λ (u : User). u.role) o ≡ None → false ≡ is_permitted c n x
nobody-by c n x None got none = rw got refl
nobody-by c n x (Some u) got none = absurd cc

pub not-there : (c : List Record) (n : ℕ) (x : Request) → option_map (λ (u : User). u.role) (at_place (users c) n) ≡ None → false ≡ is_permitted c n x
not-there c n x none = nobody-by c n x (at_place (users c) n) refl none

-- ---- causes

causeless-by : (c : List Record) (es : List Entry) (key : Option (List ℕ)) (x : Request) (b : Bool) (o : Option Refusal) → cause_in c (stand_in key x) x ≡ o → IsBankOf c es → missing_in c x ≡ None → early_cause c key x ≡ None → Decides b (bank_cause es x ≡ None) → b ≡ is_none o
causeless-by c es key x b None is bank there early decides = decides.1 (bank-free c es (stand_in key x) x bank there is)
causeless-by c es key x true (Some r) is bank there early decides =
    let none : cause_in c (stand_in key x) x ≡ None = cause-none c es key x bank early (decides.0 refl) in
    absurd (let both : None ≡ Some r = sym none ∙ is in cc)
causeless-by c es key x false (Some r) is bank there early decides = refl

pub causeless : (c : List Record) (es : List Entry) (key : Option (List ℕ)) (x : Request) (b : Bool) → IsBankOf c es → missing_in c x ≡ None → early_cause c key x ≡ None → Decides b (bank_cause es x ≡ None) → b ≡ is_none (cause_in c (stand_in key x) x)
causeless c es key x b bank there early decides = causeless-by c es key x b (cause_in c (stand_in key x) x) refl bank there early decides

-- ---- a record of a request

-- it is one of the catalogue's, whose cause depends on its key and its request alone
cause-of : (c : List Record) (r : Record) (x : Request) → r.owner ≡ 0 → is_none r.terms ≡ true → r.event ≡ event.Asked x → cause_in c r x ≡ cause_in c (stand_in r.key x) x
cause-of c r x owner terms is =
    let none : r.terms ≡ None = none-of r.terms terms in
    ap (λ n. cause_in c (record { moment = r.moment; caller = r.caller; owner = n; key = r.key; terms = r.terms; event = r.event }) x) owner
    ∙ ap (λ (t : Option Terms). cause_in c (record { moment = r.moment; caller = r.caller; owner = 0; key = r.key; terms = t; event = r.event }) x) none
    ∙ ap (λ (e : Event). cause_in c (record { moment = r.moment; caller = r.caller; owner = 0; key = r.key; terms = None; event = e }) x) is
    ∙ cause-same c r.moment r.caller r.key x

-- nothing stands against it
grant : (f m : Option Refusal) (k : Option Verdict) (z : Option Refusal) → f ≡ None → m ≡ None → k ≡ None → z ≡ None → unwrap_or (first_some (denied f ∷ denied m ∷ k ∷ denied z ∷ [])) Granted ≡ Granted
grant f m k z may there new free = rw (may, there, new, free) refl

-- the user who asked
record Asker (c : List Record) (n : ℕ) (x : Request) : Type 0 where
  user : User
  got : at_place (users c) n ≡ Some user
  may : forbidden user x ≡ None

asker-by : (c : List Record) (n : ℕ) (x : Request) (o : Option User) → at_place (users c) n ≡ o → is_permitted c n x ≡ true → Asker c n x
asker-by c n x None got is = let none : false ≡ true = rw got at is in absurd cc
asker-by c n x (Some u) got is = record { user = u; got = got; may = none-of (forbidden u x) (let here : is_none (forbidden u x) ≡ true = rw got at is in here) }

asked-allowed : (c : List Record) (r : Record) (x : Request) → r.owner ≡ 0 → is_none r.terms ≡ true → r.event ≡ event.Asked x → keeps_record x ≡ true → can_be_asked c r.caller r.key x ≡ true → AskIsAllowed c r x
asked-allowed c r x owner terms is keeps can =
    let missing = is_none (missing_in c x) in
    let key = is_none (by_key (keeps_request x) r.caller r.key c) in
    let cause = is_none (cause_in c (stand_in r.key x) x) in
    let second : is_permitted c r.caller x && (missing && (key && cause)) ≡ true = and-right (is_some r.key) _ can in
    let third : missing && (key && cause) ≡ true = and-right (is_permitted c r.caller x) _ second in
    let fourth : key && cause ≡ true = and-right missing _ third in
    let asker = asker-by c r.caller x (at_place (users c) r.caller) refl (and-left (is_permitted c r.caller x) _ second) in
    let number : asker.user.number ≡ r.caller = numbered-at c r.caller asker.user asker.got in
    let there : missing_in c x ≡ None = none-of (missing_in c x) (and-left missing _ third) in
    let new : by_key (keeps_request x) r.caller r.key c ≡ None = none-of (by_key (keeps_request x) r.caller r.key c) (and-left key cause fourth) in
    let free : cause_in c r x ≡ None = cause-of c r x owner terms is ∙ none-of (cause_in c (stand_in r.key x) x) (and-right key cause fourth) in
    record {
      user = asker.user;
      by_caller = asker.got;
      kept = keeps;
      keyed = and-left (is_some r.key) _ can;
      granted = grant (forbidden asker.user x) (missing_in c x) (by_key (keeps_request x) asker.user.number r.key c) (cause_in c r x) asker.may there (ap (λ n. by_key (keeps_request x) n r.key c) number ∙ new) free;
    }

asked-can : (c : List Record) (r : Record) (x : Request) → r.owner ≡ 0 → is_none r.terms ≡ true → r.event ≡ event.Asked x → AskIsAllowed c r x → can_be_asked c r.caller r.key x ≡ true
asked-can c r x owner terms is a =
    let number : a.user.number ≡ r.caller = numbered-at c r.caller a.user a.by_caller in
    let parts = free-by (forbidden a.user x) (missing_in c x) (by_key (keeps_request x) a.user.number r.key c) (cause_in c r x) (never-granted (keeps_request x) a.user.number r.key c) a.granted in
    let may : is_permitted c r.caller x ≡ true = rw (a.by_caller, parts.0) refl in
    let new : by_key (keeps_request x) r.caller r.key c ≡ None = ap (λ n. by_key (keeps_request x) n r.key c) (sym number) ∙ parts.2 in
    let free : cause_in c (stand_in r.key x) x ≡ None = sym (cause-of c r x owner terms is) ∙ parts.3 in
    both _ _ a.keyed (both _ _ may (both _ _ (ap is_none parts.1) (both _ _ (ap is_none new) (ap is_none free))))

-- ---- a record

stands-by : (c : List Record) (r : Record) (e : Event) → r.event ≡ e → r.owner ≡ 0 → is_none r.terms ≡ true → KeepsEvent e → can_stand_by c r e ≡ true → CatalogEventIsAllowed c r e
stands-by c r (event.Asked x) is owner terms keeps can = asked-allowed c r x owner terms is keeps.0 can
stands-by c r e is owner terms keeps can = absurd cc

can-by : (c : List Record) (r : Record) (e : Event) → r.event ≡ e → 1 ≤ length c → r.owner ≡ 0 → is_none r.terms ≡ true → CatalogEventIsAllowed c r e → can_stand_by c r e ≡ true
can-by c r (event.Founded shards token) is some owner terms allowed = let none : length c ≡ 0 = ap (λ (l : List Record). length l) allowed in absurd (omega arith)
can-by c r (event.Asked x) is some owner terms allowed = asked-can c r x owner terms is allowed
can-by c r e is some owner terms allowed = absurd allowed

pub stand-decides : (c : List Record) (r : Record) → 1 ≤ length c → IsKept r → Decides (can_stand c r) (IsAllowedInCatalog c r)
stand-decides c r some kept = (passes, stands)
  where
    passes : can_stand c r ≡ true → IsAllowedInCatalog c r
    passes can =
        let second = and-right (r.owner == 0) _ can in
        let third = and-right (is_none r.terms) _ second in
        let owner : r.owner ≡ 0 = eqb-true r.owner 0 (and-left (r.owner == 0) _ can) in
        let terms : is_none r.terms ≡ true = and-left (is_none r.terms) _ second in
        record {
          owner = owner;
          terms = terms;
          moment = eqb-true (moment_in c r.moment) r.moment (and-left (moment_in c r.moment == r.moment) _ third);
          event = stands-by c r r.event refl owner terms kept.event (and-right (moment_in c r.moment == r.moment) _ third);
        }

    stands : IsAllowedInCatalog c r → can_stand c r ≡ true
    stands a = both _ _ (eq-eqb r.owner 0 a.owner) (both _ _ a.terms (both _ _ (eq-eqb (moment_in c r.moment) r.moment a.moment) (can-by c r r.event refl some a.owner a.terms a.event)))
