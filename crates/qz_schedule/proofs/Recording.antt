-- What a request puts: at most one record, and behind it the catalogue stays legal.
use Rattle.std.proofs.Common.{◌≡◌, ℕ, Bool, true, false, List, [], ◌∷◌, ◌++◌, Option, Some, None, length, drop, refl, sym, ap, ◌∙◌, subst, append-nil, arith, drop_at}
use Rattle.std.specs.Prelude.{if◌then◌else◌, is_none, is_some, option_to_list}
use Rattle.qz_catalog.proofs.Granting.{asked-by, key-needed, legal-push}
use Rattle.qz_terms.specs.declared.ask.Ask.{Ask}
use Rattle.qz_terms.specs.declared.people.User.{User}
use Rattle.qz_terms.specs.declared.record.Record.{Record}
use Rattle.qz_terms.specs.declared.request.Request.{Request}
use Rattle.qz_terms.specs.Answer.{list_with}
use Rattle.qz_terms.specs.CatalogAnswer.{asks_catalog, catalog_after, catalog_verdict, is_look_in, moment_in, put_in, record_in}
use Rattle.qz_terms.specs.Catalog as catalog
use Rattle.qz_terms.specs.Cause.{Denied, Granted, Repeated, Verdict, by_key, cause_in, forbidden, is_keyed, is_keyless, keeps_request, missing_in}
use Rattle.qz_terms.specs.Legal.{IsAllowedInCatalog, IsLegalCatalog}
use Rattle.qz_terms.specs.Lists.{first_of}
use Rattle.qz_terms.proofs.Standing.{free-by, never-granted}

-- ---- one record more at most

pub record AddsTo (l g : List Record) : Type 0 where
  pub put : Option Record
  pub is : g ≡ l ++ option_to_list put

pub adds-none : (l : List Record) → AddsTo l l
adds-none l = record { put = None; is = sym (append-nil l) }

pub list-adds : (v : Verdict) (l : List Record) (o : Option Record) → AddsTo l (list_with v l o)
list-adds (Denied r) l o = adds-none l
list-adds (Repeated k r) l o = adds-none l
list-adds Granted l o = record { put = o; is = refl }

-- what holds with the record that is put, if any, holds of the list that is left
pub list-each : (P : List Record → Type 0) (v : Verdict) (l : List Record) (o : Option Record) → P l → ((r : Record) → v ≡ Granted → o ≡ Some r → P (l ++ r ∷ [])) → P (list_with v l o)
list-each P (Denied r) l o all more = all
list-each P (Repeated k r) l o all more = all
list-each P Granted l None all more = subst P (sym (append-nil l)) all
list-each P Granted l (Some r) all more = more r refl refl

added-by : (l g : List Record) (o : Option Record) (r : Record) → g ≡ l ++ option_to_list o → first_of (drop (length l) g) ≡ Some r → g ≡ l ++ r ∷ []
added-by l g None r is found =
    let rest : drop (length l) g ≡ [] = ap (drop (length l)) is ∙ drop_at l [] (length l) refl in
    let none : None ≡ Some r = rw rest at found in
    absurd cc
added-by l g (Some s) r is found =
    let rest : drop (length l) g ≡ s ∷ [] = ap (drop (length l)) is ∙ drop_at l (s ∷ []) (length l) refl in
    let some : Some s ≡ Some r = rw rest at found in
    let same : s ≡ r = cc in
    is ∙ ap (λ (t : Record). l ++ t ∷ []) same

-- the record behind a list is the one that was put
pub added-is : (l g : List Record) (r : Record) → AddsTo l g → first_of (drop (length l) g) ≡ Some r → g ≡ l ++ r ∷ []
added-is l g r a found = added-by l g a.put r a.is found

-- ---- a request to the catalogue

keyed-by : (x : Request) (key : Option (List ℕ)) (b : Bool) → is_keyless x ≡ b → b ≡ false → (if b then is_none key else is_some key) ≡ true → is_some key ≡ true
keyed-by x key true is not keyed = absurd cc
keyed-by x key false is not keyed = keyed

moment-again : (c : List Record) (now : ℕ) → moment_in c (moment_in c now) ≡ moment_in c now
moment-again c now = omega arith

-- what is known of a request that is granted
record IsGrantedIn (c : List Record) (now : ℕ) (user : User) (ask : Ask) : Type 0 where
  found : catalog.user_of c ask.caller ≡ Some user
  of_catalog : asks_catalog ask.request ≡ true
  keyed : is_keyed ask ≡ true
  granted : catalog_verdict c now user ask ≡ Granted

record-allowed : (c : List Record) (now : ℕ) (user : User) (ask : Ask) → IsGrantedIn c now user ask → is_look_in ask.request ≡ false → IsAllowedInCatalog c (record_in c now user ask)
record-allowed c now user ask g keeps =
    let r = record_in c now user ask in
    let parts = free-by (forbidden user ask.request) (missing_in c ask.request) (by_key (keeps_request ask.request) user.number ask.key c) (cause_in c r ask.request) (never-granted (keeps_request ask.request) user.number ask.key c) g.granted in
    record {
      owner = refl;
      terms = refl;
      moment = moment-again c now;
      event = record {
        user = user;
        by_caller = asked-by c ask.caller user ask.request g.found g.of_catalog keeps parts.0;
        kept = rw (g.of_catalog, keeps) refl;
        keyed = keyed-by ask.request ask.key (is_keyless ask.request) refl (key-needed ask.request g.of_catalog keeps) g.keyed;
        granted = g.granted;
      };
    }

put-allowed : (c : List Record) (now : ℕ) (user : User) (ask : Ask) (r : Record) (look : Bool) → IsGrantedIn c now user ask → is_look_in ask.request ≡ look → (if look then None else Some (record_in c now user ask)) ≡ Some r → IsAllowedInCatalog c r
put-allowed c now user ask r true g is put = absurd cc
put-allowed c now user ask r false g is put =
    let same : record_in c now user ask ≡ r = cc in
    subst (IsAllowedInCatalog c) same (record-allowed c now user ask g is)

pub catalog-legal : (c : List Record) (now : ℕ) (user : User) (ask : Ask) → IsLegalCatalog c → catalog.user_of c ask.caller ≡ Some user → asks_catalog ask.request ≡ true → is_keyed ask ≡ true → IsLegalCatalog (catalog_after c now user ask)
catalog-legal c now user ask legal found of_catalog keyed =
    list-each IsLegalCatalog (catalog_verdict c now user ask) c (put_in c now user ask) legal
    (λ r granted put. legal-push c r legal (put-allowed c now user ask r (is_look_in ask.request) (record { found = found; of_catalog = of_catalog; keyed = keyed; granted = granted }) refl put))

pub catalog-adds : (c : List Record) (now : ℕ) (user : User) (ask : Ask) → AddsTo c (catalog_after c now user ask)
catalog-adds c now user ask = list-adds (catalog_verdict c now user ask) c (put_in c now user ask)
