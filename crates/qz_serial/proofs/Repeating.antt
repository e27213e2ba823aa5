-- What the catalogue accepts with a key stands in its list from then on, and acts once.
use Rattle.std.proofs.Common.{◌≡◌, ℕ, true, false, List, [], ◌∷◌, ◌++◌, Option, Some, None, refl, sym, subst, ◌∙◌, eq-eqb}
use Rattle.std.specs.Prelude.{is_some}
use Rattle.qz_terms.specs.declared.ask.Ask.{Ask}
use Rattle.qz_terms.specs.declared.people.Caller.{Caller}
use Rattle.qz_terms.specs.declared.people.User.{User}
use Rattle.qz_terms.specs.declared.record.Record.{Record}
use Rattle.qz_terms.specs.declared.reply.Done.{Done}
use Rattle.qz_terms.specs.declared.reply.Reply.{Reply}
use Rattle.qz_terms.specs.declared.reply.Reply.TheVariants as reply
use Rattle.qz_terms.specs.declared.request.Request.{Request}
use Rattle.qz_terms.specs.declared.request.Request.TheVariants as request
use Rattle.qz_terms.specs.Answer.{said, said_of_put}
use Rattle.qz_terms.specs.Catalog.{asked}
use Rattle.qz_terms.specs.CatalogAnswer.{asks_catalog, catalog_after, catalog_answer, catalog_verdict, is_look_in, keeps_record, looked_in_by, put_in, record_in}
use Rattle.qz_terms.specs.Cause.{Granted, Repeated, by_key, cause_in, forbidden, has_key, is_keyed, is_keyless, keeps_request, missing_in}
use Rattle.qz_terms.proofs.Standing.{Comes, by_key-append, by_key-push, bytes-same, comes, keyed-by, never-granted, passes, repeats}
use Rattle.qz_serial.specs.Repeating.{CatalogActsOnce, StandsInCatalog}
use Rattle.qz_serial.proofs.Longer.{found-stays}
use Rattle.qz_serial.proofs.Same.{kept-same}

-- a record keeps the request that it was asked by
kept-own : (x : Request) (r : Record) → asked r ≡ Some x → keeps_record x ≡ true → keeps_request x r ≡ true
kept-own x r is kept = rw is (kept-same x kept)

stands-longer : (c rest : List Record) (user : User) (ask : Ask) (told : Reply) → StandsInCatalog c user ask told → StandsInCatalog (c ++ rest) user ask told
stands-longer c rest user ask told s = record {
  records = s.records;
  own = s.own;
  may = s.may;
  there = found-stays c rest ask.request s.there;
  found = by_key-append (keeps_request ask.request) user.number ask.key c rest (Repeated s.records s.own) s.found;
  said = s.said;
}

-- a request with a key is no look
no-look : (x : Request) → is_keyless x ≡ false → is_look_in x ≡ false
no-look request.Jobs keyed = absurd cc
no-look (request.Bank entry version) keyed = absurd cc
no-look x keyed = refl

abbrev asking : Caller → Option (List ℕ) → Request → Ask
asking who key x = record { caller = who; key = key; request = x }

stands-by : (c : List Record) (now : ℕ) (user : User) (who : Caller) (key : List ℕ) (x : Request) (place : ℕ) (d : Done) → is_keyless x ≡ false → asks_catalog x ≡ true
    → catalog_answer c now user (asking who (Some key) x) ≡ reply.Ok place d
    → Comes (forbidden user x) (missing_in c x) (by_key (keeps_request x) user.number (Some key) c) (cause_in c (record_in c now user (asking who (Some key) x)) x)
    → StandsInCatalog (catalog_after c now user (asking who (Some key) x)) user (asking who (Some key) x) (reply.Ok place d)
stands-by c now user who key x place d keyed of_catalog told (repeats l r may there found) =
    let ask = asking who (Some key) x in
    let verdict : catalog_verdict c now user ask ≡ Repeated l r = rw (may, there, found) refl in
    let answer : catalog_answer c now user ask ≡ said l r = rw verdict refl in
    let list : catalog_after c now user ask ≡ c = rw verdict refl in
    subst (λ (g : List Record). StandsInCatalog g user ask (reply.Ok place d)) (sym list) (record { records = l; own = r; may = may; there = there; found = found; said = sym told ∙ answer })
stands-by c now user who key x place d keyed of_catalog told (passes may there fresh free) =
    let ask = asking who (Some key) x in
    let r = record_in c now user ask in
    let look = no-look x keyed in
    let verdict : catalog_verdict c now user ask ≡ Granted = rw (may, there, fresh, free) refl in
    let answer : catalog_answer c now user ask ≡ said (c ++ r ∷ []) r = rw (verdict, look) refl in
    let list : catalog_after c now user ask ≡ c ++ r ∷ [] = rw (verdict, look) refl in
    let has : has_key user.number key r ≡ true = rw (eq-eqb user.number user.number refl) (bytes-same key) in
    subst (λ (g : List Record). StandsInCatalog g user ask (reply.Ok place d)) (sym list) (record {
      records = c ++ r ∷ [];
      own = r;
      may = may;
      there = found-stays c (r ∷ []) x there;
      found = by_key-push (keeps_request x) user.number key c r fresh has (kept-own x r refl (rw (of_catalog, look) refl));
      said = sym told ∙ answer;
    })

stands-asked : (c : List Record) (now : ℕ) (user : User) (who : Caller) (key : Option (List ℕ)) (x : Request) (place : ℕ) (d : Done) → is_keyed (asking who key x) ≡ true → is_some key ≡ true → asks_catalog x ≡ true
    → catalog_answer c now user (asking who key x) ≡ reply.Ok place d → StandsInCatalog (catalog_after c now user (asking who key x)) user (asking who key x) (reply.Ok place d)
stands-asked c now user who None x place d keyed some of_catalog told = absurd cc
stands-asked c now user who (Some key) x place d keyed some of_catalog told =
    let ask = asking who (Some key) x in
    stands-by c now user who key x place d (keyed-by (is_keyless x) keyed) of_catalog told
    (comes (forbidden user x) (missing_in c x) (by_key (keeps_request x) user.number (Some key) c) (cause_in c (record_in c now user ask) x) (said_of_put c (put_in c now user ask) (reply.Ok _ (looked_in_by c x))) place d
    (never-granted (keeps_request x) user.number (Some key) c) told)

answered-again : (c : List Record) (now : ℕ) (user : User) (ask : Ask) (told : Reply) → StandsInCatalog c user ask told → (catalog_answer c now user ask ≡ told) × (catalog_after c now user ask ≡ c)
answered-again c now user ask told s =
    let verdict : catalog_verdict c now user ask ≡ Repeated s.records s.own = rw (s.may, s.there, s.found) refl in
    let answer : catalog_answer c now user ask ≡ said s.records s.own = rw verdict refl in
    (answer ∙ sym s.said, rw verdict refl)

pub repeating_law : CatalogActsOnce
repeating_law = record {
  stands = λ c now user ask place d keyed some of_catalog told. stands-asked c now user ask.caller ask.key ask.request place d keyed some of_catalog told;
  stays = stands-longer;
  again = answered-again;
}
