-- One more record that is granted: the list stays legal, kept and few, and the bank follows it.
use Rattle.std.proofs.Common.{◌≡◌, ℕ, suc, ◌+◌, ◌-◌, ◌≤◌, inl, inr, max, Bool, true, false, not, List, [], ◌∷◌, ◌++◌, Option, Some, None, length, map, refl, sym, ap, subst, arith, All}
use Rattle.std.specs.List.{enumerate_from, last_or}
use Rattle.std.specs.Prelude.{◌==◌, filter, filter_map, if◌then◌else◌, is_none, is_some, slice_get, unwrap_or}
use Rattle.std.proofs.lemmas.Bool.{eqb-true, le-leb, leb-true}
use Rattle.std.proofs.lemmas.List.Elements.{All-head, All-tail}
use Rattle.qz_grading.specs.Grading.{at_place}
use Rattle.qz_terms.specs.declared.ask.Ask.{Ask}
use Rattle.qz_terms.specs.declared.people.Caller.{Caller}
use Rattle.qz_terms.specs.declared.people.Caller.TheVariants as caller
use Rattle.qz_terms.specs.declared.people.User.{User}
use Rattle.qz_terms.specs.declared.record.Record.{Record}
use Rattle.qz_terms.specs.declared.request.Request.{Request}
use Rattle.qz_terms.specs.declared.request.Request.TheVariants as request
use Rattle.qz_terms.specs.Catalog.{Person, has_token, made_user, user_of, user_of_token, user_with, users, worker}
use Rattle.qz_terms.specs.CatalogAnswer.{asks_catalog, is_look_in, moment_in, record_in}
use Rattle.qz_terms.specs.Cause.{Granted, forbidden, is_keyless, verdict_in}
use Rattle.qz_terms.specs.Kept.{IsKept, KeepsAsked, KeepsRequest, is_moment}
use Rattle.qz_terms.specs.Legal.{IsAllowedInCatalog, IsLegalCatalog}
use Rattle.qz_terms.specs.Lists.{first_of}
use Rattle.qz_terms.proofs.Walks.{split-push}
use Rattle.qz_catalog.specs.Applying.{IsAsked}

-- ---- one more record of a legal list

pub legal-push : (l : List Record) (r : Record) → IsLegalCatalog l → IsAllowedInCatalog l r → IsLegalCatalog (l ++ r ∷ [])
legal-push l r legal allowed = record {
  each = λ k s rest e. elim (split-push l k r s rest e) [
    | inl same ↦ subst (λ (t : List Record). IsAllowedInCatalog t s) same.0 (subst (λ (t : Record). IsAllowedInCatalog l t) same.1 allowed)
    | inr behind ↦ legal.each k s behind.0 behind.1
  ];
}

-- ---- its caller

-- a user that is found by a test has the place of its number
pub record IsNumbered (us : List User) (n : ℕ) (u : User) : Type 0 where
  pub from : n ≤ u.number
  pub at : slice_get us (u.number - n) ≡ Some u

numbered-behind : (x : User) (us : List User) (n : ℕ) (u : User) → IsNumbered us (n + 1) u → IsNumbered (x ∷ us) n u
numbered-behind x us n u rest =
    let more : u.number - n ≡ suc (u.number - (n + 1)) = let from = rest.from in omega arith in
    record { from = let from = rest.from in omega arith; at = rw more rest.at }

numbered-step : (p : User → Bool) (n : ℕ) (q : Person) (qs : List Person) (u : User) (b : Bool) → p (user_with n q) ≡ b
    → first_of (filter p (map (λ (m : ℕ × Person). user_with m.0 m.1) (enumerate_from n (q ∷ qs)))) ≡ Some u
    → (first_of (filter p (map (λ (m : ℕ × Person). user_with m.0 m.1) (enumerate_from (n + 1) qs))) ≡ Some u → IsNumbered (map (λ (m : ℕ × Person). user_with m.0 m.1) (enumerate_from (n + 1) qs)) (n + 1) u)
    → IsNumbered (map (λ (m : ℕ × Person). user_with m.0 m.1) (enumerate_from n (q ∷ qs))) n u
numbered-step p n q qs u true is found later =
    let first : Some (user_with n q) ≡ Some u = rw is at found in
    let same : user_with n q ≡ u = cc in
    let number : n ≡ u.number = ap (λ (x : User). x.number) same in
    let none : u.number - n ≡ 0 = omega arith in
    record { from = omega arith; at = rw none first }
numbered-step p n q qs u false is found later = numbered-behind (user_with n q) (map (λ (m : ℕ × Person). user_with m.0 m.1) (enumerate_from (n + 1) qs)) n u (later (rw is at found))

numbered : (p : User → Bool) (n : ℕ) (qs : List Person) (u : User) → first_of (filter p (map (λ (m : ℕ × Person). user_with m.0 m.1) (enumerate_from n qs))) ≡ Some u → IsNumbered (map (λ (m : ℕ × Person). user_with m.0 m.1) (enumerate_from n qs)) n u
numbered p n [] u found = absurd cc
numbered p n (q ∷ qs) u found = numbered-step p n q qs u (p (user_with n q)) refl found (λ e. numbered p (n + 1) qs u e)

at-number : {A : Type 0} (xs : List A) (n : ℕ) (x : A) (b : Bool) → (n == 0) ≡ b → 1 ≤ n → slice_get xs (n - 1) ≡ Some x → at_place xs n ≡ Some x
at-number xs n x true is from at = let zero_is = eqb-true n 0 is in absurd (omega arith)
at-number xs n x false is from at = rw is at

pub user-at : (c : List Record) (token : List ℕ) (u : User) → user_of_token c token ≡ Some u → at_place (users c) u.number ≡ Some u
user-at c token u found =
    let at = numbered (has_token token) 1 (filter_map made_user c) u found in
    at-number (users c) u.number u (u.number == 0) refl at.from at.at

-- ---- its request

pub key-needed : (x : Request) → asks_catalog x ≡ true → is_look_in x ≡ false → is_keyless x ≡ false
key-needed request.Jobs asks keeps = absurd cc
key-needed (request.Bank entry version) asks keeps = absurd cc
key-needed (request.Work job shard) asks keeps = absurd cc
key-needed (request.Settle attempt) asks keeps = absurd cc
key-needed (request.Live shard attempt) asks keeps = absurd cc
key-needed (request.View attempt slot) asks keeps = absurd cc
key-needed (request.Total attempt) asks keeps = absurd cc
key-needed (request.Page attempt) asks keeps = absurd cc
key-needed (request.Grade quiz user) asks keeps = absurd cc
key-needed (request.Report quiz) asks keeps = absurd cc
key-needed x asks keeps = refl

keeps-by : (x : Request) → asks_catalog x ≡ true → KeepsAsked x → KeepsRequest x
keeps-by (request.Save attempt slot certainty response) asks keeps = absurd cc
keeps-by (request.Submit attempt slot certainty response) asks keeps = absurd cc
keeps-by x asks keeps = keeps

-- a worker may ask for nothing that is kept
worker-barred : (x : Request) → asks_catalog x ≡ true → is_look_in x ≡ false → forbidden worker x ≡ None → ⊥
worker-barred request.Jobs asks keeps free = absurd cc
worker-barred (request.Bank entry version) asks keeps free = absurd cc
worker-barred (request.Work job shard) asks keeps free = absurd cc
worker-barred (request.Settle attempt) asks keeps free = absurd cc
worker-barred (request.Live shard attempt) asks keeps free = absurd cc
worker-barred x asks keeps free = absurd cc

pub asked-by : (c : List Record) (who : Caller) (user : User) (x : Request) → user_of c who ≡ Some user → asks_catalog x ≡ true → is_look_in x ≡ false → forbidden user x ≡ None → at_place (users c) user.number ≡ Some user
asked-by c (caller.Token token) user x found asks keeps free = user-at c token user found
asked-by c caller.Worker user x found asks keeps free =
    let same : worker ≡ user = cc in
    absurd (worker-barred x asks keeps (subst (λ (u : User). forbidden u x ≡ None) (sym same) free))

keyed-by : (x : Request) (key : Option (List ℕ)) (b : Bool) → is_keyless x ≡ b → b ≡ false → (if b then is_none key else is_some key) ≡ true → is_some key ≡ true
keyed-by x key true is not keyed = absurd cc
keyed-by x key false is not keyed = keyed

-- ---- its moment

moment-again : (c : List Record) (now : ℕ) → moment_in c (moment_in c now) ≡ moment_in c now
moment-again c now = omega arith

last-kept : (c : List Record) (o : Option ℕ) → is_moment (unwrap_or o 0) ≡ true → All IsKept c → is_moment (unwrap_or (last_or o (map (λ (r : Record). r.moment) c)) 0) ≡ true
last-kept [] o is kept = is
last-kept (r ∷ rs) o is kept = last-kept rs (Some r.moment) (All-head IsKept r rs kept).moment (All-tail IsKept r rs kept)

greater-kept : (m n : ℕ) → is_moment m ≡ true → is_moment n ≡ true → is_moment (max m n) ≡ true
greater-kept m n first second =
    let below = leb-true m 4102444799 first in
    let also = leb-true n 4102444799 second in
    le-leb (max m n) 4102444799 (omega arith)

last-item : (c : List Record) (o : Option ℕ) (r : Record) → slice_get c (length c - 1) ≡ Some r → last_or o (map (λ (s : Record). s.moment) c) ≡ Some r.moment
last-item [] o r at = absurd cc
last-item (x ∷ []) o r at = let same : x ≡ r = cc in ap (λ (s : Record). Some s.moment) same
last-item (x ∷ y ∷ ys) o r at =
    let place : length (x ∷ y ∷ ys) - 1 ≡ suc (length (y ∷ ys) - 1) = omega arith in
    last-item (y ∷ ys) (Some x.moment) r (rw place at at)

pub moment-told : (c : List Record) (now : ℕ) (r : Record) → slice_get c (length c - 1) ≡ Some r → max now r.moment ≡ moment_in c now
moment-told c now r at = ap (λ (o : Option ℕ). max now (unwrap_or o 0)) (sym (last-item c None r at))

-- ---- the record

pub allowed : (c : List Record) (now : ℕ) (user : User) (ask : Ask) → IsAsked c user ask now → is_look_in ask.request ≡ false → forbidden user ask.request ≡ None → verdict_in c user (record_in c now user ask) ask ≡ Granted → IsAllowedInCatalog c (record_in c now user ask)
allowed c now user ask asked keeps free granted = record {
  owner = refl;
  terms = refl;
  moment = moment-again c now;
  event = record {
    user = user;
    by_caller = asked-by c ask.caller user ask.request asked.by_user asked.of_catalog keeps free;
    kept = rw (asked.of_catalog, keeps) refl;
    keyed = keyed-by ask.request ask.key (is_keyless ask.request) refl (key-needed ask.request asked.of_catalog keeps) asked.keyed;
    granted = granted;
  };
}

pub kept : (c : List Record) (now : ℕ) (user : User) (ask : Ask) → All IsKept c → IsAsked c user ask now → is_look_in ask.request ≡ false → IsKept (record_in c now user ask)
kept c now user ask all asked keeps = record {
  moment = greater-kept now _ asked.kept_moment (last-kept c None refl all);
  terms = refl;
  settings = refl;
  event = (rw (asked.of_catalog, keeps) refl, keeps-by ask.request asked.of_catalog asked.kept_request);
}
