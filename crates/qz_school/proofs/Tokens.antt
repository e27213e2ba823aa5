-- In a legal catalogue the user at a place is the one who is found by the own token.
use Rattle.std.proofs.Common.{◌≡◌, ℕ, zero, suc, ◌+◌, ◌-◌, ◌⊎◌, inl, inr, Bool, true, false, List, [], ◌∷◌, ◌++◌, Option, Some, None, length, option_map, refl, sym, ap, subst, ◌∙◌, append_assoc, append-nil}
use Rattle.std.specs.Prelude.{◌==◌, filter, filter_map, slice_get}
use Rattle.std.proofs.lemmas.List.Elements.{filter-append}
use Rattle.qz_grading.specs.declared.refusal.Refusal.TheVariants as refusal
use Rattle.qz_grading.specs.Grading.{at_place}
use Rattle.qz_terms.specs.declared.people.User.{User}
use Rattle.qz_terms.specs.declared.record.Event.{Event}
use Rattle.qz_terms.specs.declared.record.Event.TheVariants as event
use Rattle.qz_terms.specs.declared.record.Record.{Record}
use Rattle.qz_terms.specs.declared.request.Request.{Request}
use Rattle.qz_terms.specs.declared.request.Request.TheVariants as request
use Rattle.qz_terms.specs.Catalog.{Person, has_token, made_user, person_by, person_in, token_place, user_of_token, user_with, users}
use Rattle.qz_terms.specs.Cause.{by_key, cause_in, forbidden, keeps_request, missing_in}
use Rattle.qz_terms.specs.Legal.{AskIsAllowed, CatalogEventIsAllowed, IsLegalCatalog}
use Rattle.qz_terms.specs.Lists.{first_of}
use Rattle.qz_terms.proofs.Readings.{first_of-append}
use Rattle.qz_terms.proofs.Standing.{bytes-same, free-by, never-granted, unmapped}
use Rattle.qz_school.specs.Agreement.{UsersHaveTokens}
use Rattle.qz_school.proofs.Callers.{token-placed}
use Rattle.qz_serial.proofs.Longer.{first-there, later-users, users-append}

-- each of these users is found by the own token
record FindsOwn (us : List User) : Type 0 where
  own : (i : ℕ) (u : User) → slice_get us i ≡ Some u → first_of (filter (has_token u.token) us) ≡ Some u

-- a token that nobody of these has
record IsNew (us : List User) (token : List ℕ) : Type 0 where
  none : first_of (filter (has_token token) us) ≡ None

none-of : {A : Type 0} (xs : List A) → first_of xs ≡ None → xs ≡ []
none-of [] none = refl
none-of (x ∷ xs) none = absurd cc

get-push : {A : Type 0} (xs : List A) (x : A) (i : ℕ) (y : A) → slice_get (xs ++ x ∷ []) i ≡ Some y → (slice_get xs i ≡ Some y) ⊎ (x ≡ y)
get-push [] x zero y found = inr cc
get-push [] x (suc i) y found = absurd cc
get-push (z ∷ xs) x zero y found = inl found
get-push (z ∷ xs) x (suc i) y found = get-push xs x i y found

finds-push : (us : List User) (v : User) → FindsOwn us → IsNew us v.token → FindsOwn (us ++ v ∷ [])
finds-push us v finds new = record {
  own = λ i u found. elim (get-push us v i u found) [
    | inl old ↦ ap first_of (filter-append (has_token u.token) us (v ∷ [])) ∙ first_of-append (filter (has_token u.token) us) (filter (has_token u.token) (v ∷ [])) u (finds.own i u old)
    | inr same ↦ subst (λ (w : User). first_of (filter (has_token w.token) (us ++ v ∷ [])) ≡ Some w) same (own-token us v new)
  ];
}
  where
    own-token : (us : List User) (v : User) → IsNew us v.token → first_of (filter (has_token v.token) (us ++ v ∷ [])) ≡ Some v
    own-token us v new =
        let nobody = none-of (filter (has_token v.token) us) new.none in
        ap first_of (filter-append (has_token v.token) us (v ∷ [])) ∙ rw (nobody, bytes-same v.token) refl

-- ---- one record more

-- who a record makes has a token that is new
user-new-by : (l : List Record) (r : Record) (x : Request) (p : Person) → AskIsAllowed l r x → person_by x ≡ Some p → IsNew (users l) p.token
user-new-by l r (request.User name role token) p a made =
    let parts = free-by (forbidden a.user (request.User name role token)) (missing_in l (request.User name role token)) (by_key (keeps_request (request.User name role token)) a.user.number r.key l) (cause_in l r (request.User name role token)) (never-granted (keeps_request (request.User name role token)) a.user.number r.key l) a.granted in
    let first = first-there (option_map refusal.KeyReused (token_place l token)) _ parts.3 in
    let nobody : user_of_token l token ≡ None = unmapped _ (user_of_token l token) (unmapped refusal.KeyReused (token_place l token) first.0) in
    let same : record { name = name; role = role; token = token } ≡ p = cc in
    let token_is : p.token ≡ token = ap (λ (q : Person). q.token) (sym same) in
    record { none = subst (λ (t : List ℕ). first_of (filter (has_token t) (users l)) ≡ None) (sym token_is) nobody }
user-new-by l r x p a made = absurd cc

user-new : (l : List Record) (r : Record) (e : Event) (p : Person) → CatalogEventIsAllowed l r e → person_in e ≡ Some p → IsNew (users l) p.token
user-new l r (event.Founded shards token) p allowed made = record { none = rw allowed refl }
user-new l r (event.Asked x) p allowed made = user-new-by l r x p allowed made
user-new l r e p allowed made = absurd allowed

users-push-by : (l : List Record) (r : Record) (o : Option Person) → made_user r ≡ o → ((p : Person) → o ≡ Some p → IsNew (users l) p.token) → FindsOwn (users l) → FindsOwn (users l ++ later-users l (r ∷ []))
users-push-by l r None is new finds = rw (is, append-nil (users l)) finds
users-push-by l r (Some p) is new finds =
    let v = user_with (1 + length (filter_map made_user l)) p in
    let more : users l ++ later-users l (r ∷ []) ≡ users l ++ v ∷ [] = rw is refl in
    subst FindsOwn (sym more) (finds-push (users l) v finds (new p refl))

users-push : (c l : List Record) (r : Record) (rest : List Record) → IsLegalCatalog c → c ≡ l ++ r ∷ rest → FindsOwn (users l) → FindsOwn (users (l ++ r ∷ []))
users-push c l r rest legal e finds =
    let allowed = legal.each l r rest e in
    subst FindsOwn (sym (users-append l (r ∷ []))) (users-push-by l r (made_user r) refl (λ p made. user-new l r r.event p allowed.event made) finds)

finds-from : (c l rest : List Record) → IsLegalCatalog c → c ≡ l ++ rest → FindsOwn (users l) → FindsOwn (users c)
finds-from c l [] legal e finds = subst (λ (d : List Record). FindsOwn (users d)) (sym (e ∙ append-nil l)) finds
finds-from c l (r ∷ rest) legal e finds = finds-from c (l ++ r ∷ []) rest legal (e ∙ sym (append_assoc l (r ∷ []) rest)) (users-push c l r rest legal e finds)

finds-none : FindsOwn []
finds-none = record { own = λ i u found. absurd (no-item i u found) }
  where
    no-item : (i : ℕ) (u : User) → slice_get [] i ≡ Some u → ⊥
    no-item i u found = absurd cc

found-by : (us : List User) (n : ℕ) (u : User) (b : Bool) → (n == 0) ≡ b → FindsOwn us → at_place us n ≡ Some u → first_of (filter (has_token u.token) us) ≡ Some u
found-by us n u true is finds found = let none : None ≡ Some u = rw is at found in absurd cc
found-by us n u false is finds found = finds.own (n - 1) u (rw is at found)

pub tokens_law : UsersHaveTokens
tokens_law = record {
  place = token-placed;
  token = λ c n u legal found. found-by (users c) n u (n == 0) refl (finds-from c [] c legal refl finds-none) found;
}
