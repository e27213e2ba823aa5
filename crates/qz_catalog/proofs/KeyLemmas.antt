-- What stands under a key.
use Rattle.std.proofs.Common.{◌≡◌, ℕ, ◌+◌, ◌≤◌, length-append, Bool, true, false, List, [], ◌∷◌, ◌++◌, Option, Some, None, length, take, drop, get_or, refl, sym, ap, ◌∙◌, arith, append_assoc}
use Rattle.std.specs.List.{position_from}
use Rattle.std.specs.Option.{option_or}
use Rattle.std.specs.Prelude.{◌==◌, ◌&&◌, is_some, slice_get, position, filter}
use Rattle.std.proofs.lemmas.Iterator.Adapters.{position_from-zero}
use Rattle.std.proofs.lemmas.List.{length-take-le, take-append-drop}
use Rattle.std.proofs.lemmas.Option.{get_or_from_slice_get, slice_get_read, slice_get_within}
use Rattle.qz_grading.specs.declared.refusal.Refusal.TheVariants as refusal
use Rattle.qz_terms.specs.declared.record.Event.{Event}
use Rattle.qz_terms.specs.declared.record.Event.TheVariants as event
use Rattle.qz_terms.specs.declared.record.Record.{Record}
use Rattle.qz_terms.specs.declared.request.Request.{Request}
use Rattle.qz_terms.specs.Catalog.{asked}
use Rattle.qz_terms.specs.Cause.{Denied, Repeated, by_key, has_key, keeps_request, place_by, repeated_or_reused, said_at, same_request_by}
use Rattle.qz_terms.specs.Legal.{CatalogEventIsAllowed, IsLegalCatalog}
use Rattle.qz_terms.specs.Lists.{first_of}
use Rattle.qz_terms.proofs.Walks.{IsFirstAt, found_up_to, found_nowhere, take-one_more}
use Rattle.qz_roster.specs.People.{is_asked_with}
use Rattle.qz_catalog.specs.declared.keys.Found.TheVariants as found
use Rattle.qz_catalog.specs.Applying.{IsFound}

-- ---- a record at a place

pub split-at : (c : List Record) (n : ℕ) (r : Record) → slice_get c n ≡ Some r → (take (n + 1) c ≡ take n c ++ r ∷ []) × (c ≡ take n c ++ r ∷ drop (n + 1) c)
split-at c n r at =
    let inside = slice_get_within c n r at in
    let front = take-one_more c n r inside (sym (get_or_from_slice_get c n r r at)) in
    (front, sym (take-append-drop (n + 1) c) ∙ ap (λ (t : List Record). t ++ drop (n + 1) c) front ∙ append_assoc (take n c) (r ∷ []) (drop (n + 1) c))

place-told : (k l : List Record) (r : Record) (e : Event) → CatalogEventIsAllowed k r e → place_by l r e ≡ length l
place-told k l r (event.Founded shards token) allowed = refl
place-told k l r (event.Asked x) allowed = refl
place-told k l r e allowed = absurd allowed

said-place : (c : List Record) (n : ℕ) (r : Record) → IsLegalCatalog c → slice_get c n ≡ Some r → said_at (take (n + 1) c) r ≡ n + 1
said-place c n r legal at =
    let inside = slice_get_within c n r at in
    place-told (take n c) (take (n + 1) c) r r.event (legal.each (take n c) r (drop (n + 1) c) (split-at c n r at).1).event ∙ length-take-le (n + 1) c (omega arith)

-- ---- under a key

pub key-nowhere : (is_same : Record → Bool) (caller : ℕ) (key : List ℕ) (c : List Record) → position (has_key caller key) c ≡ None → by_key is_same caller (Some key) c ≡ None
key-nowhere is_same caller key c none = rw (found_nowhere (has_key caller key) c none) refl

key-at : (is_same : Record → Bool) (caller : ℕ) (key : List ℕ) (c : List Record) (n : ℕ) (r : Record) → position (has_key caller key) c ≡ Some n → r ≡ get_or c n r → (slice_get c n ≡ Some r) × (by_key is_same caller (Some key) c ≡ Some (repeated_or_reused (is_same r) (take (n + 1) c) r))
key-at is_same caller key c n r is item =
    let at : IsFirstAt (has_key caller key) c n = found_up_to (has_key caller key) c n is in
    let got : slice_get c n ≡ Some r = slice_get_read c (length c) n r refl at.inside item in
    let first : first_of (filter (has_key caller key) c) ≡ Some r = at.item ∙ got in
    (got, rw (first, at.up_to) refl)

kept-asked : (x : Request) (o : Option Request) → same_request_by o x ≡ true → is_some o ≡ true
kept-asked x None same = absurd cc
kept-asked x (Some kept) same = refl

pub key-same : (x : Request) (caller : ℕ) (key : List ℕ) (c : List Record) (n : ℕ) (r : Record) → position (has_key caller key) c ≡ Some n → r ≡ get_or c n r → keeps_request x r ≡ true → IsFound c (Some (found.Same n)) (by_key (keeps_request x) caller (Some key) c)
key-same x caller key c n r is item same =
    let at = key-at (keeps_request x) caller key c n r is item in
    (Repeated (take (n + 1) c) r, at.1 ∙ ap (λ (b : Bool). Some (repeated_or_reused b (take (n + 1) c) r)) same, (r, at.0, kept-asked x (asked r) same, refl))

pub key-other : (x : Request) (caller : ℕ) (key : List ℕ) (c : List Record) (n : ℕ) (r : Record) → IsLegalCatalog c → position (has_key caller key) c ≡ Some n → r ≡ get_or c n r → keeps_request x r ≡ false → by_key (keeps_request x) caller (Some key) c ≡ Some (Denied (refusal.KeyReused (n + 1)))
key-other x caller key c n r legal is item other =
    let at = key-at (keeps_request x) caller key c n r is item in
    at.1 ∙ ap (λ (b : Bool). Some (repeated_or_reused b (take (n + 1) c) r)) other ∙ ap (λ (k : ℕ). Some (Denied (refusal.KeyReused k))) (said-place c n r legal at.0)

-- ---- the founding's key

and-false : (b : Bool) → b && false ≡ false
and-false true = refl
and-false false = refl

asked-by-event : (caller : ℕ) (key : List ℕ) (r : Record) (e : Event) → r.event ≡ e → has_key caller key r ≡ false → is_asked_with caller key r ≡ false
asked-by-event caller key r (event.Asked x) is other = rw is other
asked-by-event caller key r e is other = rw is (and-false (r.caller == caller))

-- a request made each record behind the first
later-by : (l : List Record) (caller : ℕ) (key : List ℕ) (r : Record) (e : Event) → r.event ≡ e → CatalogEventIsAllowed l r e → 1 ≤ length l → is_asked_with caller key r ≡ has_key caller key r
later-by l caller key r (event.Founded shards token) is allowed some = let none : length l ≡ 0 = ap (λ (t : List Record). length t) allowed in absurd (omega arith)
later-by l caller key r (event.Asked x) is allowed some = rw is refl
later-by l caller key r e is allowed some = absurd allowed

step : (p q : Record → Bool) (i : ℕ) (r : Record) (rest : List Record) (b : Bool) → p r ≡ q r → q r ≡ b → position_from p (i + 1) rest ≡ position_from q (i + 1) rest → position_from p i (r ∷ rest) ≡ position_from q i (r ∷ rest)
step p q i r rest true same is more = rw (same, is) refl
step p q i r rest false same is more = rw (same, is) more

later : (c l xs : List Record) (caller : ℕ) (key : List ℕ) (i : ℕ) → IsLegalCatalog c → c ≡ l ++ xs → 1 ≤ length l → position_from (is_asked_with caller key) i xs ≡ position_from (has_key caller key) i xs
later c l [] caller key i legal e some = refl
later c l (r ∷ rest) caller key i legal e some =
    step (is_asked_with caller key) (has_key caller key) i r rest (has_key caller key r)
    (later-by l caller key r r.event refl (legal.each l r rest e).event some) refl
    (later c (l ++ r ∷ []) rest caller key (i + 1) legal (e ∙ sym (append_assoc l (r ∷ []) rest)) (let long = length-append l (r ∷ []) in omega arith))

first-by : (caller : ℕ) (key : List ℕ) (r : Record) (rest : List Record) (b : Bool) → IsLegalCatalog (r ∷ rest) → has_key caller key r ≡ b
    → option_or (position_from (has_key caller key) 0 (r ∷ [])) (position_from (is_asked_with caller key) 0 (r ∷ rest)) ≡ position_from (has_key caller key) 0 (r ∷ rest)
first-by caller key r rest true legal is = rw is refl
first-by caller key r rest false legal is =
    let unasked = asked-by-event caller key r r.event refl is in
    rw (is, unasked) (later (r ∷ rest) (r ∷ []) rest caller key 1 legal refl (omega arith))

-- the first record is looked at, and then what requests made
pub key-place : (caller : ℕ) (key : List ℕ) (c : List Record) → IsLegalCatalog c → 1 ≤ length c → option_or (position (has_key caller key) (take 1 c)) (position (is_asked_with caller key) c) ≡ position (has_key caller key) c
key-place caller key [] legal some = absurd (omega arith)
key-place caller key (r ∷ rest) legal some =
    ap (λ (o : Option ℕ). option_or o (position (is_asked_with caller key) (r ∷ rest))) (position_from-zero (has_key caller key) (r ∷ []))
    ∙ ap (option_or (position_from (has_key caller key) 0 (r ∷ []))) (position_from-zero (is_asked_with caller key) (r ∷ rest))
    ∙ first-by caller key r rest (has_key caller key r) legal refl
    ∙ sym (position_from-zero (has_key caller key) (r ∷ rest))
