-- A student's key meets own records alone: what a kept request is answered is the same over alike lists.
use Rattle.std.proofs.Common.{◌≡◌, ℕ, ◌&&◌, ◌||◌, Bool, true, false, not, List, [], ◌∷◌, ◌++◌, Option, Some, None, refl, ap, ◌∙◌, sym, subst}
use Rattle.std.specs.Prelude.{◌==◌, filter, is_none, option_map, unwrap_or}
use Rattle.std.proofs.lemmas.Bool.{eqb-true}
use Rattle.qz_lemmas.proofs.Bools.{and-left, and-right}
use Rattle.qz_grading.specs.declared.refusal.Refusal.{Refusal}
use Rattle.qz_grading.specs.declared.refusal.Refusal.TheVariants as refusal
use Rattle.qz_grading.specs.Behaviours.{first_some}
use Rattle.qz_terms.specs.declared.record.Event.{Event}
use Rattle.qz_terms.specs.declared.record.Event.TheVariants as event
use Rattle.qz_terms.specs.declared.record.Record.{Record}
use Rattle.qz_terms.specs.declared.reply.Reply.{Reply}
use Rattle.qz_terms.specs.declared.reply.Reply.TheVariants as reply
use Rattle.qz_terms.specs.declared.request.Request.{Request}
use Rattle.qz_terms.specs.Answer.{said}
use Rattle.qz_terms.specs.Cause.{Denied, Granted, Repeated, Verdict, by_key, denied, has_key, has_key_by, repeated_or_reused, said_at, spells, spells_by}
use Rattle.qz_terms.specs.Kept.{has_terms}
use Rattle.qz_terms.specs.Laws.{AgreeFor, unlearned, unlearned_event}
use Rattle.qz_terms.specs.Legal.{EventIsAllowed}
use Rattle.qz_terms.specs.Lists.{first_of, up_to_first}
use Rattle.qz_isolation.specs.Isolation.{AreAlike, asks_of_own}
use Rattle.qz_isolation.proofs.Alike.{fronts}
use Rattle.qz_isolation.proofs.Own.{TestsOwn, all-at, own-first}
use Rattle.qz_isolation.proofs.Telling.{said-own}

-- ---- a verdict and what is told of it

-- what a request that isn't granted is told
abbrev pub told : Verdict → Option Reply
told (Denied r) = Some (reply.Refused r)
told (Repeated l r) = Some (said l r)
told Granted = None

told-verdict-by : (f m c : Option Refusal) (k j : Option Verdict) → option_map told k ≡ option_map told j
    → told (unwrap_or (first_some (denied f ∷ denied m ∷ k ∷ denied c ∷ [])) Granted) ≡ told (unwrap_or (first_some (denied f ∷ denied m ∷ j ∷ denied c ∷ [])) Granted)
told-verdict-by (Some f) m c k j same = refl
told-verdict-by None (Some m) c k j same = refl
told-verdict-by None None c None None same = refl
told-verdict-by None None c None (Some w) same = absurd cc
told-verdict-by None None c (Some v) None same = absurd cc
told-verdict-by None None c (Some v) (Some w) same = cc

pub told-verdict : (f m n c d : Option Refusal) (k j : Option Verdict) → m ≡ n → c ≡ d → option_map told k ≡ option_map told j
    → told (unwrap_or (first_some (denied f ∷ denied m ∷ k ∷ denied c ∷ [])) Granted) ≡ told (unwrap_or (first_some (denied f ∷ denied n ∷ j ∷ denied d ∷ [])) Granted)
told-verdict f m n c d k j missing cause same =
    told-verdict-by f m c k j same ∙ (λ i. told (unwrap_or (first_some (denied f ∷ denied (missing i) ∷ j ∷ denied (cause i) ∷ [])) Granted))

-- ---- the record of a key

key_other : (key : List ℕ) (k : Option (List ℕ)) (b : Bool) → (not b || false) ≡ true → (b && has_key_by key k) ≡ false
key_other key k true asks = absurd cc
key_other key k false asks = refl

key_own : (u : ℕ) (key : List ℕ) → TestsOwn u (asks_of_own u) (has_key u key)
key_own u key = record {
  others = λ r asks other. let P : Bool → Type 0 = λ b. (not (r.caller == u) || b) ≡ true in key_other key r.key (r.caller == u) (subst P other asks);
  forgets = λ r. refl;
}

spells-forgets : (x : Request) (e : Event) → spells_by (unlearned_event e) x ≡ spells_by e x
spells-forgets x (event.Started quiz nth behaviour bounds learned) = refl
spells-forgets x (event.Rebound job a k bound learned) = refl
spells-forgets x e = refl

spells-same : (x : Request) (r s : Record) → unlearned r ≡ unlearned s → spells x r ≡ spells x s
spells-same x r s same = sym (spells-forgets x r.event) ∙ ap (spells x) same ∙ spells-forgets x s.event

-- the first record that passes stands there
record IsFirst (p : Record → Bool) (h : List Record) (r : Record) : Type 0 where
  front : List Record
  rest : List Record
  stands : h ≡ front ++ r ∷ rest
  passes : p r ≡ true

first-step : (p : Record → Bool) (s : Record) (h : List Record) (r : Record) (b : Bool) → p s ≡ b → first_of (filter p (s ∷ h)) ≡ Some r → (first_of (filter p h) ≡ Some r → IsFirst p h r) → IsFirst p (s ∷ h) r
first-step p s h r true is found later =
    let first : Some s ≡ Some r = rw is at found in
    let same : s ≡ r = cc in
    record { front = []; rest = h; stands = ap (λ (t : Record). t ∷ h) same; passes = ap p (sym same) ∙ is }
first-step p s h r false is found later =
    let t = later (rw is at found) in
    record { front = s ∷ t.front; rest = t.rest; stands = ap (λ (l : List Record). s ∷ l) t.stands; passes = t.passes }

first-stands : (p : Record → Bool) (h : List Record) (r : Record) → first_of (filter p h) ≡ Some r → IsFirst p h r
first-stands p [] r found = absurd cc
first-stands p (s ∷ h) r found = first-step p s h r (p s) refl found (first-stands p h r)

is-keyed : (key : List ℕ) (k : Option (List ℕ)) → has_key_by key k ≡ true → is_none k ≡ false
is-keyed key None has = absurd cc
is-keyed key (Some k) has = refl

-- no job has a key
keyed-terms : (l : List Record) (r : Record) (e : Event) → EventIsAllowed l r e → is_none r.key ≡ false → has_terms e ≡ true
keyed-terms l r (event.Founded shards token) allowed keyed = absurd allowed
keyed-terms l r (event.Asked x) allowed keyed = absurd allowed
keyed-terms l r (event.Rebound job a k bound learned) allowed keyed = absurd (let none : is_none r.key ≡ true = and-left (is_none r.key) (is_none r.terms) allowed.bare in cc)
keyed-terms l r (event.Skipped job a k bound newer) allowed keyed = absurd (let none : is_none r.key ≡ true = and-left (is_none r.key) (is_none r.terms) allowed.bare in cc)
keyed-terms l r (event.JobDone job quiz position) allowed keyed = absurd (let none : is_none r.key ≡ true = and-left (is_none r.key) (is_none r.terms) allowed.bare in cc)
keyed-terms l r e allowed keyed = refl

owned-by : (u o : ℕ) (b : Bool) → b ≡ true → (not b || (o == u)) ≡ true → o ≡ u
owned-by u o true is asks = eqb-true o u asks
owned-by u o false is asks = absurd cc

-- of a key's record, over the records up to it
kept-said : (index count u : ℕ) (key : List ℕ) (h g : List Record) (r s : Record) → AreAlike index count u h g → first_of (filter (has_key u key) g) ≡ Some s → unlearned r ≡ unlearned s
    → said (up_to_first (has_key u key) h) r ≡ said (up_to_first (has_key u key) g) s
kept-said index count u key h g r s alike found same =
    let p = has_key u key in
    let t = first-stands p g s found in
    let allowed = alike.other_legal.each t.front s t.rest t.stands in
    let called : (s.caller == u) ≡ true = and-left (s.caller == u) (has_key_by key s.key) t.passes in
    let keyed = is-keyed key s.key (and-right (s.caller == u) (has_key_by key s.key) t.passes) in
    let owner : s.owner ≡ u = owned-by u s.owner (s.caller == u) called (all-at (asks_of_own u) t.front s t.rest g t.stands alike.other_asked) in
    let P : ℕ → Type 0 = λ n. AgreeFor index count n (up_to_first p h) (up_to_first p g) in
    said-own index count (up_to_first p h) (up_to_first p g) r s same (keyed-terms t.front s s.event allowed.event keyed) allowed.owner
    (subst P (sym owner) (fronts index count u h g (asks_of_own u) p alike (key_own u key) alike.asked alike.other_asked))

abbrev place_told : Reply → ℕ
place_told (reply.Ok place d) = place
place_told r = 0

told-kept : (b : Bool) (l k : List Record) (r s : Record) → said l r ≡ said k s → told (repeated_or_reused b l r) ≡ told (repeated_or_reused b k s)
told-kept true l k r s same = λ i. Some (same i)
told-kept false l k r s same = let place : said_at l r ≡ said_at k s = ap place_told same in λ i. Some (reply.Refused (refusal.KeyReused (place i)))

told-by : (index count u : ℕ) (key : List ℕ) (x : Request) (h g : List Record) (o p : Option Record) → AreAlike index count u h g → first_of (filter (has_key u key) g) ≡ p → option_map unlearned o ≡ option_map unlearned p
    → option_map told (option_map (λ r. repeated_or_reused (spells x r) (up_to_first (has_key u key) h) r) o) ≡ option_map told (option_map (λ r. repeated_or_reused (spells x r) (up_to_first (has_key u key) g) r) p)
told-by index count u key x h g None None alike found same = refl
told-by index count u key x h g None (Some s) alike found same = absurd cc
told-by index count u key x h g (Some r) None alike found same = absurd cc
told-by index count u key x h g (Some r) (Some s) alike found same =
    let records : unlearned r ≡ unlearned s = cc in
    let l = up_to_first (has_key u key) h in
    let k = up_to_first (has_key u key) g in
    ap (λ (b : Bool). Some (told (repeated_or_reused b l r))) (spells-same x r s records)
    ∙ ap (λ (o : Option Reply). Some o) (told-kept (spells x s) l k r s (kept-said index count u key h g r s alike found records))

pub told-key : (index count u : ℕ) (key : Option (List ℕ)) (x : Request) (h g : List Record) → AreAlike index count u h g → option_map told (by_key (spells x) u key h) ≡ option_map told (by_key (spells x) u key g)
told-key index count u None x h g alike = refl
told-key index count u (Some key) x h g alike =
    let p = has_key u key in
    let first : option_map unlearned (first_of (filter p h)) ≡ option_map unlearned (first_of (filter p g)) =
    own-first u (asks_of_own u) p h (key_own u key) alike.asked ∙ ap (λ (t : List Record). first_of (filter p t)) alike.own ∙ sym (own-first u (asks_of_own u) p g (key_own u key) alike.other_asked) in
    told-by index count u key x h g (first_of (filter p h)) (first_of (filter p g)) alike refl first
