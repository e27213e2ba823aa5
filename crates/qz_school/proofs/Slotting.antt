-- In a legal catalogue each slot's entry is there, so a plan has a question for each slot.
use Rattle.std.proofs.Common.{◌≡◌, ℕ, ◌+◌, Bool, true, false, ◌&&◌, List, [], ◌∷◌, ◌++◌, Option, Some, None, ℤ, length, map, refl, sym, ap, subst, ◌∙◌, arith, append_assoc}
use Rattle.std.specs.List.{enumerate_from, list_all}
use Rattle.std.specs.Prelude.{◌==◌, filter, is_none, is_some, nat_le, not, zip}
use Rattle.std.proofs.lemmas.Bool.{le-leb}
use Rattle.qz_grading.specs.declared.question.Item.{Item}
use Rattle.qz_grading.specs.declared.question.Question.{Question}
use Rattle.qz_grading.specs.declared.refusal.Refusal.{Refusal}
use Rattle.qz_grading.specs.declared.refusal.Refusal.TheVariants as refusal
use Rattle.qz_grading.specs.declared.refusal.Thing.TheVariants as thing
use Rattle.qz_grading.specs.Behaviours.{when}
use Rattle.qz_grading.specs.Grading.{at_place}
use Rattle.qz_terms.specs.declared.plan.Planned.{Planned}
use Rattle.qz_terms.specs.declared.record.Event.{Event}
use Rattle.qz_terms.specs.declared.record.Event.TheVariants as event
use Rattle.qz_terms.specs.declared.record.Learned.{Learned}
use Rattle.qz_terms.specs.declared.record.Record.{Record}
use Rattle.qz_terms.specs.declared.request.Request.{Request}
use Rattle.qz_terms.specs.declared.request.Request.TheVariants as request
use Rattle.qz_terms.specs.Answer.{learned_as, new_versions, same_version}
use Rattle.qz_terms.specs.Catalog.{asked, asked_by, changes, entries, latest, planned, questions, slot_by, slots, slots_made, version}
use Rattle.qz_terms.specs.Cause.{by_key, cause_in, forbidden, keeps_request, missing_entry, missing_in, missing_quiz}
use Rattle.qz_terms.specs.History as history
use Rattle.qz_terms.specs.Legal.{AskIsAllowed, CatalogEventIsAllowed, IsLegalCatalog, LearnsFrom}
use Rattle.qz_terms.specs.Lists.{once}
use Rattle.qz_terms.proofs.Standing.{free-by, never-granted}
use Rattle.qz_serial.proofs.Longer.{both-there, entry-there}

-- ---- what a request that is granted tells

-- nothing is missing that an allowed record asks for
pub allowed-found : (l : List Record) (r : Record) (x : Request) → AskIsAllowed l r x → missing_in l x ≡ None
allowed-found l r x a =
    let parts = free-by (forbidden a.user x) (missing_in l x) (by_key (keeps_request x) a.user.number r.key l) (cause_in l r x) (never-granted (keeps_request x) a.user.number r.key l) a.granted in
    parts.1

-- ---- the entries of slots

slot-named : (q : ℕ) (quiz entry : ℕ) (max : ℤ) (s : ℕ × ℤ) (b : Bool) → (quiz == q) ≡ b → slot_by q (Some (request.Slot quiz entry max)) ≡ Some s → s.0 ≡ entry
slot-named q quiz entry max s true is found = let first : Some (entry, max) ≡ Some s = rw is at found in let same : (entry, max) ≡ s = cc in ap (λ (t : ℕ × ℤ). t.0) (sym same)
slot-named q quiz entry max s false is found = let none : None ≡ Some s = rw is at found in absurd cc

slot-entry-by : (l : List Record) (r : Record) (q : ℕ) (s : ℕ × ℤ) (x : Request) → AskIsAllowed l r x → slot_by q (Some x) ≡ Some s → missing_entry l s.0 ≡ None
slot-entry-by l r q s (request.Slot quiz entry max) a found =
    let there : missing_in l (request.Slot quiz entry max) ≡ None = allowed-found l r (request.Slot quiz entry max) a in
    let parts = both-there (missing_quiz l quiz) (missing_entry l entry) there in
    let same = slot-named q quiz entry max s (quiz == q) refl found in
    subst (λ n. missing_entry l n ≡ None) (sym same) parts.1
slot-entry-by l r q s x a found = absurd cc

slot-entry : (l : List Record) (r : Record) (q : ℕ) (s : ℕ × ℤ) (e : Event) → CatalogEventIsAllowed l r e → slot_by q (asked_by e) ≡ Some s → missing_entry l s.0 ≡ None
slot-entry l r q s (event.Asked x) a found = slot-entry-by l r q s x a found
slot-entry l r q s (event.Founded n token) a found = absurd cc
slot-entry l r q s e a found = absurd a

abbrev has_entry : List Record → ℕ × ℤ → Bool
has_entry c s = is_none (missing_entry c s.0)

made-step : (c : List Record) (q : ℕ) (r : Record) (rest : List Record) (o : Option (ℕ × ℤ)) → slot_by q (asked r) ≡ o → ((s : ℕ × ℤ) → o ≡ Some s → missing_entry c s.0 ≡ None)
    → list_all (has_entry c) (slots_made rest q) ≡ true → list_all (has_entry c) (slots_made (r ∷ rest) q) ≡ true
made-step c q r rest None is here later = rw is later
made-step c q r rest (Some s) is here later = rw (is, here s refl) later

made-from : (c l rest : List Record) (q : ℕ) → IsLegalCatalog c → c ≡ l ++ rest → list_all (has_entry c) (slots_made rest q) ≡ true
made-from c l [] q legal e = refl
made-from c l (r ∷ rest) q legal e =
    let allowed = legal.each l r rest e in
    made-step c q r rest (slot_by q (asked r)) refl
    (λ s is. subst (λ (d : List Record). missing_entry d s.0 ≡ None) (sym e) (entry-there l (r ∷ rest) s.0 (slot-entry l r q s r.event allowed.event is)))
    (made-from c (l ++ r ∷ []) rest q legal (e ∙ sym (append_assoc l (r ∷ []) rest)))

-- ---- each slot has a version

one-or-more : (n : ℕ) → nat_le 1 (n + 1) && nat_le (n + 1) (n + 1) ≡ true
one-or-more n =
    let low : nat_le 1 (n + 1) ≡ true = le-leb 1 (n + 1) (omega arith) in
    let high : nat_le (n + 1) (n + 1) ≡ true = le-leb (n + 1) (n + 1) (omega arith) in
    rw (low, high) refl

latest-by : (c : List Record) (e : ℕ) (o : Option Item) → at_place (entries c) e ≡ o → when (is_none o) (refusal.Unknown thing.Entry) ≡ None → is_some (version c e (latest c e)) ≡ true
latest-by c e None is there = absurd cc
latest-by c e (Some i) is there = rw (is, one-or-more (length (changes c e))) refl

latest-there : (c : List Record) (e : ℕ) → missing_entry c e ≡ None → is_some (version c e (latest c e)) ≡ true
latest-there c e there = latest-by c e (at_place (entries c) e) refl there

abbrev pub has_version : List Record → Planned → Bool
has_version c s = is_some (version c s.entry s.version)

entry-kept : (o : Option Refusal) → is_none o ≡ true → o ≡ None
entry-kept None is = refl
entry-kept (Some r) is = absurd cc

pub both-true : (a b : Bool) → a && b ≡ true → (a ≡ true) × (b ≡ true)
both-true true true is = (refl, refl)
both-true true false is = absurd cc
both-true false b is = absurd cc

slots-from : (c : List Record) (q n : ℕ) (ss : List (ℕ × ℤ)) → list_all (has_entry c) ss ≡ true → list_all (has_version c) (map (λ (s : ℕ × (ℕ × ℤ)). planned c q s.0 s.1.0 s.1.1) (enumerate_from n ss)) ≡ true
slots-from c q n [] all = refl
slots-from c q n (s ∷ ss) all =
    let parts = both-true (has_entry c s) (list_all (has_entry c) ss) all in
    let here : is_some (version c s.0 (latest c s.0)) ≡ true = latest-there c s.0 (entry-kept (missing_entry c s.0) parts.0) in
    rw here (slots-from c q (n + 1) ss parts.1)

pub slots-have-versions : (c : List Record) (q : ℕ) → IsLegalCatalog c → list_all (has_version c) (slots c q) ≡ true
slots-have-versions c q legal = slots-from c q 1 (slots_made c q) (made-from c [] c q legal refl)

-- ---- what is learned of such slots

abbrev told : List Record → Learned → Option Question
told c l = version c l.entry l.version

abbrev taught : Learned → Option Question
taught l = Some l.question

learns-step : (c : List Record) (s : Planned) (ss : List Planned) (o : Option Question) → version c s.entry s.version ≡ o → is_some o ≡ true
    → LearnsFrom c (map learned_as (zip ss (questions c ss))) → LearnsFrom c (map learned_as (zip (s ∷ ss) (questions c (s ∷ ss))))
learns-step c s ss None is some later = absurd cc
learns-step c s ss (Some q) is some later = rw (is, is) (ap (λ (qs : List (Option Question)). Some q ∷ qs) later)

learns-all : (c : List Record) (ss : List Planned) → list_all (has_version c) ss ≡ true → LearnsFrom c (map learned_as (zip ss (questions c ss)))
learns-all c [] all = refl
learns-all c (s ∷ ss) all =
    let parts = both-true (has_version c s) (list_all (has_version c) ss) all in
    learns-step c s ss (version c s.entry s.version) refl parts.0 (learns-all c ss parts.1)

alike-head : {A B : Type 0} (f g : A → B) (x : A) (xs : List A) → map f (x ∷ xs) ≡ map g (x ∷ xs) → (f x ≡ g x) × (map f xs ≡ map g xs)
alike-head f g x xs same = (cc, cc)

alike-filter-step : {A B : Type 0} (f g : A → B) (p : A → Bool) (x : A) (xs : List A) (b : Bool) → p x ≡ b → f x ≡ g x → map f (filter p xs) ≡ map g (filter p xs) → map f (filter p (x ∷ xs)) ≡ map g (filter p (x ∷ xs))
alike-filter-step f g p x xs true is here later = rw (is, here) (ap (λ (l : List _). g x ∷ l) later)
alike-filter-step f g p x xs false is here later = rw is later

-- what is alike for each item stays so for those that pass
alike-filter : {A B : Type 0} (f g : A → B) (p : A → Bool) (xs : List A) → map f xs ≡ map g xs → map f (filter p xs) ≡ map g (filter p xs)
alike-filter f g p [] same = refl
alike-filter f g p (x ∷ xs) same =
    let parts = alike-head f g x xs same in
    alike-filter-step f g p x xs (p x) refl parts.0 (alike-filter f g p xs parts.1)

alike-once : {A B : Type 0} (f g : A → B) (is_same : A → A → Bool) (xs : List A) → map f xs ≡ map g xs → map f (once is_same xs) ≡ map g (once is_same xs)
alike-once f g is_same [] same = refl
alike-once f g is_same (x ∷ xs) same =
    let parts = alike-head f g x xs same in
    let later = alike-filter f g (λ y. not (is_same x y)) (once is_same xs) (alike-once f g is_same xs parts.1) in
    cc

pub learns-new : (c h : List Record) (ls : List Learned) → LearnsFrom c ls → LearnsFrom c (new_versions h ls)
learns-new c h ls learns = alike-filter (told c) taught (λ (l : Learned). is_none (history.version h l.entry l.version)) (once same_version ls) (alike-once (told c) taught same_version ls learns)

-- what a start learns comes from the catalogue
pub start-learns : (c h : List Record) (q : ℕ) → IsLegalCatalog c → LearnsFrom c (new_versions h (map learned_as (zip (slots c q) (questions c (slots c q)))))
start-learns c h q legal = learns-new c h (map learned_as (zip (slots c q) (questions c (slots c q)))) (learns-all c (slots c q) (slots-have-versions c q legal))
