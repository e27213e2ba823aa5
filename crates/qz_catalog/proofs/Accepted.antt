-- What a legal catalogue tells of each request that it accepted.
use Rattle.std.proofs.Common.{◌≡◌, ℕ, ◌<◌, ◌≤◌, Bool, true, false, List, [], ◌∷◌, ◌++◌, Option, Some, None, length, refl, sym, ap, subst, ◌∙◌, arith, append_assoc, append-nil, length-append}
use Rattle.std.specs.Prelude.{ℤ, ◌==◌, if◌then◌else◌, nat_le, option_to_list, unwrap_or}
use Rattle.std.proofs.lemmas.Bool.{eqb-true, leb-false}
use Rattle.qz_grading.specs.declared.refusal.Refusal.{Refusal}
use Rattle.qz_grading.specs.declared.refusal.Refusal.TheVariants as refusal
use Rattle.qz_grading.specs.Behaviours.{first_some}
use Rattle.qz_terms.specs.declared.record.Event.{Event}
use Rattle.qz_terms.specs.declared.record.Event.TheVariants as event
use Rattle.qz_terms.specs.declared.record.Record.{Record}
use Rattle.qz_terms.specs.declared.request.Request.{Request}
use Rattle.qz_terms.specs.declared.request.Request.TheVariants as request
use Rattle.qz_terms.specs.Catalog.{asked, asked_by, slot_by, slots, slots_made}
use Rattle.qz_terms.specs.Cause.{Verdict, Granted, already_ready, bad_max, by_key, cause_in, denied, forbidden, keeps_request, missing_in, too_many}
use Rattle.qz_terms.specs.Legal.{AskIsAllowed, CatalogEventIsAllowed, IsLegalCatalog}
use Rattle.qz_terms.proofs.Standing.{never-granted}
use Rattle.qz_terms.proofs.Walks.{all_of-push}
use Rattle.qz_roster.proofs.NextLemmas.{first-none, slots-length}

-- ---- the lists before

-- what holds of the empty list and stays with each item holds of the whole list
go-on : {A : Type 0} (P : List A → Type 0) (h : List A) → ((l : List A) (x : A) (rest : List A) → h ≡ l ++ x ∷ rest → P l → P (l ++ x ∷ [])) → (l rest : List A) → h ≡ l ++ rest → P l → P h
go-on P h step l [] e p = subst P (sym (e ∙ append-nil l)) p
go-on P h step l (x ∷ rest) e p = go-on P h step (l ++ x ∷ []) rest (e ∙ sym (append_assoc l (x ∷ []) rest)) (step l x rest e p)

pub by-prefixes : {A : Type 0} (P : List A → Type 0) (h : List A) → P [] → ((l : List A) (x : A) (rest : List A) → h ≡ l ++ x ∷ rest → P l → P (l ++ x ∷ [])) → P h
by-prefixes P h none step = go-on P h step [] h refl none

-- ---- a request that was accepted

-- it named nothing that wasn't there, and had no cause to be refused
pub record IsAccepted (l : List Record) (r : Record) (x : Request) : Type 0 where
  pub there : missing_in l x ≡ None
  pub causeless : cause_in l r x ≡ None

free-by : (f m : Option Refusal) (k : Option Verdict) (c : Option Refusal) → (k ≡ Some Granted → ⊥) → unwrap_or (first_some (denied f ∷ denied m ∷ k ∷ denied c ∷ [])) Granted ≡ Granted → (m ≡ None) × (c ≡ None)
free-by (Some f) m k c never e = absurd cc
free-by None (Some m) k c never e = absurd cc
free-by None None (Some k) c never e = absurd (never (let same : k ≡ Granted = e in ap (λ (v : Verdict). Some v) same))
free-by None None None (Some c) never e = absurd cc
free-by None None None None never e = (refl, refl)

pub asked-event : (d : Event) (x : Request) → asked_by d ≡ Some x → d ≡ event.Asked x
asked-event (event.Asked y) x e = let same : y ≡ x = cc in ap event.Asked same
asked-event d x e = absurd cc

pub accepted : (c l : List Record) (r : Record) (rest : List Record) (x : Request) → IsLegalCatalog c → c ≡ l ++ r ∷ rest → asked r ≡ Some x → IsAccepted l r x
accepted c l r rest x legal e is =
    let allowed : AskIsAllowed l r x = subst (CatalogEventIsAllowed l r) (asked-event r.event x is) (legal.each l r rest e).event in
    let parts = free-by (forbidden allowed.user x) (missing_in l x) (by_key (keeps_request x) allowed.user.number r.key l) (cause_in l r x) (never-granted (keeps_request x) allowed.user.number r.key l) allowed.granted in
    record { there = parts.0; causeless = parts.1 }

-- ---- causes

few-by : (most n : ℕ) (b : Bool) → nat_le most n ≡ b → (if b then Some (refusal.TooMany most) else None) ≡ None → n < most
few-by most n true is none = absurd cc
few-by most n false is none = let less = leb-false most n is in omega arith

-- ---- slots

-- a record that makes a slot of a quiz
slot-if : (quiz q entry : ℕ) (max : ℤ) (s : ℕ × ℤ) (b : Bool) → (quiz == q) ≡ b → (if b then Some (entry, max) else None) ≡ Some s → Some (request.Slot quiz entry max) ≡ Some (request.Slot q s.0 s.1)
slot-if quiz q entry max s true is told =
    let same : quiz ≡ q = eqb-true quiz q is in
    let both : (entry, max) ≡ s = cc in
    ap (λ (t : ℕ × ℤ). Some (request.Slot quiz t.0 t.1)) both ∙ ap (λ n. Some (request.Slot n s.0 s.1)) same
slot-if quiz q entry max s false is told = absurd cc

pub slot-of : (q : ℕ) (o : Option Request) (s : ℕ × ℤ) → slot_by q o ≡ Some s → o ≡ Some (request.Slot q s.0 s.1)
slot-of q (Some (request.Slot quiz entry max)) s told = slot-if quiz q entry max s (quiz == q) refl told
slot-of q o s told = absurd cc

-- what is known of the request that made a slot
pub record IsSlotMade (l : List Record) (q : ℕ) (s : ℕ × ℤ) : Type 0 where
  pub there : missing_in l (request.Slot q s.0 s.1) ≡ None
  pub mark : bad_max l s.0 s.1 ≡ None
  pub few : length (slots_made l q) < 200

pub slot-made : (c l : List Record) (r : Record) (rest : List Record) (q : ℕ) (s : ℕ × ℤ) → IsLegalCatalog c → c ≡ l ++ r ∷ rest → slot_by q (asked r) ≡ Some s → IsSlotMade l q s
slot-made c l r rest q s legal e told =
    let a = accepted c l r rest (request.Slot q s.0 s.1) legal e (slot-of q (asked r) s told) in
    let first = first-none (already_ready l q) (bad_max l s.0 s.1 ∷ too_many 200 (length (slots l q)) ∷ []) a.causeless in
    let second = first-none (bad_max l s.0 s.1) (too_many 200 (length (slots l q)) ∷ []) first.1 in
    let third = first-none (too_many 200 (length (slots l q))) [] second.1 in
    let long = slots-length l q in
    record { there = a.there; mark = second.0; few = let few = few-by 200 (length (slots l q)) (nat_le 200 (length (slots l q))) refl third.0 in omega (arith, long, few) }

few-push : (c l : List Record) (r : Record) (rest : List Record) (q : ℕ) (o : Option (ℕ × ℤ)) → IsLegalCatalog c → c ≡ l ++ r ∷ rest → slot_by q (asked r) ≡ o → length (slots_made l q) ≤ 200 → length (slots_made l q ++ option_to_list o) ≤ 200
few-push c l r rest q None legal e told few = rw (append-nil (slots_made l q)) few
few-push c l r rest q (Some s) legal e told few = let made = slot-made c l r rest q s legal e told in let less = made.few in omega (arith, length-append (slots_made l q) (s ∷ []), less)

-- a quiz has at most 200 slots
pub few-slots : (c : List Record) (q : ℕ) → IsLegalCatalog c → length (slots_made c q) ≤ 200
few-slots c q legal = by-prefixes (λ (l : List Record). length (slots_made l q) ≤ 200) c (omega arith) (λ l r rest e few. subst (λ (ss : List (ℕ × ℤ)). length ss ≤ 200) (sym (all_of-push (λ (s : Record). slot_by q (asked s)) l r)) (few-push c l r rest q (slot_by q (asked r)) legal e refl few))
