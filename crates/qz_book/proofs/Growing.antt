-- A list that a record is put behind: what is known of the longer list before it stands.
use Rattle.std.proofs.Common.{◌≡◌, ℕ, suc, ◌+◌, ◌-◌, ◌<◌, ◌≤◌, ◌^◌, Bool, true, false, List, [], ◌∷◌, ◌++◌, Some, length, length-append, refl, sym, ap, subst, ◌∙◌, arith}
use Rattle.std.specs.Prelude.{filter}
use Rattle.std.proofs.lemmas.List.Elements.{All-push}
use Rattle.qz_grading.specs.declared.refusal.AttemptId.{AttemptId}
use Rattle.qz_index.specs.Attempts.{IsNext as IsNumbered}
use Rattle.qz_lives.specs.Changes.{IsLawful}
use Rattle.qz_terms.specs.declared.record.Event.{Event}
use Rattle.qz_terms.specs.declared.record.Event.TheVariants as event
use Rattle.qz_terms.specs.declared.record.Record.{Record}
use Rattle.qz_terms.specs.History.{Start, is_owned, next_attempt, place, start_by}
use Rattle.qz_terms.specs.Kept.{IsKept}
use Rattle.qz_terms.specs.Legal.{EventIsAllowed}
use Rattle.qz_book.specs.Held.{is_asked, IsSound, IsHeld}
use Rattle.qz_book.specs.Nexts.{CanGrow, IsNext}
use Rattle.qz_lives.proofs.Legality.{started-number, legal-push}
use Rattle.std.proofs.lemmas.List.Folds.{list_all-append}

-- ---- the longer list

pub held-push : (index count : ℕ) (h : List Record) (r : Record) → IsHeld index count h → IsNext index count h r → length h + 1 < 2 ^ 32 - 1 → IsHeld index count (h ++ r ∷ [])
held-push index count h r held next room = record {
  shard = held.shard;
  legal = legal-push index count h r held.legal next.allowed;
  kept = All-push IsKept h r held.kept next.kept;
  asked = list_all-append is_asked h (r ∷ []) ∙ rw (held.asked, next.asked) refl;
  few = let long = length-append h (r ∷ []) in omega arith;
}

-- the longer list is one of a shard
pub grown-sound : (h : List Record) (made r : Record) → CanGrow h r → made ≡ r → length h + 1 < 2 ^ 32 - 1 → IsSound (h ++ made ∷ [])
grown-sound h made r grows same room = record {
  index = grows.index;
  count = grows.count;
  held = held-push grows.index grows.count h made grows.held (subst (IsNext grows.index grows.count h) (sym same) grows.next) room;
}

-- ---- before it stands

pub lawful : (h : List Record) (r : Record) → CanGrow h r → length h + 1 < 2 ^ 32 - 1 → IsLawful (h ++ r ∷ [])
lawful h r grows few =
    let sound = grown-sound h r r grows refl few in
    record { index = sound.index; count = sound.count; legal = sound.held.legal; kept = sound.held.kept }

next-by : (h : List Record) (r : Record) (e : Event) (s : Start) → r.event ≡ e → EventIsAllowed h r e → start_by r e ≡ Some s → s.attempt ≡ next_attempt h r.owner
next-by h r (event.Started q n b bs ls) s is allowed told =
    let number : n ≡ (next_attempt h r.owner).nth = started-number h r q n b bs ls is allowed.is_put in
    let made : Start = record { attempt = record { user = r.owner; nth = n }; moment = r.moment; quiz = q; behaviour = b; bounds = bs } in
    let same : made ≡ s = cc in
    ap (λ (t : Start). t.attempt) (sym same) ∙ ap (λ (m : ℕ). let a : AttemptId = record { user = r.owner; nth = m } in a) number
next-by h r e s is allowed told = absurd cc

-- an attempt that it starts is its owner's next one
pub numbered : (h : List Record) (r : Record) → CanGrow h r → IsNumbered h r
numbered h r grows = record { numbered = λ s told. next-by h r r.event s refl grows.next.allowed.event told }

filter-few-by : {A : Type 0} (p : A → Bool) (x : A) (xs : List A) (b : Bool) → p x ≡ b → length (filter p xs) ≤ length xs → length (filter p (x ∷ xs)) ≤ suc (length xs)
filter-few-by p x xs true is rest = rw is (omega arith)
filter-few-by p x xs false is rest = rw is (omega arith)

filter-few : {A : Type 0} (p : A → Bool) (xs : List A) → length (filter p xs) ≤ length xs
filter-few p [] = omega arith
filter-few p (x ∷ xs) = filter-few-by p x xs (p x) refl (filter-few p xs)

pub place-few : (h : List Record) (u : ℕ) → place h u ≤ length h
place-few h u = filter-few (is_owned u) h
