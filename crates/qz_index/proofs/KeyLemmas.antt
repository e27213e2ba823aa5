-- Keys of requests, one record more at a time.
use Rattle.std.proofs.Common.{◌≡◌, ℕ, ◌+◌, Bool, true, false, ◌&&◌, List, [], ◌∷◌, ◌++◌, Option, Some, None, length, refl, sym, ap, ◌∙◌, arith}
use Rattle.std.specs.List.{list_any, position_from}
use Rattle.std.specs.Option.{option_or}
use Rattle.std.specs.Prelude.{bytes_eq, filter, if◌then◌else◌, option_map, position, ◌==◌}
use Rattle.std.proofs.lemmas.List.Elements.{filter-append}
use Rattle.std.proofs.lemmas.Iterator.Adapters.{position_from-zero}
use Rattle.qz_lemmas.proofs.Lists.{position-push}
use Rattle.qz_lemmas.proofs.Bools.{and-false}
use Rattle.qz_lemmas.proofs.Options.{or-none}
use Rattle.qz_terms.specs.declared.record.Record.{Record}
use Rattle.qz_terms.specs.declared.reply.Reply.{Reply}
use Rattle.qz_terms.specs.Answer.{said}
use Rattle.qz_terms.specs.Cause.{has_key}
use Rattle.qz_terms.specs.Lists.{first_of, up_to_first}
use Rattle.qz_terms.proofs.Readings.{first_of-append}
use Rattle.qz_terms.proofs.Walks.{option_map-either}
use Rattle.qz_index.specs.declared.keys.Keys.{Keys}
use Rattle.qz_index.specs.declared.keys.Replied.{Replied}
use Rattle.qz_index.specs.Keys.{AreKeys, kept_at, said_under}
use Rattle.qz_index.proofs.JobLemmas.{up_to_first-behind, up_to_first-front}

-- ---- the place of the first that passes

-- ---- what is told of the first that passes, over the list up to it

abbrev told : {A B : Type 0} (p : A → Bool) (f : List A → A → B) → List A → Option B
told p f xs = option_map (f (up_to_first p xs)) (first_of (filter p xs))

none-step : {A : Type 0} (p : A → Bool) (y : A) (ys : List A) (b : Bool) → p y ≡ b → list_any p (y ∷ ys) ≡ false → (list_any p ys ≡ false → filter p ys ≡ []) → filter p (y ∷ ys) ≡ []
none-step p y ys true is any later = let never : true ≡ false = rw is at any in absurd cc
none-step p y ys false is any later = rw is (later (rw is at any))

none-pass : {A : Type 0} (p : A → Bool) (xs : List A) → list_any p xs ≡ false → filter p xs ≡ []
none-pass p [] any = refl
none-pass p (y ∷ ys) any = none-step p y ys (p y) refl any (λ e. none-pass p ys e)

one-step : {A : Type 0} (p : A → Bool) (y : A) (ys : List A) (b : Bool) → p y ≡ b → list_any p (y ∷ ys) ≡ true → (list_any p ys ≡ true → (z : A) × (first_of (filter p ys) ≡ Some z)) → (z : A) × (first_of (filter p (y ∷ ys)) ≡ Some z)
one-step p y ys true is any later = (y, rw is refl)
one-step p y ys false is any later = let found = later (rw is at any) in (found.0, rw is found.1)

one-passes : {A : Type 0} (p : A → Bool) (xs : List A) → list_any p xs ≡ true → (z : A) × (first_of (filter p xs) ≡ Some z)
one-passes p [] any = absurd cc
one-passes p (y ∷ ys) any = one-step p y ys (p y) refl any (λ e. one-passes p ys e)

told-push-by : {A B : Type 0} (p : A → Bool) (f : List A → A → B) (xs : List A) (x : A) (b c : Bool) → list_any p xs ≡ b → p x ≡ c → told p f (xs ++ x ∷ []) ≡ option_or (told p f xs) (if c then Some (f (xs ++ x ∷ []) x) else None)
told-push-by p f xs x true c any is =
    let found = one-passes p xs any in
    let first : first_of (filter p (xs ++ x ∷ [])) ≡ Some found.0 = ap first_of (filter-append p xs (x ∷ [])) ∙ first_of-append (filter p xs) (filter p (x ∷ [])) found.0 found.1 in
    rw (first, found.1) (ap (λ (l : List _). Some (f l found.0)) (up_to_first-front p xs (x ∷ []) any))
told-push-by p f xs x false true any is =
    let one : filter p (x ∷ []) ≡ x ∷ [] = rw is refl in
    let none = none-pass p xs any in
    let first : first_of (filter p (xs ++ x ∷ [])) ≡ Some x = ap first_of (filter-append p xs (x ∷ [])) ∙ ap (λ (l : List _). first_of (l ++ filter p (x ∷ []))) none ∙ ap first_of one in
    let before : first_of (filter p xs) ≡ None = ap first_of none in
    let up : up_to_first p (x ∷ []) ≡ x ∷ [] = rw is refl in
    rw (first, before) (ap (λ (l : List _). Some (f l x)) (up_to_first-behind p xs (x ∷ []) any ∙ ap (λ (l : List _). xs ++ l) up))
told-push-by p f xs x false false any is =
    let one : filter p (x ∷ []) ≡ [] = rw is refl in
    let none = none-pass p xs any in
    let first : first_of (filter p (xs ++ x ∷ [])) ≡ None = ap first_of (filter-append p xs (x ∷ [])) ∙ ap (λ (l : List _). first_of (l ++ filter p (x ∷ []))) none ∙ ap first_of one in
    let before : first_of (filter p xs) ≡ None = ap first_of none in
    rw (first, before) refl

said-push : (h : List Record) (r : Record) (caller : ℕ) (key : List ℕ) → said_under (h ++ r ∷ []) caller key ≡ option_or (said_under h caller key) (if has_key caller key r then Some (said (h ++ r ∷ []) r) else None)
said-push h r caller key = told-push-by (has_key caller key) said h r (list_any (has_key caller key) h) (has_key caller key r) refl refl

-- ---- one record more

without-key : (h : List Record) (r : Record) (o : Option (List ℕ)) → r.key ≡ o → ((k : List ℕ) → o ≡ Some k → ⊥) → (caller : ℕ) (key : List ℕ) → has_key caller key r ≡ false
without-key h r None is never caller key = rw is (and-false (r.caller == caller))
without-key h r (Some k) is never caller key = absurd (never k refl)

pub keys-other : (m : Keys) (h : List Record) (r : Record) → AreKeys m h → ((k : List ℕ) → r.key ≡ Some k → ⊥) → AreKeys m (h ++ r ∷ [])
keys-other m h r are never = record {
  at = λ caller key. are.at caller key ∙ sym (position-push (has_key caller key) h r ∙ ap (λ (b : Bool). option_or (position (has_key caller key) h) (if b then Some (length h) else None)) (without-key h r r.key refl never caller key) ∙ or-none (position (has_key caller key) h));
  reply = λ caller key. are.reply caller key ∙ sym (said-push h r caller key ∙ ap (λ (b : Bool). option_or (said_under h caller key) (if b then Some (said (h ++ r ∷ []) r) else None)) (without-key h r r.key refl never caller key) ∙ or-none (said_under h caller key));
}

kept-at : (b : Bool) (at : ℕ) (reply : Reply) → option_map (λ (r : Replied). r.at) (if b then Some (record { at = at; reply = reply }) else None) ≡ (if b then Some at else None)
kept-at true at reply = refl
kept-at false at reply = refl

kept-reply : (b : Bool) (at : ℕ) (reply : Reply) → option_map (λ (r : Replied). r.reply) (if b then Some (record { at = at; reply = reply }) else None) ≡ (if b then Some reply else None)
kept-reply true at reply = refl
kept-reply false at reply = refl

pub keys-put : (m n : Keys) (h : List Record) (r : Record) (key : List ℕ) (reply : Reply) → AreKeys m h → r.key ≡ Some key → reply ≡ said (h ++ r ∷ []) r
    → ((c : ℕ) (text : List ℕ) → kept_at n c text ≡ option_or (kept_at m c text) (if (r.caller == c) && bytes_eq key text then Some (record { at = length h; reply = reply }) else None)) → AreKeys n (h ++ r ∷ [])
keys-put m n h r key reply are is said_is new = record {
  at = λ c text.
      let told_key : has_key c text r ≡ (r.caller == c) && bytes_eq key text = rw is refl in
      ap (λ (o : Option Replied). option_map (λ (k : Replied). k.at) o) (new c text) ∙ option_map-either (λ (k : Replied). k.at) (kept_at m c text) (if (r.caller == c) && bytes_eq key text then Some (record { at = length h; reply = reply }) else None)
      ∙ ap (λ (o : Option ℕ). option_or (option_map (λ (k : Replied). k.at) (kept_at m c text)) o) (kept-at ((r.caller == c) && bytes_eq key text) (length h) reply)
      ∙ ap (λ (o : Option ℕ). option_or o (if (r.caller == c) && bytes_eq key text then Some (length h) else None)) (are.at c text)
      ∙ sym (position-push (has_key c text) h r ∙ ap (λ (b : Bool). option_or (position (has_key c text) h) (if b then Some (length h) else None)) told_key);
  reply = λ c text.
      let told_key : has_key c text r ≡ (r.caller == c) && bytes_eq key text = rw is refl in
      ap (λ (o : Option Replied). option_map (λ (k : Replied). k.reply) o) (new c text) ∙ option_map-either (λ (k : Replied). k.reply) (kept_at m c text) (if (r.caller == c) && bytes_eq key text then Some (record { at = length h; reply = reply }) else None)
      ∙ ap (λ (o : Option Reply). option_or (option_map (λ (k : Replied). k.reply) (kept_at m c text)) o) (kept-reply ((r.caller == c) && bytes_eq key text) (length h) reply)
      ∙ ap (λ (o : Option Reply). option_or o (if (r.caller == c) && bytes_eq key text then Some reply else None)) (are.reply c text)
      ∙ ap (λ (t : Reply). option_or (said_under h c text) (if (r.caller == c) && bytes_eq key text then Some t else None)) said_is
      ∙ sym (said-push h r c text ∙ ap (λ (b : Bool). option_or (said_under h c text) (if b then Some (said (h ++ r ∷ []) r) else None)) told_key);
}
