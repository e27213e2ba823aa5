-- What one record tells of quizzes.
use Rattle.std.proofs.Common.{◌≡◌, ℕ, zero, suc, ◌+◌, ◌-◌, ◌<◌, ◌≤◌, Bool, true, false, List, [], ◌∷◌, ◌++◌, Option, Some, None, option_map, length, get_or, map, refl, sym, ap, subst, ◌∙◌, arith, append-nil}
use Rattle.std.specs.Option.{option_or}
use Rattle.std.specs.Prelude.{ℤ, ◌==◌, ◌&&◌, if◌then◌else◌, is_some, nat_le, option_and_then, option_to_list, slice_get, unwrap_or}
use Rattle.std.proofs.Math.ListN.{set}
use Rattle.std.proofs.lemmas.Bool.{and_parts, eq-eqb, eqb-true, leb-true}
use Rattle.std.proofs.lemmas.List.{length-map, map-append}
use Rattle.std.proofs.lemmas.Option.{slice_get_within}
use Rattle.qz_lemmas.proofs.Lists.{get-kept, position-push}
use Rattle.qz_lemmas.proofs.Options.{or-none}
use Rattle.qz_grading.proofs.StepLemmas.{slice_get-push}
use Rattle.qz_grading.specs.declared.outcome.Behaviour.{Behaviour}
use Rattle.qz_grading.specs.Grading.{at_place, is_place}
use Rattle.qz_terms.specs.declared.record.Record.{Record}
use Rattle.qz_terms.specs.declared.request.Request.{Request}
use Rattle.qz_terms.specs.declared.request.Request.TheVariants as request
use Rattle.qz_terms.specs.Catalog.{asked, policy_by, quiz_by, quizzes, readies, readies_by, remax_by, slot_by, times_by}
use Rattle.qz_terms.proofs.Walks.{all_of-push, last_of-push}
use Rattle.qz_roster.specs.declared.quizzes.Quiz.{Quiz}
use Rattle.qz_roster.specs.declared.quizzes.Quizzes.{Quizzes}
use Rattle.qz_roster.specs.declared.quizzes.Slot.{Slot}
use Rattle.qz_roster.specs.Quizzes.{AreQuizzesOf, IsTold, TellsMore, Told, anew_at, has_its_slot, made, made_at, places, quiz_at, quiz_told, slot_room, told, told_at, untold}
use Rattle.qz_roster.proofs.Reading.{at-item, at-set, set-read, some-same}

-- ---- a new max mark

pub place-told : (count n : ℕ) → is_place count n ≡ true → (1 ≤ n) × (n ≤ count)
place-told count n is = let parts = and_parts (nat_le 1 n) (nat_le n count) is in (leb-true 1 n parts.0, leb-true n count parts.1)

pub slot-there : (count quiz slot : ℕ) (max : ℤ) (o : Option Request) → o ≡ Some (request.Remax quiz slot max) → has_its_slot count o ≡ true → (1 ≤ slot) × (slot ≤ count)
slot-there count quiz slot max o is there = place-told count slot (sym (ap (has_its_slot count) is) ∙ there)

renewed-by : (ss : List Slot) (k slot : ℕ) (max : ℤ) (b : Bool) → (if b then Some max else anew_at ss k) ≡ option_or (if b then Some max else None) (anew_at ss k)
renewed-by ss k slot max true = refl
renewed-by ss k slot max false = refl

pub renewed : (ss : List Slot) (q k other slot : ℕ) (max : ℤ) (o : Option Request) (new : Slot) → o ≡ Some (request.Remax other slot max) → other ≡ q → 1 ≤ slot → slot ≤ length ss → new.anew ≡ Some max → anew_at (set ss (slot - 1) new) k ≡ option_or (remax_by q k o) (anew_at ss k)
renewed ss q k other slot max o new is own from inside anew =
    let place : slot - 1 + 1 ≡ slot = omega arith in
    let told : remax_by q k o ≡ (if slot == k then Some max else None) = ap (remax_by q k) is ∙ ap (λ (b : Bool). if b && (slot == k) then Some max else None) (eq-eqb other q own) in
    set-read (λ (s : Slot). s.anew) ss (slot - 1) k new (omega arith)
    ∙ ap (λ n. if n == k then new.anew else anew_at ss k) place
    ∙ ap (λ (m : Option ℤ). if slot == k then m else anew_at ss k) anew
    ∙ renewed-by ss k slot max (slot == k)
    ∙ ap (λ (m : Option ℤ). option_or m (anew_at ss k)) (sym told)

-- ---- one quiz

pub told-kept : (c : List Record) (q : ℕ) (r : Record) (old new : Told) → IsTold c q old → TellsMore q (length c) r old new → IsTold (c ++ r ∷ []) q new
told-kept c q r old new is more = record {
  slots = more.slots ∙ ap (λ (ss : List (ℕ × ℤ)). ss ++ option_to_list (slot_by q (asked r))) is.slots ∙ sym (all_of-push (λ (s : Record). slot_by q (asked s)) c r);
  anew = λ k. more.anew k ∙ ap (option_or (remax_by q k (asked r))) (is.anew k) ∙ sym (last_of-push (λ (s : Record). remax_by q k (asked s)) c r);
  ready = more.ready ∙ ap (λ (o : Option ℕ). option_or o (if readies q r then Some (length c) else None)) is.ready ∙ sym (position-push (readies q) c r);
  times = more.times ∙ ap (option_or (times_by q (asked r))) is.times ∙ sym (last_of-push (λ (s : Record). times_by q (asked s)) c r);
  terms = more.terms ∙ ap (option_or (policy_by q (asked r))) is.terms ∙ sym (last_of-push (λ (s : Record). policy_by q (asked s)) c r);
}

-- a request that isn't about a quiz
pub record IsSilent (q : ℕ) (o : Option Request) : Type 0 where
  pub slots : slot_by q o ≡ None
  pub anew : (k : ℕ) → remax_by q k o ≡ None
  pub ready : (r : Record) → asked r ≡ o → readies q r ≡ false
  pub times : times_by q o ≡ None
  pub terms : policy_by q o ≡ None

pub silent : (q : ℕ) (o : Option Request) → ((n : ℕ) → quiz_told o ≡ Some n → (n == q) ≡ false) → IsSilent q o
silent q (Some (request.Slot quiz entry max)) other = let apart = other quiz refl in record { slots = rw apart refl; anew = λ k. refl; ready = λ r is. ap (readies_by q) is; times = refl; terms = refl }
silent q (Some (request.Remax quiz slot max)) other = let apart = other quiz refl in record { slots = refl; anew = λ k. rw apart refl; ready = λ r is. ap (readies_by q) is; times = refl; terms = refl }
silent q (Some (request.Ready quiz)) other = let apart = other quiz refl in record { slots = refl; anew = λ k. refl; ready = λ r is. ap (readies_by q) is ∙ apart; times = refl; terms = refl }
silent q (Some (request.Policy quiz method grade)) other = let apart = other quiz refl in record { slots = refl; anew = λ k. refl; ready = λ r is. ap (readies_by q) is; times = refl; terms = rw apart refl }
silent q (Some (request.Times quiz opens closes limit allowed handling grace review)) other = let apart = other quiz refl in record { slots = refl; anew = λ k. refl; ready = λ r is. ap (readies_by q) is; times = rw apart refl; terms = refl }
silent q o other = record { slots = refl; anew = λ k. refl; ready = λ r is. ap (readies_by q) is; times = refl; terms = refl }

pub unchanged : (q at : ℕ) (r : Record) (x : Told) → IsSilent q (asked r) → TellsMore q at r x x
unchanged q at r x none = record {
  slots = sym (append-nil (map made x.slots)) ∙ ap (λ (o : Option (ℕ × ℤ)). map made x.slots ++ option_to_list o) (sym none.slots);
  anew = λ k. ap (λ (o : Option ℤ). option_or o (anew_at x.slots k)) (sym (none.anew k));
  ready = sym (or-none x.ready) ∙ ap (λ (b : Bool). option_or x.ready (if b then Some at else None)) (sym (none.ready r refl));
  times = ap (λ (o : Option _). option_or o x.times) (sym none.times);
  terms = ap (λ (o : Option _). option_or o x.terms) (sym none.terms);
}

-- ---- what made a quiz

got-by : {A B : Type 0} (f : A → Option B) (xs : List A) (ys : List B) (n : ℕ) → map f xs ≡ map (λ (y : B). Some y) ys → slice_get ys n ≡ option_and_then f (slice_get xs n)
got-by f [] [] n same = refl
got-by f [] (y ∷ ys) n same = absurd cc
got-by f (x ∷ xs) [] n same = absurd cc
got-by f (x ∷ xs) (y ∷ ys) zero same = let head : f x ≡ Some y = cc in sym head
got-by f (x ∷ xs) (y ∷ ys) (suc n) same = got-by f xs ys n (let tail : map f xs ≡ map (λ (z : _). Some z) ys = cc in tail)

pub got-at : {A B : Type 0} (f : A → Option B) (xs : List A) (ys : List B) (n : ℕ) → map f xs ≡ map (λ (y : B). Some y) ys → at_place ys n ≡ option_and_then f (at_place xs n)
got-at f xs ys n same = by (n == 0) refl
  where
    by : (b : Bool) → (n == 0) ≡ b → at_place ys n ≡ option_and_then f (at_place xs n)
    by true is = rw is refl
    by false is = rw is (got-by f xs ys (n - 1) same)

-- ---- a quiz in place of another

pub item-set : {V : Type 0} (f : Quiz → V) (d : V) (xs : List Quiz) (i q : ℕ) (new : Quiz) → i < length xs → unwrap_or (option_map f (at_place (set xs i new) q)) d ≡ (if i + 1 == q then f new else unwrap_or (option_map f (at_place xs q)) d)
item-set f d xs i q new inside = ap (λ (o : Option Quiz). unwrap_or (option_map f o) d) (at-set xs i q new inside) ∙ by f d new (at_place xs q) (i + 1 == q)
  where
    by : {V : Type 0} (f : Quiz → V) (d : V) (new : Quiz) (o : Option Quiz) (b : Bool) → unwrap_or (option_map f (if b then Some new else o)) d ≡ (if b then f new else unwrap_or (option_map f o) d)
    by f d new o true = refl
    by f d new o false = refl

same-by : (xs : List Quiz) (i q : ℕ) (old new : Quiz) (b : Bool) → (i + 1 == q) ≡ b → i < length xs → old ≡ get_or xs i old → told new ≡ told old → (if b then told new else unwrap_or (option_map told (at_place xs q)) untold) ≡ unwrap_or (option_map told (at_place xs q)) untold
same-by xs i q old new true is inside at same = rw (at-item xs i q old inside at is) same
same-by xs i q old new false is inside at same = refl

-- of which the same is told
pub told-same : (xs : List Quiz) (i q : ℕ) (old new : Quiz) → i < length xs → old ≡ get_or xs i old → told new ≡ told old → unwrap_or (option_map told (at_place (set xs i new) q)) untold ≡ unwrap_or (option_map told (at_place xs q)) untold
told-same xs i q old new inside at same = item-set told untold xs i q new inside ∙ same-by xs i q old new (i + 1 == q) refl inside at same

more-by : (xs : List Quiz) (i q at : ℕ) (r : Record) (old new : Quiz) (b : Bool) → (i + 1 == q) ≡ b → i < length xs → old ≡ get_or xs i old → quiz_told (asked r) ≡ Some (i + 1) → TellsMore (i + 1) at r (told old) (told new)
    → TellsMore q at r (unwrap_or (option_map told (at_place xs q)) untold) (if b then told new else unwrap_or (option_map told (at_place xs q)) untold)
more-by xs i q at r old new true is inside here names more =
    let same = eqb-true (i + 1) q is in
    rw (at-item xs i q old inside here is) (subst (λ n. TellsMore n at r (told old) (told new)) same more)
more-by xs i q at r old new false is inside here names more =
    unchanged q at r (unwrap_or (option_map told (at_place xs q)) untold) (silent q (asked r) (λ n other. let one : i + 1 ≡ n = some-same (i + 1) n (sym names ∙ other) in ap (λ m. m == q) (sym one) ∙ is))

-- of which more is told
pub told-more : (xs : List Quiz) (i q at : ℕ) (r : Record) (old new : Quiz) → i < length xs → old ≡ get_or xs i old → quiz_told (asked r) ≡ Some (i + 1) → TellsMore (i + 1) at r (told old) (told new)
    → TellsMore q at r (unwrap_or (option_map told (at_place xs q)) untold) (unwrap_or (option_map told (at_place (set xs i new) q)) untold)
told-more xs i q at r old new inside here names more =
    subst (TellsMore q at r (unwrap_or (option_map told (at_place xs q)) untold)) (sym (item-set told untold xs i q new inside)) (more-by xs i q at r old new (i + 1 == q) refl inside here names more)

-- ---- the record that made a quiz

get-map : {A B : Type 0} (f : A → B) (xs : List A) (n : ℕ) → slice_get (map f xs) n ≡ option_map f (slice_get xs n)
get-map f [] n = refl
get-map f (x ∷ xs) zero = refl
get-map f (x ∷ xs) (suc n) = get-map f xs n

pub at-map : {A B : Type 0} (f : A → B) (xs : List A) (n : ℕ) → at_place (map f xs) n ≡ option_map f (at_place xs n)
at-map f xs n = by (n == 0) refl
  where
    by : (b : Bool) → (n == 0) ≡ b → at_place (map f xs) n ≡ option_map f (at_place xs n)
    by true is = rw is refl
    by false is = rw is (get-map f xs (n - 1))

made-there : {A B : Type 0} (f : A → Option B) (xs : List A) (ys : List B) (n : ℕ) (x : A) → map f xs ≡ map (λ (y : B). Some y) ys → slice_get xs n ≡ Some x → is_some (f x) ≡ true
made-there f [] ys n x same at = absurd cc
made-there f (z ∷ xs) [] n x same at = absurd cc
made-there f (z ∷ xs) (y ∷ ys) zero x same at = let here : z ≡ x = cc in let head : f z ≡ Some y = cc in ap is_some (ap f (sym here) ∙ head)
made-there f (z ∷ xs) (y ∷ ys) (suc n) x same at = made-there f xs ys n x (let tail : map f xs ≡ map (λ (w : _). Some w) ys = cc in tail) at

there-by : {A B : Type 0} (f : A → Option B) (xs : List A) (ys : List B) (n : ℕ) (x : A) (b : Bool) → (n == 0) ≡ b → map f xs ≡ map (λ (y : B). Some y) ys → at_place xs n ≡ Some x → is_some (f x) ≡ true
there-by f xs ys n x true is same at = let none : at_place xs n ≡ None = rw is refl in absurd cc
there-by f xs ys n x false is same at = made-there f xs ys (n - 1) x same (rw is at at)

inside-by : (c : List Record) (at : ℕ) (o : Option Record) → slice_get c at ≡ o → is_some (made_at c at) ≡ true → at < length c
inside-by c at None is some = let none : made_at c at ≡ None = ap (option_and_then (λ (r : Record). quiz_by (asked r))) is in absurd cc
inside-by c at (Some r) is some = slice_get_within c at r is

pub place-inside : (c : List Record) (z : Quizzes) (q : ℕ) (x : Quiz) → AreQuizzesOf c z → quiz_at z q ≡ Some x → x.at < length c
place-inside c z q x are at =
    inside-by c x.at (slice_get c x.at) refl (there-by (made_at c) (places z) (quizzes c) q x.at (q == 0) refl are.made (at-map (λ (y : Quiz). y.at) z.quizzes.items q ∙ ap (option_map (λ (y : Quiz). y.at)) at))

pub made-by : (c : List Record) (z : Quizzes) (q : ℕ) (o : Option Quiz) → AreQuizzesOf c z → quiz_at z q ≡ o → at_place (quizzes c) q ≡ option_and_then (λ (x : Quiz). made_at c x.at) o
made-by c z q o are at =
    got-at (made_at c) (places z) (quizzes c) q are.made ∙ ap (option_and_then (made_at c)) (at-map (λ (y : Quiz). y.at) z.quizzes.items q ∙ ap (option_map (λ (y : Quiz). y.at)) at) ∙ by c o
  where
    by : (c : List Record) (o : Option Quiz) → option_and_then (made_at c) (option_map (λ (y : Quiz). y.at) o) ≡ option_and_then (λ (x : Quiz). made_at c x.at) o
    by c None = refl
    by c (Some x) = refl

-- ---- all of them, with one record more

made-kept : (c : List Record) (r : Record) (ats : List ℕ) (ys : List (List ℕ × Behaviour)) → map (made_at c) ats ≡ map (λ (y : List ℕ × Behaviour). Some y) ys → map (made_at (c ++ r ∷ [])) ats ≡ map (λ (y : List ℕ × Behaviour). Some y) ys
made-kept c r [] [] same = refl
made-kept c r [] (y ∷ ys) same = absurd cc
made-kept c r (n ∷ ats) [] same = absurd cc
made-kept c r (n ∷ ats) (y ∷ ys) same =
    let head : made_at c n ≡ Some y = cc in
    let tail : map (made_at c) ats ≡ map (λ (w : List ℕ × Behaviour). Some w) ys = cc in
    let inside = inside-by c n (slice_get c n) refl (ap is_some head) in
    let first : made_at (c ++ r ∷ []) n ≡ Some y = ap (option_and_then (λ (s : Record). quiz_by (asked s))) (get-kept c r n inside) ∙ head in
    let rest = made-kept c r ats ys tail in
    ap (λ (o : Option (List ℕ × Behaviour)). o ∷ map (made_at (c ++ r ∷ [])) ats) first ∙ ap (λ (os : List (Option (List ℕ × Behaviour))). Some y ∷ os) rest

made-more : (c : List Record) (r : Record) (o : Option (List ℕ × Behaviour)) → quiz_by (asked r) ≡ o → map (made_at (c ++ r ∷ [])) (option_to_list (option_map (λ (n : List ℕ × Behaviour). length c) o)) ≡ map (λ (y : List ℕ × Behaviour). Some y) (option_to_list o)
made-more c r None is = refl
made-more c r (Some y) is = ap (λ (p : Option (List ℕ × Behaviour)). p ∷ []) (ap (option_and_then (λ (s : Record). quiz_by (asked s))) (slice_get-push c r) ∙ is)

pub quizzes-kept : (c : List Record) (r : Record) (old mid new : Quizzes) → AreQuizzesOf c old → places mid ≡ places old → ((q : ℕ) → TellsMore q (length c) r (told_at old q) (told_at mid q))
    → places new ≡ places mid ++ option_to_list (option_map (λ n. length c) (quiz_by (asked r))) → ((q : ℕ) → told_at new q ≡ told_at mid q) → AreQuizzesOf (c ++ r ∷ []) new
quizzes-kept c r old mid new are same more longer still = record {
  made = ap (map (made_at (c ++ r ∷ []))) (longer ∙ ap (λ (l : List ℕ). l ++ option_to_list (option_map (λ (n : List ℕ × Behaviour). length c) (quiz_by (asked r)))) same)
      ∙ map-append (made_at (c ++ r ∷ [])) (places old) (option_to_list (option_map (λ (n : List ℕ × Behaviour). length c) (quiz_by (asked r))))
      ∙ ap (λ (l : List (Option (List ℕ × Behaviour))). l ++ map (made_at (c ++ r ∷ [])) (option_to_list (option_map (λ (n : List ℕ × Behaviour). length c) (quiz_by (asked r))))) (made-kept c r (places old) (quizzes c) are.made)
      ∙ ap (λ (l : List (Option (List ℕ × Behaviour))). map (λ (y : List ℕ × Behaviour). Some y) (quizzes c) ++ l) (made-more c r (quiz_by (asked r)) refl)
      ∙ sym (map-append (λ (y : List ℕ × Behaviour). Some y) (quizzes c) (option_to_list (quiz_by (asked r))))
      ∙ ap (map (λ (y : List ℕ × Behaviour). Some y)) (sym (all_of-push (λ (s : Record). quiz_by (asked s)) c r));
  each = λ q. subst (IsTold (c ++ r ∷ []) q) (sym (still q)) (told-kept c q r (told_at old q) (told_at mid q) (are.each q) (more q));
}

-- the quiz that was given room has it
pub own-room : (xs : List Quiz) (n q : ℕ) (new : Quiz) (o : Option Request) → 1 ≤ n → n ≤ length xs → q ≡ n → slot_room o new ≡ true → option_map (slot_room o) (at_place (set xs (n - 1) new) q) ≡ Some true
own-room xs n q new o from inside same room =
    let place : n - 1 + 1 ≡ q = omega arith in
    ap (option_map (slot_room o)) (at-set xs (n - 1) q new (omega arith) ∙ ap (λ (b : Bool). if b then Some new else at_place xs q) (eq-eqb (n - 1 + 1) q place)) ∙ ap Some room

-- as many as there are
pub quizzes-length : (c : List Record) (z : Quizzes) → AreQuizzesOf c z → length z.quizzes.items ≡ length (quizzes c)
quizzes-length c z are =
    sym (length-map z.quizzes.items (λ (x : Quiz). x.at)) ∙ sym (length-map (places z) (made_at c)) ∙ ap (λ (l : List (Option _)). length l) are.made ∙ length-map (quizzes c) (λ (n : _). Some n)
