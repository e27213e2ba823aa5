-- The answers of a matching question, pair by pair.
use Rattle.std.proofs.Common.{◌≡◌, ℕ, zero, suc, ◌+◌, ◌-◌, ◌<◌, ◌≤◌, Bool, true, false, cond, not, ◌||◌, ◌==◌, List, [], ◌∷◌, ◌++◌, length, take, drop, get_or, bytes_eq, Some, None, refl, sym, ap, ◌∙◌, arith, append-nil}
use Rattle.std.specs.Prelude.{filter, slice_get}
use Rattle.std.specs.List.{list_any}
use Rattle.std.proofs.lemmas.List.{take_more, take_all, take-append-drop, length-append}
use Rattle.std.proofs.lemmas.List.Elements.{filter-append}
use Rattle.std.proofs.lemmas.Bool.Decides.{nat_tests}
use Rattle.std.proofs.lemmas.Option.{slice_get_past}
use Rattle.qz_grading.specs.declared.question.Pair.{Pair}
use Rattle.qz_grading.specs.Grading.{answers, at_place}

-- a pair has the answer of another
abbrev pub has_same : Pair → Pair → Bool
has_same q p = bytes_eq p.answer q.answer

abbrev others : Pair → List (List ℕ) → List (List ℕ)
others p ts = filter (λ u. not (bytes_eq p.answer u)) ts

others-one : (q p : Pair) (e : Bool) → bytes_eq q.answer p.answer ≡ e → others q (p.answer ∷ []) ≡ cond e [] (p.answer ∷ [])
others-one q p true h = rw h refl
others-one q p false h = rw h refl

answers-push-cons : (q : Pair) (ps : List Pair) (p : Pair) (any e : Bool) → bytes_eq q.answer p.answer ≡ e → answers (ps ++ p ∷ []) ≡ cond any (answers ps) (answers ps ++ p.answer ∷ []) → answers ((q ∷ ps) ++ p ∷ []) ≡ cond (e || any) (answers (q ∷ ps)) (answers (q ∷ ps) ++ p.answer ∷ [])
answers-push-cons q ps p true true h rest = ap (λ (ts : List (List ℕ)). q.answer ∷ others q ts) rest
answers-push-cons q ps p true false h rest = ap (λ (ts : List (List ℕ)). q.answer ∷ others q ts) rest
answers-push-cons q ps p false true h rest =
    ap (λ (ts : List (List ℕ)). q.answer ∷ others q ts) rest
    ∙ ap (λ (ts : List (List ℕ)). q.answer ∷ ts) (filter-append (λ u. not (bytes_eq q.answer u)) (answers ps) (p.answer ∷ []) ∙ ap (λ (ts : List (List ℕ)). others q (answers ps) ++ ts) (others-one q p true h) ∙ append-nil (others q (answers ps)))
answers-push-cons q ps p false false h rest =
    ap (λ (ts : List (List ℕ)). q.answer ∷ others q ts) rest
    ∙ ap (λ (ts : List (List ℕ)). q.answer ∷ ts) (filter-append (λ u. not (bytes_eq q.answer u)) (answers ps) (p.answer ∷ []) ∙ ap (λ (ts : List (List ℕ)). others q (answers ps) ++ ts) (others-one q p false h))

-- one more pair adds its answer where no pair before has it
pub answers-push : (ps : List Pair) (p : Pair) → answers (ps ++ p ∷ []) ≡ cond (list_any (has_same p) ps) (answers ps) (answers ps ++ p.answer ∷ [])
answers-push [] p = refl
answers-push (q ∷ ps) p = answers-push-cons q ps p (list_any (has_same p) ps) (bytes_eq q.answer p.answer) refl (answers-push ps p)

answers-more : (ps : List Pair) (i : ℕ) (d : Pair) → i < length ps → (any : Bool) → list_any (has_same (get_or ps i d)) (take i ps) ≡ any → answers (take (i + 1) ps) ≡ cond any (answers (take i ps)) (answers (take i ps) ++ (get_or ps i d).answer ∷ [])
answers-more ps i d inside any is = ap answers (take_more ps i d inside) ∙ answers-push (take i ps) (get_or ps i d) ∙ ap (λ (b : Bool). cond b (answers (take i ps)) (answers (take i ps) ++ (get_or ps i d).answer ∷ [])) is

-- further pairs only add answers behind
pub record Extends (front all : List (List ℕ)) : Type 0 where
  pub behind : List (List ℕ)
  pub is : all ≡ front ++ behind

answers-extend-cons : (p : Pair) (ps qs : List Pair) → Extends (answers ps) (answers (ps ++ qs)) → Extends (answers (p ∷ ps)) (answers ((p ∷ ps) ++ qs))
answers-extend-cons p ps qs rest = record {
  behind = others p rest.behind;
  is = ap (λ (ts : List (List ℕ)). p.answer ∷ others p ts) rest.is ∙ ap (λ (ts : List (List ℕ)). p.answer ∷ ts) (filter-append (λ u. not (bytes_eq p.answer u)) (answers ps) rest.behind);
}

answers-extend : (ps qs : List Pair) → Extends (answers ps) (answers (ps ++ qs))
answers-extend [] qs = record { behind = answers qs; is = refl }
answers-extend (p ∷ ps) qs = answers-extend-cons p ps qs (answers-extend ps qs)

slice_get-seam : (xs : List (List ℕ)) (x : List ℕ) (ys : List (List ℕ)) → slice_get ((xs ++ x ∷ []) ++ ys) (length xs) ≡ Some x
slice_get-seam [] x ys = refl
slice_get-seam (y ∷ xs) x ys = slice_get-seam xs x ys

-- ---- the step of a loop over the pairs, at the pair x

pub known_pair : (ps : List Pair) (i : ℕ) (x : Pair) → i < length ps → x ≡ get_or ps i x → list_any (has_same x) (take i ps) ≡ true → length (answers (take (i + 1) ps)) ≡ length (answers (take i ps))
known_pair ps i x inside at is = ap length (answers-more ps i x inside true (rw (← at) is))

pub new_pair : (ps : List Pair) (i : ℕ) (x : Pair) → i < length ps → x ≡ get_or ps i x → list_any (has_same x) (take i ps) ≡ false → length (answers (take (i + 1) ps)) ≡ length (answers (take i ps)) + 1
new_pair ps i x inside at is = ap length (answers-more ps i x inside false (rw (← at) is)) ∙ length-append (answers (take i ps)) ((get_or ps i x).answer ∷ [])

at_place-next : (ts : List (List ℕ)) (n m : ℕ) → n ≡ m + 1 → at_place ts n ≡ slice_get ts m
at_place-next ts n m e =
    let nonzero : (n == 0) ≡ false = grind (arith, nat_tests) in
    let less : n - 1 ≡ m = omega arith in
    rw (nonzero, less) refl

-- a new answer stands at the place that counts up to it
pub found_new : (ps : List Pair) (i : ℕ) (x : Pair) (count place : ℕ) → i < length ps → x ≡ get_or ps i x → list_any (has_same x) (take i ps) ≡ false → count ≡ length (answers (take i ps)) → place ≡ count + 1 → Some x.answer ≡ at_place (answers ps) place
found_new ps i x count place inside at is counted next =
    let more = answers-extend (take (i + 1) ps) (drop (i + 1) ps) in
    let front : answers (take (i + 1) ps) ≡ answers (take i ps) ++ x.answer ∷ [] = answers-more ps i x inside false (rw (← at) is) ∙ ap (λ (y : Pair). answers (take i ps) ++ y.answer ∷ []) (sym at) in
    let whole : answers ps ≡ (answers (take i ps) ++ x.answer ∷ []) ++ more.behind = ap answers (sym (take-append-drop (i + 1) ps)) ∙ more.is ∙ ap (λ (ts : List (List ℕ)). ts ++ more.behind) front in
    let stands : slice_get (answers ps) (length (answers (take i ps))) ≡ Some x.answer = ap (λ (ts : List (List ℕ)). slice_get ts (length (answers (take i ps)))) whole ∙ slice_get-seam (answers (take i ps)) x.answer more.behind in
    sym (at_place-next (answers ps) place count next ∙ ap (slice_get (answers ps)) counted ∙ stands)

-- past all answers there is none
pub found_none : (ps : List Pair) (i count place : ℕ) → length ps ≤ i → count ≡ length (answers (take i ps)) → (0 < place → count < place) → None ≡ at_place (answers ps) place
found_none ps i count zero past counted before = refl
found_none ps i count (suc n) past counted before =
    let all : take i ps ≡ ps = take_all i ps past in
    let few : length (answers ps) ≤ n = let c : count ≡ length (answers ps) = counted ∙ ap (λ (qs : List Pair). length (answers qs)) all in let b : count < suc n = before (omega arith) in omega arith in
    sym (at_place-next (answers ps) (suc n) n (omega arith) ∙ slice_get_past (answers ps) n few)
