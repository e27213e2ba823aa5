-- The steps before the first Finish, one step more at a time.
use Rattle.std.proofs.Common.{◌≡◌, ℕ, ◌+◌, ◌<◌, ◌≤◌, true, false, List, [], ◌∷◌, ◌++◌, Option, Some, None, Bor, length, take, drop, get_or, refl, sym, ap, ◌∙◌, append_assoc, append-nil}
use Rattle.std.specs.Option.{option_or}
use Rattle.std.specs.Prelude.{filter_map, option_copied, option_to_list}
use Rattle.std.proofs.lemmas.List.{drop_all, drop_more}
use Rattle.qz_grading.specs.declared.response.Response.{Response}
use Rattle.qz_grading.specs.declared.response.Step.{Step}
use Rattle.qz_grading.specs.Steps.{before, is_finish, last_of, response_of}
use Rattle.qz_grading.proofs.StepLemmas.{last_of-push}
use Rattle.qz_terms.proofs.Walks.{all_kept, take-one_more}

-- none of the first so many steps is a finish
pub record IsBefore (s : List Step) (i : ℕ) : Type 0 where
  pub split : before s ≡ take i s ++ before (drop i s)

pub before-none : (s : List Step) → IsBefore s 0
before-none s = record { split = refl }

rest-at : (s : List Step) (i : ℕ) (x : Step) → i < length s → x ≡ get_or s i x → drop i s ≡ x ∷ drop (i + 1) s
rest-at s i x inside is = drop_more s i x inside ∙ ap (λ (y : Step). y ∷ drop (i + 1) s) (sym is)

goes-on : (x : Step) (s : List Step) → is_finish x ≡ false → before (x ∷ s) ≡ x ∷ before s
goes-on x s is = rw is refl

ends : (x : Step) (s : List Step) → is_finish x ≡ true → before (x ∷ s) ≡ []
ends x s is = rw is refl

pub before-more : (s : List Step) (i : ℕ) (x : Step) → i < length s → x ≡ get_or s i x → is_finish x ≡ false → IsBefore s i → IsBefore s (i + 1)
before-more s i x inside is other b = record {
  split =
      b.split ∙ (ap (λ (t : List Step). take i s ++ before t) (rest-at s i x inside is)
      ∙ (ap (λ (t : List Step). take i s ++ t) (goes-on x (drop (i + 1) s) other)
      ∙ (sym (append_assoc (take i s) (x ∷ []) (before (drop (i + 1) s))) ∙ sym (ap (λ (t : List Step). t ++ before (drop (i + 1) s)) (take-one_more s i x inside is)))));
}

-- a finish comes next
pub before-finish : (s : List Step) (i : ℕ) (x : Step) → i < length s → x ≡ get_or s i x → is_finish x ≡ true → IsBefore s i → before s ≡ take i s
before-finish s i x inside is one b =
    b.split ∙ (ap (λ (t : List Step). take i s ++ before t) (rest-at s i x inside is) ∙ (ap (λ (t : List Step). take i s ++ t) (ends x (drop (i + 1) s) one) ∙ append-nil (take i s)))

-- or none is there
pub before-whole : (s : List Step) (i : ℕ) → length s ≤ i → IsBefore s i → before s ≡ take i s
before-whole s i past b = b.split ∙ (ap (λ (t : List Step). take i s ++ before t) (drop_all i s past) ∙ append-nil (take i s))

-- ---- the last response

last-more : {A : Type 0} (xs : List A) (o : Option A) → last_of (xs ++ option_to_list o) ≡ option_or o (last_of xs)
last-more xs None = ap last_of (append-nil xs)
last-more xs (Some x) = last_of-push None xs x

copied-or : {A : Type 0} (a b : Option (Bor A)) → option_copied (option_or a b) ≡ option_or (option_copied a) (option_copied b)
copied-or None b = refl
copied-or (Some x) b = refl

pub last-kept : (s : List Step) (i : ℕ) (x : Step) (found old new : Option (Bor Response)) → i < length s → x ≡ get_or s i x → option_copied found ≡ response_of x → new ≡ option_or found old → option_copied old ≡ last_of (filter_map response_of (take i s))
    → option_copied new ≡ last_of (filter_map response_of (take (i + 1) s))
last-kept s i x found old new inside is told one so_far =
    ap option_copied one
    ∙ (copied-or found old
    ∙ (ap (λ (o : Option Response). option_or o (option_copied old)) told
    ∙ (ap (option_or (response_of x)) so_far ∙ sym (ap last_of (all_kept response_of s i x inside is) ∙ last-more (filter_map response_of (take i s)) (response_of x)))))
