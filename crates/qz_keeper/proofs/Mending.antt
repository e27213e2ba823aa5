-- What a keeper that was opened again found, by how long it is and what it ends with.
use Rattle.std.proofs.Common.{◌≡◌, ⊎_elim, ℕ, List, [], ◌∷◌, ◌++◌, length, Option, Some, None, IfSome, refl, sym, ◌∙◌, ap, subst}
use Rattle.std.proofs.Math.Seq.{drop-append_seam}
use Rattle.std.specs.Prelude.{drop}
use Rattle.qz_disks.specs.Keepers.{with_one_more, MayStand, Reopens}

-- the last of two lists of one length
pub last_same : (a b : List (List ℕ)) (x y : List ℕ) → a ++ x ∷ [] ≡ b ++ y ∷ [] → length a ≡ length b → x ≡ y
last_same a b x y same long =
    let one : x ∷ [] ≡ y ∷ [] = sym (drop-append_seam a (x ∷ [])) ∙ ap (drop (length a)) same ∙ ap (λ n. drop n (b ++ y ∷ [])) long ∙ drop-append_seam b (y ∷ []) in cc

-- where the payload in doubt wasn't found behind so many, the list is the one kept
pub dropped_kept : (old new : Option (List (List ℕ))) (payload : List ℕ) (before now : Option (List ℕ)) (found : List (List ℕ)) (count : ℕ) → IfSome old (λ told. length told ≡ count) → before ≡ Some payload → Reopens old new before now found
    → ((front : List (List ℕ)) → length front ≡ count → found ≡ with_one_more payload front → ⊥) → new ≡ old
dropped_kept None new payload before now found count long was r none = r.kept
dropped_kept (Some told) new payload before now found count long was r none =
    r.kept ∙ ap (λ l. Some l) (⊎_elim (λ same. same) (λ longer. absurd (none told long longer)) (subst (λ d. MayStand told d found) was r.stands))

-- none was found beside one in doubt
pub none_beside : {A : Type 0} (P : A → Type 0) (found doubt : Option A) (r : A) → IfSome found (λ x. P x × (doubt ≡ None)) → doubt ≡ Some r → found ≡ None
none_beside P None doubt r one is = refl
none_beside P (Some x) doubt r one is = let none : doubt ≡ None = one.1 in absurd cc
