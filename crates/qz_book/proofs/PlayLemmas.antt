-- The slots of an attempt, one more at a time.
use Rattle.std.proofs.Common.{◌≡◌, ℕ, zero, suc, ◌+◌, List, [], ◌∷◌, ◌++◌, Option, map, ap, ◌∙◌, arith}
use Rattle.std.specs.Prelude.{filter_map, option_to_list}
use Rattle.std.specs.List.{range_with_len}
use Rattle.std.proofs.lemmas.List.{map-append}
use Rattle.qz_grading.specs.declared.refusal.AttemptId.{AttemptId}
use Rattle.qz_terms.specs.declared.record.Record.{Record}
use Rattle.qz_terms.specs.History.{Slot, slot}
use Rattle.qz_terms.specs.Lists.{places_to}
use Rattle.qz_terms.proofs.Walks.{all_of-push}

range-more : (a n : ℕ) → range_with_len a (suc n) ≡ range_with_len a n ++ (a + n) ∷ []
range-more a zero = let same : a ≡ a + 0 = omega arith in ap (λ (m : ℕ). m ∷ []) same
range-more a (suc n) = let same : a + 1 + n ≡ a + suc n = omega arith in ap (λ (t : List ℕ). a ∷ t) (range-more (a + 1) n ∙ ap (λ (m : ℕ). range_with_len (a + 1) n ++ m ∷ []) same)

pub places-more : (n : ℕ) → places_to (n + 1) ≡ places_to n ++ (n + 1) ∷ []
places-more n =
    let more : n + 1 ≡ suc n = omega arith in
    let last : 1 + n ≡ n + 1 = omega arith in
    ap places_to more ∙ range-more 1 n ∙ ap (λ (m : ℕ). places_to n ++ m ∷ []) last

-- of one slot more
pub slots-more : {B : Type 0} (f : Slot → B) (h : List Record) (a : AttemptId) (n : ℕ) (o : Option Slot) → slot h a (n + 1) ≡ o → map f (filter_map (slot h a) (places_to (n + 1))) ≡ map f (filter_map (slot h a) (places_to n)) ++ map f (option_to_list o)
slots-more f h a n o is =
    ap (λ (ns : List ℕ). map f (filter_map (slot h a) ns)) (places-more n)
    ∙ ap (map f) (all_of-push (slot h a) (places_to n) (n + 1))
    ∙ map-append f (filter_map (slot h a) (places_to n)) (option_to_list (slot h a (n + 1)))
    ∙ ap (λ (s : Option Slot). map f (filter_map (slot h a) (places_to n)) ++ map f (option_to_list s)) is
