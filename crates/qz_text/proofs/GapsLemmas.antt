-- A pattern's parts, with a gap between each two.
use Rattle.std.proofs.Common.{◌≡◌, ◌≢◌, ℕ, ◌+◌, ◌<◌, true, List, [], ◌∷◌, ◌++◌, length, take, drop, get_or, All, refl, sym, ap, ◌∙◌, subst, arith, length-take, take-append-drop}
use Rattle.std.proofs.lemmas.Bool.{cond_both, eqb-true, ne_eqb, false_from_ne_true}
use Rattle.std.proofs.lemmas.List.{drop_more, get_or_default, get_or-take}
use Rattle.std.proofs.lemmas.List.Elements.{All-head, All-tail}
use Rattle.std.proofs.lemmas.List.Splits.{slice_split-cons_no, slice_split_none, slice_split_at}
use Rattle.std.specs.List.{onto_first}
use Rattle.memchr.specs.Find.{Nowhere, NoneBefore, Passes, is_byte}
use Rattle.qz_text.specs.Gaps.{gap, joined, is_gap, parts_between_gaps}
use Rattle.qz_text.specs.Patterns.{star, backslash, plain_parts}
use Rattle.qz_text.proofs.PartsLemmas.{IsPlainAt, HasFirst, HasFirst-plain_parts, plain_parts-star, plain_parts-plain, plain_parts-induction}

-- ---- what a search for a gap says

pub parts_between_gaps-none : (bs : List ℕ) → Nowhere (Passes (is_byte gap) bs) 0 (length bs) → parts_between_gaps bs ≡ bs ∷ []
parts_between_gaps-none bs nowhere =
    slice_split_none is_gap bs
    (λ k d below. false_from_ne_true _ (λ here. nowhere k (omega arith) below (subst (λ b. is_gap b ≡ true) (get_or_default bs k d 0 below) here)))

pub parts_between_gaps-at : (bs : List ℕ) (k : ℕ) → NoneBefore (Passes (is_byte gap) bs) 0 (length bs) k → Passes (is_byte gap) bs k → parts_between_gaps bs ≡ take k bs ∷ parts_between_gaps (drop (k + 1) bs)
parts_between_gaps-at bs k first here =
    let within = first.high in
    let cut : bs ≡ take k bs ++ gap ∷ drop (k + 1) bs =
    sym (take-append-drop k bs) ∙ ap (λ l. take k bs ++ l) (drop_more bs k 0 within ∙ ap (λ b. b ∷ drop (k + 1) bs) (eqb-true (get_or bs k 0) gap here)) in
    ap parts_between_gaps cut
    ∙ slice_split_at is_gap (take k bs) gap (drop (k + 1) bs)
    (λ j d below.
    let before : j < k = omega (arith, length-take k bs) in
    let same = get_or-take k bs j d before ∙ get_or_default bs j d 0 (omega arith) in
    false_from_ne_true _ (λ gap_there. first.before j (omega arith) before (subst (λ b. is_gap b ≡ true) same gap_there)))
    refl

pub HasFirst-parts_between_gaps : (bs : List ℕ) → HasFirst (parts_between_gaps bs)
HasFirst-parts_between_gaps [] = record { first = []; later = []; are = refl }
HasFirst-parts_between_gaps (b ∷ bs) =
    let rest = HasFirst-parts_between_gaps bs in
    cond_both (is_gap b) ([] ∷ parts_between_gaps bs) (onto_first b (parts_between_gaps bs)) HasFirst
    (λ _. record { first = []; later = parts_between_gaps bs; are = refl })
    (λ _. record { first = b ∷ rest.first; later = rest.later; are = ap (onto_first b) rest.are })

-- ---- parts joined by gaps

joined-nil : (parts : List (List ℕ)) → HasFirst parts → joined ([] ∷ parts) ≡ gap ∷ joined parts
joined-nil parts h = ap (λ l. joined ([] ∷ l)) h.are ∙ sym (ap (λ l. gap ∷ joined l) h.are)

joined-cons : (c : ℕ) (first : List ℕ) (later : List (List ℕ)) → joined ((c ∷ first) ∷ later) ≡ c ∷ joined (first ∷ later)
joined-cons c first [] = refl
joined-cons c first (next ∷ later) = refl

joined-onto_first : (c : ℕ) (parts : List (List ℕ)) → HasFirst parts → joined (onto_first c parts) ≡ c ∷ joined parts
joined-onto_first c parts h =
    ap (λ l. joined (onto_first c l)) h.are ∙ joined-cons c h.first h.later ∙ sym (ap (λ l. c ∷ joined l) h.are)

-- the joined parts, by the first sign
pub joined-star : (cs : List ℕ) → joined (plain_parts (star ∷ cs)) ≡ gap ∷ joined (plain_parts cs)
joined-star cs = ap joined (plain_parts-star cs) ∙ joined-nil (plain_parts cs) (HasFirst-plain_parts cs)

pub joined-escape : (cs : List ℕ) → joined (plain_parts (backslash ∷ star ∷ cs)) ≡ star ∷ joined (plain_parts cs)
joined-escape cs = joined-onto_first star (plain_parts cs) (HasFirst-plain_parts cs)

pub joined-plain : (c : ℕ) (cs : List ℕ) → IsPlainAt c cs → joined (plain_parts (c ∷ cs)) ≡ c ∷ joined (plain_parts cs)
joined-plain c cs plain = ap joined (plain_parts-plain c cs plain) ∙ joined-onto_first c (plain_parts cs) (HasFirst-plain_parts cs)

-- where no character is the gap, the gaps are cut again
pub parts_between_gaps-joined : (cs : List ℕ) → All (λ c. c < gap) cs → parts_between_gaps (joined (plain_parts cs)) ≡ plain_parts cs
parts_between_gaps-joined =
    plain_parts-induction (λ cs. All (λ c. c < gap) cs → parts_between_gaps (joined (plain_parts cs)) ≡ plain_parts cs) (λ all. refl)
    (λ cs h all. ap parts_between_gaps (joined-star cs) ∙ ap (λ l. [] ∷ l) (h (All-tail (λ c. c < gap) star cs all)) ∙ sym (plain_parts-star cs))
    (λ cs h all.
    ap parts_between_gaps (joined-escape cs)
    ∙ ap (onto_first star) (h (All-tail (λ c. c < gap) star cs (All-tail (λ c. c < gap) backslash (star ∷ cs) all))))
    (λ c cs plain h all.
    let below = All-head (λ c. c < gap) c cs all in
    ap parts_between_gaps (joined-plain c cs plain) ∙ slice_split-cons_no is_gap c (joined (plain_parts cs)) (ne_eqb c gap (λ is. absurd (omega arith)))
    ∙ ap (onto_first c) (h (All-tail (λ c. c < gap) c cs all)) ∙ sym (plain_parts-plain c cs plain))

-- the same of a list that is known by its first items
pub joined-from_escape : (bs cs : List ℕ) → bs ≡ backslash ∷ star ∷ cs → joined (plain_parts bs) ≡ star ∷ joined (plain_parts cs)
joined-from_escape bs cs e = ap (λ l. joined (plain_parts l)) e ∙ joined-escape cs

pub joined-from_star : (bs cs : List ℕ) (c : ℕ) → bs ≡ c ∷ cs → c ≡ star → joined (plain_parts bs) ≡ gap ∷ joined (plain_parts cs)
joined-from_star bs cs c e is = ap (λ l. joined (plain_parts l)) (e ∙ ap (λ x. x ∷ cs) is) ∙ joined-star cs

no_star_after : (cs : List ℕ) → ((ds : List ℕ) → cs ≢ star ∷ ds) → get_or cs 0 0 ≢ star
no_star_after [] apart e = absurd (omega arith)
no_star_after (d ∷ cs) apart e = apart cs (ap (λ x. x ∷ cs) e)

pub joined-from_plain : (bs cs : List ℕ) (c : ℕ) → bs ≡ c ∷ cs → c ≢ star → ((ds : List ℕ) → bs ≢ backslash ∷ star ∷ ds) → joined (plain_parts bs) ≡ c ∷ joined (plain_parts cs)
joined-from_plain bs cs c e other apart =
    ap (λ l. joined (plain_parts l)) e
    ∙ joined-plain c cs (record {
      no_star = other;
      no_escape = λ is. no_star_after cs (λ ds star_next. apart ds (e ∙ ap (λ x. x ∷ cs) is ∙ ap (λ l. backslash ∷ l) star_next));
    })
