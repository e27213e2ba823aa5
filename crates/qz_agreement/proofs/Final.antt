-- What is told once every record is judged.
use Rattle.std.proofs.Common.{◌≡◌, ℕ, suc, ◌<◌, ◌≤◌, ◌⊎◌, inl, inr, List, [], ◌∷◌, ◌++◌, Option, Some, None, length, take, drop, refl, sym, ap, subst, ◌∙◌, arith, append_assoc}
use Rattle.std.specs.List.{Contains}
use Rattle.std.specs.List.Sorted.{IsPermutation}
use Rattle.std.specs.Prelude.{slice_get}
use Rattle.std.proofs.lemmas.List.{length-take-le, take_at, take-append-drop}
use Rattle.std.proofs.lemmas.List.Sorted.{Contains-permutation}
use Rattle.std.proofs.lemmas.Option.{get_or_from_slice_get, slice_get_read, slice_get_within}
use Rattle.qz_terms.specs.declared.record.Record.{Record}
use Rattle.qz_terms.specs.Legal.{Agrees, AllAgree}
use Rattle.qz_agreement.specs.declared.disagreement.Disagreement.{Disagreement}
use Rattle.qz_agreement.specs.declared.disagreement.Disagreement.TheVariants as disagreement
use Rattle.qz_agreement.specs.declared.findings.Claim.{Claim}
use Rattle.qz_agreement.specs.declared.findings.Findings.{Findings}
use Rattle.qz_agreement.specs.Disagreements.{IsFirst, IsTold}
use Rattle.qz_agreement.specs.Findings.{AreJudged, AreLookedAt, AreSwept, IsAsked, IsBad, IsJudged}
use Rattle.qz_agreement.proofs.Walking.{split-there}

-- ---- all is judged

asked-judged : (c h : List Record) (claims swept : List Claim) (old new : Option ℕ) (i : ℕ) → IsPermutation claims swept → AreSwept c h swept old new (length swept) → IsAsked claims i → IsJudged c new h i
asked-judged c h claims swept old new i moved s asked =
    let inside : asked.place < length claims = slice_get_within claims asked.place asked.ask asked.there in
    let has : Contains claims asked.ask = (asked.place, inside, get_or_from_slice_get claims asked.place asked.ask asked.ask asked.there) in
    let there : Contains swept asked.ask = Contains-permutation claims swept asked.ask moved has in
    let told = s.each there.0 asked.ask there.1 (slice_get_read swept (length swept) there.0 asked.ask refl there.1 (sym there.2)) in
    subst (λ (m : ℕ). IsJudged c new h m) asked.index told

settled-judged : (c h : List Record) (claims swept : List Claim) (old new : Option ℕ) (i : ℕ) → IsPermutation claims swept → AreSwept c h swept old new (length swept) → IsJudged c old h i ⊎ IsAsked claims i → IsJudged c new h i
settled-judged c h claims swept old new i moved s (inl (inl agrees)) = inl agrees
settled-judged c h claims swept old new i moved s (inl (inr passed)) = inr (s.passed i passed)
settled-judged c h claims swept old new i moved s (inr asked) = asked-judged c h claims swept old new i moved s asked

-- once the questions were put in order and answered
pub all-judged : (c h : List Record) (f : Findings) (swept : List Claim) (new : Option ℕ) → AreLookedAt c h f (length h) → IsPermutation f.claims.items swept → AreSwept c h swept f.first new (length swept) → AreJudged c h new
all-judged c h f swept new looked moved s = record {
  bad = s.bad looked.findings.bad;
  each = λ i inside. settled-judged c h f.claims.items swept f.first new i moved s (looked.each i inside);
}

-- ---- what is told

get-there : (l : List Record) (r : Record) (rest : List Record) → slice_get (l ++ r ∷ rest) (length l) ≡ Some r
get-there [] r rest = refl
get-there (x ∷ l) r rest =
    let long : length (x ∷ l) ≡ suc (length l) = omega arith in
    ap (slice_get ((x ∷ l) ++ r ∷ rest)) long ∙ get-there l r rest

-- a record before what was found first agrees
earlier-agrees : (c : List Record) (new : Option ℕ) (h l : List Record) (r : Record) (rest : List Record) → h ≡ l ++ r ∷ rest → IsJudged c new h (length l) → ((i : ℕ) → new ≡ Some i → i ≤ length l → ⊥) → Agrees c l r
earlier-agrees c new h l r rest is (inl agrees) none =
    subst (λ (m : List Record). Agrees c m r) (ap (take (length l)) is ∙ take_at l (r ∷ rest) (length l) refl) (agrees r (ap (λ (m : List Record). slice_get m (length l)) is ∙ get-there l r rest))
earlier-agrees c None h l r rest is (inr passed) none = absurd passed
earlier-agrees c (Some i) h l r rest is (inr passed) none = absurd (none i refl passed)

inside-there : (h l : List Record) (r : Record) (rest : List Record) → h ≡ l ++ r ∷ rest → length l < length h
inside-there h l r rest is = slice_get_within h (length l) r (ap (λ (m : List Record). slice_get m (length l)) is ∙ get-there l r rest)

pub none-found : (c h : List Record) → AreJudged c h None → AllAgree c h
none-found c h judged = record {
  each = λ l r rest is. earlier-agrees c None h l r rest is (judged.each (length l) (inside-there h l r rest is)) (λ i none. absurd cc);
}

front-agrees : (c h : List Record) (i : ℕ) → AreJudged c h (Some i) → i < length h → AllAgree c (take i h)
front-agrees c h i judged inside = record {
  each = λ l r rest is.
      let whole : h ≡ l ++ r ∷ (rest ++ drop i h) = sym (take-append-drop i h) ∙ ap (λ (m : List Record). m ++ drop i h) is ∙ append_assoc l (r ∷ rest) (drop i h) in
      let long = length-take-le i h (let in_it = inside in omega (arith, in_it)) in
      let within = inside-there (take i h) l r rest is in
      let below : length l < i = omega (arith, long, within) in
      earlier-agrees c (Some i) h l r (rest ++ drop i h) whole (judged.each (length l) (inside-there h l r (rest ++ drop i h) whole))
      (λ t one no_later. let same : i ≡ t = cc in absurd (omega (arith, same, below, no_later)));
}

told-by : (c h : List Record) (i : ℕ) (d : Disagreement) (b : IsBad c h i) → AreJudged c h (Some i) → IsTold (length c) i b.own d → IsFirst c h d
told-by c h i (disagreement.Behind position) b judged told = record {
  before = take i h;
  own = b.own;
  rest = drop (suc i) h;
  list = split-there h i b.own b.there;
  agree = front-agrees c h i judged (slice_get_within h i b.own b.there);
  past = told;
}
told-by c h i (disagreement.Altered place) b judged told = record {
  before = take i h;
  own = b.own;
  rest = drop (suc i) h;
  list = split-there h i b.own b.there;
  agree = front-agrees c h i judged (slice_get_within h i b.own b.there);
  within = told.1;
  disagrees = b.disagrees;
  at = (let inside = slice_get_within h i b.own b.there in let long = length-take-le i h (omega (arith, inside)) in let at = told.0 in omega (arith, long, at));
}

-- what was found first is in the list
pub found-inside : (c h : List Record) (i : ℕ) → AreJudged c h (Some i) → i < length h
found-inside c h i judged = let b = judged.bad i refl in slice_get_within h i b.own b.there

pub first-told : (c h : List Record) (i : ℕ) (d : Disagreement) (count : ℕ) → count ≡ length c → AreJudged c h (Some i) → ((r : Record) → slice_get h i ≡ Some r → IsTold count i r d) → IsFirst c h d
first-told c h i d count long judged told =
    let b = judged.bad i refl in
    told-by c h i d b judged (subst (λ (n : ℕ). IsTold n i b.own d) long (told b.own b.there))
