-- What stays settled while the records of a shard are looked at in order.
use Rattle.std.proofs.Common.{◌≡◌, ℕ, zero, suc, ◌+◌, ◌<◌, ◌≤◌, ◌⊎◌, inl, inr, Bool, true, false, List, [], ◌∷◌, ◌++◌, Option, Some, None, length, take, drop, get_or, refl, sym, ap, subst, ◌∙◌, arith}
use Rattle.std.specs.Prelude.{All, nat_lt, nat_le, slice_get, if◌then◌else◌}
use Rattle.std.proofs.lemmas.Bool.{leb-true, leb-false, ltb-true, ltb-false}
use Rattle.std.proofs.lemmas.List.Elements.{All-push}
use Rattle.std.proofs.lemmas.Option.{get_or_from_slice_get, slice_get_read, slice_get_within}
use Rattle.std.proofs.Math.Seq.{split_at}
use Rattle.qz_grading.proofs.StepLemmas.{slice_get-push}
use Rattle.qz_terms.specs.declared.record.Record.{Record}
use Rattle.qz_terms.specs.Legal.{Agrees, EventIsAllowed}
use Rattle.qz_terms.proofs.Walks.{take-one_more}
use Rattle.qz_agreement.specs.declared.findings.Claim.{Claim}
use Rattle.qz_agreement.specs.declared.findings.Findings.{Findings}
use Rattle.qz_agreement.specs.declared.look.Verdict.{Verdict}
use Rattle.qz_agreement.specs.declared.look.Verdict.TheVariants as verdict
use Rattle.qz_agreement.specs.declared.quizzes.Quizzes.{Quizzes}
use Rattle.qz_agreement.specs.Disagreements.{AreOfShard}
use Rattle.qz_agreement.specs.Findings.{AreLookedAt, IsAsked, IsBad, IsClaim, IsJudged, IsPassed, IsSettled, asked_after, earlier, first_after}
use Rattle.qz_agreement.specs.Fitting.{IsVerdictOf}
use Rattle.qz_agreement.specs.Quizzes.{AreQuizzes}

-- ---- the earlier of two

earlier-here-by : (f i : ℕ) (z : Bool) → nat_le f i ≡ z → (if z then f else i) ≤ i
earlier-here-by f i true is = leb-true f i is
earlier-here-by f i false is = omega arith

pub earlier-here : (first : Option ℕ) (i : ℕ) → earlier first i ≤ i
earlier-here None i = omega arith
earlier-here (Some f) i = earlier-here-by f i (nat_le f i) refl

earlier-keeps-by : (f i k : ℕ) (z : Bool) → nat_le f i ≡ z → f ≤ k → (if z then f else i) ≤ k
earlier-keeps-by f i k true is passed = passed
earlier-keeps-by f i k false is passed = let past = leb-false f i is in omega (arith, past, passed)

pub earlier-keeps : (first : Option ℕ) (i k : ℕ) → IsPassed first k → earlier first i ≤ k
earlier-keeps None i k passed = absurd passed
earlier-keeps (Some f) i k passed = earlier-keeps-by f i k (nat_le f i) refl passed

earlier-bad-by : (c h : List Record) (f i : ℕ) (z : Bool) → IsBad c h f → IsBad c h i → IsBad c h (if z then f else i)
earlier-bad-by c h f i true one other = one
earlier-bad-by c h f i false one other = other

pub earlier-bad : (c h : List Record) (first : Option ℕ) (i : ℕ) → ((t : ℕ) → first ≡ Some t → IsBad c h t) → IsBad c h i → IsBad c h (earlier first i)
earlier-bad c h None i bad here = here
earlier-bad c h (Some f) i bad here = earlier-bad-by c h f i (nat_le f i) (bad f refl) here

-- ---- once a verdict is known

passed-after : (first : Option ℕ) (i : ℕ) (v : Verdict) (k : ℕ) → IsPassed first k → IsPassed (first_after first i v) k
passed-after first i verdict.Agreed k passed = passed
passed-after first i verdict.Denied k passed = earlier-keeps first i k passed
passed-after first i (verdict.Pending n q) k passed = passed

get-longer : (claims : List Claim) (a : Claim) (j : ℕ) (b : Claim) → slice_get claims j ≡ Some b → slice_get (claims ++ a ∷ []) j ≡ Some b
get-longer [] a j b is = absurd cc
get-longer (x ∷ claims) a zero b is = is
get-longer (x ∷ claims) a (suc j) b is = get-longer claims a j b is

asked-longer : (claims : List Claim) (a : Claim) (i : ℕ) → IsAsked claims i → IsAsked (claims ++ a ∷ []) i
asked-longer claims a i asked = record { place = asked.place; ask = asked.ask; there = get-longer claims a asked.place asked.ask asked.there; index = asked.index }

still-asked : (claims : List Claim) (i : ℕ) (v : Verdict) (k : ℕ) → IsAsked claims k → IsAsked (asked_after claims i v) k
still-asked claims i verdict.Agreed k asked = asked
still-asked claims i verdict.Denied k asked = asked
still-asked claims i (verdict.Pending n q) k asked = asked-longer claims (record { at = n; quiz = q; index = i }) k asked

bad-after : (c h : List Record) (r : Record) (first : Option ℕ) (i : ℕ) (v : Verdict) → slice_get h i ≡ Some r → IsVerdictOf c (take i h) r v
    → ((t : ℕ) → first ≡ Some t → IsBad c h t) → (t : ℕ) → first_after first i v ≡ Some t → IsBad c h t
bad-after c h r first i verdict.Agreed there told bad t is = bad t is
bad-after c h r first i verdict.Denied there told bad t is =
    let same : earlier first i ≡ t = cc in
    subst (IsBad c h) same (earlier-bad c h first i bad (record { own = r; there = there; disagrees = told }))
bad-after c h r first i (verdict.Pending n q) there told bad t is = bad t is

claims-after : (c h : List Record) (r : Record) (claims : List Claim) (i : ℕ) (v : Verdict) → slice_get h i ≡ Some r → IsVerdictOf c (take i h) r v
    → All (IsClaim c h) claims → All (IsClaim c h) (asked_after claims i v)
claims-after c h r claims i verdict.Agreed there told all = all
claims-after c h r claims i verdict.Denied there told all = all
claims-after c h r claims i (verdict.Pending n q) there told all = All-push (IsClaim c h) claims (record { at = n; quiz = q; index = i }) all (record { own = r; there = there; pends = told })

here-agrees : (c h : List Record) (i : ℕ) (r : Record) → slice_get h i ≡ Some r → Agrees c (take i h) r → (x : Record) → slice_get h i ≡ Some x → Agrees c (take i h) x
here-agrees c h i r there agrees x is = let same : r ≡ x = (let two : Some r ≡ Some x = sym there ∙ is in cc) in subst (λ (y : Record). Agrees c (take i h) y) same agrees

settled-here : (c h : List Record) (r : Record) (first : Option ℕ) (claims : List Claim) (i : ℕ) (v : Verdict) → slice_get h i ≡ Some r → IsVerdictOf c (take i h) r v
    → IsJudged c (first_after first i v) h i ⊎ IsAsked (asked_after claims i v) i
settled-here c h r first claims i verdict.Agreed there told = inl (inl (here-agrees c h i r there told))
settled-here c h r first claims i verdict.Denied there told = inl (inr (earlier-here first i))
settled-here c h r first claims i (verdict.Pending n q) there told = inr (record { place = length claims; ask = record { at = n; quiz = q; index = i }; there = slice_get-push claims (record { at = n; quiz = q; index = i }); index = refl })

judged-keeps : (c : List Record) (old new : Option ℕ) (h : List Record) (i : ℕ) → (IsPassed old i → IsPassed new i) → IsJudged c old h i → IsJudged c new h i
judged-keeps c old new h i keeps (inl agrees) = inl agrees
judged-keeps c old new h i keeps (inr passed) = inr (keeps passed)

-- ---- one record more

-- this was noted of the record
pub record IsNoted (f g : Findings) (i : ℕ) (v : Verdict) : Type 0 where
  pub first : g.first ≡ first_after f.first i v
  pub claims : g.claims.items ≡ asked_after f.claims.items i v

settled-keeps : (c : List Record) (f g : Findings) (i : ℕ) (v : Verdict) (h : List Record) (k : ℕ) → IsNoted f g i v → IsSettled c f h k → IsSettled c g h k
settled-keeps c f g i v h k noted (inl judged) = inl (judged-keeps c f.first g.first h k (λ passed. subst (λ (o : Option ℕ). IsPassed o k) (sym noted.first) (passed-after f.first i v k passed)) judged)
settled-keeps c f g i v h k noted (inr asked) = inr (subst (λ (l : List Claim). IsAsked l k) (sym noted.claims) (still-asked f.claims.items i v k asked))

-- the records up to this index were looked at, and their attempts' quizzes are known
pub record IsWalked (c h : List Record) (f : Findings) (n : ℕ) (q : Quizzes) : Type 0 where
  pub looked : AreLookedAt c h f n
  pub quizzes : AreQuizzes q (take n h)

pub split-there : (h : List Record) (n : ℕ) (r : Record) → slice_get h n ≡ Some r → h ≡ take n h ++ r ∷ drop (suc n) h
split-there h n r there = split_at h n r (slice_get_within h n r there) ∙ ap (λ (x : Record). take n h ++ x ∷ drop (suc n) h) (get_or_from_slice_get h n r r there)

pub allowed-there : (h : List Record) (n : ℕ) (r : Record) → AreOfShard h → slice_get h n ≡ Some r → EventIsAllowed (take n h) r r.event
allowed-there h n r are there = (are.legal.each (take n h) r (drop (suc n) h) (split-there h n r there)).event

below-by : (i n : ℕ) (b : Bool) → nat_lt i n ≡ b → i < n + 1 → (i < n) ⊎ (i ≡ n)
below-by i n true is below = inl (ltb-true i n is)
below-by i n false is below = let past = ltb-false i n is in inr (omega (arith, below, past))

pub below-or-at : (i n : ℕ) → i < n + 1 → (i < n) ⊎ (i ≡ n)
below-or-at i n below = below-by i n (nat_lt i n) refl below

settled-there : (c : List Record) (f g : Findings) (i : ℕ) (v : Verdict) (h : List Record) (r : Record) → IsNoted f g i v → IsVerdictOf c (take i h) r v → slice_get h i ≡ Some r → IsSettled c g h i
settled-there c f g i v h r noted told there = subst (λ (o : Option ℕ). IsJudged c o h i ⊎ IsAsked g.claims.items i) (sym noted.first)
    (subst (λ (l : List Claim). IsJudged c (first_after f.first i v) h i ⊎ IsAsked l i) (sym noted.claims)
    (settled-here c h r f.first f.claims.items i v there told))

pub nothing-looked : (c h : List Record) (f : Findings) → f.first ≡ None → f.claims.items ≡ [] → All (IsClaim c h) [] → AreLookedAt c h f 0
nothing-looked c h f none empty all = record {
  findings = record {
    bad = λ i is. (let two : None ≡ Some i = sym none ∙ is in absurd cc);
    claims = subst (λ (l : List Claim). All (IsClaim c h) l) (sym empty) all;
  };
  each = λ i below. absurd (omega arith);
}

pub walk-more : (c h : List Record) (f g : Findings) (n : ℕ) (p q : Quizzes) (r : Record) (v : Verdict) → AreOfShard h → n < length h → r ≡ get_or h n r
    → IsWalked c h f n p
    → ((l : List Record) → AreQuizzes p l → EventIsAllowed l r r.event → IsVerdictOf c l r v)
    → IsNoted f g n v
    → ((l : List Record) → AreQuizzes p l → AreQuizzes q (l ++ r ∷ []))
    → IsWalked c h g (n + 1) q
walk-more c h f g n p q r v are inside is w look noted follow =
    let there : slice_get h n ≡ Some r = slice_get_read h (length h) n r refl inside is in
    let told = look (take n h) w.quizzes (allowed-there h n r are there) in
    record {
      looked = record {
        findings = record {
          bad = λ t e. bad-after c h r f.first n v there told w.looked.findings.bad t (sym noted.first ∙ e);
          claims = subst (λ (l : List Claim). All (IsClaim c h) l) (sym noted.claims) (claims-after c h r f.claims.items n v there told w.looked.findings.claims);
        };
        each = λ i below. elim (below-or-at i n below) [
          | inl less ↦ settled-keeps c f g n v h i noted (w.looked.each i less)
          | inr same ↦ subst (λ (j : ℕ). IsSettled c g h j) (sym same) (settled-there c f g n v h r noted told there)
        ];
      };
      quizzes = subst (λ (l : List Record). AreQuizzes q l) (sym (take-one_more h n r inside is)) (follow (take n h) w.quizzes);
    }
