-- Lists that are alike for a user give the same readings of this user's attempts, and so do their fronts.
use Rattle.std.proofs.Common.{◌≡◌, ℕ, ◌-◌, Bool, true, false, ◌&&◌, List, [], ◌∷◌, ◌++◌, Option, Some, None, refl, ap, ◌∙◌, sym, subst, arith, append_assoc, append-nil, if◌then◌else◌}
use Rattle.std.specs.Prelude.{◌==◌, filter_map, slice_get}
use Rattle.std.specs.List.{list_all}
use Rattle.std.proofs.lemmas.List.Elements.{filter_map-append}
use Rattle.std.proofs.lemmas.Bool.Decides.{nat_tests}
use Rattle.qz_lemmas.proofs.Bools.{and-left}
use Rattle.qz_grading.specs.declared.question.Question.{Question}
use Rattle.qz_grading.specs.declared.refusal.AttemptId.{AttemptId}
use Rattle.qz_grading.specs.Grading.{at_place}
use Rattle.qz_grading.specs.Steps.{last_of}
use Rattle.qz_terms.specs.declared.plan.Bound.{Bound}
use Rattle.qz_terms.specs.declared.record.Event.{Event}
use Rattle.qz_terms.specs.declared.record.Event.TheVariants as event
use Rattle.qz_terms.specs.declared.record.Record.{Record}
use Rattle.qz_terms.specs.Lists.{first_of, up_to_first}
use Rattle.qz_terms.specs.History as history
use Rattle.qz_terms.specs.Laws.{AgreeFor, own_records, unlearned, unlearned_event}
use Rattle.qz_terms.specs.Legal.{EventIsAllowed, IsLegal, has_its_owner, owner_by, owner_is}
use Rattle.qz_terms.proofs.Readings.{first_of-append}
use Rattle.qz_terms.proofs.Walks.{IsToldIn, last_told_in}
use Rattle.qz_isolation.specs.Isolation.{AreAlike}
use Rattle.qz_isolation.proofs.Own.{TestsOwn, own-told, own-up_to}
use Rattle.qz_isolation.proofs.Versions.{Told, learned-after}

-- ---- legal lists

pub legal-front : (index count : ℕ) (l rest h : List Record) → h ≡ l ++ rest → IsLegal index count h → IsLegal index count l
legal-front index count l rest h is legal = record {
  each = λ k r more e. legal.each k r (more ++ rest) (is ∙ ap (λ (t : List Record). t ++ rest) e ∙ append_assoc k (r ∷ more) rest);
}

owners-behind : (index count : ℕ) (h l rest : List Record) → IsLegal index count h → h ≡ l ++ rest → list_all (has_its_owner index count) rest ≡ true
owners-behind index count h l [] legal is = refl
owners-behind index count h l (r ∷ rest) legal is =
    let here = (legal.each l r rest is).owner in
    rw here (owners-behind index count h (l ++ r ∷ []) rest legal (is ∙ sym (append_assoc l (r ∷ []) rest)))

pub owners : (index count : ℕ) (h : List Record) → IsLegal index count h → list_all (has_its_owner index count) h ≡ true
owners index count h legal = owners-behind index count h [] h legal refl

-- ---- a version that is bound has been learned

in-place : (bs : List Bound) (k : ℕ) (b : Bound) (z : Bool) → (if z then None else slice_get bs (k - 1)) ≡ Some b → slice_get bs (k - 1) ≡ Some b
in-place bs k b true is = absurd cc
in-place bs k b false is = is

if-told : {A : Type 0} (b : Bool) (o : Option A) (x : A) → (if b then o else None) ≡ Some x → o ≡ Some x
if-told true o x is = is
if-told false o x is = absurd cc

learned-by : (l : List Record) (r : Record) (a : AttemptId) (k : ℕ) (b : Bound) (e : Event) → r.event ≡ e → EventIsAllowed l r e → history.binds_by a k r e ≡ Some b → Told (history.version (l ++ r ∷ []) b.entry b.version)
learned-by l r a k b (event.Started quiz nth behaviour bounds learned) is allowed told =
    let at : at_place bounds k ≡ Some b = if-told (history.same_attempt a (record { user = r.owner; nth = nth })) (at_place bounds k) b told in
    learned-after l r bounds (k - 1) b (rw is allowed.learns) (in-place bounds k b (k == 0) at)
learned-by l r a k b (event.Rebound job d slot bound learned) is allowed told =
    let same : Some bound ≡ Some b = if-told (history.same_attempt a d && (k == slot)) (Some bound) b told in
    learned-after l r (bound ∷ []) 0 b (rw is allowed.learns) same
learned-by l r a k b e is allowed told = absurd cc

pub version-append : (l rest : List Record) (e v : ℕ) (q : Question) → history.version l e v ≡ Some q → history.version (l ++ rest) e v ≡ Some q
version-append l rest e v q is = ap first_of (filter_map-append (history.learns e v) l rest) ∙ first_of-append (filter_map (history.learns e v) l) (filter_map (history.learns e v) rest) q is

pub known-in : (index count : ℕ) (h : List Record) (a : AttemptId) (k : ℕ) (b : Bound) → IsLegal index count h → IsToldIn (history.binds a k) h b → Told (history.version h b.entry b.version)
known-in index count h a k b legal t =
    let found = learned-by t.front t.item a k b t.item.event refl (legal.each t.front t.item t.rest t.stands).event t.tells in
    (found.0, ap (λ (g : List Record). history.version g b.entry b.version) (t.stands ∙ sym (append_assoc t.front (t.item ∷ []) t.rest)) ∙ version-append (t.front ++ t.item ∷ []) t.rest b.entry b.version found.0 found.1)

known : (index count : ℕ) (h : List Record) (a : AttemptId) (k : ℕ) (b : Bound) → IsLegal index count h → history.bound h a k ≡ Some b → Told (history.version h b.entry b.version)
known index count h a k b legal is = known-in index count h a k b legal (last_told_in (history.binds a k) h b is)

-- ---- what is bound

apart : (o b a : ℕ) → (o == b) ≡ true → (o == a) ≡ false → (a == b) ≡ false
apart o b a is other = grind (arith, nat_tests)

other-user : (o a : ℕ) → (o == a) ≡ false → (a == o) ≡ false
other-user o a other = grind (arith, nat_tests)

pub other-attempt : (index count : ℕ) (r : Record) (a b : AttemptId) → owner_is index count r b ≡ true → history.is_owned a.user r ≡ false → history.same_attempt a b ≡ false
other-attempt index count r a b is other = let e = apart r.owner b.user a.user (and-left (r.owner == b.user) _ is) other in rw e refl

binds-none : (index count : ℕ) (a : AttemptId) (k : ℕ) (r : Record) (e : Event) → owner_by index count r e ≡ true → history.is_owned a.user r ≡ false → history.binds_by a k r e ≡ None
binds-none index count a k r (event.Started quiz nth behaviour bounds learned) is other = let e = other-user r.owner a.user other in rw e refl
binds-none index count a k r (event.Rebound job b slot bound learned) is other = let e = other-attempt index count r a b is other in rw e refl
binds-none index count a k r e is other = refl

binds-forgets : (a : AttemptId) (k : ℕ) (r : Record) (e : Event) → history.binds_by a k (unlearned r) (unlearned_event e) ≡ history.binds_by a k r e
binds-forgets a k r (event.Started quiz nth behaviour bounds learned) = refl
binds-forgets a k r (event.Rebound job b slot bound learned) = refl
binds-forgets a k r e = refl

pub binds-own : (index count : ℕ) (a : AttemptId) (k : ℕ) (h : List Record) → list_all (has_its_owner index count) h ≡ true → filter_map (history.binds a k) h ≡ filter_map (history.binds a k) (own_records a.user h)
binds-own index count a k h all = own-told a.user (has_its_owner index count) (history.binds a k) h (λ r is other. binds-none index count a k r r.event is other) (λ r. binds-forgets a k r r.event) all

bound-own : (index count : ℕ) (a : AttemptId) (k : ℕ) (h : List Record) → list_all (has_its_owner index count) h ≡ true → history.bound h a k ≡ last_of (filter_map (history.binds a k) (own_records a.user h))
bound-own index count a k h all = ap last_of (binds-own index count a k h all)

-- ---- alike lists agree, and so do their fronts

up-step : (p : Record → Bool) (r : Record) (h : List Record) (b : Bool) → p r ≡ b → (rest : List Record) × (h ≡ up_to_first p h ++ rest) → (rest : List Record) × (r ∷ h ≡ up_to_first p (r ∷ h) ++ rest)
up-step p r h true is later = (h, rw is refl)
up-step p r h false is later = (later.0, rw is (ap (λ (t : List Record). r ∷ t) later.1))

-- what stands behind the first
pub up-front : (p : Record → Bool) (h : List Record) → (rest : List Record) × (h ≡ up_to_first p h ++ rest)
up-front p [] = ([], refl)
up-front p (r ∷ h) = up-step p r h (p r) refl (up-front p h)

pub agree : (index count u : ℕ) (h g : List Record) → AreAlike index count u h g → AgreeFor index count u h g
agree index count u h g alike = record {
  owners = owners index count h alike.legal;
  others = owners index count g alike.other_legal;
  own = alike.own;
  versions = λ a k b mine is. alike.versions h [] a k b (sym (append-nil h)) mine is;
}

-- fronts with the same own records give the same question for each version that is bound
fronts-by : (index count u : ℕ) (h g l k rest more : List Record) → AreAlike index count u h g → h ≡ l ++ rest → g ≡ k ++ more → own_records u l ≡ own_records u k → AgreeFor index count u l k
fronts-by index count u h g l k rest more alike front other own =
    let legal = legal-front index count l rest h front alike.legal in
    let other_legal = legal-front index count k more g other alike.other_legal in
    let all = owners index count l legal in
    let others = owners index count k other_legal in
    record {
      owners = all;
      others = others;
      own = own;
      versions = λ a n b mine is.
          let P : ℕ → Type 0 = λ v. own_records v l ≡ own_records v k in
          let same : own_records a.user l ≡ own_records a.user k = subst P (sym mine) own in
          let bound : history.bound k a n ≡ Some b = bound-own index count a n k others ∙ ap (λ (t : List Record). last_of (filter_map (history.binds a n) t)) (sym same) ∙ sym (bound-own index count a n l all) ∙ is in
          let here = known index count l a n b legal is in
          let there = known index count k a n b other_legal bound in
          let one : history.version h b.entry b.version ≡ Some here.0 = ap (λ (t : List Record). history.version t b.entry b.version) front ∙ version-append l rest b.entry b.version here.0 here.1 in
          let two : history.version g b.entry b.version ≡ Some there.0 = ap (λ (t : List Record). history.version t b.entry b.version) other ∙ version-append k more b.entry b.version there.0 there.1 in
          here.1 ∙ sym one ∙ alike.versions l rest a n b front mine is ∙ two ∙ sym there.1;
    }

pub fronts-own : (u : ℕ) (good p : Record → Bool) (h g : List Record) → TestsOwn u good p → list_all good h ≡ true → list_all good g ≡ true → own_records u h ≡ own_records u g → own_records u (up_to_first p h) ≡ own_records u (up_to_first p g)
fronts-own u good p h g t all others own = own-up_to u good p h t all ∙ ap (up_to_first p) own ∙ sym (own-up_to u good p g t others)

pub fronts : (index count u : ℕ) (h g : List Record) (good p : Record → Bool) → AreAlike index count u h g → TestsOwn u good p → list_all good h ≡ true → list_all good g ≡ true → AgreeFor index count u (up_to_first p h) (up_to_first p g)
fronts index count u h g good p alike t all others =
    fronts-by index count u h g (up_to_first p h) (up_to_first p g) (up-front p h).0 (up-front p g).0 alike (up-front p h).1 (up-front p g).1 (fronts-own u good p h g t all others alike.own)
