-- What a list keeps of each record, told of what is read of it.
use Rattle.std.proofs.Common.{◌≡◌, ℕ, zero, suc, ◌-◌, eqb, Bool, true, false, ◌&&◌, List, [], ◌∷◌, ◌++◌, Some, None, length, refl, sym, ap, subst, ◌∙◌, arith, length-append, All, map}
use lib.Dec.{T}
use lib.Signed.{le_z_yes}
use Rattle.std.proofs.lemmas.List.{map-append}
use Rattle.std.proofs.lemmas.List.Elements.{All-nil}
use Rattle.std.specs.Prelude.{◌==◌, ℤ, ◌*◌, ◌≤ℤ◌, filter_map, if◌then◌else◌, int_le, nat_le, pos, slice_get}
use Rattle.std.specs.List.{list_all}
use Rattle.std.proofs.Math.Seq.{get_or-append_seam}
use Rattle.std.proofs.lemmas.Bool.{eqb-true}
use Rattle.qz_decimal.specs.Numbers.{IsMaxMark, one}
use Rattle.qz_grading.specs.declared.outcome.Behaviour.{Behaviour}
use Rattle.qz_grading.specs.declared.question.Question.{Question}
use Rattle.qz_grading.specs.declared.refusal.AttemptId.{AttemptId}
use Rattle.qz_grading.specs.Grading.{at_place}
use Rattle.qz_grading.specs.Questions.{IsQuestion}
use Rattle.qz_terms.specs.declared.plan.Bound.{Bound}
use Rattle.qz_terms.specs.declared.record.Event.{Event}
use Rattle.qz_terms.specs.declared.record.Event.TheVariants as event
use Rattle.qz_terms.specs.declared.record.Learned.{Learned}
use Rattle.qz_terms.specs.declared.record.Record.{Record}
use Rattle.qz_terms.specs.Kept.{AreLearned, IsKept, KeepsEvent, is_bound, is_moment}
use Rattle.qz_terms.specs.Legal.{IsLegal, is_here, owner_by}
use Rattle.qz_terms.specs.Lists.{first_of}
use Rattle.qz_terms.specs.History.{Start, binds, binds_by, bound, learned_by, learned_version, learns, same_attempt, start, started, starts, version}
use Rattle.qz_terms.proofs.Walks.{IsToldIn, first_told_in, last_told_in}

-- ---- an item of a list

pub All-seam : {A : Type 0} (P : A → Type 0) (xs : List A) (x : A) (rest : List A) → All P (xs ++ x ∷ rest) → P x
All-seam P xs x rest all = subst P (get_or-append_seam xs x rest x) (all (length xs) x (let long = length-append xs (x ∷ rest) in omega arith))

pub and-left : (b c : Bool) → b && c ≡ true → b ≡ true
and-left true c is = refl
and-left false c is = absurd cc

pub and-right : (b c : Bool) → b && c ≡ true → c ≡ true
and-right true c is = is
and-right false c is = absurd cc

pub all-at : {A : Type 0} (p : A → Bool) (xs : List A) (n : ℕ) (x : A) → list_all p xs ≡ true → slice_get xs n ≡ Some x → p x ≡ true
all-at p [] n x all is = absurd cc
all-at p (y ∷ ys) zero x all is = let same : y ≡ x = cc in ap p (sym same) ∙ and-left (p y) (list_all p ys) all
all-at p (y ∷ ys) (suc n) x all is = all-at p ys n x (and-right (p y) (list_all p ys) all) is

-- ---- starts

-- the record that started an attempt
pub record IsStartRecord (h : List Record) (a : AttemptId) (s : Start) : Type 0 where
  pub front : List Record
  pub item : Record
  pub rest : List Record
  pub learned : List Learned
  pub stands : h ≡ front ++ item ∷ rest
  pub owner : item.owner ≡ a.user
  pub moment : s.moment ≡ item.moment
  pub event : item.event ≡ event.Started s.quiz a.nth s.behaviour s.bounds learned

abbrev start_in : Record → ℕ → ℕ → Behaviour → List Bound → Start
start_in r q n b bs = record { attempt = record { user = r.owner; nth = n }; moment = r.moment; quiz = q; behaviour = b; bounds = bs }

started-by-same : (h : List Record) (a : AttemptId) (s : Start) (t : IsToldIn (starts a) h s) (q n : ℕ) (b : Behaviour) (bs : List Bound) (ls : List Learned) (same : Bool)
    → t.item.event ≡ event.Started q n b bs ls → same_attempt a (record { user = t.item.owner; nth = n }) ≡ same → (if same then Some (start_in t.item q n b bs) else None) ≡ Some s → IsStartRecord h a s
started-by-same h a s t q n b bs ls true is same told =
    let start_is : start_in t.item q n b bs ≡ s = cc in
    let user : a.user ≡ t.item.owner = eqb-true a.user t.item.owner (and-left (eqb a.user t.item.owner) (eqb a.nth n) same) in
    let number : a.nth ≡ n = eqb-true a.nth n (and-right (eqb a.user t.item.owner) (eqb a.nth n) same) in
    record {
      front = t.front;
      item = t.item;
      rest = t.rest;
      learned = ls;
      stands = t.stands;
      owner = sym user;
      moment = ap (λ (x : Start). x.moment) (sym start_is);
      event = is ∙ rw (number, sym start_is) refl;
    }
started-by-same h a s t q n b bs ls false is same told = absurd cc

started-by : (h : List Record) (a : AttemptId) (s : Start) (t : IsToldIn (starts a) h s) (d : Event) → t.item.event ≡ d → IsStartRecord h a s
started-by h a s t (event.Started q n b bs ls) is =
    let begins : started t.item ≡ Some (start_in t.item q n b bs) = rw is refl in
    started-by-same h a s t q n b bs ls (same_attempt a (record { user = t.item.owner; nth = n })) is refl (rw begins at t.tells)
started-by h a s t d is = let none : starts a t.item ≡ None = rw is refl in absurd (let tells : starts a t.item ≡ Some s = t.tells in cc)

pub start-record : (h : List Record) (a : AttemptId) (s : Start) → start h a ≡ Some s → IsStartRecord h a s
start-record h a s is = let t = first_told_in (starts a) h s is in started-by h a s t t.item.event refl

-- its user belongs to the shard
pub start-here : (index count : ℕ) (h : List Record) (a : AttemptId) (s : Start) → IsLegal index count h → start h a ≡ Some s → is_here index count a.user ≡ true
start-here index count h a s legal is =
    let t = start-record h a s is in
    let owner : owner_by index count t.item t.item.event ≡ true = (legal.each t.front t.item t.rest t.stands).owner in
    let here : is_here index count t.item.owner ≡ true = rw t.event at owner in
    ap (is_here index count) (sym t.owner) ∙ here

pub start-kept : (h : List Record) (a : AttemptId) (s : Start) → All IsKept h → start h a ≡ Some s → (is_moment s.moment ≡ true) × (nat_le (length s.bounds) 200 && list_all is_bound s.bounds ≡ true)
start-kept h a s kept is =
    let t = start-record h a s is in
    let all : All IsKept (t.front ++ t.item ∷ t.rest) = subst (All IsKept) t.stands kept in
    let keeps = All-seam IsKept t.front t.item t.rest all in
    let event_keeps : KeepsEvent (event.Started s.quiz a.nth s.behaviour s.bounds t.learned) = subst KeepsEvent t.event keeps.event in
    (ap is_moment t.moment ∙ keeps.moment, event_keeps.0)

-- ---- versions and bounds

learned-kept : (l : Learned) (q : Question) (e v : ℕ) (b : Bool) → ((l.entry == e) && (l.version == v)) ≡ b → (if b then Some l.question else None) ≡ Some q → IsQuestion l.question → IsQuestion q
learned-kept l q e v true is told keeps = let same : l.question ≡ q = cc in subst IsQuestion same keeps
learned-kept l q e v false is told keeps = absurd cc

learns-kept : (ls : List Learned) (e v : ℕ) (q : Question) → AreLearned ls → first_of (filter_map (learned_version e v) ls) ≡ Some q → IsQuestion q
learns-kept ls e v q keeps is =
    let t = first_told_in (learned_version e v) ls q is in
    let all : All IsQuestion (map (λ (l : Learned). l.question) t.front ++ t.item.question ∷ map (λ (l : Learned). l.question) t.rest) =
    subst (All IsQuestion) (ap (map (λ (l : Learned). l.question)) t.stands ∙ map-append (λ (l : Learned). l.question) t.front (t.item ∷ t.rest)) keeps in
    learned-kept t.item q e v ((t.item.entry == e) && (t.item.version == v)) refl t.tells (All-seam IsQuestion _ t.item.question _ all)

none-learned : AreLearned []
none-learned = All-nil IsQuestion

learned-by-kept : (d : Event) → KeepsEvent d → AreLearned (learned_by d)
learned-by-kept (event.Started q n b bs ls) keeps = keeps.1
learned-by-kept (event.Rebound job a k b ls) keeps = keeps.1
learned-by-kept d keeps = none-learned

pub version-kept : (h : List Record) (e v : ℕ) (q : Question) → All IsKept h → version h e v ≡ Some q → IsQuestion q
version-kept h e v q kept is =
    let t = first_told_in (learns e v) h q is in
    let all : All IsKept (t.front ++ t.item ∷ t.rest) = subst (All IsKept) t.stands kept in
    let keeps : KeepsEvent t.item.event = (All-seam IsKept t.front t.item t.rest all).event in
    learns-kept (learned_by t.item.event) e v q (learned-by-kept t.item.event keeps) t.tells

pub at_place-passes : {A : Type 0} (p : A → Bool) (xs : List A) (k : ℕ) (x : A) (z : Bool) → (k == 0) ≡ z → list_all p xs ≡ true → (if z then None else slice_get xs (k - 1)) ≡ Some x → p x ≡ true
at_place-passes p xs k x true is all told = absurd cc
at_place-passes p xs k x false is all told = all-at p xs (k - 1) x all told

binds-kept-started : (bs : List Bound) (k : ℕ) (b : Bound) (same : Bool) → list_all is_bound bs ≡ true → (if same then at_place bs k else None) ≡ Some b → is_bound b ≡ true
binds-kept-started bs k b true all told = at_place-passes is_bound bs k b (k == 0) refl all told
binds-kept-started bs k b false all told = absurd cc

binds-kept-rebound : (d b : Bound) (same : Bool) → is_bound d ≡ true → (if same then Some d else None) ≡ Some b → is_bound b ≡ true
binds-kept-rebound d b true keeps told = let same : d ≡ b = cc in ap is_bound (sym same) ∙ keeps
binds-kept-rebound d b false keeps told = absurd cc

binds-kept : (a : AttemptId) (k : ℕ) (r : Record) (d : Event) (b : Bound) → KeepsEvent d → binds_by a k r d ≡ Some b → is_bound b ≡ true
binds-kept a k r (event.Started q n c bs ls) b keeps told = binds-kept-started bs k b (same_attempt a (record { user = r.owner; nth = n })) (and-right _ (list_all is_bound bs) keeps.0) told
binds-kept a k r (event.Rebound job c j d ls) b keeps told = binds-kept-rebound d b (same_attempt a c && (k == j)) keeps.0 told
binds-kept a k r d b keeps told = absurd cc

pub bound-kept : (h : List Record) (a : AttemptId) (k : ℕ) (b : Bound) → All IsKept h → bound h a k ≡ Some b → is_bound b ≡ true
bound-kept h a k b kept is =
    let t = last_told_in (binds a k) h b is in
    let all : All IsKept (t.front ++ t.item ∷ t.rest) = subst (All IsKept) t.stands kept in
    binds-kept a k t.item t.item.event b (All-seam IsKept t.front t.item t.rest all).event t.tells

le-true : (a b : ℤ) → int_le a b ≡ true → a ≤ℤ b
le-true a b is = le_z_yes (subst T (sym is) tt)

pub max-mark : (b : Bound) → is_bound b ≡ true → IsMaxMark b.max
max-mark b is = (le-true (pos 0) b.max (and-left (int_le (pos 0) b.max) (int_le b.max (pos (10000 * one))) is), le-true b.max (pos (10000 * one)) (and-right (int_le (pos 0) b.max) (int_le b.max (pos (10000 * one))) is))
