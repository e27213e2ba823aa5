-- The tests of a record decide whether it is allowed.
use Rattle.std.proofs.Common.{◌≡◌, ℕ, Bool, true, false, not, ◌&&◌, List, [], ◌∷◌, ◌++◌, Option, Some, None, map, refl, sym, ap, subst, ◌∙◌, eq-eqb, option_map}
use Rattle.std.specs.Bool.{Decides}
use Rattle.std.specs.List.{list_all}
use Rattle.std.specs.Prelude.{◌==◌, unwrap_or, zip}
use Rattle.std.proofs.lemmas.Bool.{and_from, and_parts, eqb-true, not-true}
use Rattle.qz_grading.specs.declared.outcome.Behaviour.{Behaviour}
use Rattle.qz_grading.specs.declared.question.Question.{Question}
use Rattle.qz_grading.specs.declared.question.Shape.{Shape}
use Rattle.qz_grading.specs.declared.refusal.AttemptId.{AttemptId}
use Rattle.qz_grading.specs.declared.refusal.Refusal.TheVariants as refusal
use Rattle.qz_grading.specs.Shapes.{same_shape, shape}
use Rattle.qz_terms.specs.declared.people.Role.TheVariants as role
use Rattle.qz_terms.specs.declared.plan.Bound.{Bound}
use Rattle.qz_terms.specs.declared.plan.Plan.{Plan}
use Rattle.qz_terms.specs.declared.record.Event.{Event}
use Rattle.qz_terms.specs.declared.record.Event.TheVariants as event
use Rattle.qz_terms.specs.declared.record.Learned.{Learned}
use Rattle.qz_terms.specs.declared.record.Record.{Record}
use Rattle.qz_terms.specs.declared.record.Terms.{Terms}
use Rattle.qz_terms.specs.declared.request.Request.TheVariants as request
use Rattle.qz_terms.specs.Answer.{bind, learned_as, new_versions}
use Rattle.qz_terms.specs.Legal.{DoneIsAllowed, EventIsAllowed, IsAllowed, IsPut, LearnsNew, RebindIsAllowed, SkipIsAllowed, StartIsAllowed, at_least_floor, bound_at, has_its_owner, has_new_key, is_bare, is_here, new_key_by, owner_by, same_pair, version_of_learned}
use Rattle.qz_terms.specs.Lists.{first_of}
use Rattle.qz_terms.specs.History.{is_done, is_skipped, next_attempt, question, quiz, same_attempt, targets, time, version}
use Rattle.qz_legal.specs.Allowed.{can_begin, can_close, can_put, can_put_under, can_rebind, can_skip, can_stand, can_stand_by, can_start, has_shape, is_alike, is_at, is_first_left, is_open, is_own, learns_new, new_bound, same_pairs, starting_cause}
use Rattle.qz_book.specs.Held.{is_asked, is_asked_event}
use Rattle.qz_legal.proofs.BeginLemmas.{bounds-again, learned-again, questions_of, slot_of}
use Rattle.qz_lives.proofs.Legality.{told_event}
use Rattle.qz_legal.proofs.PutMade.{IsOn, act-put, asked-put, end-put, note-put, owner-of, plan_by, student-may}
use Rattle.qz_legal.proofs.PutTold.{none-of, put-told}
use Rattle.qz_book.proofs.TargetLemmas.{none-left, self-same}

-- ---- what a test tells

record IsToldOf {A : Type 0} (f : A → Bool) (o : Option A) : Type 0 where
  item : A
  is : o ≡ Some item
  passes : f item ≡ true

told-of : {A : Type 0} (f : A → Bool) (o : Option A) → unwrap_or (option_map f o) false ≡ true → IsToldOf f o
told-of f None passes = absurd cc
told-of f (Some x) passes = record { item = x; is = refl; passes = passes }

told-is : {A : Type 0} (f : A → Bool) (o : Option A) (x : A) → o ≡ Some x → f x ≡ true → unwrap_or (option_map f o) false ≡ true
told-is f o x is passes = rw is passes

-- ---- versions

pair-of : (a b : ℕ × ℕ) → same_pair a b ≡ true → a ≡ b
pair-of a b same =
    let parts = and_parts (a.0 == b.0) (a.1 == b.1) same in
    ap (λ (n : ℕ). let p : ℕ × ℕ = (n, a.1) in p) (eqb-true a.0 b.0 parts.0) ∙ ap (λ (n : ℕ). let p : ℕ × ℕ = (b.0, n) in p) (eqb-true a.1 b.1 parts.1)

pairs-of : (xs ys : List (ℕ × ℕ)) → same_pairs xs ys ≡ true → xs ≡ ys
pairs-of [] [] same = refl
pairs-of [] (b ∷ ys) same = absurd cc
pairs-of (a ∷ xs) [] same = absurd cc
pairs-of (a ∷ xs) (b ∷ ys) same =
    let parts = and_parts (same_pair a b) (same_pairs xs ys) same in
    ap (λ (p : ℕ × ℕ). p ∷ xs) (pair-of a b parts.0) ∙ ap (λ (ps : List (ℕ × ℕ)). b ∷ ps) (pairs-of xs ys parts.1)

pairs-same : (xs : List (ℕ × ℕ)) → same_pairs xs xs ≡ true
pairs-same [] = refl
pairs-same (a ∷ xs) = rw (eq-eqb a.0 a.0 refl, eq-eqb a.1 a.1 refl) (pairs-same xs)

learns-of : (h : List Record) (bs : List Bound) (ls : List Learned) → learns_new h bs ls ≡ true → LearnsNew h bs ls
learns-of h bs ls passes = pairs-of (map version_of_learned ls) (new_bound h bs) passes

learns-is : (h : List Record) (bs : List Bound) (ls : List Learned) → LearnsNew h bs ls → learns_new h bs ls ≡ true
learns-is h bs ls learns = ap (λ (vs : List (ℕ × ℕ)). same_pairs vs (new_bound h bs)) learns ∙ pairs-same (new_bound h bs)

-- ---- a start

-- the terms of what a request put
record IsUnder (l : List Record) (r : Record) (d : Event) : Type 0 where
  terms : Terms
  are : r.terms ≡ Some terms
  passes : can_put_under l r terms.settings d ≡ true

under : (l : List Record) (r : Record) (d : Event) → r.event ≡ d → can_put l r ≡ true → IsUnder l r d
under l r d is passes =
    let told = told-of (λ (t : Terms). can_put_under l r t.settings r.event) r.terms passes in
    record { terms = told.item; are = told.is; passes = subst (λ (e : Event). can_put_under l r told.item.settings e ≡ true) is told.passes }

start-event : (l : List Record) (n q nth : ℕ) (b : Behaviour) (t : Terms) (bs : List Bound) (ls : List Learned) → nth ≡ (next_attempt l n).nth → list_all (bound_at (Some t)) bs ≡ true → LearnsNew l bs ls
    → event.Started q (next_attempt l n).nth b (map (bind t.at) (map slot_of bs)) (new_versions l (map learned_as (zip (map slot_of bs) (questions_of ls bs)))) ≡ event.Started q nth b bs ls
start-event l n q nth b t bs ls number at learns =
    ap (λ (m : ℕ). event.Started q m b (map (bind t.at) (map slot_of bs)) (new_versions l (map learned_as (zip (map slot_of bs) (questions_of ls bs))))) (sym number)
    ∙ ap (λ (xs : List Bound). event.Started q nth b xs (new_versions l (map learned_as (zip (map slot_of bs) (questions_of ls bs))))) (bounds-again t bs at)
    ∙ ap (λ (xs : List Learned). event.Started q nth b bs xs) (learned-again l bs ls learns)

start-put : (l : List Record) (r : Record) (q nth : ℕ) (b : Behaviour) (bs : List Bound) (ls : List Learned) (t : Terms) → r.event ≡ event.Started q nth b bs ls → new_key_by l r.caller r.key ≡ true
    → r.terms ≡ Some t → can_start l r t.settings q nth ≡ true → list_all (bound_at (Some t)) bs ≡ true → LearnsNew l bs ls → IsPut l r
start-put l r q nth b bs ls t is new terms can at learns =
    let one = and_parts (is_own r r.owner) _ can in
    let two = and_parts (nth == (next_attempt l r.owner).nth) _ one.1 in
    let own = owner-of r r.owner one.0 in
    let plan : Plan = plan_by t q b (map slot_of bs) (questions_of ls bs) in
    let number : nth ≡ (next_attempt l r.caller).nth = eqb-true nth (next_attempt l r.owner).nth two.0 ∙ ap (λ u. (next_attempt l u).nth) (sym own.same) in
    asked-put l r role.Student t plan (request.Start q) r.caller (event.Started q nth b bs ls) (record {
      keyed = own.keyed;
      terms = terms;
      at = refl;
      settings = refl;
      of_quiz = eq-eqb q q refl;
      ready = refl;
      may = student-may r.caller (refusal.Forbidden 3) own.user;
      there = refl;
      new = new;
      free = ap (λ u. starting_cause l t.settings true r.moment u q) own.same ∙ none-of (starting_cause l t.settings true r.moment r.owner q) two.1;
      owner = sym own.same;
      event = is;
      makes = ap (λ (d : Event). told_event r.caller d) (start-event l r.caller q nth b t bs ls number at learns);
    })

begin-of : (l : List Record) (r : Record) (q nth : ℕ) (b : Behaviour) (bs : List Bound) (ls : List Learned) → r.event ≡ event.Started q nth b bs ls → new_key_by l r.caller r.key ≡ true → can_begin l r q bs ls ≡ true → StartIsAllowed l r q bs ls
begin-of l r q nth b bs ls is new can =
    let one = and_parts (can_put l r) _ can in
    let two = and_parts (at_least_floor l q r.terms) _ one.1 in
    let three = and_parts (list_all (bound_at r.terms) bs) _ two.1 in
    let put = under l r (event.Started q nth b bs ls) is one.0 in
    let learns = learns-of l bs ls three.1 in
    let at : list_all (bound_at (Some put.terms)) bs ≡ true = ap (λ (o : Option Terms). list_all (bound_at o) bs) (sym put.are) ∙ three.0 in
    record { is_put = start-put l r q nth b bs ls put.terms is new put.are put.passes at learns; learns = learns; above_floor = two.0; at_terms = three.0 }

begin-is : (l : List Record) (r : Record) (q : ℕ) (bs : List Bound) (ls : List Learned) → StartIsAllowed l r q bs ls → can_begin l r q bs ls ≡ true
begin-is l r q bs ls w = and_from (can_put l r) _ (put-told l r w.is_put) (and_from (at_least_floor l q r.terms) _ w.above_floor (and_from (list_all (bound_at r.terms) bs) _ w.at_terms (learns-is l bs ls w.learns)))

-- ---- steps and ends

on-attempt : (l : List Record) (r : Record) (a : AttemptId) (here : Bool) (d : Event) (u : IsUnder l r d) → (r.owner == a.user) && here ≡ true → new_key_by l r.caller r.key ≡ true → IsOn l r u.terms a
on-attempt l r a here d u owner new = record { owner = eqb-true r.owner a.user (and_parts (r.owner == a.user) here owner).0; terms = u.are; new = new }

-- ---- jobs

record IsOpen (l : List Record) (r : Record) (job : ℕ) : Type 0 where
  bare : is_bare r ≡ true
  undone : is_done l job ≡ false

open-of : (l : List Record) (r : Record) (job : ℕ) → is_open l r job ≡ true → IsOpen l r job
open-of l r job passes = let parts = and_parts (is_bare r) (not (is_done l job)) passes in record { bare = parts.0; undone = not-true (is_done l job) parts.1 }

open-is : (l : List Record) (r : Record) (job : ℕ) → is_bare r ≡ true → is_done l job ≡ false → is_open l r job ≡ true
open-is l r job bare undone = rw (bare, undone) refl

at-of : (a : AttemptId) (k : ℕ) (o : Option (AttemptId × ℕ)) → is_at a k o ≡ true → o ≡ Some (a, k)
at-of a k None passes = absurd cc
at-of a k (Some t) passes =
    let parts = and_parts (same_attempt t.0 a) (t.1 == k) passes in
    let attempt = and_parts (t.0.user == a.user) (t.0.nth == a.nth) parts.0 in
    let user : t.0.user ≡ a.user = eqb-true t.0.user a.user attempt.0 in
    let nth : t.0.nth ≡ a.nth = eqb-true t.0.nth a.nth attempt.1 in
    ap (λ (u : ℕ). let p : AttemptId × ℕ = (record { user = u; nth = t.0.nth }, t.1) in Some p) user
    ∙ ap (λ (n : ℕ). let p : AttemptId × ℕ = (record { user = a.user; nth = n }, t.1) in Some p) nth
    ∙ ap (λ (j : ℕ). let p : AttemptId × ℕ = (a, j) in Some p) (eqb-true t.1 k parts.1)

at-is : (a : AttemptId) (k : ℕ) (o : Option (AttemptId × ℕ)) → o ≡ Some (a, k) → is_at a k o ≡ true
at-is a k o is = rw (is, self-same a, eq-eqb k k refl) refl

record AreAlike (o p : Option Question) : Type 0 where
  old : Question
  newer : Question
  old_is : o ≡ Some old
  newer_is : p ≡ Some newer
  same : same_shape (shape old) (shape newer) ≡ true

alike-of : (o p : Option Question) → is_alike o p ≡ true → AreAlike o p
alike-of None p passes = absurd cc
alike-of (Some old) None passes = absurd cc
alike-of (Some old) (Some newer) passes = record { old = old; newer = newer; old_is = refl; newer_is = refl; same = passes }

alike-is : (o p : Option Question) (old newer : Question) → o ≡ Some old → p ≡ Some newer → same_shape (shape old) (shape newer) ≡ true → is_alike o p ≡ true
alike-is o p old newer old_is newer_is same = rw (old_is, newer_is) same

rebind-of : (l : List Record) (r : Record) (job : ℕ) (a : AttemptId) (k : ℕ) (b : Bound) (ls : List Learned) → can_rebind l r job a k b ls ≡ true → RebindIsAllowed l r job a k b ls
rebind-of l r job a k b ls can =
    let one = and_parts (is_open l r job) _ can in
    let two = and_parts (is_first_left l job b.at a k) _ one.1 in
    let three = and_parts (learns_new l (b ∷ []) ls) _ two.1 in
    let undone = open-of l r job one.0 in
    let first = told-of (λ q. is_at a k (first_of (targets l job q b.at))) (quiz l a) two.0 in
    let alike = alike-of (question l a k) (version (l ++ r ∷ []) b.entry b.version) three.1 in
    record {
      bare = undone.bare;
      undone = undone.undone;
      quiz = first.item;
      of_quiz = first.is;
      first = at-of a k (first_of (targets l job first.item b.at)) first.passes;
      learns = learns-of l (b ∷ []) ls three.0;
      old = alike.old;
      newer = alike.newer;
      old_is = alike.old_is;
      newer_is = alike.newer_is;
      same = alike.same;
    }

rebind-is : (l : List Record) (r : Record) (job : ℕ) (a : AttemptId) (k : ℕ) (b : Bound) (ls : List Learned) → RebindIsAllowed l r job a k b ls → can_rebind l r job a k b ls ≡ true
rebind-is l r job a k b ls w =
    and_from (is_open l r job) _ (open-is l r job w.bare w.undone)
    (and_from (is_first_left l job b.at a k) _ (told-is (λ q. is_at a k (first_of (targets l job q b.at))) (quiz l a) w.quiz w.of_quiz (at-is a k (first_of (targets l job w.quiz b.at)) w.first))
    (and_from (learns_new l (b ∷ []) ls) _ (learns-is l (b ∷ []) ls w.learns)
    (alike-is (question l a k) (version (l ++ r ∷ []) b.entry b.version) w.old w.newer w.old_is w.newer_is w.same)))

shape-of : (s t : Shape) → same_shape s t ≡ true → s ≡ t
shape-of s t same =
    let one = and_parts (s.kind == t.kind) _ same in
    let two = and_parts (s.first == t.first) (s.second == t.second) one.1 in
    ap (λ (n : ℕ). let x : Shape = record { kind = n; first = s.first; second = s.second } in x) (eqb-true s.kind t.kind one.0)
    ∙ ap (λ (n : ℕ). let x : Shape = record { kind = t.kind; first = n; second = s.second } in x) (eqb-true s.first t.first two.0)
    ∙ ap (λ (n : ℕ). let x : Shape = record { kind = t.kind; first = t.first; second = n } in x) (eqb-true s.second t.second two.1)

shape-same : (s : Shape) → same_shape s s ≡ true
shape-same s = rw (eq-eqb s.kind s.kind refl, eq-eqb s.first s.first refl, eq-eqb s.second s.second refl) refl

skip-of : (l : List Record) (r : Record) (job : ℕ) (a : AttemptId) (k : ℕ) (bound newer : Shape) → can_skip l r job a k bound newer ≡ true → SkipIsAllowed l r job a k bound newer
skip-of l r job a k bound newer can =
    let one = and_parts (is_open l r job) _ can in
    let two = and_parts (not (is_skipped l job a k)) _ one.1 in
    let three = and_parts (has_shape bound (question l a k)) (not (same_shape bound newer)) two.1 in
    let undone = open-of l r job one.0 in
    let old = told-of (λ q. same_shape bound (shape q)) (question l a k) three.0 in
    record {
      bare = undone.bare;
      undone = undone.undone;
      unskipped = not-true (is_skipped l job a k) two.0;
      old = old.item;
      old_is = old.is;
      bound_is = shape-of bound (shape old.item) old.passes;
      other = not-true (same_shape bound newer) three.1;
    }

skip-is : (l : List Record) (r : Record) (job : ℕ) (a : AttemptId) (k : ℕ) (bound newer : Shape) → SkipIsAllowed l r job a k bound newer → can_skip l r job a k bound newer ≡ true
skip-is l r job a k bound newer w =
    and_from (is_open l r job) _ (open-is l r job w.bare w.undone)
    (and_from (not (is_skipped l job a k)) _ (ap not w.unskipped)
    (and_from (has_shape bound (question l a k)) _ (told-is (λ q. same_shape bound (shape q)) (question l a k) w.old w.old_is (ap (same_shape bound) (sym w.bound_is) ∙ shape-same bound))
    (ap not w.other)))

close-of : (l : List Record) (r : Record) (job q position : ℕ) → can_close l r job q position ≡ true → DoneIsAllowed l r job q position
close-of l r job q position can =
    let parts = and_parts (is_open l r job) _ can in
    let undone = open-of l r job parts.0 in
    record { bare = undone.bare; undone = undone.undone; none_left = none-left (targets l job q position) (none-of (first_of (targets l job q position)) parts.1) }

close-is : (l : List Record) (r : Record) (job q position : ℕ) → DoneIsAllowed l r job q position → can_close l r job q position ≡ true
close-is l r job q position w = and_from (is_open l r job) _ (open-is l r job w.bare w.undone) (rw w.none_left refl)

-- ---- any record

event-of : (index count : ℕ) (l : List Record) (r : Record) (d : Event) → r.event ≡ d → owner_by index count r d ≡ true → new_key_by l r.caller r.key ≡ true → can_stand_by l r d ≡ true → EventIsAllowed l r d
event-of index count l r (event.Founded shards token) is owner new can = absurd cc
event-of index count l r (event.Asked x) is owner new can = absurd cc
event-of index count l r (event.Started q nth b bs ls) is owner new can = begin-of l r q nth b bs ls is new can
event-of index count l r (event.Acted a k x) is owner new can =
    let u = under l r (event.Acted a k x) is can in
    act-put l r u.terms a k x (on-attempt l r a (is_here index count a.user) (event.Acted a k x) u owner new) u.passes is
event-of index count l r (event.Noted a k x) is owner new can =
    let u = under l r (event.Noted a k x) is can in
    note-put l r u.terms a k x (on-attempt l r a (is_here index count a.user) (event.Noted a k x) u owner new) u.passes is
event-of index count l r (event.Ended a w) is owner new can =
    let u = under l r (event.Ended a w) is can in
    end-put l r u.terms a w (on-attempt l r a (is_here index count a.user) (event.Ended a w) u owner new) u.passes is
event-of index count l r (event.Rebound job a k b ls) is owner new can = rebind-of l r job a k b ls can
event-of index count l r (event.Skipped job a k bound newer) is owner new can = skip-of l r job a k bound newer can
event-of index count l r (event.JobDone job q position) is owner new can = close-of l r job q position can

event-is : (l : List Record) (r : Record) (d : Event) → EventIsAllowed l r d → can_stand_by l r d ≡ true
event-is l r (event.Founded shards token) allowed = absurd allowed
event-is l r (event.Asked x) allowed = absurd allowed
event-is l r (event.Started q nth b bs ls) allowed = begin-is l r q bs ls allowed
event-is l r (event.Acted a k x) allowed = put-told l r allowed
event-is l r (event.Noted a k x) allowed = put-told l r allowed
event-is l r (event.Ended a w) allowed = put-told l r allowed
event-is l r (event.Rebound job a k b ls) allowed = rebind-is l r job a k b ls allowed
event-is l r (event.Skipped job a k bound newer) allowed = skip-is l r job a k bound newer allowed
event-is l r (event.JobDone job q position) allowed = close-is l r job q position allowed

allowed-of : (index count : ℕ) (l : List Record) (r : Record) → can_stand index count l r ≡ true → IsAllowed index count l r
allowed-of index count l r can =
    let one = and_parts (has_its_owner index count r) _ can in
    let two = and_parts (time l r.owner r.moment == r.moment) _ one.1 in
    let three = and_parts (has_new_key l r) (can_stand_by l r r.event) two.1 in
    record { owner = one.0; moment = eqb-true (time l r.owner r.moment) r.moment two.0; key = three.0; event = event-of index count l r r.event refl one.0 three.0 three.1 }

allowed-is : (index count : ℕ) (l : List Record) (r : Record) → IsAllowed index count l r → can_stand index count l r ≡ true
allowed-is index count l r w =
    and_from (has_its_owner index count r) _ w.owner
    (and_from (time l r.owner r.moment == r.moment) _ (eq-eqb (time l r.owner r.moment) r.moment w.moment)
    (and_from (has_new_key l r) (can_stand_by l r r.event) w.key (event-is l r r.event w.event)))

pub stand-decides : (index count : ℕ) (l : List Record) (r : Record) → Decides (can_stand index count l r) (IsAllowed index count l r)
stand-decides index count l r = (allowed-of index count l r, allowed-is index count l r)

asked-by : (l : List Record) (r : Record) (d : Event) → EventIsAllowed l r d → is_asked_event d ≡ true
asked-by l r (event.Founded shards token) allowed = absurd allowed
asked-by l r (event.Asked x) allowed = absurd allowed
asked-by l r (event.Started q nth b bs ls) allowed = refl
asked-by l r (event.Acted a k x) allowed = refl
asked-by l r (event.Noted a k x) allowed = refl
asked-by l r (event.Ended a w) allowed = refl
asked-by l r (event.Rebound job a k b ls) allowed = refl
asked-by l r (event.Skipped job a k bound newer) allowed = refl
asked-by l r (event.JobDone job q position) allowed = refl

-- a record of a shard is asked for
pub allowed-asked : (index count : ℕ) (l : List Record) (r : Record) → IsAllowed index count l r → is_asked r ≡ true
allowed-asked index count l r w = asked-by l r r.event w.event
