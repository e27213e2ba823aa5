-- What is there for a record that may stand behind others.
use Rattle.std.proofs.Common.{◌≡◌, ℕ, ◌≤◌, true, List, [], ◌∷◌, Option, Some, None, option_map, length, map, refl, sym, ap, ◌∙◌}
use Rattle.std.specs.List.{enumerate_from}
use Rattle.std.specs.Prelude.{ℤ, is_none, is_some, unwrap_or}
use Rattle.std.proofs.lemmas.List.{length-map}
use Rattle.std.proofs.lemmas.List.FromFn.{length-enumerate_from}
use Rattle.qz_grading.specs.declared.refusal.Refusal.{Refusal}
use Rattle.qz_grading.specs.declared.refusal.Refusal.TheVariants as refusal
use Rattle.qz_grading.specs.declared.refusal.Thing.TheVariants as thing
use Rattle.qz_grading.specs.Behaviours.{first_some, when}
use Rattle.qz_grading.specs.Grading.{at_place, is_place}
use Rattle.qz_terms.specs.declared.record.Record.{Record}
use Rattle.qz_terms.specs.declared.request.Request.{Request}
use Rattle.qz_terms.specs.declared.request.Request.TheVariants as request
use Rattle.qz_terms.specs.Catalog.{asked, planned, quizzes, slots, slots_made}
use Rattle.qz_terms.specs.Cause.{missing_in, missing_quiz}
use Rattle.qz_roster.specs.declared.quizzes.Quiz.{Quiz}
use Rattle.qz_roster.specs.declared.quizzes.Quizzes.{Quizzes}
use Rattle.qz_roster.specs.Quizzes.{AreQuizzesOf, HasQuizRoom, HasToldRoom, has_its_slot, made, quiz_at, quiz_told, slot_room, told, told_at, untold}
use Rattle.qz_roster.specs.declared.people.People.{People}
use Rattle.qz_roster.specs.People.{ArePeopleOf, is_called}
use Rattle.qz_roster.specs.Roster.{IsNext}
use Rattle.qz_roster.proofs.Reading.{users-length}
use Rattle.qz_roster.proofs.QuizLemmas.{place-told, quizzes-length}
use Rattle.qz_roster.proofs.Telling.{there-is}

-- ---- the first refusal

pub first-none : (o : Option Refusal) (os : List (Option Refusal)) → first_some (o ∷ os) ≡ None → (o ≡ None) × (first_some os ≡ None)
first-none None os none = (refl, none)
first-none (Some r) os none = absurd cc

there-by : {A : Type 0} (xs : List A) (n : ℕ) (r : Refusal) (o : Option A) → at_place xs n ≡ o → when (is_none o) r ≡ None → is_place (length xs) n ≡ true
there-by xs n r None is none = absurd cc
there-by xs n r (Some x) is none = sym (there-is xs n) ∙ ap is_some is

pub place-there : {A : Type 0} (xs : List A) (n : ℕ) (r : Refusal) → when (is_none (at_place xs n)) r ≡ None → is_place (length xs) n ≡ true
place-there xs n r none = there-by xs n r (at_place xs n) refl none

-- ---- the quiz of which it tells

quiz-there-by : (c : List Record) (x : Request) (q : ℕ) → quiz_told (Some x) ≡ Some q → missing_in c x ≡ None → is_place (length (quizzes c)) q ≡ true
quiz-there-by c (request.Slot quiz entry max) q is none = let same : quiz ≡ q = cc in ap (is_place (length (quizzes c))) (sym same) ∙ place-there (quizzes c) quiz (refusal.Unknown thing.Quiz) (first-none _ _ none).0
quiz-there-by c (request.Remax quiz slot max) q is none = let same : quiz ≡ q = cc in ap (is_place (length (quizzes c))) (sym same) ∙ place-there (quizzes c) quiz (refusal.Unknown thing.Quiz) (first-none _ _ none).0
quiz-there-by c (request.Ready quiz) q is none = let same : quiz ≡ q = cc in ap (is_place (length (quizzes c))) (sym same) ∙ place-there (quizzes c) quiz (refusal.Unknown thing.Quiz) none
quiz-there-by c (request.Policy quiz method grade) q is none = let same : quiz ≡ q = cc in ap (is_place (length (quizzes c))) (sym same) ∙ place-there (quizzes c) quiz (refusal.Unknown thing.Quiz) none
quiz-there-by c (request.Times quiz opens closes limit allowed handling grace review) q is none = let same : quiz ≡ q = cc in ap (is_place (length (quizzes c))) (sym same) ∙ place-there (quizzes c) quiz (refusal.Unknown thing.Quiz) none
quiz-there-by c x q is none = absurd cc

quiz-there-of : (c : List Record) (r : Record) (o : Option Request) (q : ℕ) → IsNext c r → asked r ≡ o → quiz_told o ≡ Some q → is_place (length (quizzes c)) q ≡ true
quiz-there-of c r None q next is told = absurd cc
quiz-there-of c r (Some x) q next is told = quiz-there-by c x q told (next.there x is)

pub quiz-there : (c : List Record) (z : Quizzes) (r : Record) → AreQuizzesOf c z → IsNext c r → (q : ℕ) → quiz_told (asked r) ≡ Some q → is_place (length z.quizzes.items) q ≡ true
quiz-there c z r are next q told = ap (λ n. is_place n q) (quizzes-length c z are) ∙ quiz-there-of c r (asked r) q next refl told

-- ---- the slot that gets a new max mark

pub slots-length : (c : List Record) (q : ℕ) → length (slots c q) ≡ length (slots_made c q)
slots-length c q = length-map (enumerate_from 1 (slots_made c q)) (λ (s : ℕ × (ℕ × ℤ)). planned c q s.0 s.1.0 s.1.1) ∙ length-enumerate_from 1 (slots_made c q)

slot-there-by : (c : List Record) (x : Request) (q count : ℕ) → quiz_told (Some x) ≡ Some q → missing_in c x ≡ None → count ≡ length (slots_made c q) → has_its_slot count (Some x) ≡ true
slot-there-by c (request.Remax quiz slot max) q count is none long =
    let same : quiz ≡ q = cc in
    ap (λ n. is_place n slot) (long ∙ sym (slots-length c q) ∙ ap (λ n. length (slots c n)) (sym same)) ∙ place-there (slots c quiz) slot (refusal.Unknown thing.Slot) (first-none (when (is_none (at_place (slots c quiz) slot)) (refusal.Unknown thing.Slot)) [] (first-none (missing_quiz c quiz) (when (is_none (at_place (slots c quiz) slot)) (refusal.Unknown thing.Slot) ∷ []) none).1).0
slot-there-by c x q count is none long = refl

slot-there-of : (c : List Record) (r : Record) (o : Option Request) (q count : ℕ) → IsNext c r → asked r ≡ o → quiz_told o ≡ Some q → count ≡ length (slots_made c q) → has_its_slot count o ≡ true
slot-there-of c r None q count next is told long = refl
slot-there-of c r (Some x) q count next is told long = slot-there-by c x q count told (next.there x is) long

pub told-room : (c : List Record) (z : Quizzes) (r : Record) → AreQuizzesOf c z → IsNext c r → HasQuizRoom z (asked r) → (q : ℕ) → quiz_told (asked r) ≡ Some q → HasToldRoom z q (asked r)
told-room c z r are next room q told_is =
    let there = place-told (length z.quizzes.items) q (quiz-there c z r are next q told_is) in
    by (quiz_at z q) refl there.0 there.1
  where
    by : (o : Option Quiz) → quiz_at z q ≡ o → 1 ≤ q → q ≤ length z.quizzes.items → HasToldRoom z q (asked r)
    by None is from inside = absurd (let none = room.told q told_is in let same : None ≡ Some true = sym (ap (option_map (slot_room (asked r))) is) ∙ none in cc)
    by (Some x) is from inside =
        let told_here : told_at z q ≡ told x = ap (λ (o : Option Quiz). unwrap_or (option_map told o) untold) is in
        let long : length x.slots.items ≡ length (slots_made c q) = sym (length-map x.slots.items made) ∙ ap (λ t. length (map made t.slots)) (sym told_here) ∙ ap (λ (l : List (ℕ × ℤ)). length l) (are.each q).slots in
        record {
          from = from;
          inside = inside;
          room = room.told q told_is;
          there = ap (option_map (λ (y : Quiz). has_its_slot (length y.slots.items) (asked r))) is ∙ ap Some (slot-there-of c r (asked r) q (length x.slots.items) next refl told_is long);
        }

-- ---- its caller

pub called-there : (c : List Record) (p : People) (r : Record) → ArePeopleOf c p → IsNext c r → is_called (length p.keys.items) r ≡ true
called-there c p r are next = ap (λ n. is_called n r) (are.count ∙ sym (users-length c)) ∙ next.called
