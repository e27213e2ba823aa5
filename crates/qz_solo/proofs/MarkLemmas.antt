-- The marks of an attempt, as a manager's page shows them.
use Rattle.std.proofs.Common.{◌≡◌, ◌⊎◌, inl, inr, ℕ, true, false, List, [], ◌∷◌, ◌++◌, Option, Some, None, OnOk, Result, Ok, Err, map, refl, sym, ap, ◌∙◌, eq-eqb, take, length, append_assoc, ◌+◌, ◌<◌}
use Rattle.std.specs.Prelude.{ℤ, filter_map, get_or, is_none, is_some, option_to_list}
use Rattle.std.proofs.lemmas.List.{take_more}
use Rattle.std.proofs.lemmas.List.Elements.{filter_map-append}
use Rattle.qz_grading.specs.declared.refusal.AttemptId.{AttemptId}
use Rattle.qz_grading.specs.declared.refusal.Refusal.{Refusal}
use Rattle.qz_grading.specs.declared.refusal.Refusal.TheVariants as refusal
use Rattle.qz_keeper.specs.Lists.{Looks}
use Rattle.qz_serial.proofs.Composing.{calls_mean, looks_compose}
use Rattle.qz_shard.specs.Holdings.{Answers}
use Rattle.qz_shard.specs.Keeping.{CallsFor, IsSeen, Replies, TellsQuiz}
use Rattle.qz_terms.specs.declared.ask.Ask.{Ask}
use Rattle.qz_terms.specs.declared.people.Role.TheVariants as role
use Rattle.qz_terms.specs.declared.people.User.{User}
use Rattle.qz_terms.specs.declared.plan.Plan.{Plan}
use Rattle.qz_terms.specs.declared.record.Record.{Record}
use Rattle.qz_terms.specs.declared.reply.Done.TheVariants as done
use Rattle.qz_terms.specs.declared.reply.Part.{Part}
use Rattle.qz_terms.specs.declared.reply.Reply.{Reply}
use Rattle.qz_terms.specs.declared.reply.Reply.TheVariants as reply
use Rattle.qz_terms.specs.declared.reply.Shown.{Shown}
use Rattle.qz_terms.specs.declared.reply.Shown.TheVariants as shown
use Rattle.qz_terms.specs.declared.request.Request.TheVariants as request
use Rattle.qz_terms.specs.Answer.{answer_here, due_now, list_after}
use Rattle.qz_terms.specs.History.{Slot, Start}
use Rattle.qz_terms.specs.History as history
use Rattle.qz_terms.specs.Legal.{is_plan_for}
use Rattle.qz_terms.specs.Parts.{part}
use Rattle.qz_terms.specs.Serial.{Held}
use Rattle.qz_solo.specs.Marks.{marks_of, shown_by, shown_mark}

some-none : {A : Type 0} (o : Option A) → is_some o ≡ true → is_none o ≡ false
some-none None some = absurd cc
some-none (Some x) some = refl

-- ---- the page

pub page_shown : (h : List Record) (now : ℕ) (user : User) (plan : Plan) (ask : Ask) (a : AttemptId) → ask.key ≡ None → ask.request ≡ request.Page a → user.number ≡ 1 → user.role ≡ role.Manager → is_some (history.start h a) ≡ true
    → answer_here h now user plan ask ≡ reply.Ok (history.place h a.user) (done.Page a plan.name (due_now h plan a) (map (part true) (history.slots h a)))
page_shown h now user plan ask a key is number manager there =
    let started : is_none (history.start h a) ≡ false = some-none (history.start h a) there in
    rw (key, is, number, manager, started) refl

-- nothing else is told of it
pub told_page : (h g : List Record) (now : ℕ) (user : User) (plan : Plan) (ask : Ask) (a : AttemptId) (told : Reply) → ask.key ≡ None → ask.request ≡ request.Page a → user.number ≡ 1 → user.role ≡ role.Manager → is_some (history.start h a) ≡ true → Answers h now user plan ask told g
    → (told ≡ reply.Ok (history.place h a.user) (done.Page a plan.name (due_now h plan a) (map (part true) (history.slots h a)))) ⊎ (told ≡ reply.Refused refusal.Memory)
told_page h g now user plan ask a told key is number manager there (inl both) = inl (both.0 ∙ page_shown h now user plan ask a key is number manager there)
told_page h g now user plan ask a told key is number manager there (inr both) = inr both.0

pub parts_told : (told : Reply) (p q : ℕ) (a b : AttemptId) (name other : List ℕ) (due later : Option ℕ) (ps qs : List Part) → (told ≡ reply.Ok p (done.Page a name due ps)) ⊎ (told ≡ reply.Refused refusal.Memory) → told ≡ reply.Ok q (done.Page b other later qs) → qs ≡ ps
parts_told told p q a b name other due later ps qs (inl page) is = cc
parts_told told p q a b name other due later ps qs (inr memory) is = absurd cc

-- the plan is of the quiz that is meant
pub plan_meant : (h : List Record) (plan : Plan) (a : AttemptId) → history.quiz h a ≡ Some plan.quiz → is_plan_for h plan (request.Page a) ≡ true
plan_meant h plan a is = rw is (eq-eqb plan.quiz plan.quiz refl)

-- ---- its marks

shown-step : (x : Slot) (xs : List Slot) (m : Option ℤ) → history.mark_in x ≡ m → filter_map shown_mark (map (part true) xs) ≡ filter_map history.mark_in xs → filter_map shown_mark (map (part true) (x ∷ xs)) ≡ filter_map history.mark_in (x ∷ xs)
shown-step x xs None is rest = rw is rest
shown-step x xs (Some m) is rest = rw is (ap (λ (ms : List ℤ). m ∷ ms) rest)

pub marks_shown : (xs : List Slot) → filter_map shown_mark (map (part true) xs) ≡ filter_map history.mark_in xs
marks_shown [] = refl
marks_shown (x ∷ xs) = shown-step x xs (history.mark_in x) refl (marks_shown xs)

absent-by : (h : List Record) (a : AttemptId) (o : Option Start) → history.start h a ≡ o → history.quiz h a ≡ None → marks_of h a ≡ []
absent-by h a None is none = rw is refl
absent-by h a (Some s) is none = absurd (let some : history.quiz h a ≡ Some s.quiz = rw is refl in cc)

-- an attempt that isn't there
pub no_marks : (h : List Record) (a : AttemptId) → history.quiz h a ≡ None → marks_of h a ≡ []
no_marks h a none = absent-by h a (history.start h a) refl none

start-by : (h : List Record) (a : AttemptId) (q : ℕ) (o : Option Start) → history.start h a ≡ o → history.quiz h a ≡ Some q → is_some (history.start h a) ≡ true
start-by h a q None is some = absurd (let none : history.quiz h a ≡ None = rw is refl in cc)
start-by h a q (Some s) is some = rw is refl

pub start_there : (h : List Record) (a : AttemptId) (q : ℕ) → history.quiz h a ≡ Some q → is_some (history.start h a) ≡ true
start_there h a q some = start-by h a q (history.start h a) refl some

-- one mark more
shown-one : (m : Shown ℤ) (p : Part) → p.mark ≡ m → filter_map shown_mark (p ∷ []) ≡ option_to_list (shown_by m)
shown-one shown.None p is = rw is refl
shown-one shown.Hidden p is = rw is refl
shown-one (shown.Value mark) p is = rw is refl

pub more_shown : (front : List ℤ) (ps : List Part) (i : ℕ) (d : Part) → i < length ps → (front ++ filter_map shown_mark (take i ps)) ++ option_to_list (shown_by (get_or ps i d).mark) ≡ front ++ filter_map shown_mark (take (i + 1) ps)
more_shown front ps i d there =
    let one = shown-one (get_or ps i d).mark (get_or ps i d) refl in
    append_assoc front (filter_map shown_mark (take i ps)) (option_to_list (shown_by (get_or ps i d).mark))
    ∙ ap (λ (ms : List ℤ). front ++ ms) (sym (ap (filter_map shown_mark) (take_more ps i d there) ∙ (filter_map-append shown_mark (take i ps) (get_or ps i d ∷ []) ∙ ap (λ (ms : List ℤ). filter_map shown_mark (take i ps) ++ ms) one)))

-- ---- lists of which no record is in doubt

pub look_still : (failed : Type 0) (index count now : ℕ) (user : User) (plan : Plan) (ask : Ask) (old new : Held) (told : Reply) → old.doubt ≡ None → Replies failed (IsSeen index count now user plan ask) old new told → (new ≡ old) × Answers old.list now user plan ask told old.list
look_still failed index count now user plan ask old new told clear call =
    let says = λ (h : List Record) (t : Reply). (t ≡ answer_here h now user plan ask) × (h ≡ list_after h now user plan ask) in
    let looks = (calls_mean failed failed reply.Refused (IsSeen index count now user plan ask) (Looks says)).each old new told (λ why. why) (λ h t g is. ((is.answered.reply, sym is.same ∙ is.answered.list), is.same)) call in
    let still = (looks_compose failed reply.Refused says).still old new told clear looks in
    (still.0, elim still.1 [ inl both ↦ inl both | inr memory ↦ inr (memory, refl) ])

pub quiz_still : (failed : Type 0) (a : AttemptId) (old new : Held) (told : Result ℕ Refusal) → old.doubt ≡ None → CallsFor failed (TellsQuiz a) old new told → (new ≡ old) × (TellsQuiz a old.list told ⊎ (told ≡ Err refusal.Memory))
quiz_still failed a old new told clear call = (looks_compose failed (λ r. Err r) (TellsQuiz a)).still old new told clear call

-- an attempt that isn't there, where memory wasn't wanting
pub quiz_none : (a : AttemptId) (h : List Record) (r : Refusal) → TellsQuiz a h (Err r) ⊎ (◌≡◌ {A = Result ℕ Refusal} (Err r) (Err refusal.Memory)) → (r ≡ refusal.Memory → ⊥) → history.quiz h a ≡ None
quiz_none a h r (inl none) other = none.0
quiz_none a h r (inr memory) other = absurd (other cc)

pub quiz_some : (a : AttemptId) (h : List Record) (q : ℕ) → TellsQuiz a h (Ok q) ⊎ (◌≡◌ {A = Result ℕ Refusal} (Ok q) (Err refusal.Memory)) → history.quiz h a ≡ Some q
quiz_some a h q (inl is) = is
quiz_some a h q (inr memory) = absurd cc

pub map_ok : {T E A B : Type 0} (r : Result T E) → OnOk r A → (A → B) → OnOk r B
map_ok (Ok x) is to = to is
map_ok (Err e) is to = is
