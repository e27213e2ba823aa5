-- A student's requests are about own attempts.
use Rattle.std.proofs.Common.{◌≡◌, ℕ, ◌||◌, Bool, true, false, not, List, Option, Some, None, refl, ap, ◌∙◌, sym}
use Rattle.std.specs.Prelude.{◌==◌, option_map, option_to_list}
use Rattle.std.specs.List.{list_all}
use Rattle.std.proofs.lemmas.Bool.{eqb-true}
use Rattle.std.proofs.lemmas.List.Folds.{list_all-append}
use Rattle.qz_grading.specs.declared.refusal.AttemptId.{AttemptId}
use Rattle.qz_terms.specs.declared.ask.Ask.{Ask}
use Rattle.qz_terms.specs.declared.people.User.{User}
use Rattle.qz_terms.specs.declared.plan.Plan.{Plan}
use Rattle.qz_terms.specs.declared.record.Event.{Event}
use Rattle.qz_terms.specs.declared.record.Record.{Record}
use Rattle.qz_terms.specs.declared.request.Request.{Request}
use Rattle.qz_terms.specs.declared.request.Request.TheVariants as request
use Rattle.qz_terms.specs.Answer.{event_here, list_after, list_with, moment_of, named_user, put_here}
use Rattle.qz_terms.specs.Cause.{Denied, Granted, Repeated, Verdict, is_student, missing_here, verdict_here}
use Rattle.qz_terms.specs.History as history
use Rattle.qz_isolation.specs.Asked.{StudentsAskOfOwn}
use Rattle.qz_isolation.specs.Isolation.{asks_of_own}
use Rattle.qz_isolation.proofs.Answering.{granted-there, other-missing}
use Rattle.qz_isolation.proofs.Keys.{told}
use Rattle.qz_isolation.proofs.Putting.{as_record, settling_event, is_over}

abbrev owned_event : ℕ → Event → Option (ℕ × Event)
owned_event o d = Some (o, d)

owner-of : (o : ℕ) (d : Event) (e : ℕ × Event) → owned_event o d ≡ Some e → e.0 ≡ o
owner-of o d e is =
    let pair : ℕ × Event = (o, d) in
    let same : pair ≡ e = cc in
    ap (λ (t : ℕ × Event). t.0) (sym same)

settled-owner : (over : Bool) (plan : Plan) (a : AttemptId) (e : ℕ × Event) → settling_event over plan a ≡ Some e → e.0 ≡ a.user
settled-owner true plan a e is = owner-of a.user _ e is
settled-owner false plan a e is = absurd cc

-- the user whose attempt an event is about is the one whom its request names
event-owner : (h : List Record) (moment : ℕ) (user : User) (plan : Plan) (x : Request) (e : ℕ × Event) → event_here h moment user plan x ≡ Some e → e.0 ≡ named_user user x
event-owner h moment user plan (request.Start quiz) e is = owner-of user.number _ e is
event-owner h moment user plan (request.Save a k certainty response) e is = owner-of a.user _ e is
event-owner h moment user plan (request.Submit a k certainty response) e is = owner-of a.user _ e is
event-owner h moment user plan (request.Again a k) e is = owner-of a.user _ e is
event-owner h moment user plan (request.Finish a) e is = owner-of a.user _ e is
event-owner h moment user plan (request.Mark a k mark) e is = owner-of a.user _ e is
event-owner h moment user plan (request.Settle a) e is = settled-owner (is_over plan moment (history.start h a) (history.ended h a)) plan a e is
event-owner h moment user plan x e is = absurd cc

-- ---- one record more

all-of-put : (good : Record → Bool) (moment : ℕ) (user : User) (key : Option (List ℕ)) (plan : Plan) (o : Option (ℕ × Event)) → ((e : ℕ × Event) → o ≡ Some e → good (as_record moment user key plan e) ≡ true) → list_all good (option_to_list (option_map (as_record moment user key plan) o)) ≡ true
all-of-put good moment user key plan None each = refl
all-of-put good moment user key plan (Some e) each = rw (each e refl) refl

all-with : (good : Record → Bool) (v : Verdict) (h : List Record) (put : Option Record) → (v ≡ Granted → list_all good (option_to_list put) ≡ true) → list_all good h ≡ true → list_all good (list_with v h put) ≡ true
all-with good (Denied r) h put more all = all
all-with good (Repeated l r) h put more all = all
all-with good Granted h put more all = let one = more refl in list_all-append good h (option_to_list put) ∙ rw (all, one) refl

own-or-other : (u n o : ℕ) (b : Bool) → (n == u) ≡ b → (b ≡ true → o ≡ n) → (not (n == u) || (o == u)) ≡ true
own-or-other u n o true is own = let same = own refl in rw (is, same) is
own-or-other u n o false is own = rw is refl

-- what a student is granted names the student
names-own-by : (h : List Record) (user : User) (x : Request) (b : Bool) → (named_user user x == user.number) ≡ b → is_student user ≡ true → missing_here h user x ≡ None → named_user user x ≡ user.number
names-own-by h user x true is student there = eqb-true (named_user user x) user.number is
names-own-by h user x false is student there = absurd (let m = other-missing user x student is in let found = m.1 h in cc)

student-by : (user : User) (b c : Bool) → is_student user ≡ b → (b || not c) ≡ true → c ≡ true → is_student user ≡ true
student-by user true c is either same = is
student-by user false true is either same = absurd cc
student-by user false false is either same = absurd cc

stays : (now u : ℕ) (h : List Record) (user : User) (plan : Plan) (ask : Ask) → (is_student user || not (user.number == u)) ≡ true → list_all (asks_of_own u) h ≡ true → list_all (asks_of_own u) (list_after h now user plan ask) ≡ true
stays now u h user plan ask either all =
    let x = ask.request in
    let moment = moment_of h now user x in
    let v = verdict_here h moment user plan ask in
    let own : v ≡ Granted → (e : ℕ × Event) → event_here h moment user plan x ≡ Some e → (user.number == u) ≡ true → e.0 ≡ user.number = λ granted e is same.
    let student = student-by user (is_student user) (user.number == u) refl either same in
    event-owner h moment user plan x e is ∙ names-own-by h user x (named_user user x == user.number) refl student (granted-there moment h user plan ask (ap told granted)) in
    all-with (asks_of_own u) v h (put_here h moment user plan ask)
    (λ granted. all-of-put (asks_of_own u) moment user ask.key plan (event_here h moment user plan x) (λ e is. own-or-other u user.number e.0 (user.number == u) refl (λ same. own granted e is same)))
    all

pub asking_law : StudentsAskOfOwn
asking_law = record { stays = stays }
