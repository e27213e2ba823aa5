-- A student's answers are the same over alike lists: to what names another the student is told that it isn't there, and all else reads
-- the student's own records.
use Rattle.std.proofs.Common.{◌≡◌, ℕ, Bool, true, false, List, [], ◌∷◌, ◌++◌, Option, Some, None, refl, ap, ◌∙◌, sym, subst, append-nil, eq-eqb}
use Rattle.std.specs.Prelude.{◌==◌, option_to_list, unwrap_or}
use Rattle.std.proofs.lemmas.Bool.{eqb-true}
use Rattle.qz_grading.specs.declared.refusal.AttemptId.{AttemptId}
use Rattle.qz_grading.specs.declared.refusal.Refusal.{Refusal}
use Rattle.qz_grading.specs.declared.refusal.Refusal.TheVariants as refusal
use Rattle.qz_grading.specs.declared.refusal.Thing.TheVariants as thing
use Rattle.qz_grading.specs.Behaviours.{first_some}
use Rattle.qz_terms.specs.declared.ask.Ask.{Ask}
use Rattle.qz_terms.specs.declared.people.User.{User}
use Rattle.qz_terms.specs.declared.plan.Plan.{Plan}
use Rattle.qz_terms.specs.declared.record.Record.{Record}
use Rattle.qz_terms.specs.declared.reply.Reply.{Reply}
use Rattle.qz_terms.specs.declared.request.Request.{Request}
use Rattle.qz_terms.specs.declared.request.Request.TheVariants as request
use Rattle.qz_terms.specs.Answer.{answer_at, list_at, list_with, looked, moment_of, named_user, put_here, reply_to, said_of_put}
use Rattle.qz_terms.specs.Cause.{Denied, Granted, Repeated, Verdict, by_key, cause_here, denied, forbidden, is_student, missing_attempt, missing_here, missing_slot, spells, verdict_here}
use Rattle.qz_terms.specs.Laws.{AgreeFor, own_records}
use Rattle.qz_terms.proofs.Isolated.{isolated_law}
use Rattle.qz_terms.proofs.Standing.{free-by, never-granted}
use Rattle.qz_isolation.specs.Isolation.{AreAlike, DependsOnNobodyElse}
use Rattle.qz_isolation.proofs.Alike.{agree}
use Rattle.qz_isolation.proofs.Causes.{cause-own, missing-own}
use Rattle.qz_isolation.proofs.Keys.{told, told-key, told-verdict}
use Rattle.qz_isolation.proofs.Own.{own-append}
use Rattle.qz_isolation.proofs.Putting.{accepted-own, own-put}

-- ---- verdicts, replies and lists

reply-told : (v : Verdict) (accepted : Reply) → reply_to v accepted ≡ unwrap_or (told v) accepted
reply-told (Denied r) accepted = refl
reply-told (Repeated l r) accepted = refl
reply-told Granted accepted = refl

-- what is put counts only where nothing is told of the verdict
abbrev put_if : Option Reply → Option Record → Option Record
put_if None put = put
put_if (Some r) put = None

list-told : (v : Verdict) (h : List Record) (put : Option Record) → list_with v h put ≡ h ++ option_to_list (put_if (told v) put)
list-told (Denied r) h put = sym (append-nil h)
list-told (Repeated l r) h put = sym (append-nil h)
list-told Granted h put = refl

is-granted : (v : Verdict) → told v ≡ None → v ≡ Granted
is-granted (Denied r) none = absurd cc
is-granted (Repeated l r) none = absurd cc
is-granted Granted none = refl

unless-told : (o : Option Reply) (a b : Reply) → (o ≡ None → a ≡ b) → unwrap_or o a ≡ unwrap_or o b
unless-told None a b same = same refl
unless-told (Some r) a b same = refl

unless-put : (u : ℕ) (o : Option Reply) (a b : Option Record) → own_records u (option_to_list a) ≡ own_records u (option_to_list b) → own_records u (option_to_list (put_if o a)) ≡ own_records u (option_to_list (put_if o b))
unless-put u None a b same = same
unless-put u (Some r) a b same = refl

-- ---- what names another

abbrev pub IsMissing : User → Request → Type 0
IsMissing user x = (r : Refusal) × ((h : List Record) → missing_here h user x ≡ Some r)

attempt-missing : (user : User) (a : AttemptId) → is_student user ≡ true → (a.user == user.number) ≡ false → (h : List Record) → missing_attempt h user a ≡ Some (refusal.Unknown thing.Attempt)
attempt-missing user a student other h = rw (student, other) refl

slot-missing : (user : User) (a : AttemptId) (k : ℕ) → is_student user ≡ true → (a.user == user.number) ≡ false → (h : List Record) → missing_slot h user a k ≡ Some (refusal.Unknown thing.Attempt)
slot-missing user a k student other h = rw (attempt-missing user a student other h) refl

not-other : (n : ℕ) → (n == n) ≡ false → ⊥
not-other n other = let same = eq-eqb n n refl in absurd cc

pub other-missing : (user : User) (x : Request) → is_student user ≡ true → (named_user user x == user.number) ≡ false → IsMissing user x
other-missing user (request.Save a k certainty response) student other = (refusal.Unknown thing.Attempt, slot-missing user a k student other)
other-missing user (request.Submit a k certainty response) student other = (refusal.Unknown thing.Attempt, slot-missing user a k student other)
other-missing user (request.Again a k) student other = (refusal.Unknown thing.Attempt, slot-missing user a k student other)
other-missing user (request.Finish a) student other = (refusal.Unknown thing.Attempt, attempt-missing user a student other)
other-missing user (request.Mark a k mark) student other = (refusal.Unknown thing.Attempt, slot-missing user a k student other)
other-missing user (request.Settle a) student other = (refusal.Unknown thing.Attempt, attempt-missing user a student other)
other-missing user (request.View a k) student other = (refusal.Unknown thing.Attempt, slot-missing user a k student other)
other-missing user (request.Total a) student other = (refusal.Unknown thing.Attempt, attempt-missing user a student other)
other-missing user (request.Page a) student other = (refusal.Unknown thing.Attempt, attempt-missing user a student other)
other-missing user (request.Grade quiz owner) student other = (refusal.Unknown thing.User, λ h. rw (student, other) refl)
other-missing user x student other = absurd (not-other user.number other)

denied-first : (f : Option Refusal) (r : Refusal) (k c : Option Verdict) → unwrap_or (first_some (denied f ∷ denied (Some r) ∷ k ∷ c ∷ [])) Granted ≡ Denied (unwrap_or f r)
denied-first None r k c = refl
denied-first (Some s) r k c = refl

-- it is refused alike over every list, at every moment
refused : (h : List Record) (moment : ℕ) (user : User) (plan : Plan) (ask : Ask) (m : IsMissing user ask.request) → verdict_here h moment user plan ask ≡ Denied (unwrap_or (forbidden user ask.request) m.0)
refused h moment user plan ask m =
    let k = by_key (spells ask.request) user.number ask.key h in
    let c = denied (cause_here h moment user plan ask.request) in
    ap (λ (o : Option Refusal). unwrap_or (first_some (denied (forbidden user ask.request) ∷ denied o ∷ k ∷ c ∷ [])) Granted) (m.1 h) ∙ denied-first (forbidden user ask.request) m.0 k c

-- the reply, and the list
record AreSame (u : ℕ) (one other : Reply) (h g : List Record) : Type 0 where
  reply : one ≡ other
  own : own_records u h ≡ own_records u g

abbrev Same : ℕ → ℕ → List Record → List Record → User → Plan → Ask → Type 0
Same n m h g user plan ask = AreSame user.number (answer_at h n user plan ask) (answer_at g m user plan ask) (list_at h n user plan ask) (list_at g m user plan ask)

refused-same : (n m : ℕ) (h g : List Record) (user : User) (plan : Plan) (ask : Ask) → own_records user.number h ≡ own_records user.number g → IsMissing user ask.request → Same n m h g user plan ask
refused-same n m h g user plan ask own missing =
    let one = refused h n user plan ask missing in
    let two = refused g m user plan ask missing in
    let put = put_here h n user plan ask in
    let other = put_here g m user plan ask in
    record {
      reply = ap (λ (v : Verdict). reply_to v (said_of_put h put (looked h n user plan ask.request))) one ∙ sym (ap (λ (v : Verdict). reply_to v (said_of_put g other (looked g m user plan ask.request))) two);
      own = ap (λ (v : Verdict). own_records user.number (list_with v h put)) one ∙ own ∙ sym (ap (λ (v : Verdict). own_records user.number (list_with v g other)) two);
    }

-- ---- what names the student

told-same : (index count moment : ℕ) (h g : List Record) (user : User) (plan : Plan) (ask : Ask) → AreAlike index count user.number h g → AgreeFor index count (named_user user ask.request) h g
    → told (verdict_here h moment user plan ask) ≡ told (verdict_here g moment user plan ask)
told-same index count moment h g user plan ask alike its =
    let x = ask.request in
    told-verdict (forbidden user x) (missing_here h user x) (missing_here g user x) (cause_here h moment user plan x) (cause_here g moment user plan x)
    (by_key (spells x) user.number ask.key h) (by_key (spells x) user.number ask.key g)
    (missing-own index count user h g x its) (cause-own index count moment user plan h g x its) (told-key index count user.number ask.key x h g alike)

pub granted-there : (moment : ℕ) (g : List Record) (user : User) (plan : Plan) (ask : Ask) → told (verdict_here g moment user plan ask) ≡ None → missing_here g user ask.request ≡ None
granted-there moment g user plan ask none =
    let x = ask.request in
    (free-by (forbidden user x) (missing_here g user x) (by_key (spells x) user.number ask.key g) (cause_here g moment user plan x) (never-granted (spells x) user.number ask.key g) (is-granted (verdict_here g moment user plan ask) none)).1

own-same : (index count moment : ℕ) (h g : List Record) (user : User) (plan : Plan) (ask : Ask) → AreAlike index count user.number h g → AgreeFor index count (named_user user ask.request) h g → Same moment moment h g user plan ask
own-same index count moment h g user plan ask alike its =
    let u = user.number in
    let x = ask.request in
    let v = verdict_here h moment user plan ask in
    let w = verdict_here g moment user plan ask in
    let put = put_here h moment user plan ask in
    let other = put_here g moment user plan ask in
    let one = said_of_put h put (looked h moment user plan x) in
    let two = said_of_put g other (looked g moment user plan x) in
    let same = told-same index count moment h g user plan ask alike its in
    let puts = unless-put u (told w) put other (own-put index count u moment user plan ask.key h g x its) in
    record {
      reply =
          reply-told v one
          ∙ ap (λ (o : Option Reply). unwrap_or o one) same
          ∙ unless-told (told w) one two (λ none. accepted-own index count moment user plan ask.key h g x its (granted-there moment g user plan ask none))
          ∙ sym (reply-told w two);
      own =
          ap (own_records u) (list-told v h put)
          ∙ own-append u h (option_to_list (put_if (told v) put))
          ∙ (λ i. alike.own i ++ own_records u (option_to_list (put_if (same i) put)))
          ∙ ap (λ (t : List Record). own_records u g ++ t) puts
          ∙ sym (own-append u g (option_to_list (put_if (told w) other)))
          ∙ sym (ap (own_records u) (list-told w g other));
    }

-- ---- the law

answered : (index count now : ℕ) (h g : List Record) (user : User) (plan : Plan) (ask : Ask) (b : Bool) → (named_user user ask.request == user.number) ≡ b → is_student user ≡ true → AreAlike index count user.number h g → Same (moment_of h now user ask.request) (moment_of g now user ask.request) h g user plan ask
answered index count now h g user plan ask false other student alike = refused-same _ _ h g user plan ask alike.own (other-missing user ask.request student other)
answered index count now h g user plan ask true own student alike =
    let P : ℕ → Type 0 = λ n. AgreeFor index count n h g in
    let its : AgreeFor index count (named_user user ask.request) h g = subst P (sym (eqb-true (named_user user ask.request) user.number own)) (agree index count user.number h g alike) in
    let moment : moment_of h now user ask.request ≡ moment_of g now user ask.request = isolated_law.time index count (named_user user ask.request) now h g its in
    subst (λ (n : ℕ). Same (moment_of h now user ask.request) n h g user plan ask) moment (own-same index count (moment_of h now user ask.request) h g user plan ask alike its)

pub isolation_law : DependsOnNobodyElse
isolation_law = record {
  reply = λ index count now h g user plan ask student alike. (answered index count now h g user plan ask (named_user user ask.request == user.number) refl student alike).reply;
  own = λ index count now h g user plan ask student alike. (answered index count now h g user plan ask (named_user user ask.request == user.number) refl student alike).own;
}
