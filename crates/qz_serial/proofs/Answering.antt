-- How a request is answered over a catalogue and a shard, by its kind.
use Rattle.std.proofs.Common.{◌≡◌, ℕ, Bool, true, false, not, ◌&&◌, List, [], ◌∷◌, Option, Some, None, length, option_map, refl, sym, ap, ◌∙◌, eq-eqb}
use Rattle.std.specs.Prelude.{◌==◌, is_none, is_some, option_and_then, unwrap_or}
use Rattle.qz_grading.specs.declared.refusal.AttemptId.{AttemptId}
use Rattle.qz_grading.specs.declared.refusal.Refusal.{Refusal}
use Rattle.qz_grading.specs.declared.refusal.Refusal.TheVariants as refusal
use Rattle.qz_grading.specs.declared.refusal.Thing.TheVariants as thing
use Rattle.qz_grading.specs.Behaviours.{first_some}
use Rattle.qz_terms.specs.declared.ask.Ask.{Ask}
use Rattle.qz_terms.specs.declared.people.User.{User}
use Rattle.qz_terms.specs.declared.plan.Plan.{Plan}
use Rattle.qz_terms.specs.declared.record.Record.{Record}
use Rattle.qz_terms.specs.declared.reply.Reply.TheVariants as reply
use Rattle.qz_terms.specs.declared.request.Request.{Request}
use Rattle.qz_terms.specs.declared.request.Request.TheVariants as request
use Rattle.qz_terms.specs.Answer.{answer_here, attempt_named, list_after}
use Rattle.qz_terms.specs.CatalogAnswer.{asks_catalog, catalog_after, catalog_answer, catalog_verdict}
use Rattle.qz_terms.specs.SchoolAnswer.{catalog_list, school_answer_by, answer_among, answer_by, first_refusal, part_at, part_of, plan_for, user_after, user_answer}
use Rattle.qz_terms.specs.Catalog as catalog
use Rattle.qz_terms.specs.Cause.{Denied, forbidden, is_keyed, is_keyless, missing_in, missing_shard}
use Rattle.qz_terms.specs.History as history
use Rattle.qz_terms.specs.Legal.{is_plan_for}
use Rattle.qz_terms.specs.Serial.{is_report}
use Rattle.qz_terms.proofs.Joined.{joined_law}
use Rattle.qz_serial.specs.Paths.{goes_to_part}
use Rattle.qz_serial.proofs.Plans.{planned-quiz}

pub keyless-by : (ask : Ask) (b : Bool) → is_keyless ask.request ≡ b → b ≡ true → is_keyed ask ≡ true → ask.key ≡ None
keyless-by ask true is keyless keyed = none-of ask.key (rw is at keyed)
  where
    none-of : (key : Option (List ℕ)) → is_none key ≡ true → key ≡ None
    none-of None none = refl
    none-of (Some key) none = absurd cc
keyless-by ask false is keyless keyed = absurd cc

pub has_no_key : (ask : Ask) → is_keyless ask.request ≡ true → is_keyed ask ≡ true → ask.key ≡ None
has_no_key ask keyless keyed = keyless-by ask (is_keyless ask.request) refl keyless keyed

pub answered-among : (c : List Record) (ps : List (List Record)) (now : ℕ) (user : User) (ask : Ask) (x : Request) → is_report x ≡ false → answer_among c ps now user ask x ≡ answer_by c (part_at ps (part_of (length ps) user x)) now user ask x
answered-among c ps now user ask (request.Report quiz) other = absurd cc
answered-among c ps now user ask x other = refl

pub answered-free : (c : List Record) (h : List Record) (now : ℕ) (user : User) (ask : Ask) → first_refusal c user ask.request ≡ None → user_answer c h now ask user ≡ answer_by c h now user ask ask.request
answered-free c h now user ask free = rw free refl

pub free-both : (o p : Option Refusal) → first_some (o ∷ p ∷ []) ≡ None → o ≡ None
free-both None p none = refl
free-both (Some r) p none = absurd cc

pub both-parts : (a b : Bool) → not a && not b ≡ true → (a ≡ false) × (b ≡ false)
both-parts true b is = absurd cc
both-parts false true is = absurd cc
both-parts false false is = (refl, refl)

pub meant-attempt : (c : List Record) (a : AttemptId) (plan : Plan) (o : Option ℕ) → option_and_then (λ q. catalog.plan c q a.user) o ≡ Some plan → unwrap_or (option_map (λ q. plan.quiz == q) o) true ≡ true
meant-attempt c a plan None is = refl
meant-attempt c a plan (Some q) is = eq-eqb plan.quiz q (planned-quiz c q a.user plan is)

pub meant-named : (c h : List Record) (plan : Plan) (o : Option AttemptId) → option_and_then (λ (a : AttemptId). option_and_then (λ q. catalog.plan c q a.user) (history.quiz h a)) o ≡ Some plan
    → unwrap_or (option_map (λ q. plan.quiz == q) (option_and_then (history.quiz h) o)) true ≡ true
meant-named c h plan None is = refl
meant-named c h plan (Some a) is = meant-attempt c a plan (history.quiz h a) is

-- the plan is of the quiz that is meant
pub plan_meant : (c h : List Record) (user : User) (x : Request) (plan : Plan) → plan_for c h user x ≡ Some plan → is_plan_for h plan x ≡ true
plan_meant c h user (request.Start q) plan is = eq-eqb plan.quiz q (planned-quiz c q user.number plan is)
plan_meant c h user (request.Grade q owner) plan is = eq-eqb plan.quiz q (planned-quiz c q owner plan is)
plan_meant c h user x plan is = meant-named c h plan (attempt_named x) is

-- what needs a plan and has none is refused
pub planless-answer : (c h : List Record) (now : ℕ) (user : User) (ask : Ask) (x : Request) → goes_to_part x ≡ true → is_keyless x ≡ false → plan_for c h user ask.request ≡ None → answer_by c h now user ask x ≡ reply.Refused (refusal.Unknown thing.Attempt)
planless-answer c h now user ask (request.Start q) goes keyed none = rw none refl
planless-answer c h now user ask (request.Save a k certainty response) goes keyed none = rw none refl
planless-answer c h now user ask (request.Submit a k certainty response) goes keyed none = rw none refl
planless-answer c h now user ask (request.Again a k) goes keyed none = rw none refl
planless-answer c h now user ask (request.Finish a) goes keyed none = rw none refl
planless-answer c h now user ask (request.Mark a k mark) goes keyed none = rw none refl
planless-answer c h now user ask x goes keyed none = absurd cc

pub same-answer : (c h : List Record) (now : ℕ) (ask : Ask) (user : User) (plan : Plan) → catalog.user_of c ask.caller ≡ Some user → first_refusal c user ask.request ≡ None → plan_for c h user ask.request ≡ Some plan → user_answer c h now ask user ≡ answer_here h now user plan ask
same-answer c h now ask user plan found free planned = sym (rw found refl) ∙ joined_law.reply c h now ask.caller ask.key ask.request user plan found free planned

pub same-list : (c h : List Record) (now : ℕ) (ask : Ask) (user : User) (plan : Plan) → catalog.user_of c ask.caller ≡ Some user → first_refusal c user ask.request ≡ None → plan_for c h user ask.request ≡ Some plan → user_after c h now ask user ≡ list_after h now user plan ask
same-list c h now ask user plan found free planned = sym (rw found refl) ∙ joined_law.list c h now ask.caller ask.key ask.request user plan found free planned

pub keyed-by : (ask : Ask) (b : Bool) → is_keyless ask.request ≡ b → is_keyed ask ≡ true → is_some ask.key ≡ true → b ≡ false
keyed-by ask true is keyed some = absurd (both ask.key (rw is at keyed) some)
  where
    both : (key : Option (List ℕ)) → is_none key ≡ true → is_some key ≡ true → ⊥
    both None none some = absurd cc
    both (Some key) none some = absurd cc
keyed-by ask false is keyed some = refl

pub anywhere : (n : ℕ) (x : Request) → asks_catalog x ≡ true → missing_shard n x ≡ None
anywhere n (request.Work job shard) of_catalog = absurd cc
anywhere n (request.Live shard attempt) of_catalog = absurd cc
anywhere n x of_catalog = refl

pub by-catalog : (c : List Record) (ps : List (List Record)) (now : ℕ) (user : User) (ask : Ask) (x : Request) → asks_catalog x ≡ true → answer_among c ps now user ask x ≡ catalog_answer c now user ask
by-catalog c ps now user ask (request.Start q) of_catalog = absurd cc
by-catalog c ps now user ask (request.Save a k certainty response) of_catalog = absurd cc
by-catalog c ps now user ask (request.Submit a k certainty response) of_catalog = absurd cc
by-catalog c ps now user ask (request.Again a k) of_catalog = absurd cc
by-catalog c ps now user ask (request.Finish a) of_catalog = absurd cc
by-catalog c ps now user ask (request.Mark a k mark) of_catalog = absurd cc
by-catalog c ps now user ask (request.Work job shard) of_catalog = absurd cc
by-catalog c ps now user ask (request.Settle a) of_catalog = absurd cc
by-catalog c ps now user ask (request.Live shard attempt) of_catalog = absurd cc
by-catalog c ps now user ask (request.View a k) of_catalog = absurd cc
by-catalog c ps now user ask (request.Total a) of_catalog = absurd cc
by-catalog c ps now user ask (request.Page a) of_catalog = absurd cc
by-catalog c ps now user ask (request.Grade q u) of_catalog = absurd cc
by-catalog c ps now user ask (request.Report quiz) of_catalog = absurd cc
by-catalog c ps now user ask x of_catalog = refl

pub refused-here : (c : List Record) (now : ℕ) (user : User) (ask : Ask) (r : Refusal) (f m : Option Refusal) → forbidden user ask.request ≡ f → missing_in c ask.request ≡ m → first_some (f ∷ m ∷ []) ≡ Some r → catalog_verdict c now user ask ≡ Denied r
refused-here c now user ask r (Some s) m may there refused = rw may (ap Denied cc)
refused-here c now user ask r None (Some s) may there refused = rw (may, there) (ap Denied cc)
refused-here c now user ask r None None may there refused = absurd cc

-- it is answered as the catalogue says, whether it is refused first or not
pub record IsRecorded (c : List Record) (ps : List (List Record)) (now : ℕ) (user : User) (ask : Ask) : Type 0 where
  pub answer : school_answer_by c ps now ask user ≡ catalog_answer c now user ask
  pub list : catalog_list c now ask ≡ catalog_after c now user ask

pub recorded-by : (c : List Record) (ps : List (List Record)) (now : ℕ) (user : User) (ask : Ask) (o : Option Refusal) → first_refusal c user ask.request ≡ o → asks_catalog ask.request ≡ true → catalog.user_of c ask.caller ≡ Some user → IsRecorded c ps now user ask
recorded-by c ps now user ask (Some r) first of_catalog found =
    let verdict = refused-here c now user ask r (forbidden user ask.request) (missing_in c ask.request) refl refl first in
    let told : school_answer_by c ps now ask user ≡ reply.Refused r = rw first refl in
    let answer : catalog_answer c now user ask ≡ reply.Refused r = rw verdict refl in
    let list : catalog_after c now user ask ≡ c = rw verdict refl in
    let kept : catalog_list c now ask ≡ c = rw (found, first) refl in
    record { answer = told ∙ sym answer; list = kept ∙ sym list }
recorded-by c ps now user ask None first of_catalog found = record {
  answer = rw (first, anywhere (length ps) ask.request of_catalog) (by-catalog c ps now user ask ask.request of_catalog);
  list = rw (found, first, of_catalog) refl;
}
