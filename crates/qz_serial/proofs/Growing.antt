-- What a request leaves of a list, and what stays of it.
use Rattle.std.proofs.Common.{◌≡◌, ℕ, Bool, true, false, List, [], ◌++◌, Option, Some, None, refl, sym, ap, ◌∙◌, subst, append-nil}
use Rattle.std.specs.Prelude.{filter_map, is_some, option_and_then, option_map, option_to_list}
use Rattle.std.proofs.lemmas.List.Elements.{filter_map-append}
use Rattle.qz_grading.specs.declared.refusal.AttemptId.{AttemptId}
use Rattle.qz_grading.specs.declared.refusal.Refusal.TheVariants as refusal
use Rattle.qz_terms.specs.declared.ask.Ask.{Ask}
use Rattle.qz_terms.specs.declared.people.User.{User}
use Rattle.qz_terms.specs.declared.plan.Plan.{Plan}
use Rattle.qz_terms.specs.declared.record.Record.{Record}
use Rattle.qz_terms.specs.declared.reply.Reply.{Reply}
use Rattle.qz_terms.specs.declared.reply.Reply.TheVariants as reply
use Rattle.qz_terms.specs.declared.request.Request.{Request}
use Rattle.qz_terms.specs.declared.request.Request.TheVariants as request
use Rattle.qz_terms.specs.Answer.{attempt_named, list_after, list_with, moment_of, put_by_job, put_here}
use Rattle.qz_terms.specs.CatalogAnswer.{asks_catalog, catalog_after, catalog_verdict, put_in}
use Rattle.qz_terms.specs.SchoolAnswer.{after_by, first_refusal, plan_for, user_after}
use Rattle.qz_terms.specs.Catalog as catalog
use Rattle.qz_terms.specs.Cause.{Denied, Granted, Repeated, Verdict, by_key, verdict_here}
use Rattle.qz_terms.specs.History as history
use Rattle.qz_terms.specs.Laws.{tells_of_outside}
use Rattle.qz_terms.specs.Lists.{first_of}
use Rattle.qz_terms.specs.Serial.{Lists, lists_of, reply_over}
use Rattle.qz_terms.proofs.Owning.{owning_law}
use Rattle.qz_terms.proofs.Readings.{first_of-append}
use Rattle.qz_serial.specs.Standing.{is_keep_fault}

-- ---- no keeper fails

not_keep_fault : (r : Reply) → tells_of_outside r ≡ false → is_keep_fault r ≡ false
not_keep_fault (reply.Ok place d) own = refl
not_keep_fault (reply.Refused refusal.KeepFault) own = absurd cc
not_keep_fault (reply.Refused r) own = refl

-- no answer is that one did
pub own_reply : (a : Lists) (now : ℕ) (ask : Ask) (r : Reply) → reply_over a now ask ≡ r → is_keep_fault r ≡ false
own_reply a now ask r said = not_keep_fault r (ap tells_of_outside (sym said) ∙ owning_law.own a.records.list (lists_of a.parts) now ask)

-- ---- longer lists

-- the list afterwards begins with the list before
pub record Grows (h g : List Record) : Type 0 where
  pub rest : List Record
  pub grown : g ≡ h ++ rest

pub stays_so : (h : List Record) → Grows h h
stays_so h = record { rest = []; grown = sym (append-nil h) }

grows-by : (v : Verdict) (h : List Record) (put : Option Record) → Grows h (list_with v h put)
grows-by (Denied r) h put = stays_so h
grows-by (Repeated l r) h put = stays_so h
grows-by Granted h put = record { rest = option_to_list put; grown = refl }

pub grown_records : (c : List Record) (now : ℕ) (user : User) (ask : Ask) → Grows c (catalog_after c now user ask)
grown_records c now user ask = grows-by (catalog_verdict c now user ask) c (put_in c now user ask)

grown-list : (h : List Record) (now : ℕ) (user : User) (plan : Plan) (ask : Ask) → Grows h (list_after h now user plan ask)
grown-list h now user plan ask = let moment = moment_of h now user ask.request in grows-by (verdict_here h moment user plan ask) h (put_here h moment user plan ask)

grown-plan : (c h : List Record) (now : ℕ) (user : User) (ask : Ask) (o : Option Plan) → Grows h (Rattle.std.specs.Prelude.unwrap_or (option_map (λ plan. list_after h now user plan ask) o) h)
grown-plan c h now user ask None = stays_so h
grown-plan c h now user ask (Some plan) = grown-list h now user plan ask

grown-job : (h : List Record) (now : ℕ) (user : User) (o : Option _) → Grows h (Rattle.std.specs.Prelude.unwrap_or (option_map (Rattle.qz_terms.specs.Answer.work_after h now user.number) o) h)
grown-job h now user None = stays_so h
grown-job h now user (Some job) = record { rest = option_to_list (put_by_job h now user.number job); grown = refl }

grown-shard : (c h : List Record) (now : ℕ) (user : User) (ask : Ask) (b : Bool) → Grows h (Rattle.std.specs.Prelude.if◌then◌else◌ b h (Rattle.qz_terms.specs.SchoolAnswer.shard_after c h now user ask))
grown-shard c h now user ask true = stays_so h
grown-shard c h now user ask false = grown-plan c h now user ask (plan_for c h user ask.request)

grown-by : (c h : List Record) (now : ℕ) (user : User) (ask : Ask) (x : Request) → Grows h (after_by c h now user ask x)
grown-by c h now user ask (request.Work job shard) = grown-job h now user (catalog.job c job)
grown-by c h now user ask x = grown-shard c h now user ask (asks_catalog x)

grown-free : (c h : List Record) (now : ℕ) (user : User) (ask : Ask) (b : Bool) → Grows h (Rattle.std.specs.Prelude.if◌then◌else◌ b h (after_by c h now user ask ask.request))
grown-free c h now user ask true = stays_so h
grown-free c h now user ask false = grown-by c h now user ask ask.request

-- whatever is asked of it
pub grown_part : (c h : List Record) (now : ℕ) (user : User) (ask : Ask) → Grows h (user_after c h now ask user)
grown_part c h now user ask = grown-free c h now user ask (is_some (first_refusal c user ask.request))

-- ---- an attempt keeps its plan

pub quiz-append : (h rest : List Record) (a : AttemptId) (q : ℕ) (o : Option history.Start) → history.start h a ≡ o → option_map (λ (s : history.Start). s.quiz) o ≡ Some q → history.quiz (h ++ rest) a ≡ Some q
quiz-append h rest a q None begun is = absurd cc
quiz-append h rest a q (Some s) begun is =
    let longer : history.start (h ++ rest) a ≡ Some s = ap first_of (filter_map-append (history.starts a) h rest) ∙ first_of-append (filter_map (history.starts a) h) (filter_map (history.starts a) rest) s begun in
    rw longer is

plan-attempt : (c h rest : List Record) (a : AttemptId) (plan : Plan) (o : Option ℕ) → history.quiz h a ≡ o → option_and_then (λ q. catalog.plan c q a.user) o ≡ Some plan → option_and_then (λ q. catalog.plan c q a.user) (history.quiz (h ++ rest) a) ≡ Some plan
plan-attempt c h rest a plan None quiz is = absurd cc
plan-attempt c h rest a plan (Some q) quiz is = rw (quiz-append h rest a q (history.start h a) refl quiz) is

plan-named : (c h rest : List Record) (plan : Plan) (o : Option AttemptId) → option_and_then (λ (a : AttemptId). option_and_then (λ q. catalog.plan c q a.user) (history.quiz h a)) o ≡ Some plan
    → option_and_then (λ (a : AttemptId). option_and_then (λ q. catalog.plan c q a.user) (history.quiz (h ++ rest) a)) o ≡ Some plan
plan-named c h rest plan None is = absurd cc
plan-named c h rest plan (Some a) is = plan-attempt c h rest a plan (history.quiz h a) refl is

-- an attempt keeps its plan
plan-append : (c h rest : List Record) (user : User) (x : Request) (plan : Plan) → plan_for c h user x ≡ Some plan → plan_for c (h ++ rest) user x ≡ Some plan
plan-append c h rest user (request.Start q) plan is = is
plan-append c h rest user (request.Grade q owner) plan is = is
plan-append c h rest user x plan is = plan-named c h rest plan (attempt_named x) is

pub plan_grown : (c h g : List Record) (user : User) (x : Request) (plan : Plan) → Grows h g → plan_for c h user x ≡ Some plan → plan_for c g user x ≡ Some plan
plan_grown c h g user x plan grows is = subst (λ (l : List Record). plan_for c l user x ≡ Some plan) (sym grows.grown) (plan-append c h grows.rest user x plan is)

-- ---- one of each

pub no-verdict : (is_same : Record → Bool) (caller : ℕ) (key : Option (List ℕ)) (l : List Record) (v : Verdict) → key ≡ None → by_key is_same caller key l ≡ Some v → ⊥
no-verdict is_same caller None l v none found = absurd cc
no-verdict is_same caller (Some key) l v none found = absurd cc
