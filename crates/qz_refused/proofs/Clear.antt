-- A shard that a request reads is in no doubt where all that it reads are in none.
use Rattle.std.proofs.Common.{◌≡◌, ℕ, Bool, true, false, not, ◌||◌, List, [], ◌∷◌, ◌++◌, Option, Some, None, length, map, refl, sym, ap, ◌∙◌, subst}
use Rattle.std.specs.List.{list_any}
use Rattle.std.specs.Prelude.{if◌then◌else◌, is_none, option_to_list}
use Rattle.std.proofs.lemmas.List.Folds.{list_any-append}
use Rattle.qz_grading.specs.declared.refusal.Refusal.{Refusal}
use Rattle.qz_grading.specs.Behaviours.{when}
use Rattle.qz_terms.specs.declared.ask.Ask.{Ask}
use Rattle.qz_terms.specs.declared.people.Caller.{Caller}
use Rattle.qz_terms.specs.declared.people.Caller.TheVariants as caller
use Rattle.qz_terms.specs.declared.people.User.{User}
use Rattle.qz_terms.specs.declared.record.Record.{Record}
use Rattle.qz_terms.specs.declared.reply.Reply.TheVariants as reply
use Rattle.qz_terms.specs.declared.request.Request.{Request}
use Rattle.qz_terms.specs.declared.request.Request.TheVariants as request
use Rattle.qz_terms.specs.SchoolAnswer.{answer_among, asked_part, first_refusal, refusal_among, school_answer_by}
use Rattle.qz_terms.specs.Catalog as catalog
use Rattle.qz_terms.specs.Cause.{forbidden, may_ask, missing_in, missing_shard, rule_of}
use Rattle.qz_terms.specs.Serial.{Lists, catalog_if, goes_on, is_in_doubt, is_report, is_settled, is_started, lists_of, part_read, reply_over, route, shards_asked, worker_route}
use Rattle.qz_serial.proofs.Answering.{free-both}
use Rattle.qz_serial.proofs.Over.{said_by}
use Rattle.qz_serial.proofs.Seats.{count_parts}
use Rattle.qz_serial.proofs.Still.{IsPartClear}

-- a request that reads a shard is one of a user whom neither the catalogue nor a missing shard refuses
pub record IsRead (m : Lists) (ask : Ask) : Type 0 where
  pub user : User
  pub found : catalog.user_of m.records.list ask.caller ≡ Some user
  pub among : refusal_among m.records.list (length m.parts) user ask.request ≡ None

read-by : (m : Lists) (ask : Ask) (k : ℕ) (u : Option User) → catalog.user_of m.records.list ask.caller ≡ u → part_read m ask ≡ Some k → IsRead m ask
read-by m ask k None none read = absurd (let both : None ≡ Some k = rw none at read in cc)
read-by m ask k (Some user) found read = by (refusal_among m.records.list (length m.parts) user ask.request) refl
  where
    by : (o : Option Refusal) → refusal_among m.records.list (length m.parts) user ask.request ≡ o → IsRead m ask
    by None free = record { user = user; found = found; among = free }
    by (Some r) refused = absurd (let none : part_read m ask ≡ None = rw (found, refused) refl in let both : None ≡ Some k = sym none ∙ read in cc)

is_read : (m : Lists) (ask : Ask) (k : ℕ) → part_read m ask ≡ Some k → IsRead m ask
is_read m ask k read = read-by m ask k (catalog.user_of m.records.list ask.caller) refl read

-- ---- no report that reads shards is refused

report-answers : (m : Lists) (now : ℕ) (ask : Ask) (user : User) (why : Refusal) (x : Request) → is_report x ≡ true → answer_among m.records.list (lists_of m.parts) now user ask x ≡ reply.Refused why → ⊥
report-answers m now ask user why (request.Report quiz) is told = absurd cc
report-answers m now ask user why x is told = absurd cc

report-read : (m : Lists) (now : ℕ) (ask : Ask) (why : Refusal) (k : ℕ) → is_report ask.request ≡ true → reply_over m now ask ≡ reply.Refused why → part_read m ask ≡ Some k → ⊥
report-read m now ask why k report told read =
    let r = is_read m ask k read in
    let among : refusal_among m.records.list (length (lists_of m.parts)) r.user ask.request ≡ None = rw (count_parts m.parts) r.among in
    let said : answer_among m.records.list (lists_of m.parts) now r.user ask ask.request ≡ reply.Refused why = rw among at (sym (said_by m now ask r.user r.found) ∙ told) in
    report-answers m now ask r.user why ask.request report said

-- ---- the lists that are read

not-false : (b : Bool) → not b ≡ true → b ≡ false
not-false true is = absurd cc
not-false false is = refl

first-part : (p q : Bool) → (p || q) ≡ false → p ≡ false
first-part true q is = absurd cc
first-part false q is = refl

second-part : (p q : Bool) → (p || q) ≡ false → q ≡ false
second-part true q is = absurd cc
second-part false q is = is

one-shard : (m : Lists) (ask : Ask) (k : ℕ) → is_report ask.request ≡ false → part_read m ask ≡ Some k → shards_asked m ask ≡ Some k ∷ []
one-shard m ask k other read = rw (other, read) refl

module _ (m : Lists) (ask : Ask) (k : ℕ) (other : is_report ask.request ≡ false) (read : part_read m ask ≡ Some k) where
  -- where the shards that are asked are in no doubt
  asked-clear : list_any (is_in_doubt m) (shards_asked m ask) ≡ false → is_in_doubt m (Some k) ≡ false
  asked-clear none = first-part (is_in_doubt m (Some k)) false (rw (one-shard m ask k other read) at none)

  behind-clear : list_any (is_in_doubt m) (None ∷ shards_asked m ask) ≡ false → is_in_doubt m (Some k) ≡ false
  behind-clear none = asked-clear (second-part (is_in_doubt m None) (list_any (is_in_doubt m) (shards_asked m ask)) none)

  behind-by : (b : Bool) → b ≡ true → list_any (is_in_doubt m) (if b then None ∷ shards_asked m ask else []) ≡ false → is_in_doubt m (Some k) ≡ false
  behind-by true may none = behind-clear none
  behind-by false may none = absurd cc

  may-by : (b : Bool) (r : Refusal) → when (not b) r ≡ None → b ≡ true
  may-by true r is = refl
  may-by false r is = absurd cc

  worker-user : (user : User) → ask.caller ≡ caller.Worker → catalog.user_of m.records.list ask.caller ≡ Some user → user ≡ catalog.worker
  worker-user user who known = let found : Some catalog.worker ≡ Some user = sym (ap (catalog.user_of m.records.list) who) ∙ known in cc

  worker-may : ask.caller ≡ caller.Worker → may_ask catalog.worker ask.request ≡ true
  worker-may who =
      let r = is_read m ask k read in
      let free = free-both (first_refusal m.records.list r.user ask.request) (missing_shard (length m.parts) ask.request) r.among in
      let may : may_ask r.user ask.request ≡ true = may-by (may_ask r.user ask.request) _ (free-both (forbidden r.user ask.request) (missing_in m.records.list ask.request) free) in
      subst (λ (u : User). may_ask u ask.request ≡ true) (worker-user r.user who r.found) may

  worker-clear : (x : Request) → ask.request ≡ x → may_ask catalog.worker x ≡ true → list_any (is_in_doubt m) (worker_route m ask x) ≡ false → is_in_doubt m (Some k) ≡ false
  worker-clear (request.Live shard attempt) e may none = asked-clear none
  worker-clear (request.Settle attempt) e may none =
      asked-clear (first-part (list_any (is_in_doubt m) (shards_asked m ask)) (list_any (is_in_doubt m) (catalog_if (is_started m ask ask.request))) (sym (list_any-append (is_in_doubt m) (shards_asked m ask) (catalog_if (is_started m ask ask.request))) ∙ none))
  worker-clear x e may none = behind-by (may_ask catalog.worker x) may none

  caller-clear : (who : Caller) → ask.caller ≡ who → list_any (is_in_doubt m) (route m ask who) ≡ false → is_in_doubt m (Some k) ≡ false
  caller-clear (caller.Token token) who none = behind-clear none
  caller-clear caller.Worker who none = worker-clear ask.request refl (worker-may who) none

pub refused_clear : (m : Lists) (now : ℕ) (ask : Ask) (why : Refusal) → is_settled m ask ≡ true → reply_over m now ask ≡ reply.Refused why → IsPartClear m ask
refused_clear m now ask why settled told k read = by (is_report ask.request) refl
  where
    by : (b : Bool) → is_report ask.request ≡ b → is_in_doubt m (Some k) ≡ false
    by true report = absurd (report-read m now ask why k report told read)
    by false other = caller-clear m ask k other read ask.caller refl (not-false (list_any (is_in_doubt m) (route m ask ask.caller)) settled)
