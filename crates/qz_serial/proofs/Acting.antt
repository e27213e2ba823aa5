-- Whatever a request comes to, it acts once.
use Rattle.std.proofs.Common.{◌≡◌, ℕ, ◌<◌, ◌%◌, Bool, true, false, not, ◌||◌, List, [], ◌∷◌, Option, Some, None, length, refl, sym, ap, ◌∙◌, subst}
use Rattle.std.specs.List.{list_any}
use Rattle.std.specs.Prelude.{if◌then◌else◌, is_some, slice_set}
use Rattle.qz_grading.specs.declared.refusal.Refusal.{Refusal}
use Rattle.qz_grading.specs.declared.refusal.Refusal.TheVariants as refusal
use Rattle.qz_terms.specs.declared.ask.Ask.{Ask}
use Rattle.qz_terms.specs.declared.people.Caller.{Caller}
use Rattle.qz_terms.specs.declared.people.Caller.TheVariants as caller
use Rattle.qz_terms.specs.declared.people.User.{User}
use Rattle.qz_terms.specs.declared.plan.Plan.{Plan}
use Rattle.qz_terms.specs.declared.record.Record.{Record}
use Rattle.qz_terms.specs.declared.reply.Done.{Done}
use Rattle.qz_terms.specs.declared.reply.Reply.{Reply}
use Rattle.qz_terms.specs.declared.reply.Reply.TheVariants as reply
use Rattle.qz_terms.specs.declared.request.Request.{Request}
use Rattle.qz_terms.specs.declared.request.Request.TheVariants as request
use Rattle.qz_terms.specs.CatalogAnswer.{asks_catalog, catalog_after, catalog_answer}
use Rattle.qz_terms.specs.SchoolAnswer.{asked_part, catalog_list, first_refusal, part_of, plan_for, refusal_among, shard_list, user_after}
use Rattle.qz_terms.specs.Catalog as catalog
use Rattle.qz_terms.specs.Cause.{forbidden, is_keyed, is_keyless, may_ask, missing_in, missing_shard}
use Rattle.qz_terms.specs.Answer.{answer_here, named_user}
use Rattle.qz_terms.specs.Laws.{Stands}
use Rattle.qz_terms.specs.Lists.{up_to_first}
use Rattle.std.proofs.lemmas.List.{length-set}
use Rattle.std.proofs.lemmas.Nat.{mod_below}
use Rattle.qz_terms.specs.Serial.{AllMended, Asks, Held, Lists, Turn, answered, goes_on, is_catalog, is_in_doubt, is_report, is_settled, lists_of, lists_over, no_memory, part_list, part_read, put_in_doubt, puts_record, reads_catalog, records_over, reply_over, route, shards_asked, stayed_in_doubt, with_list}
use Rattle.qz_terms.proofs.Standing.{once_law}
use Rattle.qz_serial.specs.Once.{ActsOnceInLists, AskedOnce, IsSaidAgain, same, unkept, unsaid}
use Rattle.qz_serial.specs.Paths.{IsGoing, goes_to_part, with_part}
use Rattle.qz_serial.specs.Repeating.{StandsInCatalog}
use Rattle.qz_serial.specs.Standing.{StandsIn, StandsInRecords, StandsInShard, in_records, in_shard, own_list}
use Rattle.qz_serial.proofs.Answering.{answered-free, free-both, has_no_key, keyed-by, plan_meant, planless-answer, recorded-by, same-answer, same-list}
use Rattle.qz_serial.proofs.Growing.{grown_part, grown_records, no-verdict, plan_grown}
use Rattle.qz_serial.proofs.Longer.{staying_law}
use Rattle.qz_serial.proofs.Over.{goes_other, over_part, part_read_is, records_kept, refused_said, said_by, said_part, unknown_said}
use Rattle.qz_serial.proofs.Repeating.{repeating_law}
use Rattle.qz_serial.proofs.Seats.{at_here, mending_grows, set_get, within_there}
use Rattle.qz_serial.proofs.Staying.{asks_grow, stands_grown}
use Rattle.qz_serial.proofs.Still.{IsPartClear, PutsNothing, nothing_put, still_over}

-- ---- what stands already

-- it is said again, and nothing is put
pub record IsRepeated (m : Lists) (now : ℕ) (ask : Ask) (told : Reply) : Type 0 where
  pub reply : reply_over m now ask ≡ told
  pub nothing : PutsNothing m now ask
  pub clear : is_settled m ask ≡ true → IsPartClear m ask

-- what has a plan goes to a shard that is there
planned-goes : (c h : List Record) (user : User) (x : Request) (plan : Plan) → plan_for c h user x ≡ Some plan → (goes_to_part x ≡ true) × ((n : ℕ) → missing_shard n x ≡ None)
planned-goes c h user (request.Start q) plan is = (refl, λ n. refl)
planned-goes c h user (request.Grade q owner) plan is = (refl, λ n. refl)
planned-goes c h user (request.Save a k certainty response) plan is = (refl, λ n. refl)
planned-goes c h user (request.Submit a k certainty response) plan is = (refl, λ n. refl)
planned-goes c h user (request.Again a k) plan is = (refl, λ n. refl)
planned-goes c h user (request.Finish a) plan is = (refl, λ n. refl)
planned-goes c h user (request.Mark a k mark) plan is = (refl, λ n. refl)
planned-goes c h user (request.Settle a) plan is = (refl, λ n. refl)
planned-goes c h user (request.View a k) plan is = (refl, λ n. refl)
planned-goes c h user (request.Total a) plan is = (refl, λ n. refl)
planned-goes c h user (request.Page a) plan is = (refl, λ n. refl)
planned-goes c h user x plan is = absurd cc

pub planned_going : (m : Lists) (ask : Ask) (user : User) (h : List Record) (plan : Plan) → catalog.user_of m.records.list ask.caller ≡ Some user → first_refusal m.records.list user ask.request ≡ None → plan_for m.records.list h user ask.request ≡ Some plan
    → IsGoing m.records.list (length m.parts) ask user (part_of (length m.parts) user ask.request)
planned_going m ask user h plan known free planned =
    let kind = planned-goes m.records.list h user ask.request plan planned in
    record { goes = kind.0; found = known; among = rw (free, kind.1 (length m.parts)) refl; part = refl }

-- a worker asks with no key
worker-keyless : (x : Request) → may_ask catalog.worker x ≡ true → is_keyless x ≡ true
worker-keyless (request.Work job shard) may = refl
worker-keyless (request.Settle a) may = refl
worker-keyless (request.Live shard a) may = refl
worker-keyless request.Jobs may = refl
worker-keyless (request.View a k) may = refl
worker-keyless (request.Total a) may = refl
worker-keyless (request.Page a) may = refl
worker-keyless (request.Grade q u) may = refl
worker-keyless (request.Report q) may = refl
worker-keyless (request.Bank e v) may = refl
worker-keyless x may = absurd cc

may-by : (b : Bool) (r : Refusal) → Rattle.qz_grading.specs.Behaviours.when (not b) r ≡ None → b ≡ true
may-by true r is = refl
may-by false r is = absurd cc

not-both : (p q : Bool) → not (p || (q || false)) ≡ true → q ≡ false
not-both true q is = absurd cc
not-both false true is = absurd cc
not-both false false is = refl

-- the lists that a token's request reads, where it reads one shard
pub token_route : (m : Lists) (ask : Ask) (token : List ℕ) (k : ℕ) → ask.caller ≡ caller.Token token → is_report ask.request ≡ false → part_read m ask ≡ Some k → route m ask ask.caller ≡ None ∷ Some k ∷ []
token_route m ask token k who other read =
    let ways : route m ask (caller.Token token) ≡ None ∷ Some k ∷ [] = rw (other, read) refl in
    ap (route m ask) who ∙ ways

token-clear : (m : Lists) (ask : Ask) (token : List ℕ) → ask.caller ≡ caller.Token token → is_report ask.request ≡ false → is_settled m ask ≡ true → IsPartClear m ask
token-clear m ask token who other settled k read =
    let ways = token_route m ask token k who other read in
    not-both (is_in_doubt m None) (is_in_doubt m (Some k)) (subst (λ (l : List (Option ℕ)). not (list_any (is_in_doubt m) l) ≡ true) ways settled)

same-some : (o : Option ℕ) (k j : ℕ) → o ≡ Some k → o ≡ Some j → j ≡ k
same-some o k j one other = cc

worker-user : (c : List Record) (ask : Ask) (user : User) → ask.caller ≡ caller.Worker → catalog.user_of c ask.caller ≡ Some user → user ≡ catalog.worker
worker-user c ask user who known = let found : Some catalog.worker ≡ Some user = sym (ap (catalog.user_of c) who) ∙ known in cc

shard-repeated : (m : Lists) (now : ℕ) (ask : Ask) (told : Reply) (who : Caller) → ask.caller ≡ who → is_keyed ask ≡ true → StandsInShard m ask told → IsRepeated m now ask told
shard-repeated m now ask told (caller.Token token) who keyed s =
    let c = m.records.list in
    let k = part_of (length m.parts) s.user ask.request in
    let h = part_list m k in
    let g = planned_going m ask s.user h s.plan s.known s.free s.planned in
    let other = goes_other c (length m.parts) ask s.user k g in
    let both = once_law.again h now s.user s.plan ask told s.stands in
    let list : shard_list c h now ask ≡ user_after c h now ask s.user = rw s.known refl in
    record {
      reply = said_part m now ask s.user k g ∙ same-answer c h now ask s.user s.plan s.known s.free s.planned ∙ both.0;
      nothing = record {
        records = records_kept c now ask other.0;
        part = λ j read. subst (λ (n : ℕ). shard_list c (part_list m n) now ask ≡ part_list m n) (sym (same-some (part_read m ask) k j (part_read_is m ask s.user k g) read)) (list ∙ same-list c h now ask s.user s.plan s.known s.free s.planned ∙ both.1);
      };
      clear = token-clear m ask token who other.1;
    }
shard-repeated m now ask told caller.Worker who keyed s =
    let worker_is = worker-user m.records.list ask s.user who s.known in
    let may : may_ask catalog.worker ask.request ≡ true = subst (λ (u : User). may_ask u ask.request ≡ true) worker_is (may-by (may_ask s.user ask.request) _ s.stands.may) in
    absurd (no-verdict _ s.user.number ask.key _ _ (has_no_key ask (worker-keyless ask.request may) keyed) s.stands.found)

no-part-by : (b : Bool) (o : Option ℕ) → o ≡ None → (if b then o else None) ≡ None
no-part-by true o none = none
no-part-by false o none = refl

pub no_part : (m : Lists) (ask : Ask) (user : User) → asks_catalog ask.request ≡ true → catalog.user_of m.records.list ask.caller ≡ Some user → part_read m ask ≡ None
no_part m ask user of_catalog found =
    let none : asked_part m.records.list (length m.parts) ask ≡ None = rw (found, of_catalog) refl in
    no-part-by (goes_on m ask) (asked_part m.records.list (length m.parts) ask) none

none-some : (o : Option ℕ) (k : ℕ) → o ≡ None → o ≡ Some k → ⊥
none-some o k none some = cc

records-repeated : (m : Lists) (now : ℕ) (ask : Ask) (told : Reply) → StandsInRecords m ask told → IsRepeated m now ask told
records-repeated m now ask told s =
    let c = m.records.list in
    let r = recorded-by c (lists_of m.parts) now s.user ask (first_refusal c s.user ask.request) refl s.of_catalog s.known in
    let both = repeating_law.again c now s.user ask told s.stands in
    let none = no_part m ask s.user s.of_catalog s.known in
    record {
      reply = said_by m now ask s.user s.known ∙ r.answer ∙ both.0;
      nothing = record { records = r.list ∙ both.1; part = λ k read. absurd (none-some (part_read m ask) k none read) };
      clear = λ settled k read. absurd (none-some (part_read m ask) k none read);
    }

pub repeated : (m : Lists) (now : ℕ) (ask : Ask) (told : Reply) → is_keyed ask ≡ true → StandsIn m ask told → IsRepeated m now ask told
repeated m now ask told keyed (in_shard s) = shard-repeated m now ask told ask.caller refl keyed s
repeated m now ask told keyed (in_records s) = records-repeated m now ask told s

not-true : (b : Bool) → b ≡ true → b ≡ false → ⊥
not-true b one other = cc

again_by : (m b : Lists) (now : ℕ) (ask : Ask) (r told : Reply) → Turn m b now ask r → IsRepeated m now ask told → IsSaidAgain told r × (b ≡ m)
again_by m b now ask r told (answered l n x settled) again = (same again.reply, still_over l n x settled (again.clear settled) again.nothing)
again_by m b now ask r told (put_in_doubt l n x settled puts) again = absurd (not-true (puts_record l n x) puts (nothing_put l n x again.nothing))
again_by m b now ask r told (stayed_in_doubt l n x doubt) again = (unkept refl, refl)
again_by m b now ask r told (no_memory l n x) again = (unsaid refl, refl)

pub said_again : (a b : Lists) (now : ℕ) (ask : Ask) (r told : Reply) → is_keyed ask ≡ true → Asks a b now ask r → StandsIn a ask told → IsSaidAgain told r × AllMended a b
said_again a b now ask r told keyed asks stands =
    let m = asks.mended in
    let there = stands_grown a m ask told (mending_grows a m asks.mends) stands in
    let both = again_by m b now ask r told asks.turn (repeated m now ask told keyed there) in
    (both.0, subst (AllMended a) (sym both.1) asks.mends)

-- ---- what is accepted

not-said : (r : Refusal) (place : ℕ) (d : Done) → reply.Refused r ≡ reply.Ok place d → ⊥
not-said r place d told = cc

-- what has a plan goes to the shard of a user
planned-part : (c h : List Record) (n : ℕ) (user : User) (x : Request) (plan : Plan) → plan_for c h user x ≡ Some plan → part_of n user x ≡ named_user user x % n
planned-part c h n user (request.Work job shard) plan is = absurd cc
planned-part c h n user (request.Live shard a) plan is = absurd cc
planned-part c h n user x plan is = refl

-- it stands in the list of its shard
shard-accepted : (m : Lists) (now : ℕ) (ask : Ask) (user : User) (plan : Plan) (place : ℕ) (d : Done) → 0 < length m.parts → is_keyed ask ≡ true → is_some ask.key ≡ true → is_settled m ask ≡ true
    → catalog.user_of m.records.list ask.caller ≡ Some user → first_refusal m.records.list user ask.request ≡ None → plan_for m.records.list (own_list m user ask.request) user ask.request ≡ Some plan → reply_over m now ask ≡ reply.Ok place d → StandsIn (lists_over m now ask) ask (reply.Ok place d)
shard-accepted m now ask user plan place d shards keyed some settled known free planned told =
    let c = m.records.list in
    let n = length m.parts in
    let k = part_of n user ask.request in
    let h = part_list m k in
    let g = planned_going m ask user h plan known free planned in
    let after = user_after c h now ask user in
    let list = same-list c h now ask user plan known free planned in
    let answer = same-answer c h now ask user plan known free planned in
    let said : answer_here h now user plan ask ≡ reply.Ok place d = sym answer ∙ (sym (said_part m now ask user k g) ∙ told) in
    let there = once_law.stands h now user plan ask place d keyed some (goes_other c n ask user k g).0 (plan_meant c h user ask.request plan planned) said in
    let inside : k < n = subst (λ (j : ℕ). j < n) (sym (planned-part c h n user ask.request plan planned)) (mod_below (named_user user ask.request) n shards) in
    let has = within_there m.parts k inside in
    let own : own_list (with_part m k (with_list after)) user ask.request ≡ after = rw (length-set m.parts k (with_list after)) (at_here (slice_set m.parts k (with_list after)) k (with_list after) (set_get m.parts k has.0 (with_list after) has.1)) in
    subst (λ (l : Lists). StandsIn l ask (reply.Ok place d)) (sym (over_part m now ask user k settled g)) (in_shard (record {
      user = user;
      plan = plan;
      known = known;
      free = free;
      planned = subst (λ (l : List Record). plan_for c l user ask.request ≡ Some plan) (sym own) (plan_grown c h after user ask.request plan (grown_part c h now user ask) planned);
      stands = subst (λ (l : List Record). Stands l user ask (reply.Ok place d)) (sym own) (subst (λ (l : List Record). Stands l user ask (reply.Ok place d)) (sym list) there);
    }))

first-read : (p : Option ℕ → Bool) (l : List (Option ℕ)) (b : Bool) → p None ≡ b → list_any is_catalog (up_to_first p (None ∷ l)) ≡ true
first-read p l true is = rw is refl
first-read p l false is = rw is refl

-- a token's request reads the catalogue
pub token_reads : (m : Lists) (ask : Ask) (token : List ℕ) → ask.caller ≡ caller.Token token → reads_catalog m ask ≡ true
token_reads m ask token who = ap (λ (w : Caller). list_any is_catalog (up_to_first (is_in_doubt m) (route m ask w))) who ∙ first-read (is_in_doubt m) (shards_asked m ask) (is_in_doubt m None) refl

-- it stands in the catalogue's list
records-accepted : (m : Lists) (now : ℕ) (ask : Ask) (user : User) (token : List ℕ) (place : ℕ) (d : Done) → ask.caller ≡ caller.Token token → is_keyed ask ≡ true → is_some ask.key ≡ true
    → catalog.user_of m.records.list ask.caller ≡ Some user → asks_catalog ask.request ≡ true → reply_over m now ask ≡ reply.Ok place d → StandsIn (lists_over m now ask) ask (reply.Ok place d)
records-accepted m now ask user token place d who keyed some known of_catalog told =
    let c = m.records.list in
    let r = recorded-by c (lists_of m.parts) now user ask (first_refusal c user ask.request) refl of_catalog known in
    let said : catalog_answer c now user ask ≡ reply.Ok place d = sym r.answer ∙ (sym (said_by m now ask user known) ∙ told) in
    let grown = grown_records c now user ask in
    let list : catalog_after c now user ask ≡ (records_over m now ask).list = sym r.list ∙ sym (ap (λ b. (let h : Held = if b then with_list (catalog_list c now ask) else m.records in h).list) (token_reads m ask token who)) in
    in_records (record {
      user = user;
      known = subst (λ (l : List Record). catalog.user_of l ask.caller ≡ Some user) (sym grown.grown ∙ list) (staying_law.caller c grown.rest ask.caller user known);
      of_catalog = of_catalog;
      stands = subst (λ (l : List Record). StandsInCatalog l user ask (reply.Ok place d)) list (repeating_law.stands c now user ask place d keyed some of_catalog said);
    })

-- ---- by its kind

-- a report has no key
report-keyless : (x : Request) → is_report x ≡ true → is_keyless x ≡ true
report-keyless (request.Report q) is = refl
report-keyless x is = absurd cc

key-none : (key : Option (List ℕ)) → is_some key ≡ true → key ≡ None → ⊥
key-none None some none = absurd cc
key-none (Some key) some none = absurd cc

keyed-goes : (ask : Ask) (b : Bool) → is_report ask.request ≡ b → is_keyed ask ≡ true → is_some ask.key ≡ true → asks_catalog ask.request ≡ false → goes_to_part ask.request ≡ true
keyed-goes ask true is keyed some other = absurd (key-none ask.key some (has_no_key ask (report-keyless ask.request is) keyed))
keyed-goes ask false is keyed some other = rw (other, is) refl

-- a request with a key over settled lists
record IsKeyedOver (m : Lists) (ask : Ask) (user : User) : Type 0 where
  shards : 0 < length m.parts
  keyed : is_keyed ask ≡ true
  some : is_some ask.key ≡ true
  settled : is_settled m ask ≡ true
  known : catalog.user_of m.records.list ask.caller ≡ Some user
  among : refusal_among m.records.list (length m.parts) user ask.request ≡ None

free-over : (m : Lists) (ask : Ask) (user : User) → IsKeyedOver m ask user → first_refusal m.records.list user ask.request ≡ None
free-over m ask user s = free-both (first_refusal m.records.list user ask.request) (missing_shard (length m.parts) ask.request) s.among

plan-by : (m : Lists) (now : ℕ) (ask : Ask) (user : User) (o : Option Plan) (place : ℕ) (d : Done) → IsKeyedOver m ask user → asks_catalog ask.request ≡ false → plan_for m.records.list (own_list m user ask.request) user ask.request ≡ o
    → reply_over m now ask ≡ reply.Ok place d → StandsIn (lists_over m now ask) ask (reply.Ok place d)
plan-by m now ask user None place d s other planned told =
    let c = m.records.list in
    let k = part_of (length m.parts) user ask.request in
    let g : IsGoing c (length m.parts) ask user k = record { goes = keyed-goes ask (is_report ask.request) refl s.keyed s.some other; found = s.known; among = s.among; part = refl } in
    let refused = answered-free c (part_list m k) now user ask (free-over m ask user s) ∙ planless-answer c (part_list m k) now user ask ask.request g.goes (keyed-by ask (is_keyless ask.request) refl s.keyed s.some) planned in
    absurd (not-said _ place d (sym refused ∙ (sym (said_part m now ask user k g) ∙ told)))
plan-by m now ask user (Some plan) place d s other planned told = shard-accepted m now ask user plan place d s.shards s.keyed s.some s.settled s.known (free-over m ask user s) planned told

kind-by : (m : Lists) (now : ℕ) (ask : Ask) (user : User) (b : Bool) (place : ℕ) (d : Done) (token : List ℕ) → IsKeyedOver m ask user → asks_catalog ask.request ≡ b → ask.caller ≡ caller.Token token → reply_over m now ask ≡ reply.Ok place d → StandsIn (lists_over m now ask) ask (reply.Ok place d)
kind-by m now ask user true place d token s kind who told = records-accepted m now ask user token place d who s.keyed s.some s.known kind told
kind-by m now ask user false place d token s kind who told = plan-by m now ask user (plan_for m.records.list (own_list m user ask.request) user ask.request) place d s kind refl told

caller-by : (m : Lists) (now : ℕ) (ask : Ask) (user : User) (who : Caller) (place : ℕ) (d : Done) → IsKeyedOver m ask user → ask.caller ≡ who → reply_over m now ask ≡ reply.Ok place d → StandsIn (lists_over m now ask) ask (reply.Ok place d)
caller-by m now ask user (caller.Token token) place d s who told = kind-by m now ask user (asks_catalog ask.request) place d token s refl who told
caller-by m now ask user caller.Worker place d s who told =
    let worker_is = worker-user m.records.list ask user who s.known in
    let may : may_ask catalog.worker ask.request ≡ true = subst (λ (u : User). may_ask u ask.request ≡ true) worker_is (may-by (may_ask user ask.request) _ (free-both (forbidden user ask.request) (missing_in m.records.list ask.request) (free-over m ask user s))) in
    absurd (key-none ask.key s.some (has_no_key ask (worker-keyless ask.request may) s.keyed))

among-by : (m : Lists) (now : ℕ) (ask : Ask) (user : User) (o : Option Refusal) (place : ℕ) (d : Done) → 0 < length m.parts → is_keyed ask ≡ true → is_some ask.key ≡ true → is_settled m ask ≡ true → catalog.user_of m.records.list ask.caller ≡ Some user
    → refusal_among m.records.list (length m.parts) user ask.request ≡ o → reply_over m now ask ≡ reply.Ok place d → StandsIn (lists_over m now ask) ask (reply.Ok place d)
among-by m now ask user None place d shards keyed some settled known among told = caller-by m now ask user ask.caller place d (record { shards = shards; keyed = keyed; some = some; settled = settled; known = known; among = among }) refl told
among-by m now ask user (Some r) place d shards keyed some settled known among told = absurd (not-said r place d (sym (refused_said m now ask user r known among) ∙ told))

user-by : (m : Lists) (now : ℕ) (ask : Ask) (o : Option User) (place : ℕ) (d : Done) → 0 < length m.parts → is_keyed ask ≡ true → is_some ask.key ≡ true → is_settled m ask ≡ true → catalog.user_of m.records.list ask.caller ≡ o
    → reply_over m now ask ≡ reply.Ok place d → StandsIn (lists_over m now ask) ask (reply.Ok place d)
user-by m now ask None place d shards keyed some settled known told = absurd (not-said refusal.UnknownToken place d (sym (unknown_said m now ask known) ∙ told))
user-by m now ask (Some user) place d shards keyed some settled known told = among-by m now ask user (refusal_among m.records.list (length m.parts) user ask.request) place d shards keyed some settled known refl told

turn-accepted : (m b : Lists) (now : ℕ) (ask : Ask) (r : Reply) (place : ℕ) (d : Done) → 0 < length m.parts → is_keyed ask ≡ true → is_some ask.key ≡ true → Turn m b now ask r → r ≡ reply.Ok place d → StandsIn b ask r
turn-accepted m b now ask r place d shards keyed some (answered l n x settled) told = subst (StandsIn (lists_over l n x) x) (sym told) (user-by l n x (catalog.user_of l.records.list x.caller) place d shards keyed some settled refl told)
turn-accepted m b now ask r place d shards keyed some (put_in_doubt l n x settled puts) told = absurd (not-said refusal.KeepFault place d told)
turn-accepted m b now ask r place d shards keyed some (stayed_in_doubt l n x doubt) told = absurd (not-said refusal.KeepFault place d told)
turn-accepted m b now ask r place d shards keyed some (no_memory l n x) told = absurd (not-said refusal.Memory place d told)

accepted_stands : (a b : Lists) (now : ℕ) (ask : Ask) (r : Reply) (place : ℕ) (d : Done) → 0 < length a.parts → is_keyed ask ≡ true → is_some ask.key ≡ true → Asks a b now ask r → r ≡ reply.Ok place d → StandsIn b ask r
accepted_stands a b now ask r place d shards keyed some asks told =
    let count = (mending_grows a asks.mended asks.mends).count in
    turn-accepted asks.mended b now ask r place d (rw count shards) keyed some asks.turn told

pub asked_once : (failed : Type 0) (a b : Lists) (now : ℕ) (ask : Ask) (r : Reply) → 0 < length a.parts → is_keyed ask ≡ true → Asks a b now ask r → (r ≡ reply.Refused refusal.KeepFault → failed) → AskedOnce failed a b now ask r
asked_once failed a b now ask r shards keyed asks cause = record {
  asks = asks;
  cause = cause;
  stands = λ place d some told. accepted_stands a b now ask r place d shards keyed some asks told;
  stays = λ x told s. stands_grown a b x told (asks_grow a b now ask r asks) s;
  again = λ told s. said_again a b now ask r told keyed asks s;
}

pub acting_law : (failed : Type 0) → ActsOnceInLists failed
acting_law failed = record { once = asked_once failed }
