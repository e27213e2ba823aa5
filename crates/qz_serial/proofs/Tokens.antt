-- The requests of users with a token, through the lists of a school.
use Rattle.std.proofs.Common.{◌≡◌, ℕ, Bool, true, false, not, ◌||◌, List, [], ◌∷◌, Option, Some, None, Result, Ok, Err, MatchResult, length, refl, sym, ap, ◌∙◌, subst}
use Rattle.std.specs.List.{list_any}
use Rattle.std.specs.Prelude.{if◌then◌else◌, is_some, slice_get}
use Rattle.std.proofs.lemmas.List.{length-set}
use Rattle.qz_grading.specs.declared.refusal.Refusal.{Refusal}
use Rattle.qz_grading.specs.declared.refusal.Refusal.TheVariants as refusal
use Rattle.qz_terms.specs.declared.ask.Ask.{Ask}
use Rattle.qz_terms.specs.declared.people.Caller.{Caller}
use Rattle.qz_terms.specs.declared.people.Caller.TheVariants as caller
use Rattle.qz_terms.specs.declared.people.User.{User}
use Rattle.qz_terms.specs.declared.record.Record.{Record}
use Rattle.qz_terms.specs.declared.reply.Reply.{Reply}
use Rattle.qz_terms.specs.declared.reply.Reply.TheVariants as reply
use Rattle.qz_terms.specs.declared.request.Request.{Request}
use Rattle.qz_terms.specs.declared.request.Request.TheVariants as request
use Rattle.qz_terms.specs.CatalogAnswer.{asks_catalog}
use Rattle.qz_terms.specs.SchoolAnswer.{asked_part, catalog_list, first_refusal, refusal_among}
use Rattle.qz_terms.specs.Catalog.{user_of}
use Rattle.qz_terms.specs.Serial.{Asks, Held, Lists, goes_on, is_in_doubt, is_report, is_settled, lists_of, part_read, reads_catalog, reply_over, route, shards_asked}
use Rattle.qz_keeper.specs.Lists.{CallEnds, IsSettled, OneCall}
use Rattle.qz_serial.specs.Calls.{CatalogAnswers, LookEnds, ShardAnswers, looked, unlooked, unread}
use Rattle.qz_serial.specs.Once.{AskedOnce}
use Rattle.qz_serial.specs.Paths.{FindsUser, IsAskable, IsGoing, IsKnown, TokensAsk, with_both, with_records}
use Rattle.qz_serial.specs.Standing.{is_keep_fault}
use Rattle.qz_serial.proofs.Acting.{asked_once, no_part, token_reads, token_route}
use Rattle.qz_serial.proofs.Answering.{recorded-by}
use Rattle.qz_serial.proofs.Composing.{look_ends, settled_call}
use Rattle.qz_serial.proofs.Growing.{own_reply}
use Rattle.qz_serial.proofs.Joining.{IsRead, alone_reads, call_cause, failed_asks, part_asks, part_cause, behind_read, not-memory, not-own, records_ask, records_keep, records_mended, still_asks, wanting_asks}
use Rattle.qz_serial.proofs.Over.{goes_other, part_read_is, records_kept, refused_said, said_by, unknown_said}
use Rattle.qz_serial.proofs.Seats.{set_get}
use Rattle.qz_serial.proofs.Still.{IsPartClear, PutsNothing}

-- ---- the catalogue alone is read

none-asked : (m : Lists) (ask : Ask) (token : List ℕ) → ask.caller ≡ caller.Token token → shards_asked m ask ≡ [] → route m ask ask.caller ≡ None ∷ []
none-asked m ask token who none = ap (route m ask) who ∙ ap (λ (l : List (Option ℕ)). None ∷ l) none

catalog-no_report : (x : Request) → asks_catalog x ≡ true → is_report x ≡ false
catalog-no_report (request.Report q) of_catalog = absurd cc
catalog-no_report x of_catalog = refl

pub no_shard : (m : Lists) (ask : Ask) (user : User) → asks_catalog ask.request ≡ true → user_of m.records.list ask.caller ≡ Some user → shards_asked m ask ≡ []
no_shard m ask user of_catalog found = rw (catalog-no_report ask.request of_catalog, no_part m ask user of_catalog found) refl

if-none : (b : Bool) (o : Option ℕ) → b ≡ false → (if b then o else None) ≡ None
if-none true o is = absurd cc
if-none false o is = refl

-- where it doesn't go on to the shards, none is asked
pub ended_part : (m : Lists) (ask : Ask) → goes_on m ask ≡ false → part_read m ask ≡ None
ended_part m ask ended = if-none (goes_on m ask) (asked_part m.records.list (length m.parts) ask) ended

pub ended_shards : (m : Lists) (ask : Ask) (b : Bool) → is_report ask.request ≡ b → goes_on m ask ≡ false → shards_asked m ask ≡ []
ended_shards m ask true is ended = rw (is, ended) refl
ended_shards m ask false is ended = rw (is, ended_part m ask ended) refl

pub refused_ends : (m : Lists) (ask : Ask) (user : User) (r : Refusal) → user_of m.records.list ask.caller ≡ Some user → refusal_among m.records.list (length m.parts) user ask.request ≡ Some r → goes_on m ask ≡ false
refused_ends m ask user r found refused = rw (found, refused) refl

pub unknown_ends : (m : Lists) (ask : Ask) → user_of m.records.list ask.caller ≡ None → goes_on m ask ≡ false
unknown_ends m ask none = rw none refl

none-some : (o : Option ℕ) (k : ℕ) → o ≡ None → o ≡ Some k → ⊥
none-some o k none some = cc

pub ended_nothing : (m : Lists) (now : ℕ) (ask : Ask) → goes_on m ask ≡ false → catalog_list m.records.list now ask ≡ m.records.list → PutsNothing m now ask
ended_nothing m now ask ended kept = record { records = kept; part = λ k read. absurd (none-some (part_read m ask) k (ended_part m ask ended) read) }

pub ended_clear : (m : Lists) (ask : Ask) → goes_on m ask ≡ false → IsPartClear m ask
ended_clear m ask ended k read = absurd (none-some (part_read m ask) k (ended_part m ask ended) read)

token-keeps : (a : Lists) (m : Held) (ask : Ask) (token : List ℕ) → ask.caller ≡ caller.Token token → reads_catalog (with_records a m) ask ≡ false → m ≡ a.records
token-keeps a m ask token who skips = let wrong : true ≡ false = sym (token_reads (with_records a m) ask token who) ∙ skips in absurd cc

-- ---- the user of a token

ended-asks : (a : Lists) (m : Held) (now : ℕ) (ask : Ask) (token : List ℕ) (r : Refusal) → ask.caller ≡ caller.Token token → IsSettled a.records m → goes_on (with_records a m) ask ≡ false → catalog_list m.list now ask ≡ m.list → reply_over (with_records a m) now ask ≡ reply.Refused r
    → Asks a (with_records a m) now ask (reply.Refused r)
ended-asks a m now ask token r who settled ended kept said =
    let l = with_records a m in
    let reads = alone_reads a m ask (none-asked l ask token who (ended_shards l ask (is_report ask.request) refl ended)) in
    still_asks a l now ask (reply.Refused r) (records_mended a m settled.mends) (records_keep a m ask (token-keeps a m ask token who)) (reads.settled settled.no_doubt) (ended_clear l ask ended) (ended_nothing l now ask ended kept) said

unknown-kept : (c : List Record) (now : ℕ) (ask : Ask) → user_of c ask.caller ≡ None → catalog_list c now ask ≡ c
unknown-kept c now ask none = rw none refl

-- a catalogue that stays in doubt is the whole of what is read
token-doubt : (m : Lists) (ask : Ask) (token : List ℕ) → ask.caller ≡ caller.Token token → is_some m.records.doubt ≡ true → is_settled m ask ≡ false
token-doubt m ask token who doubt =
    let ways : is_settled m ask ≡ not (is_some m.records.doubt || list_any (is_in_doubt m) (shards_asked m ask)) = ap (λ (w : Caller). not (list_any (is_in_doubt m) (route m ask w))) who in
    ways ∙ rw doubt refl

not-own_user : (r : Refusal) → r ≡ refusal.UnknownToken → reply.Refused r ≡ reply.Refused refusal.KeepFault → ⊥
not-own_user r is fault = not-own (reply.Refused r) (ap (λ (x : Refusal). is_keep_fault (reply.Refused x)) is) fault

err-ok : (user : User) (r : Refusal) → ◌≡◌ {A = Result User Refusal} (Ok user) (Err r) → ⊥
err-ok user r same = cc

err-is : (r s : Refusal) → ◌≡◌ {A = Result User Refusal} (Err r) (Err s) → r ≡ s
err-is r s same = cc

user-by : (failed : Type 0) (a : Lists) (m : Held) (now : ℕ) (ask : Ask) (token : List ℕ) (told : Result User Refusal) → IsAskable a ask → ask.caller ≡ caller.Token token
    → LookEnds failed (λ r. Err r) (FindsUser token) a.records m told → MatchResult told (IsKnown a m ask) (λ r. AskedOnce failed a (with_records a m) now ask (reply.Refused r))
user-by failed a m now ask token (Ok user) askable who (looked settled says) = record { token = token; caller_is = who; settled = settled; found = ap (user_of m.list) who ∙ says }
user-by failed a m now ask token (Ok user) askable who (unread why mends doubt is) = absurd (err-ok user refusal.KeepFault is)
user-by failed a m now ask token (Ok user) askable who (unlooked mends is) = absurd (err-ok user refusal.Memory is)
user-by failed a m now ask token (Err r) askable who (looked settled says) =
    let l = with_records a m in
    let none : user_of m.list ask.caller ≡ None = ap (user_of m.list) who ∙ says.1 in
    asked_once failed a l now ask (reply.Refused r) askable.shards askable.keyed
    (ended-asks a m now ask token r who settled (unknown_ends l ask none) (unknown-kept m.list now ask none) (unknown_said l now ask none ∙ ap reply.Refused (sym says.0)))
    (λ fault. absurd (not-own_user r says.0 fault))
user-by failed a m now ask token (Err r) askable who (unread why mends doubt is) =
    let l = with_records a m in
    asked_once failed a l now ask (reply.Refused r) askable.shards askable.keyed
    (subst (λ (x : Refusal). Asks a l now ask (reply.Refused x)) (sym (err-is r refusal.KeepFault is)) (failed_asks a l now ask (records_mended a m mends) (records_keep a m ask (token-keeps a m ask token who)) (token-doubt l ask token who doubt)))
    (λ fault. why)
user-by failed a m now ask token (Err r) askable who (unlooked mends is) =
    let l = with_records a m in
    asked_once failed a l now ask (reply.Refused r) askable.shards askable.keyed
    (subst (λ (x : Refusal). Asks a l now ask (reply.Refused x)) (sym (err-is r refusal.Memory is)) (wanting_asks a l now ask (records_mended a m mends) (records_keep a m ask (token-keeps a m ask token who))))
    (λ fault. absurd (not-memory (reply.Refused r) (ap reply.Refused (err-is r refusal.Memory is)) fault))

-- ---- a request to the catalogue

pub own_records : (a : Lists) (c : List Record) (now : ℕ) (ask : Ask) (user : User) (told : Reply) (g : List Record) → asks_catalog ask.request ≡ true → user_of c ask.caller ≡ Some user → CatalogAnswers now user ask c told g → is_keep_fault told ≡ false
own_records a c now ask user told g of_catalog found both =
    let l = with_records a (Rattle.qz_terms.specs.Serial.with_list c) in
    let r = recorded-by c (lists_of a.parts) now user ask (first_refusal c user ask.request) refl of_catalog found in
    own_reply l now ask told (said_by l now ask user found ∙ r.answer ∙ sym both.0)

records-asks : (failed : Type 0) (a : Lists) (m new : Held) (now : ℕ) (ask : Ask) (user : User) (told : Reply) → IsAskable a ask → IsKnown a m ask user → asks_catalog ask.request ≡ true
    → CallEnds failed reply.Refused (CatalogAnswers now user ask) m new told → (told ≡ reply.Refused refusal.KeepFault → failed) → AskedOnce failed a (with_records a new) now ask told
records-asks failed a m new now ask user told askable known of_catalog ends cause =
    let l = with_records a m in
    let reads = alone_reads a m ask (none-asked l ask known.token known.caller_is (no_shard l ask user of_catalog known.found)) in
    asked_once failed a (with_records a new) now ask told askable.shards askable.keyed (records_ask failed a m new now ask user told known.settled.mends reads of_catalog known.found ends) cause

records-path : (failed : Type 0) (a : Lists) (m new : Held) (now : ℕ) (ask : Ask) (user : User) (told : Reply) → IsAskable a ask → IsKnown a m ask user → asks_catalog ask.request ≡ true
    → OneCall failed reply.Refused (CatalogAnswers now user ask) m new told → AskedOnce failed a (with_records a new) now ask told
records-path failed a m new now ask user told askable known of_catalog call =
    let ends = settled_call failed reply.Refused (CatalogAnswers now user ask) m new told known.settled.no_doubt call in
    records-asks failed a m new now ask user told askable known of_catalog ends (call_cause failed (CatalogAnswers now user ask) m new told (λ g is. own_records a m.list now ask user told g of_catalog known.found is) ends)

-- ---- what is refused, and where memory was wanting

pub refused_own : (m : Lists) (now : ℕ) (ask : Ask) (user : User) (r : Refusal) → user_of m.records.list ask.caller ≡ Some user → refusal_among m.records.list (length m.parts) user ask.request ≡ Some r → reply.Refused r ≡ reply.Refused refusal.KeepFault → ⊥
refused_own m now ask user r found refused fault = not-own (reply.Refused r) (own_reply m now ask (reply.Refused r) (refused_said m now ask user r found refused)) fault

refused-path : (failed : Type 0) (a : Lists) (m : Held) (now : ℕ) (ask : Ask) (user : User) (r : Refusal) → IsAskable a ask → IsKnown a m ask user → asks_catalog ask.request ≡ false
    → refusal_among m.list (length a.parts) user ask.request ≡ Some r → AskedOnce failed a (with_records a m) now ask (reply.Refused r)
refused-path failed a m now ask user r askable known other refused =
    let l = with_records a m in
    asked_once failed a l now ask (reply.Refused r) askable.shards askable.keyed
    (ended-asks a m now ask known.token r known.caller_is known.settled (refused_ends l ask user r known.found refused) (records_kept m.list now ask other) (refused_said l now ask user r known.found refused))
    (λ fault. absurd (refused_own l now ask user r known.found refused fault))

wanting-path : (failed : Type 0) (a : Lists) (m : Held) (now : ℕ) (ask : Ask) (user : User) → IsAskable a ask → IsKnown a m ask user → AskedOnce failed a (with_records a m) now ask (reply.Refused refusal.Memory)
wanting-path failed a m now ask user askable known =
    asked_once failed a (with_records a m) now ask (reply.Refused refusal.Memory) askable.shards askable.keyed
    (wanting_asks a (with_records a m) now ask (records_mended a m known.settled.mends) (records_keep a m ask (token-keeps a m ask known.token known.caller_is)))
    (λ fault. absurd (not-memory (reply.Refused refusal.Memory) refl fault))

-- ---- a request to a shard

token-read : (a : Lists) (m g h : Held) (k : ℕ) (ask : Ask) (user : User) → IsKnown a m ask user → IsGoing m.list (length a.parts) ask user k → slice_get a.parts k ≡ Some g → IsRead (with_both a m k h) ask k h
token-read a m g h k ask user known going is =
    let l = with_both a m k h in
    let there = subst (λ (n : ℕ). IsGoing m.list n ask user k) (sym (length-set a.parts k h)) going in
    let ways = token_route l ask known.token k known.caller_is (goes_other m.list (length a.parts) ask user k going).1 (part_read_is l ask user k there) in
    behind_read l ask k h ways (ap is_some known.settled.no_doubt) (set_get a.parts k g h is)

shard-path : (failed : Type 0) (a : Lists) (m held new : Held) (k now : ℕ) (ask : Ask) (user : User) (told : Reply) → IsAskable a ask → IsKnown a m ask user → IsGoing m.list (length a.parts) ask user k
    → slice_get a.parts k ≡ Some held → OneCall failed reply.Refused (ShardAnswers m.list now user ask) held new told → AskedOnce failed a (with_both a m k new) now ask told
shard-path failed a m held new k now ask user told askable known going is call =
    asked_once failed a (with_both a m k new) now ask told askable.shards askable.keyed
    (part_asks failed a m held new k now ask user told call known.settled.mends is going (token-read a m held call.mended k ask user known going is)
    (λ skips. let wrong : true ≡ false = sym (token_reads (with_both a m k call.mended) ask known.token known.caller_is) ∙ skips in absurd cc))
    (part_cause failed a m held new k now ask user told is going call)

pub tokens_law : (failed : Type 0) → TokensAsk failed
tokens_law failed = record {
  user = λ a m now ask token told askable who call. user-by failed a m now ask token told askable who (look_ends failed (λ r. Err r) (FindsUser token) a.records m told call);
  records = records-path failed;
  refused = refused-path failed;
  wanting = wanting-path failed;
  shard = shard-path failed;
}
