-- A worker's settling, through the lists of a school: the shard first, and the catalogue where the attempt is there.
use Rattle.std.proofs.Common.{◌≡◌, ℕ, ◌%◌, Bool, true, false, ◌||◌, List, [], ◌∷◌, ◌++◌, Option, Some, None, Result, Ok, Err, MatchResult, length, refl, sym, ap, ◌∙◌, subst, option_map}
use Rattle.std.specs.List.{list_any}
use Rattle.std.specs.Prelude.{is_some, slice_get, slice_set}
use Rattle.std.proofs.lemmas.List.{length-set}
use Rattle.qz_grading.specs.declared.refusal.AttemptId.{AttemptId}
use Rattle.qz_grading.specs.declared.refusal.Refusal.{Refusal}
use Rattle.qz_grading.specs.declared.refusal.Refusal.TheVariants as refusal
use Rattle.qz_grading.specs.declared.refusal.Thing.TheVariants as thing
use Rattle.qz_terms.specs.declared.ask.Ask.{Ask}
use Rattle.qz_terms.specs.declared.plan.Plan.{Plan}
use Rattle.qz_terms.specs.declared.record.Record.{Record}
use Rattle.qz_terms.specs.declared.reply.Reply.{Reply}
use Rattle.qz_terms.specs.declared.reply.Reply.TheVariants as reply
use Rattle.qz_terms.specs.declared.request.Request.TheVariants as request
use Rattle.qz_terms.specs.SchoolAnswer.{part_of, plan_for, user_after, user_answer}
use Rattle.qz_terms.specs.Catalog.{worker}
use Rattle.qz_terms.specs.History as history
use Rattle.qz_terms.specs.Serial.{Asks, Held, Lists, catalog_if, is_started, part_list, parts_asked, part_read, is_report, reads_catalog, route, stays}
use Rattle.qz_keeper.specs.Lists.{IsSettled, OneCall, answered, stayed_in_doubt}
use Rattle.qz_serial.specs.Calls.{LookEnds, ShardAnswers, looked, unlooked, unread}
use Rattle.qz_serial.specs.Once.{AskedOnce}
use Rattle.qz_serial.specs.Paths.{IsGoing, goes_to_part, with_both, with_part}
use Rattle.qz_serial.specs.Workers.{FindsPlan, FindsQuiz, IsWorkers, WorkersSettle}
use Rattle.qz_serial.proofs.Acting.{asked_once}
use Rattle.qz_serial.proofs.Composing.{look_ends, settled_call}
use Rattle.qz_serial.proofs.Joining.{alone_read, before_found, before_read, before_way, both_keep, both_mended, doubted_read, failed_asks, first_found, not-memory, part_asks, part_cause, some-is, wanting_asks}
use Rattle.qz_serial.proofs.Over.{goes_other, part_read_is}
use Rattle.qz_serial.proofs.Seats.{at_here, set_get}
use Rattle.qz_serial.proofs.Workers.{err-is, err-ok, worker_among, worker_found, worker_ways}

-- ---- the way of a settling

going : (a : Lists) (c : List Record) (ask : Ask) (attempt : AttemptId) → IsWorkers a ask (request.Settle attempt) → IsGoing c (length a.parts) ask worker (attempt.user % length a.parts)
going a c ask attempt w = record {
  goes = ap goes_to_part w.request_is;
  found = worker_found c ask w.caller_is;
  among = worker_among c (length a.parts) ask (request.Settle attempt) w.request_is refl refl refl;
  part = ap (part_of (length a.parts) worker) w.request_is;
}

one-asked : (l : Lists) (ask : Ask) (k : ℕ) → is_report ask.request ≡ false → part_read l ask ≡ Some k → parts_asked l ask ≡ k ∷ []
one-asked l ask k other read = rw (other, read) refl

or-none : (b : Bool) → (b || false) ≡ b
or-none true = refl
or-none false = refl

-- the shard with this list, and then the catalogue where the attempt has started there
ways : (a : Lists) (m g h : Held) (ask : Ask) (attempt : AttemptId) → IsWorkers a ask (request.Settle attempt) → slice_get a.parts (attempt.user % length a.parts) ≡ Some g
    → route (with_both a m (attempt.user % length a.parts) h) ask ask.caller ≡ Some (attempt.user % length a.parts) ∷ catalog_if (is_some (history.start h.list attempt))
ways a m g h ask attempt w is =
    let k = attempt.user % length a.parts in
    let l = with_both a m k h in
    let goes = subst (λ (n : ℕ). IsGoing m.list n ask worker k) (sym (length-set a.parts k h)) (going a m.list ask attempt w) in
    let asked = one-asked l ask k (goes_other m.list (length l.parts) ask worker k goes).1 (part_read_is l ask worker k goes) in
    let list = at_here (slice_set a.parts k h) k h (set_get a.parts k g h is) in
    let started : is_started l ask ask.request ≡ is_some (history.start h.list attempt) =
    ap (is_started l ask) w.request_is ∙ ap (λ (ks : List ℕ). list_any (λ j. is_some (history.start (part_list l j) attempt)) ks) asked ∙ or-none (is_some (history.start (part_list l k) attempt)) ∙ ap (λ (i : List Record). is_some (history.start i attempt)) list in
    worker_ways l ask (request.Settle attempt) w.caller_is w.request_is ∙ ap (λ (ks : List ℕ). Rattle.std.specs.Prelude.map (λ j. Some j) ks ++ catalog_if (is_started l ask ask.request)) asked ∙ ap (λ b. Some k ∷ catalog_if b) started

-- ---- where the attempt isn't found

none-started : (o : Option history.Start) → option_map (λ (s : history.Start). s.quiz) o ≡ None → is_some o ≡ false
none-started None is = refl
none-started (Some s) is = absurd cc

some-started : (o : Option history.Start) (q : ℕ) → option_map (λ (s : history.Start). s.quiz) o ≡ Some q → is_some o ≡ true
some-started None q is = absurd cc
some-started (Some s) q is = refl

-- an attempt that isn't there is said to be unknown, and nothing is put
absent-answer : (c h : List Record) (now : ℕ) (ask : Ask) (attempt : AttemptId) → ask.request ≡ request.Settle attempt → history.quiz h attempt ≡ None → (user_answer c h now ask worker ≡ reply.Refused (refusal.Unknown thing.Attempt)) × (user_after c h now ask worker ≡ h)
absent-answer c h now ask attempt is none =
    (rw (is, none) refl, rw (is, none) refl)

quiz-by : (failed : Type 0) (a : Lists) (held mid : Held) (now : ℕ) (ask : Ask) (attempt : AttemptId) (told : Result ℕ Refusal) → IsWorkers a ask (request.Settle attempt) → slice_get a.parts (attempt.user % length a.parts) ≡ Some held
    → LookEnds failed (λ r. Err r) (FindsQuiz attempt) held mid told
    → MatchResult told (λ _. IsSettled held mid × (is_some (history.start mid.list attempt) ≡ true)) (λ r. AskedOnce failed a (with_part a (attempt.user % length a.parts) mid) now ask (reply.Refused r))
quiz-by failed a held mid now ask attempt (Ok q) w is (looked settled says) = (settled, some-started (history.start mid.list attempt) q says)
quiz-by failed a held mid now ask attempt (Ok q) w is (unread why mends doubt same) = absurd (err-ok q refusal.KeepFault same)
quiz-by failed a held mid now ask attempt (Ok q) w is (unlooked mends same) = absurd (err-ok q refusal.Memory same)
quiz-by failed a held mid now ask attempt (Err r) w is (looked settled says) =
    let k = attempt.user % length a.parts in
    let c = a.records.list in
    let l = with_part a k mid in
    let both = absent-answer c mid.list now ask attempt w.request_is says.0 in
    let call : OneCall failed reply.Refused (ShardAnswers c now worker ask) held mid (reply.Refused r) = record { mended = mid; mends = settled.mends; ends = answered settled.no_doubt settled.no_doubt (ap reply.Refused says.1 ∙ sym both.0, sym both.1) } in
    let way = ways a a.records held mid ask attempt w is ∙ ap (λ b. Some k ∷ catalog_if b) (none-started (history.start mid.list attempt) says.0) in
    asked_once failed a l now ask (reply.Refused r) w.askable.shards w.askable.keyed
    (part_asks failed a a.records held mid k now ask worker (reply.Refused r) call (stays a.records) is (going a c ask attempt w) (alone_read l ask k mid way (set_get a.parts k held mid is)) (λ skips. refl))
    (part_cause failed a a.records held mid k now ask worker (reply.Refused r) is (going a c ask attempt w) call)
quiz-by failed a held mid now ask attempt (Err r) w is (unread why mends doubt same) =
    let k = attempt.user % length a.parts in
    let c = a.records.list in
    let l = with_part a k mid in
    let call : OneCall failed reply.Refused (ShardAnswers c now worker ask) held mid (reply.Refused r) = record { mended = mid; mends = mends; ends = stayed_in_doubt why doubt refl (ap reply.Refused (err-is {A = ℕ} r refusal.KeepFault same)) } in
    asked_once failed a l now ask (reply.Refused r) w.askable.shards w.askable.keyed
    (part_asks failed a a.records held mid k now ask worker (reply.Refused r) call (stays a.records) is (going a c ask attempt w)
    (doubted_read l ask k mid (catalog_if (is_some (history.start mid.list attempt))) (ways a a.records held mid ask attempt w is) (set_get a.parts k held mid is) doubt) (λ skips. refl))
    (λ fault. why)
quiz-by failed a held mid now ask attempt (Err r) w is (unlooked mends same) =
    let k = attempt.user % length a.parts in
    let l = with_part a k mid in
    let keeps = both_keep a a.records mid k ask (λ skips. refl) (first_found l ask k (catalog_if (is_some (history.start mid.list attempt))) (ways a a.records held mid ask attempt w is)) in
    asked_once failed a l now ask (reply.Refused r) w.askable.shards w.askable.keyed
    (subst (λ (x : Refusal). Asks a l now ask (reply.Refused x)) (sym (err-is {A = ℕ} r refusal.Memory same)) (wanting_asks a l now ask (both_mended a a.records held mid k (stays a.records) is mends) keeps))
    (λ fault. absurd (not-memory (reply.Refused r) (ap reply.Refused (err-is {A = ℕ} r refusal.Memory same)) fault))

-- ---- where it is

both-ways : (a : Lists) (m g h : Held) (ask : Ask) (attempt : AttemptId) → IsWorkers a ask (request.Settle attempt) → slice_get a.parts (attempt.user % length a.parts) ≡ Some g → is_some (history.start h.list attempt) ≡ true
    → route (with_both a m (attempt.user % length a.parts) h) ask ask.caller ≡ Some (attempt.user % length a.parts) ∷ None ∷ []
both-ways a m g h ask attempt w is there = ways a m g h ask attempt w is ∙ ap (λ b. Some (attempt.user % length a.parts) ∷ catalog_if b) there

read-both : (a : Lists) (m g h : Held) (ask : Ask) (attempt : AttemptId) → IsWorkers a ask (request.Settle attempt) → slice_get a.parts (attempt.user % length a.parts) ≡ Some g → is_some (history.start h.list attempt) ≡ true → h.doubt ≡ None
    → reads_catalog (with_both a m (attempt.user % length a.parts) h) ask ≡ false → m ≡ a.records
read-both a m g h ask attempt w is there clear skips =
    let k = attempt.user % length a.parts in
    let wrong : true ≡ false = sym (before_found (with_both a m k h) ask k h (both-ways a m g h ask attempt w is there) (set_get a.parts k g h is) clear) ∙ skips in
    absurd cc

plan-by : (failed : Type 0) (a : Lists) (held mid mended : Held) (now : ℕ) (ask : Ask) (attempt : AttemptId) (told : Result Plan Refusal) → IsWorkers a ask (request.Settle attempt) → slice_get a.parts (attempt.user % length a.parts) ≡ Some held
    → IsSettled held mid → is_some (history.start mid.list attempt) ≡ true → LookEnds failed (λ r. Err r) (FindsPlan mid.list ask.request) a.records mended told
    → MatchResult told (λ plan. IsSettled a.records mended × (plan_for mended.list mid.list worker ask.request ≡ Some plan)) (λ r. AskedOnce failed a (with_both a mended (attempt.user % length a.parts) mid) now ask (reply.Refused r))
plan-by failed a held mid mended now ask attempt (Ok plan) w is settled there (looked known says) = (known, says)
plan-by failed a held mid mended now ask attempt (Ok plan) w is settled there (unread why mends doubt same) = absurd (err-ok plan refusal.KeepFault same)
plan-by failed a held mid mended now ask attempt (Ok plan) w is settled there (unlooked mends same) = absurd (err-ok plan refusal.Memory same)
plan-by failed a held mid mended now ask attempt (Err r) w is settled there (looked known says) = absurd says
plan-by failed a held mid mended now ask attempt (Err r) w is settled there (unread why mends doubt same) =
    let k = attempt.user % length a.parts in
    let l = with_both a mended k mid in
    let way = both-ways a mended held mid ask attempt w is there in
    let seat = set_get a.parts k held mid is in
    let keeps = both_keep a mended mid k ask (read-both a mended held mid ask attempt w is there settled.no_doubt) (first_found l ask k (None ∷ []) way) in
    asked_once failed a l now ask (reply.Refused r) w.askable.shards w.askable.keyed
    (subst (λ (x : Refusal). Asks a l now ask (reply.Refused x)) (sym (err-is {A = Plan} r refusal.KeepFault same))
    (failed_asks a l now ask (both_mended a mended held mid k mends is settled.mends) keeps (before_way l ask k mid way seat settled.no_doubt ∙ some-is mended.doubt doubt)))
    (λ fault. why)
plan-by failed a held mid mended now ask attempt (Err r) w is settled there (unlooked mends same) =
    let k = attempt.user % length a.parts in
    let l = with_both a mended k mid in
    let way = both-ways a mended held mid ask attempt w is there in
    let keeps = both_keep a mended mid k ask (read-both a mended held mid ask attempt w is there settled.no_doubt) (first_found l ask k (None ∷ []) way) in
    asked_once failed a l now ask (reply.Refused r) w.askable.shards w.askable.keyed
    (subst (λ (x : Refusal). Asks a l now ask (reply.Refused x)) (sym (err-is {A = Plan} r refusal.Memory same)) (wanting_asks a l now ask (both_mended a mended held mid k mends is settled.mends) keeps))
    (λ fault. absurd (not-memory (reply.Refused r) (ap reply.Refused (err-is {A = Plan} r refusal.Memory same)) fault))

settle-path : (failed : Type 0) (a : Lists) (held mid mended new : Held) (now : ℕ) (ask : Ask) (attempt : AttemptId) (told : Reply) → IsWorkers a ask (request.Settle attempt) → slice_get a.parts (attempt.user % length a.parts) ≡ Some held
    → IsSettled held mid → is_some (history.start mid.list attempt) ≡ true → IsSettled a.records mended → OneCall failed reply.Refused (ShardAnswers mended.list now worker ask) mid new told
    → AskedOnce failed a (with_both a mended (attempt.user % length a.parts) new) now ask told
settle-path failed a held mid mended new now ask attempt told w is settled there known call =
    let k = attempt.user % length a.parts in
    let l = with_both a mended k mid in
    let c = mended.list in
    let whole : OneCall failed reply.Refused (ShardAnswers c now worker ask) held new told = record { mended = mid; mends = settled.mends; ends = settled_call failed reply.Refused (ShardAnswers c now worker ask) mid new told settled.no_doubt call } in
    let way = both-ways a mended held mid ask attempt w is there in
    asked_once failed a (with_both a mended k new) now ask told w.askable.shards w.askable.keyed
    (part_asks failed a mended held new k now ask worker told whole known.mends is (going a c ask attempt w) (before_read l ask k mid way (set_get a.parts k held mid is) settled.no_doubt known.no_doubt) (read-both a mended held mid ask attempt w is there settled.no_doubt))
    (part_cause failed a mended held new k now ask worker told is (going a c ask attempt w) whole)

pub settling_law : (failed : Type 0) → WorkersSettle failed
settling_law failed = record {
  quiz = λ a held mid now ask attempt told w is call. quiz-by failed a held mid now ask attempt told w is (look_ends failed (λ r. Err r) (FindsQuiz attempt) held mid told call);
  plan = λ a held mid mended now ask attempt told w is settled there call. plan-by failed a held mid mended now ask attempt told w is settled there (look_ends failed (λ r. Err r) (FindsPlan mid.list ask.request) a.records mended told call);
  settle = settle-path failed;
}
