-- How the requests of users with a token come out, by what the turns at single lists came to.
use Rattle.std.proofs.Common.{◌≡◌, ◌⊎◌, inl, inr, ℕ, ◌<◌, true, false, List, Some, None, Result, Ok, Err, length, refl, sym, ap, ◌∙◌, subst}
use Rattle.std.specs.Prelude.{is_some, slice_get, slice_set}
use Rattle.std.proofs.lemmas.List.{length-set}
use mathlib.Core.List.{IsPrefix}
use Rattle.qz_catalog.specs.Keeping as records
use Rattle.qz_catalog_turns.specs.declared.replied.OwnRecord.TheVariants as own
use Rattle.qz_catalog_turns.specs.declared.replied.Replied.{Replied}
use Rattle.qz_catalog_turns.specs.Owning.{Leaves, TurnReplies, absent}
use Rattle.qz_catalog_turns.specs.Turning.{Fails, TurnCalls, held_of}
use Rattle.qz_grading.specs.declared.refusal.Refusal.{Refusal}
use Rattle.qz_grading.specs.declared.refusal.Refusal.TheVariants as refusal
use Rattle.qz_keeper.specs.Lists.{CallEnds, IsSettled, Looks, OneCall, answered, no_memory, put_in_doubt, stayed_in_doubt}
use Rattle.qz_serial.specs.Calls.{CatalogAnswers, LookEnds, ShardAnswers, looked, unlooked, unread}
use Rattle.qz_serial.specs.Once.{AskedOnce}
use Rattle.qz_serial.specs.Paths.{FindsUser, IsAskable, IsGoing, IsKnown, goes_to_part}
use Rattle.qz_serial.proofs.Composing.{calls_mean, looks_are_calls}
use Rattle.qz_serial.proofs.Longer.{staying_law}
use Rattle.qz_serial.proofs.Seats.{mended_grows, set_get, set_twice}
use Rattle.qz_serial.proofs.Tokens.{tokens_law}
use Rattle.qz_serial.proofs.Workers.{err-is}
use Rattle.qz_school.specs.Answering.{MayBeAsked}
use Rattle.qz_school.proofs.Missing.{forbidden_first}
use Rattle.qz_terms.specs.declared.ask.Ask.{Ask}
use Rattle.qz_terms.specs.declared.people.Caller.{Caller}
use Rattle.qz_terms.specs.declared.people.Caller.TheVariants as caller
use Rattle.qz_terms.specs.declared.people.User.{User}
use Rattle.qz_terms.specs.declared.record.Record.{Record}
use Rattle.qz_terms.specs.declared.reply.Reply.{Reply}
use Rattle.qz_terms.specs.declared.reply.Reply.TheVariants as reply
use Rattle.qz_terms.specs.declared.request.Request.{Request}
use Rattle.qz_terms.specs.Catalog.{user_of}
use Rattle.qz_terms.specs.CatalogAnswer.{asks_catalog}
use Rattle.qz_terms.specs.Cause.{forbidden, missing_shard}
use Rattle.qz_terms.specs.Legal.{IsLegalCatalog}
use Rattle.qz_terms.specs.SchoolAnswer.{first_refusal, part_of, refusal_among}
use Rattle.qz_terms.specs.Serial.{Held, Mended, stays}
use Rattle.qz_turn.specs.declared.view.Tale.{Tale}
use Rattle.qz_visit.specs.Tokens.{IsKnownTo}
use Rattle.qz_visit.specs.Visits.{IsFoundBy, TookTurn, Visited, at_part, refusing}
use Rattle.qz_visit.specs.Ways as way
use Rattle.qz_visit.specs.Ways.{Answered, CameTo, Part, Seen, refused_with}
use Rattle.qz_visit.proofs.Owning.{as_seen, call_again, ends_again, ends_mend, found_mended, found_settled, leaves_grow, look_again, with_held}
use Rattle.qz_visit.proofs.Passing.{Either, GoesThere, asked_mean, by_catalog, count_helds, found_looked, found_rested, goes_other, goes_there, held_there, helds, lists, refused_mute, refused_there, seats, took_sees, took_turned, turn_speaks, visited_both, visited_records, visited_still}
use Rattle.qz_shard_turns.proofs.Tying.{looked-self}

-- ---- what is asked

pub askable : (h : Held) (hs : List Held) (n now : ℕ) (ask : Ask) → 0 < n → length hs ≡ n → MayBeAsked ask now → IsAskable (lists h hs) ask
askable h hs n now ask some long may = record { shards = rw long some; keyed = may.keyed }

pub count_set : (ps : List Part) (k : ℕ) (h : Held) → length (slice_set (helds ps) k h) ≡ length ps
count_set ps k h = length-set (helds ps) k h ∙ count_helds ps

pub user_on : (c d : List Record) (who : Caller) (user : User) → IsPrefix c d → user_of c who ≡ Some user → user_of d who ≡ Some user
user_on c d who user p found = subst (λ (l : List Record). user_of l who ≡ Some user) p.1 (staying_law.caller c p.0 who user found)

-- ---- calls that may have failed

-- A call is answered over a list of which none is in doubt; or its keeper failed, or memory was wanting.
pub data Split {A : Type 0} (failed : Type 0) (refused : Refusal → A) (Answers : List Record → A → List Record → Type 0) (old new : Held) (told : A) : Type 0 where
  whole : (m : Held) → IsSettled old m → OneCall failed refused Answers m new told → Split failed refused Answers old new told
  lost : (r : Refusal) → LookEnds failed refused (λ _ _. ⊥) old new (refused r) → told ≡ refused r → Split failed refused Answers old new told

split-ends : {A : Type 0} (failed : Type 0) (refused : Refusal → A) (Answers : List Record → A → List Record → Type 0) (old m new : Held) (told : A) → Mended old m → CallEnds failed refused Answers m new told → Split failed refused Answers old new told
split-ends failed refused Answers old m new told mends (answered before after says) = whole m (record { mends = mends; no_doubt = before }) (record { mended = m; mends = stays m; ends = answered before after says })
split-ends failed refused Answers old m new told mends (put_in_doubt why answer r before says is said) = whole m (record { mends = mends; no_doubt = before }) (record { mended = m; mends = stays m; ends = put_in_doubt why answer r before says is said })
split-ends failed refused Answers old m new told mends (stayed_in_doubt why some is said) =
    lost refusal.KeepFault (unread why (subst (Mended old) (sym is) mends) (subst (λ (k : Held). is_some k.doubt ≡ true) (sym is) some) refl) said
split-ends failed refused Answers old m new told mends (no_memory is said) = lost refusal.Memory (unlooked (subst (Mended old) (sym is) mends) refl) said

pub split : {A : Type 0} (failed : Type 0) (refused : Refusal → A) (Answers : List Record → A → List Record → Type 0) (old new : Held) (told : A) → OneCall failed refused Answers old new told → Split failed refused Answers old new told
split failed refused Answers old new told call = split-ends failed refused Answers old call.mended new told call.mends call.ends

-- of another kind of answer
pub lost_as : {A B : Type 0} (failed : Type 0) (refused : Refusal → A) (also : Refusal → B) (old new : Held) (r : Refusal) → ((x : Refusal) → refused r ≡ refused x → r ≡ x) → LookEnds failed refused (λ _ _. ⊥) old new (refused r) → LookEnds failed also (λ _ _. ⊥) old new (also r)
lost_as failed refused also old new r same (looked settled says) = absurd says
lost_as failed refused also old new r same (unread why mends doubt is) = unread why mends doubt (ap also (same refusal.KeepFault is))
lost_as failed refused also old new r same (unlooked mends is) = unlooked mends (ap also (same refusal.Memory is))

pub reply_is : (r x : Refusal) → reply.Refused r ≡ reply.Refused x → r ≡ x
reply_is r x is = cc

-- a look that told nothing
pub untold_split : {A : Type 0} (failed : Type 0) (Says : List Record → Result A Refusal → Type 0) (old new : Held) (r : Refusal) → LookEnds failed (λ r. Err r) Says old new (Err r)
    → (IsSettled old new × Says new.list (Err r)) ⊎ LookEnds failed (λ r. Err r) (λ (_ : List Record) (_ : Result (Unit {0}) Refusal). ⊥) old new (Err r)
untold_split failed Says old new r (looked settled says) = inl (settled, says)
untold_split failed Says old new r (unread why mends doubt is) = inr (unread why mends doubt (ap (λ (z : Refusal). let e : Result (Unit {0}) Refusal = Err z in e) (err-is r refusal.KeepFault is)))
untold_split failed Says old new r (unlooked mends is) = inr (unlooked mends (ap (λ (z : Refusal). let e : Result (Unit {0}) Refusal = Err z in e) (err-is r refusal.Memory is)))

-- a look that told nothing, from the mended list on
pub lost_mend : (failed : Type 0) (old new : Held) (r : Refusal) → LookEnds failed (λ r. Err r) (λ (_ : List Record) (_ : Result (Unit {0}) Refusal). ⊥) old new (Err r) → Mended old new
lost_mend failed old new r ends = ends_mend failed (λ r. Err r) (λ (_ : List Record) (_ : Result (Unit {0}) Refusal). ⊥) old new (Err r) ends

pub lost_again : (failed : Type 0) (old new : Held) (r : Refusal) → LookEnds failed (λ r. Err r) (λ (_ : List Record) (_ : Result (Unit {0}) Refusal). ⊥) old new (Err r) → LookEnds failed (λ r. Err r) (λ (_ : List Record) (_ : Result (Unit {0}) Refusal). ⊥) new new (Err r)
lost_again failed old new r ends = ends_again failed (λ r. Err r) (λ (_ : List Record) (_ : Result (Unit {0}) Refusal). ⊥) old new (Err r) ends

-- ---- the catalogue

lost-token : (failed : Type 0) (h m : Held) (hs : List Held) (now : ℕ) (ask : Ask) (token : List ℕ) (r : Refusal) → IsAskable (lists h hs) ask → ask.caller ≡ caller.Token token
    → LookEnds failed (λ r. Err r) (λ (_ : List Record) (_ : Result (Unit {0}) Refusal). ⊥) h m (Err r) → AskedOnce failed (lists h hs) (lists m hs) now ask (reply.Refused r)
lost-token failed h m hs now ask token r can by ends =
    let other = lost_as {A = Result (Unit {0}) Refusal} {B = Result User Refusal} failed (λ r. Err r) (λ r. Err r) h m r (λ x is. err-is r x is) ends in
    (tokens_law failed).user (lists h hs) m now ask token (Err r) can by ((looks_are_calls failed (λ r. Err r) (λ (_ : List Record) (_ : Result User Refusal). ⊥) (λ r. Err r) (Looks (FindsUser token))).alone h m (Err r) (Err r) other (λ no. absurd no) (λ x is. is))

-- it didn't tell whose the token is
pub user_untold : (so sn : Seen) (ps : List Part) (now : ℕ) (ask : Ask) (token : List ℕ) (r : Refusal) → 0 < length ps → MayBeAsked ask now → ask.caller ≡ caller.Token token
    → TurnCalls IsLegalCatalog (λ r. Err r) (Looks (records.TellsUser token)) so sn (Err r) → Visited (seats so ps) (seats sn ps) now ask (refusing r)
user_untold so sn ps now ask token r some may by t =
    let failed = Fails sn.found sn.seen in
    visited_records so sn ps (as_seen sn) now ask (refused_with r) (refused_there ask.request r) (found_looked IsLegalCatalog (λ r. Err r) (records.TellsUser token) so sn (Err r) t) (absent (held_of sn.seen))
    ((tokens_law failed).user (lists (held_of sn.seen) (helds ps)) (held_of sn.seen) now ask token (Err r) (askable (held_of sn.seen) (helds ps) (length ps) now ask some (count_helds ps) may) by
    (look_again failed (λ r. Err r) (records.TellsUser token) (held_of sn.found) (held_of sn.seen) (Err r) t.calls.call))

-- it did
pub user_known : (so sn : Seen) (ps : List Part) (now : ℕ) (ask : Ask) (token : List ℕ) (user : User) → 0 < length ps → MayBeAsked ask now → ask.caller ≡ caller.Token token
    → TurnCalls IsLegalCatalog (λ r. Err r) (Looks (records.TellsUser token)) so sn (Ok user) → IsKnownTo sn ask user
user_known so sn ps now ask token user some may by t =
    let known = (tokens_law (Fails sn.found sn.seen)).user (lists (held_of sn.found) (helds ps)) (held_of sn.seen) now ask token (Ok user) (askable (held_of sn.found) (helds ps) (length ps) now ask some (count_helds ps) may) by t.calls.call in
    record {
      token = token;
      caller_is = by;
      known = record { found = known.found; legal = t.calls.seen_may.without; no_doubt = known.settled.no_doubt };
    }

pub still_known : (s : Seen) (hs : List Held) (ask : Ask) (user : User) → IsKnownTo s ask user → IsKnown (lists (held_of s.seen) hs) (held_of s.seen) ask user
still_known s hs ask user k = record { token = k.token; caller_is = k.caller_is; settled = record { mends = stays (held_of s.seen); no_doubt = k.known.no_doubt }; found = k.known.found }

records-split : (so sn : Seen) (ps : List Part) (now : ℕ) (ask : Ask) (user : User) (told : Reply) → 0 < length ps → MayBeAsked ask now → IsKnownTo so ask user → asks_catalog ask.request ≡ true → IsPrefix so.seen.list sn.found.list
    → Split (Fails sn.found sn.seen) reply.Refused (CatalogAnswers now user ask) (held_of sn.found) (held_of sn.seen) told
    → AskedOnce (Fails sn.found sn.seen) (lists (held_of sn.found) (helds ps)) (lists (held_of sn.seen) (helds ps)) now ask told
records-split so sn ps now ask user told some may k of_catalog p (whole m settled call) =
    let a = lists (held_of sn.found) (helds ps) in
    let on = user_on so.seen.list sn.found.list ask.caller user p k.known.found in
    let grown = mended_grows (held_of sn.found) m settled.mends in
    let found = subst (λ (l : List Record). user_of l ask.caller ≡ Some user) (sym grown.grown) (staying_law.caller sn.found.list grown.rest ask.caller user on) in
    (tokens_law (Fails sn.found sn.seen)).records a m (held_of sn.seen) now ask user told (askable (held_of sn.found) (helds ps) (length ps) now ask some (count_helds ps) may)
    (record { token = k.token; caller_is = k.caller_is; settled = settled; found = found }) of_catalog call
records-split so sn ps now ask user told some may k of_catalog p (lost r ends is) =
    let failed = Fails sn.found sn.seen in
    subst (λ (t : Reply). AskedOnce failed (lists (held_of sn.found) (helds ps)) (lists (held_of sn.seen) (helds ps)) now ask t) (sym is)
    (lost-token failed (held_of sn.found) (held_of sn.seen) (helds ps) now ask k.token r (askable (held_of sn.found) (helds ps) (length ps) now ask some (count_helds ps) may) k.caller_is
    (lost_as failed reply.Refused (λ r. Err r) (held_of sn.found) (held_of sn.seen) r (reply_is r) ends))

-- what goes to the catalogue it answered
pub records_visited : (so sn : Seen) (ps : List Part) (now : ℕ) (ask : Ask) (user : User) (told : Replied) → 0 < length ps → MayBeAsked ask now → IsKnownTo so ask user → asks_catalog ask.request ≡ true
    → TurnReplies IsLegalCatalog reply.Refused (records.IsTold now user ask) so sn told.reply told.own → Visited (seats so ps) (seats sn ps) now ask (by_catalog told)
records_visited so sn ps now ask user told some may k of_catalog t =
    let failed = Fails sn.found sn.seen in
    let m = t.turn.calls.call.mended in
    let says = records.IsTold now user ask in
    let whole = call_again failed reply.Refused says (held_of sn.found) (held_of sn.seen) told.reply t.turn.calls.call in
    let call = (calls_mean failed failed reply.Refused says (CatalogAnswers now user ask)).each m (held_of sn.seen) told.reply (λ why. why) (λ h x g is. (is.reply, is.list)) whole in
    let found = found_mended so sn m (took_turned IsLegalCatalog reply.Refused says so sn told.reply t.turn) t.turn.calls.call.mends (leaves_grow m (held_of sn.seen) told.own t.leaves) in
    visited_records so sn ps (with_held sn m) now ask told (λ at d is. of_catalog) found t.leaves
    (records-split so (record sn { found = with_held sn m }) ps now ask user told.reply some may k of_catalog found.begins.begins (split failed reply.Refused (CatalogAnswers now user ask) m (held_of sn.seen) told.reply call))

-- ---- a refusal before another turn is taken

among-first : (c : List Record) (n : ℕ) (user : User) (x : Request) (r : Refusal) → first_refusal c user x ≡ Some r → refusal_among c n user x ≡ Some r
among-first c n user x r first = rw first refl

pub among_none : (c : List Record) (n : ℕ) (user : User) (x : Request) → first_refusal c user x ≡ None → missing_shard n x ≡ None → refusal_among c n user x ≡ None
among_none c n user x first there = rw (first, there) refl

pub among_visited : (s : Seen) (ps : List Part) (now : ℕ) (ask : Ask) (user : User) (r : Refusal) → 0 < length ps → MayBeAsked ask now → IsKnownTo s ask user → asks_catalog ask.request ≡ false → refusal_among s.seen.list (length ps) user ask.request ≡ Some r
    → Visited (seats s ps) (seats s ps) now ask (refusing r)
among_visited s ps now ask user r some may k other among =
    visited_still s ps now ask r
    ((tokens_law ⊥).refused (lists (held_of s.seen) (helds ps)) (held_of s.seen) now ask user r (askable (held_of s.seen) (helds ps) (length ps) now ask some (count_helds ps) may) (still_known s (helds ps) ask user k) other
    (subst (λ (n : ℕ). refusal_among s.seen.list n user ask.request ≡ Some r) (sym (count_helds ps)) among))

pub forbidden_visited : (s : Seen) (ps : List Part) (now : ℕ) (ask : Ask) (user : User) (r : Refusal) → 0 < length ps → MayBeAsked ask now → IsKnownTo s ask user → asks_catalog ask.request ≡ false → forbidden user ask.request ≡ Some r
    → Visited (seats s ps) (seats s ps) now ask (refusing r)
forbidden_visited s ps now ask user r some may k other is = among_visited s ps now ask user r some may k other (among-first s.seen.list (length ps) user ask.request r (forbidden_first s.seen.list user ask r is))

-- ---- one shard

-- a request of this user goes to this shard of so many, which is there
pub record GoesTo (n : ℕ) (user : User) (x : Request) (k : ℕ) : Type 0 where
  pub goes : goes_to_part x ≡ true
  pub part : part_of n user x ≡ k
  pub there : missing_shard n x ≡ None

going : (c : List Record) (ps : List Part) (k : ℕ) (h : Held) (ask : Ask) (user : User) → user_of c ask.caller ≡ Some user → first_refusal c user ask.request ≡ None → GoesTo (length ps) user ask.request k
    → IsGoing c (length (slice_set (helds ps) k h)) ask user k
going c ps k h ask user found free g =
    subst (λ (n : ℕ). IsGoing c n ask user k) (sym (count_set ps k h)) (record { goes = g.goes; found = found; among = among_none c (length ps) user ask.request free g.there; part = g.part })

part-token : (failed : Type 0) (h m : Held) (hs : List Held) (k now : ℕ) (old held new : Held) (ask : Ask) (user : User) (told : Reply) → IsAskable (lists h (slice_set hs k held)) ask → IsKnown (lists h (slice_set hs k held)) m ask user
    → IsGoing m.list (length (slice_set hs k held)) ask user k → slice_get hs k ≡ Some old → OneCall failed reply.Refused (ShardAnswers m.list now user ask) held new told
    → AskedOnce failed (lists h (slice_set hs k held)) (lists m (slice_set hs k new)) now ask told
part-token failed h m hs k now old held new ask user told can known goes at call =
    subst (λ (gs : List Held). AskedOnce failed (lists h (slice_set hs k held)) (lists m gs) now ask told) (set_twice hs k held new)
    ((tokens_law failed).shard (lists h (slice_set hs k held)) m held new k now ask user told can known goes (set_get hs k old held at) call)

-- it goes to that shard over what was found of the catalogue too
named-there : (so sn : Seen) (found : Tale Record) (n k : ℕ) (ask : Ask) (user : User) → IsFoundBy so sn found → IsKnownTo so ask user → GoesTo n user ask.request k → GoesThere found.list n ask k
named-there so sn found n k ask user first known g = goes_there found.list n k ask user (user_on so.seen.list found.list ask.caller user first.begins.begins known.known.found) g.goes g.part

-- the shard answered, under what was found of the catalogue
pub part_visited : (so sn : Seen) (ps : List Part) (k : ℕ) (po pn : Part) (found : Tale Record) (now : ℕ) (ask : Ask) (user : User) (told : Replied) → 0 < length ps → slice_get ps k ≡ Some po → MayBeAsked ask now → IsKnownTo so ask user → GoesTo (length ps) user ask.request k
    → IsFoundBy so sn found → Leaves (held_of found) (held_of sn.seen) own.Absent → IsSettled (held_of found) (held_of sn.seen) → user_of sn.seen.list ask.caller ≡ Some user → first_refusal sn.seen.list user ask.request ≡ None → TookTurn po pn → Answered sn.seen.list now ask user pn told
    → Visited (seats so ps) (seats sn (slice_set ps k pn)) now ask (at_part k told)
part_visited so sn ps k po pn found now ask user told some at may known g first left settled user_found free second is =
    let m = is.call.mended in
    let failed = Fails pn.found pn.seen in
    let worse = Either found sn (with_held pn m) pn in
    let says = ShardAnswers sn.seen.list now user ask in
    visited_both so sn ps k po pn found (with_held pn m) now ask told (named-there so sn found (length ps) k ask user first known g) (turn_speaks po pn told.reply second) at first (found_mended po pn m second is.call.mends (leaves_grow m (held_of pn.seen) told.own is.leaves)) left is.leaves
    (part-token worse (held_of found) (held_of sn.seen) (helds ps) k now (held_of po.seen) m (held_of pn.seen) ask user told.reply
    (askable (held_of found) (slice_set (helds ps) k m) (length ps) now ask some (count_set ps k m) may)
    (record { token = known.token; caller_is = known.caller_is; settled = settled; found = user_found }) (going sn.seen.list ps k m ask user user_found free g) (held_there ps k po at)
    ((calls_mean failed worse reply.Refused says says).each m (held_of pn.seen) told.reply (λ why. inr why) (λ h t l x. x) (call_again failed reply.Refused says (held_of pn.found) (held_of pn.seen) told.reply is.call)))

-- the list is as it was mended
pub settled_self : (h : Held) → h.doubt ≡ None → IsSettled h h
settled_self h clear = record { mends = stays h; no_doubt = clear }

-- a request of a user that goes to one shard
pub came_visited : (so sn : Seen) (ps : List Part) (k : ℕ) (po pn : Part) (now : ℕ) (ask : Ask) (user : User) (told : Replied) → 0 < length ps → slice_get ps k ≡ Some po → MayBeAsked ask now → IsKnownTo so ask user → GoesTo (length ps) user ask.request k
    → CameTo so sn po pn now ask user told → Visited (seats so ps) (seats sn (slice_set ps k pn)) now ask (at_part k told)
came_visited so sn ps k po pn now ask user told some at may known g (way.answered first settled user_found free second is) =
    part_visited so sn ps k po pn (as_seen sn) now ask user told some at may known g (found_settled so sn first settled.mends) (absent (held_of sn.seen)) (settled_self (held_of sn.seen) settled.no_doubt) user_found free second is
came_visited so sn ps k po pn now ask user told some at may known g (way.answered_alone same free second is) =
    let other : Answered so.seen.list now ask user pn told = subst (λ (s : Seen). Answered s.seen.list now ask user pn told) same is in
    let clear : first_refusal so.seen.list user ask.request ≡ None = subst (λ (s : Seen). first_refusal s.seen.list user ask.request ≡ None) same free in
    subst (λ (s : Seen). Visited (seats so ps) (seats s (slice_set ps k pn)) now ask (at_part k told)) (sym same)
    (part_visited so so ps k po pn so.seen now ask user told some at may known g (found_rested so so (looked-self so)) (absent (held_of so.seen)) (settled_self (held_of so.seen) known.known.no_doubt) known.known.found clear second other)
came_visited so sn ps k po pn now ask user told some at may known g (way.refused r first settled user_found refuses second is) =
    let failed = Either (as_seen sn) sn pn.seen pn in
    let hs = slice_set (helds ps) k (held_of pn.seen) in
    let long = count_set ps k (held_of pn.seen) in
    subst (λ (t : Replied). Visited (seats so ps) (seats sn (slice_set ps k pn)) now ask (at_part k t)) (sym is)
    (visited_both so sn ps k po pn (as_seen sn) pn.seen now ask (refused_with r) (named-there so sn (as_seen sn) (length ps) k ask user (found_settled so sn first settled.mends) known g) (refused_mute po pn r) at (found_settled so sn first settled.mends) second (absent (held_of sn.seen)) (absent (held_of pn.seen))
    ((tokens_law failed).refused (lists (held_of sn.seen) hs) (held_of sn.seen) now ask user r (askable (held_of sn.seen) hs (length ps) now ask some long may)
    (record { token = known.token; caller_is = known.caller_is; settled = settled_self (held_of sn.seen) settled.no_doubt; found = user_found }) (goes_other ask.request g.goes) (among-first sn.seen.list (length hs) user ask.request r refuses)))
came_visited so sn ps k po pn now ask user told some at may known g (way.untold r first ends second is) =
    let failed = Fails sn.found sn.seen in
    let worse = Either (as_seen sn) sn pn.seen pn in
    let hs = slice_set (helds ps) k (held_of pn.seen) in
    let a = lists (held_of sn.seen) hs in
    subst (λ (t : Replied). Visited (seats so ps) (seats sn (slice_set ps k pn)) now ask (at_part k t)) (sym is)
    (visited_both so sn ps k po pn (as_seen sn) pn.seen now ask (refused_with r)
    (named-there so sn (as_seen sn) (length ps) k ask user (found_settled so sn first (lost_mend failed (held_of sn.found) (held_of sn.seen) r ends)) known g) (refused_mute po pn r) at (found_settled so sn first (lost_mend failed (held_of sn.found) (held_of sn.seen) r ends)) second (absent (held_of sn.seen)) (absent (held_of pn.seen))
    (asked_mean failed worse a a now ask (reply.Refused r) (λ why. inl why)
    (lost-token failed (held_of sn.seen) (held_of sn.seen) hs now ask known.token r (askable (held_of sn.seen) hs (length ps) now ask some (count_set ps k (held_of pn.seen)) may) known.caller_is (lost_again failed (held_of sn.found) (held_of sn.seen) r ends))))

-- a look at the catalogue that didn't tell what was looked for, in a request that goes to shards
pub unlooked_visited : (so sn : Seen) (ps : List Part) (now : ℕ) (ask : Ask) (user : User) (r : Refusal) → 0 < length ps → MayBeAsked ask now → IsKnownTo so ask user → asks_catalog ask.request ≡ false → TookTurn so sn
    → (IsSettled (held_of sn.found) (held_of sn.seen) × (refusal_among sn.seen.list (length ps) user ask.request ≡ Some r)) ⊎ LookEnds (Fails sn.found sn.seen) (λ r. Err r) (λ (_ : List Record) (_ : Result (Unit {0}) Refusal). ⊥) (held_of sn.found) (held_of sn.seen) (Err r)
    → Visited (seats so ps) (seats sn ps) now ask (refusing r)
unlooked_visited so sn ps now ask user r some may k other first (inl both) =
    let failed = Fails sn.found sn.seen in
    let found = user_on so.seen.list sn.seen.list ask.caller user (took_sees so sn first).begins.begins k.known.found in
    visited_records so sn ps (as_seen sn) now ask (refused_with r) (refused_there ask.request r) (found_settled so sn first both.0.mends) (absent (held_of sn.seen))
    ((tokens_law failed).refused (lists (held_of sn.seen) (helds ps)) (held_of sn.seen) now ask user r (askable (held_of sn.seen) (helds ps) (length ps) now ask some (count_helds ps) may)
    (record { token = k.token; caller_is = k.caller_is; settled = settled_self (held_of sn.seen) both.0.no_doubt; found = found }) other (subst (λ (n : ℕ). refusal_among sn.seen.list n user ask.request ≡ Some r) (sym (count_helds ps)) both.1))
unlooked_visited so sn ps now ask user r some may k other first (inr ends) =
    let failed = Fails sn.found sn.seen in
    visited_records so sn ps (as_seen sn) now ask (refused_with r) (refused_there ask.request r) (found_settled so sn first (lost_mend failed (held_of sn.found) (held_of sn.seen) r ends)) (absent (held_of sn.seen))
    (lost-token failed (held_of sn.seen) (held_of sn.seen) (helds ps) now ask k.token r (askable (held_of sn.seen) (helds ps) (length ps) now ask some (count_helds ps) may) k.caller_is (lost_again failed (held_of sn.found) (held_of sn.seen) r ends))
