-- A school's locks and passes, one shard's at a time, and what came of a request there.
use Rattle.std.proofs.Common.{◌≡◌, inl, inr, ◌⊎◌, ℕ, zero, suc, ◌<◌, ◌≤◌, List, [], ◌∷◌, ◌++◌, Some, None, Result, Ok, Err, MatchResult, length, get_or, refl, sym, ap, ◌∙◌, subst, append_assoc}
use Rattle.std.specs.Prelude.{slice_get, slice_set}
use Rattle.std.proofs.lemmas.List.{length-set}
use Rattle.std.proofs.lemmas.Option.{slice_get_read}
use Rattle.qz_grading.specs.declared.refusal.AttemptId.{AttemptId}
use Rattle.qz_catalog.specs.Keeping.{TellsJob}
use Rattle.qz_catalog_turns.specs.declared.replied.Replied.{Replied}
use Rattle.qz_catalog_turns.specs.Turning.{Fails, Looked, TurnCalls, held_of}
use Rattle.qz_grading.specs.declared.refusal.Refusal.{Refusal}
use Rattle.qz_grading.specs.declared.refusal.Refusal.TheVariants as refusal
use Rattle.qz_grading.specs.declared.refusal.Thing.TheVariants as thing
use Rattle.qz_keeper.specs.Lists.{Looks}
use Rattle.qz_serial.proofs.Composing.{look_ends}
use Rattle.qz_shard_turns.specs.Tying.{HasLooked, Placed, SeesMore}
use Rattle.qz_school.specs.Answering.{MayBeAsked}
use Rattle.qz_terms.specs.declared.ask.Ask.{Ask}
use Rattle.qz_school.proofs.Calls.{look_told}
use Rattle.qz_school.proofs.Keepers.{get_set}
use Rattle.qz_school.proofs.Missing.{job_absent, live_nowhere, work_nowhere}
use Rattle.qz_terms.specs.declared.people.User.{User}
use Rattle.qz_terms.specs.declared.plan.Job.{Job}
use Rattle.qz_terms.specs.declared.record.Record.{Record}
use Rattle.qz_terms.specs.declared.request.Request.{Request}
use Rattle.qz_terms.specs.declared.request.Request.TheVariants as request
use Rattle.qz_terms.specs.Catalog.{worker}
use Rattle.qz_terms.specs.Cause.{forbidden}
use Rattle.qz_terms.specs.Legal.{IsLegal, IsLegalCatalog}
use Rattle.qz_terms.specs.SchoolAnswer.{part_of}
use Rattle.qz_turn.specs.declared.view.Tale.{Tale}
use Rattle.qz_turn.specs.declared.view.Turn.{Turn}
use Rattle.qz_turn.specs.Passes.{Lock, Standing}
use Rattle.qz_turn.specs.Turns.{AddsTurn, Locked, UnderKey, last_turn}
use Rattle.qz_visit.specs.Reports.{AreAt}
use Rattle.qz_visit.specs.Tokens.{IsBeyond, IsKnownTo, going, step}
use Rattle.qz_visit.specs.declared.last.Said.{Said}
use Rattle.qz_visit.specs.Visits.{AreFoundBy, AreOf, IsFoundBy, IsMendedTo, IsOf, IsPlaced, IsSchool, Locks, Seats, TakesTurns, TookTurn, Visited, Visits, at_part, more, none, refusing}
use Rattle.qz_visit.specs.Ways.{AreTied, Comes, Part, Seen, Stepped, Tried, refused_with, replied_of}
use Rattle.qz_visit.proofs.Asking.{GoesTo, among_visited, came_visited, unlooked_visited, untold_split}
use Rattle.qz_visit.proofs.Passing.{found_after, took_turned, seats}
use Rattle.qz_visit.proofs.Reporting.{count_found}
use Rattle.qz_visit.proofs.Working.{Settles, Works, settle_visited, work_visited}

abbrev pub locks : Locked (Unit {0}) → List (Locked Placed) → Locks
locks r ls = record { records = r; parts = ls }

-- ---- one shard's lock and pass

pub there_at : {A : Type 0} (xs : List A) (k : ℕ) (x : A) → k < length xs → x ≡ get_or xs k x → slice_get xs k ≡ Some x
there_at xs k x inside is = slice_get_read xs (length xs) k x refl inside is

pub some_part : (r : Locked (Unit {0})) (ls : List (Locked Placed)) (s : Seen) (ps : List Part) → IsSchool r ls → AreOf (locks r ls) (seats s ps) → 0 < length ps
some_part r ls s ps school own = subst (λ (n : ℕ). 0 < n) (sym own.count) school.some

pub tied_at : (r : Locked (Unit {0})) (ls : List (Locked Placed)) (s : Seen) (ps : List Part) (k : ℕ) (l : Locked Placed) (p : Part) → IsSchool r ls → AreOf (locks r ls) (seats s ps) → slice_get ls k ≡ Some l → slice_get ps k ≡ Some p → AreTied r.lock l.lock s p
tied_at r ls s ps k l p school own at there =
    let place = school.placed k l at in
    record { of_records = own.records; of_part = own.parts k l p at there; tie = record { place = place.place; keyed = place.keyed; own = place.own } }

one-place : (lock : Lock Placed) (a b : Placed) → lock.key ≡ Some a → lock.key ≡ Some b → a ≡ b
one-place lock a b one other = cc

pub here_at : (r : Locked (Unit {0})) (n k : ℕ) (l : Locked Placed) (user : User) (x : Request) → IsPlaced r.lock n k l.lock → part_of n user x ≡ k → UnderKey l.lock (λ place. part_of place.count user x ≡ place.index)
here_at r n k l user x placed goes = record {
  at = λ place keyed.
      let same : placed.place ≡ place = one-place l.lock placed.place place placed.keyed keyed in
      subst (λ (y : Placed). part_of y.count user x ≡ y.index) same (subst (λ (m : ℕ). part_of m user x ≡ placed.place.index) (sym placed.count_is) (goes ∙ sym placed.index_is));
}

pub all_at : (r : Locked (Unit {0})) (ls : List (Locked Placed)) (s : Seen) (ps : List Part) → IsSchool r ls → AreOf (locks r ls) (seats s ps) → AreAt ls ps
all_at r ls s ps school own = record {
  count = own.count;
  own = own.parts;
  placed = λ k l at. let p = school.placed k l at in (p.place, p.keyed, p.index_is, p.count_is);
}

-- ---- results

pub comes_visited : (so sn : Seen) (ps : List Part) (k : ℕ) (po pn : Part) (now : ℕ) (ask : Ask) (user : User) (result : Result Replied Refusal) → 0 < length ps → slice_get ps k ≡ Some po → MayBeAsked ask now → IsKnownTo so ask user → GoesTo (length ps) user ask.request k
    → Comes so sn po pn now ask user result → Visited (seats so ps) (seats sn (slice_set ps k pn)) now ask (at_part k (replied_of result))
comes_visited so sn ps k po pn now ask user (Ok told) some at may known goes came = came_visited so sn ps k po pn now ask user told some at may known goes came
comes_visited so sn ps k po pn now ask user (Err r) some at may known goes came = came_visited so sn ps k po pn now ask user (refused_with r) some at may known goes came

pub work_visits : (so sn : Seen) (ps : List Part) (k : ℕ) (po pn : Part) (now : ℕ) (ask : Ask) (user : User) (number : ℕ) (result : Result Replied Refusal) → user ≡ worker → slice_get ps k ≡ Some po → Works ps ask now (request.Work number k)
    → MatchResult result (Stepped so sn po pn now ask user number) (λ r. Stepped so sn po pn now ask user number (refused_with r)) → Visited (seats so ps) (seats sn (slice_set ps k pn)) now ask (at_part k (replied_of result))
work_visits so sn ps k po pn now ask user number (Ok told) who at w stepped = work_visited so sn ps k po pn now ask number told at w (subst (λ (u : User). Stepped so sn po pn now ask u number told) who stepped)
work_visits so sn ps k po pn now ask user number (Err r) who at w stepped = work_visited so sn ps k po pn now ask number (refused_with r) at w (subst (λ (u : User). Stepped so sn po pn now ask u number (refused_with r)) who stepped)

pub settle_visits : (so sn : Seen) (ps : List Part) (k : ℕ) (po pn : Part) (now : ℕ) (ask : Ask) (user : User) (attempt : AttemptId) (result : Result Replied Refusal) → user ≡ worker → Settles ps ask now attempt k po
    → MatchResult result (Tried so sn po pn now ask user attempt) (λ r. Tried so sn po pn now ask user attempt (refused_with r)) → Visited (seats so ps) (seats sn (slice_set ps k pn)) now ask (at_part k (replied_of result))
settle_visits so sn ps k po pn now ask user attempt (Ok told) who w tried = settle_visited so sn ps k po pn now ask attempt told w (subst (λ (u : User). Tried so sn po pn now ask u attempt told) who tried)
settle_visits so sn ps k po pn now ask user attempt (Err r) who w tried = settle_visited so sn ps k po pn now ask attempt (refused_with r) w (subst (λ (u : User). Tried so sn po pn now ask u attempt (refused_with r)) who tried)

-- behind a turn at the catalogue
pub visits_then : (so sm : Seen) (ps : List Part) (new : Seats) (now : ℕ) (ask : Ask) (result : Result Said Refusal) → HasLooked so sm → Visits (seats sm ps) new now ask result → Visits (seats so ps) new now ask result
visits_then so sm ps new now ask (Ok told) sees v = record { found = v.found; records = found_after so sm new.records v.found.records sees v.records; parts = v.parts; once = v.once; owns = v.owns; named = v.named }
visits_then so sm ps new now ask (Err r) sees v = record { found = v.found; records = found_after so sm new.records v.found.records sees v.records; parts = v.parts; once = v.once; owns = v.owns; named = v.named }

found-adds : {K : Type 0} (a b : Standing Record K) (t : Tale Record) → (Looked a b × (t ≡ b.seen)) ⊎ (TookTurn a b × IsMendedTo b.found t) → (ts : List (Turn Record)) × (b.turns ≡ a.turns ++ ts)
found-adds a b t (inl both) = (both.0.turns, both.0.added)
found-adds a b t (inr both) = (both.0.earlier ++ last_turn b ∷ [], both.0.added)

takes-then : {K : Type 0} (a b c : Standing Record K) (t : Tale Record) → AddsTurn a b → IsFoundBy b c t → TakesTurns a c
takes-then a b c t one is =
    let more = found-adds b c t is.turned in
    record { first = last_turn b; others = more.0; added = more.1 ∙ ap (λ (l : List (Turn Record)). l ++ more.0) one ∙ append_assoc a.turns (last_turn b ∷ []) more.0 }

-- the request took that turn
pub visits_take : (so sm : Seen) (ps : List Part) (new : Seats) (now : ℕ) (ask : Ask) (result : Result Said Refusal) → AddsTurn so sm → Visits (seats sm ps) new now ask result → TakesTurns so new.records
visits_take so sm ps new now ask (Ok told) one v = takes-then so sm new.records v.found.records one v.records
visits_take so sm ps new now ask (Err r) one v = takes-then so sm new.records v.found.records one v.records

-- ---- a shard that isn't there

beyond-by : (n : ℕ) (x : Request) (job shard : ℕ) → x ≡ request.Work job shard → IsBeyond n x → n ≤ shard
beyond-by n x job shard is (going other attempt live past) = let no : request.Live other attempt ≡ request.Work job shard = sym live ∙ is in absurd cc
beyond-by n x job shard is (step j other work past) =
    let same : request.Work j other ≡ request.Work job shard = sym work ∙ is in
    let here : other ≡ shard = cc in
    subst (λ (k : ℕ). n ≤ k) here past

pub beyond_step : (n : ℕ) (x : Request) (job shard : ℕ) → x ≡ request.Work job shard → IsBeyond n x → n ≤ shard
beyond_step n x job shard is beyond = beyond-by n x job shard is beyond

-- the attempts that go on there
pub going_visited : (s : Seen) (ps : List Part) (now : ℕ) (ask : Ask) (user : User) → 0 < length ps → MayBeAsked ask now → IsKnownTo s ask user → forbidden user ask.request ≡ None → IsBeyond (length ps) ask.request → ((job shard : ℕ) → ask.request ≡ request.Work job shard → ⊥)
    → Visited (seats s ps) (seats s ps) now ask (refusing (refusal.Unknown thing.Shard))
going_visited s ps now ask user some may known free (going shard attempt live past) other =
    among_visited s ps now ask user (refusal.Unknown thing.Shard) some may known (rw live refl) (live_nowhere s.seen.list (length ps) ask user shard attempt live free past)
going_visited s ps now ask user some may known free (step job shard work past) other = absurd (other job shard work)

-- steps there
pub step_untold : (so sn : Seen) (ps : List Part) (now : ℕ) (ask : Ask) (user : User) (number shard : ℕ) (r : Refusal) → 0 < length ps → MayBeAsked ask now → IsKnownTo so ask user → forbidden user ask.request ≡ None → ask.request ≡ request.Work number shard
    → TurnCalls IsLegalCatalog (λ r. Err r) (Looks (TellsJob number)) so sn (Err r) → Visited (seats so ps) (seats sn ps) now ask (refusing r)
step_untold so sn ps now ask user number shard r some may known allowed is t =
    let failed = Fails sn.found sn.seen in
    let free : forbidden user (request.Work number shard) ≡ None = rw is at allowed in
    let ends = look_ends failed (λ r. Err r) (TellsJob number) (held_of sn.found) (held_of sn.seen) (Err r) t.calls.call in
    unlooked_visited so sn ps now ask user r some may known (rw is refl) (took_turned IsLegalCatalog (λ r. Err r) (Looks (TellsJob number)) so sn (Err r) t)
    (elim (untold_split failed (TellsJob number) (held_of sn.found) (held_of sn.seen) r ends) [
      | inl both ↦
          let missing = job_absent sn.seen.list number shard t.calls.seen_may.without both.1.1 in
          inl (both.0, rw both.1.0 (rw (is, free, missing) refl))
      | inr lost ↦ inr lost
    ])

pub step_visited : (so sn : Seen) (ps : List Part) (now : ℕ) (ask : Ask) (user : User) (number shard : ℕ) (job : Job) → 0 < length ps → MayBeAsked ask now → IsKnownTo so ask user → forbidden user ask.request ≡ None → ask.request ≡ request.Work number shard → length ps ≤ shard
    → TurnCalls IsLegalCatalog (λ r. Err r) (Looks (TellsJob number)) so sn (Ok job) → Visited (seats so ps) (seats sn ps) now ask (refusing (refusal.Unknown thing.Shard))
step_visited so sn ps now ask user number shard job some may known allowed is past t =
    let told = look_told (Fails sn.found sn.seen) (TellsJob number) (held_of sn.found) (held_of sn.seen) job t.calls.call in
    unlooked_visited so sn ps now ask user (refusal.Unknown thing.Shard) some may known (rw is refl) (took_turned IsLegalCatalog (λ r. Err r) (Looks (TellsJob number)) so sn (Ok job) t)
    (inl (told.0, work_nowhere sn.seen.list (length ps) ask user number shard job is allowed told.1.job_is past))

-- ---- the shards in turn

pub at_set : (ls : List (Locked Placed)) (ps : List Part) (k : ℕ) (po pn : Part) → AreAt ls ps → slice_get ps k ≡ Some po → SeesMore po pn → AreAt ls (slice_set ps k pn)
at_set ls ps k po pn at there sees = record {
  count = length-set ps k pn ∙ at.count;
  own = λ j l q lock pass. elim (get_set ps k j pn q pass) [
    | inl both ↦
        let own = at.own k l po (subst (λ (i : ℕ). slice_get ls i ≡ Some l) both.0 lock) there in
        subst (IsOf l.lock) both.1 (record { own = sees.lock ∙ own.own; numbered = λ none. own.numbered (sym sees.numbers ∙ none) })
    | inr other ↦ at.own j l q lock other
  ];
  placed = at.placed;
}

-- the list of the shard at its place is legal
pub turn_at : {A : Type 0} (refused : Refusal → A) (Answers : List Record → A → List Record → Type 0) (place : Placed) (i n : ℕ) (old new : Part) (told : A) → place.index ≡ i → place.count ≡ n → TurnCalls (IsLegal place.index place.count) refused Answers old new told
    → TurnCalls (IsLegal i n) refused Answers old new told
turn_at refused Answers place i n old new told index_is count_is t =
    subst (λ (j : ℕ). TurnCalls (IsLegal j n) refused Answers old new told) index_is (subst (λ (m : ℕ). TurnCalls (IsLegal place.index m) refused Answers old new told) count_is t)

-- ---- the passes stay the school's

found-there : (os ns : List Part) (fs : List (Tale Record)) (k : ℕ) (n : Part) → AreFoundBy os ns fs → slice_get ns k ≡ Some n → (o : Part) × ((slice_get os k ≡ Some o) × ((n.numbers ≡ o.numbers) × (n.lock ≡ o.lock)))
found-there _ _ _ k n none at = absurd cc
found-there _ _ _ zero n (more o x f os ns fs one rest) at =
    let same : x ≡ n = cc in
    (o, (refl, (ap (λ (p : Part). p.numbers) (sym same) ∙ one.numbers, ap (λ (p : Part). p.lock) (sym same) ∙ one.lock)))
found-there _ _ _ (suc k) n (more o x f os ns fs one rest) at = found-there os ns fs k n rest at

of-still : {K : Type 0} (lock : Lock K) (old new : Standing Record K) → IsOf lock old → new.numbers ≡ old.numbers → new.lock ≡ old.lock → IsOf lock new
of-still lock old new own numbers lock_is = record { own = lock_is ∙ own.own; numbered = λ none. own.numbered (sym numbers ∙ none) }

pub still_of : (s : Locks) (old new : Seats) (now : ℕ) (ask : Ask) (told : Said) → AreOf s old → Visited old new now ask told → AreOf s new
still_of s old new now ask told own v = record {
  records = of-still s.records.lock old.records new.records own.records v.records.numbers v.records.lock;
  count = count_found old.parts new.parts v.found.parts v.parts ∙ own.count;
  parts = λ k l q lock pass.
      let o = found-there old.parts new.parts v.found.parts k q v.parts pass in
      of-still l.lock o.0 q (own.parts k l o.0 lock o.1.0) o.1.1.0 o.1.1.1;
}
