-- A school is a desk that serves workers which regrade: alone, and where others ask it beside them.
use Rattle.std.proofs.Common.{◌≡◌, ℕ, zero, suc, ◌+◌, ◌<◌, ◌≤◌, List, [], ◌∷◌, Some, length, map, refl, sym, ap, arith, le_trans}
use Rattle.std.specs.Prelude.{option_map, slice_get, sum_by, unwrap_or}
use Rattle.std.proofs.lemmas.List.Sums.{sum_by-cons}
use Rattle.qz_catalog_turns.specs.Turning.{held_of}
use Rattle.qz_gather.specs.Clerks.{Answers, Clerk}
use Rattle.qz_outside.specs.Causes.{HasRisen}
use Rattle.qz_regrading.specs.Workers.{CountsFault, IsFront, KeepsParts, ServesWorkers, TellsWorker, worker_asks}
use Rattle.qz_regrading.proofs.Keeping.{front-same, keeps-more}
use Rattle.qz_regrading.proofs.Telling.{served_by_rules, telling_law}
use Rattle.qz_school.specs.Answering.{IsServed}
use Rattle.qz_school.specs.Solos.{faults_of, lists_in}
use Rattle.qz_school.proofs.Keepers.{fails_in_all, goes_in_all}
use Rattle.qz_stations.specs.Stations.{AsksWith, faults_in, faults_told}
use Rattle.qz_stations.proofs.Beside.{Visiting, clerk_with, visit_with, with_beside}
use Rattle.qz_stations.proofs.Faults.{beside_counts, in_more}
use Rattle.qz_terms.specs.declared.ask.Ask.{Ask}
use Rattle.qz_terms.specs.declared.record.Record.{Record}
use Rattle.qz_terms.specs.declared.reply.Reply.{Reply}
use Rattle.qz_terms.specs.declared.request.Request.{Request}
use Rattle.qz_terms.specs.Serial.{Held}
use Rattle.qz_turn.specs.declared.view.Tale.{Tale}
use Rattle.qz_turn.specs.Tales.{Follows}
use Rattle.qz_visit.specs.Seeing.{FollowAll, FollowEach, IsAskedBeside, more, none}
use Rattle.qz_visit.specs.Visits.{Rose, Seats, Tellings, Visitor, faults_seen, lists_told, of_catalog, of_shard, seen_by, seen_in}
use Rattle.qz_visit.specs.Ways.{Part}

-- ---- alone

-- each of its answers is one by the rules, and a keeper that is said to have failed has counted it
pub solo_serves : {K : Type 0} (sound : K → Type 0) (faults : K → ℕ) → ServesWorkers lists_in (faults_of faults) (IsServed sound faults)
solo_serves sound faults =
    served_by_rules lists_in (faults_of faults) (IsServed sound faults) (λ a b now x r s. (s.once.asks, record { later = (goes_in_all sound faults a b s.goes_on).later; fault = λ told. (fails_in_all sound faults a b s.goes_on (s.once.cause told)).rose }))

-- ---- what lists go on holding that were told one after the other

abbrev list_at : List (Tale Record) → ℕ → List Record
list_at ts k = unwrap_or (option_map (λ (h : Held). h.list) (slice_get (map held_of ts) k)) []

record GoOn (old new : List (Tale Record)) : Type 0 where
  count : length (map held_of new) ≡ length (map held_of old)
  fronts : (k : ℕ) → IsFront (list_at old k) (list_at new k)

on-more : (a b : Tale Record) (xs bs : List (Tale Record)) → Follows a b → GoOn xs bs → GoOn (a ∷ xs) (b ∷ bs)
on-more a b xs bs one rest = record { count = ap suc rest.count; fronts = fronts }
  where
    fronts : (n : ℕ) → IsFront (list_at (a ∷ xs) n) (list_at (b ∷ bs) n)
    fronts zero = record { rest = one.begins.0; split = sym one.begins.1 }
    fronts (suc n) = rest.fronts n

each-on : (xs bs : List (Tale Record)) → FollowEach xs bs → GoOn xs bs
each-on _ _ none = record { count = refl; fronts = λ k. front-same [] }
each-on _ _ (more a b xs bs one rest) = on-more a b xs bs one (each-on xs bs rest)

keeps-told : (a b : Tellings) → FollowAll a b → KeepsParts (lists_told a) (lists_told b)
keeps-told a b on = (let g = each-on a.parts b.parts on.parts in record { count = g.count; fronts = g.fronts })

-- ---- beside others

-- what is told of the lists that a request found is told of those that are seen now, which go on from what was seen before
beside-tells : (a b : Tellings) (now : ℕ) (x : Request) (r : Reply) → IsAskedBeside a b now (worker_asks x) r → TellsWorker (lists_told a) (lists_told b) x r
beside-tells a b now x r s =
    let t = telling_law.tell (lists_told s.found) (lists_told b) now x r s.once.asks in
    record { keeps = keeps-more (lists_told a) (lists_told s.found) (lists_told b) (keeps-told a s.found s.begins) t.keeps; worked = t.worked; missing = t.missing; absent = t.absent; counted = t.counted }

-- the same count of a visit's passes
sum-seen : (ps : List Part) → faults_in (seen_by ps) ≡ sum_by (λ (q : Part). q.seen.faults) ps
sum-seen [] = refl
sum-seen (p ∷ ps) = rw (in_more p.seen (seen_by ps), sum_by-cons (λ (q : Part). q.seen.faults) p ps, sum-seen ps) refl

told-seen : (p : Seats) → faults_told (seen_in p) ≡ faults_seen p
told-seen p = ap (λ (n : ℕ). p.records.seen.faults + n) (sum-seen p.parts)

-- One who asks beside others tells a worker of the lists that it sees, and counts what it has seen fail.
module _ {S : Type 0} (answers : S → S → ℕ → Ask → Reply → Type 0) (passes : S → Seats) (means : (a b : S) (now : ℕ) (ask : Ask) (r : Reply) → answers a b now ask r → AsksWith (passes a) (passes b) now ask r) where
  beside : (a b : S) (now : ℕ) (ask : Ask) (r : Reply) → answers a b now ask r → IsAskedBeside (seen_in (passes a)) (seen_in (passes b)) now ask r
  beside a b now ask r answered = with_beside (passes a) (passes b) now ask r (means a b now ask r answered)

  counts : (a b : S) (now : ℕ) (ask : Ask) (r : Reply) → answers a b now ask r → CountsFault (faults_seen (passes a)) (faults_seen (passes b)) r
  counts a b now ask r answered =
      let c = beside_counts (seen_in (passes a)) (seen_in (passes b)) now ask r (beside a b now ask r answered) in
      rw (sym (told-seen (passes a)), sym (told-seen (passes b))) c

  serves-so : ServesWorkers (λ (s : S). lists_told (seen_in (passes s))) (λ (s : S). faults_seen (passes s)) answers
  serves-so = record {
    tells = λ a b now x r may answered. beside-tells (seen_in (passes a)) (seen_in (passes b)) now x r (beside a b now (worker_asks x) r answered);
    counts = λ a b now x r may answered. counts a b now (worker_asks x) r answered;
  }

pub visit_serves : ServesWorkers (λ (v : Visitor). lists_told (seen_in v.passes)) (λ (v : Visitor). faults_seen v.passes) Visiting
visit_serves = serves-so Visiting (λ (v : Visitor). v.passes) visit_with

pub clerk_serves : ServesWorkers (λ (c : Clerk). lists_told (seen_in c.visit.passes)) (λ (c : Clerk). faults_seen c.visit.passes) Answers
clerk_serves = serves-so Answers (λ (c : Clerk). c.visit.passes) clerk_with
