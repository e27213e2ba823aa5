-- How often keepers failed as it is seen, and how often a door's replies say so.
use Rattle.std.proofs.Common.{◌≡◌, ℕ, zero, suc, ◌+◌, ◌-◌, ◌^◌, ◌<◌, ◌≤◌, List, [], ◌∷◌, ◌++◌, Some, length, length-append, refl, ap, ◌∙◌, arith, le_trans}
use Rattle.std.specs.Prelude.{filter, slice_get}
use Rattle.std.proofs.lemmas.List.Elements.{filter-append}
use Rattle.std.proofs.lemmas.List.Sums.{sum_by-cons}
use Rattle.qz_asking.specs.Asking.{Answerer, Asks}
use Rattle.qz_doors.specs.declared.door.DoorEnd.{DoorEnd}
use Rattle.qz_doors.specs.Doors.{Entrance, ServesDoor}
use Rattle.qz_doors.specs.Links.{Peer}
use Rattle.qz_doors.specs.Replying.{replies_at}
use Rattle.qz_doors.proofs.Replying.{replies_lead}
use Rattle.qz_grading.specs.declared.refusal.Refusal.TheVariants as refusal
use Rattle.qz_outside.specs.Causes.{HasRisen}
use Rattle.qz_regrading.specs.Loops.{HasRisenBy}
use Rattle.qz_regrading.specs.Workers.{CountsFault}
use Rattle.qz_serial.specs.Standing.{is_keep_fault}
use Rattle.qz_stations.specs.Stations.{AsksWith, fault_replies, faults_in, faults_told}
use Rattle.qz_stations.proofs.Beside.{with_beside}
use Rattle.qz_terms.specs.declared.ask.Ask.{Ask}
use Rattle.qz_terms.specs.declared.record.Record.{Record}
use Rattle.qz_terms.specs.declared.reply.Reply.{Reply}
use Rattle.qz_terms.specs.declared.reply.Reply.TheVariants as reply
use Rattle.qz_turn.specs.declared.view.Tale.{Tale}
use Rattle.qz_visit.specs.Seeing.{FollowAll, FollowEach, IsAskedBeside, more, none}
use Rattle.qz_visit.specs.Visits.{Rose, Seats, Tellings, of_catalog, of_shard, seen_in}

-- ---- as they were told

pub in_more : (t : Tale Record) (ts : List (Tale Record)) → faults_in (t ∷ ts) ≡ t.faults + faults_in ts
in_more t ts = sum_by-cons (λ (x : Tale Record). x.faults) t ts

each-later : (xs bs : List (Tale Record)) → FollowEach xs bs → faults_in xs ≤ faults_in bs
each-later _ _ none = omega arith
each-later _ _ (more a b xs bs one rest) = (let first : a.faults ≤ b.faults = one.faults in omega (arith, first, each-later xs bs rest, in_more a xs, in_more b bs))

pub all_later : (a b : Tellings) → FollowAll a b → faults_told a ≤ faults_told b
all_later a b on = (let first : a.records.faults ≤ b.records.faults = on.records.faults in omega (arith, first, each-later a.parts b.parts on.parts))

-- of two counts one rose, and so did their sum
first-rose : (i j m n : ℕ) → HasRisen i j → m ≤ n → HasRisen (i + m) (j + n)
first-rose i j m n rose later = λ below. (let risen : i < j = rose (omega (arith, below)) in omega (arith, risen, later))

second-rose : (i j m n : ℕ) → i ≤ j → HasRisen m n → HasRisen (i + m) (j + n)
second-rose i j m n later rose = λ below. (let risen : m < n = rose (omega (arith, below)) in omega (arith, risen, later))

-- also from an earlier count on
rose-from : (h i j : ℕ) → h ≤ i → HasRisen i j → HasRisen h j
rose-from h i j later rose = λ below. (let risen : i < j = rose below in omega (arith, risen, later))

each-rose : (fs bs : List (Tale Record)) (k : ℕ) (f s : Tale Record) → FollowEach fs bs → slice_get fs k ≡ Some f → slice_get bs k ≡ Some s → HasRisen f.faults s.faults → HasRisen (faults_in fs) (faults_in bs)
each-rose _ _ k f s none at there rose = absurd cc
each-rose _ _ zero f s (more a b fs bs one rest) at there rose =
    let first : a ≡ f = cc in
    let second : b ≡ s = cc in
    rw (in_more a fs, in_more b bs, first, second) (first-rose f.faults s.faults (faults_in fs) (faults_in bs) rose (each-later fs bs rest))
each-rose _ _ (suc k) f s (more a b fs bs one rest) at there rose =
    rw (in_more a fs, in_more b bs) (second-rose a.faults b.faults (faults_in fs) (faults_in bs) one.faults (each-rose fs bs k f s rest at there rose))

all-rose : (a b : Tellings) → FollowAll a b → Rose a b → HasRisen (faults_told a) (faults_told b)
all-rose a b on (of_catalog rose) = first-rose a.records.faults b.records.faults (faults_in a.parts) (faults_in b.parts) rose.0 (each-later a.parts b.parts on.parts)
all-rose a b on (of_shard k f s at there rose) = second-rose a.records.faults b.records.faults (faults_in a.parts) (faults_in b.parts) on.records.faults (each-rose a.parts b.parts k f s on.parts at there rose.0)

pub beside_counts : (a b : Tellings) (now : ℕ) (ask : Ask) (r : Reply) → IsAskedBeside a b now ask r → CountsFault (faults_told a) (faults_told b) r
beside_counts a b now ask r s = record {
  later = le_trans (all_later a s.found s.begins) (all_later s.found b s.grows);
  fault = λ told. rose-from (faults_told a) (faults_told s.found) (faults_told b) (all_later a s.found s.begins) (all-rose s.found b s.grows (s.once.cause told));
}

-- ---- at a door

one-fault : (m n : ℕ) (r : Reply) → CountsFault m n r → HasRisenBy m (fault_replies (r ∷ [])) n
one-fault m n (reply.Refused refusal.KeepFault) c = λ below. let rose = c.fault refl below in omega (arith, rose)
one-fault m n r c = λ below. let later = c.later in omega (arith, later)

faults-on : (xs ys : List Reply) → fault_replies (xs ++ ys) ≡ fault_replies xs + fault_replies ys
faults-on xs ys = ap length (filter-append is_keep_fault xs ys) ∙ length-append (filter is_keep_fault xs) (filter is_keep_fault ys)

both-rose : (l m n : ℕ) (xs ys : List Reply) → HasRisenBy l (fault_replies xs) m → HasRisenBy m (fault_replies ys) n → HasRisenBy l (fault_replies (xs ++ ys)) n
both-rose l m n xs ys one other = λ below. let more = other below in let first = one (omega (arith, more, below)) in omega (arith, more, first, faults-on xs ys)

-- no more of its replies say that a keeper failed than the counts rose by
pub door_faults : {L C : Type 0} (tells : C → ℕ → C → Type 0) (peer : L → Peer) (most : ℕ) (old new : Entrance L) (a b : Answerer Seats C) (end : DoorEnd) (d : ServesDoor (Asks tells AsksWith) peer most old new a b end)
    → HasRisenBy (faults_told (seen_in a.desk)) (fault_replies (replies_at d)) (faults_told (seen_in b.desk))
door_faults {C} tells peer most old new a b end d =
    replies_lead (Asks tells AsksWith) (λ (x : Answerer Seats C) (rs : List Reply) (y : Answerer Seats C). HasRisenBy (faults_told (seen_in x.desk)) (fault_replies rs) (faults_told (seen_in y.desk))) (record {
      none = λ x. λ below. omega arith;
      both = λ x y z front rest one other. both-rose (faults_told (seen_in x.desk)) (faults_told (seen_in y.desk)) (faults_told (seen_in z.desk)) front rest one other;
      each = λ x y ask r asked. one-fault (faults_told (seen_in x.desk)) (faults_told (seen_in y.desk)) r (beside_counts (seen_in x.desk) (seen_in y.desk) _ ask r (with_beside x.desk y.desk _ ask r asked.answered));
    }) peer most old new a b end d
