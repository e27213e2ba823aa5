-- What is read of a link may be asked of a school, and one who asks a school and serves a door goes on: a visit, or a clerk, who notes what is asked.
use Rattle.std.proofs.Common.{◌≡◌, ◌≤◌, ℕ, true, List, [], ◌∷◌, None, Some, Option, IfSome, length, refl, sym, subst, arith}
use Rattle.std.specs.Prelude.{unwrap_or}
use Rattle.qz_asking.specs.Following.{Follows, asked}
use Rattle.qz_asking.specs.Following as following
use Rattle.qz_asking.specs.Asking.{Answerer, Asks}
use Rattle.qz_doors.specs.declared.door.DoorEnd.{DoorEnd}
use Rattle.qz_doors.specs.Doors.{Entrance, ServesDoor}
use Rattle.qz_doors.specs.Links.{Peer}
use Rattle.qz_doors.proofs.Carrying.{Carries, carries_door}
use Rattle.qz_doors.proofs.Following.{by_door}
use Rattle.qz_gather.specs.Clerks.{Answers, Clerk, noted, unasked}
use Rattle.qz_http.specs.Items.{IsAskable}
use Rattle.qz_regrading.specs.declared.ends.LoopEnd.{LoopEnd}
use Rattle.qz_regrading.specs.Loops.{MakesPasses, Regrades}
use Rattle.qz_regrading.specs.Loops as loops
use Rattle.qz_regrading.specs.Workers.{worker_asks}
use Rattle.qz_regrading.specs.Working.{Worked, Works}
use Rattle.qz_regrading.specs.Working as working
use Rattle.qz_regrading.proofs.Searching.{regrades_follow}
use Rattle.qz_school.specs.Answering.{MayBeAsked}
use Rattle.qz_terms.specs.declared.ask.Ask.{Ask}
use Rattle.qz_stations.specs.Noting.{clerk_sees, noting, quiet}
use Rattle.qz_stations.specs.Posts.{HasRegraded, IsServed}
use Rattle.qz_stations.specs.Stations.{AsksWith, lists_seen, serving_by}
use Rattle.qz_stations.proofs.Beside.{Visiting, clerk_with, visit_with}
use Rattle.qz_stations.proofs.Faults.{door_faults}
use Rattle.qz_terms.specs.declared.reply.Reply.{Reply}
use Rattle.qz_terms.specs.Kept.{is_moment}
use Rattle.qz_visit.specs.Holding.{GoesOn}
use Rattle.qz_visit.specs.Visits.{Seats, Visitor, lists_told, seen_in}
use Rattle.qz_visit.proofs.Holding.{goes_asked, goes_on, goes_self}
use Rattle.qz_wire.specs.Brief.{IsBriefToken}

brief-key : (key : Option (List ℕ)) → IfSome key IsBriefToken → length (unwrap_or key []) ≤ 64
brief-key None brief = omega arith
brief-key (Some key) brief = brief.1

pub may_ask : (now : ℕ) (ask : Ask) → is_moment now ≡ true → IsAskable ask → MayBeAsked ask now
may_ask now ask kept can = record { keyed = can.keyed; kept = can.kept; described = can.described; moment_kept = kept; brief = brief-key ask.key can.brief.key; names = can.brief.names }

visit_goes : (a b : Visitor) → Follows Visiting a b → GoesOn a b
visit_goes a _ (following.stays _) = goes_self a
visit_goes a c (asked _ b _ now ask r before last) = goes_on a b c (visit_goes a b before) (goes_asked b c now ask r last)

-- ---- a clerk

clerk-asked : (a b : Clerk) (now : ℕ) (ask : Ask) (r : Reply) → Answers a b now ask r → GoesOn a.visit b.visit
clerk-asked a b now ask r (unasked same told) = subst (λ (c : Clerk). GoesOn a.visit c.visit) (sym same) (goes_self a.visit)
clerk-asked a b now ask r (noted n school asks tells more) = goes_asked a.visit b.visit now ask r (school, asks)

clerk-goes : (a b : Clerk) → Follows Answers a b → GoesOn a.visit b.visit
clerk-goes a _ (following.stays _) = goes_self a.visit
clerk-goes a c (asked _ b _ now ask r before last) = goes_on a.visit b.visit c.visit (clerk-goes a b before) (clerk-asked b c now ask r last)

-- ---- the passes of one who asks

module _ {S : Type 0} (answers : S → S → ℕ → Ask → Reply → Type 0) (passes : S → Seats) (means : (a b : S) (now : ℕ) (ask : Ask) (r : Reply) → answers a b now ask r → AsksWith (passes a) (passes b) now ask r) where
  abbrev passes_by_clock : {C : Type 0} → Answerer S C → Answerer Seats C
  passes_by_clock a = record { desk = passes a.desk; clock = a.clock }

  asks-with : {C : Type 0} (tells : C → ℕ → C → Type 0) → Carries (Asks tells answers) (Asks tells AsksWith) passes_by_clock
  asks-with tells = record {
    each = λ a b what r s. record { moment = s.moment; told = s.told; answered = means a.desk b.desk _ what r s.answered };
  }

  works-with : {C : Type 0} (tells : C → ℕ → C → Type 0) (a b : Answerer S C) (ws : List Worked) → Works tells answers a ws b → Works tells AsksWith (passes_by_clock a) ws (passes_by_clock b)
  works-with tells a _ _ (working.none _) = working.none (passes_by_clock a)
  works-with tells a b _ (working.more _ m _ ws w before may one) =
      working.more (passes_by_clock a) (passes_by_clock m) (passes_by_clock b) ws w (works-with tells a m ws before) may ((asks-with tells).each m b (worker_asks w.request) w.reply one)

  passes-with : {C : Type 0} (tells : C → ℕ → C → Type 0) (a b : Answerer S C) → MakesPasses tells answers (λ (s : S). lists_seen (passes s)) a b → MakesPasses tells AsksWith lists_seen (passes_by_clock a) (passes_by_clock b)
  passes-with tells a _ (loops.none _) = loops.none (passes_by_clock a)
  passes-with tells a b (loops.more _ m _ ws before one sweeps) =
      loops.more (passes_by_clock a) (passes_by_clock m) (passes_by_clock b) ws (passes-with tells a m before) (works-with tells m b ws one) sweeps

  regrades_with : {C : Type 0} (tells : C → ℕ → C → Type 0) (a b : Answerer S C) (end : LoopEnd) → Regrades tells answers (λ (s : S). lists_seen (passes s)) a b end
      → Regrades tells AsksWith lists_seen (passes_by_clock a) (passes_by_clock b) end
  regrades_with tells a b end r = record {
    between = passes_by_clock r.between;
    before = passes-with tells a r.between r.before;
    last = r.last;
    works = works-with tells r.between b r.last r.works;
    sweeps = r.sweeps;
    ended = r.ended;
  }

  serves_with : {L C : Type 0} (tells : C → ℕ → C → Type 0) (peer : L → Peer) (most : ℕ) (old new : Entrance L) (a b : Answerer S C) (end : DoorEnd) → ServesDoor (Asks tells answers) peer most old new a b end
      → ServesDoor (Asks tells AsksWith) peer most old new (passes_by_clock a) (passes_by_clock b) end
  serves_with tells peer most old new a b end served = carries_door (Asks tells answers) (Asks tells AsksWith) passes_by_clock peer most old new a b end (asks-with tells) served

-- ---- a post where a door was served

module _ {D L C : Type 0} (tells : C → ℕ → C → Type 0) (peer : L → Peer) (entrance : D → Entrance L) (most : ℕ) (door door' : D) (clock clock' : C) (end was : DoorEnd) where
  -- by a visit
  pub visit_served : (a b : Visitor) → ServesDoor (Asks tells Visiting) peer most (entrance door) (entrance door') (record { desk = a; clock = clock }) (record { desk = b; clock = clock' }) end
      → IsServed (serving_by tells peer entrance most) (record { place = (door, clock); visit = a; notes = None; end = was }) (record { place = (door', clock'); visit = b; notes = None; end = end })
  visit_served a b served = record {
    going = going;
    as_often = door_faults tells peer most (entrance door) (entrance door') (record { desk = a.passes; clock = clock }) (record { desk = b.passes; clock = clock' }) end going;
    goes_on = visit_goes a b (by_door Visiting tells peer most (entrance door) (entrance door') (record { desk = a; clock = clock }) (record { desk = b; clock = clock' }) end served);
    notes = quiet;
  }
    where
      going : ServesDoor (Asks tells AsksWith) peer most (entrance door) (entrance door') (record { desk = a.passes; clock = clock }) (record { desk = b.passes; clock = clock' }) end
      going = serves_with Visiting (λ (v : Visitor). v.passes) visit_with tells peer most (entrance door) (entrance door') (record { desk = a; clock = clock }) (record { desk = b; clock = clock' }) end served

  -- by a clerk
  pub clerk_served : (a b : Clerk) → ServesDoor (Asks tells Answers) peer most (entrance door) (entrance door') (record { desk = a; clock = clock }) (record { desk = b; clock = clock' }) end
      → IsServed (serving_by tells peer entrance most) (record { place = (door, clock); visit = a.visit; notes = Some a.notes; end = was }) (record { place = (door', clock'); visit = b.visit; notes = Some b.notes; end = end })
  clerk_served a b served = record {
    going = going;
    as_often = door_faults tells peer most (entrance door) (entrance door') (record { desk = a.visit.passes; clock = clock }) (record { desk = b.visit.passes; clock = clock' }) end going;
    goes_on = clerk-goes a b (by_door Answers tells peer most (entrance door) (entrance door') (record { desk = a; clock = clock }) (record { desk = b; clock = clock' }) end served);
    notes = noting a.notes b.notes served;
  }
    where
      going : ServesDoor (Asks tells AsksWith) peer most (entrance door) (entrance door') (record { desk = a.visit.passes; clock = clock }) (record { desk = b.visit.passes; clock = clock' }) end
      going = serves_with Answers (λ (c : Clerk). c.visit.passes) clerk_with tells peer most (entrance door) (entrance door') (record { desk = a; clock = clock }) (record { desk = b; clock = clock' }) end served

-- ---- a post where somebody regraded

module _ {C : Type 0} (tells : C → ℕ → C → Type 0) (clock clock' : C) (end : LoopEnd) (was : DoorEnd) where
  pub visit_regraded : (a b : Visitor) → Regrades tells Visiting (λ (v : Visitor). lists_told (seen_in v.passes)) (record { desk = a; clock = clock }) (record { desk = b; clock = clock' }) end
      → HasRegraded tells (record { place = clock; visit = a; notes = None; end = was }) (record { place = clock'; visit = b; notes = None; end = was })
  visit_regraded a b r = record {
    gone_on = record {
      goes_on = visit_goes a b (regrades_follow tells Visiting (λ (v : Visitor). lists_told (seen_in v.passes)) (record { desk = a; clock = clock }) (record { desk = b; clock = clock' }) end r);
      end = refl;
    };
    loop = end;
    regrades = regrades_with Visiting (λ (v : Visitor). v.passes) visit_with tells (record { desk = a; clock = clock }) (record { desk = b; clock = clock' }) end r;
    notes = quiet;
  }

  pub clerk_regraded : (a b : Clerk) → Regrades tells Answers clerk_sees (record { desk = a; clock = clock }) (record { desk = b; clock = clock' }) end
      → HasRegraded tells (record { place = clock; visit = a.visit; notes = Some a.notes; end = was }) (record { place = clock'; visit = b.visit; notes = Some b.notes; end = was })
  clerk_regraded a b r = record {
    gone_on = record {
      goes_on = clerk-goes a b (regrades_follow tells Answers clerk_sees (record { desk = a; clock = clock }) (record { desk = b; clock = clock' }) end r);
      end = refl;
    };
    loop = end;
    regrades = regrades_with Answers (λ (c : Clerk). c.visit.passes) clerk_with tells (record { desk = a; clock = clock }) (record { desk = b; clock = clock' }) end r;
    notes = noting a.notes b.notes r;
  }
