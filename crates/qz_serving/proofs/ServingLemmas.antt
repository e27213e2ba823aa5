-- How serving doors over the school of a folder ends.
use Rattle.std.proofs.Common.{◌≡◌, ◌⊎◌, ℕ, zero, suc, ◌+◌, ◌≤◌, Bool, true, false, ◌||◌, List, [], ◌∷◌, length, Option, Some, None, Result, Ok, Err, MatchResult, ◌<◌, inl, inr, refl, sym, ap, ◌∙◌, subst, arith, le_trans}
use Rattle.std.specs.Prelude.{bytes_eq, nat_lt, slice_get, sum_by}
use Rattle.std.specs.List.{list_any}
use Rattle.std.proofs.lemmas.Bool.{true≢false}
use Rattle.std.proofs.lemmas.List.{length-map}
use Rattle.std.proofs.lemmas.List.Sums.{sum_by-cons}
use Rattle.std.proofs.lemmas.Option.{slice_get_within}
use Rattle.std.proofs.lemmas.Slice.Eq.{bytes_eq-Decides}
use Rattle.qz_catalog_turns.specs.Turning.{tale_of}
use Rattle.qz_disks.specs.Shelves.{ChangesAt, Files, NoneOutIn, Place, place}
use Rattle.qz_asking.specs.Asking.{Answerer}
use Rattle.qz_doors.specs.declared.door.DoorEnd.{DoorEnd}
use Rattle.qz_ending.specs.declared.stop.Stop.{Stop}
use Rattle.qz_ending.specs.declared.stop.Stop.TheVariants as stop
use Rattle.qz_ending.specs.Endings.{status_of}
use Rattle.qz_found.specs.FoundEndings.{Shelved, Sunk}
use Rattle.qz_journal.specs.Journals.{IsSound, Ledger}
use Rattle.qz_loading.specs.Places.{IsElsewhere, KeepsElsewhere}
use Rattle.qz_opening.specs.Unloaded.{UnloadedBy}
use Rattle.qz_outside.specs.Causes.{HasRisen}
use Rattle.qz_regrading.specs.declared.ends.LoopEnd.{LoopEnd}
use Rattle.qz_regrading.specs.declared.ends.LoopEnd.TheVariants as ends
use Rattle.qz_regrading.specs.Loops.{AllDone}
use Rattle.qz_regrading.specs.Loops as loops
use Rattle.qz_regrading.proofs.Searching.{regrades_follow}
use Rattle.qz_script_schools.specs.Folders.{Disks, FolderEnds, IsGivenBack, ServedFolder, Unserved, disk_faults, journal_faults}
use Rattle.qz_script_schools.proofs.FolderLemmas.{follows_count, follows_later, not_raised, unloaded-for, unserved_status}
use Rattle.qz_shard.specs.Keeping as part
use Rattle.qz_serial.proofs.Seats.{within_there}
use Rattle.qz_school.specs.Answering.{IsServed}
use Rattle.qz_school.specs.Solos.{School, faults_of, lists_in}
use Rattle.qz_stations.specs.declared.ends.ServeEnd.{ServeEnd}
use Rattle.qz_stations.specs.Passing.{Lasts, ServesNone, ServesSchool, with_clock}
use Rattle.qz_stations.specs.Stations.{Serving, fault_replies, faults_in, faults_told}
use Rattle.qz_stations.proofs.Faults.{in_more}
use Rattle.qz_terms.specs.declared.record.Record.{Record}
use Rattle.qz_turn.specs.declared.view.Tale.{Tale}
use Rattle.qz_visit.specs.Closing.{AreClosed, Closes}
use Rattle.qz_visit.specs.Closing as closing
use Rattle.qz_visit.specs.Opening.{tales, told_by}
use Rattle.qz_visit.specs.Visits.{Seats, Tellings, seen_in}
use Rattle.qz_serving.specs.Folders.{DoorsFolderEnds, NoneServed, RisesAsOften, ServedDoors, ServedTogether, ServesDoors}
use Rattle.qz_served.specs.declared.saying.Served.{Served}
use Rattle.qz_served.specs.Saying.{SaysServed}
use Rattle.qz_serving.specs.Saying.{NoDoorFails, SaysOf, is_last_short, served_by}

-- ---- what those at its doors leave

closed-count : {K : Type 0} (faults : K → ℕ) (c : List Record) (n k : ℕ) (ts : List (Tale Record)) (ss : List (part.Keeping K)) → AreClosed faults c n k ts ss → length ss ≡ length ts
closed-count faults c n _ _ _ (closing.none k) = refl
closed-count faults c n _ _ _ (closing.more k t s ts ss is rest) = ap suc (closed-count faults c n (k + 1) ts ss rest)

pub closes_count : {K : Type 0} (faults : K → ℕ) (a b : School K) → Closes faults (told_by faults a) b → length b.parts ≡ length a.parts
closes_count faults a b c = closed-count faults b.catalog.held.list (length b.parts) 0 (tales faults a.parts) b.parts c.parts ∙ length-map a.parts (λ s. tale_of s.held (faults s.keeper))

closed-later : {K : Type 0} (faults : K → ℕ) (c : List Record) (n k : ℕ) (ts : List (Tale Record)) (ss : List (part.Keeping K)) → AreClosed faults c n k ts ss → faults_in ts ≤ sum_by (λ s. faults s.keeper) ss
closed-later faults c n _ _ _ (closing.none k) = omega arith
closed-later faults c n _ _ _ (closing.more k t s ts ss is rest) =
    let first = is.follows.faults in
    let others = closed-later faults c n (k + 1) ts ss rest in
    let before = in_more t ts in
    let after = sum_by-cons (λ (y : part.Keeping _). faults y.keeper) s ss in
    omega arith

-- its keepers had not failed more often when somebody saw them
seen-later : {K : Type 0} (faults : K → ℕ) (seen : Tellings) (b : School K) → Closes faults seen b → faults_told seen ≤ faults_of faults b
seen-later faults seen b c =
    let first = c.records.faults in
    let others = closed-later faults b.catalog.held.list (length b.parts) 0 seen.parts b.parts c.parts in
    omega arith

told-parts : {K : Type 0} (faults : K → ℕ) (ss : List (part.Keeping K)) → faults_in (tales faults ss) ≡ sum_by (λ s. faults s.keeper) ss
told-parts faults [] = refl
told-parts faults (s ∷ ss) = rw (in_more (tale_of s.held (faults s.keeper)) (tales faults ss), sum_by-cons (λ (y : part.Keeping _). faults y.keeper) s ss, told-parts faults ss) refl

-- how often its keepers had failed is told
told-faults : {K : Type 0} (faults : K → ℕ) (a : School K) → faults_told (told_by faults a) ≡ faults_of faults a
told-faults faults a = ap (λ (n : ℕ). faults a.catalog.keeper + n) (told-parts faults a.parts)

pub closes_later : {K : Type 0} (faults : K → ℕ) (a b : School K) → Closes faults (told_by faults a) b → faults_of faults a ≤ faults_of faults b
closes_later faults a b c = subst (λ (n : ℕ). n ≤ faults_of faults b) (told-faults faults a) (seen-later faults (told_by faults a) b c)

-- ---- a school that was served and regraded

-- what a last pass leaves of it
lasts_count : {K R C : Type 0} (tells : C → ℕ → C → Type 0) (sound : K → Type 0) (faults : K → ℕ) (regraders : ℕ) (a b : School K) (doors after : List (R × C)) (last : Option LoopEnd) → Lasts tells sound faults regraders a b doors after last → length b.parts ≡ length a.parts
lasts_count tells sound faults regraders a b doors after None is = ap (λ (x : School _). length x.parts) is.1
lasts_count tells sound faults regraders a b doors after (Some end) is = follows_count sound faults a b (regrades_follow tells (IsServed sound faults) lists_in _ _ end is.1.regrades)

lasts_later : {K R C : Type 0} (tells : C → ℕ → C → Type 0) (sound : K → Type 0) (faults : K → ℕ) (regraders : ℕ) (a b : School K) (doors after : List (R × C)) (last : Option LoopEnd) → Lasts tells sound faults regraders a b doors after last → faults_of faults a ≤ faults_of faults b
lasts_later tells sound faults regraders a b doors after None is = let same = ap (λ (x : School _). faults_of faults x) is.1 in omega (arith, same)
lasts_later tells sound faults regraders a b doors after (Some end) is = follows_later sound faults a b (regrades_follow tells (IsServed sound faults) lists_in _ _ end is.1.regrades)

clock_count : {R C : Type 0} (clock : C) (doors : List (R × C)) → length (with_clock clock doors) ≡ length doors
clock_count clock [] = refl
clock_count clock (d ∷ ds) = refl

lasts_many : {K R C : Type 0} (tells : C → ℕ → C → Type 0) (sound : K → Type 0) (faults : K → ℕ) (regraders : ℕ) (a b : School K) (doors after : List (R × C)) (last : Option LoopEnd) → Lasts tells sound faults regraders a b doors after last → length after ≡ length doors
lasts_many tells sound faults regraders a b doors after None is = ap length is.2
lasts_many tells sound faults regraders a b doors after (Some end) is = ap length is.1.doors ∙ clock_count is.1.clock doors

-- the door at a place, with some clock
record IsDoor {R C : Type 0} (doors : List (R × C)) (k : ℕ) (door : R) : Type 0 where
  clock : C
  there : slice_get doors k ≡ Some (door, clock)

clock_door : {R C : Type 0} (clock own : C) (doors : List (R × C)) (k : ℕ) (door : R) → slice_get doors k ≡ Some (door, own) → IsDoor (with_clock clock doors) k door
clock_door clock own [] k door at = absurd cc
clock_door clock own (d ∷ ds) zero door at = let same : d ≡ (door, own) = cc in record { clock = clock; there = ap (λ (x : _ × _). Some (x.0, clock)) same }
clock_door clock own (d ∷ ds) (suc k) door at = record { clock = own; there = at }

lasts_door : {K R C : Type 0} (tells : C → ℕ → C → Type 0) (sound : K → Type 0) (faults : K → ℕ) (regraders : ℕ) (a b : School K) (doors after : List (R × C)) (last : Option LoopEnd) → Lasts tells sound faults regraders a b doors after last
    → (own : C) (k : ℕ) (door : R) → slice_get doors k ≡ Some (door, own) → IsDoor after k door
lasts_door tells sound faults regraders a b doors after None is own k door at = subst (λ (l : List _). IsDoor l k door) (sym is.2) (record { clock = own; there = at })
lasts_door tells sound faults regraders a b doors after (Some end) is own k door at = subst (λ (l : List _). IsDoor l k door) (sym is.1.doors) (clock_door is.1.clock own doors k door at)

module _ {K R C E : Type 0} (sound : K → Type 0) (faults : K → ℕ) (serves : Serving R C) (workers regraders : ℕ) (a b : School K) (doors after : List (R × C)) where
  -- what serving a school came to
  abbrev pub Ends : Result ServeEnd E → Type 0
  Ends served = MatchResult served (ServesSchool sound faults serves workers regraders a b doors after) (λ _. ServesNone faults a b doors after)

  pub school_count : (served : Result ServeEnd E) → Ends served → length b.parts ≡ length a.parts
  school_count (Ok end) so = lasts_count serves.tells sound faults regraders so.left b so.after after end.last so.last ∙ closes_count faults a so.left so.closes
  school_count (Err e) so = closes_count faults a b so.closes

  pub school_later : (served : Result ServeEnd E) → Ends served → faults_of faults a ≤ faults_of faults b
  school_later (Ok end) so = le_trans (closes_later faults a so.left so.closes) (lasts_later serves.tells sound faults regraders so.left b so.after after end.last so.last)
  school_later (Err e) so = closes_later faults a b so.closes

  pub doors_as_many : (served : Result ServeEnd E) → Ends served → length after ≡ length doors
  doors_as_many (Ok end) so = lasts_many serves.tells sound faults regraders so.left b so.after after end.last so.last ∙ so.beside.as_many
  doors_as_many (Err e) so = ap length so.stay

-- ---- doors

-- a door that failed
record HasFaulty (ends : List DoorEnd) : Type 0 where
  place : ℕ
  end : DoorEnd
  there : slice_get ends place ≡ Some end
  failed : end.fault ≡ true

faulty : (ends : List DoorEnd) → list_any (λ e. e.fault) ends ≡ true → HasFaulty ends
faulty [] some = absurd cc
faulty (e ∷ es) some = by e.fault refl (faulty es)
  where
    by : (b : Bool) → e.fault ≡ b → (list_any (λ x. x.fault) es ≡ true → HasFaulty es) → HasFaulty (e ∷ es)
    by true is rest = record { place = zero; end = e; there = refl; failed = is }
    by false is rest = let found = rest (subst (λ (b : Bool). (b || list_any (λ x. x.fault) es) ≡ true) is some) in record { place = suc found.place; end = found.end; there = found.there; failed = found.failed }

-- what failed at a door shows in its count
abbrev pub Counts : {R C : Type 0} → Serving R C → (R → ℕ) → Type 0
Counts {R} {C} serves faults = (door served : R) (a b : Answerer Seats C) (end : DoorEnd) → serves.serves door served a b end → end.fault ≡ true → HasRisen (faults door) (faults served)

pub none_failed : {K R C : Type 0} (sound : K → Type 0) (count : K → ℕ) (serves : Serving R C) (faults : R → ℕ) (workers regraders : ℕ) (a b : School K) (doors after : List (R × C)) (end : ServeEnd) → Counts serves faults
    → ServesSchool sound count serves workers regraders a b doors after end → NoDoorFails faults doors after → end.doors.fault ≡ true → ⊥
none_failed sound count serves faults workers regraders a b doors after end counts so quiet failed =
    let one = faulty so.beside.ends (sym (ap (λ (e : DoorEnd). e.fault) so.beside.end_is) ∙ failed) in
    let within = slice_get_within so.beside.ends one.place one.end one.there in
    let many = so.beside.count_is in
    let long = so.beside.lasts_are in
    let its = within_there so.beside.lasts one.place (omega (arith, within, many, long)) in
    let here = so.beside.each one.place one.end its.0 one.there its.1 in
    let last = lasts_door serves.tells sound count regraders so.left b so.after after end.last so.last here.ticked one.place here.served here.after in
    quiet.each one.place (here.door, here.clock) (here.served, last.clock) here.before last.there (counts here.door here.served _ _ one.end here.going one.failed)

says-status : (old new : Option (List ℕ)) (before now : ℕ) (served : Served) (s : Option Stop) → SaysServed old new before now served s → ¬ HasRisen before now → (served.fault ≡ true → ⊥) → (status_of s ≡ 0) ⊎ (status_of s ≡ 8)
says-status old new before now served None says sink quiet = inl refl
says-status old new before now served (Some stop.BadWords) says sink quiet = absurd says
says-status old new before now served (Some (stop.Malformed line)) says sink quiet = absurd says
says-status old new before now served (Some (stop.Unreadable line rule)) says sink quiet = absurd says
says-status old new before now served (Some stop.SourceFault) says sink quiet = absurd says
says-status old new before now served (Some stop.SinkFault) says sink quiet = absurd (sink says.1)
says-status old new before now served (Some stop.Memory) says sink quiet = inr refl
says-status old new before now served (Some stop.TooLong) says sink quiet = absurd says
says-status old new before now served (Some stop.ShelfFault) says sink quiet = absurd says
says-status old new before now served (Some stop.Refused) says sink quiet = absurd says
says-status old new before now served (Some stop.DoorFault) says sink quiet = absurd (quiet says.1)
says-status old new before now served (Some stop.Gap) says sink quiet = absurd says

module _ {D R C : Type 0} (disks : Disks D) (workers regraders : ℕ) (serves : Serving R C) (doors after : List (R × C)) where
  doors-status : (faults : R → ℕ) (old new : Shelved) (before now : Sunk) (s : Option Stop) (a b : School (Ledger D)) → Counts serves faults
      → ServedDoors disks workers regraders serves doors after old new before now s a b ⊎ NoneServed disks doors after before now s a b → ¬ HasRisen before.faults now.faults → NoDoorFails faults doors after → (status_of s ≡ 0) ⊎ (status_of s ≡ 8)
  doors-status faults old new before now s a b counts (inl some) sink quiet =
      says-status before.holds now.holds before.faults now.faults (served_by some.end) s some.says sink (none_failed (IsSound disks.sound) (journal_faults disks) serves faults workers regraders a b doors after some.end counts some.school quiet)
  doors-status faults old new before now s a b counts (inr none) sink quiet = inr (ap status_of none.memory)

  pub serves_doors : (folder : List ℕ) (faults : R → ℕ) (old new : Shelved) (before now : Sunk) (s : Option Stop) → Counts serves faults
      → DoorsFolderEnds disks folder workers regraders serves doors after old new before now s → ServesDoors (NoDoorFails faults doors after) old new before now (status_of s)
  serves_doors folder faults old new before now s counts e = record { done = λ sink shelf quiet. by sink shelf quiet e.by }
    where
      by : ¬ HasRisen before.faults now.faults → ¬ HasRisen old.faults new.faults → NoDoorFails faults doors after
          → ServedFolder disks folder (ServedTogether disks workers regraders serves doors after old new before now s) old new ⊎ Unserved disks folder (after ≡ doors) old new before now s
          → (status_of s ≡ 0) ⊎ ((status_of s ≡ 7) ⊎ (status_of s ≡ 8))
      by sink shelf quiet (inl done) =
          elim (doors-status faults old new before now s done.loaded done.closed counts done.served.ends sink quiet) [
            | inl all ↦ inl all
            | inr wanting ↦ inr (inr wanting)
          ]
      by sink shelf quiet (inr not) = inr (unserved_status disks folder (after ≡ doors) old new before now s not sink shelf)

  -- ---- jobs

  -- where the last pass left work, a disk failed, and the shelf has counted it
  left-risen : (a left b : School (Ledger D)) (folder : List ℕ) (old new : Shelved) (n : ℕ) → disk_faults disks a ≤ disk_faults disks left → IsGivenBack disks folder old new a b → 0 < n → loops.HasRisenBy (disk_faults disks left) n (disk_faults disks b) → HasRisen old.faults new.faults
  left-risen a left b folder old new n later back some rose =
      let often = back.as_often n (λ few. let more = rose few in omega (arith, more, later)) in
      λ few. let more = often few in omega (arith, more, some)

  pub last_done : (a left b : School (Ledger D)) (folder : List ℕ) (old new : Shelved) (doors' : List (R × C)) (last : Option LoopEnd) → disk_faults disks a ≤ disk_faults disks left → IsGivenBack disks folder old new a b
      → Lasts serves.tells (IsSound disks.sound) (journal_faults disks) regraders left b doors' after last → is_last_short last ≡ false → 0 < regraders → ¬ HasRisen old.faults new.faults → AllDone (lists_in b)
  last_done a left b folder old new doors' None later back is short some quiet = let zero_is = is.0 in absurd (omega (arith, zero_is, some))
  last_done a left b folder old new doors' (Some ends.Done) later back is short some quiet = is.1.ends
  last_done a left b folder old new doors' (Some (ends.Left n)) later back is short some quiet = absurd (quiet (left-risen a left b folder old new n later back is.1.ends.0 is.1.ends.1))
  last_done a left b folder old new doors' (Some ends.Short) later back is short some quiet = absurd cc

  -- ---- replies

  -- what was seen at a door begins what was given back
  pub rises_as_often : (folder : List ℕ) (old new : Shelved) (a b : School (Ledger D)) (end : ServeEnd) (so : ServesSchool (IsSound disks.sound) (journal_faults disks) serves workers regraders a b doors after end) → IsGivenBack disks folder old new a b
      → RisesAsOften so.beside old.faults new.faults
  rises_as_often folder old new a b end so back = record { each = each }
    where
      last : disk_faults disks so.left ≤ disk_faults disks b
      last = lasts_later serves.tells (IsSound disks.sound) (journal_faults disks) regraders so.left b so.after after end.last so.last

      each : (k : ℕ) (e : DoorEnd) (p : Seats) (there : slice_get so.beside.ends k ≡ Some e) (its : slice_get so.beside.lasts k ≡ Some p) → loops.HasRisenBy old.faults (fault_replies (serves.replies (so.beside.each k e p there its).going)) new.faults
      each k e p there its =
          let at = so.beside.each k e p there its in
          let first = told-faults (journal_faults disks) a in
          let seen = seen-later (journal_faults disks) (seen_in p) so.left at.kept in
          back.as_often (fault_replies (serves.replies at.going)) (λ few. let more = at.as_often (omega (arith, seen, last, few)) in omega (arith, more, first, seen, last))

  -- what was served, and what was said of it
  pub said_of : {E : Type 0} (folder : List ℕ) (old new : Shelved) (before now : Sunk) (a b : School (Ledger D)) (served : Result ServeEnd E) (s : Option Stop)
      → Ends (IsSound disks.sound) (journal_faults disks) serves workers regraders a b doors after served → IsGivenBack disks folder old new a b → SaysOf before.holds now.holds before.faults now.faults served s
      → ServedTogether disks workers regraders serves doors after old new before now s a b
  said_of folder old new before now a b (Ok end) s so back says = record {
    ends = inl (record { end = end; school = so; as_often = rises_as_often folder old new a b end so back; says = says });
    worked = λ is some quiet.
        let done = subst (SaysServed before.holds now.holds before.faults now.faults (served_by end)) is says in
        last_done a so.left b folder old new so.after end.last (closes_later (journal_faults disks) a so.left so.closes) back so.last (or-false (nat_lt 0 end.doors.short) (is_last_short end.last) done.2) some quiet;
  }
    where
      or-false : (p q : Bool) → p || q ≡ false → q ≡ false
      or-false true q is = absurd cc
      or-false false q is = is
  said_of folder old new before now a b (Err e) s so back says = record {
    ends = inr (record { school = so; memory = says.0; unwritten = says.1 });
    worked = λ is some quiet. let memory = says.0 in absurd cc;
  }

pub unserved_doors : (none_fails : Type 0) (folder : List ℕ) (old new : Shelved) (before now : Sunk) (s : Stop) → UnloadedBy folder old new before now s → ServesDoors none_fails old new before now (status_of (Some s))
unserved_doors none_fails folder old new before now s u = record { done = λ sink shelf quiet. inr (not_raised folder old new before now s u sink shelf) }
