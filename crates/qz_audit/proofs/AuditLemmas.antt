-- How serving doors by clerks over the school of a folder ends.
use Rattle.std.proofs.Common.{◌≡◌, ◌⊎◌, ℕ, ◌≤◌, Bool, true, false, ◌||◌, List, length, Option, Some, None, Result, Ok, Err, MatchResult, ◌<◌, inl, inr, refl, ap, subst}
use Rattle.std.specs.Prelude.{nat_lt}
use Rattle.qz_ending.specs.declared.stop.Stop.{Stop}
use Rattle.qz_ending.specs.declared.stop.Stop.TheVariants as stop
use Rattle.qz_ending.specs.Endings.{status_of}
use Rattle.qz_found.specs.FoundEndings.{Shelved, Sunk}
use Rattle.qz_journal.specs.Journals.{IsSound, Ledger}
use Rattle.qz_opening.specs.Unloaded.{UnloadedBy}
use Rattle.qz_outside.specs.Causes.{HasRisen}
use Rattle.qz_script_schools.specs.Folders.{Disks, IsGivenBack, ServedFolder, Unserved, journal_faults}
use Rattle.qz_script_schools.proofs.FolderLemmas.{not_raised, unserved_status}
use Rattle.qz_school.specs.Solos.{School, faults_of}
use Rattle.qz_serving.specs.Folders.{NoneServed}
use Rattle.qz_serving.specs.Saying.{NoDoorFails, is_last_short}
use Rattle.qz_serving.proofs.ServingLemmas.{Counts, Ends, closes_later, doors_as_many, last_done, none_failed, rises_as_often, school_count, school_later}
use Rattle.qz_stations.specs.declared.ends.ServeEnd.{ServeEnd}
use Rattle.qz_stations.specs.Passing.{ServesNone}
use Rattle.qz_stations.specs.Stations.{Serving}
use Rattle.qz_audit.specs.declared.auditing.AuditEnd.{AuditEnd}
use Rattle.qz_audit.specs.Audits.{Audits, serve_end}
use Rattle.qz_audit.specs.Folders.{AuditFolderEnds, AuditedDoors, AuditedTogether, AuditsDoors}
use Rattle.qz_audit.specs.Saying.{SaysAudited, SaysOf, is_wanting}

-- ---- what auditing a school came to

-- how serving it ended
abbrev served_end : {E : Type 0} → Result AuditEnd E → Result ServeEnd E
served_end (Ok end) = Ok (serve_end end)
served_end (Err e) = Err e

module _ {K R C E : Type 0} (sound : K → Type 0) (faults : K → ℕ) (serves : Serving R C) (workers regraders : ℕ) (a b : School K) (doors after : List (R × C)) where
  abbrev pub AuditEnds : Result AuditEnd E → Type 0
  AuditEnds audited = MatchResult audited (Audits sound faults serves workers regraders a b doors after) (λ _. ServesNone faults a b doors after)

  as-served : (audited : Result AuditEnd E) → AuditEnds audited → Ends sound faults serves workers regraders a b doors after (served_end audited)
  as-served (Ok end) so = so.served
  as-served (Err e) so = so

  pub audit_count : (audited : Result AuditEnd E) → AuditEnds audited → length b.parts ≡ length a.parts
  audit_count audited so = school_count sound faults serves workers regraders a b doors after (served_end audited) (as-served audited so)

  pub audit_later : (audited : Result AuditEnd E) → AuditEnds audited → faults_of faults a ≤ faults_of faults b
  audit_later audited so = school_later sound faults serves workers regraders a b doors after (served_end audited) (as-served audited so)

  pub audit_doors : (audited : Result AuditEnd E) → AuditEnds audited → length after ≡ length doors
  audit_doors audited so = doors_as_many sound faults serves workers regraders a b doors after (served_end audited) (as-served audited so)

-- ---- status

-- 0, 8 or 11
abbrev Ran : ℕ → Type 0
Ran status = (status ≡ 0) ⊎ ((status ≡ 8) ⊎ (status ≡ 11))

says-status : (old new : Option (List ℕ)) (before now : ℕ) (end : AuditEnd) (s : Option Stop) → SaysAudited old new before now end s → ¬ HasRisen before now → (end.doors.fault ≡ true → ⊥) → Ran (status_of s)
says-status old new before now end None says sink quiet = inl refl
says-status old new before now end (Some stop.BadWords) says sink quiet = absurd says
says-status old new before now end (Some (stop.Malformed line)) says sink quiet = absurd says
says-status old new before now end (Some (stop.Unreadable line rule)) says sink quiet = absurd says
says-status old new before now end (Some stop.SourceFault) says sink quiet = absurd says
says-status old new before now end (Some stop.SinkFault) says sink quiet = absurd (sink says.1)
says-status old new before now end (Some stop.Memory) says sink quiet = inr (inl refl)
says-status old new before now end (Some stop.TooLong) says sink quiet = absurd says
says-status old new before now end (Some stop.ShelfFault) says sink quiet = absurd says
says-status old new before now end (Some stop.Refused) says sink quiet = absurd says
says-status old new before now end (Some stop.DoorFault) says sink quiet = absurd (quiet says.2)
says-status old new before now end (Some stop.Gap) says sink quiet = inr (inr refl)

or-first : (p q : Bool) → p || q ≡ false → p ≡ false
or-first true q is = absurd cc
or-first false q is = refl

or-second : (p q : Bool) → p || q ≡ false → q ≡ false
or-second true q is = absurd cc
or-second false q is = is

module _ {D R C : Type 0} (disks : Disks D) (workers regraders : ℕ) (serves : Serving R C) (doors after : List (R × C)) where
  doors-status : (faults : R → ℕ) (old new : Shelved) (before now : Sunk) (s : Option Stop) (a b : School (Ledger D)) → Counts serves faults
      → AuditedDoors disks workers regraders serves doors after old new before now s a b ⊎ NoneServed disks doors after before now s a b → ¬ HasRisen before.faults now.faults → NoDoorFails faults doors after → Ran (status_of s)
  doors-status faults old new before now s a b counts (inl some) sink quiet =
      says-status before.holds now.holds before.faults now.faults some.end s some.says sink (none_failed (IsSound disks.sound) (journal_faults disks) serves faults workers regraders a b doors after (serve_end some.end) counts some.school.served quiet)
  doors-status faults old new before now s a b counts (inr none) sink quiet = inr (inl (ap status_of none.memory))

  pub audits_doors : (folder : List ℕ) (faults : R → ℕ) (old new : Shelved) (before now : Sunk) (s : Option Stop) → Counts serves faults
      → AuditFolderEnds disks folder workers regraders serves doors after old new before now s → AuditsDoors (NoDoorFails faults doors after) old new before now (status_of s)
  audits_doors folder faults old new before now s counts e = record { done = λ sink shelf quiet. by sink shelf quiet e.by }
    where
      by : ¬ HasRisen before.faults now.faults → ¬ HasRisen old.faults new.faults → NoDoorFails faults doors after
          → ServedFolder disks folder (AuditedTogether disks workers regraders serves doors after old new before now s) old new ⊎ Unserved disks folder (after ≡ doors) old new before now s
          → (status_of s ≡ 0) ⊎ ((status_of s ≡ 7) ⊎ ((status_of s ≡ 8) ⊎ (status_of s ≡ 11)))
      by sink shelf quiet (inl done) =
          elim (doors-status faults old new before now s done.loaded done.closed counts done.served.ends sink quiet) [
            | inl all ↦ inl all
            | inr other ↦ inr (inr other)
          ]
      by sink shelf quiet (inr not) = inr (elim (unserved_status disks folder (after ≡ doors) old new before now s not sink shelf) [ inl refused ↦ inl refused | inr wanting ↦ inr (inl wanting) ])

  -- what was audited, and what was said of it
  pub audited_of : {E : Type 0} (folder : List ℕ) (old new : Shelved) (before now : Sunk) (a b : School (Ledger D)) (audited : Result AuditEnd E) (s : Option Stop)
      → AuditEnds (IsSound disks.sound) (journal_faults disks) serves workers regraders a b doors after audited → IsGivenBack disks folder old new a b → SaysOf before.holds now.holds before.faults now.faults audited s
      → AuditedTogether disks workers regraders serves doors after old new before now s a b
  audited_of folder old new before now a b (Ok end) s so back says = record {
    ends = inl (record { end = end; school = so; as_often = rises_as_often disks workers regraders serves doors after folder old new a b (serve_end end) so.served back; says = says });
    worked = λ is some quiet.
        let done = subst (SaysAudited before.holds now.holds before.faults now.faults end) is says in
        let served = so.served in
        last_done disks workers regraders serves doors after a served.left b folder old new served.after end.last (closes_later (journal_faults disks) a served.left served.closes) back served.last
        (or-first (is_last_short end.last) (is_wanting end.gathered) (or-second (nat_lt 0 end.doors.short) (is_last_short end.last || is_wanting end.gathered) done.3)) some quiet;
  }
  audited_of folder old new before now a b (Err e) s so back says = record {
    ends = inr (record { school = so; memory = says.0; unwritten = says.1 });
    worked = λ is some quiet. let memory = says.0 in absurd cc;
  }

pub unserved_doors : (none_fails : Type 0) (folder : List ℕ) (old new : Shelved) (before now : Sunk) (s : Stop) → UnloadedBy folder old new before now s → AuditsDoors none_fails old new before now (status_of (Some s))
unserved_doors none_fails folder old new before now s u = record { done = λ sink shelf quiet. inr (elim (not_raised folder old new before now s u sink shelf) [ inl refused ↦ inl refused | inr wanting ↦ inr (inl wanting) ]) }
