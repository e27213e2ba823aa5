-- A school that was served by clerks, whose notes were gathered.
use Rattle.std.proofs.Common.{◌≡◌, ℕ, ◌+◌, ◌-◌, ◌≤◌, List, ◌++◌, Option, Result, Ok, Err, length, refl, sym, ap, ◌∙◌, subst, arith}
use Rattle.qz_gather.specs.declared.note.Note.{Note}
use Rattle.qz_gather.specs.Notes.{AreTrueOf}
use Rattle.qz_gathering.specs.declared.gathering.GatherFault.{GatherFault}
use Rattle.qz_gathering.specs.declared.gathering.GatherFault.TheVariants as fault
use Rattle.qz_gathering.specs.Gathering.{EachTrueOf, Gathers, all_notes}
use Rattle.qz_doors.specs.declared.door.DoorEnd.{DoorEnd}
use Rattle.qz_regrading.specs.declared.ends.LoopEnd.{LoopEnd}
use Rattle.qz_school.specs.Solos.{School, lists_in}
use Rattle.qz_stations.specs.Noting.{AreBooksOf, ServesNoting}
use Rattle.qz_stations.specs.Passing.{Lasts, ServesNone}
use Rattle.qz_stations.specs.Stations.{Serving}
use Rattle.qz_stations.proofs.Books.{noted_kept, works_kept}
use Rattle.qz_stations.proofs.Putting.{grown_with}
use Rattle.qz_stations.proofs.Serving.{beside_kept, regraded_kept}
use Rattle.qz_terms.specs.Serial.{Lists}
use Rattle.qz_visit.specs.declared.last.Last.{Last}
use Rattle.qz_visit.specs.Closing.{Closes, HasGrownBy}
use Rattle.qz_visit.specs.Opening.{told_by}
use Rattle.qz_visit.specs.Visits.{Locks, Seats, Tellings, seen_in}
use Rattle.qz_visit.proofs.Seeing.{closes_from}
use Rattle.qz_audit.specs.declared.auditing.AuditEnd.{AuditEnd}
use Rattle.qz_audit.specs.Audits.{Audits, Finds, found_of, records_in}

pub each_true : (t : Tellings) (books : List (List Note)) → AreBooksOf t books → EachTrueOf t books
each_true t books are = record { each = are.each }

finds : (a b : Lists) (base : Last) (notes : List Note) (r : Result (List Note) GatherFault) → records_in a ≤ records_in b → Gathers b base notes r → Finds a b base notes (found_of r (records_in b - records_in a))
finds a b base notes (Ok all) more g = (g.1, omega (arith, more))
finds a b base notes (Err (fault.Gap list place)) more g = g
finds a b base notes (Err fault.Memory) more g = tt

module _ {K D C : Type 0} (sound : K → Type 0) (faults : K → ℕ) (serves : Serving D C) (workers regraders : ℕ) (a left b : School K) (school : Locks) (passes : Seats) (base : Last) (old after new : List (D × C)) (end : DoorEnd) (books : List (List Note)) (last : Option LoopEnd)
    (n : ServesNoting faults serves workers regraders a school passes base old after end books) (c : Closes faults (seen_in passes) left) (grown : HasGrownBy school passes left) where
  -- each list goes on from what it was
  pub goes_on : Closes faults (told_by faults a) left
  goes_on = closes_from faults (told_by faults a) (seen_in passes) left n.follows c

  pub audits : (found : Result ℕ GatherFault) → AreTrueOf (told_by faults left) (all_notes books) → Finds (lists_in a) (lists_in left) base (all_notes books) found → Lasts serves.tells sound faults regraders left b after new last
      → Audits sound faults serves workers regraders a b old new (record { doors = end; gathered = found; last = last })
  audits found truly is lasts = record {
    served = record {
      left = left;
      closes = goes_on;
      after = after;
      beside = beside_kept serves (told_by faults a) (told_by faults a) _ _ workers old after end refl (λ t on. closes_from faults t (seen_in passes) left on c) n.beside;
      regraded = regraded_kept serves.tells (told_by faults a) _ _ regraders (λ t on. closes_from faults t (seen_in passes) left on c) n.regraded;
      grows = grown_with school a left passes (n.beside.lasts ++ n.regraded.lasts) n.starts n.own grown n.puts;
      last = lasts;
    };
    books = books;
    many = n.many;
    noted = noted_kept serves (told_by faults a) _ _ workers old after end books (λ t on. closes_from faults t (seen_in passes) left on c) n.noted;
    worked = works_kept serves.tells (told_by faults a) _ _ workers regraders books (λ t on. closes_from faults t (seen_in passes) left on c) n.worked;
    true_of = truly;
    base = base;
    long = n.long;
    finds = is;
  }

-- what was found, by the numbers of records that were counted before and afterwards
pub finds_counted : (a b : Lists) (base : Last) (notes : List Note) (r : Result (List Note) GatherFault) (found : Result ℕ GatherFault) (before later : ℕ) → records_in a ≤ records_in b → before ≡ records_in a → later ≡ records_in b → found ≡ found_of r (later - before) → Gathers b base notes r → Finds a b base notes found
finds_counted a b base notes r found before later more one other is g =
    subst (Finds a b base notes) (sym (is ∙ ap (λ (n : ℕ). found_of r (n - before)) other ∙ ap (λ (n : ℕ). found_of r (records_in b - n)) one)) (finds a b base notes r more g)
