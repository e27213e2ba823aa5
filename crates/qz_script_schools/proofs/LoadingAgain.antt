-- A school that was given back is loaded again.
use Rattle.std.proofs.Common.{◌≡◌, ◌⊎◌, inl, inr, ℕ, zero, suc, ◌+◌, ◌<◌, Bool, true, List, [], ◌∷◌, ◌++◌, Option, Some, None, Ok, Err, Result, MatchResult, IfSome, is_some, length, map, refl, sym, ap, ◌∙◌, subst, arith}
use Rattle.std.specs.List.{AllZip}
use Rattle.std.specs.Prelude.{All, IfOk, slice_get}
use Rattle.std.proofs.lemmas.Option.{slice_get_within}
use Rattle.qz_disks.specs.Shelves.{File, Files}
use Rattle.qz_found.specs.FoundEndings.{Shelved}
use Rattle.qz_journal.specs.Journals.{Ledger}
use Rattle.qz_keeper.specs.Lists.{EachMayStand}
use Rattle.qz_loading.specs.declared.fault.LoadFault.{LoadFault}
use Rattle.qz_loading.specs.declared.fault.LoadFault.TheVariants.{Fault, Memory}
use Rattle.qz_loading.specs.Closing.{StandForList, stands_with}
use Rattle.qz_loading.specs.Opening.{IsLoadedFrom}
use Rattle.qz_loading.specs.Opening as opening
use Rattle.qz_loading.specs.Places.{catalog_place, part_place}
use Rattle.qz_record.specs.Records.{IsRecord}
use Rattle.qz_school.specs.Solos.{School, held_of, lists_in}
use Rattle.qz_serial.proofs.Seats.{same_held}
use Rattle.qz_script_schools.specs.Again.{AreLeft, AreSettled, IsLeft}
use Rattle.qz_script_schools.specs.Folders.{Disks, IsGivenBack, IsStanding}
use Rattle.qz_shard.specs.Keeping as part
use Rattle.qz_solo.specs.Restarting.{Restarts, StandsFor}
use Rattle.qz_solo.proofs.Standing.{held_there}
use Rattle.qz_terms.specs.declared.record.Record.{Record}
use Rattle.qz_terms.specs.Legal.{IsSchool}
use Rattle.qz_terms.specs.Serial.{AllMended, Held, Lists, Mended, adopted, dropped, lists_of, stays, with_list}

-- ---- one file

-- of the lists that may stand, the one that a file stands for
record Chosen (held : Held) (file : File) : Type 0 where
  list : List Record
  mends : Mended held (with_list list)
  stands : StandsFor file list

abbrev held_by : List Record → Option Record → Held
held_by list doubt = record { list = list; doubt = doubt }

chosen-by : (list : List Record) (doubt : Option Record) (file : File) (bytes : List ℕ) → file.reads ≡ Some bytes → EachMayStand (All IsRecord) (held_by list doubt) → stands_with list doubt bytes → Chosen (held_by list doubt) file
chosen-by list None file bytes reads records is = record { list = list; mends = stays (with_list list); stands = record { bytes = bytes; told = reads; stands = is; records = records.without } }
chosen-by list (Some r) file bytes reads records (inl is) = record { list = list; mends = dropped list r; stands = record { bytes = bytes; told = reads; stands = is; records = records.without } }
chosen-by list (Some r) file bytes reads records (inr is) = record { list = list ++ r ∷ []; mends = adopted list r; stands = record { bytes = bytes; told = reads; stands = is; records = records.with_doubt } }

was-told : (P : Type 0) (reads : Option (List ℕ)) → is_some reads ≡ true → IfSome reads (λ _. P) → P
was-told P None told p = absurd cc
was-told P (Some bytes) told p = p

chosen : (held : Held) (old new next : File) → IsLeft old new next → IsStanding held old new → EachMayStand (All IsRecord) held → Chosen held next
chosen held old new next left standing records =
    let stand = was-told (StandForList held new.left) old.reads left.was_told standing in
    chosen-by held.list held.doubt next left.bytes left.reads records (stand.each left.bytes left.left)

-- ---- the shards' files

-- the lists that the files of these shards stand for, the first of which has this index
record ChosenFrom {D : Type 0} (folder : List ℕ) (files : Files) (first : ℕ) (ss : List (part.Keeping (Ledger D))) : Type 0 where
  lists : List (List Record)
  mends : AllZip Mended (held_of ss) (map with_list lists)
  stands : (k : ℕ) (h : List Record) → slice_get lists k ≡ Some h → StandsFor (files.file (part_place folder (first + k))) h

chosen-next : {D : Type 0} (folder : List ℕ) (files : Files) (first : ℕ) (s : part.Keeping (Ledger D)) (ss : List (part.Keeping (Ledger D))) → Chosen s.held (files.file (part_place folder (first + 0))) → ChosenFrom folder files (first + 1) ss → ChosenFrom folder files first (s ∷ ss)
chosen-next folder files first s ss one more = record { lists = one.list ∷ more.lists; mends = (one.mends, more.mends); stands = at_each }
  where
    at_each : (k : ℕ) (h : List Record) → slice_get (one.list ∷ more.lists) k ≡ Some h → StandsFor (files.file (part_place folder (first + k))) h
    at_each zero h is = let same : one.list ≡ h = cc in subst (λ (l : List Record). StandsFor (files.file (part_place folder (first + 0))) l) same one.stands
    at_each (suc k) h is = subst (λ (n : ℕ). StandsFor (files.file (part_place folder n)) h) (omega arith) (more.stands k h is)

chosen-from : {D : Type 0} (folder : List ℕ) (files : Files) (first : ℕ) (ss : List (part.Keeping (Ledger D))) → ((k : ℕ) (s : part.Keeping (Ledger D)) → slice_get ss k ≡ Some s → Chosen s.held (files.file (part_place folder (first + k)))) → ChosenFrom folder files first ss
chosen-from folder files first [] each = record { lists = []; mends = tt; stands = λ k h is. absurd cc }
chosen-from folder files first (s ∷ ss) each =
    chosen-next folder files first s ss (each 0 s refl) (chosen-from folder files (first + 1) ss (λ k t is. subst (λ (n : ℕ). Chosen t.held (files.file (part_place folder n))) (omega arith) (each (suc k) t is)))

-- ---- lists that are loaded

lists-with : (ls : List (List Record)) → lists_of (map with_list ls) ≡ ls
lists-with [] = refl
lists-with (l ∷ ls) = ap (λ (m : List (List Record)). l ∷ m) (lists-with ls)

-- shards without a record in doubt are their lists
clear-parts : {D : Type 0} (ss : List (part.Keeping (Ledger D))) → ((k : ℕ) (s : part.Keeping (Ledger D)) → slice_get ss k ≡ Some s → s.held.doubt ≡ None) → held_of ss ≡ map with_list (opening.lists_of ss)
clear-parts [] clear = refl
clear-parts (s ∷ ss) clear = ap (λ (h : Held). h ∷ held_of ss) (same_held s.held s.held.list refl (clear 0 s refl)) ∙ ap (λ (hs : List Held). with_list s.held.list ∷ hs) (clear-parts ss (λ k t is. clear (suc k) t is))

clear-with : (ls : List (List Record)) (k : ℕ) (h : Held) → slice_get (map with_list ls) k ≡ Some h → h.doubt ≡ None
clear-with [] k h is = absurd cc
clear-with (l ∷ ls) zero h is = let same : with_list l ≡ h = cc in ap (λ (x : Held). x.doubt) (sym same)
clear-with (l ∷ ls) (suc k) h is = clear-with ls k h is

abbrev clear_lists : List Record → List (List Record) → Lists
clear_lists c ls = record { records = with_list c; parts = map with_list ls }

settled : {D : Type 0} (disks : Disks D) (folder : List ℕ) (next : Files) (b : Lists) (c : List Record) (ls : List (List Record)) (result : Result (School (Ledger D)) LoadFault) → AllMended b (clear_lists c ls)
    → IfOk result (λ made. IsLoadedFrom disks.moment disks.left_at folder next made.catalog made.parts) → MatchResult result (λ made. (made.catalog.held.list ≡ c) × (opening.lists_of made.parts ≡ ls)) (λ cause. (cause ≡ Fault) ⊎ (cause ≡ Memory))
    → MatchResult result (λ made. AreSettled b (lists_in made)) (λ cause. (cause ≡ Fault) ⊎ (cause ≡ Memory))
settled disks folder next b c ls (Ok made) mended loaded same =
    let records : made.catalog.held ≡ with_list c = same_held made.catalog.held c same.0 loaded.catalog_is.loaded.no_doubt in
    let parts : held_of made.parts ≡ map with_list ls = clear-parts made.parts (λ k s is. (loaded.parts_are.each k s is).loaded.no_doubt) ∙ ap (map with_list) same.1 in
    let is : lists_in made ≡ clear_lists c ls = ap (λ (h : Held). let l : Lists = record { records = h; parts = held_of made.parts } in l) records ∙ ap (λ (hs : List Held). let l : Lists = record { records = with_list c; parts = hs } in l) parts in
    subst (AreSettled b) (sym is) (record { mended = mended; clear = record { records = refl; parts = clear-with ls } })
settled disks folder next b c ls (Err cause) mended loaded same = same

from-first : (k : ℕ) → k ≡ 0 + k
from-first k = omega arith

pub loaded_again : {D : Type 0} (disks : Disks D) (folder : List ℕ) (old new : Shelved) (a b : School (Ledger D)) (next : Files) (result : Result (School (Ledger D)) LoadFault)
    → IsGivenBack disks folder old new a b → AreLeft folder (length b.parts) old.files new.files next
    → IfOk result (λ made. IsLoadedFrom disks.moment disks.left_at folder next made.catalog made.parts) → Restarts folder next result
    → MatchResult result (λ made. AreSettled (lists_in b) (lists_in made)) (λ cause. (cause ≡ Fault) ⊎ (cause ≡ Memory))
loaded_again disks folder old new a b next result back left loaded restarts =
    let at = catalog_place folder in
    let records = back.school.records in
    let one = chosen b.catalog.held (old.files.file at) (new.files.file at) (next.file at) left.catalog back.catalog records.records in
    let all = chosen-from folder next 0 b.parts (λ k s is.
    subst (λ (n : ℕ). Chosen s.held (next.file (part_place folder n))) (from-first k) (chosen s.held (old.files.file (part_place folder k)) (new.files.file (part_place folder k)) (next.file (part_place folder k)) (left.parts k (slice_get_within b.parts k s is)) (back.parts.each k s is)
    (records.parts k s.held (held_there b.parts k s is)))) in
    let mended : AllMended (lists_in b) (clear_lists one.list all.lists) = record { records = one.mends; parts = all.mends } in
    let school : IsSchool one.list all.lists = subst (IsSchool one.list) (lists-with all.lists) (back.school.each (clear_lists one.list all.lists) mended) in
    settled disks folder next (lists_in b) one.list all.lists result mended loaded (restarts.each one.list all.lists (record { school = school; catalog_file = one.stands; part_files = λ k h is. subst (λ (n : ℕ). StandsFor (next.file (part_place folder n)) h) (sym (from-first k)) (all.stands k h is) }))
