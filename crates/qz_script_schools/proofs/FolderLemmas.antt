-- A school whose lists keepers keep, as a desk; and how a command ends that serves the school of a folder.
use Rattle.std.proofs.Common.{◌≡◌, ◌⊎◌, ℕ, ◌≤◌, List, length, Option, Some, None, is_some, IfSome, Ok, Err, inl, inr, refl, sym, ◌∙◌, subst, arith}
use Rattle.std.specs.Io.KnownBytes.{Keeps}
use Rattle.std.proofs.lemmas.List.{length-map}
use Rattle.qz_asking.specs.Following.{Follows, asked, stays}
use Rattle.qz_disks.specs.Shelves.{File, Files, NoneOutIn, RisesBy, place}
use Rattle.qz_ending.specs.declared.stop.Stop.{Stop}
use Rattle.qz_ending.specs.declared.stop.Stop.TheVariants as stop
use Rattle.qz_ending.specs.Endings.{Outside, status_of}
use Rattle.qz_found.specs.FoundEndings.{Shelved, Sunk}
use Rattle.qz_journal.specs.Journals.{Ledger}
use Rattle.qz_loading.specs.declared.fault.LoadFault.{LoadFault}
use Rattle.qz_loading.specs.declared.fault.LoadFault.TheVariants as fault
use Rattle.qz_loading.specs.Closing.{IsBack, PartsAreBack, StandForList}
use Rattle.qz_loading.specs.Opening.{IsLoadedFrom}
use Rattle.qz_folders.specs.Names.{catalog_name, part_name}
use Rattle.qz_loading.specs.Places.{IsOut, KeepsElsewhere, catalog_place, part_place}
use Rattle.qz_loading.proofs.Standing.{same_twice}
use Rattle.qz_opening.specs.Restarting.{Reopens}
use Rattle.qz_opening.specs.Unloaded.{IsUnloaded, UnloadedBy}
use Rattle.qz_outside.specs.Causes.{HasRisen}
use Rattle.qz_shard.specs.Keeping as part
use Rattle.qz_school.specs.Answering.{IsServed}
use Rattle.qz_school.specs.Solos.{GoOn, School, faults_of, held_of, lists_in}
use Rattle.qz_school.proofs.Keepers.{fails_in_all, go_both, go_none, goes_in_all}
use Rattle.qz_serial.specs.Once.{AskedOnce}
use Rattle.qz_serial.proofs.Staying.{asks_grow}
use Rattle.qz_solo.specs.Standing.{StandAsSchool}
use Rattle.qz_terms.specs.declared.ask.Ask.{Ask}
use Rattle.qz_terms.specs.declared.reply.Reply.{Reply}
use Rattle.qz_terms.specs.Serial.{Held}
use Rattle.qz_script_schools.specs.Folders.{Disks, FolderEnds, IsGivenBack, IsStanding, ScriptFolderEnds, ServedAlone, ServedFolder, ServesFolder, Unserved, disk_faults, seen_of, sunk}
use Rattle.qz_script.specs.Retries.{AnswersOnce}
use Rattle.qz_script.specs.Scripts.{HasRisenBy, ServeEnds}
use Rattle.qz_script.proofs.ScriptLemmas.{serves_all}

-- ---- as a desk

-- a keeper that is said to have failed has counted it
by_count : {K : Type 0} (sound : K → Type 0) (faults : K → ℕ) (a b : School K) (now : ℕ) (ask : Ask) (r : Reply) → IsServed sound faults a b now ask r → AskedOnce (HasRisen (faults_of faults a) (faults_of faults b)) (lists_in a) (lists_in b) now ask r
by_count sound faults a b now ask r s = record {
  asks = s.once.asks;
  cause = λ told. (fails_in_all sound faults a b s.goes_on (s.once.cause told)).rose;
  stands = s.once.stands;
  stays = s.once.stays;
  again = s.once.again;
}

pub school_answers_once : {K : Type 0} (sound : K → Type 0) (faults : K → ℕ) → AnswersOnce lists_in (faults_of faults) (IsServed sound faults)
school_answers_once sound faults = record { once = by_count sound faults; later = λ a b now ask r s. (goes_in_all sound faults a b s.goes_on).later }

-- ---- what requests leave

count_held : {K : Type 0} (parts : List (part.Keeping K)) → length (held_of parts) ≡ length parts
count_held parts = length-map parts (λ s. s.held)

served-count : {K : Type 0} (sound : K → Type 0) (faults : K → ℕ) (a b : School K) (now : ℕ) (ask : Ask) (r : Reply) → IsServed sound faults a b now ask r → length b.parts ≡ length a.parts
served-count sound faults a b now ask r s = sym (count_held b.parts) ∙ (asks_grow (lists_in a) (lists_in b) now ask r s.once.asks).count ∙ count_held a.parts

pub follows_count : {K : Type 0} (sound : K → Type 0) (faults : K → ℕ) (a b : School K) → Follows (IsServed sound faults) a b → length b.parts ≡ length a.parts
follows_count sound faults a _ (stays _) = refl
follows_count sound faults a b (asked _ m _ now ask r front last) = served-count sound faults m b now ask r last ∙ follows_count sound faults a m front

pub follows_goes : {K : Type 0} (sound : K → Type 0) (faults : K → ℕ) (a b : School K) → Follows (IsServed sound faults) a b → GoOn sound faults a b
follows_goes sound faults a _ (stays _) = go_none sound faults a
follows_goes sound faults a b (asked _ m _ now ask r front last) = go_both sound faults a m b (follows_goes sound faults a m front) last.goes_on

pub follows_later : {K : Type 0} (sound : K → Type 0) (faults : K → ℕ) (a b : School K) → Follows (IsServed sound faults) a b → faults_of faults a ≤ faults_of faults b
follows_later sound faults a b on = (goes_in_all sound faults a b (follows_goes sound faults a b on)).later

-- ---- the shelf

pub out_as_many : (folder : List ℕ) (n k : ℕ) (files : Files) → k ≡ n → IsOut folder n files → IsOut folder k files
out_as_many folder n k files same out = subst (λ (m : ℕ). IsOut folder m files) (sym same) out

elsewhere-on : (folder : List ℕ) (n k : ℕ) (a b c : Files) → k ≡ n → KeepsElsewhere folder n a b → KeepsElsewhere folder k b c → KeepsElsewhere folder n a c
elsewhere-on folder n k a b c same one other = by (subst (λ (m : ℕ). KeepsElsewhere folder m b c) same other)
  where
    by : KeepsElsewhere folder n b c → KeepsElsewhere folder n a c
    by two = record { is_out = λ at e. two.is_out at e ∙ one.is_out at e; file = λ at e. same_twice (a.file at) (b.file at) (c.file at) (one.file at e) (two.file at e) }

rises-past : (before mid now n : ℕ) → before ≤ mid → RisesBy n mid now → HasRisenBy before n now
rises-past before mid now n later rises = λ few. let more = rises.risen few in omega arith

often-past : (before mid now m n k : ℕ) → before ≤ mid → RisesBy n mid now → HasRisenBy m k n → HasRisenBy before k now
often-past before mid now m n k later rises told = λ few. let more = rises.risen few in let those = told (omega arith) in omega arith

-- ---- a school that is given back

-- a file that was told stands for its list
told-stands : (P : Type 0) (was is : Option (List ℕ)) (kept : Option (List (List ℕ))) → is_some was ≡ is_some is → is_some kept ≡ is_some is → IfSome kept (λ _. P) → IfSome was (λ _. P)
told-stands P None is kept same tells stands = tt
told-stands P (Some bytes) is None same tells stands = absurd cc
told-stands P (Some bytes) is (Some payloads) same tells stands = stands

-- Shelves of a kind tell of the same files of a folder, of which none is out.
abbrev pub TellAlike : List ℕ → Files → Files → Type 0
TellAlike folder old new = (name : List ℕ) → is_some (old.file (place folder name)).reads ≡ is_some (new.file (place folder name)).reads

back-stands : {D : Type 0} (old new : File) (journal : Ledger D) (held : Held) → is_some old.reads ≡ is_some new.reads → IsBack journal held new → IsStanding held old new
back-stands old new journal held same back = told-stands (StandForList held new.left) old.reads new.reads journal.kept same back.tells back.stands

-- What loading, serving and closing come to.
pub given_back : {D : Type 0} (disks : Disks D) (folder : List ℕ) (old new : Shelved) (mid : Files) (count : ℕ) (a b : School (Ledger D))
    → TellAlike folder old.files new.files → IsLoadedFrom disks.moment disks.left_at folder old.files a.catalog a.parts → KeepsElsewhere folder (length a.parts) old.files mid → old.faults ≤ count
    → length b.parts ≡ length a.parts → disk_faults disks a ≤ disk_faults disks b
    → IsBack b.catalog.keeper b.catalog.held (new.files.file (catalog_place folder)) → PartsAreBack folder b.parts new.files → StandAsSchool (lists_in b) → KeepsElsewhere folder (length b.parts) mid new.files
    → RisesBy (disk_faults disks b) count new.faults → IsGivenBack disks folder old new a b
given_back disks folder old new mid count a b alike loaded apart later same fell catalog parts school others rises = record {
  loaded = loaded;
  count = same;
  later = fell;
  catalog = back-stands (old.files.file (catalog_place folder)) (new.files.file (catalog_place folder)) b.catalog.keeper b.catalog.held (alike catalog_name) catalog;
  parts = record {
    each = λ k s got. back-stands (old.files.file (part_place folder k)) (new.files.file (part_place folder k)) s.keeper s.held (alike (part_name k)) (parts.each k s got);
  };
  school = school;
  others = elsewhere-on folder (length a.parts) (length b.parts) old.files mid new.files same apart others;
  risen = rises-past old.faults count new.faults (disk_faults disks b) later rises;
  as_often = λ n told. often-past old.faults count new.faults (disk_faults disks a) (disk_faults disks b) n later rises told;
}

pub served_ends : {D : Type 0} (disks : Disks D) (folder : List ℕ) (serves : School (Ledger D) → School (Ledger D) → Option Stop → Type 0) (kept : Type 0) (old new : Shelved) (before now : Sunk) (a b : School (Ledger D)) (s : Option Stop)
    → Reopens folder old.files (Ok a) → IsGivenBack disks folder old new a b → serves a b s → NoneOutIn folder new.files → old.faults ≤ new.faults → FolderEnds disks folder serves kept old new before now s
served_ends disks folder serves kept old new before now a b s restarts back served inside later =
    record { by = inl (record { loaded = a; closed = b; restarts = restarts; back = back; served = served }); none_out = inside; later = later }

-- ---- files that don't give a school

pub record IsUnloadedFor (folder : List ℕ) (old new : Shelved) : Type 0 where
  pub cause : LoadFault
  pub unloaded : IsUnloaded folder old new cause

pub unloaded-for : (folder : List ℕ) (old new : Shelved) (before now : Sunk) (s : Stop) → UnloadedBy folder old new before now s → IsUnloadedFor folder old new
unloaded-for folder old new before now stop.BadWords u = absurd u
unloaded-for folder old new before now (stop.Malformed line) u = absurd u
unloaded-for folder old new before now (stop.Unreadable line rule) u = absurd u
unloaded-for folder old new before now stop.SourceFault u = absurd u
unloaded-for folder old new before now stop.SinkFault u = record { cause = u.cause; unloaded = u.unloaded }
unloaded-for folder old new before now stop.ShelfFault u = record { cause = fault.Fault; unloaded = u.unloaded }
unloaded-for folder old new before now stop.Refused u = record { cause = u.cause; unloaded = u.unloaded }
unloaded-for folder old new before now stop.Memory u = record { cause = u.cause; unloaded = u.unloaded }
unloaded-for folder old new before now stop.TooLong u = absurd u
unloaded-for folder old new before now stop.DoorFault u = absurd u
unloaded-for folder old new before now stop.Gap u = absurd u

unloaded_none_out : (folder : List ℕ) (old new : Shelved) (before now : Sunk) (s : Stop) → UnloadedBy folder old new before now s → NoneOutIn folder new.files
unloaded_none_out folder old new before now s u = (unloaded-for folder old new before now s u).unloaded.none_out

pub unloaded_ends : {D : Type 0} (disks : Disks D) (folder : List ℕ) (serves : School (Ledger D) → School (Ledger D) → Option Stop → Type 0) (kept : Type 0) (old new : Shelved) (before now : Sunk) (s : Stop) → UnloadedBy folder old new before now s → Reopens {D = D} folder old.files (Err s) → kept → old.faults ≤ new.faults
    → FolderEnds disks folder serves kept old new before now (Some s)
unloaded_ends disks folder serves kept old new before now s u restarts is later = record { by = inr (u, restarts, is); none_out = unloaded_none_out folder old new before now s u; later = later }

-- ---- all that nothing kept from being done

pub not_raised : (folder : List ℕ) (old new : Shelved) (before now : Sunk) (s : Stop) → UnloadedBy folder old new before now s → ¬ HasRisen before.faults now.faults → ¬ HasRisen old.faults new.faults → (status_of (Some s) ≡ 7) ⊎ (status_of (Some s) ≡ 8)
not_raised folder old new before now stop.BadWords u sink shelf = absurd u
not_raised folder old new before now (stop.Malformed line) u sink shelf = absurd u
not_raised folder old new before now (stop.Unreadable line rule) u sink shelf = absurd u
not_raised folder old new before now stop.SourceFault u sink shelf = absurd u
not_raised folder old new before now stop.SinkFault u sink shelf = absurd (sink u.risen)
not_raised folder old new before now stop.ShelfFault u sink shelf = absurd (shelf u.risen)
not_raised folder old new before now stop.Refused u sink shelf = inl refl
not_raised folder old new before now stop.Memory u sink shelf = inr refl
not_raised folder old new before now stop.TooLong u sink shelf = absurd u
not_raised folder old new before now stop.DoorFault u sink shelf = absurd u
not_raised folder old new before now stop.Gap u sink shelf = absurd u

pub unserved_status : {D : Type 0} (disks : Disks D) (folder : List ℕ) (kept : Type 0) (old new : Shelved) (before now : Sunk) (s : Option Stop) → Unserved disks folder kept old new before now s → ¬ HasRisen before.faults now.faults → ¬ HasRisen old.faults new.faults
    → (status_of s ≡ 7) ⊎ (status_of s ≡ 8)
unserved_status disks folder kept old new before now None u sink shelf = absurd u
unserved_status disks folder kept old new before now (Some s) u sink shelf = not_raised folder old new before now s u.0 sink shelf

pub serves_folder : {D : Type 0} (disks : Disks D) (folder : List ℕ) (limit : ℕ) (old new : Shelved) (before now : Outside) (s : Option Stop) → ScriptFolderEnds disks folder limit old new before now s → ServesFolder limit old new before now (status_of s)
serves_folder disks folder limit old new before now s e = record { done = λ text is within source sink shelf. by text is within source sink shelf e.by }
  where
    by : (text : List ℕ) → before.left ≡ Some text → length text ≤ limit → ¬ HasRisen before.source_faults now.source_faults → ¬ HasRisen before.sink_faults now.sink_faults → ¬ HasRisen old.faults new.faults
        → ServedFolder disks folder (ServedAlone disks (λ a b. ServeEnds limit a b before now s)) old new ⊎ Unserved disks folder (Keeps before.left now.left) old new (sunk before) (sunk now) s
        → (status_of s ≡ 0) ⊎ ((status_of s ≡ 7) ⊎ (status_of s ≡ 8))
    by text is within source sink shelf (inl done) = elim ((serves_all limit (seen_of disks done.loaded) (seen_of disks done.closed) before now s done.served.ends).done text is within source sink) [ inl all ↦ inl all | inr wanting ↦ inr (inr wanting) ]
    by text is within source sink shelf (inr not) = inr (unserved_status disks folder (Keeps before.left now.left) old new (sunk before) (sunk now) s not sink shelf)

pub unserved_folder : (folder : List ℕ) (limit : ℕ) (old new : Shelved) (before now : Outside) (s : Stop) → UnloadedBy folder old new (sunk before) (sunk now) s → ServesFolder limit old new before now (status_of (Some s))
unserved_folder folder limit old new before now s u = record { done = λ text is within source sink shelf. inr (not_raised folder old new (sunk before) (sunk now) s u sink shelf) }
