-- A school in two databases that is served and given back, or isn't loaded.
use Rattle.std.proofs.Common.{◌≡◌, ◌⊎◌, ℕ, ◌≤◌, Bool, List, length, Option, Some, None, inl, inr, refl, ap, arith}
use Rattle.qz_disks.specs.Shelves.{RisesBy}
use Rattle.qz_ending.specs.declared.stop.Stop.{Stop}
use Rattle.qz_ending.specs.declared.stop.Stop.TheVariants as stop
use Rattle.qz_ending.specs.Endings.{Outside, status_of}
use Rattle.qz_outside.specs.Causes.{HasRisen}
use Rattle.qz_school.specs.Solos.{School}
use Rattle.qz_script.specs.Scripts.{HasRisenBy}
use Rattle.qz_script.proofs.ScriptLemmas.{serves_all}
use Rattle.qz_sqlbases.specs.Databases.{Lists}
use Rattle.qz_sqlfolders.specs.Folders.{AreTablesFound, Based, sql_telling}
use Rattle.qz_sqlite.specs.Loading.{AreStoredIn, IsLoadedFrom}
use Rattle.qz_sqlkeep.specs.Keeping.{Keeping}
use Rattle.qz_sqlscript.specs.SqlScripts.{AnswersDatabases, IsGivenBack, LeavesUnread, Serves, SqlEnds, Unserved, keeper_faults, seen_in}
use Rattle.sqlite_trees.specs.declared.store.Store.{Ghosts}

-- a school that was loaded has one shard
pub one_part : {S : Type 0} (tells : Bool) (store : Ghosts S) (token folder : List ℕ) (lists : Lists) (a : School (Keeping S)) → IsLoadedFrom (sql_telling tells store) (λ k. k.faults) (AreTablesFound store) token folder lists a → length a.parts ≡ 1
one_part tells store token folder lists a loaded = ap length loaded.is_read.part_is.parts_are

rises : (before now n : ℕ) → RisesBy n before now → HasRisenBy before n now
rises before now n rise = λ few. let more = rise.risen few in omega (arith, more)

rises_as_often : (before now m n k : ℕ) → RisesBy n before now → HasRisenBy m k n → HasRisenBy before k now
rises_as_often before now m n k rise told = λ few. let more = rise.risen few in let those = told (omega (arith, more, few)) in omega (arith, more, those)

pub given_back : {S : Type 0} (tells : Bool) (store : Ghosts S) (token folder : List ℕ) (old new : Based) (a b : School (Keeping S)) → IsLoadedFrom (sql_telling tells store) (λ k. k.faults) (AreTablesFound store) token folder old.lists a → AreStoredIn folder new.lists b
    → keeper_faults a ≤ keeper_faults b → RisesBy (keeper_faults b) old.faults new.faults → IsGivenBack tells store token folder old new a b
given_back tells store token folder old new a b loaded stored later rise = record {
  loaded = loaded;
  stored = stored;
  later = later;
  risen = rises old.faults new.faults (keeper_faults b) rise;
  as_often = λ n told. rises_as_often old.faults new.faults (keeper_faults a) (keeper_faults b) n rise told;
}

-- ---- all that nothing kept from being done

not_raised : (token folder : List ℕ) (old new : Based) (before now : Outside) (s : Stop) → LeavesUnread token folder old new before now s → ¬ HasRisen before.sink_faults now.sink_faults → ¬ HasRisen old.faults new.faults
    → (status_of (Some s) ≡ 7) ⊎ (status_of (Some s) ≡ 8)
not_raised token folder old new before now stop.BadWords u sink bases = absurd u.told
not_raised token folder old new before now (stop.Malformed line) u sink bases = absurd u.told
not_raised token folder old new before now (stop.Unreadable line rule) u sink bases = absurd u.told
not_raised token folder old new before now stop.SourceFault u sink bases = absurd u.told
not_raised token folder old new before now stop.SinkFault u sink bases = absurd (sink u.told.risen)
not_raised token folder old new before now stop.ShelfFault u sink bases = absurd (bases (u.unloaded.risen u.told.0))
not_raised token folder old new before now stop.Refused u sink bases = inl refl
not_raised token folder old new before now stop.Memory u sink bases = inr refl
not_raised token folder old new before now stop.TooLong u sink bases = absurd u.told
not_raised token folder old new before now stop.DoorFault u sink bases = absurd u.told
not_raised token folder old new before now stop.Gap u sink bases = absurd u.told

unserved_status : (token folder : List ℕ) (old new : Based) (before now : Outside) (s : Option Stop) → Unserved token folder old new before now s → ¬ HasRisen before.sink_faults now.sink_faults → ¬ HasRisen old.faults new.faults
    → (status_of s ≡ 7) ⊎ (status_of s ≡ 8)
unserved_status token folder old new before now None u sink bases = absurd u
unserved_status token folder old new before now (Some s) u sink bases = not_raised token folder old new before now s u sink bases

pub answers_all : {S : Type 0} (tells : Bool) (store : Ghosts S) (token folder : List ℕ) (limit : ℕ) (old new : Based) (before now : Outside) (s : Option Stop) → SqlEnds tells store token folder limit old new before now s
    → AnswersDatabases limit old new before now (status_of s)
answers_all tells store token folder limit old new before now s e = record { done = λ text is within source sink bases. by text is within source sink bases e.by }
  where
    by : (text : List ℕ) → before.left ≡ Some text → length text ≤ limit → ¬ HasRisen before.source_faults now.source_faults → ¬ HasRisen before.sink_faults now.sink_faults → ¬ HasRisen old.faults new.faults
        → Serves tells store token folder limit old new before now s ⊎ Unserved token folder old new before now s → (status_of s ≡ 0) ⊎ ((status_of s ≡ 7) ⊎ (status_of s ≡ 8))
    by text is within source sink bases (inl done) = elim ((serves_all limit (seen_in done.loaded) (seen_in done.closed) before now s done.ends).done text is within source sink) [ inl all ↦ inl all | inr wanting ↦ inr (inr wanting) ]
    by text is within source sink bases (inr not) = inr (unserved_status token folder old new before now s not sink bases)
