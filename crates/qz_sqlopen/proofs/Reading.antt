-- Lines that are read attempt by attempt, and how the command ends that writes them.
use Rattle.std.proofs.KnownBytes.{Keeps-refl}
use Rattle.std.proofs.Common.{Bool, ◌≡◌, ℕ, ◌+◌, ◌<◌, List, [], ◌∷◌, ◌++◌, length, take, flat_map, get_or, Some, sym, ap, subst, ◌∙◌}
use Rattle.std.proofs.lemmas.List.{append-nil, take_more}
use Rattle.std.proofs.lemmas.List.Concat.{flat_map-append}
use Rattle.qz_ending.specs.declared.stop.Stop.{Stop}
use Rattle.qz_ending.specs.declared.stop.Stop.TheVariants as stop
use Rattle.qz_found.specs.FoundEndings.{Sunk}
use Rattle.qz_grading.specs.declared.refusal.AttemptId.{AttemptId}
use Rattle.qz_sqlfolders.specs.Folders.{Based}
use Rattle.qz_sqlopen.specs.Open.{IsToldIn, IsUnread, OpenBy, line_in, lines_in, open_line, open_lines}
use Rattle.qz_sqlkeep.specs.Keeping.{IsReadingOf, Stands}
use Rattle.qz_sqlkeep.specs.Tables.{tables_of}
use Rattle.qz_sqltables.specs.Rows.{Tables, places_of, waiting}
use Rattle.qz_sqltables.specs.Schema.{HasTables}
use Rattle.qz_sqltables.specs.Statements.{Finds}
use Rattle.sqlite.specs.Effect.{Database}
use Rattle.sqlite.specs.State.{HasCleanDisk, State}
use Rattle.sqlite_trees.specs.declared.store.Store.{Ghosts}

-- where the disk returned what was written, the tables stay and these lines of them were read
pub record AreReadSoFar (attempts : List AttemptId) (old now : State) (lines : List ℕ) : Type 0 where
  pub clean : HasCleanDisk now → HasCleanDisk old
  pub stays : HasCleanDisk now → (t : Tables) → HasTables t old.now → HasTables t now.now
  pub are : HasCleanDisk now → (t : Tables) → HasTables t old.now → lines ≡ lines_in attempts t

pub none_read : (old : State) (lines : List ℕ) → lines ≡ [] → AreReadSoFar [] old old lines
none_read old lines is = record { clean = λ c. c; stays = λ c t has. has; are = λ c t has. is }

flat_map-one : (f : AttemptId → List ℕ) (xs : List AttemptId) (x : AttemptId) → flat_map f (xs ++ x ∷ []) ≡ flat_map f xs ++ f x
flat_map-one f xs x = flat_map-append f xs (x ∷ []) ∙ ap (λ (l : List ℕ). flat_map f xs ++ l) (append-nil (f x))

pub one_more_read : (attempts : List AttemptId) (i : ℕ) (a : AttemptId) (old now next : State) (lines longer : List ℕ) (steps : List ℕ) → i < length attempts → (d : AttemptId) → a ≡ get_or attempts i d → AreReadSoFar (take i attempts) old now lines
    → (HasCleanDisk next → HasCleanDisk now) → (HasCleanDisk next → Finds (places_of a) steps now next) → longer ≡ lines ++ open_line a (length steps) → AreReadSoFar (take (i + 1) attempts) old next longer
one_more_read attempts i a old now next lines longer steps within d is so_far clean finds more = record {
  clean = λ c. so_far.clean (clean c);
  stays = stays_next;
  are = are_next;
}
  where
    stays_next : HasCleanDisk next → (t : Tables) → HasTables t old.now → HasTables t next.now
    stays_next c t has =
        let mid = so_far.stays (clean c) t has in
        let found = (finds c).finds t mid in
        subst (HasTables t) (sym (found.stays.same found.is_open)) mid

    taken : take (i + 1) attempts ≡ take i attempts ++ a ∷ []
    taken = take_more attempts i d within ∙ ap (λ y. take i attempts ++ y ∷ []) (sym is)

    are_next : HasCleanDisk next → (t : Tables) → HasTables t old.now → longer ≡ lines_in (take (i + 1) attempts) t
    are_next c t has =
        let mid = so_far.stays (clean c) t has in
        let found = (finds c).finds t mid in
        let before = so_far.are (clean c) t has in
        more ∙ ap (λ l. l ++ open_line a (length steps)) before ∙ ap (λ (s : List ℕ). lines_in (take i attempts) t ++ open_line a (length s)) found.is
        ∙ sym (flat_map-one (line_in t) (take i attempts) a) ∙ ap (λ l. lines_in l t) (sym taken)

-- the lines of the attempts that wait, and of each one its steps
pub read_all : (quiz : ℕ) (attempts : List AttemptId) (old now next : State) (lines : List ℕ) → (HasCleanDisk next → HasCleanDisk now) → (HasCleanDisk now → Finds (waiting quiz) attempts old now) → (HasCleanDisk next → IsToldIn (lines_in attempts) now.now lines)
    → HasCleanDisk next → IsToldIn (open_lines quiz) old.now lines
read_all quiz attempts old now next lines clean finds told c = record { each = each }
  where
    each : (t : Tables) → HasTables t old.now → lines ≡ open_lines quiz t
    each t has =
        let found = (finds (clean c)).finds t has in
        let mid = subst (HasTables t) (sym (found.stays.same found.is_open)) has in
        (told c).each t mid ∙ ap (λ l. lines_in l t) found.is

-- what is told of a database is told of the payloads whose tables it has
pub reading_of : {A : Type 0} (reading : Tables → A) (payloads : List (List ℕ)) (db : Database) (found : A) → Stands payloads db → IsToldIn reading db found → IsReadingOf reading payloads found
reading_of reading payloads db found stands told = record { spelled = stands.spelled; each = stands.each; is = told.each (tables_of payloads stands.spelled) stands.tables }

-- the command ends where nothing was read
pub ends_unread : {S : Type 0} (tells : Bool) (store : Ghosts S) (folder : List ℕ) (quiz : ℕ) (old new : Based) (sink : Sunk) (s : Stop) → IsUnread old.faults new.faults s → OpenBy tells store folder quiz old new sink sink (Some s)
ends_unread tells store folder quiz old new sink stop.ShelfFault is = (Keeps-refl sink.holds, is)
ends_unread tells store folder quiz old new sink stop.Memory is = Keeps-refl sink.holds
ends_unread tells store folder quiz old new sink s is = absurd is
