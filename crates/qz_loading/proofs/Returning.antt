-- Folders whose files are given back.
use Rattle.std.proofs.Common.{◌≡◌, ℕ, ◌<◌, ◌≤◌, ◌∙◌, ⊎_elim, inl, inr, List, [], ◌∷◌, length, Some, IfSome, true, false, ap, sym, subst, arith}
use Rattle.std.proofs.lemmas.Bool.{cases_lt}
use Rattle.std.proofs.lemmas.Option.{slice_get-get_or}
use Rattle.std.specs.Prelude.{slice_get, get_or}
use Rattle.qz_disks.specs.Shelves.{ChangesAt, File, Files, NoneOutIn, Place, SameFile, place}
use Rattle.qz_folders.proofs.Naming.{names_apart, none_is_the_catalogue}
use Rattle.qz_folders.specs.Names.{catalog_name}
use Rattle.qz_journal.specs.Journals.{Ledger}
use Rattle.qz_loading.proofs.Finding.{catalog_no_part, find_part, is_place, later_no_part, no_catalog}
use Rattle.qz_loading.proofs.Standing.{same_then_stays, same_twice, stays_back, stays_same, stays_then_same}
use Rattle.qz_loading.specs.Closing.{IsBack, PartsAreBack}
use Rattle.qz_loading.specs.Opening.{ArePartsOf, IsCatalogOf}
use Rattle.qz_loading.specs.Places.{IsElsewhere, IsNoPart, IsOut, KeepsElsewhere, IsUnreached, KeepsOthers, LeavesRest, LeavesUnreached, ListsStay, PartsAre, PartsStay, StaysLike, catalog_place, part_place}
use Rattle.qz_loading.specs.Reading.{IsShardFault}
use Rattle.qz_loading.specs.declared.fault.LoadFault.{LoadFault}
use Rattle.qz_loading.specs.declared.fault.LoadFault.TheVariants.{Damaged, Behind, Altered, NotFounded, Fault, Memory}
use Rattle.qz_catalog.specs.Keeping as catalog
use Rattle.qz_shard.specs.Keeping as part
use Rattle.qz_terms.specs.declared.record.Record.{Record}

-- ---- a catalogue, and then its shards

pub parts_still_out : (folder : List ℕ) (count : ℕ) (old mid : Files) → IsOut folder count old → ChangesAt (catalog_place folder) old mid → PartsAre true folder count mid
parts_still_out folder count old mid out changes = record { each = λ k below. changes.is_out (part_place folder k) (no_catalog folder k) ∙ out.parts.each k below }

pub others_kept : (folder : List ℕ) (count : ℕ) (old mid new : Files) → ChangesAt (catalog_place folder) old mid → KeepsOthers folder count mid new → KeepsElsewhere folder count old new
others_kept folder count old mid new changes keeps = record {
  is_out = λ at none. keeps.is_out at none.no_part ∙ changes.is_out at none.no_catalog;
  file = λ at none. same_twice (old.file at) (mid.file at) (new.file at) (changes.file at none.no_catalog) (keeps.file at none.no_part);
}

pub catalog_kept : (folder : List ℕ) (count : ℕ) (mid new : Files) → KeepsOthers folder count mid new → SameFile (mid.file (catalog_place folder)) (new.file (catalog_place folder))
catalog_kept folder count mid new keeps = keeps.file (catalog_place folder) (catalog_no_part folder count)

pub none_left_out : (folder : List ℕ) (count : ℕ) (old mid new : Files) → IsOut folder count old → mid.is_out (catalog_place folder) ≡ false → ChangesAt (catalog_place folder) old mid → PartsAre false folder count new → KeepsOthers folder count mid new → NoneOutIn folder new
none_left_out folder count old mid new out here changes back keeps = record { each = each_name }
  where
    no_part : (name : List ℕ) → IsNoPart folder count (place folder name) → new.is_out (place folder name) ≡ false
    no_part name none =
        ⊎_elim
        (λ same. keeps.is_out (place folder name) none ∙ ap mid.is_out same ∙ here)
        (λ other. keeps.is_out (place folder name) none ∙ changes.is_out (place folder name) other ∙ out.others name (record { no_catalog = other; no_part = none }))
        (is_place (place folder name) (catalog_place folder))

    each_name : (name : List ℕ) → new.is_out (place folder name) ≡ false
    each_name name = ⊎_elim (λ found. ap new.is_out found.2 ∙ back.each found.0 found.1) (no_part name) (find_part folder count (place folder name))

-- the catalogue's file was out alone, and is back
pub none_out_again : (folder : List ℕ) (count : ℕ) (old mid left new : Files) → NoneOutIn folder old → ChangesAt (catalog_place folder) old mid → PartsStay folder count mid left → new.is_out (catalog_place folder) ≡ false → ChangesAt (catalog_place folder) left new → NoneOutIn folder new
none_out_again folder count old mid left new free changes stay here again = record { each = each_name }
  where
    each_name : (name : List ℕ) → new.is_out (place folder name) ≡ false
    each_name name =
        ⊎_elim
        (λ same. ap new.is_out same ∙ here)
        (λ other. again.is_out (place folder name) other ∙ (stay.is_out (place folder name) ∙ (changes.is_out (place folder name) other ∙ free.each name)))
        (is_place (place folder name) (catalog_place folder))

-- ---- shards that were opened, and given back since one wasn't

pub part_stays : {D : Type 0} (moment : D → ℕ) (left_at : D → ℕ → List ℕ → Type 0) (folder : List ℕ) (old new : Files) (count : ℕ) (parts : List (part.Keeping (Ledger D))) → ArePartsOf moment left_at folder old count parts → PartsAreBack folder parts new
    → ((at : Place) → old.is_out at ≡ false → IfSome (old.file at).reads (old.file at).left) → (k : ℕ) → k < length parts → old.is_out (part_place folder k) ≡ false → StaysLike (old.file (part_place folder k)) (new.file (part_place folder k))
part_stays moment left_at folder old new count [] are back here k below free = absurd (omega arith)
part_stays moment left_at folder old new count (p ∷ parts) are back here k below free =
    let s = get_or (p ∷ parts) k p in
    let got : slice_get (p ∷ parts) k ≡ Some s = slice_get-get_or (p ∷ parts) k p below in
    let is = are.each k s got in
    stays_back moment left_at (old.file (part_place folder k)) (new.file (part_place folder k)) s.keeper s.held is.payloads is.opened (here (part_place folder k) free) is.loaded.no_doubt is.loaded.loaded.spelled (back.each k s got)

pub all_stay : {D : Type 0} (moment : D → ℕ) (left_at : D → ℕ → List ℕ → Type 0) (folder : List ℕ) (old mid new : Files) (count : ℕ) (parts : List (part.Keeping (Ledger D))) → count ≤ 64 → length parts < count → PartsAre false folder count old
    → ArePartsOf moment left_at folder old count parts → LeavesRest folder (length parts) count old mid → PartsAre false folder (length parts) new → PartsAreBack folder parts new → KeepsOthers folder (length parts) mid new
    → ((at : Place) → old.is_out at ≡ false → IfSome (old.file at).reads (old.file at).left) → PartsStay folder count old new
all_stay moment left_at folder old mid new count parts few fewer free are rest here back keeps reads = record { parts = parts_stay; others = others_same; is_out = is_out_same }
  where
    from_here : (k : ℕ) → length parts ≤ k → k < count → StaysLike (old.file (part_place folder k)) (new.file (part_place folder k))
    from_here k from below =
        let kept = keeps.file (part_place folder k) (later_no_part folder (length parts) k (omega arith) (omega arith)) in
        ⊎_elim
        (λ more. stays_same (old.file (part_place folder k)) (new.file (part_place folder k)) (same_twice (old.file (part_place folder k)) (mid.file (part_place folder k)) (new.file (part_place folder k)) (rest.behind k more below) kept))
        (λ least. (let e : length parts ≡ k = omega arith in stays_then_same (old.file (part_place folder k)) (mid.file (part_place folder k)) (new.file (part_place folder k)) (subst (λ n. StaysLike (old.file (part_place folder n)) (mid.file (part_place folder n))) e rest.next) kept))
        (cases_lt (length parts) k)

    parts_stay : (k : ℕ) → k < count → StaysLike (old.file (part_place folder k)) (new.file (part_place folder k))
    parts_stay k below =
        ⊎_elim
        (λ less. part_stays moment left_at folder old new count parts are back reads k less (free.each k below))
        (λ from. from_here k from below)
        (cases_lt k (length parts))

    others_same : (at : Place) → IsNoPart folder count at → SameFile (old.file at) (new.file at)
    others_same at none = same_twice (old.file at) (mid.file at) (new.file at) (rest.others at none) (keeps.file at (record { each = λ k less. none.each k (omega arith) }))

    is_out_same : (at : Place) → new.is_out at ≡ old.is_out at
    is_out_same at =
        ⊎_elim
        (λ found. ap new.is_out found.2 ∙ here.each found.0 found.1 ∙ sym (free.each found.0 (omega (arith, found.1))) ∙ ap old.is_out (sym found.2))
        (λ none. keeps.is_out at none ∙ rest.is_out at none)
        (find_part folder (length parts) at)

-- ---- files that weren't reached

-- what is told of a shard comes before those behind it
behind_told : (file : File) (n count : ℕ) (c : List Record) (fault : LoadFault) (k : ℕ) → n < 64 → k < 64 → IsShardFault file n count c fault → IsUnreached fault k → n < k
behind_told file n count c (Damaged name here) k few below told (inl same) = absurd (none_is_the_catalogue n (sym told.0 ∙ same))
behind_told file n count c (Damaged name here) k few below told (inr front) =
    let less = front.in_front in
    let e : front.index ≡ n = names_apart front.index n (omega (arith, less, below)) (omega (arith, few)) (sym front.name_is ∙ told.0) in
    omega (arith, e, less)
behind_told file n count c (Behind shard position end) k few below told less = let e = told.0 in omega (arith, e, less)
behind_told file n count c (Altered shard nth) k few below told less = let e = told.0 in omega (arith, e, less)
behind_told file n count c NotFounded k few below told less = absurd told
behind_told file n count c Fault k few below told less = absurd less
behind_told file n count c Memory k few below told less = absurd less

pub unreached_left : (folder : List ℕ) (old mid new : Files) (file : File) (n count : ℕ) (c : List Record) (fault : LoadFault) → count ≤ 64 → n < count → LeavesRest folder n count old mid → KeepsOthers folder n mid new → IsShardFault file n count c fault → LeavesUnreached folder old new fault
unreached_left folder old mid new file n count c fault few fewer rest keeps told = record { each = each_one }
  where
    left : (k : ℕ) → k < 64 → n < k → SameFile (old.file (part_place folder k)) (mid.file (part_place folder k))
    left k below more =
        ⊎_elim
        (λ less. rest.behind k more less)
        (λ from. rest.others (part_place folder k) (later_no_part folder count k (omega arith) (omega arith)))
        (cases_lt k count)

    each_one : (k : ℕ) → k < 64 → IsUnreached fault k → SameFile (old.file (part_place folder k)) (new.file (part_place folder k))
    each_one k below unreached =
        let more : n < k = behind_told file n count c fault k (omega (arith, few, fewer)) below told unreached in
        same_twice (old.file (part_place folder k)) (mid.file (part_place folder k)) (new.file (part_place folder k)) (left k below more) (keeps.file (part_place folder k) (later_no_part folder n k (omega (arith, below)) (omega (arith, more))))

-- the catalogue's file alone was opened
pub unreached_all : (folder : List ℕ) (old new : Files) (fault : LoadFault) → ChangesAt (catalog_place folder) old new → LeavesUnreached folder old new fault
unreached_all folder old new fault changes = record { each = λ k below unreached. changes.file (part_place folder k) (no_catalog folder k) }

-- it was opened before, and given back behind
pub unreached_between : (folder : List ℕ) (old one two new : Files) (fault : LoadFault) → ChangesAt (catalog_place folder) old one → LeavesUnreached folder one two fault → ChangesAt (catalog_place folder) two new → LeavesUnreached folder old new fault
unreached_between folder old one two new fault opened leaves given = record {
  each = λ k below unreached. same_twice (old.file (part_place folder k)) (one.file (part_place folder k)) (new.file (part_place folder k)) (opened.file (part_place folder k) (no_catalog folder k))
      (same_twice (one.file (part_place folder k)) (two.file (part_place folder k)) (new.file (part_place folder k)) (leaves.each k below unreached) (given.file (part_place folder k) (no_catalog folder k)));
}

-- ---- a school that isn't loaded

pub catalog_stays : {D : Type 0} (moment : D → ℕ) (left_at : D → ℕ → List ℕ → Type 0) (old new : File) (s : catalog.Keeping (Ledger D)) → IsCatalogOf moment left_at old s → IfSome old.reads old.left → IsBack s.keeper s.held new → StaysLike old new
catalog_stays moment left_at old new s is here back = stays_back moment left_at old new s.keeper s.held is.payloads is.opened here is.loaded.no_doubt is.loaded.loaded.spelled back

fewer_elsewhere : (folder : List ℕ) (count : ℕ) (at : Place) → count ≤ 64 → IsElsewhere folder 64 at → IsElsewhere folder count at
fewer_elsewhere folder count at few none = record { no_catalog = none.no_catalog; no_part = record { each = λ k below. none.no_part.each k (omega arith) } }

-- the shards weren't opened, and the catalogue was given back
pub stay_unopened : (folder : List ℕ) (count : ℕ) (old one two new : Files) → count ≤ 64 → NoneOutIn folder old → StaysLike (old.file (catalog_place folder)) (new.file (catalog_place folder)) → ChangesAt (catalog_place folder) old one → PartsStay folder count one two
    → ChangesAt (catalog_place folder) two new → new.is_out (catalog_place folder) ≡ false → ListsStay folder old new
stay_unopened folder count old one two new few none stays opened parts given back = record { catalog = stays; parts = parts_stay; others = others_same; is_out = is_out_same }
  where
    before : (k : ℕ) → SameFile (old.file (part_place folder k)) (one.file (part_place folder k))
    before k = opened.file (part_place folder k) (no_catalog folder k)

    after : (k : ℕ) → SameFile (two.file (part_place folder k)) (new.file (part_place folder k))
    after k = given.file (part_place folder k) (no_catalog folder k)

    parts_stay : (k : ℕ) → k < 64 → StaysLike (old.file (part_place folder k)) (new.file (part_place folder k))
    parts_stay k below =
        ⊎_elim
        (λ less. same_then_stays (old.file (part_place folder k)) (one.file (part_place folder k)) (new.file (part_place folder k)) (before k)
        (stays_then_same (one.file (part_place folder k)) (two.file (part_place folder k)) (new.file (part_place folder k)) (parts.parts k less) (after k)))
        (λ from. stays_same (old.file (part_place folder k)) (new.file (part_place folder k)) (same_twice (old.file (part_place folder k)) (one.file (part_place folder k)) (new.file (part_place folder k)) (before k)
        (same_twice (one.file (part_place folder k)) (two.file (part_place folder k)) (new.file (part_place folder k)) (parts.others (part_place folder k) (later_no_part folder count k (omega arith) (omega arith))) (after k))))
        (cases_lt k count)

    others_same : (at : Place) → IsElsewhere folder 64 at → SameFile (old.file at) (new.file at)
    others_same at none = same_twice (old.file at) (one.file at) (new.file at) (opened.file at none.no_catalog)
        (same_twice (one.file at) (two.file at) (new.file at) (parts.others at (fewer_elsewhere folder count at few none).no_part) (given.file at none.no_catalog))

    is_out_same : (at : Place) → new.is_out at ≡ old.is_out at
    is_out_same at =
        ⊎_elim
        (λ same. ap new.is_out same ∙ back ∙ sym (none.each catalog_name) ∙ ap old.is_out (sym same))
        (λ other. given.is_out at other ∙ parts.is_out at ∙ opened.is_out at other)
        (is_place at (catalog_place folder))

-- ---- a school that is open

pub out_now : (folder : List ℕ) (count : ℕ) (old one two : Files) → NoneOutIn folder old → one.is_out (catalog_place folder) ≡ true → ChangesAt (catalog_place folder) old one → PartsAre true folder count two → KeepsOthers folder count one two → IsOut folder count two
out_now folder count old one two none out changes parts keeps = record {
  catalog = keeps.is_out (catalog_place folder) (catalog_no_part folder count) ∙ out;
  parts = parts;
  others = λ name far. keeps.is_out (place folder name) far.no_part ∙ changes.is_out (place folder name) far.no_catalog ∙ none.each name;
}
