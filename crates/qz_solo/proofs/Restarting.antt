-- A school whose files stand for its lists is loaded as it was.
use Rattle.std.proofs.Common.{◌≡◌, ℕ, zero, suc, ◌+◌, ◌<◌, ◌⊎◌, inl, inr, List, [], ◌∷◌, ◌++◌, Option, Some, None, Ok, Err, IfSome, length, map, get_or, refl, sym, ap, subst, ◌∙◌, arith}
use Rattle.std.specs.Prelude.{All, slice_get}
use Rattle.std.proofs.lemmas.Option.{slice_get-get_or}
use Rattle.qz_catalog.specs.Keeping as catalog
use Rattle.qz_catalog.specs.Loads as catalog_load
use Rattle.qz_disks.specs.Shelves.{File, Files}
use Rattle.qz_journal.specs.Frames.{stands_for}
use Rattle.qz_journal.specs.Journals.{Ledger}
use Rattle.qz_loading.proofs.OneReading.{catalog-none-illegal, part-none-illegal, payloads-same, told, undamaged-at}
use Rattle.qz_loading.proofs.Spelled.{all-same}
use Rattle.qz_loading.proofs.Within.{names-none-past}
use Rattle.qz_loading.specs.declared.fault.LoadFault.{LoadFault}
use Rattle.qz_loading.specs.declared.fault.LoadFault.TheVariants.{Damaged, Behind, Altered, NotFounded, Fault, Memory}
use Rattle.qz_loading.specs.Opening.{IsLoadedFrom, lists_of}
use Rattle.qz_loading.specs.Places.{catalog_place, part_place}
use Rattle.qz_loading.specs.Reading.{CatalogIsDamaged, IsAlteredOf, IsBehindOf, IsCatalogIn, IsFounded, IsLoadFault, IsPartUnread, PartIsDamaged}
use Rattle.qz_record.specs.Records.{IsRecord}
use Rattle.qz_shard.specs.Keeping as part
use Rattle.qz_shard.specs.Loads as part_load
use Rattle.qz_terms.specs.declared.record.Record.{Record}
use Rattle.qz_terms.specs.Catalog.{shards}
use Rattle.qz_terms.specs.Legal.{AllAgree, IsAltered, IsBehind, IsLegal, IsLegalCatalog, IsSchool}
use Rattle.qz_terms.specs.Spelling.{spelling}
use Rattle.qz_solo.specs.Restarting.{IsKeptIn, StandsFor}

-- ---- one file

-- what a file stands for are these records and no others
pub one-list : (file : File) (l m : List Record) (payloads : List (List ℕ)) → StandsFor file l → IfSome file.reads (λ bytes. stands_for bytes ≡ Ok payloads) → map spelling m ≡ payloads → All IsRecord m → m ≡ l
one-list file l m payloads stands read spelled records =
    let is = told _ file.reads stands.bytes stands.told read in
    all-same m l records stands.records (spelled ∙ payloads-same payloads (map spelling l) stands.bytes is stands.stands)

undamaged-catalog : (file : File) (c : List Record) (here : ℕ) → StandsFor file c → IsLegalCatalog c → CatalogIsDamaged file here → ⊥
undamaged-catalog file c here stands legal damaged =
    undamaged-at catalog_load.IsFirstIllegal stands.bytes c here stands.stands (λ payloads nth spelled first. catalog-none-illegal c payloads nth legal stands.records spelled first) (told _ file.reads stands.bytes stands.told damaged)

undamaged-part : (file : File) (index count : ℕ) (h : List Record) (here : ℕ) → StandsFor file h → IsLegal index count h → PartIsDamaged file index count here → ⊥
undamaged-part file index count h here stands legal damaged =
    undamaged-at (part_load.IsFirstIllegal index count) stands.bytes h here stands.stands (λ payloads nth spelled first. part-none-illegal index count h payloads nth legal stands.records spelled first) (told _ file.reads stands.bytes stands.told damaged)

-- ---- the lists of a school

catalog-same : (folder : List ℕ) (files : Files) (c : List Record) (parts : List (List Record)) (d : List Record) → IsKeptIn folder files c parts → IsCatalogIn (files.file (catalog_place folder)) d → d ≡ c
catalog-same folder files c parts d kept is = one-list (files.file (catalog_place folder)) c d is.payloads kept.catalog_file is.stands is.loaded.spelled is.loaded.records

some-same : (c d : List Record) (n m : ℕ) → d ≡ c → shards d ≡ Some n → shards c ≡ Some m → n ≡ m
some-same c d n m same one other = let at : shards c ≡ Some n = subst (λ (x : List Record). shards x ≡ Some n) same one in cc

count-same : (folder : List ℕ) (files : Files) (c : List Record) (parts : List (List Record)) (d : List Record) (count : ℕ) → IsKeptIn folder files c parts → IsFounded folder files d count → count ≡ length parts
count-same folder files c parts d count kept is = some-same c d count (length parts) (catalog-same folder files c parts d kept is.catalog_is) is.founded kept.school.founded

-- lists with the same items are the same
lists-same : (a b : List (List Record)) → length a ≡ length b → ((k : ℕ) (x y : List Record) → slice_get a k ≡ Some x → slice_get b k ≡ Some y → x ≡ y) → a ≡ b
lists-same [] [] n e = refl
lists-same [] (y ∷ b) n e = absurd (omega (arith, n))
lists-same (x ∷ a) [] n e = absurd (omega (arith, n))
lists-same (x ∷ a) (y ∷ b) n e =
    let head : x ≡ y = e 0 x y refl refl in
    let tail : a ≡ b = lists-same a b (omega (arith, n)) (λ k u v. e (suc k) u v) in
    cc

-- ---- why a school isn't loaded

not-behind : (c h : List Record) (index count position : ℕ) → AllAgree c h → IsLegal index count h → IsBehind c h position → ⊥
not-behind c h index count position agree legal b =
    let none = names-none-past c b.before b.own index count (agree.each b.before b.own b.rest b.list) (legal.each b.before b.own b.rest b.list) in
    let past = b.past in
    cc

not-altered : (c h : List Record) (nth : ℕ) → AllAgree c h → IsAltered c h nth → ⊥
not-altered c h nth agree a = a.disagrees (agree.each a.before a.own a.rest a.list)

not-empty : (c : List Record) (n : ℕ) → shards c ≡ Some n → map spelling c ≡ [] → ⊥
not-empty [] n founded none = absurd cc
not-empty (r ∷ c) n founded none = absurd cc

-- the list of a shard that is told of, and its file
record IsOwn (folder : List ℕ) (files : Files) (c : List Record) (parts : List (List Record)) (k : ℕ) : Type 0 where
  own : List Record
  is : slice_get parts k ≡ Some own
  stands : StandsFor (files.file (part_place folder k)) own
  agree : AllAgree c own
  legal : IsLegal k (length parts) own

own-at : (folder : List ℕ) (files : Files) (c : List Record) (parts : List (List Record)) (k count : ℕ) → IsKeptIn folder files c parts → count ≡ length parts → k < count → IsOwn folder files c parts k
own-at folder files c parts k count kept same within =
    let is = slice_get-get_or parts k [] (omega arith) in
    let h = get_or parts k [] in
    record { own = h; is = is; stands = kept.part_files k h is; agree = kept.school.agree k h is; legal = kept.school.legal k h is }

not-unread : (folder : List ℕ) (files : Files) (c : List Record) (parts : List (List Record)) (name : List ℕ) (here : ℕ) → IsKeptIn folder files c parts → IsPartUnread folder files name here → ⊥
not-unread folder files c parts name here kept p =
    let k = p.parts.index in
    let same = count-same folder files c parts p.c p.count kept p.founded in
    let o = own-at folder files c parts k p.count kept same p.parts.within in
    undamaged-part (files.file (part_place folder k)) k (length parts) o.own here o.stands o.legal (subst (λ n. PartIsDamaged (files.file (part_place folder k)) k n here) same p.parts.why.1)

not-behind-of : (folder : List ℕ) (files : Files) (c : List Record) (parts : List (List Record)) (shard position end : ℕ) → IsKeptIn folder files c parts → IsBehindOf folder files shard position end → ⊥
not-behind-of folder files c parts shard position end kept p =
    let k = p.parts.index in
    let o = own-at folder files c parts k p.count kept (count-same folder files c parts p.c p.count kept p.founded) p.parts.within in
    let b = p.parts.why.2 in
    let same = one-list (files.file (part_place folder k)) o.own b.own b.is_read.payloads o.stands b.is_read.stands b.is_read.loaded.spelled b.is_read.loaded.records in
    not-behind c o.own k (length parts) position o.agree o.legal
    (subst (λ l. IsBehind c l position) same (subst (λ l. IsBehind l b.own position) (catalog-same folder files c parts p.c kept p.founded.catalog_is) b.behind))

not-altered-of : (folder : List ℕ) (files : Files) (c : List Record) (parts : List (List Record)) (shard nth : ℕ) → IsKeptIn folder files c parts → IsAlteredOf folder files shard nth → ⊥
not-altered-of folder files c parts shard nth kept p =
    let k = p.parts.index in
    let o = own-at folder files c parts k p.count kept (count-same folder files c parts p.c p.count kept p.founded) p.parts.within in
    let a = p.parts.why.1 in
    let same = one-list (files.file (part_place folder k)) o.own a.own a.is_read.payloads o.stands a.is_read.stands a.is_read.loaded.spelled a.is_read.loaded.records in
    not-altered c o.own nth o.agree
    (subst (λ l. IsAltered c l nth) same (subst (λ l. IsAltered l a.own nth) (catalog-same folder files c parts p.c kept p.founded.catalog_is) a.altered))

pub refused-by : (folder : List ℕ) (files : Files) (c : List Record) (parts : List (List Record)) (cause : LoadFault) → IsKeptIn folder files c parts → IsLoadFault folder files cause → (cause ≡ Fault) ⊎ (cause ≡ Memory)
refused-by folder files c parts (Damaged name here) kept (inl bad) = absurd (undamaged-catalog (files.file (catalog_place folder)) c here kept.catalog_file kept.school.records bad.1)
refused-by folder files c parts (Damaged name here) kept (inr p) = absurd (not-unread folder files c parts name here kept p)
refused-by folder files c parts (Behind shard position end) kept f = absurd (not-behind-of folder files c parts shard position end kept f)
refused-by folder files c parts (Altered shard nth) kept f = absurd (not-altered-of folder files c parts shard nth kept f)
refused-by folder files c parts NotFounded kept f =
    let none = told _ (files.file (catalog_place folder)).reads kept.catalog_file.bytes kept.catalog_file.told f in
    absurd (not-empty c (length parts) kept.school.founded (payloads-same (map spelling c) [] kept.catalog_file.bytes kept.catalog_file.stands none))
refused-by folder files c parts Fault kept f = inl refl
refused-by folder files c parts Memory kept f = inr refl

-- ---- what is loaded

-- the open list that stands at a place
record OpenAt {D : Type 0} (b : List (part.Keeping (Ledger D))) (k : ℕ) (x : List Record) : Type 0 where
  pub own : part.Keeping (Ledger D)
  pub is : slice_get b k ≡ Some own
  pub list : own.held.list ≡ x

open-at : {D : Type 0} (b : List (part.Keeping (Ledger D))) (k : ℕ) (x : List Record) → slice_get (lists_of b) k ≡ Some x → OpenAt b k x
open-at [] k x e = absurd cc
open-at (s ∷ b) zero x e = record { own = s; is = refl; list = cc }
open-at (s ∷ b) (suc k) x e = let r = open-at b k x e in record { own = r.own; is = r.is; list = r.list }

pub loaded-same : {D : Type 0} (moment : D → ℕ) (left_at : D → ℕ → List ℕ → Type 0) (folder : List ℕ) (files : Files) (c : List Record) (parts : List (List Record)) (a : catalog.Keeping (Ledger D)) (b : List (part.Keeping (Ledger D)))
    → IsKeptIn folder files c parts → IsLoadedFrom moment left_at folder files a b → (a.held.list ≡ c) × (lists_of b ≡ parts)
loaded-same moment left_at folder files c parts a b kept from =
    let one = from.catalog_is in
    let same = one-list (files.file (catalog_place folder)) c a.held.list one.payloads kept.catalog_file one.opened.list one.loaded.loaded.spelled one.loaded.loaded.records in
    let count = some-same c a.held.list (length (lists_of b)) (length parts) same from.school.founded kept.school.founded in (
      same,
      lists-same (lists_of b) parts count (λ k x y there other.
          let s = open-at b k x there in
          let p = from.parts_are.each k s.own s.is in
          sym s.list ∙ one-list (files.file (part_place folder k)) y s.own.held.list p.payloads (kept.part_files k y other) p.opened.list p.loaded.loaded.spelled p.loaded.loaded.records),
    )
