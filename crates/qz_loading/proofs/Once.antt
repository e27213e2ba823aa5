-- Of files just one cause is told why a school isn't loaded.
use Rattle.std.proofs.Common.{◌≡◌, ℕ, ◌<◌, ◌≤◌, ◌⊎◌, inl, inr, ⊎_elim, List, [], ◌∷◌, ◌++◌, map, length, Option, None, Some, Ok, true, refl, sym, subst, ◌∙◌, arith}
use Rattle.std.proofs.lemmas.Bool.{cases_lt}
use Rattle.std.specs.Prelude.{is_some}
use Rattle.qz_catalog.specs.Loads as catalog_load
use Rattle.qz_disks.specs.Shelves.{File, Files}
use Rattle.qz_folders.specs.Names.{catalog_name, part_name}
use Rattle.qz_journal.specs.Frames.{stands_for}
use Rattle.qz_loading.proofs.FirstBad.{altered-bad, behind-bad, behind-or-altered, none-bad, one-nth, one-position}
use Rattle.qz_loading.proofs.OneReading.{catalog-place, catalog-same, catalog-undamaged, part-place, part-same, part-undamaged, payloads-same, told, whole}
use Rattle.qz_loading.specs.declared.fault.LoadFault.{LoadFault}
use Rattle.qz_loading.specs.declared.fault.LoadFault.TheVariants.{Damaged, Behind, Altered, NotFounded, Fault, Memory}
use Rattle.qz_loading.specs.Once.{AreTold, IsOfFiles}
use Rattle.qz_loading.specs.Places.{catalog_place, part_place}
use Rattle.qz_loading.specs.Reading.{IsAgreedIn, IsCatalogFault, IsCatalogIn, IsDamagedAt, IsLoadFault, IsPartAltered, IsPartBehind, IsPartsFault, IsShardFault, IsToldOfShards, by_bytes, by_record}
use Rattle.qz_terms.specs.declared.record.Record.{Record}
use Rattle.qz_terms.specs.Catalog.{shards}
use Rattle.qz_terms.specs.Legal.{AllAgree, IsAltered, IsBehind}
use Rattle.qz_terms.specs.Spelling.{spelling}

-- a file that tells its bytes
record Tells (file : File) : Type 0 where
  bytes : List ℕ
  is : file.reads ≡ Some bytes

tells-by : (o : Option (List ℕ)) → is_some o ≡ true → (bytes : List ℕ) × (o ≡ Some bytes)
tells-by None is = absurd cc
tells-by (Some bytes) is = (bytes, refl)

tells : (file : File) → is_some file.reads ≡ true → Tells file
tells file is = let t = tells-by file.reads is in record { bytes = t.0; is = t.1 }

-- ---- a shard's file

own-behind : (file : File) (t : Tells file) (k count : ℕ) (c : List Record) (p : ℕ) → IsPartBehind file k count c p → IsAgreedIn file k count c → ⊥
own-behind file t k count c p b a =
    none-bad c b.own b.behind.before b.behind.own (subst (AllAgree c) (part-same file t.bytes k count a.own b.own t.is a.is_read b.is_read) a.agree) (behind-bad c b.own k count p b.is_read.loaded.held.legal b.behind)

own-altered : (file : File) (t : Tells file) (k count : ℕ) (c : List Record) (nth : ℕ) → IsPartAltered file k count c nth → IsAgreedIn file k count c → ⊥
own-altered file t k count c nth b a =
    none-bad c b.own b.altered.before b.altered.own (subst (AllAgree c) (part-same file t.bytes k count a.own b.own t.is a.is_read b.is_read) a.agree) (altered-bad c b.own nth b.altered)

-- nothing is told of one that is read and agrees
agreed-none : (file : File) (t : Tells file) (k count : ℕ) (c : List Record) (fault : LoadFault) → IsOfFiles fault → IsAgreedIn file k count c → IsShardFault file k count c fault → ⊥
agreed-none file t k count c (Damaged name here) of a is = part-undamaged file t.bytes k count a.own here t.is a.is_read is.1
agreed-none file t k count c (Behind shard position end) of a is = own-behind file t k count c position is.2 a
agreed-none file t k count c (Altered shard nth) of a is = own-altered file t k count c nth is.1 a
agreed-none file t k count c NotFounded of a is = is
agreed-none file t k count c Fault of a is = of
agreed-none file t k count c Memory of a is = of

same-damage : (n m : List ℕ) (x y : ℕ) → n ≡ m → x ≡ y → Damaged n x ≡ Damaged m y
same-damage n m x y names places = cc

same-behind : (s t p q e f : ℕ) → s ≡ t → p ≡ q → e ≡ f → Behind s p e ≡ Behind t q f
same-behind s t p q e f one two three = cc

same-altered : (s t n m : ℕ) → s ≡ t → n ≡ m → Altered s n ≡ Altered t m
same-altered s t n m one two = cc

behind-once : (file : File) (t : Tells file) (k count : ℕ) (c : List Record) (p q : ℕ) → IsPartBehind file k count c p → IsPartBehind file k count c q → p ≡ q
behind-once file t k count c p q a b =
    one-position c b.own k count p q b.is_read.loaded.held.legal (subst (λ l. IsBehind c l p) (part-same file t.bytes k count a.own b.own t.is a.is_read b.is_read) a.behind) b.behind

altered-once : (file : File) (t : Tells file) (k count : ℕ) (c : List Record) (n m : ℕ) → IsPartAltered file k count c n → IsPartAltered file k count c m → n ≡ m
altered-once file t k count c n m a b = one-nth c b.own n m (subst (λ l. IsAltered c l n) (part-same file t.bytes k count a.own b.own t.is a.is_read b.is_read) a.altered) b.altered

not-both : (file : File) (t : Tells file) (k count : ℕ) (c : List Record) (p n : ℕ) → IsPartBehind file k count c p → IsPartAltered file k count c n → ⊥
not-both file t k count c p n a b =
    behind-or-altered c b.own k count p n b.is_read.loaded.held.legal (subst (λ l. IsBehind c l p) (part-same file t.bytes k count a.own b.own t.is a.is_read b.is_read) a.behind) b.altered

shard-once : (file : File) (t : Tells file) (k count : ℕ) (c : List Record) (a b : LoadFault) → IsOfFiles a → IsOfFiles b → IsShardFault file k count c a → IsShardFault file k count c b → a ≡ b
shard-once file t k count c (Damaged n x) (Damaged m y) of also one other = same-damage n m x y (one.0 ∙ sym other.0) (part-place file t.bytes k count x y t.is one.1 other.1)
shard-once file t k count c (Damaged n x) (Behind s p e) of also one other = absurd (part-undamaged file t.bytes k count other.2.own x t.is other.2.is_read one.1)
shard-once file t k count c (Damaged n x) (Altered s m) of also one other = absurd (part-undamaged file t.bytes k count other.1.own x t.is other.1.is_read one.1)
shard-once file t k count c (Damaged n x) NotFounded of also one other = absurd other
shard-once file t k count c (Damaged n x) Fault of also one other = absurd also
shard-once file t k count c (Damaged n x) Memory of also one other = absurd also
shard-once file t k count c (Behind s p e) (Damaged n x) of also one other = absurd (part-undamaged file t.bytes k count one.2.own x t.is one.2.is_read other.1)
shard-once file t k count c (Behind s p e) (Behind r q f) of also one other = same-behind s r p q e f (one.0 ∙ sym other.0) (behind-once file t k count c p q one.2 other.2) (one.1 ∙ sym other.1)
shard-once file t k count c (Behind s p e) (Altered r m) of also one other = absurd (not-both file t k count c p m one.2 other.1)
shard-once file t k count c (Behind s p e) NotFounded of also one other = absurd other
shard-once file t k count c (Behind s p e) Fault of also one other = absurd also
shard-once file t k count c (Behind s p e) Memory of also one other = absurd also
shard-once file t k count c (Altered s n) (Damaged m x) of also one other = absurd (part-undamaged file t.bytes k count one.1.own x t.is one.1.is_read other.1)
shard-once file t k count c (Altered s n) (Behind r p e) of also one other = absurd (not-both file t k count c p n other.2 one.1)
shard-once file t k count c (Altered s n) (Altered r m) of also one other = same-altered s r n m (one.0 ∙ sym other.0) (altered-once file t k count c n m one.1 other.1)
shard-once file t k count c (Altered s n) NotFounded of also one other = absurd other
shard-once file t k count c (Altered s n) Fault of also one other = absurd also
shard-once file t k count c (Altered s n) Memory of also one other = absurd also
shard-once file t k count c NotFounded b of also one other = absurd one
shard-once file t k count c Fault b of also one other = absurd of
shard-once file t k count c Memory b of also one other = absurd of

-- ---- the shards' files

part-tells : (folder : List ℕ) (files : Files) → AreTold folder files → (k : ℕ) → Tells (files.file (part_place folder k))
part-tells folder files all k = tells (files.file (part_place folder k)) (all.each (part_name k))

-- none is told of before another
not-in-front : (folder : List ℕ) (files : Files) (c : List Record) (count : ℕ) (a b : LoadFault) → AreTold folder files → IsOfFiles a → (one : IsPartsFault folder files c count a) (other : IsPartsFault folder files c count b) → one.index < other.index → ⊥
not-in-front folder files c count a b all of one other less = agreed-none (files.file (part_place folder one.index)) (part-tells folder files all one.index) one.index count c a of (other.in_front one.index less) one.why

parts-once : (folder : List ℕ) (files : Files) (c : List Record) (count : ℕ) (a b : LoadFault) → AreTold folder files → IsOfFiles a → IsOfFiles b → IsPartsFault folder files c count a → IsPartsFault folder files c count b → a ≡ b
parts-once folder files c count a b all of also one other =
    ⊎_elim
    (λ less. absurd (not-in-front folder files c count a b all of one other less))
    (λ from. ⊎_elim
    (λ more. absurd (not-in-front folder files c count b a all also other one more))
    (λ to. (let same : one.index ≡ other.index = omega (arith, from, to) in
    shard-once (files.file (part_place folder other.index)) (part-tells folder files all other.index) other.index count c a b of also
    (subst (λ k. IsShardFault (files.file (part_place folder k)) k count c a) same one.why) other.why))
    (cases_lt other.index one.index))
    (cases_lt one.index other.index)

one-count : (c d : List Record) (n m : ℕ) → c ≡ d → shards c ≡ Some n → shards d ≡ Some m → n ≡ m
one-count c d n m same one other = let at : shards d ≡ Some n = subst (λ x. shards x ≡ Some n) same one in cc

shards-once : (folder : List ℕ) (files : Files) (a b : LoadFault) → AreTold folder files → IsOfFiles a → IsOfFiles b → IsToldOfShards folder files a → IsToldOfShards folder files b → a ≡ b
shards-once folder files a b all of also one other =
    let t = tells (files.file (catalog_place folder)) (all.each catalog_name) in
    let lists : one.c ≡ other.c = catalog-same (files.file (catalog_place folder)) t.bytes one.c other.c t.is one.founded.catalog_is other.founded.catalog_is in
    let counts : one.count ≡ other.count = one-count one.c other.c one.count other.count lists one.founded.founded other.founded.founded in
    parts-once folder files other.c other.count a b all of also (subst (λ n. IsPartsFault folder files other.c n a) counts (subst (λ l. IsPartsFault folder files l one.count a) lists one.parts)) other.parts

-- ---- the catalogue's file

none-behind-none : (front : List Record) (bad : List ℕ) (rest : List (List ℕ)) → [] ≡ map spelling front ++ bad ∷ rest → ⊥
none-behind-none [] bad rest e = absurd cc
none-behind-none (r ∷ front) bad rest e = absurd cc

undamaged-by : (bytes : List ℕ) (here : ℕ) → stands_for bytes ≡ Ok [] → IsDamagedAt catalog_load.IsFirstIllegal bytes here → ⊥
undamaged-by bytes here empty (by_bytes is) = whole bytes [] here empty is
undamaged-by bytes here empty (by_record payloads is illegal) = none-behind-none illegal.first.before illegal.first.bad illegal.first.rest (payloads-same [] payloads bytes empty is ∙ illegal.first.stands)

catalog-once : (file : File) (t : Tells file) (a b : LoadFault) → IsOfFiles a → IsOfFiles b → IsCatalogFault file a → IsCatalogFault file b → a ≡ b
catalog-once file t (Damaged n x) (Damaged m y) of also one other = same-damage n m x y (one.0 ∙ sym other.0) (catalog-place file t.bytes x y t.is one.1 other.1)
catalog-once file t (Damaged n x) NotFounded of also one other = absurd (undamaged-by t.bytes x (told _ file.reads t.bytes t.is other) (told _ file.reads t.bytes t.is one.1))
catalog-once file t (Damaged n x) (Behind s p e) of also one other = absurd other
catalog-once file t (Damaged n x) (Altered s m) of also one other = absurd other
catalog-once file t (Damaged n x) Fault of also one other = absurd also
catalog-once file t (Damaged n x) Memory of also one other = absurd also
catalog-once file t NotFounded (Damaged m y) of also one other = absurd (undamaged-by t.bytes y (told _ file.reads t.bytes t.is one) (told _ file.reads t.bytes t.is other.1))
catalog-once file t NotFounded NotFounded of also one other = refl
catalog-once file t NotFounded (Behind s p e) of also one other = absurd other
catalog-once file t NotFounded (Altered s m) of also one other = absurd other
catalog-once file t NotFounded Fault of also one other = absurd also
catalog-once file t NotFounded Memory of also one other = absurd also
catalog-once file t (Behind s p e) b of also one other = absurd one
catalog-once file t (Altered s m) b of also one other = absurd one
catalog-once file t Fault b of also one other = absurd of
catalog-once file t Memory b of also one other = absurd of

none-spelled : (c : List Record) (payloads : List (List ℕ)) → 1 ≤ length c → map spelling c ≡ payloads → payloads ≡ [] → ⊥
none-spelled [] payloads some spelled empty = absurd (omega (arith, some))
none-spelled (r ∷ c) payloads some spelled empty = let none : map spelling (r ∷ c) ≡ [] = spelled ∙ empty in absurd cc

-- nothing is told of one that is read
catalog-read : (file : File) (t : Tells file) (c : List Record) (a : LoadFault) → IsOfFiles a → IsCatalogIn file c → IsCatalogFault file a → ⊥
catalog-read file t c (Damaged n x) of read is = catalog-undamaged file t.bytes c x t.is read is.1
catalog-read file t c (Behind s p e) of read is = is
catalog-read file t c (Altered s m) of read is = is
catalog-read file t c NotFounded of read is = none-spelled c read.payloads read.loaded.some read.loaded.spelled (payloads-same read.payloads [] t.bytes (told _ file.reads t.bytes t.is read.stands) (told _ file.reads t.bytes t.is is))
catalog-read file t c Fault of read is = of
catalog-read file t c Memory of read is = of

-- ---- both

parted : (folder : List ℕ) (files : Files) (a : LoadFault) → IsOfFiles a → IsLoadFault folder files a → IsCatalogFault (files.file (catalog_place folder)) a ⊎ IsToldOfShards folder files a
parted folder files (Damaged n x) of (inl is) = inl is
parted folder files (Damaged n x) of (inr is) = inr is
parted folder files (Behind s p e) of is = inr is
parted folder files (Altered s m) of is = inr is
parted folder files NotFounded of is = inl is
parted folder files Fault of is = absurd of
parted folder files Memory of is = absurd of

one-by : (folder : List ℕ) (files : Files) (t : Tells (files.file (catalog_place folder))) (a b : LoadFault) → AreTold folder files → IsOfFiles a → IsOfFiles b → IsCatalogFault (files.file (catalog_place folder)) a ⊎ IsToldOfShards folder files a
    → IsCatalogFault (files.file (catalog_place folder)) b ⊎ IsToldOfShards folder files b → a ≡ b
one-by folder files t a b all of also (inl one) (inl other) = catalog-once (files.file (catalog_place folder)) t a b of also one other
one-by folder files t a b all of also (inl one) (inr other) = absurd (catalog-read (files.file (catalog_place folder)) t other.c a of other.founded.catalog_is one)
one-by folder files t a b all of also (inr one) (inl other) = absurd (catalog-read (files.file (catalog_place folder)) t one.c b also one.founded.catalog_is other)
one-by folder files t a b all of also (inr one) (inr other) = shards-once folder files a b all of also one other

pub one-cause : (folder : List ℕ) (files : Files) (a b : LoadFault) → AreTold folder files → IsOfFiles a → IsOfFiles b → IsLoadFault folder files a → IsLoadFault folder files b → a ≡ b
one-cause folder files a b all of also one other =
    one-by folder files (tells (files.file (catalog_place folder)) (all.each catalog_name)) a b all of also (parted folder files a of one) (parted folder files b also other)
