-- What one file is read as: one list, or one damage.
use Rattle.std.proofs.Common.{◌≡◌, ℕ, ◌<◌, ⊎_elim, List, ◌∷◌, map, length, Option, None, Some, Ok, Err, IfSome, ap, sym, subst, ◌∙◌, arith}
use Rattle.std.proofs.lemmas.Bool.{cases_lt}
use Rattle.std.specs.Prelude.{All}
use Rattle.qz_catalog.specs.Loads as catalog_load
use Rattle.qz_disks.specs.Shelves.{File}
use Rattle.qz_journal.specs.Frames.{stands_for}
use Rattle.qz_loading.proofs.Spelled.{all-same, shorter-splits, splits}
use Rattle.qz_loading.specs.Reading.{CatalogIsDamaged, IsCatalogIn, IsDamagedAt, IsPartIn, PartIsDamaged, by_bytes, by_record, gate_of}
use Rattle.qz_record.specs.Records.{IsRecord}
use Rattle.qz_shard.specs.Loads as part_load
use Rattle.qz_terms.specs.declared.record.Record.{Record}
use Rattle.qz_terms.specs.Legal.{IsLegal, IsLegalCatalog}
use Rattle.qz_terms.specs.Spelling.{spelling}

-- ---- what it reads as

pub told : (P : List ℕ → Type 0) (o : Option (List ℕ)) (bytes : List ℕ) → o ≡ Some bytes → IfSome o P → P bytes
told P None bytes is p = absurd cc
told P (Some x) bytes is p = let same : x ≡ bytes = cc in subst P same p

pub payloads-same : (a b : List (List ℕ)) (bytes : List ℕ) → stands_for bytes ≡ Ok a → stands_for bytes ≡ Ok b → a ≡ b
payloads-same a b bytes one other = cc

pub whole : (bytes : List ℕ) (payloads : List (List ℕ)) (here : ℕ) → stands_for bytes ≡ Ok payloads → stands_for bytes ≡ Err here → ⊥
whole bytes payloads here one other = cc

-- ---- one list

same-list : (o : Option (List ℕ)) (bytes : List ℕ) (l m : List Record) (p q : List (List ℕ)) → o ≡ Some bytes → IfSome o (λ b. stands_for b ≡ Ok p) → IfSome o (λ b. stands_for b ≡ Ok q) → map spelling l ≡ p → map spelling m ≡ q → All IsRecord l → All IsRecord m → l ≡ m
same-list o bytes l m p q is one other of_l of_m records_l records_m =
    all-same l m records_l records_m (of_l ∙ payloads-same p q bytes (told _ o bytes is one) (told _ o bytes is other) ∙ sym of_m)

pub part-same : (file : File) (bytes : List ℕ) (k count : ℕ) (l m : List Record) → file.reads ≡ Some bytes → IsPartIn file k count l → IsPartIn file k count m → l ≡ m
part-same file bytes k count l m is one other = same-list file.reads bytes l m one.payloads other.payloads is one.stands other.stands one.loaded.spelled other.loaded.spelled one.loaded.records other.loaded.records

pub catalog-same : (file : File) (bytes : List ℕ) (l m : List Record) → file.reads ≡ Some bytes → IsCatalogIn file l → IsCatalogIn file m → l ≡ m
catalog-same file bytes l m is one other = same-list file.reads bytes l m one.payloads other.payloads is one.stands other.stands one.loaded.spelled other.loaded.spelled one.loaded.records other.loaded.records

-- ---- a list that is read isn't damaged

pub catalog-none-illegal : (c : List Record) (payloads : List (List ℕ)) (nth : ℕ) → IsLegalCatalog c → All IsRecord c → map spelling c ≡ payloads → catalog_load.IsFirstIllegal payloads nth → ⊥
catalog-none-illegal c payloads nth legal records spelled first =
    let s = splits c first.before first.bad first.rest records first.records (spelled ∙ first.stands) in
    first.illegal.none s.own s.record_is s.spelled (legal.each first.before s.own s.rest s.list)

pub part-none-illegal : (index count : ℕ) (h : List Record) (payloads : List (List ℕ)) (nth : ℕ) → IsLegal index count h → All IsRecord h → map spelling h ≡ payloads → part_load.IsFirstIllegal index count payloads nth → ⊥
part-none-illegal index count h payloads nth legal records spelled first =
    let s = splits h first.before first.bad first.rest records first.records (spelled ∙ first.stands) in
    first.illegal.none s.own s.record_is s.spelled (legal.each first.before s.own s.rest s.list)

pub undamaged-at : (IsFirstIllegal : List (List ℕ) → ℕ → Type 0) (bytes : List ℕ) (l : List Record) (here : ℕ) → stands_for bytes ≡ Ok (map spelling l)
    → ((payloads : List (List ℕ)) (nth : ℕ) → map spelling l ≡ payloads → IsFirstIllegal payloads nth → ⊥) → IsDamagedAt IsFirstIllegal bytes here → ⊥
undamaged-at IsFirstIllegal bytes l here stands none (by_bytes is) = whole bytes (map spelling l) here stands is
undamaged-at IsFirstIllegal bytes l here stands none (by_record payloads is illegal) = none payloads illegal.nth (payloads-same (map spelling l) payloads bytes stands is) illegal.first

pub part-undamaged : (file : File) (bytes : List ℕ) (k count : ℕ) (h : List Record) (here : ℕ) → file.reads ≡ Some bytes → IsPartIn file k count h → PartIsDamaged file k count here → ⊥
part-undamaged file bytes k count h here is read damaged =
    undamaged-at (part_load.IsFirstIllegal k count) bytes h here (told _ file.reads bytes is read.stands ∙ ap (λ l. Ok l) (sym read.loaded.spelled))
    (λ payloads nth spelled first. part-none-illegal k count h payloads nth read.loaded.held.legal read.loaded.records spelled first) (told _ file.reads bytes is damaged)

pub catalog-undamaged : (file : File) (bytes : List ℕ) (c : List Record) (here : ℕ) → file.reads ≡ Some bytes → IsCatalogIn file c → CatalogIsDamaged file here → ⊥
catalog-undamaged file bytes c here is read damaged =
    undamaged-at catalog_load.IsFirstIllegal bytes c here (told _ file.reads bytes is read.stands ∙ ap (λ l. Ok l) (sym read.loaded.spelled))
    (λ payloads nth spelled first. catalog-none-illegal c payloads nth read.loaded.legal read.loaded.records spelled first) (told _ file.reads bytes is damaged)

-- ---- one damage

part-first : (k count : ℕ) (payloads : List (List ℕ)) (n m : ℕ) (a : part_load.IsFirstIllegal k count payloads n) (b : part_load.IsFirstIllegal k count payloads m) → length a.before < length b.before → ⊥
part-first k count payloads n m a b less =
    let s = shorter-splits a.before b.before a.bad a.rest (b.bad ∷ b.rest) a.records b.records less (sym a.stands ∙ b.stands) in
    a.illegal.none s.own s.record_is s.spelled (b.legal.each a.before s.own s.rest s.list)

part-nth : (k count : ℕ) (payloads : List (List ℕ)) (n m : ℕ) → part_load.IsFirstIllegal k count payloads n → part_load.IsFirstIllegal k count payloads m → n ≡ m
part-nth k count payloads n m a b =
    ⊎_elim
    (λ less. absurd (part-first k count payloads n m a b less))
    (λ from. ⊎_elim (λ more. absurd (part-first k count payloads m n b a more)) (λ to. let x = a.place in let y = b.place in omega (arith, from, to, x, y)) (cases_lt (length b.before) (length a.before)))
    (cases_lt (length a.before) (length b.before))

catalog-first : (payloads : List (List ℕ)) (n m : ℕ) (a : catalog_load.IsFirstIllegal payloads n) (b : catalog_load.IsFirstIllegal payloads m) → length a.before < length b.before → ⊥
catalog-first payloads n m a b less =
    let s = shorter-splits a.before b.before a.bad a.rest (b.bad ∷ b.rest) a.records b.records less (sym a.stands ∙ b.stands) in
    a.illegal.none s.own s.record_is s.spelled (b.legal.each a.before s.own s.rest s.list)

catalog-nth : (payloads : List (List ℕ)) (n m : ℕ) → catalog_load.IsFirstIllegal payloads n → catalog_load.IsFirstIllegal payloads m → n ≡ m
catalog-nth payloads n m a b =
    ⊎_elim
    (λ less. absurd (catalog-first payloads n m a b less))
    (λ from. ⊎_elim (λ more. absurd (catalog-first payloads m n b a more)) (λ to. let x = a.place in let y = b.place in omega (arith, from, to, x, y)) (cases_lt (length b.before) (length a.before)))
    (cases_lt (length a.before) (length b.before))

one-place : (IsFirstIllegal : List (List ℕ) → ℕ → Type 0) (bytes : List ℕ) (x y : ℕ) → ((payloads : List (List ℕ)) (n m : ℕ) → IsFirstIllegal payloads n → IsFirstIllegal payloads m → n ≡ m)
    → IsDamagedAt IsFirstIllegal bytes x → IsDamagedAt IsFirstIllegal bytes y → x ≡ y
one-place IsFirstIllegal bytes x y same (by_bytes a) (by_bytes b) = cc
one-place IsFirstIllegal bytes x y same (by_bytes a) (by_record p b j) = absurd (whole bytes p x b a)
one-place IsFirstIllegal bytes x y same (by_record p a i) (by_bytes b) = absurd (whole bytes p y a b)
one-place IsFirstIllegal bytes x y same (by_record p a i) (by_record q b j) =
    let e : p ≡ q = payloads-same p q bytes a b in
    let n = same q i.nth j.nth (subst (λ l. IsFirstIllegal l i.nth) e i.first) j.first in
    i.here_is ∙ ap (gate_of p) n ∙ ap (λ l. gate_of l j.nth) e ∙ sym j.here_is

pub part-place : (file : File) (bytes : List ℕ) (k count x y : ℕ) → file.reads ≡ Some bytes → PartIsDamaged file k count x → PartIsDamaged file k count y → x ≡ y
part-place file bytes k count x y is a b = one-place (part_load.IsFirstIllegal k count) bytes x y (part-nth k count) (told _ file.reads bytes is a) (told _ file.reads bytes is b)

pub catalog-place : (file : File) (bytes : List ℕ) (x y : ℕ) → file.reads ≡ Some bytes → CatalogIsDamaged file x → CatalogIsDamaged file y → x ≡ y
catalog-place file bytes x y is a b = one-place catalog_load.IsFirstIllegal bytes x y catalog-nth (told _ file.reads bytes is a) (told _ file.reads bytes is b)
