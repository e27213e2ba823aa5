-- Why lists aren't read of payloads, and files not opened.
use Rattle.std.proofs.Common.{◌≡◌, ℕ, ◌+◌, ◌<◌, List, [], ◌∷◌, ◌++◌, length, take, get_or, min, Option, None, Some, IfSome, Ok, Err, IsErrOf, ap, sym, subst, ◌∙◌, arith}
use Rattle.std.proofs.lemmas.List.{take_more}
use Rattle.qz_catalog.specs.Loads as catalog
use Rattle.qz_disks.specs.Shelves.{File, SameFile}
use Rattle.qz_folders.proofs.Files.{carried}
use Rattle.qz_journal.specs.Frames.{stands_for}
use Rattle.qz_journal.specs.Journals.{gate_behind}
use Rattle.qz_loading.specs.declared.fault.LoadFault.{LoadFault}
use Rattle.qz_loading.specs.declared.fault.LoadFault.TheVariants.{Damaged, Behind, Altered, NotFounded, Fault, Memory}
use Rattle.qz_loading.specs.Reading.{IsAgreedIn, IsCatalogFault, IsCatalogRefused, IsDamagedAt, IsDisagreement, IsIllegalAt, IsPartAltered, IsPartBehind, IsPartFault, IsPartIn, IsPartRefused, IsShardFault, by_record}
use Rattle.qz_shard.specs.Loads as part
use Rattle.qz_terms.specs.declared.record.Record.{Record}

-- ---- the place of a gate

gate-append : (ps : List (List ℕ)) (p : List ℕ) → gate_behind (ps ++ p ∷ []) ≡ gate_behind ps + (5 + length p)
gate-append [] p = omega arith
gate-append (q ∷ ps) p = let e = gate-append ps p in omega (arith, e)

up_to : (g a b n most : ℕ) → g ≡ min n most → min (min (g + a) most + b) most ≡ min (n + (a + b)) most
up_to g a b n most e = omega arith

pub gate_step : (xs : List (List ℕ)) (i : ℕ) (x : List ℕ) (g most : ℕ) → i < length xs → x ≡ get_or xs i x → g ≡ min (gate_behind (take i xs)) most → min (min (g + 5) most + length x) most ≡ min (gate_behind (take (i + 1) xs)) most
gate_step xs i x g most within is e =
    let t : take (i + 1) xs ≡ take i xs ++ x ∷ [] = take_more xs i x within ∙ ap (λ y. take i xs ++ y ∷ []) (sym is) in
    up_to g 5 (length x) (gate_behind (take i xs)) most e ∙ ap (λ n. min n most) (sym (gate-append (take i xs) x)) ∙ ap (λ l. min (gate_behind l) most) (sym t)

-- ---- of files

by_illegal : (IsFirstIllegal : List (List ℕ) → ℕ → Type 0) (o : Option (List ℕ)) (payloads : List (List ℕ)) (here : ℕ) → IfSome o (λ bytes. stands_for bytes ≡ Ok payloads) → IsIllegalAt IsFirstIllegal payloads here
    → IfSome o (λ bytes. IsDamagedAt IsFirstIllegal bytes here)
by_illegal IsFirstIllegal None payloads here stands illegal = tt
by_illegal IsFirstIllegal (Some bytes) payloads here stands illegal = by_record payloads stands illegal

none_there : (o : Option (List ℕ)) (payloads : List (List ℕ)) → IfSome o (λ bytes. stands_for bytes ≡ Ok payloads) → payloads ≡ [] → IfSome o (λ bytes. stands_for bytes ≡ Ok [])
none_there None payloads stands empty = tt
none_there (Some bytes) payloads stands empty = stands ∙ ap (λ l. Ok l) empty

-- a file whose payloads were refused
pub catalog_unread : (file : File) (payloads : List (List ℕ)) (told : LoadFault) → IfSome file.reads (λ bytes. stands_for bytes ≡ Ok payloads) → IsCatalogRefused payloads told → IsCatalogFault file told
catalog_unread file payloads (Damaged name here) stands is = (is.0, by_illegal catalog.IsFirstIllegal file.reads payloads here stands is.1)
catalog_unread file payloads (Behind shard position end) stands is = is
catalog_unread file payloads (Altered shard n) stands is = is
catalog_unread file payloads NotFounded stands is = none_there file.reads payloads stands is
catalog_unread file payloads Fault stands is = tt
catalog_unread file payloads Memory stands is = tt

pub part_unread : (file : File) (index count : ℕ) (payloads : List (List ℕ)) (told : LoadFault) → IfSome file.reads (λ bytes. stands_for bytes ≡ Ok payloads) → IsPartRefused index count payloads told → IsPartFault file index count told
part_unread file index count payloads (Damaged name here) stands is = (is.0, by_illegal (part.IsFirstIllegal index count) file.reads payloads here stands is.1)
part_unread file index count payloads (Behind shard position end) stands is = is
part_unread file index count payloads (Altered shard n) stands is = is
part_unread file index count payloads NotFounded stands is = is
part_unread file index count payloads Fault stands is = tt
part_unread file index count payloads Memory stands is = tt

-- ---- of a shard that isn't gone past

-- its file isn't opened
pub shard_unopened : (file : File) (index count : ℕ) (c : List Record) (told : LoadFault) → IsPartFault file index count told → IsShardFault file index count c told
shard_unopened file index count c (Damaged name here) is = is
shard_unopened file index count c (Behind shard position end) is = absurd is
shard_unopened file index count c (Altered shard n) is = absurd is
shard_unopened file index count c NotFounded is = is
shard_unopened file index count c Fault is = tt
shard_unopened file index count c Memory is = tt

-- its list disagrees
pub shard_disagrees : (file : File) (index count : ℕ) (c own : List Record) (told : LoadFault) → IsPartIn file index count own → IsDisagreement c index own told → IsShardFault file index count c told
shard_disagrees file index count c own (Damaged name here) read is = absurd is
shard_disagrees file index count c own (Behind shard position end) read is = (is.0, is.1, record { own = own; is_read = read; behind = is.2 })
shard_disagrees file index count c own (Altered shard n) read is = (is.0, record { own = own; is_read = read; altered = is.1 })
shard_disagrees file index count c own NotFounded read is = is
shard_disagrees file index count c own Fault read is = tt
shard_disagrees file index count c own Memory read is = tt

-- a disagreement is no fault
pub no_fault_told : {T : Type 0} (c : List Record) (index : ℕ) (own : List Record) (fault : LoadFault) → IsDisagreement c index own fault → IsErrOf {T = T} (Err fault) Fault → ⊥
no_fault_told c index own fault is same = let e : fault ≡ Fault = cc in subst (IsDisagreement c index own) e is

-- ---- the same of a file that reads the same

pub part_in_like : (a b : File) (index count : ℕ) (own : List Record) → SameFile a b → IsPartIn b index count own → IsPartIn a index count own
part_in_like a b index count own same is = record { payloads = is.payloads; stands = carried a.reads b.reads same.reads is.stands (λ _ x. x); loaded = is.loaded }

pub agreed_like : (a b : File) (index count : ℕ) (c : List Record) → SameFile a b → IsAgreedIn b index count c → IsAgreedIn a index count c
agreed_like a b index count c same is = record { own = is.own; is_read = part_in_like a b index count is.own same is.is_read; agree = is.agree }

behind_like : (a b : File) (index count : ℕ) (c : List Record) (position : ℕ) → SameFile a b → IsPartBehind b index count c position → IsPartBehind a index count c position
behind_like a b index count c position same is = record { own = is.own; is_read = part_in_like a b index count is.own same is.is_read; behind = is.behind }

altered_like : (a b : File) (index count : ℕ) (c : List Record) (nth : ℕ) → SameFile a b → IsPartAltered b index count c nth → IsPartAltered a index count c nth
altered_like a b index count c nth same is = record { own = is.own; is_read = part_in_like a b index count is.own same is.is_read; altered = is.altered }

pub shard_fault_like : (a b : File) (index count : ℕ) (c : List Record) (told : LoadFault) → SameFile a b → IsShardFault b index count c told → IsShardFault a index count c told
shard_fault_like a b index count c (Damaged name here) same is = (is.0, carried a.reads b.reads same.reads is.1 (λ _ h. h))
shard_fault_like a b index count c (Behind shard position end) same is = (is.0, is.1, behind_like a b index count c position same is.2)
shard_fault_like a b index count c (Altered shard n) same is = (is.0, altered_like a b index count c n same is.1)
shard_fault_like a b index count c NotFounded same is = is
shard_fault_like a b index count c Fault same is = tt
shard_fault_like a b index count c Memory same is = tt
