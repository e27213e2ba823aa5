-- The lists of shards that are open, and of the files that they are read of.
use Rattle.std.proofs.Common.{◌≡◌, ℕ, ◌<◌, ◌∙◌, List, [], ◌∷◌, length, Option, None, Some, option_map, get_or, ap, sym, subst, refl, inr, arith}
use Rattle.std.proofs.lemmas.List.{length-map}
use Rattle.std.proofs.lemmas.Option.{slice_get-get_or, slice_get-map}
use Rattle.std.specs.Prelude.{slice_get}
use Rattle.qz_disks.specs.Shelves.{ChangesAt, File, Files, SameFile}
use Rattle.qz_journal.specs.Journals.{Ledger}
use Rattle.qz_loading.specs.declared.fault.LoadFault.{LoadFault}
use Rattle.qz_loading.specs.declared.fault.LoadFault.TheVariants.{Damaged, Behind, Altered, NotFounded, Fault, Memory}
use Rattle.qz_loading.proofs.Finding.{no_catalog}
use Rattle.qz_loading.proofs.Refusing.{agreed_like, shard_fault_like}
use Rattle.qz_loading.proofs.Standing.{opened_like}
use Rattle.qz_loading.specs.Opening.{ArePartsOf, IsCatalogOf, IsLoadedFrom, IsPartOf, ShardsAgree, lists_of}
use Rattle.qz_loading.specs.Places.{catalog_place, part_place}
use Rattle.qz_loading.specs.Reading.{IsAgreedIn, IsCatalogIn, IsFounded, IsLoadFault, IsPartIn, IsPartsFault, IsShardFault}
use Rattle.qz_catalog.specs.Keeping as catalog
use Rattle.qz_shard.specs.Keeping as part
use Rattle.qz_terms.specs.declared.record.Record.{Record}
use Rattle.qz_terms.specs.Catalog.{shards}
use Rattle.qz_terms.specs.Legal.{AllAgree, IsLegal}

-- what a mapped option has stands in the option
pub record IsMade {X Y : Type 0} (f : X → Y) (o : Option X) (y : Y) : Type 0 where
  pub from : X
  pub stands : o ≡ Some from
  pub made : f from ≡ y

made_of : {X Y : Type 0} (f : X → Y) (o : Option X) (y : Y) → option_map f o ≡ Some y → IsMade f o y
made_of f None y got = absurd cc
made_of f (Some x) y got = record { from = x; stands = refl; made = cc }

pub listed : {K : Type 0} (parts : List (part.Keeping K)) (k : ℕ) (h : List Record) → slice_get (lists_of parts) k ≡ Some h → IsMade (λ (s : part.Keeping K). s.held.list) (slice_get parts k) h
listed parts k h got = made_of (λ s. s.held.list) (slice_get parts k) h (sym (slice_get-map (λ s. s.held.list) parts k) ∙ got)

pub listed_length : {K : Type 0} (parts : List (part.Keeping K)) → length (lists_of parts) ≡ length parts
listed_length parts = length-map parts (λ s. s.held.list)

pub part_in : {D : Type 0} (moment : D → ℕ) (left_at : D → ℕ → List ℕ → Type 0) (file : File) (k count : ℕ) (s : part.Keeping (Ledger D)) → IsPartOf moment left_at file k count s → IsPartIn file k count s.held.list
part_in moment left_at file k count s is = record {
  payloads = is.payloads;
  stands = is.opened.list;
  loaded = record { index_is = refl; count_is = refl; spelled = is.loaded.loaded.spelled; records = is.loaded.loaded.records; held = is.loaded.loaded.held };
}

pub catalog_in : {D : Type 0} (moment : D → ℕ) (left_at : D → ℕ → List ℕ → Type 0) (file : File) (s : catalog.Keeping (Ledger D)) → IsCatalogOf moment left_at file s → IsCatalogIn file s.held.list
catalog_in moment left_at file s is = record { payloads = is.payloads; stands = is.opened.list; loaded = is.loaded.loaded }

-- ---- over files that were the same

pub parts_of_like : {D : Type 0} (moment : D → ℕ) (left_at : D → ℕ → List ℕ → Type 0) (folder : List ℕ) (old mid : Files) (count : ℕ) (parts : List (part.Keeping (Ledger D))) → ((k : ℕ) → SameFile (old.file (part_place folder k)) (mid.file (part_place folder k)))
    → ArePartsOf moment left_at folder mid count parts → ArePartsOf moment left_at folder old count parts
parts_of_like moment left_at folder old mid count parts same are = record {
  each = λ k s got. (let is = are.each k s got in
      record { payloads = is.payloads; opened = opened_like moment left_at (old.file (part_place folder k)) (mid.file (part_place folder k)) s.keeper is.payloads (same k) is.opened; loaded = is.loaded });
}

parts_fault_like : (folder : List ℕ) (old mid : Files) (c : List Record) (count : ℕ) (fault : LoadFault) → ((k : ℕ) → SameFile (old.file (part_place folder k)) (mid.file (part_place folder k))) → IsPartsFault folder mid c count fault → IsPartsFault folder old c count fault
parts_fault_like folder old mid c count fault same is = record {
  index = is.index;
  within = is.within;
  in_front = λ k less. agreed_like (old.file (part_place folder k)) (mid.file (part_place folder k)) k count c (same k) (is.in_front k less);
  why = shard_fault_like (old.file (part_place folder is.index)) (mid.file (part_place folder is.index)) is.index count c fault (same is.index) is.why;
}

-- ---- causes

-- the shards that are open are read, and agree
agreed_in : {D : Type 0} (moment : D → ℕ) (left_at : D → ℕ → List ℕ → Type 0) (folder : List ℕ) (files : Files) (count : ℕ) (c : List Record) (parts : List (part.Keeping (Ledger D))) → ArePartsOf moment left_at folder files count parts → ShardsAgree c parts
    → (k : ℕ) → k < length parts → IsAgreedIn (files.file (part_place folder k)) k count c
agreed_in moment left_at folder files count c [] are agree k below = absurd (omega arith)
agreed_in moment left_at folder files count c (p ∷ parts) are agree k below =
    let s = get_or (p ∷ parts) k p in
    let got : slice_get (p ∷ parts) k ≡ Some s = slice_get-get_or (p ∷ parts) k p below in
    record { own = s.held.list; is_read = part_in moment left_at (files.file (part_place folder k)) k count s (are.each k s got); agree = agree.each k s got }

-- a shard that isn't gone past, behind those that are open
pub first_fault : {D : Type 0} (moment : D → ℕ) (left_at : D → ℕ → List ℕ → Type 0) (folder : List ℕ) (files : Files) (count : ℕ) (c : List Record) (parts : List (part.Keeping (Ledger D))) (fault : LoadFault) → ArePartsOf moment left_at folder files count parts → ShardsAgree c parts
    → length parts < count → IsShardFault (files.file (part_place folder (length parts))) (length parts) count c fault → IsPartsFault folder files c count fault
first_fault moment left_at folder files count c parts fault are agree fewer is = record { index = length parts; within = fewer; in_front = agreed_in moment left_at folder files count c parts are agree; why = is }

load_fault : (folder : List ℕ) (files : Files) (c : List Record) (count : ℕ) (fault : LoadFault) → IsFounded folder files c count → IsPartsFault folder files c count fault → IsLoadFault folder files fault
load_fault folder files c count (Damaged name here) founded is = inr (record { c = c; count = count; founded = founded; parts = is })
load_fault folder files c count (Behind shard position end) founded is = record { c = c; count = count; founded = founded; parts = is }
load_fault folder files c count (Altered shard nth) founded is = record { c = c; count = count; founded = founded; parts = is }
load_fault folder files c count NotFounded founded is = absurd is.why
load_fault folder files c count Fault founded is = tt
load_fault folder files c count Memory founded is = tt

pub parts_fault : (folder : List ℕ) (old mid : Files) (c : List Record) (count : ℕ) (fault : LoadFault) → ((k : ℕ) → SameFile (old.file (part_place folder k)) (mid.file (part_place folder k))) → IsFounded folder old c count → IsPartsFault folder mid c count fault → IsLoadFault folder old fault
parts_fault folder old mid c count fault same founded is = load_fault folder old c count fault founded (parts_fault_like folder old mid c count fault same is)

-- ---- all of a school

-- the shards' files are as they were before the catalogue's was opened
pub beside_catalog : (folder : List ℕ) (old one : Files) → ChangesAt (catalog_place folder) old one → (k : ℕ) → SameFile (old.file (part_place folder k)) (one.file (part_place folder k))
beside_catalog folder old one changes k = changes.file (part_place folder k) (no_catalog folder k)

pub is_loaded : {D : Type 0} (moment : D → ℕ) (left_at : D → ℕ → List ℕ → Type 0) (folder : List ℕ) (files : Files) (c : catalog.Keeping (Ledger D)) (count : ℕ) (parts : List (part.Keeping (Ledger D))) → IsCatalogOf moment left_at (files.file (catalog_place folder)) c
    → shards c.held.list ≡ Some count → ArePartsOf moment left_at folder files count parts → length parts ≡ count → ShardsAgree c.held.list parts → IsLoadedFrom moment left_at folder files c parts
is_loaded moment left_at folder files c count parts is founded are all agree =
    let whole : count ≡ length (lists_of parts) = sym (listed_length parts ∙ all) in
    record {
      catalog_is = is;
      parts_are = subst (λ n. ArePartsOf moment left_at folder files n parts) (sym all) are;
      school = record {
        records = is.loaded.loaded.legal;
        founded = founded ∙ ap (λ n. Some n) whole;
        legal = λ k h got. (let m = listed parts k h got in
            let legal : IsLegal k count m.from.held.list = (are.each k m.from m.stands).loaded.loaded.held.legal in
            subst (λ n. IsLegal k n h) whole (subst (IsLegal k count) m.made legal));
        agree = λ k h got. (let m = listed parts k h got in subst (AllAgree c.held.list) m.made (agree.each k m.from m.stands));
      };
    }
