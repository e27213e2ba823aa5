-- The two lists of a school of one shard, as they are read.
use Rattle.std.proofs.Common.{◌≡◌, ◌≢◌, ℕ, zero, suc, ◌+◌, ◌<◌, List, [], ◌∷◌, ◌++◌, length, length-append, Option, None, Some, Result, Ok, Err, IfOk, IfErr, inl, inr, refl, sym, ap, subst, ◌∙◌, arith}
use Rattle.std.proofs.lemmas.List.Sums.{sum_by-cons}
use Rattle.std.specs.Prelude.{slice_get, sum_by}
use Rattle.qz_catalog.specs.Keeping as catalog
use Rattle.qz_catalog.specs.Loads as loads
use Rattle.qz_agreement.specs.Disagreements.{AreOfShard}
use Rattle.qz_keeper.specs.Lists.{EachMayStand, IsStored}
use Rattle.qz_loading.specs.declared.fault.LoadFault.{LoadFault}
use Rattle.qz_loading.specs.declared.fault.LoadFault.TheVariants.{Damaged, Behind, Altered, NotFounded, Fault, Memory}
use Rattle.qz_loading.specs.Reading.{IsDisagreement}
use Rattle.qz_loading.specs.Telling.{TellsDamageOf}
use Rattle.qz_record.specs.declared.list_fault.ListFault.{ListFault}
use Rattle.qz_record.specs.declared.list_fault.ListFault.TheVariants as list
use Rattle.qz_school.proofs.Calls.{stands_alone}
use Rattle.qz_school.specs.Solos.{IsSolo, School, faults_of}
use Rattle.qz_shard.specs.Keeping as part
use Rattle.qz_shard.specs.Loads as part_loads
use Rattle.qz_sqlbases.specs.Databases.{Lists, Standing}
use Rattle.qz_sqlfolders.specs.declared.opening.Keepers.{Keepers}
use Rattle.qz_sqlfolders.specs.Folders.{Telling, catalog_place, part_place, standing_of}
use Rattle.qz_sqlite.proofs.Founding.{as-fault}
use Rattle.qz_sqlite.specs.Keepers.{AreKeepersOf, IsCatalogOf, IsOnlyPart, IsReadFrom}
use Rattle.qz_sqlite.specs.Loading.{AreStoredIn}
use Rattle.qz_sqlfolders.specs.Names.{catalog_name, part_name}
use Rattle.qz_sqlite.specs.Reading.{AreOfSchool, AreRead, AreRefused, Disagrees, IsCatalogDamagedAt, IsCatalogFault, IsCatalogIn, IsCatalogRefused, IsDisagreedBy, IsPartDamagedAt, IsPartFault, IsPartIn, IsPartRefused, by_record, by_shards, with_founding}
use Rattle.qz_sqlite.specs.Telling.{TellsIllegal}
use Rattle.qz_terms.specs.declared.record.Record.{Record}
use Rattle.qz_terms.specs.Catalog.{shards}
use Rattle.qz_terms.specs.Legal.{AllAgree}

-- ---- the catalogue

damaged-first : (cs : List (List ℕ)) (nth : ℕ) (told : LoadFault) → loads.IsFirstIllegal cs nth → TellsDamageOf catalog_name nth told → IsCatalogRefused cs told
damaged-first cs nth (Damaged name here) first tells = (tells.0, by_record (subst (loads.IsFirstIllegal cs) (sym tells.1) first))
damaged-first cs nth (Behind shard position end) first tells = tells
damaged-first cs nth (Altered shard n) first tells = tells
damaged-first cs nth NotFounded first tells = tells
damaged-first cs nth Fault first tells = tells
damaged-first cs nth Memory first tells = tt

-- a payload of it is illegal
pub catalog-illegal : (cs : List (List ℕ)) (f : ListFault) (told : LoadFault) → loads.IsListFault cs f → TellsIllegal catalog_name f told → IsCatalogRefused cs told
catalog-illegal cs (list.Illegal nth) told first tells = damaged-first cs nth told first tells
catalog-illegal cs list.Memory told first tells = subst (IsCatalogRefused cs) (sym tells) tt

-- it was founded with another number of shards
pub catalog-of-more : (cs : List (List ℕ)) (c : List Record) (told : LoadFault) → loads.IsLoaded cs c → shards c ≢ Some 1 → TellsDamageOf catalog_name 1 told → IsCatalogRefused cs told
catalog-of-more cs c (Damaged name here) loaded other tells = (tells.0, by_shards c loaded other tells.1)
catalog-of-more cs c (Behind shard position end) loaded other tells = tells
catalog-of-more cs c (Altered shard n) loaded other tells = tells
catalog-of-more cs c NotFounded loaded other tells = tells
catalog-of-more cs c Fault loaded other tells = tells
catalog-of-more cs c Memory loaded other tells = tt

-- ---- the shard

damaged-part : (ps : List (List ℕ)) (nth : ℕ) (told : LoadFault) → part_loads.IsFirstIllegal 0 1 ps nth → TellsDamageOf part_name nth told → IsPartRefused ps told
damaged-part ps nth (Damaged name here) first tells = (tells.0, subst (part_loads.IsFirstIllegal 0 1 ps) (sym tells.1) first)
damaged-part ps nth (Behind shard position end) first tells = tells
damaged-part ps nth (Altered shard n) first tells = tells
damaged-part ps nth NotFounded first tells = tells
damaged-part ps nth Fault first tells = tells
damaged-part ps nth Memory first tells = tt

pub part-illegal : (ps : List (List ℕ)) (f : ListFault) (told : LoadFault) → part_loads.IsListFault 0 1 ps f → TellsIllegal part_name f told → IsPartRefused ps told
part-illegal ps (list.Illegal nth) told first tells = damaged-part ps nth told first tells
part-illegal ps list.Memory told first tells = subst (IsPartRefused ps) (sym tells) tt

pub part-refused : (c : List Record) (ps : List (List ℕ)) (told : LoadFault) → IsPartRefused ps told → IsPartFault c ps told
part-refused c ps (Damaged name here) is = is
part-refused c ps (Behind shard position end) is = absurd is
part-refused c ps (Altered shard n) is = absurd is
part-refused c ps NotFounded is = absurd is
part-refused c ps Fault is = absurd is
part-refused c ps Memory is = tt

-- what a shard was read of
pub part-in : {K : Type 0} (ps : List (List ℕ)) (keeper : K) (s : part.Keeping K) → part.IsOpened 0 1 ps keeper s → IsPartIn ps s.held.list
part-in ps keeper s opened = record { index_is = refl; count_is = refl; spelled = opened.loaded.spelled; records = opened.loaded.records; held = opened.loaded.held }

pub part-disagrees : (c : List Record) (ps : List (List ℕ)) (own : List Record) (told : LoadFault) → IsPartIn ps own → IsDisagreement c 0 own told → IsPartFault c ps told
part-disagrees c ps own (Damaged name here) is why = absurd why
part-disagrees c ps own (Behind shard position end) is why = record { own = own; part_is = is; why = why }
part-disagrees c ps own (Altered shard n) is why = record { own = own; part_is = is; why = why }
part-disagrees c ps own NotFounded is why = absurd why
part-disagrees c ps own Fault is why = absurd why
part-disagrees c ps own Memory is why = tt

-- ---- both

pub catalog-in : {K : Type 0} (t : Telling K) (token : List ℕ) (cs : List (List ℕ)) (keeper : K) (s : catalog.Keeping K) → IsCatalogOf t token cs keeper s → shards s.held.list ≡ Some 1 → IsCatalogIn (with_founding token cs) s.held.list
catalog-in t token cs keeper s is one = record { loaded = is.opened.loaded; one = one }

pub refused-first : (cs ps : List (List ℕ)) (told : LoadFault) → IsCatalogFault cs told → AreRefused cs ps told
refused-first cs ps (Damaged name nth) is = inl is
refused-first cs ps (Behind shard position end) is = absurd is
refused-first cs ps (Altered shard nth) is = absurd is
refused-first cs ps NotFounded is = absurd is
refused-first cs ps Fault is = tt
refused-first cs ps Memory is = tt

pub refused-then : (cs ps : List (List ℕ)) (c : List Record) (told : LoadFault) → IsCatalogIn cs c → IsPartFault c ps told → AreRefused cs ps told
refused-then cs ps c (Damaged name nth) is why = inr (why.0, record { c = c; catalog_is = is; first = why.1 })
refused-then cs ps c (Behind shard position end) is why = record { c = c; catalog_is = is; disagrees = why }
refused-then cs ps c (Altered shard nth) is why = record { c = c; catalog_is = is; disagrees = why }
refused-then cs ps c NotFounded is why = absurd why.why
refused-then cs ps c Fault is why = tt
refused-then cs ps c Memory is why = tt

-- no fault is told of a shard
pub part-no-fault : (c : List Record) (ps : List (List ℕ)) (told : LoadFault) → IsPartFault c ps told → told ≢ Fault
part-no-fault c ps (Damaged name nth) is = λ e. absurd cc
part-no-fault c ps (Behind shard position end) is = λ e. absurd cc
part-no-fault c ps (Altered shard nth) is = λ e. absurd cc
part-no-fault c ps NotFounded is = λ e. absurd cc
part-no-fault c ps Fault is = absurd is.why
part-no-fault c ps Memory is = λ e. absurd cc

-- ---- the school

one-long : {A : Type 0} (xs : List A) (x : A) → xs ≡ x ∷ [] → length xs ≡ 1
one-long xs x is = rw is refl

at-first : {A : Type 0} (x y : A) (k : ℕ) → slice_get (x ∷ []) k ≡ Some y → (k ≡ 0) × (x ≡ y)
at-first x y zero is = (refl, cc)
at-first x y (suc k) is = absurd cc

-- two lists that are read, and agree, are a school's
pub read-solo : {K : Type 0} (ps : List (List ℕ)) (keeper : K) (c : catalog.Keeping K) (parts : List (part.Keeping K)) → shards c.held.list ≡ Some 1 → IsOnlyPart c.held.list ps keeper parts → IsSolo c parts
read-solo ps keeper c parts one only = subst (IsSolo c) (sym only.parts_are) alone
  where
    placed_at : (k : ℕ) (s : part.Keeping _) → slice_get (only.own ∷ []) k ≡ Some s → (s.index ≡ k) × (s.count ≡ 1)
    placed_at k s is = let at = at-first only.own s k is in subst (λ x. (x.index ≡ k) × (x.count ≡ 1)) at.1 (only.opened.loaded.index_is ∙ sym at.0, only.opened.loaded.count_is)

    agrees_at : (k : ℕ) (s : part.Keeping _) → slice_get (only.own ∷ []) k ≡ Some s → EachMayStand (AllAgree c.held.list) s.held
    agrees_at k s is = let at = at-first only.own s k is in subst (λ x. EachMayStand (AllAgree c.held.list) x.held) at.1 (stands_alone (AllAgree c.held.list) only.own.held only.opened.no_doubt only.agree)

    alone : IsSolo c (only.own ∷ [])
    alone = record { some = omega arith; placed = record { each = placed_at }; founded = one; agree = record { each = agrees_at } }

pub read-from : {K : Type 0} (t : Telling K) (token : List ℕ) (cs ps : List (List ℕ)) (one other : K) (c : catalog.Keeping K) (parts : List (part.Keeping K)) → IsCatalogOf t token cs one c → shards c.held.list ≡ Some 1 → IsOnlyPart c.held.list ps other parts
    → IsReadFrom t token cs ps (record { catalog = one; part = other }) (record { catalog = c; parts = parts })
read-from t token cs ps one other c parts is alone only = record {
  catalog_is = is;
  part_is = only;
  school = record { are_read = record { catalog_is = catalog-in t token cs one c is alone; part_is = part-in ps other only.own only.opened }; agree = only.agree };
}

-- ---- its keepers

-- the last of one is all there is
pub last-alone : {A : Type 0} (xs rest : List A) (x : A) → length xs ≡ 1 → xs ≡ rest ++ x ∷ [] → xs ≡ x ∷ []
last-alone xs [] x one is = is
last-alone xs (y ∷ ys) x one is =
    let long : length xs ≡ suc (length (ys ++ x ∷ [])) = ap length is in
    let more : length (ys ++ x ∷ []) ≡ length ys + 1 = length-append ys (x ∷ []) in
    absurd (omega (arith, one, long, more))

-- shards that are one, which was read
pub only-part : {K V E : Type 0} (items : V → List (part.Keeping K)) (c : List Record) (ps : List (List ℕ)) (keeper : K) (s : part.Keeping K) (r : Result V E) → part.IsOpened 0 1 ps keeper s → AllAgree c s.held.list → IfOk r (λ v. items v ≡ s ∷ []) → IfOk r (λ v. IsOnlyPart c ps keeper (items v))
only-part items c ps keeper s (Ok v) opened agree is = record { own = s; parts_are = is; opened = opened; agree = agree }
only-part items c ps keeper s (Err e) opened agree is = tt

one-sum : {X : Type 0} (f : X → ℕ) (x : X) → sum_by f (x ∷ []) ≡ f x
one-sum f x = let e = sum_by-cons f x [] in omega (arith, e)

-- how often they failed
pub counted-both : {K : Type 0} (t : Telling K) (faults : K → ℕ) (s : School K) (keepers : Keepers K) → AreKeepersOf t s keepers → faults keepers.catalog + faults keepers.part ≡ faults_of faults s
counted-both t faults s keepers are =
    ap (λ k. faults k + faults keepers.part) are.catalog_is
    ∙ ap (λ k. faults s.catalog.keeper + faults k) are.part_is
    ∙ ap (λ n. faults s.catalog.keeper + n) (sym (one-sum (λ (x : part.Keeping _). faults x.keeper) are.own))
    ∙ ap (λ (l : List (part.Keeping _)). faults s.catalog.keeper + sum_by (λ x. faults x.keeper) l) (sym are.parts_are)

-- databases that took them back
pub stored-in : {K : Type 0} (t : Telling K) (folder : List ℕ) (lists : Lists) (s : School K) (keepers : Keepers K) → AreKeepersOf t s keepers → lists.list (catalog_place folder) ≡ standing_of t keepers.catalog → lists.list (part_place folder) ≡ standing_of t keepers.part → AreStoredIn folder lists s
stored-in t folder lists s keepers are one other = record {
  own = are.own;
  parts_are = are.parts_are;
  catalog_stored = subst (λ (x : Standing). IsStored x.payloads x.doubt s.catalog.held) (sym one) are.catalog_stored;
  part_stored = subst (λ (x : Standing). IsStored x.payloads x.doubt are.own.held) (sym other) are.part_stored;
  school = are.school;
}

-- ---- results

-- a catalogue that was founded with another number of shards isn't read
pub more-refused : {V K : Type 0} (cs : List (List ℕ)) (c : List Record) (r : Result V (K × LoadFault)) → loads.IsLoaded cs c → IfErr r (λ f. shards c ≢ Some 1) → IfErr r (λ f. TellsDamageOf catalog_name 1 f.1) → IfErr r (λ f. IsCatalogRefused cs f.1)
more-refused cs c (Ok v) loaded other tells = tt
more-refused cs c (Err f) loaded other tells = catalog-of-more cs c f.1 loaded other tells

pub refused-fault : {V K : Type 0} (cs : List (List ℕ)) (r : Result V (K × LoadFault)) → IfErr r (λ f. IsCatalogRefused cs f.1) → IfErr r (λ f. IsCatalogFault cs f.1)
refused-fault cs (Ok v) is = tt
refused-fault cs (Err f) is = as-fault cs f.1 is
