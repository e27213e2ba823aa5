-- Databases that are given back since they don't give a school.
use Rattle.std.proofs.Common.{◌≡◌, ℕ, ◌+◌, List, [], Result, inr, refl, sym, ap, subst, ◌∙◌, arith}
use Rattle.qz_disks.specs.declared.keeper.KeepErr.{KeepErr}
use Rattle.qz_disks.specs.Shelves.{RisesBy}
use Rattle.qz_loading.specs.declared.fault.LoadFault.{LoadFault}
use Rattle.qz_loading.specs.declared.fault.LoadFault.TheVariants.{Damaged, Behind, Altered, NotFounded, Fault, Memory}
use Rattle.qz_outside.specs.Causes.{HasRisen}
use Rattle.qz_sqlbases.specs.Databases.{Lists, Standing}
use Rattle.qz_sqlfolders.specs.Folders.{AreFoundIn, AreOpened, IsOpenedAs, Telling, catalog_place, part_place, standing, standing_of}
use Rattle.qz_sqlfolders.specs.declared.opening.Keepers.{Keepers}
use Rattle.qz_sqlfolders.specs.declared.opening.Opened.{Opened}
use Rattle.qz_sqlfolders.proofs.Given.{stays-settled}
use Rattle.qz_sqlite.specs.Keepers.{AreGivenBack}
use Rattle.qz_sqlite.specs.Reading.{AreRefused, with_founding}
use Rattle.qz_sqlite.specs.Founding.{Counts, Founds, IsGivenBack, asked, stood, wanting}
use Rattle.qz_sqlite.specs.Loading.{IsAsked, IsLoadFault, ListsStay}

founds-standing : {K : Type 0} (t : Telling K) (token : List ℕ) (payloads : List (List ℕ)) (old new : K) (outcome : Result _ _) → Founds t token payloads old new outcome → Founds standing token payloads (standing_of t old) (standing_of t new) outcome
founds-standing t token payloads old new outcome (stood some same ended) = stood some (ap (standing_of t) same) ended
founds-standing t token payloads old new outcome (wanting none same ended) = wanting none (ap (standing_of t) same) ended
founds-standing t token payloads old new outcome (asked none appended) = asked none appended

-- the catalogue's, of which the founding was asked at most
pub asked-so : {K : Type 0} (t : Telling K) (faults : K → ℕ) (token : List ℕ) (was now : Standing) (keeper new : K) (found : List (List ℕ)) (told : LoadFault) → IsOpenedAs t faults was keeper found → IsGivenBack t token found keeper new told → now ≡ standing_of t new → IsAsked token was now told
asked-so t faults token was now keeper new found told opened back is = subst (λ s. IsAsked token was s told) (sym is) (record {
  found = found;
  settled = standing_of t keeper;
  opened = opened.settled;
  back = record { outcome = back.outcome; founds = founds-standing t token found keeper new back.outcome back.founds; told_after = back.told_after };
})

-- a count rose where a keeper's did that hadn't failed before
pub risen-back : (old now one other first second : ℕ) (told : LoadFault) → first ≡ 0 → second ≡ 0 → other ≡ second → RisesBy (one + other) old now → Counts first one told → told ≡ Fault → HasRisen old now
risen-back old now one other first second told fresh too same rises counts is = λ few. let n = rises.risen few in let r = counts.risen is (omega (arith, n, few)) in omega (arith, n, r, fresh)

-- ---- what is told

pub load-fault : (token folder : List ℕ) (lists : Lists) (cs ps : List (List ℕ)) (told : LoadFault) → AreFoundIn folder lists cs ps → AreRefused (with_founding token cs) ps told → IsLoadFault token folder lists told
load-fault token folder lists cs ps (Damaged name here) found is = record { cs = cs; ps = ps; found = found; refused = is }
load-fault token folder lists cs ps (Behind shard position end) found is = record { cs = cs; ps = ps; found = found; refused = is }
load-fault token folder lists cs ps (Altered shard nth) found is = record { cs = cs; ps = ps; found = found; refused = is }
load-fault token folder lists cs ps NotFounded found is = record { cs = cs; ps = ps; found = found; refused = is }
load-fault token folder lists cs ps Fault found is = tt
load-fault token folder lists cs ps Memory found is = tt

pub found-in : {K : Type 0} (t : Telling K) (faults : K → ℕ) (folder : List ℕ) (lists : Lists) (o : Opened K) → AreOpened t faults folder lists o → AreFoundIn folder lists o.catalog o.part
found-in t faults folder lists o opened = record { catalog_found = opened.catalog.settled.stands; part_found = opened.part.settled.stands }

pub lists-stay : {K : Type 0} (t : Telling K) (faults : K → ℕ) (token folder : List ℕ) (old new : Lists) (o : Opened K) (keepers : Keepers K) (told : LoadFault) → AreOpened t faults folder old o → AreGivenBack t token o.catalog o.keepers keepers told
    → new.list (catalog_place folder) ≡ standing_of t keepers.catalog → new.list (part_place folder) ≡ standing_of t keepers.part → ListsStay token folder old new told
lists-stay t faults token folder old new o keepers told opened back one other = record {
  catalog = inr (asked-so t faults token (old.list (catalog_place folder)) (new.list (catalog_place folder)) o.keepers.catalog keepers.catalog o.catalog told opened.catalog back.catalog_back one);
  part = stays-settled t faults (old.list (part_place folder)) (new.list (part_place folder)) o.keepers.part o.part opened.part (other ∙ ap (standing_of t) back.part_back);
}
