-- A catalogue's keeper that is asked for the founding, if it is.
use Rattle.std.proofs.Common.{◌≡◌, ◌≢◌, ℕ, List, [], ◌∷◌, ◌++◌, Option, None, Some, IfSome, option_map, Result, Ok, Err, refl, sym, ap, subst, ◌∙◌}
use Rattle.qz_disks.specs.declared.keeper.KeepErr.{KeepErr}
use Rattle.qz_disks.specs.declared.keeper.KeepErr.TheVariants as keep
use Rattle.qz_disks.specs.Keepers.{with_one_more}
use Rattle.qz_loading.specs.declared.fault.LoadFault.{LoadFault}
use Rattle.qz_loading.specs.declared.fault.LoadFault.TheVariants.{Damaged, Behind, Altered, NotFounded, Fault, Memory}
use Rattle.qz_sqlfolders.specs.Folders.{Telling}
use Rattle.qz_sqlite.specs.Founding.{Founds, IsGivenBack, IsToldAfter, asked, stood, wanting}
use Rattle.qz_sqlite.specs.Reading.{IsCatalogFault, IsCatalogRefused, founding_of, with_founding}
use Rattle.qz_sqlite.specs.Telling.{kept_fault_of}

-- ---- payloads

pub not-empty : (token : List ℕ) (payloads : List (List ℕ)) → with_founding token payloads ≢ []
not-empty token [] = λ is. absurd cc
not-empty token (p ∷ ps) = λ is. absurd cc

pub as-founded : (token : List ℕ) (payloads : List (List ℕ)) → payloads ≢ [] → payloads ≡ with_founding token payloads
as-founded token [] some = absurd (some refl)
as-founded token (p ∷ ps) some = refl

pub one-founded : (token : List ℕ) (payloads : List (List ℕ)) → payloads ≡ [] → payloads ++ founding_of token ∷ [] ≡ with_founding token payloads
one-founded token [] none = refl
one-founded token (p ∷ ps) none = absurd cc

-- ---- a keeper that took what it was asked for

-- it has no payload in doubt
pub no-doubt : {K : Type 0} (t : Telling K) (token : List ℕ) (payloads : List (List ℕ)) (old new : K) → t.doubt old ≡ None → Founds t token payloads old new (Ok tt) → t.doubt new ≡ None
no-doubt t token payloads old new settled (stood some same ended) = ap t.doubt same ∙ settled
no-doubt t token payloads old new settled (wanting none same ended) = absurd cc
no-doubt t token payloads old new settled (asked none appended) = appended.no_doubt

kept-same : (a b : Option (List (List ℕ))) (payloads : List (List ℕ)) → b ≡ a → IfSome a (λ told. told ≡ payloads) → IfSome b (λ told. told ≡ payloads)
kept-same a b payloads same kept = subst (λ o. IfSome o (λ told. told ≡ payloads)) (sym same) kept

kept-more : (token : List ℕ) (a : Option (List (List ℕ))) (payloads : List (List ℕ)) → payloads ≡ [] → IfSome a (λ told. told ≡ payloads) → IfSome (option_map (with_one_more (founding_of token)) a) (λ told. told ≡ with_founding token payloads)
kept-more token None payloads none kept = tt
kept-more token (Some told) payloads none kept = ap (λ (l : List (List ℕ)). l ++ founding_of token ∷ []) kept ∙ one-founded token payloads none

-- and keeps what is read of it
pub keeps-founded : {K : Type 0} (t : Telling K) (token : List ℕ) (payloads : List (List ℕ)) (old new : K) → IfSome (t.kept old) (λ told. told ≡ payloads) → Founds t token payloads old new (Ok tt) → IfSome (t.kept new) (λ told. told ≡ with_founding token payloads)
keeps-founded t token payloads old new kept (stood some same ended) =
    subst (λ l. IfSome (t.kept new) (λ told. told ≡ l)) (as-founded token payloads some) (kept-same (t.kept old) (t.kept new) payloads (ap t.kept same) kept)
keeps-founded t token payloads old new kept (wanting none same ended) = absurd cc
keeps-founded t token payloads old new kept (asked none appended) =
    subst (λ o. IfSome o (λ told. told ≡ with_founding token payloads)) (sym appended.kept) (kept-more token (t.kept old) payloads none kept)

-- ---- what is told

-- no fault is told of a list that isn't read
no-fault : (cs : List (List ℕ)) (told : LoadFault) → IsCatalogRefused cs told → told ≢ Fault
no-fault cs (Damaged name nth) is = λ e. absurd cc
no-fault cs (Behind shard position end) is = absurd is
no-fault cs (Altered shard nth) is = absurd is
no-fault cs NotFounded is = absurd is
no-fault cs Fault is = absurd is
no-fault cs Memory is = λ e. absurd cc

pub refused-back : {K : Type 0} (t : Telling K) (token : List ℕ) (payloads cs : List (List ℕ)) (old new : K) (told : LoadFault) → Founds t token payloads old new (Ok tt) → IsCatalogRefused cs told → IsGivenBack t token payloads old new told
refused-back t token payloads cs old new told founds is = record { outcome = Ok tt; founds = founds; told_after = no-fault cs told is }

pub other-back : {K : Type 0} (t : Telling K) (token : List ℕ) (payloads : List (List ℕ)) (old new : K) (told : LoadFault) → Founds t token payloads old new (Ok tt) → told ≢ Fault → IsGivenBack t token payloads old new told
other-back t token payloads old new told founds other = record { outcome = Ok tt; founds = founds; told_after = other }

pub as-fault : (cs : List (List ℕ)) (told : LoadFault) → IsCatalogRefused cs told → IsCatalogFault cs told
as-fault cs (Damaged name nth) is = is
as-fault cs (Behind shard position end) is = is
as-fault cs (Altered shard nth) is = is
as-fault cs NotFounded is = is
as-fault cs Fault is = tt
as-fault cs Memory is = is

told-kept : (e : KeepErr) → IsToldAfter (Err e) (kept_fault_of e)
told-kept keep.Fault = refl
told-kept keep.Memory = refl

pub failed-back : {K : Type 0} (t : Telling K) (token : List ℕ) (payloads : List (List ℕ)) (old new : K) (e : KeepErr) → Founds t token payloads old new (Err e) → IsGivenBack t token payloads old new (kept_fault_of e)
failed-back t token payloads old new e founds = record { outcome = Err e; founds = founds; told_after = told-kept e }

pub failed-told : (cs : List (List ℕ)) (e : KeepErr) → IsCatalogFault cs (kept_fault_of e)
failed-told cs keep.Fault = tt
failed-told cs keep.Memory = tt
