-- What becomes of a list and its keeper while it is mended and a record is put.
use Rattle.std.proofs.Common.{◌≡◌, ℕ, true, List, [], ◌∷◌, ◌++◌, Option, Some, None, IfSome, Result, MatchResult, Ok, Err, is_some, option_map, refl, sym, ◌∙◌, ap, subst}
use Rattle.std.specs.List.{list_all}
use Rattle.std.specs.Prelude.{All}
use Rattle.std.proofs.lemmas.List.Elements.{All-push}
use Rattle.std.proofs.lemmas.List.Sums.{AllPass-from_list_all}
use Rattle.qz_disks.specs.declared.keeper.KeepErr.{KeepErr}
use Rattle.qz_disks.specs.declared.keeper.KeepErr.TheVariants.{Fault, Memory}
use Rattle.qz_keeper.specs.Custody.{Custody, FindsOut, IsFoundOut, IsReady, StaysInDoubt, pending, pending_of}
use Rattle.qz_keeper.specs.Lists.{EachMayStand, IsKeptList, IsSettled, IsSpellable, IsStored, IsUnsettled, KeepsList, held_in, longer, whole, with_next}
use Rattle.qz_keeper.specs.Recording.{Recorded, TakesRecord, failure, nothing_put, one_put, taken, untaken, wanting}
use Rattle.qz_keeper.proofs.Calls.{pending_failed, pending_none}
use Rattle.qz_keeper.proofs.Keeping.{follows}
use Rattle.qz_record.specs.Records.{IsRecord, keeps_described}
use Rattle.qz_terms.specs.declared.record.Record.{Record}
use Rattle.qz_terms.specs.Kept.{IsKept}
use Rattle.qz_terms.specs.Serial.{Held, Mended, adopted, dropped, stays}
use Rattle.qz_terms.specs.Spelling.{spelling}

-- what a finding out did
pub record IsFinding {K : Type 0} (kept : K → Option (List (List ℕ))) (c d : Custody K) (result : Result (Unit {0}) KeepErr) : Type 0 where
  pub found : IfSome c.doubt (λ r. FindsOut (kept c.keeper) (kept d.keeper) r d.doubt d.found result)
  pub settled : c.doubt ≡ None → (result ≡ Ok tt) × (d ≡ c)

abbrev doubt_in : {K : Type 0} → Custody K → Option Record
doubt_in c = c.doubt

abbrev found_in : {K : Type 0} → Custody K → Option Record
found_in c = c.found

abbrev keeper_in : {K : Type 0} → Custody K → K
keeper_in c = c.keeper

-- ---- where it failed

found_none : {K : Type 0} (c : Custody K) (r : Record) (found : Option Record) → c.found ≡ found → IfSome found (λ _. c.doubt ≡ None) → c.doubt ≡ Some r → c.found ≡ None
found_none c r None is one doubt = is
found_none c r (Some x) is one doubt = absurd cc

pub none_found : {K : Type 0} (kept : K → Option (List (List ℕ))) (MayFollow : List Record → Record → Type 0) (list : List Record) (c : Custody K) (r : Record) → IsKeptList kept MayFollow list c → c.doubt ≡ Some r → c.found ≡ None
none_found kept MayFollow list c r k doubt = found_none c r c.found refl k.one doubt

-- a keeper with the same payloads, and one record in doubt
doubted_list : {K : Type 0} (kept : K → Option (List (List ℕ))) (MayFollow : List Record → Record → Type 0) (list : List Record) (d : Custody K) (r : Record) → KeepsList (kept d.keeper) list → MayFollow list r → d.doubt ≡ Some r → d.found ≡ None → All IsSpellable list → IsSpellable r → IsKeptList kept MayFollow list d
doubted_list kept MayFollow list d r keeps may doubt none spellable own = record {
  keeps = subst (λ f. KeepsList (kept d.keeper) (with_next f list)) (sym none) keeps;
  next = subst (λ p. IfSome p (MayFollow list)) (sym (pending_failed d r doubt)) may;
  one = subst (λ f. IfSome f (λ _. d.doubt ≡ None)) (sym none) tt;
  spellable = spellable;
  next_spellable = subst (λ p. IfSome p IsSpellable) (sym (pending_failed d r doubt)) own;
}

-- and with none
pub clear_list : {K : Type 0} (kept : K → Option (List (List ℕ))) (MayFollow : List Record → Record → Type 0) (list : List Record) (d : Custody K) → KeepsList (kept d.keeper) list → IsReady d → All IsSpellable list → IsKeptList kept MayFollow list d
clear_list kept MayFollow list d keeps ready spellable = record {
  keeps = subst (λ f. KeepsList (kept d.keeper) (with_next f list)) (sym ready.none_found) keeps;
  next = subst (λ p. IfSome p (MayFollow list)) (sym (pending_none d ready)) tt;
  one = subst (λ f. IfSome f (λ _. d.doubt ≡ None)) (sym ready.none_found) tt;
  spellable = spellable;
  next_spellable = subst (λ p. IfSome p IsSpellable) (sym (pending_none d ready)) tt;
}

-- the payloads spell the list where nothing was found
plain_list : {K : Type 0} (kept : K → Option (List (List ℕ))) (MayFollow : List Record → Record → Type 0) (list : List Record) (c : Custody K) → IsKeptList kept MayFollow list c → c.found ≡ None → KeepsList (kept c.keeper) list
plain_list kept MayFollow list c k none = subst (λ f. KeepsList (kept c.keeper) (with_next f list)) none k.keeps

doubt_may : {K : Type 0} (kept : K → Option (List (List ℕ))) (MayFollow : List Record → Record → Type 0) (list : List Record) (c : Custody K) (r : Record) → IsKeptList kept MayFollow list c → c.doubt ≡ Some r → MayFollow list r
doubt_may kept MayFollow list c r k doubt = subst (λ p. IfSome p (MayFollow list)) (pending_failed c r doubt) k.next

doubt_spellable : {K : Type 0} (kept : K → Option (List (List ℕ))) (MayFollow : List Record → Record → Type 0) (list : List Record) (c : Custody K) (r : Record) → IsKeptList kept MayFollow list c → c.doubt ≡ Some r → IsSpellable r
doubt_spellable kept MayFollow list c r k doubt = subst (λ p. IfSome p IsSpellable) (pending_failed c r doubt) k.next_spellable

failed_by : {K : Type 0} (failed : Type 0) (kept : K → Option (List (List ℕ))) (MayFollow : List Record → Record → Type 0) (list : List Record) (c d : Custody K) (e : KeepErr) (doubt : Option Record) → c.doubt ≡ doubt → IsKeptList kept MayFollow list c
    → IfSome doubt (λ r. StaysInDoubt (kept c.keeper) (kept d.keeper) r d.doubt d.found) → (doubt ≡ None → ◌≡◌ {A = Result (Unit {0}) KeepErr} (Err e) (Ok tt)) → (e ≡ Fault → failed) → IsKeptList kept MayFollow list d × IsUnsettled failed (held_in list c) (held_in list d) e
failed_by failed kept MayFollow list c d e None is k stays_so settled cause = let wrong = settled refl in absurd cc
failed_by failed kept MayFollow list c d e (Some r) is k stays_so settled cause =
    let keeps : KeepsList (kept d.keeper) list = subst (λ p. KeepsList p list) (sym stays_so.kept) (plain_list kept MayFollow list c k (none_found kept MayFollow list c r k is)) in
    let before = pending_failed c r is in
    let after = pending_failed d r stays_so.in_doubt in (
      doubted_list kept MayFollow list d r keeps (doubt_may kept MayFollow list c r k is) stays_so.in_doubt stays_so.none_found k.spellable (doubt_spellable kept MayFollow list c r k is),
      record { same = ap (λ p. let h : Held = record { list = list; doubt = p } in h) (after ∙ sym before); in_doubt = λ _. ap is_some before; cause = cause },
    )

pub finding_failed : {K : Type 0} (failed : Type 0) (kept : K → Option (List (List ℕ))) (MayFollow : List Record → Record → Type 0) (list : List Record) (c d : Custody K) (e : KeepErr) → IsKeptList kept MayFollow list c → IsFinding kept c d (Err e) → (e ≡ Fault → failed)
    → IsKeptList kept MayFollow list d × IsUnsettled failed (held_in list c) (held_in list d) e
finding_failed failed kept MayFollow list c d e k f cause = failed_by failed kept MayFollow list c d e c.doubt refl k f.found (λ none. (f.settled none).0) cause

-- ---- where it didn't

-- what is known then: the list is kept as before, and what was in doubt is found or dropped
pub record IsFoundIn {K : Type 0} (kept : K → Option (List (List ℕ))) (MayFollow : List Record → Record → Type 0) (list : List Record) (c d : Custody K) : Type 0 where
  pub keeps : IsKeptList kept MayFollow list d
  pub mends : Mended (held_in list c) (held_in list d)
  pub no_doubt : d.doubt ≡ None
  pub same : IfSome d.found (λ _. held_in list d ≡ held_in list c)

found_same : {K : Type 0} (list : List Record) (c d : Custody K) (r : Record) (found : Option Record) → c.doubt ≡ Some r → d.doubt ≡ None → d.found ≡ found → IfSome found (λ x. x ≡ r) → IfSome found (λ _. held_in list d ≡ held_in list c)
found_same list c d r None doubt no_doubt is was = tt
found_same list c d r (Some x) doubt no_doubt is was =
    let after : pending d ≡ Some r = ap (λ p. pending_of p d.found) no_doubt ∙ is ∙ ap (λ y. Some y) was in
    ap (λ p. let h : Held = record { list = list; doubt = p } in h) (after ∙ sym (pending_failed c r doubt))

every_some : {A : Type 0} {P : Type 0} (o : Option A) → P → IfSome o (λ _. P)
every_some None p = tt
every_some (Some x) p = p

found_may : (MayFollow : List Record → Record → Type 0) (list : List Record) (r : Record) (found : Option Record) → IfSome found (λ x. x ≡ r) → MayFollow list r → IfSome found (MayFollow list)
found_may MayFollow list r None was may = tt
found_may MayFollow list r (Some x) was may = subst (MayFollow list) (sym was) may

found_alone : (found doubt : Option Record) → doubt ≡ None → IfSome found (λ _. doubt ≡ None)
found_alone None doubt none = tt
found_alone (Some x) doubt none = none

found_by : {K : Type 0} (kept : K → Option (List (List ℕ))) (MayFollow : List Record → Record → Type 0) (list : List Record) (c d : Custody K) (doubt : Option Record) → c.doubt ≡ doubt → IsKeptList kept MayFollow list c
    → IfSome doubt (λ r. IsFoundOut (kept c.keeper) (kept d.keeper) r d.doubt d.found) → (doubt ≡ None → d ≡ c) → IsFoundIn kept MayFollow list c d
found_by kept MayFollow list c d None is k out settled =
    let same = settled refl in
    record {
      keeps = subst (IsKeptList kept MayFollow list) (sym same) k;
      mends = subst (λ x. Mended (held_in list c) (held_in list x)) (sym same) (stays (held_in list c));
      no_doubt = ap (λ x. doubt_in x) same ∙ is;
      same = every_some d.found (ap (λ x. held_in list x) same);
    }
found_by kept MayFollow list c d (Some r) is k out settled =
    let keeps : KeepsList (kept c.keeper) list = plain_list kept MayFollow list c k (none_found kept MayFollow list c r k is) in
    let after : pending d ≡ d.found = ap (λ p. pending_of p d.found) out.no_doubt in
    record {
      keeps = record {
        keeps = follows.found (kept c.keeper) (kept d.keeper) list r d.doubt d.found keeps out;
        next = subst (λ p. IfSome p (MayFollow list)) (sym after) (found_may MayFollow list r d.found out.was (doubt_may kept MayFollow list c r k is));
        one = found_alone d.found d.doubt out.no_doubt;
        spellable = k.spellable;
        next_spellable = subst (λ p. IfSome p IsSpellable) (sym after) (found_may (λ l x. IsSpellable x) list r d.found out.was (doubt_spellable kept MayFollow list c r k is));
      };
      mends = subst (λ p. Mended (record { list = list; doubt = p }) (held_in list d)) (sym (pending_failed c r is)) (follows.seen list r d.doubt d.found (kept c.keeper) (kept d.keeper) out);
      no_doubt = out.no_doubt;
      same = found_same list c d r d.found is out.no_doubt refl out.was;
    }

pub finding_done : {K : Type 0} (kept : K → Option (List (List ℕ))) (MayFollow : List Record → Record → Type 0) (list : List Record) (c d : Custody K) → IsKeptList kept MayFollow list c → IsFinding kept c d (Ok tt) → IsFoundIn kept MayFollow list c d
finding_done kept MayFollow list c d k f = found_by kept MayFollow list c d c.doubt refl k f.found (λ none. (f.settled none).1)

-- nothing was found
pub finding_none : {K : Type 0} (kept : K → Option (List (List ℕ))) (MayFollow : List Record → Record → Type 0) (list : List Record) (c d : Custody K) → IsFoundIn kept MayFollow list c d → d.found ≡ None → IsSettled (held_in list c) (held_in list d)
finding_none kept MayFollow list c d f none = record { mends = f.mends; no_doubt = pending_none d (record { no_doubt = f.no_doubt; none_found = none }) }

-- what was found was put
pub record IsPutBehind {K : Type 0} (kept : K → Option (List (List ℕ))) (MayFollow : List Record → Record → Type 0) (list g : List Record) (c e : Custody K) : Type 0 where
  pub keeps : IsKeptList kept MayFollow g e
  pub settled : IsSettled (held_in list c) (held_in g e)

pub finding_put : {K : Type 0} (kept : K → Option (List (List ℕ))) (MayFollow : List Record → Record → Type 0) (list g : List Record) (c d e : Custody K) (x : Record) → IsFoundIn kept MayFollow list c d → d.found ≡ Some x → g ≡ list ++ x ∷ [] → e ≡ record d { found = None }
    → IsPutBehind kept MayFollow list g c e
finding_put kept MayFollow list g c d e x f is put cleared =
    let ready : IsReady e = record { no_doubt = ap (λ y. doubt_in y) cleared ∙ f.no_doubt; none_found = ap (λ y. found_in y) cleared } in
    let keeps : KeepsList (kept e.keeper) g =
    subst (λ k. KeepsList (kept k) g) (sym (ap (λ y. keeper_in y) cleared)) (subst (λ l. KeepsList (kept d.keeper) l) (sym put) (subst (λ p. KeepsList (kept d.keeper) (with_next p list)) is f.keeps.keeps)) in
    let found : pending d ≡ Some x = ap (λ p. pending_of p d.found) f.no_doubt ∙ is in
    let same : held_in list d ≡ held_in list c = subst (λ p. IfSome p (λ _. held_in list d ≡ held_in list c)) is f.same in
    let before : held_in list c ≡ record { list = list; doubt = Some x } = sym same ∙ ap (λ p. let h : Held = record { list = list; doubt = p } in h) found in
    let after : held_in g e ≡ record { list = list ++ x ∷ []; doubt = None } =
    ap (λ l. let h : Held = record { list = l; doubt = pending e } in h) put ∙ ap (λ p. let h : Held = record { list = list ++ x ∷ []; doubt = p } in h) (pending_none e ready) in
    record {
      keeps = clear_list kept MayFollow g e keeps ready (subst (All IsSpellable) (sym put) (All-push IsSpellable list x f.keeps.spellable (subst (λ p. IfSome p IsSpellable) found f.keeps.next_spellable)));
      settled = record {
        mends = subst (λ h. Mended h (held_in g e)) (sym before) (subst (λ h. Mended (record { list = list; doubt = Some x }) h) (sym after) (follows.put list x));
        no_doubt = pending_none e ready;
      };
    }

-- ---- a record is put

-- the list stays, and so does its keeper
stays_kept : {K : Type 0} (kept : K → Option (List (List ℕ))) (MayFollow : List Record → Record → Type 0) (h g : List Record) (c d : Custody K) → IsKeptList kept MayFollow h c → g ≡ h → d ≡ c → IsKeptList kept MayFollow g d
stays_kept kept MayFollow h g c d k same still = subst (λ x. IsKeptList kept MayFollow g x) (sym still) (subst (λ l. IsKeptList kept MayFollow l c) (sym same) k)

pub recorded_kept : {K : Type 0} (kept : K → Option (List (List ℕ))) (sound : K → Type 0) (faults : K → ℕ) (MayFollow : List Record → Record → Type 0) (h after g : List Record) (c d : Custody K)
    → IsKeptList kept MayFollow h c → IsReady c → Recorded (TakesRecord kept sound faults) (MayFollow h) h after c d None → g ≡ after → IsKeptList kept MayFollow g d
recorded_kept kept sound faults MayFollow h after g c d k ready (nothing_put nothing still why) is = stays_kept kept MayFollow h g c d k (is ∙ nothing) still
recorded_kept kept sound faults MayFollow h after g c d k ready (one_put r may more (taken took)) is =
    let keeps : KeepsList (kept d.keeper) (h ++ r ∷ []) = follows.appended (kept c.keeper) (kept d.keeper) h d.doubt r (plain_list kept MayFollow h c k ready.none_found) took.appends in
    clear_list kept MayFollow g d (subst (λ l. KeepsList (kept d.keeper) l) (sym (is ∙ more)) keeps) (record { no_doubt = took.appends.no_doubt; none_found = took.none_found })
    (subst (All IsSpellable) (sym (is ∙ more)) (All-push IsSpellable h r k.spellable took.appends.spellable))
recorded_kept kept sound faults MayFollow h after g c d k ready (one_put r may more (untaken still why)) is = absurd cc
recorded_kept kept sound faults MayFollow h after g c d k ready (wanting still why) is = absurd cc

pub unrecorded_kept : {K : Type 0} (kept : K → Option (List (List ℕ))) (sound : K → Type 0) (faults : K → ℕ) (MayFollow : List Record → Record → Type 0) (h after g : List Record) (c d : Custody K) (e : KeepErr)
    → IsKeptList kept MayFollow h c → IsReady c → Recorded (TakesRecord kept sound faults) (MayFollow h) h after c d (Some e) → g ≡ h → IsKeptList kept MayFollow g d
unrecorded_kept kept sound faults MayFollow h after g c d e k ready (nothing_put nothing still why) same = absurd cc
unrecorded_kept kept sound faults MayFollow h after g c d Fault k ready (one_put r may more (taken took)) same =
    subst (λ l. IsKeptList kept MayFollow l d) (sym same)
    (doubted_list kept MayFollow h d r (subst (λ p. KeepsList p h) (sym took.appends.kept) (plain_list kept MayFollow h c k ready.none_found)) may took.appends.in_doubt took.none_found k.spellable (took.appends.spellable refl))
unrecorded_kept kept sound faults MayFollow h after g c d Memory k ready (one_put r may more (taken took)) same =
    clear_list kept MayFollow g d (subst (λ l. KeepsList (kept d.keeper) l) (sym same) (subst (λ p. KeepsList p h) (sym took.appends.kept) (plain_list kept MayFollow h c k ready.none_found)))
    (record { no_doubt = took.appends.in_doubt; none_found = took.none_found }) (subst (All IsSpellable) (sym same) k.spellable)
unrecorded_kept kept sound faults MayFollow h after g c d e k ready (one_put r may more (untaken still why)) same = stays_kept kept MayFollow h g c d k same still
unrecorded_kept kept sound faults MayFollow h after g c d e k ready (wanting still why) same = stays_kept kept MayFollow h g c d k same still

ready_by : {K : Type 0} (c : Custody K) (doubt : Option Record) → c.doubt ≡ doubt → pending_of doubt c.found ≡ None → IsReady c
ready_by c None is none = record { no_doubt = is; none_found = none }
ready_by c (Some r) is none = absurd cc

-- nothing in doubt: its keeper is ready
pub ready_of : {K : Type 0} (kept : K → Option (List (List ℕ))) (MayFollow : List Record → Record → Type 0) (list : List Record) (c : Custody K) → IsKeptList kept MayFollow list c → pending c ≡ None → IsReady c
ready_of kept MayFollow list c k none = ready_by c c.doubt refl none

-- whatever a call came to
pub call_kept : {A K : Type 0} (kept : K → Option (List (List ℕ))) (sound : K → Type 0) (faults : K → ℕ) (MayFollow : List Record → Record → Type 0) (h after g : List Record) (c d : Custody K) (result : Result A KeepErr)
    → IsKeptList kept MayFollow h c → IsReady c → Recorded (TakesRecord kept sound faults) (MayFollow h) h after c d (failure result) → MatchResult result (λ _. g ≡ after) (λ _. g ≡ h) → IsKeptList kept MayFollow g d
call_kept kept sound faults MayFollow h after g c d (Ok told) k ready took is = recorded_kept kept sound faults MayFollow h after g c d k ready took is
call_kept kept sound faults MayFollow h after g c d (Err e) k ready took is = unrecorded_kept kept sound faults MayFollow h after g c d e k ready took is

-- ---- what is stored

pending_plain : (doubt found : Option Record) → found ≡ None → pending_of doubt found ≡ doubt
pending_plain None found is = is
pending_plain (Some r) found is = refl

stored_by : {K : Type 0} (kept : K → Option (List (List ℕ))) (MayFollow : List Record → Record → Type 0) (list : List Record) (c : Custody K) (payload : Option (List ℕ)) (found : Option Record) → c.found ≡ found → IsKeptList kept MayFollow list c → payload ≡ option_map spelling c.doubt
    → IsStored (kept c.keeper) payload (held_in list c)
stored_by kept MayFollow list c payload None is k spelled = whole (plain_list kept MayFollow list c k is) (spelled ∙ ap (option_map spelling) (sym (pending_plain c.doubt c.found is)))
stored_by kept MayFollow list c payload (Some x) is k spelled =
    let clear : c.doubt ≡ None = subst (λ f. IfSome f (λ _. c.doubt ≡ None)) is k.one in
    longer x (ap (λ d. pending_of d c.found) clear ∙ is) (subst (λ f. KeepsList (kept c.keeper) (with_next f list)) is k.keeps) (spelled ∙ ap (option_map spelling) clear)

-- the keeper keeps the list, or the list with the record that is in doubt there
pub stored : {K : Type 0} (kept : K → Option (List (List ℕ))) (MayFollow : List Record → Record → Type 0) (list : List Record) (c : Custody K) (payload : Option (List ℕ)) → IsKeptList kept MayFollow list c → payload ≡ option_map spelling c.doubt → IsStored (kept c.keeper) payload (held_in list c)
stored kept MayFollow list c payload k spelled = stored_by kept MayFollow list c payload c.found refl k spelled

-- ---- what may be asked of a list that may be in doubt

-- of the mended list too
pub mended_may : (P : List Record → Type 0) (old new : Held) → Mended old new → EachMayStand P old → P new.list
mended_may P _ _ (stays k) each = each.without
mended_may P _ _ (dropped l x) each = each.without
mended_may P _ _ (adopted l x) each = each.with_doubt

-- whatever a call came to, its list is what it leaves or as it was
pub list_ends : {A : Type 0} (h after g : List Record) (answer : A) (result : Result A KeepErr) → MatchResult result (λ told. (told ≡ answer) × (g ≡ after)) (λ _. g ≡ h) → MatchResult result (λ _. g ≡ after) (λ _. g ≡ h)
list_ends h after g answer (Ok told) ends = ends.1
list_ends h after g answer (Err e) ends = ends

-- ---- records that a file may keep

are_records : (list : List Record) → All IsSpellable list → All IsKept list → list_all keeps_described list ≡ true → All IsRecord list
are_records list own kept described = λ k d within. record { spellable = own k d within; kept = kept k d within; described = AllPass-from_list_all keeps_described list described k d within }

records_with : (MayFollow : List Record → Record → Type 0) (list : List Record) (doubt : Option Record) → All IsRecord list → IfSome doubt (MayFollow list) → IfSome doubt IsSpellable → ((r : Record) → MayFollow list r → IsKept r × (keeps_described r ≡ true))
    → IfSome doubt (λ r. All IsRecord (list ++ r ∷ []))
records_with MayFollow list None records may own next = tt
records_with MayFollow list (Some r) records may own next = let keeps = next r may in All-push IsRecord list r records (record { spellable = own; kept = keeps.0; described = keeps.1 })

-- so is each record of a list that may stand, where those of the list and what may follow them keep what every record does
pub records_held : {K : Type 0} (kept : K → Option (List (List ℕ))) (MayFollow : List Record → Record → Type 0) (list : List Record) (c : Custody K) → IsKeptList kept MayFollow list c → All IsKept list → list_all keeps_described list ≡ true
    → ((r : Record) → MayFollow list r → IsKept r × (keeps_described r ≡ true)) → EachMayStand (All IsRecord) (held_in list c)
records_held kept MayFollow list c k all described next =
    let records = are_records list k.spellable all described in
    record { without = records; with_doubt = records_with MayFollow list (pending c) records k.next k.next_spellable next }
