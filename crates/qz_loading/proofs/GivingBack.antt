-- Files that are given back one behind another.
use Rattle.std.proofs.Common.{◌≡◌, ◌≢◌, ℕ, zero, suc, ◌+◌, ◌<◌, ◌≤◌, inl, inr, ⊎_elim, List, [], ◌∷◌, ◌++◌, map, length, Option, None, Some, IfSome, Ok, option_map, is_some, true, false, ap, sym, subst, ◌∙◌, refl, arith, length-append, append_assoc}
use Rattle.std.proofs.lemmas.Bool.{cases_lt}
use Rattle.std.proofs.lemmas.List.{append-nil, map-append}
use Rattle.std.proofs.lemmas.List.Sums.{sum_by-cons}
use Rattle.std.proofs.lemmas.Option.{slice_get_within}
use Rattle.std.specs.Prelude.{slice_get, sum_by}
use Rattle.qz_disks.specs.Keepers.{with_one_more}
use Rattle.qz_disks.specs.Shelves.{ChangesAt, File, Files, RisesBy, SameFile}
use Rattle.qz_folders.proofs.Files.{carried}
use Rattle.qz_journal.specs.Journals.{Ledger, StandFor, StandsFor}
use Rattle.qz_keeper.specs.Lists.{IsStored, longer, whole}
use Rattle.qz_loading.proofs.Finding.{parts_apart}
use Rattle.qz_loading.proofs.Standing.{same_twice}
use Rattle.qz_loading.specs.Closing.{IsBack, PartsAreBack, StandForList, stands_with}
use Rattle.qz_loading.specs.Places.{KeepsOthers, PartsAre, part_place}
use Rattle.qz_shard.specs.Keeping as part
use Rattle.qz_terms.specs.declared.record.Record.{Record}
use Rattle.qz_terms.specs.Serial.{Held}
use Rattle.qz_terms.specs.Spelling.{spelling}

-- ---- what a list's file stands for

spelled_with : (list : List Record) (r : Record) → with_one_more (spelling r) (map spelling list) ≡ map spelling (list ++ r ∷ [])
spelled_with list r = sym (map-append spelling list (r ∷ []))

stored_whole : (payloads : List (List ℕ)) (doubt : Option (List ℕ)) (list : List Record) (hd : Option Record) (c : List ℕ) → payloads ≡ map spelling list → doubt ≡ option_map spelling hd → StandsFor payloads doubt c → stands_with list hd c
stored_whole payloads doubt list None c keeps is stands = subst (λ d. StandsFor payloads d c) is stands ∙ ap (λ l. Ok l) keeps
stored_whole payloads doubt list (Some r) c keeps is stands =
    ⊎_elim (λ a. inl (a ∙ ap (λ l. Ok l) keeps)) (λ b. inr (b ∙ ap (λ l. Ok (with_one_more (spelling r) l)) keeps ∙ ap (λ l. Ok l) (spelled_with list r))) (subst (λ d. StandsFor payloads d c) is stands)

stored_each : (payloads : List (List ℕ)) (doubt : Option (List ℕ)) (held : Held) (c : List ℕ) → IsStored (Some payloads) doubt held → StandsFor payloads doubt c → stands_with held.list held.doubt c
stored_each payloads doubt held c (whole keeps is) stands = stored_whole payloads doubt held.list held.doubt c keeps is stands
stored_each payloads doubt held c (longer r is keeps none) stands = subst (λ h. stands_with held.list h c) (sym is) (inr (subst (λ d. StandsFor payloads d c) none stands ∙ ap (λ l. Ok l) keeps))

-- a keeper that is given back stands for its list
pub stored_back : (kept : Option (List (List ℕ))) (doubt : Option (List ℕ)) (held : Held) (outcomes : List ℕ → Type 0) → IsStored kept doubt held → IfSome kept (λ payloads. StandFor payloads doubt outcomes) → IfSome kept (λ _. StandForList held outcomes)
stored_back None doubt held outcomes stored stand = tt
stored_back (Some payloads) doubt held outcomes stored stand = record { each = λ c left. stored_each payloads doubt held c stored (stand.each c left) }

pub back_same : {D : Type 0} (journal : Ledger D) (held : Held) (a b : File) → SameFile a b → IsBack journal held a → IsBack journal held b
back_same journal held a b same back = record {
  tells = back.tells ∙ ap is_some (sym same.reads);
  stands = carried journal.kept journal.kept refl back.stands (λ _ h. record { each = λ c left. h.each c (same.adds_nothing c left) });
}

-- ---- one file behind another

part_moved : (folder : List ℕ) (k j : ℕ) (files : Files) (out : _) → k ≡ j → files.is_out (part_place folder k) ≡ out → files.is_out (part_place folder j) ≡ out
part_moved folder k j files out same is = ap (λ n. files.is_out (part_place folder n)) (sym same) ∙ is

-- some shards' files are back, and the others are still out
pub record IsGivingBack {D : Type 0} (faults : D → ℕ) (folder : List ℕ) (parts rest : List (part.Keeping (Ledger D))) (old now : Files) (before after : ℕ) : Type 0 where
  pub behind : List (part.Keeping (Ledger D))
  pub split : parts ≡ rest ++ behind
  pub out : PartsAre true folder (length rest) now
  pub here : (k : ℕ) → length rest ≤ k → k < length parts → now.is_out (part_place folder k) ≡ false
  pub back : (j : ℕ) (s : part.Keeping (Ledger D)) → slice_get behind j ≡ Some s → IsBack s.keeper s.held (now.file (part_place folder (length rest + j)))
  pub others : KeepsOthers folder (length parts) old now
  pub risen : RisesBy (sum_by (λ (s : part.Keeping (Ledger D)). faults s.keeper.disk) behind) before after

pub begun : {D : Type 0} (faults : D → ℕ) (folder : List ℕ) (parts : List (part.Keeping (Ledger D))) (old : Files) (before : ℕ) → PartsAre true folder (length parts) old → IsGivingBack faults folder parts parts old old before before
begun faults folder parts old before out = record {
  behind = [];
  split = sym (append-nil parts);
  out = out;
  here = λ k from below. absurd (omega arith);
  back = λ j s got. absurd cc;
  others = record { is_out = λ at none. refl; file = λ at none. record { reads = refl; keeps = λ c left. left; adds_nothing = λ c left. left } };
  risen = record { later = omega arith; risen = λ few. omega arith };
}

back_next : {D : Type 0} (folder : List ℕ) (m : ℕ) (s : part.Keeping (Ledger D)) (behind : List (part.Keeping (Ledger D))) (now new : Files) → m + 1 + length behind ≤ 64
    → ((j : ℕ) (t : part.Keeping (Ledger D)) → slice_get behind j ≡ Some t → IsBack t.keeper t.held (now.file (part_place folder (m + 1 + j)))) → IsBack s.keeper s.held (new.file (part_place folder m)) → ChangesAt (part_place folder m) now new
    → (j : ℕ) (t : part.Keeping (Ledger D)) → slice_get (s ∷ behind) j ≡ Some t → IsBack t.keeper t.held (new.file (part_place folder (m + j)))
back_next folder m s behind now new few back here changes zero t got =
    let same : s ≡ t = cc in
    subst (λ x. IsBack x.keeper x.held (new.file (part_place folder (m + 0)))) same (let e : m ≡ m + 0 = omega arith in subst (λ n. IsBack s.keeper s.held (new.file (part_place folder n))) e here)
back_next folder m s behind now new few back here changes (suc i) t got =
    let within : i < length behind = slice_get_within behind i t got in
    let e : m + 1 + i ≡ m + suc i = omega arith in
    let other : part_place folder (m + 1 + i) ≢ part_place folder m = λ same. (let x : m + 1 + i ≡ m = parts_apart folder (m + 1 + i) m (omega arith) (omega arith) same in omega (arith, x)) in
    subst (λ n. IsBack t.keeper t.held (new.file (part_place folder n))) e (back_same t.keeper t.held (now.file (part_place folder (m + 1 + i))) (new.file (part_place folder (m + 1 + i))) (changes.file (part_place folder (m + 1 + i)) other) (back i t got))

here_next : (folder : List ℕ) (m n : ℕ) (now new : Files) → n ≤ 64 → m < n → ((k : ℕ) → m + 1 ≤ k → k < n → now.is_out (part_place folder k) ≡ false) → new.is_out (part_place folder m) ≡ false → ChangesAt (part_place folder m) now new
    → (k : ℕ) → m ≤ k → k < n → new.is_out (part_place folder k) ≡ false
here_next folder m n now new few inside later here changes k from below =
    ⊎_elim
    (λ more. changes.is_out (part_place folder k) (λ same. (let x : k ≡ m = parts_apart folder k m (omega arith) (omega arith) same in omega (arith, x))) ∙ later k (omega arith) below)
    (λ least. (let e : m ≡ k = omega arith in part_moved folder m k new false e here))
    (cases_lt m k)

pub out_next : (folder : List ℕ) (m : ℕ) (now new : Files) → m < 64 → PartsAre true folder (m + 1) now → ChangesAt (part_place folder m) now new → PartsAre true folder m new
out_next folder m now new few out changes = record {
  each = λ k below. changes.is_out (part_place folder k) (λ same. (let x : k ≡ m = parts_apart folder k m (omega arith) (omega arith) same in omega (arith, x))) ∙ out.each k (omega arith);
}

pub others_next : (folder : List ℕ) (m n : ℕ) (old now new : Files) → m < n → KeepsOthers folder n old now → ChangesAt (part_place folder m) now new → KeepsOthers folder n old new
others_next folder m n old now new inside keeps changes = record {
  is_out = λ at none. changes.is_out at (none.each m inside) ∙ keeps.is_out at none;
  file = λ at none. same_twice (old.file at) (now.file at) (new.file at) (keeps.file at none) (changes.file at (none.each m inside));
}

pub rises_both : (a b x y z : ℕ) → RisesBy a x y → RisesBy b y z → RisesBy (b + a) x z
rises_both a b x y z one two = record {
  later = omega (arith, one.later, two.later);
  risen = λ few. (let second = two.risen few in let first = one.risen (omega (arith, two.later, few)) in omega (arith, first, second));
}

pub rises_then : (a b x y z : ℕ) → RisesBy a x y → RisesBy b y z → RisesBy (a + b) x z
rises_then a b x y z one two = record {
  later = omega (arith, one.later, two.later);
  risen = λ few. (let second = two.risen few in let first = one.risen (omega (arith, two.later, few)) in omega (arith, first, second));
}

pub given_next : {D : Type 0} (faults : D → ℕ) (folder : List ℕ) (parts rest less : List (part.Keeping (Ledger D))) (s : part.Keeping (Ledger D)) (old now new : Files) (before mid after : ℕ) → length parts ≤ 64
    → (m : ℕ) → m ≡ length less → IsGivingBack faults folder parts rest old now before mid → rest ≡ less ++ s ∷ [] → new.is_out (part_place folder m) ≡ false → IsBack s.keeper s.held (new.file (part_place folder m)) → ChangesAt (part_place folder m) now new
    → RisesBy (faults s.keeper.disk) mid after → IsGivingBack faults folder parts less old new before after
given_next faults folder parts rest less s old now new before mid after few m at g is here' back' changes' rises =
    let here : new.is_out (part_place folder (length less)) ≡ false = subst (λ n. new.is_out (part_place folder n) ≡ false) at here' in
    let back : IsBack s.keeper s.held (new.file (part_place folder (length less))) = subst (λ n. IsBack s.keeper s.held (new.file (part_place folder n))) at back' in
    let changes : ChangesAt (part_place folder (length less)) now new = subst (λ n. ChangesAt (part_place folder n) now new) at changes' in
    let counted : length rest ≡ length less + 1 = ap (λ (l : List (part.Keeping _)). length l) is ∙ length-append less (s ∷ []) in
    let all : length parts ≡ length rest + length g.behind = ap (λ (l : List (part.Keeping _)). length l) g.split ∙ length-append rest g.behind in
    record {
      behind = s ∷ g.behind;
      split = g.split ∙ ap (λ l. l ++ g.behind) is ∙ append_assoc less (s ∷ []) g.behind;
      out = out_next folder (length less) now new (omega (arith, counted, all)) (rw counted at g.out) changes;
      here = here_next folder (length less) (length parts) now new few (omega (arith, counted, all)) (λ k from below. g.here k (omega (arith, counted, from)) below) here changes;
      back = back_next folder (length less) s g.behind now new (omega (arith, counted, all)) (λ j t got. subst (λ n. IsBack t.keeper t.held (now.file (part_place folder (n + j)))) counted (g.back j t got)) back changes;
      others = others_next folder (length less) (length parts) old now new (omega (arith, counted, all)) g.others changes;
      risen = subst (λ n. RisesBy n before after) (sym (sum_by-cons (λ (x : part.Keeping _). faults x.keeper.disk) s g.behind)) (rises_both _ (faults s.keeper.disk) before mid after g.risen rises);
    }

-- all of them are back
pub given_all : {D : Type 0} (faults : D → ℕ) (folder : List ℕ) (parts rest : List (part.Keeping (Ledger D))) (old new : Files) (before after : ℕ) → IsGivingBack faults folder parts rest old new before after → rest ≡ [] → IsGivingBack faults folder parts [] old new before after
given_all faults folder parts rest old new before after g is = subst (λ r. IsGivingBack faults folder parts r old new before after) is g

pub all_here : {D : Type 0} (faults : D → ℕ) (folder : List ℕ) (parts : List (part.Keeping (Ledger D))) (old new : Files) (before after : ℕ) → IsGivingBack faults folder parts [] old new before after → PartsAre false folder (length parts) new
all_here faults folder parts old new before after g = record { each = λ k below. g.here k (omega arith) below }

pub all_back : {D : Type 0} (faults : D → ℕ) (folder : List ℕ) (parts : List (part.Keeping (Ledger D))) (old new : Files) (before after : ℕ) → IsGivingBack faults folder parts [] old new before after → PartsAreBack folder parts new
all_back faults folder parts old new before after g = record {
  each = λ k s got. (let e : 0 + k ≡ k = omega arith in subst (λ n. IsBack s.keeper s.held (new.file (part_place folder n))) e (g.back k s (subst (λ l. slice_get l k ≡ Some s) g.split got)));
}
