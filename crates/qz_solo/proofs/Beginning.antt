-- A school in memory that is just founded.
use Rattle.std.proofs.Common.{◌≡◌, ◌⊎◌, inl, inr, ℕ, zero, suc, ◌+◌, ◌≤◌, List, [], ◌∷◌, ◌++◌, Option, Some, None, Ok, IsErrOf, length, length-append, map, refl, sym, ap, ◌∙◌, subst, arith}
use Rattle.std.specs.Prelude.{replicate, slice_get}
use Rattle.std.proofs.lemmas.List.Elements.{All-head}
use Rattle.std.proofs.lemmas.List.{length-map}
use Rattle.std.proofs.lemmas.Option.{slice_get-map}
use Rattle.qz_catalog.specs.Holdings.{founded}
use Rattle.qz_catalog.specs.Keeping as records
use Rattle.qz_catalog.specs.Loads.{IsFirstIllegal, IsLoaded, IsNoneBehind}
use Rattle.qz_catalog.proofs.AdoptLemmas.{founding-allowed}
use Rattle.qz_disks.specs.Shelves.{Files}
use Rattle.qz_disks.specs.Sound.{StaysSound}
use Rattle.qz_folders.specs.Founding.{founding}
use Rattle.qz_folders.specs.Opening.{IsCaused}
use Rattle.qz_journal.specs.Journals.{Ledger}
use Rattle.qz_keeper.specs.Lists.{EachMayStand}
use Rattle.qz_loading.specs.Opening.{IsLoadedFrom}
use Rattle.qz_record.specs.Records.{HasOneSpelling, IsRecord}
use Rattle.qz_shard.specs.Keeping as part
use Rattle.qz_shard.specs.Loads as loads
use Rattle.qz_terms.specs.declared.record.Record.{Record}
use Rattle.qz_terms.specs.Catalog.{shards}
use Rattle.qz_terms.specs.Legal.{AllAgree}
use Rattle.qz_terms.specs.Serial.{Held, Lists, with_list}
use Rattle.qz_terms.specs.Spelling.{spelling}
use Rattle.qz_school.proofs.Agreeing.{all-empty}
use Rattle.qz_solo.specs.Memory.{AreClear, AreFresh, founded_lists}
use Rattle.qz_school.proofs.Calls.{stands_alone}
use Rattle.qz_school.specs.Solos.{IsSolo, School, held_of, lists_in}

-- ---- the catalogue

-- what is loaded of the founding's payload is its record
pub loaded_founded : (law : HasOneSpelling) (n : ℕ) (token : List ℕ) (c : List Record) → IsRecord (founding n token) → IsLoaded (spelling (founding n token) ∷ []) c → c ≡ founded n token
loaded_founded law n token [] made loaded = absurd (none (spelling (founding n token)) loaded.spelled)
  where
    none : (p : List ℕ) → ◌≡◌ {A = List (List ℕ)} [] (p ∷ []) → ⊥
    none p e = absurd cc
loaded_founded law n token (r ∷ []) made loaded =
    let is : IsRecord r = All-head IsRecord r [] loaded.records in
    ap (λ (x : Record). x ∷ []) (law.same r (founding n token) is.spellable made.spellable cc)
loaded_founded law n token (r ∷ s ∷ rest) made loaded = absurd (more (spelling r) (spelling s) (map spelling rest) (spelling (founding n token)) loaded.spelled)
  where
    more : (a b : List ℕ) (cs : List (List ℕ)) (p : List ℕ) → a ∷ b ∷ cs ≡ p ∷ [] → ⊥
    more a b cs p e = absurd cc

-- and its payload isn't refused
pub never_illegal : (n : ℕ) (token : List ℕ) (nth : ℕ) → IsRecord (founding n token) → IsFirstIllegal (spelling (founding n token) ∷ []) nth → ⊥
never_illegal n token nth made first = by first.before first.stands first.illegal
  where
    by : (before : List Record) → spelling (founding n token) ∷ [] ≡ map spelling before ++ first.bad ∷ first.rest → IsNoneBehind before first.bad → ⊥
    by [] is none =
        let bad : spelling (founding n token) ≡ first.bad = cc in
        none.none (founding n token) made (sym bad) (founding-allowed (founding n token) n token refl)
    by (r ∷ before) is none =
        let long : 1 ≡ suc (length (map spelling before ++ first.bad ∷ first.rest)) = ap length is in
        let count = length-append (map spelling before) (first.bad ∷ first.rest) in
        absurd (omega arith)

-- ---- the shards

pub fresh_none : {K : Type 0} (count : ℕ) → let none : List (part.Keeping K) = [] in AreFresh count 0 none
fresh_none count = record { long = refl; placed = λ k s is. absurd cc; empty = λ k s is. absurd cc }

get-append : {A : Type 0} (xs : List A) (x y : A) (k : ℕ) → slice_get (xs ++ x ∷ []) k ≡ Some y → ((k ≡ length xs) × (y ≡ x)) ⊎ (slice_get xs k ≡ Some y)
get-append [] x y zero is = inl (refl, cc)
get-append [] x y (suc k) is = absurd cc
get-append (z ∷ xs) x y zero is = inr is
get-append (z ∷ xs) x y (suc k) is = elim (get-append xs x y k is) [ inl both ↦ inl (ap suc both.0, both.1) | inr other ↦ inr other ]

pub fresh_more : {K : Type 0} (count n : ℕ) (ss : List (part.Keeping K)) (s : part.Keeping K) → AreFresh count n ss → s.index ≡ n → s.count ≡ count → s.held ≡ with_list [] → AreFresh count (n + 1) (ss ++ s ∷ [])
fresh_more count n ss s fresh index counts held = record {
  long = let more = length-append ss (s ∷ []) in let long = fresh.long in omega arith;
  placed = λ k t is. elim (get-append ss s t k is) [
    | inl both ↦ subst (λ x. (x.index ≡ k) × (x.count ≡ count)) (sym both.1) (index ∙ (sym fresh.long ∙ sym both.0), counts)
    | inr other ↦ fresh.placed k t other
  ];
  empty = λ k t is. elim (get-append ss s t k is) [
    | inl both ↦ subst (λ x. x.held ≡ with_list []) (sym both.1) held
    | inr other ↦ fresh.empty k t other
  ];
}

pub empty_loaded : {K : Type 0} (index count : ℕ) (s : part.Keeping K) (k : K) → part.IsOpened index count [] k s → s.held ≡ with_list []
empty_loaded index count s k opened = same-held s.held (none-spelled s.held.list opened.loaded.spelled) opened.no_doubt
  where
    none-spelled : (h : List Record) → map spelling h ≡ [] → h ≡ []
    none-spelled [] is = refl
    none-spelled (r ∷ h) is = absurd cc

    same-held : (k : Held) → k.list ≡ [] → k.doubt ≡ None → k ≡ with_list []
    same-held k list clear = ap (λ (l : List Record). let h : Held = record { list = l; doubt = k.doubt } in h) list ∙ ap (λ (d : Option Record). let h : Held = record { list = []; doubt = d } in h) clear

pub none_illegal : (index count nth : ℕ) → loads.IsFirstIllegal index count [] nth → ⊥
none_illegal index count nth first =
    let long : 0 ≡ length (map spelling first.before ++ first.bad ∷ first.rest) = ap length first.stands in
    let more = length-append (map spelling first.before) (first.bad ∷ first.rest) in
    omega arith

-- ---- the school

each-same : {K : Type 0} (ss : List (part.Keeping K)) → ((k : ℕ) (s : part.Keeping K) → slice_get ss k ≡ Some s → s.held ≡ with_list []) → held_of ss ≡ replicate (length ss) (with_list [])
each-same [] each = refl
each-same (s ∷ ss) each = ap (λ (h : Held). h ∷ held_of ss) (each 0 s refl) ∙ ap (λ (hs : List Held). with_list [] ∷ hs) (each-same ss (λ k t is. each (suc k) t is))

pub founded_solo : {K : Type 0} (n : ℕ) (token : List ℕ) (c : records.Keeping K) (ss : List (part.Keeping K)) → 1 ≤ n → c.held ≡ with_list (founded n token) → AreFresh n n ss → IsSolo c ss
founded_solo n token c ss some held fresh =
    let list : c.held.list ≡ founded n token = ap (λ (h : Held). h.list) held in
    record {
      some = rw fresh.long some;
      placed = record { each = λ k s is. let place = fresh.placed k s is in (place.0, place.1 ∙ sym fresh.long) };
      founded = ap shards list ∙ ap (λ (m : ℕ). Some m) (sym fresh.long);
      agree = record { each = λ k s is. subst (λ (h : Held). EachMayStand (AllAgree c.held.list) h) (sym (fresh.empty k s is)) (record { without = all-empty c.held.list; with_doubt = tt }) };
    }

pub founded_seen : {K : Type 0} (n : ℕ) (token : List ℕ) (c : records.Keeping K) (ss : List (part.Keeping K)) → c.held ≡ with_list (founded n token) → AreFresh n n ss → let a : School K = record { catalog = c; parts = ss } in lists_in a ≡ founded_lists n token
founded_seen n token c ss held fresh =
    ap (λ (h : Held). let l : Lists = record { records = h; parts = held_of ss } in l) held
    ∙ ap (λ (hs : List Held). let l : Lists = record { records = with_list (founded n token); parts = hs } in l) (each-same ss fresh.empty ∙ ap (λ (m : ℕ). replicate m (with_list [])) fresh.long)

clear-replicate : (n k : ℕ) (h : Held) → slice_get (replicate n (with_list [])) k ≡ Some h → h.doubt ≡ None
clear-replicate zero k h is = absurd cc
clear-replicate (suc n) zero h is = let same : with_list [] ≡ h = cc in ap (λ (x : Held). x.doubt) (sym same)
clear-replicate (suc n) (suc k) h is = clear-replicate n k h is

pub founded_clear : (n : ℕ) (token : List ℕ) → AreClear (founded_lists n token)
founded_clear n token = record { records = refl; parts = clear-replicate n }

-- ---- a school that is loaded

-- none is in doubt in what is loaded, which is a school's
pub loaded_solo : {D : Type 0} (moment : D → ℕ) (left_at : D → ℕ → List ℕ → Type 0) (folder : List ℕ) (files : Files) (c : records.Keeping (Ledger D)) (ss : List (part.Keeping (Ledger D))) → IsLoadedFrom moment left_at folder files c ss → 1 ≤ length ss → IsSolo c ss
loaded_solo moment left_at folder files c ss loaded some =
    let long : length (map (λ (s : part.Keeping (Ledger _)). s.held.list) ss) ≡ length ss = length-map ss (λ s. s.held.list) in
    record {
      some = some;
      placed = record { each = λ k s is. let own = (loaded.parts_are.each k s is).loaded.loaded in (own.index_is, own.count_is) };
      founded = loaded.school.founded ∙ ap (λ (n : ℕ). Some n) long;
      agree = record { each = λ k s is. stands_alone (AllAgree c.held.list) s.held (loaded.parts_are.each k s is).loaded.no_doubt (loaded.school.agree k s.held.list (slice_get-map (λ s. s.held.list) ss k ∙ rw is refl)) };
    }

pub caused_ok : {T S E : Type 0} (fault : E) (before now : ℕ) (x : T) (y : S) → IsCaused {T = T} fault before now (Ok x) → IsCaused {T = S} fault before now (Ok y)
caused_ok fault before now x y caused = record { later = caused.later; failed = λ is. absurd cc }

pub sound_ok : {T S E : Type 0} (was is : Type 0) (before now : ℕ) (x : T) (y : S) (fault : E) → StaysSound was is before now (IsErrOf {T = T} (Ok x) fault) → StaysSound was is before now (IsErrOf {T = S} (Ok y) fault)
sound_ok was is before now x y fault stays = record { works = λ sound is. absurd cc; steady = stays.steady; still = stays.still }

pub held_founded : {K : Type 0} (law : HasOneSpelling) (n : ℕ) (token : List ℕ) (c : records.Keeping K) (k : K) → IsRecord (founding n token) → records.IsOpened (spelling (founding n token) ∷ []) k c → c.held ≡ with_list (founded n token)
held_founded law n token c k made opened = same-held c.held (founded n token) (loaded_founded law n token c.held.list made opened.loaded) opened.no_doubt
  where
    same-held : (h : Held) (l : List Record) → h.list ≡ l → h.doubt ≡ None → h ≡ with_list l
    same-held h l list clear = ap (λ (m : List Record). let x : Held = record { list = m; doubt = h.doubt } in x) list ∙ ap (λ (d : Option Record). let x : Held = record { list = l; doubt = d } in x) clear
