-- How a report comes out, by what the turns at the catalogue and at each shard came to.
use Rattle.std.proofs.Common.{◌≡◌, ◌⊎◌, inl, inr, ℕ, zero, suc, ◌+◌, ◌<◌, false, List, [], ◌∷◌, ◌++◌, Option, Some, None, Result, Ok, Err, map, length, take, refl, sym, ap, ◌∙◌, subst, append-nil, append_assoc, arith}
use Rattle.std.specs.List.{AllZip}
use Rattle.std.specs.Prelude.{ℤ, flat_map, slice_get, slice_set}
use Rattle.std.proofs.lemmas.List.{length-map, length-set, map-set, take_all}
use Rattle.std.proofs.lemmas.Option.{slice_get-map, slice_get_within}
use Rattle.qz_catalog_turns.specs.declared.replied.OwnRecord.TheVariants as own
use Rattle.qz_catalog_turns.specs.Headings.{IsHeading, TellsHeading}
use Rattle.qz_catalog_turns.specs.Owning.{Leaves, absent}
use Rattle.qz_catalog_turns.specs.Turning.{Fails, TurnCalls, held_of}
use Rattle.qz_catalog_turns.specs.declared.questions.Heading.{Heading}
use Rattle.qz_grading.specs.declared.refusal.Refusal.{Refusal}
use Rattle.qz_grading.specs.declared.refusal.Refusal.TheVariants as refusal
use Rattle.qz_keeper.specs.Lists.{IsSettled, Looks}
use Rattle.qz_serial.specs.Once.{AskedOnce}
use Rattle.qz_serial.specs.Paths.{goes_to_part}
use Rattle.qz_serial.specs.Reports.{IsReporting, MendedUpTo}
use Rattle.qz_serial.proofs.Composing.{look_ends}
use Rattle.qz_serial.proofs.Reports.{one_more, reports_law}
use Rattle.qz_serial.proofs.Seats.{set_apart, set_get, set_twice}
use Rattle.qz_shard.specs.Keeping.{TellsRows}
use Rattle.qz_shard_turns.specs.Tying.{HasLooked}
use Rattle.qz_school.specs.Answering.{MayBeAsked}
use Rattle.qz_school.specs.Reports.{all_rows, named_row, rows_in, rows_in_order}
use Rattle.qz_school.proofs.Calls.{look_told}
use Rattle.qz_school.proofs.Keepers.{get_set}
use Rattle.qz_school.proofs.Rows.{EachLegal, report_done}
use Rattle.qz_terms.specs.declared.ask.Ask.{Ask}
use Rattle.qz_terms.specs.declared.grades.Policy.{Policy}
use Rattle.qz_terms.specs.declared.people.User.{User}
use Rattle.qz_terms.specs.declared.record.Record.{Record}
use Rattle.qz_terms.specs.declared.reply.Done.{Done}
use Rattle.qz_terms.specs.declared.reply.Done.TheVariants as done
use Rattle.qz_terms.specs.declared.reply.Reply.{Reply}
use Rattle.qz_terms.specs.declared.reply.Reply.TheVariants as reply
use Rattle.qz_terms.specs.declared.reply.Row.{Row}
use Rattle.qz_terms.specs.declared.request.Request.TheVariants as request
use Rattle.qz_terms.specs.Cause.{forbidden, missing_quiz}
use Rattle.qz_terms.specs.Legal.{IsLegal, IsLegalCatalog}
use Rattle.qz_terms.specs.SchoolAnswer.{refusal_among}
use Rattle.qz_terms.specs.Serial.{Held, Mended, lists_of, stays}
use Rattle.qz_turn.specs.declared.view.Tale.{Tale}
use Rattle.qz_visit.specs.Reports.{PartsRead, RowsAre, RowsStop, short, untold}
use Rattle.qz_visit.specs.Tokens.{IsKnownTo}
use Rattle.qz_visit.specs.Visits.{AreFoundBy, IsFoundBy, Rose, TakesTurns, Tellings, TookTurn, Visited, lists_told, more, none, of_shard, refusing, seen_by}
use Rattle.qz_visit.specs.Ways.{Part, Seen}
use Rattle.qz_visit.proofs.Asking.{askable, settled_self, user_on, untold_split}
use Rattle.qz_visit.proofs.Asking as asking
use Rattle.qz_visit.proofs.Owning.{as_seen, ends_mend, found_settled, look_again}
use Rattle.qz_visit.proofs.Passing.{all_rested, asked_mean, by_catalog, count_helds, found_after, found_looked, found_looks, helds, helds_set, lists, part-is, put_none, seats, seen_set, seen_there, takes_took, took_after, took_sees, took_turned}

-- ---- one shard more

one-head : {A : Type 0} (a b : A) (xs ys : List A) → a ∷ xs ≡ b ∷ ys → a ≡ b
one-head a b xs ys e = cc

one-tail : {A : Type 0} (a b : A) (xs ys : List A) → a ∷ xs ≡ b ∷ ys → xs ≡ ys
one-tail a b xs ys e = cc

found-set : (os ns : List Part) (fs : List (Tale Record)) (k : ℕ) (n m : Part) (f : Tale Record) → AreFoundBy os ns fs → map held_of fs ≡ helds ns → slice_get ns k ≡ Some n → IsFoundBy n m f → AreFoundBy os (slice_set ns k m) (slice_set fs k f)
found-set _ _ _ k n m f none same at is = absurd cc
found-set _ _ _ zero n m f (more o x t os ns fs one rest) same at is =
    let here : n ≡ x = cc in
    let still = one-head (held_of t) (held_of x.seen) (map held_of fs) (helds ns) same in
    more o m f os ns fs (found_after o x m f (found_looks o x t one still) (subst (λ (p : Part). IsFoundBy p m f) here is)) rest
found-set _ _ _ (suc k) n m f (more o x t os ns fs one rest) same at is =
    more o x t os (slice_set ns k m) (slice_set fs k f) one (found-set os ns fs k n m f rest (one-tail (held_of t) (held_of x.seen) (map held_of fs) (helds ns) same) at is)

zip-set : (hs gs : List Held) (k : ℕ) (x : Held) → AllZip Mended hs gs → AllZip Mended (slice_set hs k x) (slice_set gs k x)
zip-set [] [] k x all = all
zip-set [] (g ∷ gs) k x all = absurd all
zip-set (h ∷ hs) [] k x all = absurd all
zip-set (h ∷ hs) (g ∷ gs) zero x all = (stays x, all.1)
zip-set (h ∷ hs) (g ∷ gs) (suc k) x all = (all.0, zip-set hs gs k x all.1)

get-both : (hs gs : List Held) (i k : ℕ) (x : Held) → AllZip Mended hs gs → slice_get gs k ≡ slice_get hs k → slice_get (slice_set gs i x) k ≡ slice_get (slice_set hs i x) k
get-both [] [] i k x all same = refl
get-both [] (g ∷ gs) i k x all same = absurd all
get-both (h ∷ hs) [] i k x all same = absurd all
get-both (h ∷ hs) (g ∷ gs) zero zero x all same = refl
get-both (h ∷ hs) (g ∷ gs) zero (suc k) x all same = same
get-both (h ∷ hs) (g ∷ gs) (suc i) zero x all same = same
get-both (h ∷ hs) (g ∷ gs) (suc i) (suc k) x all same = get-both hs gs i k x all.1 same

-- the shard that is read next was found otherwise
mended-set : (i : ℕ) (old parts : List Held) (x : Held) → MendedUpTo i old parts → MendedUpTo i (slice_set old i x) (slice_set parts i x)
mended-set i old parts x read = record {
  mends = zip-set old parts i x read.mends;
  clear = λ k h within at. read.clear k h within (sym (set_apart parts i k x (apart i k within)) ∙ at);
  same = λ k past. get-both old parts i k x read.mends (read.same k past);
}
  where
    apart : (i k : ℕ) → k < i → k ≡ i → ⊥
    apart i k within same = absurd (omega (arith, within, same))

pub read_none : (ps : List Part) → PartsRead 0 ps ps (seen_by ps)
read_none ps = record { are = all_rested ps; same = refl; mended = (reports_law ⊥).begin (helds ps); legal = λ k p within at. absurd (omega (arith, within)); turned = λ k o n within was at. absurd (omega (arith, within)) }

told-there : (ts : List (Tale Record)) (k : ℕ) (t : Tale Record) → map held_of (slice_set ts k t) ≡ slice_set (map held_of ts) k (held_of t)
told-there ts k t = map-set held_of ts k t

helds-there : (ps : List Part) (k : ℕ) (p : Part) → slice_get ps k ≡ Some p → slice_get (helds ps) k ≡ Some (held_of p.seen)
helds-there ps k p is = Rattle.qz_visit.proofs.Passing.held_there ps k p is

-- where it was found so
mended-to : (i : ℕ) (mid : List Part) (found : List (Tale Record)) (t : Tale Record) → MendedUpTo i (map held_of found) (helds mid) → MendedUpTo i (map held_of (slice_set found i t)) (slice_set (helds mid) i (held_of t))
mended-to i mid found t read = subst (λ (hs : List Held). MendedUpTo i hs (slice_set (helds mid) i (held_of t))) (sym (told-there found i t)) (mended-set i (map held_of found) (helds mid) (held_of t) read)

-- and stays so
same-set : (i : ℕ) (mid : List Part) (found : List (Tale Record)) (pn : Part) → map held_of found ≡ helds mid → map held_of (slice_set found i (as_seen pn)) ≡ helds (slice_set mid i pn)
same-set i mid found pn same = told-there found i (as_seen pn) ∙ (ap (λ (hs : List Held). slice_set hs i (held_of pn.seen)) same ∙ sym (helds_set mid i pn))

legal-at : (i k : ℕ) (mid : List Part) (pn p : Part) → ((j : ℕ) (q : Part) → j < i → slice_get mid j ≡ Some q → IsLegal j (length mid) q.seen.list) → IsLegal i (length mid) pn.seen.list → k < i + 1 → slice_get (slice_set mid i pn) k ≡ Some p → IsLegal k (length mid) p.seen.list
legal-at i k mid pn p before here within at = elim (get_set mid i k pn p at) [
  | inl both ↦ subst (λ (q : Part). IsLegal k (length mid) q.seen.list) both.1 (subst (λ (j : ℕ). IsLegal j (length mid) pn.seen.list) (sym both.0) here)
  | inr other ↦ elim (lower i k within) [
    | inl less ↦ before k p less other
    | inr same ↦
        let own : slice_get (slice_set mid i pn) i ≡ Some pn = set_get mid i p pn (subst (λ (j : ℕ). slice_get mid j ≡ Some p) same other) in
        let both : Some pn ≡ Some p = sym own ∙ subst (λ (j : ℕ). slice_get (slice_set mid i pn) j ≡ Some p) same at in
        subst (λ (q : Part). IsLegal k (length mid) q.seen.list) (some-is pn p both) (subst (λ (j : ℕ). IsLegal j (length mid) pn.seen.list) (sym same) here)
  ]
]
  where
    lower : (i k : ℕ) → k < i + 1 → (k < i) ⊎ (k ≡ i)
    lower i k within = grind (arith, within)

    some-is : (a b : Part) → Some a ≡ Some b → a ≡ b
    some-is a b e = cc

-- a turn more at one that was found so
found-at : (os ns : List Part) (fs : List (Tale Record)) (k : ℕ) (o n : Part) → AreFoundBy os ns fs → map held_of fs ≡ helds ns → slice_get os k ≡ Some o → slice_get ns k ≡ Some n → HasLooked o n
found-at _ _ _ k o n none same was is = absurd cc
found-at _ _ _ zero o n (more a b f os ns fs one rest) same was is =
    let first : a ≡ o = cc in
    let second : b ≡ n = cc in
    let still = one-head (held_of f) (held_of b.seen) (map held_of fs) (helds ns) same in
    subst (λ (x : Part). HasLooked x n) first (subst (λ (x : Part). HasLooked a x) second (found_looks a b f one still))
found-at _ _ _ (suc k) o n (more a b f os ns fs one rest) same was is = found-at os ns fs k o n rest (one-tail (held_of f) (held_of b.seen) (map held_of fs) (helds ns) same) was is

turned-on : (i k : ℕ) (old mid : List Part) (found : List (Tale Record)) (po pn o q : Part) → PartsRead i old mid found → slice_get mid i ≡ Some po → TookTurn po pn → k < i + 1 → slice_get old k ≡ Some o → slice_get (slice_set mid i pn) k ≡ Some q → TakesTurns o q
turned-on i k old mid found po pn o q read at took within was there = elim (lower i k within) [
  | inl less ↦ read.turned k o q less was (sym (set_apart mid i k pn (λ same. absurd (omega (arith, less, same)))) ∙ there)
  | inr same ↦
      let own : slice_get (slice_set mid i pn) k ≡ Some pn = subst (λ (j : ℕ). slice_get (slice_set mid i pn) j ≡ Some pn) (sym same) (set_get mid i po pn at) in
      let here : slice_get mid k ≡ Some po = subst (λ (j : ℕ). slice_get mid j ≡ Some po) (sym same) at in
      let last : pn ≡ q = part-is pn q (sym own ∙ there) in
      subst (λ (x : Part). TakesTurns o x) last (takes_took o pn (took_after o po pn (found-at old mid found k o po read.are read.same was here) took))
]
  where
    lower : (i k : ℕ) → k < i + 1 → (k < i) ⊎ (k ≡ i)
    lower i k within = grind (arith, within)

-- the rows of one shard more
pub read_more : (i quiz : ℕ) (policy : Policy) (old mid : List Part) (found : List (Tale Record)) (po pn : Part) (n : ℕ) (rows : List (ℕ × Option ℤ)) → PartsRead i old mid found → slice_get mid i ≡ Some po → n ≡ length mid
    → TurnCalls (IsLegal i n) (λ r. Err r) (Looks (TellsRows quiz policy)) po pn (Ok rows) → PartsRead (i + 1) old (slice_set mid i pn) (slice_set found i (as_seen pn))
read_more i quiz policy old mid found po pn n rows read at long t =
    let told = look_told (Fails pn.found pn.seen) (TellsRows quiz policy) (held_of pn.found) (held_of pn.seen) rows t.calls.call in
    let next = one_more i (map held_of (slice_set found i (as_seen pn))) (slice_set (helds mid) i (held_of pn.seen)) (held_of pn.seen) (held_of pn.seen) (mended-to i mid found (as_seen pn) read.mended)
    (set_get (helds mid) i (held_of po.seen) (held_of pn.seen) (helds-there mid i po at)) (settled_self (held_of pn.seen) told.0.no_doubt) in
    let legal : IsLegal i (length mid) pn.seen.list = subst (λ (m : ℕ). IsLegal i m pn.seen.list) long t.calls.seen_may.without in
    record {
      are = found-set old mid found i po pn (as_seen pn) read.are read.same at (found_looked (IsLegal i n) (λ r. Err r) (TellsRows quiz policy) po pn (Ok rows) t);
      same = same-set i mid found pn read.same;
      mended = subst (MendedUpTo (i + 1) (map held_of (slice_set found i (as_seen pn)))) (set_twice (helds mid) i (held_of pn.seen) (held_of pn.seen) ∙ sym (helds_set mid i pn)) next;
      legal = λ k p within there. subst (λ (m : ℕ). IsLegal k m p.seen.list) (sym (length-set mid i pn)) (legal-at i k mid pn p read.legal legal within there);
      turned = λ k o q within was there. turned-on i k old mid found po pn o q read at (took_turned (IsLegal i n) (λ r. Err r) (Looks (TellsRows quiz policy)) po pn (Ok rows) t) within was there;
    }

flat-one : {A B : Type 0} (f : A → List B) (xs : List A) (k : ℕ) (x : A) → slice_get xs k ≡ Some x → flat_map f (take (suc k) xs) ≡ flat_map f (take k xs) ++ f x
flat-one f [] k x is = absurd cc
flat-one f (y ∷ ys) zero x is = let same : y ≡ x = cc in append-nil (f y) ∙ ap f same
flat-one f (y ∷ ys) (suc k) x is = ap (λ (l : List _). f y ++ l) (flat-one f ys k x is) ∙ sym (append_assoc (f y) (flat_map f (take k ys)) (f x))

take-before : {A : Type 0} (xs : List A) (k : ℕ) (x : A) → take k (slice_set xs k x) ≡ take k xs
take-before [] k x = refl
take-before (y ∷ ys) zero x = refl
take-before (y ∷ ys) (suc k) x = ap (λ (l : List _). y ∷ l) (take-before ys k x)

list-there : (hs : List Held) (k : ℕ) (h : Held) → slice_get hs k ≡ Some h → slice_get (lists_of hs) k ≡ Some h.list
list-there hs k h is = slice_get-map (λ (x : Held). x.list) hs k ∙ rw is refl

-- the lists of the first so many shards
abbrev pub first_lists : ℕ → List Part → List (List Record)
first_lists i ps = take i (lists_of (helds ps))

lists-set : (ps : List Part) (k : ℕ) (p : Part) → lists_of (helds (slice_set ps k p)) ≡ slice_set (lists_of (helds ps)) k p.seen.list
lists-set ps k p = ap lists_of (helds_set ps k p) ∙ map-set (λ (h : Held). h.list) (helds ps) k (held_of p.seen)

pub rows_more : (i quiz : ℕ) (policy : Policy) (mid : List Part) (po pn : Part) (P : List Record → Type 0) (all rows : List (ℕ × Option ℤ)) → slice_get mid i ≡ Some po → all ≡ all_rows (first_lists i mid) quiz policy
    → TurnCalls P (λ r. Err r) (Looks (TellsRows quiz policy)) po pn (Ok rows) → all ++ rows ≡ all_rows (first_lists (i + 1) (slice_set mid i pn)) quiz policy
rows_more i quiz policy mid po pn P all rows at so_far t =
    let told = look_told (Fails pn.found pn.seen) (TellsRows quiz policy) (held_of pn.found) (held_of pn.seen) rows t.calls.call in
    let here : rows ≡ rows_in quiz policy pn.seen.list = ok-is rows (rows_in quiz policy pn.seen.list) told.1 in
    let ls = lists_of (helds mid) in
    let old = list-there (helds mid) i (held_of po.seen) (helds-there mid i po at) in
    let now : slice_get (slice_set ls i pn.seen.list) i ≡ Some pn.seen.list = set_get ls i po.seen.list pn.seen.list old in
    let one : i + 1 ≡ suc i = omega arith in
    let step = flat-one (rows_in quiz policy) (slice_set ls i pn.seen.list) i pn.seen.list now in
    rw (so_far, here) (sym (ap (λ (l : List (List Record)). all_rows (take (i + 1) l) quiz policy) (lists-set mid i pn) ∙ (ap (λ (n : ℕ). all_rows (take n (slice_set ls i pn.seen.list)) quiz policy) one ∙ (step ∙ ap (λ (l : List (List Record)). all_rows l quiz policy ++ rows_in quiz policy pn.seen.list) (take-before ls i pn.seen.list)))))
  where
    ok-is : (x y : List (ℕ × Option ℤ)) → ◌≡◌ {A = Result (List (ℕ × Option ℤ)) Refusal} (Ok x) (Ok y) → x ≡ y
    ok-is x y e = cc

pub count_found : (os ns : List Part) (fs : List (Tale Record)) → AreFoundBy os ns fs → length ns ≡ length os
count_found _ _ _ none = refl
count_found _ _ _ (more o n f os ns fs one rest) = ap suc (count_found os ns fs rest)

pub count_told : (os ns : List Part) (fs : List (Tale Record)) → AreFoundBy os ns fs → length fs ≡ length os
count_told _ _ _ none = refl
count_told _ _ _ (more o n f os ns fs one rest) = ap suc (count_told os ns fs rest)

pub count_lists : (ps : List Part) → length (lists_of (helds ps)) ≡ length ps
count_lists ps = length-map (helds ps) (λ (h : Held). h.list) ∙ count_helds ps

pub rows_whole : (i quiz : ℕ) (policy : Policy) (old new : List Part) (found : List (Tale Record)) (all : List (ℕ × Option ℤ)) → i ≡ length old → PartsRead i old new found → all ≡ all_rows (first_lists i new) quiz policy → RowsAre quiz policy old new all
rows_whole i quiz policy old new found all end read rows =
    let long : length (lists_of (helds new)) ≡ i = count_lists new ∙ (count_found old new found read.are ∙ sym end) in
    record {
      found = found;
      read = subst (λ (n : ℕ). PartsRead n old new found) end read;
      rows_are = rows ∙ ap (λ (l : List (List Record)). all_rows l quiz policy) (take_all i (lists_of (helds new)) (omega (arith, long)));
    }

-- ---- a request for a report

-- a user whom the catalogue's pass has seen asks for it, and the catalogue has the quiz
pub record Reports (so sn : Seen) (ps : List Part) (ask : Ask) (now : ℕ) (user : User) (quiz : ℕ) : Type 0 where
  pub some : 0 < length ps
  pub may : MayBeAsked ask now
  pub known : IsKnownTo so ask user
  pub request_is : ask.request ≡ request.Report quiz
  pub allowed : forbidden user ask.request ≡ None
  pub found : TookTurn so sn
  pub mended : IsSettled (held_of sn.found) (held_of sn.seen)
  pub there : missing_quiz sn.seen.list quiz ≡ None

reporting : (so sn : Seen) (ps ns : List Part) (fs : List (Tale Record)) (ask : Ask) (now : ℕ) (user : User) (quiz : ℕ) → Reports so sn ps ask now user quiz → AreFoundBy ps ns fs → IsReporting (lists (held_of sn.seen) (map held_of fs)) (held_of sn.seen) ask user quiz
reporting so sn ps ns fs ask now user quiz w are =
    let free : forbidden user (request.Report quiz) ≡ None = rw w.request_is at w.allowed in
    let there = w.there in
    let long : length (map held_of fs) ≡ length ps = length-map fs held_of ∙ count_told ps ns fs are in
    record {
      askable = askable (held_of sn.seen) (map held_of fs) (length ps) now ask w.some long w.may;
      known = record {
        token = w.known.token;
        caller_is = w.known.caller_is;
        settled = settled_self (held_of sn.seen) w.mended.no_doubt;
        found = user_on so.seen.list sn.seen.list ask.caller user (took_sees so sn w.found).begins.begins w.known.known.found;
      };
      request_is = w.request_is;
      among = rw (w.request_is, free, there) refl;
    }

-- each list stays as it was found
left-same : (fs ts : List (Tale Record)) (k : ℕ) (f s : Tale Record) → map held_of fs ≡ map held_of ts → slice_get fs k ≡ Some f → slice_get ts k ≡ Some s → Leaves (held_of f) (held_of s) own.Absent
left-same fs ts k f s same one other =
    let first : slice_get (map held_of fs) k ≡ Some (held_of f) = slice_get-map held_of fs k ∙ rw one refl in
    let second : slice_get (map held_of ts) k ≡ Some (held_of s) = slice_get-map held_of ts k ∙ rw other refl in
    let both : Some (held_of f) ≡ Some (held_of s) = sym first ∙ (ap (λ (hs : List Held). slice_get hs k) same ∙ second) in
    subst (λ (h : Held). Leaves (held_of f) h own.Absent) (some-held (held_of f) (held_of s) both) (absent (held_of f))
  where
    some-held : (a b : Held) → Some a ≡ Some b → a ≡ b
    some-held a b e = cc

visited-all : (failed : Type 0) (so sn : Seen) (ps ns : List Part) (fs : List (Tale Record)) (now : ℕ) (ask : Ask) (told : Reply) → IsFoundBy so sn (as_seen sn) → AreFoundBy ps ns fs → map held_of fs ≡ helds ns
    → let f : Tellings = record { records = as_seen sn; parts = fs } in let g : Tellings = record { records = sn.seen; parts = seen_by ns } in
    (failed → Rose f g) → ((k : ℕ) (o n : Part) (at : ℕ) (d : Done) → slice_get ps k ≡ Some o → slice_get ns k ≡ Some n → told ≡ reply.Ok at d → TakesTurns o n) → ((at : ℕ) (d : Done) → told ≡ reply.Ok at d → goes_to_part ask.request ≡ false) → AskedOnce failed (lists (held_of sn.seen) (map held_of fs)) (lists (held_of sn.seen) (helds ns)) now ask told → Visited (seats so ps) (seats sn ns) now ask (by_catalog (put_none told))
visited-all failed so sn ps ns fs now ask told first are same to turned other once =
    let f : Tellings = record { records = as_seen sn; parts = fs } in
    let g : Tellings = record { records = sn.seen; parts = seen_by ns } in
    record {
      found = f;
      records = first;
      parts = are;
      once = asked_mean failed (Rose f g) (lists_told f) (lists_told g) now ask told to once;
      owns = record { records = absent (held_of sn.seen); parts = λ k x y one other. left-same fs (seen_by ns) k x y same one other };
      named = record { place = λ k is. absurd cc; turned = λ k o n at d reads was now_is accepted. turned k o n at d was now_is accepted; elsewhere = λ at d is accepted. other at d accepted };
    }

-- memory was wanting behind some shards
pub wants_report : (so sn : Seen) (ps ns : List Part) (fs : List (Tale Record)) (i now : ℕ) (ask : Ask) (user : User) (quiz : ℕ) → Reports so sn ps ask now user quiz → PartsRead i ps ns fs → Visited (seats so ps) (seats sn ns) now ask (refusing refusal.Memory)
wants_report so sn ps ns fs i now ask user quiz w read =
    visited-all ⊥ so sn ps ns fs now ask (reply.Refused refusal.Memory) (found_settled so sn w.found w.mended.mends) read.are read.same (λ no. absurd no) (λ k o n at d was now_is is. absurd cc) (λ at d is. absurd cc)
    ((reports_law ⊥).wanting (lists (held_of sn.seen) (map held_of fs)) (held_of sn.seen) (helds ns) i now ask user quiz (reporting so sn ps ns fs ask now user quiz w read.are) read.mended)

-- a shard didn't tell its rows
pub stopped_report : (so sn : Seen) (ps ns : List Part) (now : ℕ) (ask : Ask) (user : User) (quiz : ℕ) (policy : Policy) (r : Refusal) → Reports so sn ps ask now user quiz → RowsStop quiz policy ps ns r → Visited (seats so ps) (seats sn ns) now ask (refusing r)
stopped_report so sn ps ns now ask user quiz policy r w (short i fs read memory) = rw memory (wants_report so sn ps ns fs i now ask user quiz w read)
stopped_report so sn ps ns now ask user quiz policy r w (untold i mid fs po pn read at is call same) =
    let failed = Fails pn.found pn.seen in
    let says = TellsRows quiz policy in
    let found = slice_set fs i (as_seen pn) in
    let ends = look_ends failed (λ r. Err r) says (held_of pn.found) (held_of pn.seen) (Err r) call in
    let are = found-set ps mid fs i po pn (as_seen pn) read.are read.same at (found_settled po pn is (ends_mend failed (λ r. Err r) says (held_of pn.found) (held_of pn.seen) (Err r) ends)) in
    let a = lists (held_of sn.seen) (map held_of found) in
    let parts = slice_set (helds mid) i (held_of pn.seen) in
    let once = (reports_law failed).rows a (held_of sn.seen) (held_of pn.seen) (held_of pn.seen) parts i now ask user quiz (rows_in quiz policy) (Err r) (reporting so sn ps (slice_set mid i pn) found ask now user quiz w are)
    (mended-to i mid fs (as_seen pn) read.mended) (set_get (helds mid) i (held_of po.seen) (held_of pn.seen) (helds-there mid i po at)) (look_again failed (λ r. Err r) says (held_of pn.found) (held_of pn.seen) (Err r) call) in
    let left = subst (λ (hs : List Held). AskedOnce failed a (lists (held_of sn.seen) hs) now ask (reply.Refused r)) (set_twice (helds mid) i (held_of pn.seen) (held_of pn.seen) ∙ sym (helds_set mid i pn)) once in
    let old = tale-there fs i ps mid po read.are at in
    subst (λ (l : List Part). Visited (seats so ps) (seats sn l) now ask (refusing r)) (sym same)
    (visited-all failed so sn ps (slice_set mid i pn) found now ask (reply.Refused r) (found_settled so sn w.found w.mended.mends) are (same-set i mid fs pn read.same)
    (λ why. of_shard i (as_seen pn) pn.seen (set_get fs i old.0 (as_seen pn) old.1) (rw (seen_set mid i pn) (set_get (seen_by mid) i po.seen pn.seen (seen_there mid i po at))) why) (λ k o n here d was now_is is. absurd cc) (λ here d is. absurd cc) left)
  where
    tale-there : (fs : List (Tale Record)) (k : ℕ) (os ns : List Part) (n : Part) → AreFoundBy os ns fs → slice_get ns k ≡ Some n → (t : Tale Record) × (slice_get fs k ≡ Some t)
    tale-there _ k _ _ n none at = absurd cc
    tale-there _ zero _ _ n (more o x f os ns fs one rest) at = (f, refl)
    tale-there _ (suc k) _ _ n (more o x f os ns fs one rest) at = tale-there fs k os ns n rest at

-- each list is legal for its shard
each-legal : (quiz : ℕ) (policy : Policy) (ps ns : List Part) (all : List (ℕ × Option ℤ)) → RowsAre quiz policy ps ns all → EachLegal (lists_of (helds ns))
each-legal quiz policy ps ns all are = record {
  legal = λ k l at.
      let own = part-by ns k l at in
      let inside : k < length ps = subst (λ (n : ℕ). k < n) (count_found ps ns are.found are.read.are) (slice_get_within ns k own.0 own.1.0) in
      subst (λ (n : ℕ). IsLegal k n l) (sym (count_lists ns)) (subst (IsLegal k (length ns)) own.1.1 (are.read.legal k own.0 inside own.1.0));
}
  where
    part-by : (ns : List Part) (k : ℕ) (l : List Record) → slice_get (lists_of (helds ns)) k ≡ Some l → (p : Part) × ((slice_get ns k ≡ Some p) × (p.seen.list ≡ l))
    part-by [] k l at = absurd cc
    part-by (p ∷ ns) zero l at = (p, (refl, cc))
    part-by (p ∷ ns) (suc k) l at = part-by ns k l at

pub told_report : (so sn : Seen) (ps ns : List Part) (now : ℕ) (ask : Ask) (user : User) (quiz : ℕ) (heading : Heading) (all : List (ℕ × Option ℤ)) (rows : List Row) → Reports so sn ps ask now user quiz → IsHeading sn.seen.list quiz heading → RowsAre quiz heading.policy ps ns all
    → rows ≡ map (named_row heading.names) (rows_in_order all) → Visited (seats so ps) (seats sn ns) now ask (by_catalog (put_none (reply.Ok heading.place (done.Report rows))))
told_report so sn ps ns now ask user quiz heading all rows w h are rows_are =
    let told = reply.Ok heading.place (done.Report rows) in
    let fs = are.found in
    let long : length (map held_of fs) ≡ length ps = length-map fs held_of ∙ count_told ps ns fs are.read.are in
    let answer = report_done sn.seen.list (lists_of (helds ns)) quiz heading.policy heading.place rows heading.names all (rows_in_order all) (each-legal quiz heading.policy ps ns all are) h.policy.policy_is h.place h.names are.rows_are refl rows_are in
    visited-all ⊥ so sn ps ns fs now ask told (found_settled so sn w.found w.mended.mends) are.read.are are.read.same (λ no. absurd no) (λ k o n at d was now_is is. are.read.turned k o n (slice_get_within ps k o was) was now_is) (λ at d is. rw w.request_is refl)
    ((reports_law ⊥).told (lists (held_of sn.seen) (map held_of fs)) (held_of sn.seen) (helds ns) now ask user quiz told (reporting so sn ps ns fs ask now user quiz w are.read.are)
    (subst (λ (n : ℕ). MendedUpTo n (map held_of fs) (helds ns)) (sym long) are.read.mended) answer)

-- ---- the catalogue didn't tell what a report says besides its rows

missing-among : (c : List Record) (n : ℕ) (user : User) (ask : Ask) (quiz : ℕ) (r : Refusal) → ask.request ≡ request.Report quiz → forbidden user ask.request ≡ None → missing_quiz c quiz ≡ Some r → refusal_among c n user ask.request ≡ Some r
missing-among c n user ask quiz r is may missing =
    let free : forbidden user (request.Report quiz) ≡ None = rw is at may in
    rw (is, free, missing) refl

pub headless_report : (so sn : Seen) (ps : List Part) (now : ℕ) (ask : Ask) (user : User) (quiz : ℕ) (r : Refusal) → 0 < length ps → MayBeAsked ask now → IsKnownTo so ask user → ask.request ≡ request.Report quiz → forbidden user ask.request ≡ None
    → TurnCalls IsLegalCatalog (λ r. Err r) (Looks (TellsHeading quiz)) so sn (Err r) → Visited (seats so ps) (seats sn ps) now ask (refusing r)
headless_report so sn ps now ask user quiz r some may known is allowed t =
    let failed = Fails sn.found sn.seen in
    let first = took_turned IsLegalCatalog (λ r. Err r) (Looks (TellsHeading quiz)) so sn (Err r) t in
    let ends = look_ends failed (λ r. Err r) (TellsHeading quiz) (held_of sn.found) (held_of sn.seen) (Err r) t.calls.call in
    asking.unlooked_visited so sn ps now ask user r some may known (rw is refl) first (elim (untold_split failed (TellsHeading quiz) (held_of sn.found) (held_of sn.seen) r ends) [
      | inl both ↦ inl (both.0, missing-among sn.seen.list (length ps) user ask quiz r is allowed both.1)
      | inr lost ↦ inr lost
    ])
