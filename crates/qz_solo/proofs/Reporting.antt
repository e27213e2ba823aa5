-- The grades of a quiz over all shards that are read.
use Rattle.std.proofs.Common.{◌≡◌, ◌⊎◌, inl, inr, ℕ, zero, suc, ◌+◌, ◌<◌, ◌-◌, true, false, List, [], ◌∷◌, ◌++◌, Option, Some, None, Result, Ok, Err, length, take, get_or, refl, sym, ap, ◌∙◌, subst, append-nil, append_assoc, arith}
use Rattle.std.specs.List.{AllZip}
use Rattle.std.specs.Prelude.{ℤ, flat_map, ◌==◌, slice_get, slice_set}
use Rattle.std.proofs.lemmas.Bool.Decides.{eqb_tells}
use Rattle.std.proofs.lemmas.List.{length-map, map-append, take_all}
use Rattle.std.proofs.lemmas.List.Elements.{length_all_zip}
use Rattle.std.proofs.lemmas.Option.{get_or_from_slice_get, slice_get-map, slice_get_within}
use Rattle.qz_terms.proofs.Walks.{take-one_more}
use Rattle.qz_catalog.specs.Keeping as records
use Rattle.qz_grading.specs.declared.refusal.Refusal.{Refusal}
use Rattle.qz_grading.specs.declared.refusal.Refusal.TheVariants as refusal
use Rattle.qz_keeper.specs.Lists.{EachMayStand, Looks}
use Rattle.qz_keeper.specs.Recording.{HasFailed}
use Rattle.qz_shard.specs.Keeping as part
use Rattle.qz_terms.specs.declared.ask.Ask.{Ask}
use Rattle.qz_terms.specs.declared.grades.Policy.{Policy}
use Rattle.qz_terms.specs.declared.people.User.{User}
use Rattle.qz_terms.specs.declared.record.Record.{Record}
use Rattle.qz_terms.specs.declared.reply.Reply.{Reply}
use Rattle.qz_terms.specs.declared.reply.Reply.TheVariants as reply
use Rattle.qz_terms.specs.declared.request.Request.TheVariants as request
use Rattle.qz_terms.specs.Cause.{forbidden, missing_quiz}
use Rattle.qz_terms.specs.Legal.{AllAgree, IsLegal}
use Rattle.qz_terms.specs.Lists.{placed}
use Rattle.qz_terms.specs.SchoolAnswer.{first_refusal, report_answer}
use Rattle.qz_terms.specs.Serial.{Held, Lists, Mended, lists_of}
use Rattle.qz_serial.specs.Calls.{LookEnds, looked, unlooked, unread}
use Rattle.qz_serial.specs.Once.{AskedOnce}
use Rattle.qz_serial.specs.Paths.{IsKnown}
use Rattle.qz_serial.specs.Reports.{IsReporting, MendedUpTo, with_parts}
use Rattle.qz_serial.proofs.Composing.{look_ends}
use Rattle.qz_serial.proofs.Reports.{one_more, one_zip, reports_law}
use Rattle.qz_serial.proofs.Seats.{set_apart, set_get}
use Rattle.qz_school.specs.Answering.{IsServed, MayBeAsked, PartLooks}
use Rattle.qz_school.specs.Reports.{PartsRead, RowsAre, RowsStop, all_rows, rows_in, short, untold}
use Rattle.qz_school.specs.Solos.{Fails, IsSolo, School, held_of, lists_in}
use Rattle.qz_school.proofs.Calls.{look_told, stands_mended}
use Rattle.qz_school.proofs.Keepers.{call_blames, fails_part, fails_then, get_set, go_both, go_none, go_part}
use Rattle.qz_solo.proofs.Serving.{askable}
use Rattle.qz_solo.proofs.Standing.{count_held, held_set, held_there}
use Rattle.qz_school.proofs.Rows.{EachLegal}

-- ---- the rows of one shard more

flat-append : {A B : Type 0} (f : A → List B) (xs ys : List A) → flat_map f (xs ++ ys) ≡ flat_map f xs ++ flat_map f ys
flat-append f [] ys = refl
flat-append f (x ∷ xs) ys = ap (λ (l : List _). f x ++ l) (flat-append f xs ys) ∙ sym (append_assoc (f x) (flat_map f xs) (flat_map f ys))

pub rows_more : {K : Type 0} (ss : List (part.Keeping K)) (k q : ℕ) (policy : Policy) (s : part.Keeping K) (all rows : List (ℕ × Option ℤ)) → k < length ss → s ≡ get_or ss k s → all ≡ all_rows (lists_of (held_of (take k ss))) q policy → rows ≡ rows_in q policy s.held.list
    → all ++ rows ≡ all_rows (lists_of (held_of (take (k + 1) ss))) q policy
rows_more ss k q policy s all rows inside there so_far here =
    let one : take (k + 1) ss ≡ take k ss ++ s ∷ [] = take-one_more ss k s inside there in
    let lists : lists_of (held_of (take (k + 1) ss)) ≡ lists_of (held_of (take k ss)) ++ s.held.list ∷ [] = ap (λ l. lists_of (held_of l)) one ∙ (ap lists_of (map-append (λ t. t.held) (take k ss) (s ∷ [])) ∙ map-append (λ (h : Held). h.list) (held_of (take k ss)) (s.held ∷ [])) in
    let last : flat_map (rows_in q policy) (s.held.list ∷ []) ≡ rows_in q policy s.held.list = append-nil (rows_in q policy s.held.list) in
    rw (so_far, here) (sym (ap (λ (hs : List (List Record)). all_rows hs q policy) lists ∙ (flat-append (rows_in q policy) (lists_of (held_of (take k ss))) (s.held.list ∷ []) ∙ ap (λ (l : List (ℕ × Option ℤ)). all_rows (lists_of (held_of (take k ss))) q policy ++ l) last)))

-- ---- the shards that are read

pub read_none : {K : Type 0} (sound : K → Type 0) (faults : K → ℕ) (ss : List (part.Keeping K)) → PartsRead sound faults 0 ss ss
read_none sound faults ss = record {
  mended = (reports_law ⊥).begin (held_of ss);
  same = λ k s g one other. subst (part.IsSamePart s) (some-same (slice_get ss k) s g one other) (record { index = refl; count = refl });
  legal = λ k g within there. absurd (omega (arith, within));
  goes_on = λ c. go_none sound faults (record { catalog = c; parts = ss });
}
  where
    some-same : {A : Type 0} (o : Option A) (x y : A) → o ≡ Some x → o ≡ Some y → x ≡ y
    some-same o x y one other = cc

legal-by : {K : Type 0} (i k : ℕ) (ss : List (part.Keeping K)) (s g t : part.Keeping K) → slice_get ss i ≡ Some s → ((j : ℕ) (u : part.Keeping K) → j < i → slice_get ss j ≡ Some u → IsLegal u.index u.count u.held.list) → IsLegal g.index g.count g.held.list → k < i + 1 → slice_get (slice_set ss i g) k ≡ Some t
    → ((i == k ≡ true) × (i ≡ k)) ⊎ ((i == k ≡ false) × (i ≡ k → ⊥)) → IsLegal t.index t.count t.held.list
legal-by i k ss s g t is before here within there (inl both) =
    let own : slice_get (slice_set ss i g) k ≡ Some g = subst (λ (j : ℕ). slice_get (slice_set ss i g) j ≡ Some g) both.1 (set_get ss i s g is) in
    subst (λ u. IsLegal u.index u.count u.held.list) (some-is (slice_get (slice_set ss i g) k) g t own there) here
  where
    some-is : {A : Type 0} (o : Option A) (x y : A) → o ≡ Some x → o ≡ Some y → x ≡ y
    some-is o x y one other = cc
legal-by i k ss s g t is before here within there (inr both) =
    let apart = both.1 in
    before k t (lower i k within apart) (sym (set_apart ss i k g (λ e. apart (sym e))) ∙ there)
  where
    lower : (i k : ℕ) → k < i + 1 → (i ≡ k → ⊥) → k < i
    lower i k within other = grind (arith, other)

-- one shard more
pub read_more : {K : Type 0} (sound : K → Type 0) (faults : K → ℕ) (i quiz : ℕ) (policy : Policy) (old mid : List (part.Keeping K)) (s g : part.Keeping K) (rows : List (ℕ × Option ℤ)) → PartsRead sound faults i old mid → slice_get mid i ≡ Some s → PartLooks sound faults (part.TellsRows quiz policy) s g (Ok rows)
    → EachMayStand (IsLegal g.index g.count) g.held → PartsRead sound faults (i + 1) old (slice_set mid i g)
read_more sound faults i quiz policy old mid s g rows read is call legal =
    let told = look_told (HasFailed (sound s.keeper) (faults s.keeper) (faults g.keeper)) (part.TellsRows quiz policy) s.held g.held rows call.call in
    record {
      mended = subst (MendedUpTo (i + 1) (held_of old)) (sym (held_set mid i g)) (one_more i (held_of old) (held_of mid) s.held g.held read.mended (held_there mid i s is) told.0);
      same = λ k o t at there. elim (get_set mid i k g t there) [
        | inl here ↦ subst (part.IsSamePart o) here.1 (both (read.same i o s (subst (λ (j : ℕ). slice_get old j ≡ Some o) here.0 at) is) call.same)
        | inr other ↦ read.same k o t at other
      ];
      legal = λ k t within there. legal-by i k mid s g t is read.legal legal.without within there (eqb_tells i k);
      goes_on = λ c. go_both sound faults (record { catalog = c; parts = old }) (record { catalog = c; parts = mid }) (record { catalog = c; parts = slice_set mid i g }) (read.goes_on c) (go_part sound faults c mid i s g is call.goes_on);
    }
  where
    both : {K : Type 0} {a b c : part.Keeping K} → part.IsSamePart a b → part.IsSamePart b c → part.IsSamePart a c
    both one other = record { index = other.index ∙ one.index; count = other.count ∙ one.count }

take-set : {A : Type 0} (xs : List A) (k : ℕ) (x : A) → take k (slice_set xs k x) ≡ take k xs
take-set [] k x = refl
take-set (y ∷ ys) zero x = refl
take-set (y ∷ ys) (suc k) x = ap (λ (l : List _). y ∷ l) (take-set ys k x)

-- and its rows behind the others
pub told_more : {K : Type 0} (sound : K → Type 0) (faults : K → ℕ) (i quiz : ℕ) (policy : Policy) (mid : List (part.Keeping K)) (s g : part.Keeping K) (all rows : List (ℕ × Option ℤ)) → slice_get mid i ≡ Some s → all ≡ all_rows (lists_of (held_of (take i mid))) quiz policy
    → PartLooks sound faults (part.TellsRows quiz policy) s g (Ok rows) → all ++ rows ≡ all_rows (lists_of (held_of (take (i + 1) (slice_set mid i g)))) quiz policy
told_more sound faults i quiz policy mid s g all rows is so_far call =
    let told = look_told (HasFailed (sound s.keeper) (faults s.keeper) (faults g.keeper)) (part.TellsRows quiz policy) s.held g.held rows call.call in
    let here = set_get mid i s g is in
    rows_more (slice_set mid i g) i quiz policy g all rows (slice_get_within (slice_set mid i g) i g here) (sym (get_or_from_slice_get (slice_set mid i g) i g g here)) (so_far ∙ ap (λ (l : List (part.Keeping _)). all_rows (lists_of (held_of l)) quiz policy) (sym (take-set mid i g))) (ok-is rows (rows_in quiz policy g.held.list) told.1)
  where
    ok-is : (x y : List (ℕ × Option ℤ)) → ◌≡◌ {A = Result (List (ℕ × Option ℤ)) Refusal} (Ok x) (Ok y) → x ≡ y
    ok-is x y e = cc

pub count_read : {K : Type 0} (sound : K → Type 0) (faults : K → ℕ) (i : ℕ) (old new : List (part.Keeping K)) → PartsRead sound faults i old new → length new ≡ length old
count_read sound faults i old new read = sym (count_held new) ∙ (sym (length_all_zip Mended (held_of old) (held_of new) read.mended.mends) ∙ count_held old)

pub rows_whole : {K : Type 0} (sound : K → Type 0) (faults : K → ℕ) (i quiz : ℕ) (policy : Policy) (old new : List (part.Keeping K)) (all : List (ℕ × Option ℤ)) → i ≡ length old → PartsRead sound faults i old new → all ≡ all_rows (lists_of (held_of (take i new))) quiz policy
    → RowsAre sound faults quiz policy old new all
rows_whole sound faults i quiz policy old new all end read rows =
    let long = count_read sound faults i old new read in
    record {
      read = subst (λ (n : ℕ). PartsRead sound faults n old new) end read;
      rows_are = rows ∙ ap (λ (l : List (part.Keeping _)). all_rows (lists_of (held_of l)) quiz policy) (take_all i new (omega (arith, long, end)));
    }

-- ---- a school whose shards were read

zip-at : (hs gs : List Held) (k : ℕ) (h g : Held) → AllZip Mended hs gs → slice_get hs k ≡ Some h → slice_get gs k ≡ Some g → Mended h g
zip-at [] gs k h g all one other = absurd cc
zip-at (x ∷ hs) [] k h g all one other = absurd all
zip-at (x ∷ hs) (y ∷ gs) zero h g all one other = let first : x ≡ h = cc in let second : y ≡ g = cc in subst (λ (z : Held). Mended z g) first (subst (λ (z : Held). Mended x z) second all.0)
zip-at (x ∷ hs) (y ∷ gs) (suc k) h g all one other = zip-at hs gs k h g all.1 one other

get-some : {A : Type 0} (xs : List A) (k : ℕ) → k < length xs → (x : A) × (slice_get xs k ≡ Some x)
get-some [] k inside = absurd (omega arith)
get-some (x ∷ xs) zero inside = (x, refl)
get-some (x ∷ xs) (suc k) inside = get-some xs k (let more : suc k < suc (length xs) = inside in omega arith)

pub read_solo : {K : Type 0} (c : records.Keeping K) (ss gs : List (part.Keeping K)) → IsSolo c ss → AllZip Mended (held_of ss) (held_of gs) → ((k : ℕ) (s g : part.Keeping K) → slice_get ss k ≡ Some s → slice_get gs k ≡ Some g → part.IsSamePart s g) → IsSolo c gs
read_solo c ss gs solo mends same =
    let long : length gs ≡ length ss = sym (count_held gs) ∙ (sym (length_all_zip Mended (held_of ss) (held_of gs) mends) ∙ count_held ss) in
    record {
      some = rw long solo.some;
      placed = record {
        each = λ k g there.
            let inside : k < length ss = subst (λ (n : ℕ). k < n) long (slice_get_within gs k g there) in
            let own = get-some ss k inside in
            let place = solo.placed.each k own.0 own.1 in
            let is = same k own.0 g own.1 there in
            (is.index ∙ place.0, is.count ∙ (place.1 ∙ sym long));
      };
      founded = solo.founded ∙ ap (λ (n : ℕ). Some n) (sym long);
      agree = record {
        each = λ k g there.
            let inside : k < length ss = subst (λ (n : ℕ). k < n) long (slice_get_within gs k g there) in
            let own = get-some ss k inside in
            stands_mended (AllAgree c.held.list) own.0.held g.held (zip-at (held_of ss) (held_of gs) k own.0.held g.held mends (held_there ss k own.0 own.1) (held_there gs k g there)) (solo.agree.each k own.0 own.1);
      };
    }

look-mends : {A : Type 0} (failed : Type 0) (Says : List Record → Result A Refusal → Type 0) (old new : Held) (told : Result A Refusal) → LookEnds failed (λ r. Err r) Says old new told → Mended old new
look-mends failed Says old new told (looked settled says) = settled.mends
look-mends failed Says old new told (unread why mends doubt is) = mends
look-mends failed Says old new told (unlooked mends is) = mends

untold-zip : {K : Type 0} (sound : K → Type 0) (faults : K → ℕ) (i quiz : ℕ) (policy : Policy) (old mid : List (part.Keeping K)) (s g : part.Keeping K) (r : Refusal) → PartsRead sound faults i old mid → slice_get mid i ≡ Some s → PartLooks sound faults (part.TellsRows quiz policy) s g (Err r) → AllZip Mended (held_of old) (held_of (slice_set mid i g))
untold-zip sound faults i quiz policy old mid s g r read is call =
    let failed = HasFailed (sound s.keeper) (faults s.keeper) (faults g.keeper) in
    subst (AllZip Mended (held_of old)) (sym (held_set mid i g))
    (one_zip i (held_of old) (held_of mid) s.held g.held read.mended (held_there mid i s is) (look-mends failed (part.TellsRows quiz policy) s.held g.held (Err r) (look_ends failed (λ r. Err r) (part.TellsRows quiz policy) s.held g.held (Err r) call.call)))

pub stopped_solo : {K : Type 0} (sound : K → Type 0) (faults : K → ℕ) (c : records.Keeping K) (quiz : ℕ) (policy : Policy) (ss gs : List (part.Keeping K)) (r : Refusal) → IsSolo c ss → RowsStop sound faults quiz policy ss gs r → IsSolo c gs
stopped_solo sound faults c quiz policy ss gs r solo (untold i mid s g read is call same) =
    subst (IsSolo c) (sym same) (read_solo c ss (slice_set mid i g) solo (untold-zip sound faults i quiz policy ss mid s g r read is call)
    (λ k o t at there. elim (get_set mid i k g t there) [
      | inl here ↦ subst (part.IsSamePart o) here.1 (both (read.same i o s (subst (λ (j : ℕ). slice_get ss j ≡ Some o) here.0 at) is) call.same)
      | inr other ↦ read.same k o t at other
    ]))
  where
    both : {K : Type 0} {a b c : part.Keeping K} → part.IsSamePart a b → part.IsSamePart b c → part.IsSamePart a c
    both one other = record { index = other.index ∙ one.index; count = other.count ∙ one.count }
stopped_solo sound faults c quiz policy ss gs r solo (short i read memory) = read_solo c ss gs solo read.mended.mends read.same

pub whole_solo : {K : Type 0} (sound : K → Type 0) (faults : K → ℕ) (c : records.Keeping K) (quiz : ℕ) (policy : Policy) (ss gs : List (part.Keeping K)) (rows : List (ℕ × Option ℤ)) → IsSolo c ss → RowsAre sound faults quiz policy ss gs rows → IsSolo c gs
whole_solo sound faults c quiz policy ss gs rows solo are = read_solo c ss gs solo are.read.mended.mends are.read.same

-- ---- a request for a report

-- a user who is known asks for it, and isn't refused
pub record Reports {K : Type 0} (c : records.Keeping K) (ss : List (part.Keeping K)) (ask : Ask) (now : ℕ) (user : User) (quiz : ℕ) : Type 0 where
  pub solo : IsSolo c ss
  pub may : MayBeAsked ask now
  pub known : let a : School K = record { catalog = c; parts = ss } in IsKnown (lists_in a) c.held ask user
  pub request_is : ask.request ≡ request.Report quiz
  pub allowed : forbidden user ask.request ≡ None
  pub there : missing_quiz c.held.list quiz ≡ None

reporting : {K : Type 0} (c : records.Keeping K) (ss : List (part.Keeping K)) (ask : Ask) (now : ℕ) (user : User) (quiz : ℕ) → Reports c ss ask now user quiz → let a : School K = record { catalog = c; parts = ss } in IsReporting (lists_in a) c.held ask user quiz
reporting c ss ask now user quiz w =
    let free : forbidden user (request.Report quiz) ≡ None = rw w.request_is at w.allowed in
    let found = w.there in
    record { askable = askable c ss ask now w.solo w.may; known = w.known; request_is = w.request_is; among = rw (w.request_is, free, found) refl }

pub report_served : {K : Type 0} (sound : K → Type 0) (faults : K → ℕ) (c : records.Keeping K) (ss gs : List (part.Keeping K)) (now : ℕ) (ask : Ask) (user : User) (quiz : ℕ) (policy : Policy) (rows : List (ℕ × Option ℤ)) (told : Reply) → Reports c ss ask now user quiz → RowsAre sound faults quiz policy ss gs rows
    → told ≡ report_answer c.held.list (lists_of (held_of gs)) quiz → IsServed sound faults (record { catalog = c; parts = ss }) (record { catalog = c; parts = gs }) now ask told
report_served sound faults c ss gs now ask user quiz policy rows told w are is =
    let a : School _ = record { catalog = c; parts = ss } in
    let b : School _ = record { catalog = c; parts = gs } in
    record {
      once = (reports_law (Fails sound faults a b)).told (lists_in a) c.held (held_of gs) now ask user quiz told (reporting c ss ask now user quiz w) (subst (λ (n : ℕ). MendedUpTo n (held_of ss) (held_of gs)) (sym (count_held ss)) are.read.mended) is;
      goes_on = are.read.goes_on c;
    }

-- memory was wanting behind some shards
pub report_wants : {K : Type 0} (sound : K → Type 0) (faults : K → ℕ) (c : records.Keeping K) (ss gs : List (part.Keeping K)) (i now : ℕ) (ask : Ask) (user : User) (quiz : ℕ) → Reports c ss ask now user quiz → PartsRead sound faults i ss gs
    → IsServed sound faults (record { catalog = c; parts = ss }) (record { catalog = c; parts = gs }) now ask (reply.Refused refusal.Memory)
report_wants sound faults c ss gs i now ask user quiz w read =
    let a : School _ = record { catalog = c; parts = ss } in
    let b : School _ = record { catalog = c; parts = gs } in
    record { once = (reports_law (Fails sound faults a b)).wanting (lists_in a) c.held (held_of gs) i now ask user quiz (reporting c ss ask now user quiz w) read.mended; goes_on = read.goes_on c }

pub report_stopped : {K : Type 0} (sound : K → Type 0) (faults : K → ℕ) (c : records.Keeping K) (ss gs : List (part.Keeping K)) (now : ℕ) (ask : Ask) (user : User) (quiz : ℕ) (policy : Policy) (r : Refusal) → Reports c ss ask now user quiz → RowsStop sound faults quiz policy ss gs r
    → IsServed sound faults (record { catalog = c; parts = ss }) (record { catalog = c; parts = gs }) now ask (reply.Refused r)
report_stopped sound faults c ss gs now ask user quiz policy r w (short i read memory) = rw memory (report_wants sound faults c ss gs i now ask user quiz w read)
report_stopped sound faults c ss gs now ask user quiz policy r w (untold i mid s g read is call same) =
    let a : School _ = record { catalog = c; parts = ss } in
    let m : School _ = record { catalog = c; parts = mid } in
    let b : School _ = record { catalog = c; parts = slice_set mid i g } in
    let failed = HasFailed (sound s.keeper) (faults s.keeper) (faults g.keeper) in
    let worse = Fails sound faults a b in
    let go = read.goes_on c in
    let says = Looks (part.TellsRows quiz policy) in
    let call_so = call_blames failed worse (λ r. Err r) says says s.held g.held (Err r) (λ why. fails_then sound faults a m b go (fails_part sound faults c mid i s g is why)) (λ h t l x. x) call.call in
    let once = (reports_law worse).rows (lists_in a) c.held s.held g.held (held_of mid) i now ask user quiz (rows_in quiz policy) (Err r) (reporting c ss ask now user quiz w) read.mended (held_there mid i s is) call_so in
    subst (λ (ps : List (part.Keeping _)). IsServed sound faults (record { catalog = c; parts = ss }) (record { catalog = c; parts = ps }) now ask (reply.Refused r)) (sym same) (record {
      once = subst (λ (l : Lists). AskedOnce worse (lists_in a) l now ask (reply.Refused r)) (ap (with_parts c.held) (sym (held_set mid i g))) once;
      goes_on = go_both sound faults a m b go (go_part sound faults c mid i s g is call.goes_on);
    })

pub missing_first : (c : List Record) (user : User) (ask : Ask) (quiz : ℕ) (r : Refusal) → ask.request ≡ request.Report quiz → forbidden user ask.request ≡ None → (r ≡ refusal.Memory) ⊎ (missing_quiz c quiz ≡ Some r) → (r ≡ refusal.Memory) ⊎ (first_refusal c user ask.request ≡ Some r)
missing_first c user ask quiz r is may (inl memory) = inl memory
missing_first c user ask quiz r is may (inr missing) =
    let free : forbidden user (request.Report quiz) ≡ None = rw is at may in
    inr (rw (is, free, missing) refl)

-- each list is legal for its shard
none-held : {K : Type 0} (ss : List (part.Keeping K)) (k : ℕ) → slice_get ss k ≡ None → slice_get (held_of ss) k ≡ None
none-held ss k is = slice_get-map (λ t. t.held) ss k ∙ rw is refl

list-at : (hs : List Held) (k : ℕ) (h : Held) → slice_get hs k ≡ Some h → slice_get (lists_of hs) k ≡ Some h.list
list-at hs k h is = slice_get-map (λ (x : Held). x.list) hs k ∙ rw is refl

list-none : (hs : List Held) (k : ℕ) → slice_get hs k ≡ None → slice_get (lists_of hs) k ≡ None
list-none hs k is = slice_get-map (λ (x : Held). x.list) hs k ∙ rw is refl

record IsOwn {K : Type 0} (ss : List (part.Keeping K)) (k : ℕ) (h : List Record) : Type 0 where
  own : part.Keeping K
  there : slice_get ss k ≡ Some own
  list_is : own.held.list ≡ h

own-by : {K : Type 0} (ss : List (part.Keeping K)) (k : ℕ) (h : List Record) (o : Option (part.Keeping K)) → slice_get ss k ≡ o → slice_get (lists_of (held_of ss)) k ≡ Some h → IsOwn ss k h
own-by ss k h None is at = let none : None ≡ Some h = sym (list-none (held_of ss) k (none-held ss k is)) ∙ at in absurd cc
own-by ss k h (Some s) is at =
    let some : Some s.held.list ≡ Some h = sym (list-at (held_of ss) k s.held (held_there ss k s is)) ∙ at in
    record { own = s; there = is; list_is = cc }

pub each_legal : {K : Type 0} (sound : K → Type 0) (faults : K → ℕ) (c : records.Keeping K) (quiz : ℕ) (policy : Policy) (ss gs : List (part.Keeping K)) (rows : List (ℕ × Option ℤ)) → IsSolo c gs → RowsAre sound faults quiz policy ss gs rows → EachLegal (lists_of (held_of gs))
each_legal sound faults c quiz policy ss gs rows solo are = record {
  legal = λ k h at.
      let own = own-by gs k h (slice_get gs k) refl at in
      let s = own.own in
      let there = own.there in
      let place = solo.placed.each k s there in
      let long : length (lists_of (held_of gs)) ≡ length gs = length-map (held_of gs) (λ (x : Held). x.list) ∙ count_held gs in
      let inside : k < length ss = subst (λ (n : ℕ). k < n) (count_read sound faults (length ss) ss gs are.read) (slice_get_within gs k s there) in
      let legal = are.read.legal k s inside there in
      subst (IsLegal k (length (lists_of (held_of gs)))) own.list_is
      (subst (λ (i : ℕ). IsLegal i (length (lists_of (held_of gs))) s.held.list) place.0 (subst (λ (n : ℕ). IsLegal s.index n s.held.list) (place.1 ∙ sym long) legal));
}
