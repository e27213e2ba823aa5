-- What a turn comes to over the lists that its request found: these without their records in doubt.
use Rattle.std.proofs.Common.{◌≡◌, ℕ, zero, suc, Bool, true, false, List, [], ◌∷◌, ◌++◌, Option, Some, None, length, map, option_map, refl, sym, ap, ◌∙◌, subst, arith, length-append}
use Rattle.std.specs.List.{AllZip}
use Rattle.std.specs.Prelude.{if◌then◌else◌, slice_get, slice_set, unwrap_or}
use Rattle.std.proofs.lemmas.List.Elements.{length_all_zip}
use Rattle.qz_catalog_turns.specs.declared.replied.OwnRecord.{OwnRecord}
use Rattle.qz_catalog_turns.specs.declared.replied.OwnRecord.TheVariants as own
use Rattle.qz_catalog_turns.specs.Owning.{Leaves, absent, in_doubt, stands}
use Rattle.qz_grading.specs.declared.refusal.Refusal.TheVariants as refusal
use Rattle.qz_terms.specs.declared.ask.Ask.{Ask}
use Rattle.qz_terms.specs.declared.record.Record.{Record}
use Rattle.qz_terms.specs.declared.reply.Reply.{Reply}
use Rattle.qz_terms.specs.declared.reply.Reply.TheVariants as reply
use Rattle.qz_terms.specs.Laws.{tells_of_outside}
use Rattle.qz_terms.specs.SchoolAnswer.{catalog_list, shard_list}
use Rattle.qz_terms.specs.Serial.{AllMended, Asks, Held, Lists, Mended, Turn, adopted, answered, doubt_over, doubted, doubted_parts, dropped, held_in, lists_of, lists_over, no_memory, part_list, part_read, parts_over, put_in_doubt, reads_catalog, reply_over, stayed_in_doubt, stays, with_list}
use Rattle.qz_terms.proofs.Owning.{owning_law}
use Rattle.qz_serial.proofs.Composing.{mended_same}
use Rattle.qz_serial.proofs.Growing.{Grows}
use Rattle.qz_serial.proofs.Seats.{ListsGrow, all_stay}
use Rattle.qz_serial.proofs.Staying.{asks_grow}
use Rattle.qz_gather.specs.Notes.{Puts}
use Rattle.qz_gather.proofs.Clearing.{clear, cleared, held_cleared, nothing, over_cleared, reply_cleared}

-- ---- one list of a school

-- of a shard's lists, the one at this place
abbrev pub held_at : List Held → ℕ → Held
held_at ps k = unwrap_or (slice_get ps k) nothing

mended-at : (ps qs : List Held) → AllZip Mended ps qs → (k : ℕ) → Mended (held_at ps k) (held_at qs k)
mended-at [] [] all k = stays nothing
mended-at [] (q ∷ qs) all k = absurd all
mended-at (p ∷ ps) [] all k = absurd all
mended-at (p ∷ ps) (q ∷ qs) all zero = all.0
mended-at (p ∷ ps) (q ∷ qs) all (suc k) = mended-at ps qs all.1 k

pub mended_in : (a b : Lists) → AllMended a b → (list : Option ℕ) → Mended (held_in a list) (held_in b list)
mended_in a b m None = m.records
mended_in a b m (Some k) = mended-at a.parts b.parts m.parts k

held-list : (o : Option Held) → unwrap_or (option_map (λ (h : Held). h.list) o) [] ≡ (unwrap_or o nothing).list
held-list None = refl
held-list (Some h) = refl

grows-in : (a b : Lists) → ListsGrow a b → (list : Option ℕ) → Grows (held_in a list).list (held_in b list).list
grows-in a b g None = g.records
grows-in a b g (Some k) =
    subst (λ (l : List Record). Grows l (held_at b.parts k).list) (held-list (slice_get a.parts k)) (subst (λ (l : List Record). Grows (part_list a k) l) (held-list (slice_get b.parts k)) (g.each k))

turn-grows : (m s : Lists) (now : ℕ) (ask : Ask) (told : Reply) → Turn m s now ask told → ListsGrow m s
turn-grows m s now ask told turn =
    asks_grow m s now ask told (record { mended = m; mends = record { records = stays m.records; parts = all_stay m.parts }; keeps = record { records = λ unread. refl; parts = λ k unread. refl }; turn = turn })

-- ---- the same lists

no-longer : (l : List Record) (r : Record) → l ≡ l ++ r ∷ [] → ⊥
no-longer l r e = let more = length-append l (r ∷ []) in let same = ap length e in absurd (omega arith)

none-some : (r : Record) → Some r ≡ None → ⊥
none-some r e = cc

-- Whatever became of its own record, the list was no longer once it was mended.
list-same : (f m s : Held) (o : OwnRecord) → Mended f m → Leaves f s o → Grows m.list s.list → m.list ≡ f.list
list-same _ _ s o (stays k) leaves grows = refl
list-same _ _ s o (dropped l x) leaves grows = refl
list-same _ _ s o (adopted l x) leaves grows = by (record { list = l; doubt = Some x }) s o refl leaves grows
  where
    by : (f s : Held) (o : OwnRecord) → f ≡ record { list = l; doubt = Some x } → Leaves f s o → Grows (l ++ x ∷ []) s.list → l ++ x ∷ [] ≡ l
    by _ _ _ is (absent h) g =
        let list : h.list ≡ l = ap (λ (k : Held). k.list) is in
        let more = length-append l (x ∷ []) in
        let rest = length-append (l ++ x ∷ []) g.rest in
        let whole = ap length (sym list ∙ g.grown) in
        absurd (omega arith)
    by _ _ _ is (stands k r) g = absurd (none-some x (sym (ap (λ (k : Held). k.doubt) is)))
    by _ _ _ is (in_doubt k r) g = absurd (none-some x (sym (ap (λ (k : Held). k.doubt) is)))

clear-same : (ps qs : List Held) → length ps ≡ length qs → ((k : ℕ) → (held_at ps k).list ≡ (held_at qs k).list) → map clear ps ≡ map clear qs
clear-same [] [] count each = refl
clear-same [] (q ∷ qs) count each = absurd (omega (arith, count))
clear-same (p ∷ ps) [] count each = absurd (omega (arith, count))
clear-same (p ∷ ps) (q ∷ qs) count each = λ i. with_list (each zero i) ∷ clear-same ps qs (omega (arith, count)) (λ k. each (suc k)) i

-- What a request found, f, mended, m, and what is seen, s: and what became of its own record in each list.
pub record IsTurned (f m s : Lists) (now : ℕ) (ask : Ask) (told : Reply) (own : Option ℕ → OwnRecord) : Type 0 where
  pub mends : AllMended f m
  pub turn : Turn m s now ask told
  pub leaves : (list : Option ℕ) → Leaves (held_in f list) (held_in s list) (own list)

module _ (f m s : Lists) (now : ℕ) (ask : Ask) (told : Reply) (own : Option ℕ → OwnRecord) (t : IsTurned f m s now ask told own) where
  list-in : (list : Option ℕ) → (held_in m list).list ≡ (held_in f list).list
  list-in list = list-same (held_in f list) (held_in m list) (held_in s list) (own list) (mended_in f m t.mends list) (t.leaves list) (grows-in m s (turn-grows m s now ask told t.turn) list)

  -- the mended lists are those that were found, but for what was in doubt
  pub same_cleared : cleared m ≡ cleared f
  same_cleared =
      let parts : map clear m.parts ≡ map clear f.parts = clear-same m.parts f.parts (sym (length_all_zip Mended f.parts m.parts t.mends.parts)) (λ k. list-in (Some k)) in
      λ i. record { records = with_list (list-in None i); parts = parts i }

-- ---- what a turn leaves

list-of : (m f : Lists) → cleared m ≡ cleared f → (list : Option ℕ) → (held_in m list).list ≡ (held_in f list).list
list-of m f same list =
    ap (λ (h : Held). h.list) (sym (held_cleared m list)) ∙ ap (λ (a : Lists). (held_in a list).list) same ∙ ap (λ (h : Held). h.list) (held_cleared f list)

list-clear : (f : Lists) (list : Option ℕ) → (held_in (cleared f) list).list ≡ (held_in f list).list
list-clear f list = ap (λ (h : Held). h.list) (held_cleared f list)

-- a record that is in doubt isn't in the list
doubt-records : (b : Bool) (h : Held) (new : List Record) → (let k : Held = if b then doubted h.list new else h in k).list ≡ h.list
doubt-records true h new = refl
doubt-records false h new = refl

set-list : (ps : List Held) (k : ℕ) (h : Held) → h.list ≡ unwrap_or (option_map (λ (h : Held). h.list) (slice_get ps k)) [] → (j : ℕ) → (held_at (slice_set ps k h) j).list ≡ (held_at ps j).list
set-list [] k h is j = refl
set-list (p ∷ ps) zero h is zero = is
set-list (p ∷ ps) zero h is (suc j) = refl
set-list (p ∷ ps) (suc k) h is zero = refl
set-list (p ∷ ps) (suc k) h is (suc j) = set-list ps k h is j

doubt-parts : (m : Lists) (now : ℕ) (ask : Ask) (o : Option ℕ) (j : ℕ) → (held_at (doubted_parts m now ask o) j).list ≡ (held_at m.parts j).list
doubt-parts m now ask None j = refl
doubt-parts m now ask (Some k) j = set-list m.parts k (doubted (part_list m k) (shard_list m.records.list (part_list m k) now ask)) refl j

doubt-lists : (m : Lists) (now : ℕ) (ask : Ask) (list : Option ℕ) → (held_in (doubt_over m now ask) list).list ≡ (held_in m list).list
doubt-lists m now ask None = doubt-records (reads_catalog m ask) m.records (catalog_list m.records.list now ask)
doubt-lists m now ask (Some k) = doubt-parts m now ask (part_read m ask) k

-- of what is answered none is in doubt
none-records : (b : Bool) (h : Held) (l : List Record) → h.doubt ≡ None → (let k : Held = if b then with_list l else h in k).doubt ≡ None
none-records true h l none = refl
none-records false h l none = none

set-none : (ps : List Held) (k : ℕ) (l : List Record) (j : ℕ) → (held_at ps j).doubt ≡ None → (held_at (slice_set ps k (with_list l)) j).doubt ≡ None
set-none [] k l j none = none
set-none (p ∷ ps) zero l zero none = refl
set-none (p ∷ ps) zero l (suc j) none = none
set-none (p ∷ ps) (suc k) l zero none = none
set-none (p ∷ ps) (suc k) l (suc j) none = set-none ps k l j none

none-parts : (m : Lists) (now : ℕ) (ask : Ask) (o : Option ℕ) (j : ℕ) → (held_at m.parts j).doubt ≡ None → (held_at (parts_over m now ask o) j).doubt ≡ None
none-parts m now ask None j none = none
none-parts m now ask (Some k) j none = set-none m.parts k (shard_list m.records.list (part_list m k) now ask) j none

none-over : (m : Lists) (now : ℕ) (ask : Ask) (list : Option ℕ) → (held_in m list).doubt ≡ None → (held_in (lists_over m now ask) list).doubt ≡ None
none-over m now ask None none = none-records (reads_catalog m ask) m.records (catalog_list m.records.list now ask) none
none-over m now ask (Some k) none = none-parts m now ask (part_read m ask) k none

-- ---- what is said

not-both : (b : Bool) → b ≡ true → b ≡ false → ⊥
not-both b one other = cc

-- a reply that tells of nothing outside is the answer over the lists found
pub answer_by : (f m s : Lists) (now : ℕ) (ask : Ask) (told : Reply) → Turn m s now ask told → cleared m ≡ cleared f → tells_of_outside told ≡ false → told ≡ reply_over (cleared f) now ask
answer_by f m s now ask told (answered l n x settled) same within = sym (reply_cleared l n x) ∙ ap (λ (a : Lists). reply_over a n x) same
answer_by f m s now ask told (put_in_doubt l n x settled puts) same within = absurd cc
answer_by f m s now ask told (stayed_in_doubt l n x doubt) same within = absurd cc
answer_by f m s now ask told (no_memory l n x) same within = absurd cc

-- what the answer leaves of a list over those found
over-list : (f l : Lists) (n : ℕ) (x : Ask) → Rattle.qz_terms.specs.Serial.is_settled l x ≡ true → cleared l ≡ cleared f → (list : Option ℕ) → (held_in (lists_over (cleared f) n x) list).list ≡ (held_in (lists_over l n x) list).list
over-list f l n x settled same list =
    ap (λ (a : Lists). (held_in (lists_over a n x) list).list) (sym same) ∙ ap (λ (a : Lists). (held_in a list).list) (over_cleared l n x settled) ∙ list-clear (lists_over l n x) list

-- where a list grew by a record, that is the answer's
pub record IsPut (f : Lists) (now : ℕ) (ask : Ask) (told : Reply) (list : Option ℕ) (r : Record) : Type 0 where
  pub puts : Puts (cleared f) now ask list r
  pub told_is : told ≡ reply_over (cleared f) now ask

pub put_by : (f m s : Lists) (now : ℕ) (ask : Ask) (told : Reply) → Turn m s now ask told → cleared m ≡ cleared f → (list : Option ℕ) (r : Record) → (held_in s list).list ≡ (held_in f list).list ++ r ∷ [] → IsPut f now ask told list r
put_by f m s now ask told (answered l n x settled) same list r grown = record {
  puts = record { longer = over-list f l n x settled same list ∙ grown ∙ ap (λ (g : List Record). g ++ r ∷ []) (sym (list-clear f list)) };
  told_is = sym (reply_cleared l n x) ∙ ap (λ (a : Lists). reply_over a n x) same;
}
put_by f m s now ask told (put_in_doubt l n x settled puts) same list r grown = absurd (no-longer (held_in f list).list r (sym (doubt-lists l n x list ∙ list-of l f same list) ∙ grown))
put_by f m s now ask told (stayed_in_doubt l n x doubt) same list r grown = absurd (no-longer (held_in f list).list r (sym (list-of l f same list) ∙ grown))
put_by f m s now ask told (no_memory l n x) same list r grown = absurd (no-longer (held_in f list).list r (sym (list-of l f same list) ∙ grown))

-- no answer tells of outside
own-answer : (f : Lists) (now : ℕ) (ask : Ask) (told : Reply) → told ≡ reply_over (cleared f) now ask → tells_of_outside told ≡ true → ⊥
own-answer f now ask told is outside = not-both (tells_of_outside told) outside (ap tells_of_outside is ∙ owning_law.own f.records.list (lists_of (cleared f).parts) now ask)

-- where the answer is said and puts a record, its list grew by it
pub grown_by : (f m s : Lists) (now : ℕ) (ask : Ask) (told : Reply) → Turn m s now ask told → cleared m ≡ cleared f → told ≡ reply_over (cleared f) now ask → (list : Option ℕ) (r : Record) → Puts (cleared f) now ask list r → (held_in s list).list ≡ (held_in f list).list ++ r ∷ []
grown_by f m s now ask told (answered l n x settled) same is list r p = sym (over-list f l n x settled same list) ∙ p.longer ∙ ap (λ (g : List Record). g ++ r ∷ []) (list-clear f list)
grown_by f m s now ask told (put_in_doubt l n x settled puts) same is list r p = absurd (own-answer f n x (reply.Refused refusal.KeepFault) is refl)
grown_by f m s now ask told (stayed_in_doubt l n x doubt) same is list r p = absurd (own-answer f n x (reply.Refused refusal.KeepFault) is refl)
grown_by f m s now ask told (no_memory l n x) same is list r p = absurd (own-answer f n x (reply.Refused refusal.Memory) is refl)

-- ---- what became of its own record

-- a list that grew by a record has the request's own
pub stands_by : (f s : Held) (o : OwnRecord) (r : Record) → Leaves f s o → s.list ≡ f.list ++ r ∷ [] → o ≡ own.Stands
stands_by _ _ _ r (absent h) grown = absurd (no-longer h.list r grown)
stands_by _ _ _ r (stands l x) grown = refl
stands_by _ _ _ r (in_doubt l x) grown = absurd (no-longer l r grown)

-- it stands behind those found
pub stood_by : (f s : Held) (o : OwnRecord) → Leaves f s o → o ≡ own.Stands → (r : Record) × (s.list ≡ f.list ++ r ∷ [])
stood_by _ _ _ (absent h) is = absurd cc
stood_by _ _ _ (stands l r) is = (r, refl)
stood_by _ _ _ (in_doubt l r) is = absurd cc

-- it is in doubt behind them
pub record IsLeftInDoubt (f s : Held) : Type 0 where
  pub record_is : Record
  pub before : f.doubt ≡ None
  pub after : s.doubt ≡ Some record_is

pub doubted_by : (f s : Held) (o : OwnRecord) → Leaves f s o → o ≡ own.InDoubt → IsLeftInDoubt f s
doubted_by _ _ _ (absent h) is = absurd cc
doubted_by _ _ _ (stands l r) is = absurd cc
doubted_by _ _ _ (in_doubt l r) is = record { record_is = r; before = refl; after = refl }

-- then a keeper is said to have failed
pub fault_by : (f m s : Lists) (now : ℕ) (ask : Ask) (told : Reply) → Turn m s now ask told → AllMended f m → (list : Option ℕ) → IsLeftInDoubt (held_in f list) (held_in s list) → told ≡ reply.Refused refusal.KeepFault
fault_by f m s now ask told (answered l n x settled) mends list d =
    let was = mended_same (held_in f list) (held_in l list) (mended_in f l mends list) d.before in
    let none = none-over l n x list (ap (λ (h : Held). h.doubt) was ∙ d.before) in
    absurd (none-some d.record_is (sym d.after ∙ none))
fault_by f m s now ask told (put_in_doubt l n x settled puts) mends list d = refl
fault_by f m s now ask told (stayed_in_doubt l n x doubt) mends list d = refl
fault_by f m s now ask told (no_memory l n x) mends list d =
    let was = mended_same (held_in f list) (held_in l list) (mended_in f l mends list) d.before in
    absurd (none-some d.record_is (sym d.after ∙ (ap (λ (h : Held). h.doubt) was ∙ d.before)))
