-- The note of a request is true of what its passes see then.
use mathlib.Core.List.{IsPrefix}
use Rattle.std.proofs.Common.{◌≡◌, ℕ, zero, suc, ◌≤◌, Bool, true, false, not, List, [], ◌∷◌, ◌++◌, Option, Some, None, length, map, option_map, take, refl, sym, ap, ◌∙◌, subst, arith, eq-eqb}
use Rattle.std.specs.List.{AllZip, zip}
use Rattle.std.specs.Prelude.{◌&&◌, IfSome, nat_lt, slice_get, unwrap_or}
use Rattle.std.proofs.Math.Seq.{take-append_seam}
use Rattle.std.proofs.lemmas.Bool.{eqb-true, le-ltb, lt-ltb, ltb-false, ltb-true}
use Rattle.std.proofs.lemmas.Option.{slice_get-map, slice_get_past}
use Rattle.qz_catalog_turns.specs.declared.replied.OwnRecord.{OwnRecord}
use Rattle.qz_catalog_turns.specs.declared.replied.OwnRecord.TheVariants as own
use Rattle.qz_catalog_turns.specs.Owning.{Leaves, absent}
use Rattle.qz_catalog_turns.specs.Turning.{held_of}
use Rattle.qz_grading.specs.declared.refusal.Refusal.TheVariants as refusal
use Rattle.qz_terms.specs.declared.record.Record.{Record}
use Rattle.qz_terms.specs.declared.reply.Reply.{Reply}
use Rattle.qz_terms.specs.declared.reply.Reply.TheVariants as reply
use Rattle.qz_terms.specs.Laws.{tells_of_outside}
use Rattle.qz_terms.specs.Serial.{Asks, Held, Lists, held_in, is_catalog, is_part, reply_over, with_list}
use Rattle.qz_turn.specs.declared.view.Tale.{Tale}
use Rattle.qz_turn.specs.Tales.{Follows}
use Rattle.qz_turn.proofs.Prefixes.{prefix_length, prefix_self}
use Rattle.qz_serial.proofs.Seats.{within_there}
use Rattle.qz_visit.specs.declared.last.Last.{Last}
use Rattle.qz_visit.specs.Seeing.{FollowAll, FollowEach, more, none}
use Rattle.qz_visit.specs.Visits.{AreCounted, Owns, Tellings, lists_told, own_if, own_kept}
use Rattle.qz_gather.specs.declared.note.Note.{Note}
use Rattle.qz_gather.specs.Notes.{IsNoted, IsTrueOf, Puts, PutsNext, copied, front, is_there, left_out, lists_noted}
use Rattle.qz_gather.proofs.Clearing.{clear, cleared, held_cleared, nothing}
use Rattle.qz_gather.proofs.Turning.{IsTurned, answer_by, doubted_by, fault_by, grown_by, held_at, put_by, same_cleared, stands_by, stood_by}

-- ---- what the note counts

some-is : {A : Type 0} (x y : A) → Some x ≡ Some y → x ≡ y
some-is x y is = cc

front-found : (n : ℕ) (f s : Tale Record) → n ≡ length f.list → Follows f s → front (n, s) ≡ clear (held_of f)
front-found n f s is on =
    ap with_list (ap (λ (m : ℕ). take m s.list) is ∙ ap (take (length f.list)) (sym on.begins.1) ∙ take-append_seam f.list on.begins.0)

counts-within : (n : ℕ) (f s : Tale Record) → n ≡ length f.list → Follows f s → n ≤ length s.list
counts-within n f s is on = let longer = prefix_length f.list s.list on.begins in omega arith

fronts-found : (ns : List ℕ) (fs ss : List (Tale Record)) → FollowEach fs ss → length ns ≡ length fs → ((k : ℕ) (f : Tale Record) → slice_get fs k ≡ Some f → slice_get ns k ≡ Some (length f.list)) → map front (zip ns ss) ≡ map clear (map held_of fs)
fronts-found [] _ _ none count each = refl
fronts-found [] _ _ (more f s fs ss one rest) count each = absurd (omega (arith, count))
fronts-found (n ∷ ns) _ _ none count each = absurd (omega (arith, count))
fronts-found (n ∷ ns) _ _ (more f s fs ss one rest) count each =
    let is : n ≡ length f.list = some-is n (length f.list) (each zero f refl) in
    λ i. front-found n f s is one i ∷ fronts-found ns fs ss rest (omega (arith, count)) (λ k t at. each (suc k) t at) i

all-within : (ns : List ℕ) (fs ss : List (Tale Record)) → FollowEach fs ss → length ns ≡ length fs → ((k : ℕ) (f : Tale Record) → slice_get fs k ≡ Some f → slice_get ns k ≡ Some (length f.list)) → AllZip (λ count s. count ≤ length s.list) ns ss
all-within [] _ _ none count each = tt
all-within [] _ _ (more f s fs ss one rest) count each = absurd (omega (arith, count))
all-within (n ∷ ns) _ _ none count each = absurd (omega (arith, count))
all-within (n ∷ ns) _ _ (more f s fs ss one rest) count each =
    (counts-within n f s (some-is n (length f.list) (each zero f refl)) one, all-within ns fs ss rest (omega (arith, count)) (λ k t at. each (suc k) t at))

follow-count : (fs ss : List (Tale Record)) → FollowEach fs ss → length fs ≡ length ss
follow-count _ _ none = refl
follow-count _ _ (more f s fs ss one rest) = ap suc (follow-count fs ss rest)

-- ---- what became of the own record

-- whether this is the list of that number
abbrev names : Option ℕ → Option ℕ → Bool
names None part = is_catalog part
names (Some k) part = is_part k part

names-self : (list : Option ℕ) → names list list ≡ true
names-self None = refl
names-self (Some k) = eq-eqb k k refl

named-is : (list part : Option ℕ) → names list part ≡ true → part ≡ list
named-is None None is = refl
named-is None (Some j) is = absurd cc
named-is (Some k) None is = absurd cc
named-is (Some k) (Some j) is = ap (λ (n : ℕ). Some n) (eqb-true j k is)

-- with the note's own words
abbrev noted_own : Bool → Bool → Bool → OwnRecord
noted_own there put doubt = own_kept (there && put) (there && (not put && doubt))

own-same : (b there put doubt : Bool) → (b ≡ true → there ≡ true) → own_if b (own_kept put doubt) ≡ own_if b (noted_own there put doubt)
own-same false there put doubt is = refl
own-same true false put doubt is = let no : false ≡ true = is refl in absurd cc
own-same true true true doubt is = refl
own-same true true false true is = refl
own-same true true false false is = refl

own-none : (b there put doubt : Bool) → (b ≡ true → there ≡ false) → own_if b (noted_own there put doubt) ≡ own.Absent
own-none false there put doubt is = refl
own-none true true put doubt is = let no : true ≡ false = is refl in absurd cc
own-none true false put doubt is = refl

not-put : (there put doubt : Bool) → (there && (not put && doubt)) ≡ true → (there && put) ≡ false
not-put false put doubt is = refl
not-put true true doubt is = absurd cc
not-put true false doubt is = refl

if-inv : (b : Bool) (o : OwnRecord) → own_if b o ≡ own.Stands → (b ≡ true) × (o ≡ own.Stands)
if-inv true o is = (refl, is)
if-inv false o is = absurd cc

kept-put : (put doubt : Bool) → own_kept put doubt ≡ own.Stands → put ≡ true
kept-put true doubt is = refl
kept-put false true is = absurd cc
kept-put false false is = absurd cc

-- ---- the reply

if-noted : (P : Reply → Type 0) (told : Reply) (o : Option Reply) → IsNoted told o → P told → IfSome o P
if-noted P told _ copied is = is
if-noted P told _ (left_out place d said) is = tt

noted-is : (told t : Reply) (o : Option Reply) → IsNoted told o → o ≡ Some t → t ≡ told
noted-is told t _ copied is = cc
noted-is told t _ (left_out place d said) is = absurd cc

fault-noted : (told : Reply) (o : Option Reply) → IsNoted told o → told ≡ reply.Refused refusal.KeepFault → o ≡ Some (reply.Refused refusal.KeepFault)
fault-noted told _ copied is = ap (λ (r : Reply). Some r) is
fault-noted told _ (left_out place d said) is = let no : reply.Ok place d ≡ reply.Refused refusal.KeepFault = sym said ∙ is in absurd cc

-- ---- one list

at-part : (ts : List (Tale Record)) (k : ℕ) (t : Tale Record) → slice_get ts k ≡ Some t → held_at (map held_of ts) k ≡ held_of t
at-part ts k t at = ap (λ (o : Option Held). unwrap_or o nothing) (slice_get-map held_of ts k ∙ ap (option_map held_of) at)

past-part : (ts : List (Tale Record)) (k : ℕ) → slice_get ts k ≡ None → held_at (map held_of ts) k ≡ nothing
past-part ts k at = ap (λ (o : Option Held). unwrap_or o nothing) (slice_get-map held_of ts k ∙ ap (option_map held_of) at)

module _ (found seen : Tellings) (last : Last) (n : Note) (grows : FollowAll found seen) (owns : Owns found seen last.list (own_kept last.put last.doubt)) (counts : AreCounted found.parts last.parts) (list_is : n.list ≡ last.list) (put_is : n.put ≡ (is_there last && last.put)) (doubt_is : n.doubt ≡ (is_there last && (not last.put && last.doubt))) where
  abbrev own-at : Option ℕ → OwnRecord
  own-at list = own_if (names list n.list) (own_kept n.put n.doubt)

  there-at : (k : ℕ) → last.list ≡ Some k → is_there last ≡ nat_lt k (length last.parts)
  there-at k is = ap (λ (o : Option ℕ). unwrap_or (option_map (λ shard. nat_lt shard (length last.parts)) o) true) is

  there-none : last.list ≡ None → is_there last ≡ true
  there-none is = ap (λ (o : Option ℕ). unwrap_or (option_map (λ shard. nat_lt shard (length last.parts)) o) true) is

  noted-own : (list : Option ℕ) → own_if (names list last.list) (noted_own (is_there last) last.put last.doubt) ≡ own-at list
  noted-own list = λ i. own_if (names list (sym list_is i)) (own_kept (sym put_is i) (sym doubt_is i))

  own-there : (list : Option ℕ) → (names list last.list ≡ true → is_there last ≡ true) → own_if (names list last.list) (own_kept last.put last.doubt) ≡ own-at list
  own-there list there = own-same (names list last.list) (is_there last) last.put last.doubt there ∙ noted-own list

  own-past : (list : Option ℕ) → (names list last.list ≡ true → is_there last ≡ false) → own-at list ≡ own.Absent
  own-past list past = sym (noted-own list) ∙ own-none (names list last.list) (is_there last) last.put last.doubt past

  leaves-part : (k : ℕ) (b : Bool) → nat_lt k (length found.parts) ≡ b → Leaves (held_at (map held_of found.parts) k) (held_at (map held_of seen.parts) k) (own-at (Some k))
  leaves-part k true inside =
      let below = ltb-true k (length found.parts) inside in
      let many = counts.many in
      let long = follow-count found.parts seen.parts grows.parts in
      let f = within_there found.parts k below in
      let s = within_there seen.parts k (omega arith) in
      let is : own_if (is_part k last.list) (own_kept last.put last.doubt) ≡ own-at (Some k) = own-there (Some k) (λ named. there-at k (named-is (Some k) last.list named) ∙ lt-ltb k (length last.parts) (omega arith)) in
      subst (λ (h : Held). Leaves h (held_at (map held_of seen.parts) k) (own-at (Some k))) (sym (at-part found.parts k f.0 f.1))
      (subst (λ (h : Held). Leaves (held_of f.0) h (own-at (Some k))) (sym (at-part seen.parts k s.0 s.1))
      (subst (λ (o : OwnRecord). Leaves (held_of f.0) (held_of s.0) o) is (owns.parts k f.0 s.0 f.1 s.1)))
  leaves-part k false outside =
      let past = ltb-false k (length found.parts) outside in
      let many = counts.many in
      let long = follow-count found.parts seen.parts grows.parts in
      let is = own-past (Some k) (λ named. there-at k (named-is (Some k) last.list named) ∙ le-ltb k (length last.parts) (omega arith)) in
      subst (λ (h : Held). Leaves h (held_at (map held_of seen.parts) k) (own-at (Some k))) (sym (past-part found.parts k (slice_get_past found.parts k past)))
      (subst (λ (h : Held). Leaves nothing h (own-at (Some k))) (sym (past-part seen.parts k (slice_get_past seen.parts k (omega arith))))
      (subst (λ (o : OwnRecord). Leaves nothing nothing o) (sym is) (absent nothing)))

  leaves-in : (list : Option ℕ) → Leaves (held_in (lists_told found) list) (held_in (lists_told seen) list) (own-at list)
  leaves-in None = subst (λ (o : OwnRecord). Leaves (held_of found.records) (held_of seen.records) o) (own-there None (λ named. there-none (named-is None last.list named))) owns.records
  leaves-in (Some k) = leaves-part k (nat_lt k (length found.parts)) refl

  -- ---- the note

  module _ (told : Reply) (asks : Asks (lists_told found) (lists_told seen) n.moment n.ask told) (is_noted : IsNoted told n.reply) (catalog : n.catalog ≡ length found.records.list) (parts : AreCounted found.parts n.parts) where
    abbrev f : Lists
    f = lists_told found

    abbrev s : Lists
    s = lists_told seen

    turned : IsTurned f asks.mended s n.moment n.ask told own-at
    turned = record { mends = asks.mends; turn = asks.turn; leaves = leaves-in }

    same : cleared asks.mended ≡ cleared f
    same = same_cleared f asks.mended s n.moment n.ask told own-at turned

    lists-are : lists_noted seen n ≡ cleared f
    lists-are = λ i. record { records = front-found n.catalog found.records seen.records catalog grows.records i; parts = fronts-found n.parts found.parts seen.parts grows.parts parts.many parts.each i }

    answer-is : reply_over (cleared f) n.moment n.ask ≡ reply_over (lists_noted seen n) n.moment n.ask
    answer-is = ap (λ (a : Lists). reply_over a n.moment n.ask) (sym lists-are)

    put-own : n.put ≡ true → own-at n.list ≡ own.Stands
    put-own so = ap (λ (b : Bool). own_if b (own_kept n.put n.doubt)) (names-self n.list) ∙ ap (λ (b : Bool). own_kept b n.doubt) so

    doubt-own : n.doubt ≡ true → own-at n.list ≡ own.InDoubt
    doubt-own so =
        let never : n.put ≡ false = put_is ∙ not-put (is_there last) last.put last.doubt (sym doubt_is ∙ so) in
        ap (λ (b : Bool). own_if b (own_kept n.put n.doubt)) (names-self n.list) ∙ ap (λ (b : Bool). own_kept b n.doubt) never ∙ ap (λ (b : Bool). own_kept false b) so

    grown : n.put ≡ true → (r : Record) × ((held_in s n.list).list ≡ (held_in f n.list).list ++ r ∷ [])
    grown so = stood_by (held_in f n.list) (held_in s n.list) (own-at n.list) (leaves-in n.list) (put-own so)

    puts-next : n.put ≡ true → PutsNext seen n
    puts-next so =
        let g = grown so in
        let p = put_by f asks.mended s n.moment n.ask told asks.turn same n.list g.0 g.1 in
        let list : (held_in (lists_noted seen n) n.list).list ≡ (held_in f n.list).list = ap (λ (a : Lists). (held_in a n.list).list) lists-are ∙ ap (λ (h : Held). h.list) (held_cleared f n.list) in
        record {
          own = g.0;
          puts = subst (λ (a : Lists). Puts a n.moment n.ask n.list g.0) (sym lists-are) p.puts;
          next = subst (λ (l : List Record). IsPrefix (l ++ g.0 ∷ []) (held_in s n.list).list) (sym list) (subst (λ (l : List Record). IsPrefix l (held_in s n.list).list) g.1 (prefix_self (held_in s n.list).list));
        }

    told-is : n.put ≡ true → told ≡ reply_over (lists_noted seen n) n.moment n.ask
    told-is so = let g = grown so in let p = put_by f asks.mended s n.moment n.ask told asks.turn same n.list g.0 g.1 in p.told_is ∙ answer-is

    every-put : (t : Reply) (list : Option ℕ) (r : Record) → n.reply ≡ Some t → t ≡ reply_over (lists_noted seen n) n.moment n.ask → Puts (lists_noted seen n) n.moment n.ask list r → (n.put ≡ true) × (n.list ≡ list)
    every-put t list r stands answer p =
        let said : told ≡ reply_over (cleared f) n.moment n.ask = sym (noted-is told t n.reply is_noted stands) ∙ answer ∙ sym answer-is in
        let longer = grown_by f asks.mended s n.moment n.ask told asks.turn same said list r (subst (λ (a : Lists). Puts a n.moment n.ask list r) lists-are p) in
        let both = if-inv (names list n.list) (own_kept n.put n.doubt) (stands_by (held_in f list) (held_in s list) (own-at list) r (leaves-in list) longer) in
        (kept-put n.put n.doubt both.1, named-is list n.list both.0)

    pub true_note : IsTrueOf seen n
    true_note = record {
      counted = record { catalog = counts-within n.catalog found.records seen.records catalog grows.records; parts = all-within n.parts found.parts seen.parts grows.parts parts.many parts.each };
      answer = if-noted (λ t. tells_of_outside t ≡ false → t ≡ reply_over (lists_noted seen n) n.moment n.ask) told n.reply is_noted (λ own. answer_by f asks.mended s n.moment n.ask told asks.turn same own ∙ answer-is);
      put = puts-next;
      told = λ so. if-noted (λ t. t ≡ reply_over (lists_noted seen n) n.moment n.ask) told n.reply is_noted (told-is so);
      every = every-put;
      doubt = λ so. fault-noted told n.reply is_noted
          (fault_by f asks.mended s n.moment n.ask told asks.turn asks.mends n.list (doubted_by (held_in f n.list) (held_in s n.list) (own-at n.list) (leaves-in n.list) (doubt-own so)));
    }
