-- Shards that are put behind locks one after the other, and what comes back where memory is short.
use Rattle.std.proofs.Common.{◌≡◌, ◌⊎◌, inl, inr, ℕ, zero, suc, ◌+◌, ◌<◌, List, [], ◌∷◌, ◌++◌, Some, length, reverse, refl, sym, ap, ◌∙◌, subst, append-nil, append_assoc, arith}
use Rattle.std.specs.Prelude.{slice_get}
use Rattle.std.proofs.lemmas.List.FromFn.{get_or-range_with_len, length-range_with_len}
use Rattle.std.proofs.lemmas.List.{length-append, length-map, length-reverse, map-append, reverse-append, reverse-reverse}
use Rattle.std.proofs.lemmas.Option.{slice_get_within}
use mathlib.Core.List.{IsPrefix}
use Rattle.qz_catalog.specs.Keeping as records
use Rattle.qz_catalog_turns.specs.Turning.{tale_of}
use Rattle.qz_keeper.specs.Lists.{EachMayStand}
use Rattle.qz_shard.specs.Keeping as part
use Rattle.qz_shard_turns.specs.Tying.{Placed}
use Rattle.qz_school.specs.Solos as solos
use Rattle.qz_terms.specs.declared.record.Record.{Record}
use Rattle.qz_terms.specs.Catalog as catalog
use Rattle.qz_terms.specs.Legal.{AllAgree}
use Rattle.qz_turn.specs.declared.view.Tale.{Tale}
use Rattle.qz_turn.specs.Passes.{Lock}
use Rattle.qz_turn.specs.Rule.{HasEvery, below}
use Rattle.qz_turn.specs.Tales.{Follows}
use Rattle.qz_turn.specs.Turns.{Locked}
use Rattle.qz_turn.proofs.Prefixes.{follows_self, follows_trans, prefix_trans}
use Rattle.qz_visit.specs.Closing.{AreClosed, Closes, ClosesBefore, HaveEach, KeepsAll, more, none}
use Rattle.qz_visit.specs.Opening.{AreOpened, HalfOpens, IsOpened, half_told, tales, told_by}
use Rattle.qz_visit.specs.Visits.{IsPlaced, seen_by}
use Rattle.qz_visit.specs.Ways.{Part, Seen}
use Rattle.qz_visit.proofs.Closed.{all_on, closed_solo, count_closed, founded_on, seam}

-- ---- all shards again

closed-append : {K : Type 0} (faults : K → ℕ) (c : List Record) (n k m : ℕ) (ts us : List (Tale Record)) (ss rs : List (part.Keeping K)) → AreClosed faults c n k ts ss → m ≡ k + length ss → AreClosed faults c n m us rs → AreClosed faults c n k (ts ++ us) (ss ++ rs)
closed-append faults c n _ m _ us _ rs (none k) at rest = subst (λ (i : ℕ). AreClosed faults c n i us rs) (at ∙ omega arith) rest
closed-append faults c n _ m _ us _ rs (more k t s ts ss one others) at rest = more k t s (ts ++ us) (ss ++ rs) one (closed-append faults c n (k + 1) m ts us ss rs others (at ∙ omega arith) rest)

-- where a shard stands, and what it agrees with
pub record Stands {K : Type 0} (c : List Record) (n k : ℕ) (s : part.Keeping K) : Type 0 where
  pub index_is : s.index ≡ k
  pub count_is : s.count ≡ n
  pub agree : EachMayStand (AllAgree c) s.held

pub closed_same : {K : Type 0} (faults : K → ℕ) (c : List Record) (n k : ℕ) (ss : List (part.Keeping K)) → ((j : ℕ) (s : part.Keeping K) → slice_get ss j ≡ Some s → Stands c n (k + j) s) → AreClosed faults c n k (tales faults ss) ss
closed_same faults c n k [] each = none k
closed_same faults c n k (s ∷ ss) each =
    let here = each zero s refl in
    more k (tale_of s.held (faults s.keeper)) s (tales faults ss) ss
    (record { index_is = here.index_is ∙ omega arith; count_is = here.count_is; follows = follows_self (tale_of s.held (faults s.keeper)); agree = here.agree })
    (closed_same faults c n (k + 1) ss (λ j r at. let there = each (suc j) r at in let sum : k + suc j ≡ k + 1 + j = omega arith in record { index_is = there.index_is ∙ sum; count_is = there.count_is; agree = there.agree }))

many-told : {K : Type 0} (faults : K → ℕ) (ps : List Part) (others : List (part.Keeping K)) → length (seen_by ps ++ tales faults (reverse others)) ≡ length ps + length others
many-told faults ps others =
    let both = length-append (seen_by ps) (tales faults (reverse others)) in
    let one = length-map ps (λ (p : Part). p.seen) in
    let two = length-map (reverse others) (λ (s : part.Keeping _). tale_of s.held (faults s.keeper)) in
    let back = length-reverse others in
    omega (arith, both, one, two, back)

-- the shards in order, over what the catalogue is then
pub all_closed : {K : Type 0} (faults : K → ℕ) (a b d : List Record) (ps : List Part) (others all : List (part.Keeping K)) → ClosesBefore faults b (seen_by ps) others all → IsPrefix a d → IsPrefix b d
    → AreClosed faults a (length ps + length others) (length ps) (tales faults (reverse others)) (reverse others) → AreClosed faults d (length ps + length others) 0 (seen_by ps ++ tales faults (reverse others)) all
all_closed faults a b d ps others all so first second left =
    let n = length ps + length others in
    let seen = length-map ps (λ (p : Part). p.seen) in
    let count : length (seen_by ps) + length others ≡ n = omega (arith, seen) in
    let front : AreClosed faults b n 0 (seen_by ps) so.front = subst (λ (m : ℕ). AreClosed faults b m 0 (seen_by ps) so.front) count so.closed in
    let long = count_closed faults b n 0 (seen_by ps) so.front front in
    let at : length ps ≡ 0 + length so.front = omega (arith, long, seen) in
    subst (AreClosed faults d n 0 (seen_by ps ++ tales faults (reverse others))) (sym so.all_is)
    (closed-append faults d n 0 (length ps) (seen_by ps) (tales faults (reverse others)) so.front (reverse others) (all_on faults b d n 0 (seen_by ps) so.front second front) at (all_on faults a d n (length ps) (tales faults (reverse others)) (reverse others) first left))

module _ {K : Type 0} (faults : K → ℕ) (so seen : Seen) (cat : records.Keeping K) (ps : List Part) (others all : List (part.Keeping K)) where
  now-closed : ClosesBefore faults seen.seen.list (seen_by ps) others all → KeepsAll so seen → Follows seen.seen (tale_of cat.held (faults cat.keeper))
      → AreClosed faults so.seen.list (length ps + length others) (length ps) (tales faults (reverse others)) (reverse others) → AreClosed faults cat.held.list (length ps + length others) 0 (seen_by ps ++ tales faults (reverse others)) all
  now-closed before keeps follows left = all_closed faults so.seen.list seen.seen.list cat.held.list ps others all before (prefix_trans so.seen.list seen.seen.list cat.held.list keeps.begins.begins follows.begins) follows.begins left

  count-now : ClosesBefore faults seen.seen.list (seen_by ps) others all → KeepsAll so seen → Follows seen.seen (tale_of cat.held (faults cat.keeper))
      → AreClosed faults so.seen.list (length ps + length others) (length ps) (tales faults (reverse others)) (reverse others) → length all ≡ length ps + length others
  count-now before keeps follows left = count_closed faults cat.held.list (length ps + length others) 0 (seen_by ps ++ tales faults (reverse others)) all (now-closed before keeps follows left) ∙ many-told faults ps others

  pub solo_again : 0 < length ps + length others → catalog.shards so.seen.list ≡ Some (length ps + length others) → ClosesBefore faults seen.seen.list (seen_by ps) others all → KeepsAll so seen → Follows seen.seen (tale_of cat.held (faults cat.keeper))
      → AreClosed faults so.seen.list (length ps + length others) (length ps) (tales faults (reverse others)) (reverse others) → solos.IsSolo cat all
  solo_again some founded before keeps follows left =
      let n = length ps + length others in
      let longer = prefix_trans so.seen.list seen.seen.list cat.held.list keeps.begins.begins follows.begins in
      closed_solo faults cat n (seen_by ps ++ tales faults (reverse others)) all some (count-now before keeps follows left) (founded_on so.seen.list cat.held.list n longer founded) (now-closed before keeps follows left)

  pub closes_again : ClosesBefore faults seen.seen.list (seen_by ps) others all → KeepsAll so seen → Follows seen.seen (tale_of cat.held (faults cat.keeper))
      → AreClosed faults so.seen.list (length ps + length others) (length ps) (tales faults (reverse others)) (reverse others) → Closes faults (half_told faults so ps others) record { catalog = cat; parts = all }
  closes_again before keeps follows left = record {
    records = follows_trans so.seen seen.seen (tale_of cat.held (faults cat.keeper)) keeps.begins follows;
    parts = subst (λ (m : ℕ). AreClosed faults cat.held.list m 0 (seen_by ps ++ tales faults (reverse others)) all) (sym (count-now before keeps follows left)) (now-closed before keeps follows left);
  }

-- ---- one shard after the other

get_push : {A : Type 0} (xs : List A) (x y : A) (k : ℕ) → slice_get (xs ++ x ∷ []) k ≡ Some y → (slice_get xs k ≡ Some y) ⊎ ((k ≡ length xs) × (x ≡ y))
get_push [] x y zero at = inr (refl, cc)
get_push [] x y (suc k) at = absurd cc
get_push (z ∷ xs) x y zero at = inl at
get_push (z ∷ xs) x y (suc k) at = elim (get_push xs x y k at) [
  | inl old ↦ inl old
  | inr new ↦ inr (ap suc new.0, new.1)
]

module _ {K : Type 0} (faults : K → ℕ) (records : Lock (Unit {0})) (seats n : ℕ) where
  opened-none : AreOpened faults records seats n [] [] []
  opened-none = record {
    placed = record { each = λ k l at. absurd cc };
    own = record { count = refl; own = λ k l p at there. absurd cc };
    dealt = record { seats_are = λ k l at. absurd cc; numbers = λ k p at. absurd cc; unturned = λ k p at. absurd cc };
    starts = record { each = λ k l s at there. absurd cc };
    seen = refl;
  }

  as-many : (done : List (part.Keeping K)) (ls : List (Locked Placed)) (ps : List Part) → AreOpened faults records seats n done ls ps → length ls ≡ length done
  as-many done ls ps so =
      let long = so.own.count in
      let one = length-map ps (λ (p : Part). p.seen) in
      let two = length-map done (λ (s : part.Keeping K). tale_of s.held (faults s.keeper)) in
      let both = ap length so.seen in
      omega (arith, long, one, two, both)

  opened-one : (done : List (part.Keeping K)) (ls : List (Locked Placed)) (ps : List Part) (s : part.Keeping K) (l : Locked Placed) (p : Part) → AreOpened faults records seats n done ls ps → IsOpened faults records seats n (length ls) s l p → AreOpened faults records seats n (done ++ s ∷ []) (ls ++ l ∷ []) (ps ++ p ∷ [])
  opened-one done ls ps s l p so is =
      let long = so.own.count in
      let many = as-many done ls ps so in
      record {
        placed = record {
          each = λ k m at. elim (get_push ls l m k at) [
            | inl old ↦ so.placed.each k m old
            | inr new ↦ subst (λ (x : Locked Placed). IsPlaced records n k x.lock) new.1 (subst (λ (i : ℕ). IsPlaced records n i l.lock) (sym new.0) is.placed)
          ];
        };
        own = record {
          count = length-append ps (p ∷ []) ∙ ap (λ (k : ℕ). k + 1) long ∙ sym (length-append ls (l ∷ []));
          own = λ k m q at there. elim (get_push ls l m k at) [
            | inl old ↦ elim (get_push ps p q k there) [
              | inl one ↦ so.own.own k m q old one
              | inr new ↦ absurd (let here = new.0 in let inside = slice_get_within ls k m old in omega (arith, here, inside, long))
            ]
            | inr last ↦ elim (get_push ps p q k there) [
              | inl one ↦ absurd (let here = last.0 in let inside = slice_get_within ps k q one in omega (arith, here, inside, long))
              | inr new ↦ ap (λ (x : Part). x.lock) (sym new.1 ∙ is.first) ∙ ap (λ (x : Locked Placed). x.lock) last.1
            ]
          ];
        };
        dealt = record {
          seats_are = λ k m at. elim (get_push ls l m k at) [
            | inl old ↦ so.dealt.seats_are k m old
            | inr new ↦ ap (λ (x : Locked Placed). x.seats) (sym new.1) ∙ is.seats_are
          ];
          numbers = λ k q at. elim (get_push ps p q k at) [
            | inl old ↦ so.dealt.numbers k q old
            | inr new ↦ ap (λ (x : Part). x.numbers) (sym new.1 ∙ is.first)
          ];
          unturned = λ k q at. elim (get_push ps p q k at) [
            | inl old ↦ so.dealt.unturned k q old
            | inr new ↦ ap (λ (x : Part). x.turns) (sym new.1 ∙ is.first)
          ];
        };
        starts = record {
          each = λ k m r at there. elim (get_push ls l m k at) [
            | inl old ↦ elim (get_push done s r k there) [
              | inl one ↦ so.starts.each k m r old one
              | inr new ↦ absurd (let here = new.0 in let inside = slice_get_within ls k m old in omega (arith, here, inside, many))
            ]
            | inr last ↦ elim (get_push done s r k there) [
              | inl one ↦ absurd (let here = last.0 in let inside = slice_get_within done k r one in omega (arith, here, inside, many))
              | inr new ↦ ap (λ (x : Locked Placed). x.start) (sym last.1) ∙ is.start_is ∙ ap (λ (x : part.Keeping K). length x.held.list) new.1
            ]
          ];
        };
        seen = map-append (λ (x : Part). x.seen) ps (p ∷ []) ∙ ap (λ (ts : List (Tale Record)). ts ++ p.seen ∷ []) so.seen ∙ ap (λ (x : Part). tales faults done ++ x.seen ∷ []) is.first ∙ sym (map-append (λ (x : part.Keeping K). tale_of x.held (faults x.keeper)) done (s ∷ []));
      }

module _ {K : Type 0} (faults : K → ℕ) (records : Lock (Unit {0})) (seats : ℕ) where
  pub half_none : (left : List (part.Keeping K)) (ls : List (Locked Placed)) (ps : List Part) → ls ≡ [] → ps ≡ [] → HalfOpens faults records seats (reverse left) left ls ps
  half_none left ls ps no_locks no_passes =
      let none_yet = opened-none faults records seats (length (reverse left)) in
      let some = subst (λ (x : List Part). AreOpened faults records seats (length (reverse left)) [] [] x) (sym no_passes) none_yet in
      record { done = []; all_is = refl; opened = subst (λ (x : List (Locked Placed)). AreOpened faults records seats (length (reverse left)) [] x ps) (sym no_locks) some }

  back-one : (done left : List (part.Keeping K)) (s : part.Keeping K) → done ++ reverse (left ++ s ∷ []) ≡ done ++ s ∷ reverse left
  back-one done left s = ap (λ (l : List (part.Keeping K)). done ++ l) (reverse-append left (s ∷ []))

  pub half_one : (all left : List (part.Keeping K)) (ls : List (Locked Placed)) (ps : List Part) (s : part.Keeping K) (l : Locked Placed) (p : Part) → HalfOpens faults records seats all (left ++ s ∷ []) ls ps → IsOpened faults records seats (length all) (length ls) s l p → HalfOpens faults records seats all left (ls ++ l ∷ []) (ps ++ p ∷ [])
  half_one all left ls ps s l p so is = record {
    done = so.done ++ s ∷ [];
    all_is = so.all_is ∙ back-one so.done left s ∙ sym (append_assoc so.done (s ∷ []) (reverse left));
    opened = opened-one faults records seats (length all) so.done ls ps s l p so.opened is;
  }

  pub many_opened : (n : ℕ) (done : List (part.Keeping K)) (ls : List (Locked Placed)) (ps : List Part) → AreOpened faults records seats n done ls ps → length ls ≡ length done
  many_opened n done ls ps so = as-many faults records seats n done ls ps so

  pub next_there : (all left : List (part.Keeping K)) (ls : List (Locked Placed)) (ps : List Part) (s : part.Keeping K) → HalfOpens faults records seats all (left ++ s ∷ []) ls ps → slice_get all (length ls) ≡ Some s
  next_there all left ls ps s so =
      let many = many_opened (length all) so.done ls ps so.opened in
      subst (λ (k : ℕ). slice_get all k ≡ Some s) (sym many) (subst (λ (l : List (part.Keeping K)). slice_get l (length so.done) ≡ Some s) (sym (so.all_is ∙ back-one so.done left s)) (seam so.done s (reverse left)))

-- ---- all of them, or those that were

pub has_below : (seats : ℕ) → HasEvery seats (below seats)
has_below seats = record {
  number = λ n lt.
      let long = length-range_with_len 0 seats in
      (n, omega (arith, long, lt), get_or-range_with_len 0 seats n n lt ∙ omega arith);
}

past : {A : Type 0} (xs ys : List A) (k : ℕ) → slice_get (xs ++ ys) (length xs + k) ≡ slice_get ys k
past [] ys k = ap (slice_get ys) (omega arith)
past (x ∷ xs) ys k =
    let next : length (x ∷ xs) + k ≡ suc (length xs + k) = omega arith in
    ap (slice_get (x ∷ xs ++ ys)) next ∙ past xs ys k

stands : {K : Type 0} (c : records.Keeping K) (ss : List (part.Keeping K)) (j : ℕ) (s : part.Keeping K) → solos.IsSolo c ss → slice_get ss j ≡ Some s → Stands c.held.list (length ss) j s
stands c ss j s so at = let placed = so.placed.each j s at in record { index_is = placed.0; count_is = placed.1; agree = so.agree.each j s at }

-- a school is what it was
pub closes_self : {K : Type 0} (faults : K → ℕ) (a : solos.School K) → solos.IsSolo a.catalog a.parts → Closes faults (told_by faults a) a
closes_self faults a so = record {
  records = follows_self (tale_of a.catalog.held (faults a.catalog.keeper));
  parts = closed_same faults a.catalog.held.list (length a.parts) 0 a.parts (λ j s at. subst (λ (k : ℕ). Stands a.catalog.held.list (length a.parts) k s) (omega arith) (stands a.catalog a.parts j s so at));
}

pub turned_back : {K : Type 0} (all turned : List (part.Keeping K)) → turned ≡ reverse all → reverse turned ≡ all
turned_back all turned is = ap reverse is ∙ reverse-reverse all

-- those that were turned round before
pub half_of : {K : Type 0} {faults : K → ℕ} {lock : Lock (Unit {0})} {seats : ℕ} {left : List (part.Keeping K)} {ls : List (Locked Placed)} {ps : List Part} (all turned : List (part.Keeping K)) → turned ≡ reverse all → HalfOpens faults lock seats (reverse turned) left ls ps → HalfOpens faults lock seats all left ls ps
half_of {faults = faults} {lock = lock} {seats = seats} {left = left} {ls = ls} {ps = ps} all turned is half = subst (λ (x : List (part.Keeping _)). HalfOpens faults lock seats x left ls ps) (turned_back all turned is) half

module _ {K : Type 0} {faults : K → ℕ} {lock : Lock (Unit {0})} {seats : ℕ} {all left : List (part.Keeping K)} {ls : List (Locked Placed)} {ps : List Part} where
  many-done : (h : HalfOpens faults lock seats all left ls ps) → length h.done ≡ length ps
  many-done h =
      let many = many_opened faults lock seats (length all) h.done ls ps h.opened in
      let long = h.opened.own.count in
      omega (arith, many, long)

  pub half_count : HalfOpens faults lock seats all left ls ps → length all ≡ length ps + length left
  half_count h =
      let whole = ap length h.all_is in
      let both = length-append h.done (reverse left) in
      let back = length-reverse left in
      let done = many-done h in
      omega (arith, whole, both, back, done)

  pub half_every : HalfOpens faults lock seats all left ls ps → HaveEach ls ps
  half_every h = record {
    each = λ k l p at there.
        let same = h.opened.dealt.seats_are k l at in
        let numbers = h.opened.dealt.numbers k p there in
        subst (λ (n : ℕ). HasEvery n p.numbers) (sym same) (subst (HasEvery seats) (sym numbers) (has_below seats));
  }

  pub half_left : (c : records.Keeping K) → HalfOpens faults lock seats all left ls ps → solos.IsSolo c all → AreClosed faults c.held.list (length ps + length left) (length ps) (tales faults (reverse left)) (reverse left)
  half_left c h so =
      let there = λ (j : ℕ) (s : part.Keeping K) (at : slice_get (reverse left) j ≡ Some s).
      let place = past h.done (reverse left) j ∙ at in
      let whole : slice_get all (length h.done + j) ≡ Some s = subst (λ (l : List (part.Keeping K)). slice_get l (length h.done + j) ≡ Some s) (sym h.all_is) place in
      let here = subst (λ (d : ℕ). Stands c.held.list (length all) (d + j) s) (many-done h) (stands c all (length h.done + j) s so whole) in
      subst (λ (n : ℕ). Stands c.held.list n (length ps + j) s) (half_count h) here in
      closed_same faults c.held.list (length ps + length left) (length ps) (reverse left) there

  -- what their passes see, and what those that are left tell, is what all of them told
  pub half_tales : (h : HalfOpens faults lock seats all left ls ps) → seen_by ps ++ tales faults (reverse left) ≡ tales faults all
  half_tales h =
      ap (λ (ts : List (Tale Record)). ts ++ tales faults (reverse left)) h.opened.seen ∙ sym (map-append (λ (s : part.Keeping K). tale_of s.held (faults s.keeper)) h.done (reverse left)) ∙ ap (tales faults) (sym h.all_is)

  pub whole_opened : HalfOpens faults lock seats all left ls ps → left ≡ [] → AreOpened faults lock seats (length all) all ls ps
  whole_opened h empty =
      let whole : all ≡ h.done = h.all_is ∙ ap (λ (l : List (part.Keeping K)). h.done ++ reverse l) empty ∙ append-nil h.done in
      subst (λ (ss : List (part.Keeping K)). AreOpened faults lock seats (length all) ss ls ps) (sym whole) h.opened
