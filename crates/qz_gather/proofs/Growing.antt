-- A note stays true as more is seen of the lists.
use mathlib.Core.List.{IsPrefix}
use Rattle.std.proofs.Common.{◌≡◌, ◌⊎◌, inl, inr, ℕ, zero, suc, ◌≤◌, false, List, [], ◌∷◌, ◌++◌, Option, Some, None, length, map, take, refl, sym, ap, ◌∙◌, subst, arith}
use Rattle.std.specs.List.{AllZip, zip}
use Rattle.std.specs.Prelude.{IfSome, slice_get}
use Rattle.std.proofs.lemmas.List.{take-append-le}
use Rattle.qz_catalog_turns.specs.Turning.{held_of}
use Rattle.qz_terms.specs.declared.record.Record.{Record}
use Rattle.qz_terms.specs.Laws.{tells_of_outside}
use Rattle.qz_terms.specs.Serial.{Lists, held_in, reply_over, with_list}
use Rattle.qz_turn.specs.declared.view.Tale.{Tale}
use Rattle.qz_turn.specs.Tales.{Follows}
use Rattle.qz_turn.proofs.Prefixes.{prefix_length, prefix_self, prefix_trans}
use Rattle.qz_visit.specs.Seeing.{FollowAll, FollowEach, more, none}
use Rattle.qz_visit.specs.Visits.{Tellings, lists_told}
use Rattle.qz_gather.specs.declared.note.Note.{Note}
use Rattle.qz_gather.specs.Notes.{AreTrueOf, IsCounted, IsTrueOf, Puts, PutsNext, front, lists_noted}
use Rattle.qz_gather.proofs.Turning.{held_at}

-- ---- the lists that are seen

prefix-at : (ts us : List (Tale Record)) → FollowEach ts us → (k : ℕ) → IsPrefix (held_at (map held_of ts) k).list (held_at (map held_of us) k).list
prefix-at _ _ none k = prefix_self []
prefix-at _ _ (more t u ts us one rest) zero = one.begins
prefix-at _ _ (more t u ts us one rest) (suc k) = prefix-at ts us rest k

prefix-in : (t u : Tellings) → FollowAll t u → (list : Option ℕ) → IsPrefix (held_in (lists_told t) list).list (held_in (lists_told u) list).list
prefix-in t u f None = f.records.begins
prefix-in t u f (Some k) = prefix-at t.parts u.parts f.parts k

-- ---- those of a note

front-grows : (n : ℕ) (t u : Tale Record) → Follows t u → n ≤ length t.list → front (n, u) ≡ front (n, t)
front-grows n t u f within = ap with_list (ap (take n) (sym f.begins.1) ∙ take-append-le n t.list f.begins.0 within)

fronts-grow : (ns : List ℕ) (ts us : List (Tale Record)) → FollowEach ts us → AllZip (λ count s. count ≤ length s.list) ns ts → map front (zip ns us) ≡ map front (zip ns ts)
fronts-grow [] _ _ f all = refl
fronts-grow (n ∷ ns) _ _ none all = absurd all
fronts-grow (n ∷ ns) _ _ (more t u ts us one rest) all = λ i. front-grows n t u one all.0 i ∷ fronts-grow ns ts us rest all.1 i

within-grows : (n : ℕ) (t u : Tale Record) → Follows t u → n ≤ length t.list → n ≤ length u.list
within-grows n t u f within = let longer = prefix_length t.list u.list f.begins in omega arith

counted-grows : (ns : List ℕ) (ts us : List (Tale Record)) → FollowEach ts us → AllZip (λ count s. count ≤ length s.list) ns ts → AllZip (λ count s. count ≤ length s.list) ns us
counted-grows [] _ _ none all = tt
counted-grows [] _ _ (more t u ts us one rest) all = absurd all
counted-grows (n ∷ ns) _ _ none all = absurd all
counted-grows (n ∷ ns) _ _ (more t u ts us one rest) all = (within-grows n t u one all.0, counted-grows ns ts us rest all.1)

module _ (t u : Tellings) (n : Note) (f : FollowAll t u) where
  lists-grow : IsCounted t n → lists_noted u n ≡ lists_noted t n
  lists-grow is = λ i. record { records = front-grows n.catalog t.records u.records f.records is.catalog i; parts = fronts-grow n.parts t.parts u.parts f.parts is.parts i }

  next-grows : (same : lists_noted t n ≡ lists_noted u n) → PutsNext t n → PutsNext u n
  next-grows same p = record {
    own = p.own;
    puts = subst (λ (a : Lists). Puts a n.moment n.ask n.list p.own) same p.puts;
    next = subst (λ (a : Lists). IsPrefix ((held_in a n.list).list ++ p.own ∷ []) (held_in (lists_told u) n.list).list) same
        (prefix_trans ((held_in (lists_noted t n) n.list).list ++ p.own ∷ []) (held_in (lists_told t) n.list).list (held_in (lists_told u) n.list).list p.next (prefix-in t u f n.list));
  }

  pub still_true : IsTrueOf t n → IsTrueOf u n
  still_true is =
      let same : lists_noted t n ≡ lists_noted u n = sym (lists-grow is.counted) in
      record {
        counted = record { catalog = within-grows n.catalog t.records u.records f.records is.counted.catalog; parts = counted-grows n.parts t.parts u.parts f.parts is.counted.parts };
        answer = subst (λ (a : Lists). IfSome n.reply (λ told. tells_of_outside told ≡ false → told ≡ reply_over a n.moment n.ask)) same is.answer;
        put = λ so. next-grows same (is.put so);
        told = λ so. subst (λ (a : Lists). IfSome n.reply (λ told. told ≡ reply_over a n.moment n.ask)) same (is.told so);
        every = λ told list r stands answer puts.
            is.every told list r stands (answer ∙ ap (λ (a : Lists). reply_over a n.moment n.ask) (sym same)) (subst (λ (a : Lists). Puts a n.moment n.ask list r) (sym same) puts);
        doubt = is.doubt;
      }

-- so do several
pub still_all : (t u : Tellings) (notes : List Note) → FollowAll t u → AreTrueOf t notes → AreTrueOf u notes
still_all t u notes f are = record { each = λ k n at. still_true t u n f (are.each k n at) }

-- ---- one more

get-more : {A : Type 0} (xs : List A) (x y : A) (k : ℕ) → slice_get (xs ++ x ∷ []) k ≡ Some y → (slice_get xs k ≡ Some y) ⊎ (x ≡ y)
get-more [] x y zero is = let same : x ≡ y = cc in inr same
get-more [] x y (suc k) is = absurd cc
get-more (z ∷ xs) x y zero is = inl is
get-more (z ∷ xs) x y (suc k) is = get-more xs x y k is

pub one_more : (t : Tellings) (notes : List Note) (n : Note) → AreTrueOf t notes → IsTrueOf t n → AreTrueOf t (notes ++ n ∷ [])
one_more t notes n are is = record {
  each = λ k m at. elim (get-more notes n m k at) [
    | inl before ↦ are.each k m before
    | inr same ↦ subst (IsTrueOf t) same is
  ];
}
