-- What was noted at stations, from the taking up to the leaving.
use Rattle.std.proofs.Common.{◌≡◌, inl, inr, ℕ, zero, suc, ◌+◌, ◌<◌, true, List, [], ◌∷◌, ◌++◌, Option, Some, length, length-append, map, sym, ap, ◌∙◌, subst, append-nil, append_assoc, arith}
use Rattle.std.specs.Prelude.{Bool, slice_get, unwrap_or}
use Rattle.std.specs.List.{insert}
use Rattle.std.proofs.lemmas.List.{length-map}
use Rattle.std.proofs.lemmas.Option.{slice_get_within}
use Rattle.qz_doors.specs.declared.door.DoorEnd.{DoorEnd}
use Rattle.qz_gather.specs.declared.note.Note.{Note}
use Rattle.qz_gather.specs.Clerks.{Answers, Clerk, CountsEach}
use Rattle.qz_gather.specs.Notes.{AreTrueOf}
use Rattle.qz_gather.proofs.Growing.{still_all}
use Rattle.qz_regrading.specs.Loops.{Regrades}
use Rattle.qz_serial.proofs.Seats.{within_there}
use Rattle.qz_visit.specs.Seeing.{FollowAll}
use Rattle.qz_visit.specs.declared.last.Last.{Last}
use Rattle.qz_visit.specs.Visits.{AreCounted, IsUnasked, Locks, Seats, Tellings, Visitor, seen_by, seen_in}
use Rattle.qz_visit.specs.Ways.{Part}
use Rattle.qz_visit.proofs.Holding.{from_map}
use Rattle.qz_stations.specs.Noting.{AreBooksOf, AreLong, NotesAt, NotesBeside, NotesOn, NotesWork, NotesWorks, clerk_of, clerk_sees, none_yet, noting, quiet}
use Rattle.qz_stations.specs.Posts.{AreEach, AreUnnoted, HasRegraded, IsServed, NoteTruly, TakesIn, TakesUp}
use Rattle.qz_stations.specs.Stations.{Post, Serving, all_ends, at_place, notes_at}
use Rattle.qz_stations.proofs.Lists.{get_behind, get_either, get_front, get_snoc, insert_behind}
use Rattle.qz_stations.proofs.Serving.{same-there, stands, was}

-- ---- taking up

pub unnoted_none : {P : Type 0} (by_clerks : Bool) (ps : List (Post P)) → ps ≡ [] → AreUnnoted by_clerks ps
unnoted_none by_clerks ps none = subst (AreUnnoted by_clerks) (sym none) record { each = λ k p at. absurd cc }

pub unnoted_one : {P : Type 0} (by_clerks : Bool) (ps longer : List (Post P)) (p : Post P) → AreUnnoted by_clerks ps → p.notes ≡ none_yet by_clerks → longer ≡ ps ++ p ∷ [] → AreUnnoted by_clerks longer
unnoted_one by_clerks ps longer p are fresh more = subst (AreUnnoted by_clerks) (sym more) record {
  each = λ k x there. elim (get_snoc ps p k x there) [
    | inl before ↦ are.each k x before
    | inr last ↦ subst (λ (y : Post _). y.notes ≡ none_yet by_clerks) last.1 fresh
  ];
}

-- of passes by which nothing was asked yet there is a number for each shard
pub counts_unasked : (v : Visitor) (p : Seats) (l : Last) → v.passes ≡ p → v.last ≡ l → IsUnasked p l → CountsEach v
counts_unasked v p l passes last unasked = ap (λ (x : Last). length x.parts) last ∙ unasked.parts.many ∙ length-map p.parts (λ (q : Part). q.seen) ∙ ap (λ (x : Seats). length x.parts) (sym passes)

-- ---- leaving

-- The stations behind those that are left were left, in order, and their notes stand behind the books that were there.
pub record ShelvesOn {P : Type 0} (all left : List (Post P)) (shelf books : List (List Note)) : Type 0 where
  pub done : List (Post P)
  pub all_is : all ≡ left ++ done
  pub books_are : books ≡ shelf ++ map notes_at done
  pub true_of : NoteTruly done

pub shelves_none : {P : Type 0} (all : List (Post P)) (shelf : List (List Note)) → ShelvesOn all all shelf shelf
shelves_none all shelf = record {
  done = [];
  all_is = sym (append-nil all);
  books_are = sym (append-nil shelf);
  true_of = record { each = λ k p at. absurd cc };
}

module _ {P : Type 0} (all items left : List (Post P)) (p : Post P) (shelf books : List (List Note)) (so : ShelvesOn all items shelf books) where
  pub shelves_one : (after : List (List Note)) (notes : List Note) (passes : Seats) → items ≡ left ++ p ∷ [] → notes ≡ notes_at p → passes ≡ p.visit.passes → AreTrueOf (seen_in passes) notes → after ≡ insert books (length shelf) notes → ShelvesOn all left shelf after
  shelves_one after notes passes is same own truly next = record {
    done = p ∷ so.done;
    all_is = so.all_is ∙ ap (λ (l : List (Post P)). l ++ so.done) is ∙ append_assoc left (p ∷ []) so.done;
    books_are = next ∙ ap (λ (b : List (List Note)). insert b (length shelf) notes) so.books_are ∙ insert_behind shelf (map notes_at so.done) notes ∙ ap (λ (n : List Note). shelf ++ n ∷ map notes_at so.done) same;
    true_of = record { each = each };
  }
    where
      each : (k : ℕ) (x : Post P) → slice_get (p ∷ so.done) k ≡ Some x → AreTrueOf (seen_in x.visit.passes) (notes_at x)
      each zero x there =
          let one : p ≡ x = cc in
          subst (λ (y : Post P). AreTrueOf (seen_in y.visit.passes) (notes_at y)) one (subst (λ (q : Seats). AreTrueOf (seen_in q) (notes_at p)) own (subst (AreTrueOf (seen_in passes)) same truly))
      each (suc k) x there = so.true_of.each k x there

  -- so many books more
  pub shelves_long : length books + length items ≡ length shelf + length all
  shelves_long =
      let whole = ap (λ (l : List (Post P)). length l) so.all_is in
      let both = length-append items so.done in
      let stand = ap (λ (l : List (List Note)). length l) so.books_are in
      let behind = length-append shelf (map notes_at so.done) in
      let many = length-map so.done notes_at in
      omega (arith, whole, both, stand, behind, many)

-- all are left
module _ {P : Type 0} (all : List (Post P)) (shelf books : List (List Note)) (so : ShelvesOn all [] shelf books) where
  pub shelved : books ≡ shelf ++ map notes_at all
  shelved = so.books_are ∙ ap (λ (l : List (Post P)). shelf ++ map notes_at l) (sym so.all_is)

  pub shelved_truly : NoteTruly all
  shelved_truly = record { each = λ k p at. so.true_of.each k p (subst (λ (l : List (Post P)). slice_get l k ≡ Some p) so.all_is at) }

-- ---- books

-- the notes that a station left, after as much was seen as the joined passes see
pub books_left : {P : Type 0} (s : Locks) (first last : Seats) (left : List (Post P)) → TakesIn s first last left → NoteTruly left → AreBooksOf (seen_in last) (map notes_at left)
books_left s first last left takes truly = record {
  each = λ k notes at.
      let q = from_map notes_at left k notes at in
      subst (AreTrueOf (seen_in last)) (sym q.1.1) (still_all (seen_in q.0.visit.passes) (seen_in last) (notes_at q.0) (takes.each k q.0 q.1.0) (truly.each k q.0 q.1.0));
}

pub books_on : (t u : Tellings) (books : List (List Note)) → FollowAll t u → AreBooksOf t books → AreBooksOf u books
books_on t u books on are = record { each = λ k notes at. still_all t u notes on (are.each k notes at) }

pub books_both : (t : Tellings) (xs ys all : List (List Note)) → all ≡ xs ++ ys → AreBooksOf t xs → AreBooksOf t ys → AreBooksOf t all
books_both t xs ys all is one other = subst (AreBooksOf t) (sym is) record {
  each = λ k notes at. elim (get_either xs ys k notes at) [
    | inl first ↦ one.each first.place notes first.there
    | inr second ↦ other.each second.place notes second.there
  ];
}

pub no_books : (t : Tellings) (books : List (List Note)) → books ≡ [] → AreBooksOf t books
no_books t books none = subst (AreBooksOf t) (sym none) record { each = λ k notes at. absurd cc }

-- ---- what clerks did

-- one who had nothing noted yet did this, from no notes on
pub noted_first : (Does : Clerk → Clerk → Type 0) (a b : Visitor) (before after : Option (List Note)) → NotesOn Does a b before after → before ≡ Some [] → Does (clerk_of a []) (clerk_of b (unwrap_or after []))
noted_first Does a b _ _ quiet is = absurd cc
noted_first Does a b _ _ (noting ns ms did) is = (let none : ns ≡ [] = cc in subst (λ (n : List Note). Does (clerk_of a n) (clerk_of b ms)) none did)

-- the book at the place of a station
pub book_is : {P : Type 0} (ps : List (Post P)) (k : ℕ) (p : Post P) (notes : List Note) → slice_get (map notes_at ps) k ≡ Some notes → slice_get ps k ≡ Some p → notes_at p ≡ notes
book_is ps k p notes at there =
    let q = from_map notes_at ps k notes at in
    let same : q.0 ≡ p = same-there ps k q.0 p q.1.0 there in
    sym (q.1.1 ∙ ap notes_at same)

module _ {D C : Type 0} (s : Locks) (count : ℕ) (told : Tellings) (numbers : List ℕ) (old rest : List (D × C)) (passes : Seats) (taken : List (Post (D × C))) (so : TakesUp s told numbers old rest passes taken) (serves : Serving D C) (left : List (Post (D × C))) (served : AreEach (IsServed serves) taken left) (fresh : AreUnnoted true taken) where
  pub notes_beside : (first last : Seats) (new : List (D × C)) (end : DoorEnd) (books : List (List Note)) → length taken ≡ count → new ≡ map at_place left ++ rest → end ≡ all_ends (map (λ (p : Post (D × C)). p.end) left) → TakesIn s first last left → books ≡ map notes_at left
      → NotesBeside serves told (λ seen. FollowAll seen (seen_in last)) count old new end books
  notes_beside first last new end books all doors total takes shelf = record {
    ends = map (λ (p : Post (D × C)). p.end) left;
    count_is = length-map left (λ (p : Post (D × C)). p.end) ∙ served.count ∙ all;
    end_is = total;
    each = at_door;
  }
    where
      at_door : (k : ℕ) (e : DoorEnd) (notes : List Note) → slice_get (map (λ (p : Post (D × C)). p.end) left) k ≡ Some e → slice_get books k ≡ Some notes → NotesAt serves told (λ seen. FollowAll seen (seen_in last)) old new k e notes
      at_door k e notes at there =
          let q = from_map (λ (p : Post (D × C)). p.end) left k e at in
          let p = was s told numbers old rest passes taken so (IsServed serves) left served k q.0 q.1.0 in
          let is = so.taken k p.0 p.1.0 in
          let mine : notes_at q.0 ≡ notes = book_is left k q.0 notes (subst (λ (l : List (List Note)). slice_get l k ≡ Some notes) shelf there) q.1.0 in
          record {
            door = p.0.place.0;
            served = q.0.place.0;
            clock = p.0.place.1;
            ticked = q.0.place.1;
            first = p.0.visit;
            last = q.0.visit;
            told_is = is.seen;
            before = stands taken rest old k p.0 so.places p.1.0;
            after = stands left rest new k q.0 doors q.1.0;
            going = subst (λ (x : DoorEnd). serves.notes p.0.place.0 q.0.place.0 (record { desk = clerk_of p.0.visit []; clock = p.0.place.1 }) (record { desk = clerk_of q.0.visit notes; clock = q.0.place.1 }) x) (sym q.1.1)
                (subst (λ (n : List Note). serves.notes p.0.place.0 q.0.place.0 (record { desk = clerk_of p.0.visit []; clock = p.0.place.1 }) (record { desk = clerk_of q.0.visit n; clock = q.0.place.1 }) q.0.end) mine
                (noted_first (λ a b. serves.notes p.0.place.0 q.0.place.0 (record { desk = a; clock = p.0.place.1 }) (record { desk = b; clock = q.0.place.1 }) q.0.end) p.0.visit q.0.visit p.0.notes q.0.notes p.1.1.notes (fresh.each k p.0 p.1.0)));
            kept = takes.each k q.0 q.1.0;
          }

-- so they did, with more books behind
pub noted_longer : {D C : Type 0} (serves : Serving D C) (told : Tellings) (Kept : Tellings → Type 0) (count : ℕ) (old new : List (D × C)) (end : DoorEnd) (books more all : List (List Note)) → length books ≡ count → all ≡ books ++ more
    → NotesBeside serves told Kept count old new end books → NotesBeside serves told Kept count old new end all
noted_longer serves told Kept count old new end books more all many is so = record {
  ends = so.ends;
  count_is = so.count_is;
  end_is = so.end_is;
  each = λ k e notes at there.
      let long = so.count_is in
      let within = slice_get_within so.ends k e at in
      so.each k e notes at (get_front books more k notes (omega (arith, many, long, within)) (subst (λ (l : List (List Note)). slice_get l k ≡ Some notes) is there));
}

-- those that regraded, whose books stand behind others
module _ {C : Type 0} (tells : C → ℕ → C → Type 0) (s : Locks) (count : ℕ) (told : Tellings) (numbers : List ℕ) (old rest : List C) (passes : Seats) (taken left : List (Post C)) (so : TakesUp s told numbers old rest passes taken) (did : AreEach (HasRegraded tells) taken left) (fresh : AreUnnoted true taken) where
  pub notes_works : (first last : Seats) (workers : ℕ) (books all : List (List Note)) → length taken ≡ count → TakesIn s first last left → length books ≡ workers → all ≡ books ++ map notes_at left → NotesWorks tells told (λ seen. FollowAll seen (seen_in last)) workers count all
  notes_works first last workers books whole all takes many shelf = record { each = once }
    where
      once : (k : ℕ) (notes : List Note) → k < count → slice_get whole (workers + k) ≡ Some notes → NotesWork tells told (λ seen. FollowAll seen (seen_in last)) notes
      once k notes within there =
          let long = did.count in
          let p = within_there taken k (omega (arith, within, all)) in
          let q = within_there left k (omega (arith, within, all, long)) in
          let is = did.each k p.0 q.0 p.1 q.1 in
          let behind : slice_get (map notes_at left) k ≡ Some notes = sym (get_behind books (map notes_at left) k) ∙ ap (λ (n : ℕ). slice_get (books ++ map notes_at left) (n + k)) many ∙ ap (λ (l : List (List Note)). slice_get l (workers + k)) (sym shelf) ∙ there in
          let mine : notes_at q.0 ≡ notes = book_is left k q.0 notes behind q.1 in
          record {
            clock = p.0.place;
            ticked = q.0.place;
            first = p.0.visit;
            last = q.0.visit;
            told_is = (so.taken k p.0 p.1).seen;
            end = is.loop;
            going = subst (λ (n : List Note). Regrades tells Answers clerk_sees (record { desk = clerk_of p.0.visit []; clock = p.0.place }) (record { desk = clerk_of q.0.visit n; clock = q.0.place }) is.loop) mine
                (noted_first (λ a b. Regrades tells Answers clerk_sees (record { desk = a; clock = p.0.place }) (record { desk = b; clock = q.0.place }) is.loop) p.0.visit q.0.visit p.0.notes q.0.notes is.notes (fresh.each k p.0 p.1));
            kept = takes.each k q.0 q.1;
          }

-- what is kept of what was seen
pub noted_kept : {D C : Type 0} (serves : Serving D C) (told : Tellings) (Kept Known : Tellings → Type 0) (count : ℕ) (old new : List (D × C)) (end : DoorEnd) (books : List (List Note)) → ((t : Tellings) → Kept t → Known t)
    → NotesBeside serves told Kept count old new end books → NotesBeside serves told Known count old new end books
noted_kept serves told Kept Known count old new end books to so = record {
  ends = so.ends;
  count_is = so.count_is;
  end_is = so.end_is;
  each = λ k e notes at there.
      let it = so.each k e notes at there in
      record { door = it.door; served = it.served; clock = it.clock; ticked = it.ticked; first = it.first; last = it.last; told_is = it.told_is; before = it.before; after = it.after; going = it.going; kept = to (seen_in it.last.passes) it.kept };
}

pub works_kept : {C : Type 0} (tells : C → ℕ → C → Type 0) (told : Tellings) (Kept Known : Tellings → Type 0) (workers count : ℕ) (books : List (List Note)) → ((t : Tellings) → Kept t → Known t)
    → NotesWorks tells told Kept workers count books → NotesWorks tells told Known workers count books
works_kept tells told Kept Known workers count books to so = record {
  each = λ k notes within there.
      let it = so.each k notes within there in
      record { clock = it.clock; ticked = it.ticked; first = it.first; last = it.last; told_is = it.told_is; end = it.end; going = it.going; kept = to (seen_in it.last.passes) it.kept };
}

-- ---- how long the lists were

-- as those tell by whom nothing was asked yet
pub long_told : (t : Tellings) (p : Seats) (last now base : Last) → seen_in p ≡ t → IsUnasked p last → now ≡ last → base.catalog ≡ now.catalog → base.parts ≡ now.parts → AreLong t base
long_told t p last now base told unasked same catalog parts = subst (λ (u : Tellings). AreLong u base) told record {
  catalog = catalog ∙ ap (λ (l : Last). l.catalog) same ∙ unasked.catalog;
  parts = subst (AreCounted (seen_by p.parts)) (sym (parts ∙ ap (λ (l : Last). l.parts) same)) unasked.parts;
}
