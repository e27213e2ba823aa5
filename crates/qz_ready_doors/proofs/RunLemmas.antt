-- What happened at a door, one thing after the other, is at each desk a run of its own.
use Rattle.std.proofs.Common.{◌≡◌, inl, inr, ℕ, suc, zero, ◌+◌, ◌<◌, ◌≤◌, Bool, true, false, List, [], ◌∷◌, ◌++◌, length, map, filter, slice_get, slice_set, Option, Some, None, refl, sym, ap, ◌∙◌, subst, append-nil, append_assoc, length-append, arith}
use Rattle.std.specs.Prelude.{◌==◌, option_map}
use Rattle.std.specs.List.{All}
use Rattle.std.specs.List.Sorted.{IsPermutation}
use Rattle.std.proofs.lemmas.Bool.{cases_eq, eqb-false, eqb-true}
use Rattle.std.proofs.lemmas.List.{length-map, length-set, map-append}
use Rattle.std.proofs.lemmas.List.Elements.{All-append, filter-append}
use Rattle.std.proofs.lemmas.List.Sorted.{IsPermutation-append_right, IsPermutation-cons, IsPermutation-middle, IsPermutation-refl, IsPermutation-sym, IsPermutation-to_front, IsPermutation-trans, length_permutation}
use Rattle.std.proofs.lemmas.Option.{slice_get-map, slice_get_within}
use Rattle.qz_doors.specs.Doors.{Entrance, ServesInTurn, TakesNoLink, is_short, shorter}
use Rattle.qz_doors.specs.Doors as turns
use Rattle.qz_doors.specs.Links.{LinkEnds, Peer}
use Rattle.qz_http.specs.declared.items.LinkEnd.{LinkEnd}
use Rattle.qz_terms.specs.declared.ask.Ask.{Ask}
use Rattle.qz_terms.specs.declared.reply.Reply.{Reply}
use Rattle.qz_asking.specs.Asking.{Answerer}
use Rattle.qz_ready_doors.specs.declared.end.PollWhy.{PollWhy}
use Rattle.qz_ready_doors.specs.Halls.{EndsLink, Hall, Happens, Place, ServesReady, TakesLink, all_free, answerer_of, busy, ended, free, none, took, tried}
use Rattle.qz_ready_doors.specs.Runs.{Ending, ServesEach, ServesThese, endings_at}
use Rattle.qz_ready_doors.proofs.Places.{get_set}

-- ---- places

abbrev at_place : {L S : Type 0} → Place L S → S
at_place (free a) = a
at_place (busy link a) = a

abbrev open_links : {L S : Type 0} → List (Place L S) → List L
open_links [] = []
open_links (free a ∷ ps) = open_links ps
open_links (busy link a ∷ ps) = link ∷ open_links ps

get-set_other : {X : Type 0} (xs : List X) (i k : ℕ) (y : X) → (k ≡ i → ⊥) → slice_get (slice_set xs i y) k ≡ slice_get xs k
get-set_other [] i k y other = refl
get-set_other (z ∷ zs) zero zero y other = absurd (other refl)
get-set_other (z ∷ zs) zero (suc k) y other = refl
get-set_other (z ∷ zs) (suc i) zero y other = refl
get-set_other (z ∷ zs) (suc i) (suc k) y other = get-set_other zs i k y (λ is. other (ap suc is))

two : {L : Type 0} (x y : L) (xs : List L) → IsPermutation (x ∷ y ∷ xs) (y ∷ x ∷ xs)
two x y xs = IsPermutation-middle (x ∷ []) y xs

-- a link more is open
opens : {L S : Type 0} (ps : List (Place L S)) (i : ℕ) (a b : S) (link : L) → slice_get ps i ≡ Some (free a) → IsPermutation (link ∷ open_links ps) (open_links (slice_set ps i (busy link b)))
opens [] i a b link is = absurd cc
opens (free c ∷ ps) zero a b link is = IsPermutation-refl (link ∷ open_links ps)
opens (busy l c ∷ ps) zero a b link is = absurd cc
opens (free c ∷ ps) (suc i) a b link is = opens ps i a b link is
opens (busy l c ∷ ps) (suc i) a b link is =
    IsPermutation-trans (link ∷ l ∷ open_links ps) (l ∷ link ∷ open_links ps) (l ∷ open_links (slice_set ps i (busy link b))) (two link l (open_links ps))
    (IsPermutation-cons l (link ∷ open_links ps) (open_links (slice_set ps i (busy link b))) (opens ps i a b link is))

-- one isn't open any more
closes : {L S : Type 0} (ps : List (Place L S)) (i : ℕ) (a b : S) (link : L) → slice_get ps i ≡ Some (busy link a) → IsPermutation (open_links ps) (link ∷ open_links (slice_set ps i (free b)))
closes [] i a b link is = absurd cc
closes (free c ∷ ps) zero a b link is = absurd cc
closes (busy l c ∷ ps) zero a b link is = let same : l ≡ link = cc in subst (λ (x : _). IsPermutation (x ∷ open_links ps) (link ∷ open_links ps)) (sym same) (IsPermutation-refl (link ∷ open_links ps))
closes (free c ∷ ps) (suc i) a b link is = closes ps i a b link is
closes (busy l c ∷ ps) (suc i) a b link is =
    IsPermutation-trans (l ∷ open_links ps) (l ∷ link ∷ open_links (slice_set ps i (free b))) (link ∷ l ∷ open_links (slice_set ps i (free b)))
    (IsPermutation-cons l (open_links ps) (link ∷ open_links (slice_set ps i (free b))) (closes ps i a b link is)) (two l link (open_links (slice_set ps i (free b))))

-- ---- the links that were taken, and those given back

none-taken : {L : Type 0} (o : Option (List L)) → o ≡ option_map (λ left. [] ++ left) o
none-taken None = refl
none-taken (Some left) = refl

none-given : {L : Type 0} (o : Option (List L)) → o ≡ option_map (λ back. back ++ []) o
none-given None = refl
none-given (Some back) = ap Some (sym (append-nil back))

one-taken : {L : Type 0} (old mid new : Option (List L)) (links : List L) (link : L) → old ≡ option_map (λ left. links ++ left) mid → mid ≡ option_map (λ left. link ∷ left) new
    → old ≡ option_map (λ left. (links ++ link ∷ []) ++ left) new
one-taken old mid None links link first second = first ∙ ap (option_map (λ left. links ++ left)) second
one-taken old mid (Some left) links link first second = first ∙ (ap (option_map (λ l. links ++ l)) second ∙ ap Some (sym (append_assoc links (link ∷ []) left)))

one-given : {L : Type 0} (old mid new : Option (List L)) (back : List L) (link : L) → mid ≡ option_map (λ l. l ++ back) old → new ≡ option_map (λ l. l ++ link ∷ []) mid
    → new ≡ option_map (λ l. l ++ (back ++ link ∷ [])) old
one-given None mid new back link first second = second ∙ ap (option_map (λ r. r ++ link ∷ [])) first
one-given (Some l) mid new back link first second = second ∙ (ap (option_map (λ r. r ++ link ∷ [])) first ∙ ap Some (append_assoc l back (link ∷ [])))

-- ---- in turn

one-more : {L S : Type 0} (asks : S → S → Ask → Reply → Type 0) (peer : L → Peer) (a b c : S) (links back : List L) (ends : List LinkEnd) (link served : L) (why : LinkEnd)
    → ServesInTurn asks peer a links back ends b → LinkEnds asks (peer link) (peer served) b c why → ServesInTurn asks peer a (links ++ link ∷ []) (back ++ served ∷ []) (ends ++ why ∷ []) c
one-more asks peer a _ c _ _ _ link served why (turns.none _) serves = turns.one a c c link served why [] [] [] serves (turns.none c)
one-more asks peer a b c _ _ _ link served why (turns.one _ m _ first then how links back ends is rest) serves =
    turns.one a m c first then how (links ++ link ∷ []) (back ++ served ∷ []) (ends ++ why ∷ []) is (one-more asks peer m b c links back ends link served why rest serves)

these-more : {L S : Type 0} (asks : S → S → Ask → Reply → Type 0) (peer : L → Peer) (a b c : S) (es : List (Ending L)) (e : Ending L)
    → ServesThese asks peer a es b → LinkEnds asks (peer e.link) (peer e.served) b c e.why → ServesThese asks peer a (es ++ e ∷ []) c
these-more asks peer a b c es e served ends =
    rw (map-append (λ (x : Ending _). x.link) es (e ∷ []), map-append (λ (x : Ending _). x.served) es (e ∷ []), map-append (λ (x : Ending _). x.why) es (e ∷ []))
    (one-more asks peer a b c (map (λ x. x.link) es) (map (λ x. x.served) es) (map (λ x. x.why) es) e.link e.served e.why served ends)

at-own : {L : Type 0} (k : ℕ) (es : List (Ending L)) (e : Ending L) → e.place ≡ k → endings_at k (es ++ e ∷ []) ≡ endings_at k es ++ e ∷ []
at-own k es e is = filter-append (λ x. x.place == k) es (e ∷ []) ∙ by (e.place == k) refl
  where
    by : (b : Bool) → e.place == k ≡ b → endings_at k es ++ endings_at k (e ∷ []) ≡ endings_at k es ++ e ∷ []
    by true same = rw same refl
    by false differs = absurd (eqb-false e.place k differs is)

at-other : {L : Type 0} (k : ℕ) (es : List (Ending L)) (e : Ending L) → (k ≡ e.place → ⊥) → endings_at k (es ++ e ∷ []) ≡ endings_at k es
at-other k es e other = filter-append (λ x. x.place == k) es (e ∷ []) ∙ by (e.place == k) refl
  where
    by : (b : Bool) → e.place == k ≡ b → endings_at k es ++ endings_at k (e ∷ []) ≡ endings_at k es
    by true is = absurd (other (sym (eqb-true e.place k is)))
    by false is = rw is (append-nil (endings_at k es))

short-more : {L : Type 0} (es : List (Ending L)) (e : Ending L) (short : ℕ) → short ≡ length (filter (λ x. is_short x.why) es) → shorter (is_short e.why) short ≡ length (filter (λ x. is_short x.why) (es ++ e ∷ []))
short-more es e short is = by (is_short e.why) refl
  where
    by : (t : Bool) → is_short e.why ≡ t → shorter (is_short e.why) short ≡ length (filter (λ x. is_short x.why) (es ++ e ∷ []))
    by true t = rw (filter-append (λ (x : Ending _). is_short x.why) es (e ∷ []), t) (omega (arith, is, length-append (filter (λ x. is_short x.why) es) (e ∷ [])))
    by false t = rw (filter-append (λ (x : Ending _). is_short x.why) es (e ∷ []), t) (omega (arith, is, length-append (filter (λ (x : Ending _). is_short x.why) es) []))

-- ---- a run so far

-- what each place has served; the links taken are those that have ended and those that are open
record RunsOn {L S : Type 0} (asks : S → S → Ask → Reply → Type 0) (peer : L → Peer) (old new : Hall L S) (taken short : ℕ) : Type 0 where
  links : List L
  endings : List (Ending L)
  as_many : length new.places ≡ length old.places
  places : (k : ℕ) (p q : Place L S) → slice_get old.places k ≡ Some p → slice_get new.places k ≡ Some q → ServesThese asks peer (at_place p) (endings_at k endings) (at_place q)
  somewhere : All (λ e. e.place < length old.places) endings
  all : IsPermutation (open_links old.places ++ links) (map (λ e. e.link) endings ++ open_links new.places)
  left : old.entrance.left ≡ option_map (λ left. links ++ left) new.entrance.left
  returned : new.entrance.returned ≡ option_map (λ back. back ++ map (λ e. e.served) endings) old.entrance.returned
  taken_is : taken ≡ length links
  short_is : short ≡ length (filter (λ e. is_short e.why) endings)
  later : old.entrance.faults ≤ new.entrance.faults

module _ {L S : Type 0} (asks : S → S → Ask → Reply → Type 0) (peer : L → Peer) (old : Hall L S) where
  begins : RunsOn asks peer old old 0 0
  begins = record {
    links = [];
    endings = [];
    as_many = refl;
    places = λ k p q before after. let same : p ≡ q = cc in subst (λ (x : Place L S). ServesThese asks peer (at_place p) [] (at_place x)) same (turns.none (at_place p));
    somewhere = λ k d less. absurd (omega (arith, less));
    all = subst (λ (l : List L). IsPermutation l (open_links old.places)) (sym (append-nil (open_links old.places))) (IsPermutation-refl (open_links old.places));
    left = none-taken old.entrance.left;
    returned = none-given old.entrance.returned;
    taken_is = refl;
    short_is = refl;
    later = omega arith;
  }

  module _ (mid new : Hall L S) (taken short : ℕ) (so : RunsOn asks peer old mid taken short) where
    takes : TakesLink mid new → RunsOn asks peer old new (taken + 1) short
    takes t = record {
      links = so.links ++ t.link ∷ [];
      endings = so.endings;
      as_many = ap length t.places ∙ length-set mid.places t.at (busy t.link t.a) ∙ so.as_many;
      places = λ k p q before after. elim (cases_eq k t.at) [
        | inl is ↦
            let here : q ≡ busy t.link t.a = let there = get_set mid.places t.at (busy t.link t.a) (slice_get_within mid.places t.at (free t.a) t.was_free) in let now = subst (λ (l : List (Place L S)). slice_get l k ≡ Some q) t.places after in let now_at = subst (λ (n : ℕ). slice_get (slice_set mid.places t.at (busy t.link t.a)) n ≡ Some q) is now in cc in
            let was : slice_get mid.places k ≡ Some (free t.a) = subst (λ (n : ℕ). slice_get mid.places n ≡ Some (free t.a)) (sym is) t.was_free in
            subst (λ (x : Place L S). ServesThese asks peer (at_place p) (endings_at k so.endings) (at_place x)) (sym here) (so.places k p (free t.a) before was)
        | inr other ↦ so.places k p q before (sym (get-set_other mid.places t.at k (busy t.link t.a) other) ∙ subst (λ (l : List (Place L S)). slice_get l k ≡ Some q) t.places after)
      ];
      somewhere = so.somewhere;
      all =
          let ends : List L = map (λ e. e.link) so.endings in
          let before = open_links old.places ++ so.links in
          let now = open_links mid.places in
          subst (λ (l : List L). IsPermutation l (ends ++ open_links new.places)) (append_assoc (open_links old.places) so.links (t.link ∷ []))
          (IsPermutation-trans (before ++ t.link ∷ []) (t.link ∷ before) (ends ++ open_links new.places) (IsPermutation-to_front before t.link)
          (IsPermutation-trans (t.link ∷ before) (t.link ∷ (ends ++ now)) (ends ++ open_links new.places) (IsPermutation-cons t.link before (ends ++ now) so.all)
          (IsPermutation-trans (t.link ∷ (ends ++ now)) (ends ++ t.link ∷ now) (ends ++ open_links new.places) (IsPermutation-sym (ends ++ t.link ∷ now) (t.link ∷ (ends ++ now)) (IsPermutation-middle ends t.link now))
          (IsPermutation-append_right ends (t.link ∷ now) (open_links new.places) (subst (λ (l : List (Place L S)). IsPermutation (t.link ∷ now) (open_links l)) (sym t.places) (opens mid.places t.at t.a t.a t.link t.was_free))))));
      left = one-taken old.entrance.left mid.entrance.left new.entrance.left so.links t.link so.left t.left;
      returned = t.returned ∙ so.returned;
      taken_is = omega (arith, so.taken_is, length-append so.links (t.link ∷ []));
      short_is = so.short_is;
      later = omega (arith, so.later, t.later);
    }

    ends_one : (why : LinkEnd) → EndsLink asks peer mid new why → RunsOn asks peer old new taken (shorter (is_short why) short)
    ends_one why t =
        let e : Ending L = record { place = t.at; link = t.link; served = t.served; why = why } in
        record {
          links = so.links;
          endings = so.endings ++ e ∷ [];
          as_many = ap length t.places ∙ length-set mid.places t.at (free t.b) ∙ so.as_many;
          places = λ k p q before after. elim (cases_eq k t.at) [
            | inl is ↦
                let here : q ≡ free t.b = let there = get_set mid.places t.at (free t.b) (slice_get_within mid.places t.at (busy t.link t.a) t.was_busy) in let now = subst (λ (l : List (Place L S)). slice_get l k ≡ Some q) t.places after in let now_at = subst (λ (n : ℕ). slice_get (slice_set mid.places t.at (free t.b)) n ≡ Some q) is now in cc in
                let was : slice_get mid.places k ≡ Some (busy t.link t.a) = subst (λ (n : ℕ). slice_get mid.places n ≡ Some (busy t.link t.a)) (sym is) t.was_busy in
                let more = these-more asks peer (at_place p) t.a t.b (endings_at k so.endings) e (so.places k p (busy t.link t.a) before was) t.ends in
                subst (λ (x : Place L S). ServesThese asks peer (at_place p) (endings_at k (so.endings ++ e ∷ [])) (at_place x)) (sym here) (rw (at-own k so.endings e (sym is)) more)
            | inr other ↦ rw (at-other k so.endings e other) (so.places k p q before (sym (get-set_other mid.places t.at k (free t.b) other) ∙ subst (λ (l : List (Place L S)). slice_get l k ≡ Some q) t.places after))
          ];
          somewhere = All-append (λ (x : Ending L). x.place < length old.places) so.endings (e ∷ []) so.somewhere (within e (omega (arith, slice_get_within mid.places t.at (busy t.link t.a) t.was_busy, so.as_many)));
          all =
              let ends : List L = map (λ x. x.link) so.endings in
              let before = open_links old.places ++ so.links in
              let now = open_links new.places in
              subst (IsPermutation before) (sym (ap (λ (l : List L). l ++ now) (map-append (λ (x : Ending L). x.link) so.endings (e ∷ [])) ∙ append_assoc ends (t.link ∷ []) now))
              (IsPermutation-trans before (ends ++ open_links mid.places) (ends ++ t.link ∷ now) so.all
              (IsPermutation-append_right ends (open_links mid.places) (t.link ∷ now) (subst (λ (l : List (Place L S)). IsPermutation (open_links mid.places) (t.link ∷ open_links l)) (sym t.places) (closes mid.places t.at t.a t.b t.link t.was_busy))));
          left = so.left ∙ ap (option_map (λ left. so.links ++ left)) (sym t.left);
          returned = one-given old.entrance.returned mid.entrance.returned new.entrance.returned (map (λ x. x.served) so.endings) t.served so.returned t.returned ∙ ap (λ (l : List L). option_map (λ back. back ++ l) old.entrance.returned) (sym (map-append (λ (x : Ending L). x.served) so.endings (e ∷ [])));
          taken_is = so.taken_is;
          short_is = short-more so.endings e short so.short_is;
          later = omega (arith, so.later, t.faults);
        }
      where
        within : (e : Ending L) → e.place < length old.places → All (λ x. x.place < length old.places) (e ∷ [])
        within e is zero d less = is
        within e is (suc k) d less = absurd (omega (arith, less))

    tries : TakesNoLink mid.entrance new.entrance → new.places ≡ mid.places → RunsOn asks peer old new taken short
    tries t same = record {
      links = so.links;
      endings = so.endings;
      as_many = ap length same ∙ so.as_many;
      places = λ k p q before after. so.places k p q before (subst (λ (l : List (Place L S)). slice_get l k ≡ Some q) same after);
      somewhere = so.somewhere;
      all = subst (λ (l : List (Place L S)). IsPermutation (open_links old.places ++ so.links) (map (λ e. e.link) so.endings ++ open_links l)) (sym same) so.all;
      left = so.left ∙ ap (option_map (λ left. so.links ++ left)) (sym t.left);
      returned = t.returned ∙ so.returned;
      taken_is = so.taken_is;
      short_is = so.short_is;
      later = omega (arith, so.later, t.later);
    }

  runs_on : (new : Hall L S) (taken short : ℕ) → Happens asks peer old new taken short → RunsOn asks peer old new taken short
  runs_on _ _ _ none = begins
  runs_on _ _ _ (took mid new taken short before t) = takes mid new taken short (runs_on mid taken short before) t
  runs_on _ _ _ (ended mid new taken short why before t) = ends_one mid new taken short (runs_on mid taken short before) why t
  runs_on _ _ _ (tried mid new taken short before t same) = tries mid new taken short (runs_on mid taken short before) t same

-- ---- a run from desks that are all free to desks that are all free

none-open : {L S : Type 0} (desks : List S) → open_links {L = L} {S = S} (map free desks) ≡ []
none-open [] = refl
none-open (a ∷ desks) = none-open desks

there : {L S : Type 0} (desks : List S) (k : ℕ) (a : S) → slice_get desks k ≡ Some a → slice_get {X = Place L S} (map free desks) k ≡ Some (free a)
there desks k a is = slice_get-map free desks k ∙ ap (option_map free) is

pub each_runs : {L S : Type 0} (asks : S → S → Ask → Reply → Type 0) (peer : L → Peer) (old new : Entrance L) (befores afters : List S) (taken short : ℕ)
    → Happens asks peer (record { entrance = old; places = map free befores }) (record { entrance = new; places = map free afters }) taken short → ServesEach asks peer old new befores afters taken short
each_runs {L} {S} asks peer old new befores afters taken short happens =
    let so = runs_on asks peer (record { entrance = old; places = map free befores }) (record { entrance = new; places = map free afters }) taken short happens in
    let none_before : open_links {L = L} {S = S} (map free befores) ≡ [] = none-open befores in
    let none_after : open_links {L = L} {S = S} (map free afters) ≡ [] = none-open afters in
    let ends : List L = map (λ e. e.link) so.endings in
    let same : IsPermutation so.links ends =
    subst (IsPermutation so.links) (ap (λ (l : List L). ends ++ l) none_after ∙ append-nil ends) (subst (λ (l : List L). IsPermutation (l ++ so.links) (ends ++ open_links {L = L} {S = S} (map free afters))) none_before so.all) in
    record {
      links = so.links;
      endings = so.endings;
      as_many = sym (length-map afters free) ∙ so.as_many ∙ length-map befores free;
      desks = λ k a b before after. so.places k (free a) (free b) (there befores k a before) (there afters k b after);
      somewhere = subst (λ (n : ℕ). All (λ (e : Ending L). e.place < n) so.endings) (length-map befores free) so.somewhere;
      all = same;
      left = so.left;
      returned = so.returned;
      taken_is = so.taken_is ∙ many so.endings so.links same;
      short_is = so.short_is;
      later = so.later;
    }
  where
    many : (es : List (Ending L)) (links : List L) → IsPermutation links (map (λ e. e.link) es) → length links ≡ length es
    many es links is = sym (length_permutation links (map (λ e. e.link) es) is) ∙ length-map es (λ (e : Ending L). e.link)

-- a door that was served
pub serves_each : {D L C : Type 0} (asks : Answerer D C → Answerer D C → Ask → Reply → Type 0) (peer : L → Peer) (most : ℕ) (old new : Entrance L) (befores afters : List (D × C)) (taken short : ℕ) (why : PollWhy)
    → ServesReady asks peer most (all_free old befores) new afters taken short why → ServesEach asks peer old new (map answerer_of befores) (map answerer_of afters) taken short
serves_each asks peer most old new befores afters taken short why so = each_runs asks peer old new (map answerer_of befores) (map answerer_of afters) taken short so.happens
