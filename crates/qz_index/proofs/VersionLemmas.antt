-- Where versions stand, one that is learned more at a time.
use Rattle.std.proofs.Common.{◌≡◌, ℕ, zero, suc, ◌+◌, ◌<◌, Bool, true, false, ◌&&◌, List, [], ◌∷◌, ◌++◌, Option, Some, None, length, take, get_or, refl, sym, ap, subst, ◌∙◌, All}
use Rattle.std.specs.BTreeMap.{Updates}
use Rattle.std.specs.Option.{option_or}
use Rattle.std.specs.Prelude.{filter_map, if◌then◌else◌, map, option_and_then, option_map, slice_get, ◌==◌}
use Rattle.std.proofs.lemmas.Bool.{eqb-true}
use Rattle.std.proofs.lemmas.List.Elements.{All-get_or, All-nil, All-push, All-weaker}
use Rattle.std.proofs.lemmas.Option.{get_or_from_slice_get, slice_get_read, slice_get_within}
use Rattle.qz_lemmas.proofs.Bools.{and-left, and-right}
use Rattle.qz_lemmas.proofs.Lists.{get-append}
use Rattle.qz_lemmas.proofs.Options.{or-none}
use Rattle.qz_grading.proofs.StepLemmas.{slice_get-push}
use Rattle.qz_grading.specs.declared.question.Question.{Question}
use Rattle.qz_grading.specs.Questions.{IsQuestion}
use Rattle.qz_terms.specs.declared.record.Event.{Event}
use Rattle.qz_terms.specs.declared.record.Event.TheVariants as event
use Rattle.qz_terms.specs.declared.record.Learned.{Learned}
use Rattle.qz_terms.specs.declared.record.Record.{Record}
use Rattle.qz_terms.specs.History.{learned_by, learned_version, learns, version}
use Rattle.qz_terms.specs.Kept.{AreLearned, IsKept, KeepsEvent}
use Rattle.qz_terms.specs.Lists.{first_of}
use Rattle.qz_terms.proofs.Walks.{first_kept, first_of-push, take-one_more}
use Rattle.qz_index.specs.declared.versions.Origin.{Origin}
use Rattle.qz_index.specs.declared.versions.Versions.{Versions}
use Rattle.qz_room.specs.Pairs.{pair_cmp}
use Rattle.qz_index.specs.Versions.{AreVersions, HasOrigin, HasOrigins, StandsAt, origin, question_at}
use Rattle.qz_room.proofs.Filled.{filled_by, pair_at}

or-grouped : {A : Type 0} (a b c : Option A) → option_or a (option_or b c) ≡ option_or (option_or a b) c
or-grouped None b c = refl
or-grouped (Some x) b c = refl

-- ---- a version is learned

learned-by : (m : Versions) (entry number e v : ℕ) (place : Origin) (b : Bool) → (entry == e) && (number == v) ≡ b → origin m entry number ≡ None → (if b then Some place else origin m e v) ≡ option_or (origin m e v) (if b then Some place else None)
learned-by m entry number e v place true is none =
    let one = eqb-true entry e (and-left (entry == e) (number == v) is) in
    let other = eqb-true number v (and-right (entry == e) (number == v) is) in
    let none' : origin m e v ≡ None = sym (ap (λ n. origin m n number) one ∙ ap (λ n. origin m e n) other) ∙ none in
    sym (ap (λ (o : Option Origin). option_or o (Some place)) none')
learned-by m entry number e v place false is none = sym (or-none (origin m e v))

pub origin_learned : (m n : Versions) (entry number : ℕ) (place : Origin) → Updates pair_cmp m.origins n.origins (entry, number) (Some (Some place)) → origin m entry number ≡ None
    → (e v : ℕ) → origin n e v ≡ option_or (origin m e v) (if (entry == e) && (number == v) then Some place else None)
origin_learned m n entry number place u none e v = filled_by pair_cmp m.origins n.origins (entry, number) (Some place) None (e, v) ((entry == e) && (number == v)) (pair_at (entry, number) (e, v)) u ∙ learned-by m entry number e v place ((entry == e) && (number == v)) refl none

-- ---- a list that has one record more

at-more : (h : List Record) (r : Record) (o : Origin) (q : Question) (s : Option Record) → slice_get h o.place ≡ s → question_at h o ≡ Some q → question_at (h ++ r ∷ []) o ≡ Some q
at-more h r o q None is stands = let none : None ≡ Some q = rw is at stands in absurd cc
at-more h r o q (Some s) is stands =
    let same : slice_get (h ++ r ∷ []) o.place ≡ slice_get h o.place = get-append h (r ∷ []) o.place s is ∙ sym is in
    ap (λ (t : Option Record). option_and_then (λ (u : Record). option_map (λ (l : Learned). l.question) (slice_get (learned_by u.event) o.item)) t) same ∙ stands

stands-more : (h : List Record) (r : Record) (known : Option Question) (place : Option Origin) → StandsAt h known place → StandsAt (h ++ r ∷ []) known place
stands-more h r known None is = is
stands-more h r known (Some o) is = (is.0, is.1, at-more h r o is.0 (slice_get h o.place) refl is.2)

-- ---- of a record some versions are learned

-- what is known behind these records, and with these versions
abbrev pub known : List Record → List Learned → ℕ → ℕ → Option Question
known h ls e v = option_or (version h e v) (first_of (filter_map (learned_version e v) ls))

pub record AreKnown (m : Versions) (h : List Record) (r : Record) (ls : List Learned) : Type 0 where
  pub each : (e v : ℕ) → StandsAt (h ++ r ∷ []) (known h ls e v) (origin m e v)

pub known_first : (m : Versions) (h : List Record) (r : Record) → AreVersions m h → AreKnown m h r []
known_first m h r are = record {
  each = λ e v. subst (λ (q : Option Question). StandsAt (h ++ r ∷ []) q (origin m e v)) (sym (or-none (version h e v))) (stands-more h r (version h e v) (origin m e v) (are.each e v));
}

pub known_last : (m : Versions) (h : List Record) (r : Record) → AreKnown m h r (learned_by r.event) → AreVersions m (h ++ r ∷ [])
known_last m h r are = record {
  each = λ e v. subst (λ (q : Option Question). StandsAt (h ++ r ∷ []) q (origin m e v)) (sym (first_of-push (learns e v) h r)) (are.each e v);
}

here : (h : List Record) (r : Record) (i : ℕ) (l : Learned) → slice_get (learned_by r.event) i ≡ Some l → question_at (h ++ r ∷ []) (record { place = length h; item = i }) ≡ Some l.question
here h r i l is =
    ap (λ (t : Option Record). option_and_then (λ (u : Record). option_map (λ (k : Learned). k.question) (slice_get (learned_by u.event) i)) t) (slice_get-push h r)
    ∙ ap (λ (t : Option Learned). option_map (λ (k : Learned). k.question) t) is

stands-step : (h : List Record) (l : Learned) (place : Origin) (so_far : Option Question) (old : Option Origin) (b : Bool) → StandsAt h so_far old → question_at h place ≡ Some l.question
    → StandsAt h (option_or so_far (if b then Some l.question else None)) (option_or old (if b then Some place else None))
stands-step h l place so_far None true is at = (l.question, ap (λ (q : Option Question). option_or q (Some l.question)) is, at)
stands-step h l place so_far None false is at = ap (λ (q : Option Question). option_or q None) is
stands-step h l place so_far (Some o) b is at = (is.0, ap (λ (q : Option Question). option_or q (if b then Some l.question else None)) is.1, is.2)

pub known_more : (m n : Versions) (h : List Record) (r : Record) (i : ℕ) (l : Learned) → i < length (learned_by r.event) → l ≡ get_or (learned_by r.event) i l
    → ((e v : ℕ) → origin n e v ≡ option_or (origin m e v) (if (l.entry == e) && (l.version == v) then Some (record { place = length h; item = i }) else None))
    → AreKnown m h r (take i (learned_by r.event)) → AreKnown n h r (take (i + 1) (learned_by r.event))
known_more m n h r i l inside is new are = record {
  each = λ e v.
      let more : known h (take (i + 1) (learned_by r.event)) e v ≡ option_or (known h (take i (learned_by r.event)) e v) (learned_version e v l) =
      ap (option_or (version h e v)) (first_kept (learned_version e v) (learned_by r.event) i l inside is) ∙ or-grouped (version h e v) (first_of (filter_map (learned_version e v) (take i (learned_by r.event)))) (learned_version e v l) in
      subst (λ (o : Option Origin). StandsAt (h ++ r ∷ []) (known h (take (i + 1) (learned_by r.event)) e v) o) (sym (new e v))
      (subst (λ (q : Option Question). StandsAt (h ++ r ∷ []) q (option_or (origin m e v) (if (l.entry == e) && (l.version == v) then Some (record { place = length h; item = i }) else None))) (sym more)
      (stands-step (h ++ r ∷ []) l (record { place = length h; item = i }) (known h (take i (learned_by r.event)) e v) (origin m e v) ((l.entry == e) && (l.version == v)) (are.each e v) (here h r i l (slice_get_read (learned_by r.event) (length (learned_by r.event)) i l refl inside is))));
}

-- ---- the question that is found

learned-kept : (d : Event) → KeepsEvent d → AreLearned (learned_by d)
learned-kept (event.Started q n b bs ls) keeps = keeps.1
learned-kept (event.Rebound job a k b ls) keeps = keeps.1
learned-kept d keeps = All-nil IsQuestion

mapped : (ls : List Learned) (i : ℕ) (l : Learned) → slice_get ls i ≡ Some l → slice_get (map (λ (k : Learned). k.question) ls) i ≡ Some l.question
mapped [] i l is = absurd cc
mapped (k ∷ ks) zero l is = let same : k ≡ l = cc in ap (λ (t : Learned). Some t.question) same
mapped (k ∷ ks) (suc i) l is = mapped ks i l is

all-at : {A : Type 0} (P : A → Type 0) (xs : List A) (i : ℕ) (x : A) → slice_get xs i ≡ Some x → All P xs → P x
all-at P xs i x is all = subst P (get_or_from_slice_get xs i x x is) (All-get_or P xs i x (slice_get_within xs i x is) all)

pub question_kept : (h : List Record) (i : ℕ) (r : Record) (ls : List Learned) (j : ℕ) (l : Learned) → All IsKept h → i < length h → r ≡ get_or h i r → ls ≡ learned_by r.event → j < length ls → l ≡ get_or ls j l → IsQuestion l.question
question_kept h i r ls j l kept inside is same inside' at =
    let keeps : AreLearned (learned_by r.event) = learned-kept r.event (subst IsKept (sym is) (All-get_or IsKept h i r inside kept)).event in
    let at' : slice_get (learned_by r.event) j ≡ Some l = ap (λ (t : List Learned). slice_get t j) (sym same) ∙ slice_get_read ls (length ls) j l refl inside' at in
    all-at IsQuestion (map (λ (k : Learned). k.question) (learned_by r.event)) j l.question (mapped (learned_by r.event) j l at') keeps

-- ---- room for what is learned

pub origins_more : (m n : Versions) (ls : List Learned) (i : ℕ) (l : Learned) → i < length ls → l ≡ get_or ls i l → ((e v : ℕ) → HasOrigin m e v → HasOrigin n e v) → HasOrigin n l.entry l.version → HasOrigins m (take i ls) → HasOrigins n (take (i + 1) ls)
origins_more m n ls i l inside is kept one so_far =
    subst (HasOrigins n) (sym (take-one_more ls i l inside is))
    (All-push (λ (k : Learned). HasOrigin n k.entry k.version) (take i ls) l (All-weaker (λ (k : Learned). HasOrigin m k.entry k.version) (λ (k : Learned). HasOrigin n k.entry k.version) (λ k is. kept k.entry k.version is) (take i ls) so_far) one)

pub origins_kept : (m n : Versions) (ls : List Learned) → ((e v : ℕ) → HasOrigin m e v → HasOrigin n e v) → HasOrigins m ls → HasOrigins n ls
origins_kept m n ls kept so_far = All-weaker (λ (k : Learned). HasOrigin m k.entry k.version) (λ (k : Learned). HasOrigin n k.entry k.version) (λ k is. kept k.entry k.version is) ls so_far
