-- The rows of finished attempts, with one more record.
use Rattle.std.proofs.Common.{◌≡◌, ℕ, ◌<◌, Bool, true, false, ◌&&◌, ◌||◌, List, [], ◌∷◌, ◌++◌, Option, Some, None, option_map, length, map, get_or, refl, sym, ap, subst, ◌∙◌, append-nil, eq-eqb, All}
use Rattle.std.specs.BTreeMap.{Updates, get}
use Rattle.std.specs.Option.{option_or}
use Rattle.std.specs.Prelude.{ℤ, ◌==◌, IsSomeAnd, filter, filter_map, if◌then◌else◌, is_some, option_to_list, unwrap_or}
use Rattle.std.proofs.lemmas.Bool.{eqb-true}
use Rattle.std.proofs.lemmas.List.Elements.{All-cons, All-nil}
use Rattle.qz_gradebook.specs.declared.finished.Finished.{Finished}
use Rattle.qz_gradebook.specs.Totals.{Gradebook, is_there, total_at, totals_of, with_total}
use Rattle.qz_grading.specs.declared.refusal.AttemptId.{AttemptId}
use Rattle.qz_terms.specs.declared.grades.Method.{Method}
use Rattle.qz_terms.specs.declared.grades.Method.TheVariants as method
use Rattle.qz_terms.specs.declared.grades.Policy.{Policy}
use Rattle.qz_grading.specs.declared.outcome.Behaviour.{Behaviour}
use Rattle.qz_terms.specs.declared.plan.Bound.{Bound}
use Rattle.qz_terms.specs.declared.record.Event.TheVariants as event
use Rattle.qz_terms.specs.declared.record.How.{How}
use Rattle.qz_terms.specs.declared.record.How.TheVariants as how
use Rattle.qz_terms.specs.declared.record.Learned.{Learned}
use Rattle.qz_terms.specs.declared.record.Record.{Record}
use Rattle.qz_terms.specs.Legal.{IsLegal, StartIsAllowed}
use Rattle.qz_terms.specs.Lists.{in_order, places_to}
use Rattle.qz_terms.specs.History.{Slot, Start, attempt_before, attempts, ended, ended_finished, ends, is_finished, quiz, row, same_attempt, slot, slot_count, slots, start, started, starts, starts_at, total}
use Rattle.qz_terms.specs.History as history
use Rattle.qz_terms.specs.Rows.{row_of, total_of}
use Rattle.qz_terms.proofs.Walks.{all_of-push}
use Rattle.qz_lives.specs.declared.live.Begun.{Begun}
use Rattle.qz_lives.specs.declared.live.Live.{Live}
use Rattle.qz_lives.specs.declared.lives.Lives.{Lives}
use Rattle.qz_lives.specs.Attempts.{AreAttempts, AreLives, AreRows, IsTold, IsToldAs, RowMap, by_number, finished_at, finished_in, finished_of, live_in}
use Rattle.qz_lives.specs.Changes.{CanPutTotal, HasRow, HasPutTotal, row_with}
use Rattle.qz_lives.specs.Ones.{has_finished}
use Rattle.qz_lives.proofs.Changing.{Spares, slot-spared}
use Rattle.qz_lives.proofs.Effects.{attempt_of, begins-first, one-attempt}
use Rattle.qz_lives.proofs.Following.{self-same, spares-ended, spares-started, told-as, untold-by}
use Rattle.qz_lives.proofs.Keeping.{and-left, and-right}
use Rattle.qz_lives.proofs.Keys.{get-other, grown}
use Rattle.qz_lives.proofs.Legality.{started-number}
use Rattle.qz_lives.proofs.Members.{among-own, attempts-rise, attempts-users, from-one, is_among, of-its-quiz, start-at}
use Rattle.qz_lives.proofs.Putting.{IsLast, event-allowed}
use Rattle.qz_lives.proofs.Reading.{total-told}
use Rattle.qz_lives.proofs.RowLemmas.{IsAsBefore, as-before, missing, one-more, stands, told-anew, totals-rated}
use Rattle.qz_lives.proofs.Tellings.{ended-more, ended-same, start-same}

-- ---- an attempt that a record spares

filter_map-same-by : {A B : Type 0} (f g : A → Option B) (x : A) (xs : List A) (o : Option B) → f x ≡ g x → g x ≡ o → filter_map f xs ≡ filter_map g xs → filter_map f (x ∷ xs) ≡ filter_map g (x ∷ xs)
filter_map-same-by f g x xs None same is rest = let first : f x ≡ None = same ∙ is in rw (first, is) rest
filter_map-same-by f g x xs (Some y) same is rest = let first : f x ≡ Some y = same ∙ is in rw (first, is) (ap (λ (ys : List _). y ∷ ys) rest)

filter_map-same : {A B : Type 0} (f g : A → Option B) → ((x : A) → f x ≡ g x) → (xs : List A) → filter_map f xs ≡ filter_map g xs
filter_map-same f g same [] = refl
filter_map-same f g same (x ∷ xs) = filter_map-same-by f g x xs (g x) (same x) refl (filter_map-same f g same xs)

all-of : {A : Type 0} (P : A → Type 0) (xs : List A) → ((x : A) → P x) → All P xs
all-of P xs each k d within = each (get_or xs k d)

neither : (c d : Bool) → c || d ≡ false → (c ≡ false) × (d ≡ false)
neither true d is = absurd cc
neither false d is = (refl, is)

apart-all : (a : AttemptId) (xs : List AttemptId) → is_among a xs ≡ false → All (λ b. same_attempt a b ≡ false) xs
apart-all a [] none = All-nil (λ b. same_attempt a b ≡ false)
apart-all a (b ∷ xs) none = All-cons (λ c. same_attempt a c ≡ false) b xs (neither (same_attempt a b) (is_among a xs) none).0 (apart-all a xs (neither (same_attempt a b) (is_among a xs) none).1)

module _ (m : Lives) (l : List Record) (r : Record) (h : AreAttempts m l) where
  -- it is finished as before, with the total that it had
  abbrev Same : AttemptId → Type 0
  Same = IsAsBefore (total l) (total (l ++ r ∷ [])) (is_finished l) (is_finished (l ++ r ∷ []))

  module _ (b : AttemptId) (s : Spares r b) where
    spared-finished : is_finished (l ++ r ∷ []) b ≡ is_finished l b
    spared-finished = ap ended_finished (ended-same l r b s.no_end)

    spared-count : slot_count (l ++ r ∷ []) b ≡ slot_count l b
    spared-count = ap (λ (o : Option Start). unwrap_or (option_map (λ (x : Start). length x.bounds) o) 0) (start-same l r b s.no_start)

    spared-slots : slots (l ++ r ∷ []) b ≡ slots l b
    spared-slots =
        ap (λ (n : ℕ). filter_map (slot (l ++ r ∷ []) b) (places_to n)) spared-count
        ∙ filter_map-same (slot (l ++ r ∷ []) b) (slot l b) (slot-spared l r b s (live_in m b) (h.each b)) (places_to (slot_count l b))

    spared : Same b
    spared = (
      spared-finished,
      ap (λ (z : Bool). if z then total_of (map history.scored (slots (l ++ r ∷ []) b)) else None) spared-finished
          ∙ ap (λ (xs : List Slot). if is_finished l b then total_of (map history.scored xs) else None) spared-slots,
    )

  -- ---- where no total changes

  -- no attempt that starts is finished
  passed-by : (q u : ℕ) (p : AttemptId → Bool) (o : Option AttemptId) → starts_at q u r ≡ o → ((b : AttemptId) → starts_at q u r ≡ Some b → p b ≡ false) → filter p (attempts (l ++ r ∷ []) q u) ≡ filter p (attempts l q u)
  passed-by q u p None is none = ap (λ (xs : List AttemptId). filter p (in_order attempt_before xs)) (all_of-push (starts_at q u) l r ∙ ap (λ (o : Option AttemptId). filter_map (starts_at q u) l ++ option_to_list o) is ∙ append-nil (filter_map (starts_at q u) l))
  passed-by q u p (Some b) is none = ap (λ (xs : List AttemptId). filter p (in_order attempt_before xs)) (all_of-push (starts_at q u) l r ∙ ap (λ (o : Option AttemptId). filter_map (starts_at q u) l ++ option_to_list o) is) ∙ one-more p b (filter_map (starts_at q u) l) (none b is)

  -- each attempt is finished as before, with the total that it had
  same-rows : ((b : AttemptId) → Same b) → ((q u : ℕ) (b : AttemptId) → starts_at q u r ≡ Some b → is_finished (l ++ r ∷ []) b ≡ false) → (q u : ℕ) → finished_of (l ++ r ∷ []) q u ≡ finished_of l q u
  same-rows same none q u =
      ap (map (finished_at (l ++ r ∷ []) q)) (passed-by q u (is_finished (l ++ r ∷ [])) (starts_at q u r) refl (none q u))
      ∙ as-before q (total l) (total (l ++ r ∷ [])) (is_finished l) (is_finished (l ++ r ∷ [])) (attempts l q u) (all-of Same (attempts l q u) same)

  never-starts : started r ≡ None → (q u : ℕ) (b : AttemptId) → starts_at q u r ≡ Some b → is_finished (l ++ r ∷ []) b ≡ false
  never-starts none q u b is = let nothing : None ≡ Some b = rw none at is in absurd cc

  -- a record that tells nothing of any attempt
  pub rows-spared : (rows : RowMap) → ((b : AttemptId) → Spares r b) → started r ≡ None → AreRows rows l → AreRows rows (l ++ r ∷ [])
  rows-spared rows spares none so_far = record { each = λ q u. so_far.each q u ∙ sym (same-rows (λ b. spared b (spares b)) (never-starts none) q u) }

  module _ (a : AttemptId) (spares : (b : AttemptId) → same_attempt a b ≡ false → Spares r b) where
    -- an attempt that isn't finished has no total
    unfinished-same : is_finished l a ≡ false → is_finished (l ++ r ∷ []) a ≡ false → (b : AttemptId) (z : Bool) → same_attempt a b ≡ z → Same b
    unfinished-same before now b true is = subst Same (one-attempt a b is) (now ∙ sym before, rw (before, now) refl)
    unfinished-same before now b false is = spared b (spares b is)

    unfinished-rows : is_finished l a ≡ false → is_finished (l ++ r ∷ []) a ≡ false → ((q u : ℕ) (b : AttemptId) → starts_at q u r ≡ Some b → is_finished (l ++ r ∷ []) b ≡ false) → (q u : ℕ) → finished_of (l ++ r ∷ []) q u ≡ finished_of l q u
    unfinished-rows before now none = same-rows (λ b. unfinished-same before now b (same_attempt a b) refl) none

    -- an attempt that is abandoned, or goes on
    pub rows-unfinished : (rows : RowMap) → is_finished l a ≡ false → is_finished (l ++ r ∷ []) a ≡ false → started r ≡ None → AreRows rows l → AreRows rows (l ++ r ∷ [])
    rows-unfinished rows before now none so_far = record { each = λ q u. so_far.each q u ∙ sym (unfinished-rows before now (never-starts none) q u) }

    -- an attempt that starts
    pub rows-started : (rows : RowMap) (s : Start) → started r ≡ Some s → s.attempt ≡ a → is_finished l a ≡ false → is_finished (l ++ r ∷ []) a ≡ false → AreRows rows l → AreRows rows (l ++ r ∷ [])
    rows-started rows s starts_it at before now so_far = record { each = λ q u. so_far.each q u ∙ sym (unfinished-rows before now (λ q u b is. ap (is_finished (l ++ r ∷ [])) (only q u b is) ∙ now) q u) }
      where
        only : (q u : ℕ) (b : AttemptId) → starts_at q u r ≡ Some b → b ≡ a
        only q u b is =
            let t = start-at r q u b is in
            let same : t.begun ≡ s = cc-some t.begun s (sym t.starts_it ∙ starts_it) in
            sym t.at ∙ ap (λ (x : Start). x.attempt) same ∙ at
          where
            cc-some : (x y : Start) → Some x ≡ Some y → x ≡ y
            cc-some x y is = cc

    -- ---- where one total changes

    module _ (index count : ℕ) (legal : IsLegal index count l) (s : Start) (begun : start l a ≡ Some s) (no_start : started r ≡ None) where
      as-others : (q u : ℕ) → is_among a (attempts l q u) ≡ false → finished_of (l ++ r ∷ []) q u ≡ finished_of l q u
      as-others q u none =
          ap (map (finished_at (l ++ r ∷ []) q)) (passed-by q u (is_finished (l ++ r ∷ [])) (starts_at q u r) refl (never-starts no_start q u))
          ∙ as-before q (total l) (total (l ++ r ∷ [])) (is_finished l) (is_finished (l ++ r ∷ [])) (attempts l q u) (λ k d within. spared (get_or (attempts l q u) k d) (spares (get_or (attempts l q u) k d) (apart-all a (attempts l q u) none k d within)))

      elsewhere : (q u : ℕ) (z : Bool) → ((s.quiz == q) && (a.user == u)) ≡ false → is_among a (attempts l q u) ≡ z → z ≡ false
      elsewhere q u true apart is =
          let its = of-its-quiz index count l q u a legal is in
          let same : s.quiz ≡ q = some-of s.quiz q (sym (ap (option_map (λ (x : Start). x.quiz)) begun) ∙ its.of_quiz) in
          absurd (let both : ((s.quiz == q) && (a.user == u)) ≡ true = rw (eq-eqb s.quiz q same, eq-eqb a.user u its.user) refl in cc)
        where
          some-of : (x y : ℕ) → Some x ≡ Some y → x ≡ y
          some-of x y is = cc
      elsewhere q u false apart is = refl

      anew-by : (q u : ℕ) (z : Bool) → ((s.quiz == q) && (a.user == u)) ≡ z → is_finished (l ++ r ∷ []) a ≡ true → finished_of (l ++ r ∷ []) q u ≡ (if z then with_total s.quiz a (total (l ++ r ∷ []) a) (finished_of l q u) else finished_of l q u)
      anew-by q u true is passes =
          let of_quiz : s.quiz ≡ q = eqb-true s.quiz q (and-left (s.quiz == q) (a.user == u) is) in
          let user : a.user ≡ u = eqb-true a.user u (and-right (s.quiz == q) (a.user == u) is) in
          let member : is_among a (attempts l q u) ≡ true = ap (λ (v : ℕ). is_among a (attempts l q v)) (sym user) ∙ ap (λ (p : ℕ). is_among a (attempts l p a.user)) (sym of_quiz) ∙ among-own l a s begun in
          ap (map (finished_at (l ++ r ∷ []) q)) (passed-by q u (is_finished (l ++ r ∷ [])) (starts_at q u r) refl (never-starts no_start q u))
          ∙ sym (told-anew q (total l) (total (l ++ r ∷ [])) (is_finished l) (is_finished (l ++ r ∷ [])) a passes (λ b apart. spared b (spares b apart)) (attempts l q u) (attempts-rise l q u) member)
          ∙ ap (λ (p : ℕ). with_total p a (total (l ++ r ∷ []) a) (finished_of l q u)) (sym of_quiz)
      anew-by q u false is passes = as-others q u (elsewhere q u (is_among a (attempts l q u)) is refl)

      anew : (q u : ℕ) → is_finished (l ++ r ∷ []) a ≡ true → finished_of (l ++ r ∷ []) q u ≡ row_with s.quiz a (total (l ++ r ∷ []) a) q u (finished_of l q u)
      anew q u passes = anew-by q u ((s.quiz == q) && (a.user == u)) refl passes

      finished-stays : (o p : Option How) → ended_finished o ≡ true → ended_finished (option_or o p) ≡ true
      finished-stays None p is = absurd cc
      finished-stays (Some w) p is = is

      unfinished-before : (z : Bool) → is_finished l a ≡ z → is_finished (l ++ r ∷ []) a ≡ false → z ≡ false
      unfinished-before true is now = absurd (let still : is_finished (l ++ r ∷ []) a ≡ true = ap ended_finished (ended-more l r a (ends a r) refl) ∙ finished-stays (ended l a) (ends a r) is in cc)
      unfinished-before false is now = refl

      module _ (old new : RowMap) (x : Live) (told : IsTold (l ++ r ∷ []) a x) (put : HasPutTotal old new a x) (so_far : AreRows old l) where
        its-quiz : x.begun.quiz ≡ s.quiz
        its-quiz =
            let same : told.started ≡ s = one-start told.started s (sym told.start_is ∙ start-same l r a (starts-none no_start) ∙ begun) in
            ap (λ (b : Begun). b.quiz) told.begun_is ∙ ap (λ (t : Start). t.quiz) same
          where
            one-start : (t s : Start) → Some t ≡ Some s → t ≡ s
            one-start t s is = cc

            starts-none : started r ≡ None → starts a r ≡ None
            starts-none none = rw none refl

        its-total : put.total ≡ total (l ++ r ∷ []) a
        its-total = total-told (l ++ r ∷ []) a x put.total told put.total_is

        finished-now : has_finished x ≡ is_finished (l ++ r ∷ []) a
        finished-now = ap ended_finished told.how

        row-by : (q u : ℕ) (z : Bool) → is_finished (l ++ r ∷ []) a ≡ z → (if z then row_with x.begun.quiz a put.total q u (finished_in old q u) else finished_in old q u) ≡ finished_of (l ++ r ∷ []) q u
        row-by q u true passes =
            ap (λ (p : ℕ). row_with p a put.total q u (finished_in old q u)) its-quiz
            ∙ ap (λ (t : Option ℤ). row_with s.quiz a t q u (finished_in old q u)) its-total
            ∙ ap (row_with s.quiz a (total (l ++ r ∷ []) a) q u) (so_far.each q u)
            ∙ sym (anew q u passes)
        row-by q u false fails = so_far.each q u ∙ sym (unfinished-rows (unfinished-before (is_finished l a) refl fails) fails (never-starts no_start) q u)

        -- an attempt that is told anew, finished or not
        pub rows-told : AreRows new (l ++ r ∷ [])
        rows-told = record { each = λ q u. put.rows q u ∙ ap (λ (z : Bool). if z then row_with x.begun.quiz a put.total q u (finished_in old q u) else finished_in old q u) finished-now ∙ row-by q u (is_finished (l ++ r ∷ []) a) refl }

-- ---- each event

pub rows-next : (m n : Lives) (l : List Record) (r : Record) (a : AttemptId) (old new : Live) → AreLives m l → IsLast l r → ((b : AttemptId) → same_attempt a b ≡ false → Spares r b) → started r ≡ None
    → AreAttempts n (l ++ r ∷ []) → IsTold l a old → live_in n a ≡ Some new → HasPutTotal m.rows n.rows a new → AreRows n.rows (l ++ r ∷ [])
rows-next m n l r a old new h last spares no_start attempts t here put =
    rows-told m l r h.attempts a spares last.index last.count last.legal t.started t.start_is no_start m.rows n.rows new (told-as n (l ++ r ∷ []) a new attempts here) put h.rows

pub rows-abandoned : (m : Lives) (l : List Record) (r : Record) (a : AttemptId) (w : How) → AreLives m l → r.event ≡ event.Ended a w → w ≡ how.Abandoned → ended l a ≡ None → AreRows m.rows (l ++ r ∷ [])
rows-abandoned m l r a w h is abandons unended =
    let before : is_finished l a ≡ false = ap ended_finished unended in
    let now : is_finished (l ++ r ∷ []) a ≡ false = ap ended_finished (ended-more l r a (Some how.Abandoned) (rw (is, abandons, self-same a) refl) ∙ ap (λ (o : Option How). option_or o (Some how.Abandoned)) unended) in
    rows-unfinished m l r h.attempts a (λ b apart. spares-ended r a w b is apart) m.rows before now (rw is refl) h.rows

pub rows-begun : (m : Lives) (l : List Record) (r : Record) (q n : ℕ) (b : Behaviour) (bs : List Bound) (ls : List Learned) → AreLives m l → IsLast l r → r.event ≡ event.Started q n b bs ls → AreRows m.rows (l ++ r ∷ [])
rows-begun m l r q n b bs ls h last is =
    let a = attempt_of r.owner n in
    let told : Start = record { attempt = a; moment = r.moment; quiz = q; behaviour = b; bounds = bs } in
    let allowed : StartIsAllowed l r q bs ls = event-allowed l r (event.Started q n b bs ls) is last in
    let first : start l a ≡ None = begins-first last.index last.count l r.owner n (start l a) last.legal (started-number l r q n b bs ls is allowed.is_put) refl in
    let u = untold-by l a (live_in m a) (h.attempts.each a) first in
    let now : ended (l ++ r ∷ []) a ≡ None = ended-same l r a (rw is refl) ∙ u.unended in
    rows-started m l r h.attempts a (λ c apart. spares-started r q n b bs ls c is apart) m.rows told (rw is refl) refl (ap ended_finished u.unended) (ap ended_finished now) h.rows

-- ---- a total that may be put

row-there : (o : Option Gradebook) (q : ℕ) (a : AttemptId) → is_there q a (unwrap_or (option_map (λ (g : Gradebook). g.finished) o) []) ≡ true → IsSomeAnd o (λ (g : Gradebook). is_there q a g.finished ≡ false → 0 < g.room)
row-there None q a there = absurd cc
row-there (Some g) q a there = λ fresh. absurd cc

pub can-total : (index count : ℕ) (rows : RowMap) (l : List Record) (a : AttemptId) (x : Live) → IsLegal index count l → AreRows rows l → IsTold l a x → CanPutTotal rows a x
can-total index count rows l a x legal so_far t = record {
  number = from-one index count l a t.started legal t.start_is;
  row = λ is.
      let of_quiz : x.begun.quiz ≡ t.started.quiz = ap (λ (b : Begun). b.quiz) t.begun_is in
      let finishes : is_finished l a ≡ true = sym (ap ended_finished t.how) ∙ is in
      let there = (stands t.started.quiz (total l) (is_finished l) a (attempts l t.started.quiz a.user) finishes (among-own l a t.started t.start_is)).0 in
      subst (λ (q : ℕ). HasRow rows q a) (sym of_quiz) (row-there (get by_number rows (t.started.quiz, a.user)) t.started.quiz a (ap (is_there t.started.quiz a) (so_far.each t.started.quiz a.user) ∙ there));
}

-- ---- a row that is written

module _ (m n : RowMap) where
  row-here : (q u : ℕ) (g : Gradebook) → Updates by_number m n (q, u) (Some g) → finished_in n q u ≡ g.finished
  row-here q u g written = ap (λ (o : Option Gradebook). unwrap_or (option_map (λ (k : Gradebook). k.finished) o) []) written.1

  row-apart : (p v q u : ℕ) (g : Gradebook) → Updates by_number m n (p, v) (Some g) → ((p == q) && (v == u)) ≡ false → finished_in n q u ≡ finished_in m q u
  row-apart p v q u g written apart = ap (λ (o : Option Gradebook). unwrap_or (option_map (λ (k : Gradebook). k.finished) o) []) (get-other m n (attempt_of p v) (attempt_of q u) (Some g) written apart)

  module _ (p v : ℕ) (old new : Gradebook) (there : get by_number m (p, v) ≡ Some old) (written : Updates by_number m n (p, v) (Some new)) where
    row-was : finished_in m p v ≡ old.finished
    row-was = ap (λ (o : Option Gradebook). unwrap_or (option_map (λ (k : Gradebook). k.finished) o) []) there

    row-same-by : (q u : ℕ) (z : Bool) → ((p == q) && (v == u)) ≡ z → new.finished ≡ old.finished → finished_in n q u ≡ finished_in m q u
    row-same-by q u true is same =
        let of_quiz : p ≡ q = eqb-true p q (and-left (p == q) (v == u) is) in
        let user : v ≡ u = eqb-true v u (and-right (p == q) (v == u) is) in
        subst (λ (x : ℕ). finished_in n x u ≡ finished_in m x u) of_quiz (subst (λ (x : ℕ). finished_in n p x ≡ finished_in m p x) user (row-here p v new written ∙ same ∙ sym row-was))
    row-same-by q u false is same = row-apart p v q u new written is

    -- more room changes no row
    pub row-same : new.finished ≡ old.finished → (q u : ℕ) → finished_in n q u ≡ finished_in m q u
    row-same same q u = row-same-by q u ((p == q) && (v == u)) refl same

  row-put-by : (p : ℕ) (a : AttemptId) (t : Option ℤ) (q u : ℕ) (old new : Gradebook) (z : Bool) → ((p == q) && (a.user == u)) ≡ z → Updates by_number m n (p, a.user) (Some new) → get by_number m (p, a.user) ≡ Some old → new.finished ≡ with_total p a t old.finished → finished_in n q u ≡ (if z then with_total p a t (finished_in m q u) else finished_in m q u)
  row-put-by p a t q u old new true is written there put =
      let of_quiz : p ≡ q = eqb-true p q (and-left (p == q) (a.user == u) is) in
      let user : a.user ≡ u = eqb-true a.user u (and-right (p == q) (a.user == u) is) in
      let here : finished_in n p a.user ≡ with_total p a t (finished_in m p a.user) = row-here p a.user new written ∙ put ∙ sym (ap (with_total p a t) (row-was p a.user old new there written)) in
      subst (λ (x : ℕ). finished_in n x u ≡ with_total p a t (finished_in m x u)) of_quiz (subst (λ (x : ℕ). finished_in n p x ≡ with_total p a t (finished_in m p x)) user here)
  row-put-by p a t q u old new false is written there put = row-apart p a.user q u new written is

  -- a total that is put
  pub row-put : (p : ℕ) (a : AttemptId) (t : Option ℤ) (q u : ℕ) (old new : Gradebook) → Updates by_number m n (p, a.user) (Some new) → get by_number m (p, a.user) ≡ Some old → new.finished ≡ with_total p a t old.finished → finished_in n q u ≡ row_with p a t q u (finished_in m q u)
  row-put p a t q u old new written there put = row-put-by p a t q u old new ((p == q) && (a.user == u)) refl written there put

  read-row : (o : Option Gradebook) (d : Gradebook) → d.finished ≡ [] → unwrap_or (option_map (λ (k : Gradebook). k.finished) o) [] ≡ (unwrap_or o d).finished
  read-row None d none = sym none
  read-row (Some g) d none = refl

  -- rows without an attempt change no row
  pub row-grown : (key : ℕ × ℕ) (d : Gradebook) → d.finished ≡ [] → Updates by_number m n key (Some d) → is_some (get by_number m key) ≡ false → (q u : ℕ) → finished_in n q u ≡ finished_in m q u
  row-grown key d none written fresh q u =
      read-row (get by_number n (q, u)) d none
      ∙ ap (λ (g : Gradebook). g.finished) (grown m n (attempt_of key.0 key.1) d written fresh (attempt_of q u))
      ∙ sym (read-row (get by_number m (q, u)) d none)

-- ---- what is read

total-by : (h : List Record) (a : AttemptId) (s : Start) (z : Bool) → start h a ≡ Some s → is_finished h a ≡ z → total_at s.quiz a (finished_of h s.quiz a.user) ≡ total h a
total-by h a s true begun is = (stands s.quiz (total h) (is_finished h) a (attempts h s.quiz a.user) is (among-own h a s begun)).1
total-by h a s false begun is = missing s.quiz (total h) (is_finished h) a (attempts h s.quiz a.user) is ∙ rw is refl

pub total-kept : (h : List Record) (a : AttemptId) (q : ℕ) → quiz h a ≡ Some q → total_at q a (finished_of h q a.user) ≡ total h a
total-kept h a q is = by-start (start h a) refl is
  where
    by-start : (o : Option Start) → start h a ≡ o → option_map (λ (s : Start). s.quiz) o ≡ Some q → total_at q a (finished_of h q a.user) ≡ total h a
    by-start None begun is = absurd cc
    by-start (Some s) begun is =
        let same : s.quiz ≡ q = cc in
        subst (λ (p : ℕ). total_at p a (finished_of h p a.user) ≡ total h a) same (total-by h a s (is_finished h a) begun refl)

untold-total : (h : List Record) (a : AttemptId) (o : Option Live) → IsToldAs h a o → quiz h a ≡ None → None ≡ total h a
untold-total h a None u none = let unended = u.unended in rw unended refl
untold-total h a (Some x) t none = absurd (let some : quiz h a ≡ Some t.started.quiz = ap (option_map (λ (s : Start). s.quiz)) t.start_is in cc)

-- an attempt that isn't there has no total
pub no-total : (m : Lives) (h : List Record) (a : AttemptId) → AreLives m h → quiz h a ≡ None → None ≡ total h a
no-total m h a lives none = untold-total h a (live_in m a) (lives.attempts.each a) none

pub total-in : (m : Lives) (h : List Record) (a : AttemptId) (q : ℕ) → AreLives m h → quiz h a ≡ Some q → total_at q a (finished_in m.rows q a.user) ≡ total h a
total-in m h a q lives is = ap (total_at q a) (lives.rows.each q a.user) ∙ total-kept h a q is

pub row-in : (m : Lives) (h : List Record) (q : ℕ) (policy : Policy) (u : ℕ) → AreLives m h → row_of policy (totals_of (finished_in m.rows q u) q u) ≡ row h q policy u
row-in m h q policy u lives = ap (λ (fs : List Finished). row_of policy (totals_of fs q u)) (lives.rows.each q u) ∙ ap (row_of policy) (totals-rated q u (total h) (is_finished h) (attempts h q u) (attempts-rise h q u) (attempts-users h q u))

pub row-none : (policy : Policy) → row_of policy [] ≡ None
row-none policy = by-method policy.method refl
  where
    by-method : (w : Method) → policy.method ≡ w → row_of policy [] ≡ None
    by-method method.Highest is = rw is refl
    by-method method.Average is = rw is refl
    by-method method.First is = rw is refl
    by-method method.Last is = rw is refl
