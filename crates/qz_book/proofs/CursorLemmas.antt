-- What the cursors tell stays so: where one is kept, and where a record is put.
use Rattle.std.proofs.Common.{◌≡◌, ℕ, ◌+◌, ◌-◌, ◌<◌, ◌≤◌, Bool, true, false, not, ◌&&◌, ◌||◌, List, [], ◌∷◌, ◌++◌, Option, Some, None, length, refl, sym, ap, subst, ◌∙◌, arith, eq-eqb, option_map}
use Rattle.std.specs.List.{list_any}
use Rattle.std.specs.Option.{option_or}
use Rattle.std.specs.Prelude.{◌==◌, filter, if◌then◌else◌, is_some, nat_lt, unwrap_or}
use Rattle.std.proofs.lemmas.Bool.{eqb-true, lt-ltb, ltb-false, ltb-true, not-true}
use Rattle.std.proofs.lemmas.List.Folds.{list_any-append}
use Rattle.qz_grading.specs.declared.outcome.Behaviour.{Behaviour}
use Rattle.qz_grading.specs.declared.refusal.AttemptId.{AttemptId}
use Rattle.qz_grading.specs.Grading.{at_place}
use Rattle.qz_terms.specs.declared.plan.Bound.{Bound}
use Rattle.qz_terms.specs.declared.record.Event.{Event}
use Rattle.qz_terms.specs.declared.record.Event.TheVariants as event
use Rattle.qz_terms.specs.declared.record.Learned.{Learned}
use Rattle.qz_terms.specs.declared.record.Record.{Record}
use Rattle.qz_terms.specs.declared.record.Terms.{Terms}
use Rattle.qz_terms.specs.Legal.{EventIsAllowed, IsLegal, StartIsAllowed, bound_at}
use Rattle.qz_terms.specs.Lists.{first_of, places_to}
use Rattle.qz_terms.specs.History.{Start, attempt_before, binds, bound, is_skipped, is_target, quiz, same_attempt, skips, slot_count, start, starts, targets}
use Rattle.qz_book.specs.declared.cursors.Cursor.{Cursor}
use Rattle.qz_book.specs.declared.cursors.Cursors.{Cursors}
use Rattle.qz_book.specs.Cursors.{AreCursors, IsPassed, cursor_at, cursor_of, followed, followed_by, front, moved_back, passed_by, place_before, plan_position}
use Rattle.qz_book.specs.Targets.{has_left}
use Rattle.qz_book.proofs.Effects.{Does, acts, begins, does, finishes, leaves, rebinds}
use Rattle.qz_lives.proofs.Effects.{attempt_of, made, one-attempt}
use Rattle.qz_lives.proofs.Keeping.{and-left, and-right, at_place-passes, start-record}
use Rattle.qz_lives.proofs.Legality.{started-number}
use Rattle.qz_lives.proofs.Orders.{before-after, by-number, one}
use Rattle.qz_book.proofs.Placing.{bound-more, or-none, placed, start-more}
use Rattle.qz_book.proofs.TargetLemmas.{first-is_target, some-bound}

-- ---- the front

-- attempts are numbered from 1
numbered : (index count : ℕ) (h : List Record) (a : AttemptId) (s : Start) → IsLegal index count h → start h a ≡ Some s → 0 < a.nth
numbered index count h a s legal is =
    let t = start-record h a s is in
    let allowed : EventIsAllowed t.front t.item (event.Started s.quiz a.nth s.behaviour s.bounds t.learned) = subst (EventIsAllowed t.front t.item) t.event (legal.each t.front t.item t.rest t.stands).event in
    let number : a.nth ≡ made t.front t.item.owner + 1 = started-number t.front t.item s.quiz a.nth s.behaviour s.bounds t.learned t.event allowed.is_put in
    omega arith

front-by : (a : AttemptId) (b : Bool) → nat_lt 0 a.user ≡ b → 0 < a.nth → attempt_before front a ≡ true
front-by a true is some = rw is refl
front-by a false is some = let few = ltb-false 0 a.user is in by-number front a (let none : 0 ≡ a.user = omega arith in none) some

started-quiz : (o : Option Start) (q : ℕ) → option_map (λ (s : Start). s.quiz) o ≡ Some q → (s : Start) × (o ≡ Some s)
started-quiz None q is = absurd cc
started-quiz (Some s) q is = (s, refl)

passed-front : (index count : ℕ) (h : List Record) (q job position : ℕ) → IsLegal index count h → IsPassed h q job position front
passed-front index count h q job position legal = record {
  none_left = λ a of_it apart.
      let s = started-quiz (start h a) q of_it in
      absurd (let before = front-by a (nat_lt 0 a.user) refl (numbered index count h a s.0 legal s.1) in cc);
}

passed-at : (index count : ℕ) (h : List Record) (q job position : ℕ) (c : Cursor) (b : Bool) → (c.position == position) ≡ b → IsLegal index count h → IsPassed h q job c.position c.passed → IsPassed h q job position (if b then c.passed else front)
passed-at index count h q job position c true is legal passed = subst (λ (n : ℕ). IsPassed h q job n c.passed) (eqb-true c.position position is) passed
passed-at index count h q job position c false is legal passed = passed-front index count h q job position legal

passed-of : (index count : ℕ) (h : List Record) (m : Cursors) (q job position : ℕ) (o : Option Cursor) → cursor_at m q job ≡ o → IsLegal index count h → AreCursors m h → IsPassed h q job position (passed_by position o)
passed-of index count h m q job position None is legal are = passed-front index count h q job position legal
passed-of index count h m q job position (Some c) is legal are = passed-at index count h q job position c (c.position == position) refl legal (are.each q job c is)

-- a search may begin there
pub passed-so_far : (index count : ℕ) (h : List Record) (m : Cursors) (q job position : ℕ) → IsLegal index count h → AreCursors m h → IsPassed h q job position (passed_by position (cursor_at m q job))
passed-so_far index count h m q job position legal are = passed-of index count h m q job position (cursor_at m q job) refl legal are

-- ---- a cursor that goes back before an attempt

back-by : (p a b : AttemptId) (z : Bool) → attempt_before a p ≡ z → attempt_before p a ≡ false → attempt_before p b ≡ true → attempt_before a b ≡ true
back-by p a b true is isnt later = before-after a p b is later
back-by p a b false is isnt later = ap (λ (c : AttemptId). attempt_before c b) (sym (one p a isnt is)) ∙ later

before-it : (a : AttemptId) → 0 < a.nth → attempt_before (place_before a) a ≡ true
before-it a some = by-number (place_before a) a refl (let less : a.nth - 1 < a.nth = omega arith in less)

earlier-by : (p a b : AttemptId) (z : Bool) → attempt_before p b ≡ z → 0 < a.nth → attempt_before p a ≡ false → attempt_before (place_before a) b ≡ false → z ≡ false
earlier-by p a b true is some isnt apart =
    let before = before-after (place_before a) a b (before-it a some) (back-by p a b (attempt_before a p) refl isnt is) in
    absurd cc
earlier-by p a b false is some isnt apart = refl

earlier : (h : List Record) (q job position : ℕ) (p a : AttemptId) → 0 < a.nth → attempt_before p a ≡ false → IsPassed h q job position p → IsPassed h q job position (place_before a)
earlier h q job position p a some isnt passed = record { none_left = λ b of_it apart. passed.none_left b of_it (earlier-by p a b (attempt_before p b) refl some isnt apart) }

-- ---- slots that are left once a record is put

pass-step : (p b : ℕ → Bool) (x : ℕ) (xs : List ℕ) (y z : Bool) → b x ≡ y → p x ≡ z → (b x ≡ true → p x ≡ true) → is_some (first_of (filter p (x ∷ xs))) ≡ false → (is_some (first_of (filter p xs)) ≡ false → is_some (first_of (filter b xs)) ≡ false) → is_some (first_of (filter b (x ∷ xs))) ≡ false
pass-step p b x xs true true is also only none rest = absurd (let some : is_some (first_of (filter p (x ∷ xs))) ≡ true = rw also refl in cc)
pass-step p b x xs true false is also only none rest = absurd (let passes = only is in cc)
pass-step p b x xs false true is also only none rest = absurd (let some : is_some (first_of (filter p (x ∷ xs))) ≡ true = rw also refl in cc)
pass-step p b x xs false false is also only none rest = rw is (rest (rw also at none))

-- where what passes now passed before
none-pass : (p b : ℕ → Bool) (xs : List ℕ) → ((x : ℕ) → b x ≡ true → p x ≡ true) → is_some (first_of (filter p xs)) ≡ false → is_some (first_of (filter b xs)) ≡ false
none-pass p b [] only none = refl
none-pass p b (x ∷ xs) only none = pass-step p b x xs (b x) (p x) refl refl (only x) none (none-pass p b xs only)

never-pass : (b : ℕ → Bool) (xs : List ℕ) → ((x : ℕ) → b x ≡ false) → is_some (first_of (filter b xs)) ≡ false
never-pass b [] none = refl
never-pass b (x ∷ xs) none = rw (none x) (never-pass b xs none)

abbrev early : Option Bound → ℕ → Bool
early o position = unwrap_or (option_map (λ (b : Bound). nat_lt b.at position) o) false

-- what is bound now is bound later than what was
record IsNewer (h : List Record) (a : AttemptId) (k : ℕ) (d : Bound) : Type 0 where
  old : Bound
  old_is : bound h a k ≡ Some old
  less : old.at < d.at

early-some : (b : Bound) (o : Option Bound) (position : ℕ) → o ≡ Some b → early o position ≡ true → b.at < position
early-some b o position is told = ltb-true b.at position (rw is at told)

newer-by : (h : List Record) (a : AttemptId) (k job q : ℕ) (b : AttemptId) (j : ℕ) (e d : Bound) (y z : Bool) → same_attempt a b ≡ y → (k == j) ≡ z → first_of (targets h job q e.at) ≡ Some (b, j) → (if y && z then Some e else None) ≡ Some d → IsNewer h a k d
newer-by h a k job q b j e d true true is place first told =
    let same : e ≡ d = cc in
    let target : is_target h job e.at a k ≡ true = rw (one-attempt a b is, eqb-true k j place) (first-is_target h job q e.at b j first) in
    let before : early (bound h a k) e.at ≡ true = and-left (early (bound h a k) e.at) (not (is_skipped h job a k)) target in
    let old = some-bound (bound h a k) e.at before in
    record { old = old.0; old_is = old.1; less = subst (λ (x : Bound). old.0.at < x.at) same (early-some old.0 (bound h a k) e.at old.1 before) }
newer-by h a k job q b j e d true false is place first told = absurd cc
newer-by h a k job q b j e d false z is place first told = absurd cc

started-again : (a : AttemptId) (r : Record) (q n : ℕ) (c : Behaviour) (bs : List Bound) (ls : List Learned) (k : ℕ) (d : Bound) (y : Bool) → r.event ≡ event.Started q n c bs ls → same_attempt a (attempt_of r.owner n) ≡ y → starts a r ≡ None → binds a k r ≡ Some d → ⊥
started-again a r q n c bs ls k d true is same none told = let some : starts a r ≡ Some (record { attempt = attempt_of r.owner n; moment = r.moment; quiz = q; behaviour = c; bounds = bs }) = rw (is, same) refl in absurd cc
started-again a r q n c bs ls k d false is same none told = let nothing : binds a k r ≡ None = rw (is, same) refl in absurd cc

newer : (h : List Record) (r : Record) (a : AttemptId) (k : ℕ) (d : Bound) (e : Event) → r.event ≡ e → EventIsAllowed h r e → starts a r ≡ None → binds a k r ≡ Some d → IsNewer h a k d
newer h r a k d (event.Started q n c bs ls) is allowed none told = absurd (started-again a r q n c bs ls k d (same_attempt a (attempt_of r.owner n)) is refl none told)
newer h r a k d (event.Rebound job b j x ls) is allowed none told = newer-by h a k job allowed.quiz b j x d (same_attempt a b) (k == j) refl refl allowed.first (rw is at told)
newer h r a k d e is allowed none told = let nothing : binds a k r ≡ None = rw is refl in absurd cc

skip-kept : (h : List Record) (r : Record) (job : ℕ) (a : AttemptId) (k : ℕ) (b : Bool) → is_skipped h job a k ≡ b → not (is_skipped (h ++ r ∷ []) job a k) ≡ true → not b ≡ true
skip-kept h r job a k false is free = refl
skip-kept h r job a k true is free =
    let skipped : is_skipped (h ++ r ∷ []) job a k ≡ true = list_any-append (skips job a k) h (r ∷ []) ∙ ap (λ (c : Bool). c || list_any (skips job a k) (r ∷ [])) is in
    absurd (let none : is_skipped (h ++ r ∷ []) job a k ≡ false = not-true (is_skipped (h ++ r ∷ []) job a k) free in cc)

both : (b c : Bool) → b ≡ true → c ≡ true → b && c ≡ true
both b c is also = rw (is, also) refl

module _ (index count : ℕ) (h : List Record) (r : Record) (legal : IsLegal index count h) (allowed : EventIsAllowed h r r.event) where
  module _ (a : AttemptId) (s : Start) (begun : start h a ≡ Some s) (job position k : ℕ) where
    -- a slot that is left of an attempt that was there, was left
    early-by : early (bound (h ++ r ∷ []) a k) position ≡ true → Does h r a k → early (bound h a k) position ≡ true
    early-by is (begins d) = let none = d.first in absurd cc
    early-by is (acts x d) = ap (λ (o : Option Bound). early o position) (sym (bound-more h r a k None d.no_bound)) ∙ is
    early-by is (finishes d) = ap (λ (o : Option Bound). early o position) (sym (bound-more h r a k None d.no_bound)) ∙ is
    early-by is (leaves d) = ap (λ (o : Option Bound). early o position) (sym (bound-more h r a k None d.no_bound)) ∙ is
    early-by is (rebinds d) =
        let n = newer h r a k d.told r.event refl allowed d.no_start d.binds_it in
        let now : d.told.at < position = early-some d.told (bound (h ++ r ∷ []) a k) position (bound-more h r a k (Some d.told) d.binds_it) is in
        let less = n.less in
        ap (λ (o : Option Bound). early o position) n.old_is ∙ lt-ltb n.old.at position (omega arith)

    was-left : is_target (h ++ r ∷ []) job position a k ≡ true → is_target h job position a k ≡ true
    was-left is =
        let now = early (bound (h ++ r ∷ []) a k) position in
        let free = not (is_skipped (h ++ r ∷ []) job a k) in
        both (early (bound h a k) position) (not (is_skipped h job a k)) (early-by (and-left now free is) (does index count h r a k legal allowed))
        (skip-kept h r job a k (is_skipped h job a k) refl (and-right now free is))

  still-none : (a : AttemptId) (s : Start) (job position : ℕ) → start h a ≡ Some s → has_left h job position a ≡ false → has_left (h ++ r ∷ []) job position a ≡ false
  still-none a s job position begun none =
      let same : slot_count (h ++ r ∷ []) a ≡ slot_count h a =
      ap (λ (o : Option Start). unwrap_or (option_map (λ (t : Start). length t.bounds) o) 0) (start-more h r a (starts a r) refl ∙ ap (λ (o : Option Start). option_or o (starts a r)) begun ∙ sym begun) in
      ap (λ (n : ℕ). is_some (first_of (filter (is_target (h ++ r ∷ []) job position a) (places_to n)))) same
      ∙ none-pass (is_target h job position a) (is_target (h ++ r ∷ []) job position a) (places_to (slot_count h a)) (λ k. was-left a s begun job position k) none

  -- none of a start under a plan that isn't older
  module _ (q n : ℕ) (c : Behaviour) (bs : List Bound) (ls : List Learned) (is : r.event ≡ event.Started q n c bs ls) (started_so : StartIsAllowed h r q bs ls) (job position : ℕ) (late : position ≤ plan_position r) where
    at-plan : (b : Bound) (o : Option Terms) → r.terms ≡ o → bound_at o b ≡ true → b.at ≡ plan_position r
    at-plan b None terms_are told = absurd cc
    at-plan b (Some t) terms_are told = eqb-true b.at t.at told ∙ sym (ap (λ (o : Option Terms). unwrap_or (option_map (λ (u : Terms). u.at) o) 0) terms_are)

    not-early : (b : Bound) (z : Bool) → nat_lt b.at position ≡ z → b.at ≡ plan_position r → z ≡ false
    not-early b true less same = let few = ltb-true b.at position less in absurd (omega arith)
    not-early b false less same = refl

    late-bound : (k : ℕ) (o : Option Bound) → at_place bs k ≡ o → early o position ≡ false
    late-bound k None told = refl
    late-bound k (Some b) told = not-early b (nat_lt b.at position) refl (at-plan b r.terms refl (at_place-passes (bound_at r.terms) bs k b (k == 0) refl started_so.at_terms told))

    late-by : (a : AttemptId) (k : ℕ) (y : Bool) → same_attempt a (attempt_of r.owner n) ≡ y → start h a ≡ None → is_target (h ++ r ∷ []) job position a k ≡ false
    late-by a k true same none =
        let nothing : bound h a k ≡ None = ((placed index count h a k legal).nothing none).1 in
        let binds_it : binds a k r ≡ at_place bs k = rw (is, same) refl in
        let now : bound (h ++ r ∷ []) a k ≡ option_or (at_place bs k) None = bound-more h r a k (at_place bs k) binds_it ∙ ap (option_or (at_place bs k)) nothing in
        let late_bound : early (bound (h ++ r ∷ []) a k) position ≡ false = ap (λ (o : Option Bound). early o position) (now ∙ or-none (at_place bs k)) ∙ late-bound k (at_place bs k) refl in
        rw late_bound refl
    late-by a k false same none =
        let nothing : bound h a k ≡ None = ((placed index count h a k legal).nothing none).1 in
        let binds_none : binds a k r ≡ None = rw (is, same) refl in
        let now : early (bound (h ++ r ∷ []) a k) position ≡ false = ap (λ (o : Option Bound). early o position) (bound-more h r a k None binds_none ∙ nothing) in
        rw now refl

    none-new : (a : AttemptId) → start h a ≡ None → has_left (h ++ r ∷ []) job position a ≡ false
    none-new a none = never-pass (is_target (h ++ r ∷ []) job position a) (places_to (slot_count (h ++ r ∷ []) a)) (λ k. late-by a k (same_attempt a (attempt_of r.owner n)) refl none)

  -- ---- what is passed once a record is put

  module _ (q job : ℕ) where
    passed-here : (position : ℕ) (p a : AttemptId) (o : Option Start) → start h a ≡ o → IsPassed h q job position p → quiz (h ++ r ∷ []) a ≡ Some q → attempt_before p a ≡ false
        → (start h a ≡ None → has_left (h ++ r ∷ []) job position a ≡ false) → has_left (h ++ r ∷ []) job position a ≡ false
    passed-here position p a None is passed of_it apart new = new is
    passed-here position p a (Some s) is passed of_it apart new =
        let same : quiz (h ++ r ∷ []) a ≡ quiz h a = ap (option_map (λ (t : Start). t.quiz)) (start-more h r a (starts a r) refl ∙ ap (λ (o : Option Start). option_or o (starts a r)) is ∙ sym is) in
        still-none a s job position is (passed.none_left a (sym same ∙ of_it) apart)

    passed-on : (position : ℕ) (p : AttemptId) → IsPassed h q job position p
        → ((a : AttemptId) → quiz (h ++ r ∷ []) a ≡ Some q → attempt_before p a ≡ false → start h a ≡ None → has_left (h ++ r ∷ []) job position a ≡ false) → IsPassed (h ++ r ∷ []) q job position p
    passed-on position p passed new = record { none_left = λ a of_it apart. passed-here position p a (start h a) refl passed of_it apart (new a of_it apart) }

    new-quiz : (a : AttemptId) (o : Option Start) → starts a r ≡ o → start h a ≡ None → quiz (h ++ r ∷ []) a ≡ Some q → option_map (λ (s : Start). s.quiz) o ≡ Some q
    new-quiz a o is none of_it = sym (ap (option_map (λ (s : Start). s.quiz)) (start-more h r a o is ∙ ap (λ (p : Option Start). option_or p o) none)) ∙ of_it

    -- of a record that starts no attempt
    passed-still : (position : ℕ) (p : AttemptId) → ((a : AttemptId) → starts a r ≡ None) → IsPassed h q job position p → IsPassed (h ++ r ∷ []) q job position p
    passed-still position p no_start passed = passed-on position p passed (λ a of_it apart none. absurd (let nothing = new-quiz a None (no_start a) none of_it in cc))

    stays : (c d : Cursor) → ((a : AttemptId) → starts a r ≡ None) → IsPassed h q job c.position c.passed → Some c ≡ Some d → IsPassed (h ++ r ∷ []) q job d.position d.passed
    stays c d no_start passed told = let same : c ≡ d = cc in subst (λ (e : Cursor). IsPassed (h ++ r ∷ []) q job e.position e.passed) same (passed-still c.position c.passed no_start passed)

    -- of a start
    module _ (p n : ℕ) (b : Behaviour) (bs : List Bound) (ls : List Learned) (is : r.event ≡ event.Started p n b bs ls) (so : StartIsAllowed h r p bs ls) where
      begun-as : (a : AttemptId) (y : Bool) → same_attempt a (attempt_of r.owner n) ≡ y → start h a ≡ None → quiz (h ++ r ∷ []) a ≡ Some q → (a ≡ attempt_of r.owner n) × (p ≡ q)
      begun-as a true same none of_it =
          let s : Start = record { attempt = attempt_of r.owner n; moment = r.moment; quiz = p; behaviour = b; bounds = bs } in
          let told : Some p ≡ Some q = new-quiz a (Some s) (rw (is, same) refl) none of_it in
          let quiz_is : p ≡ q = cc in
          (one-attempt a (attempt_of r.owner n) same, quiz_is)
      begun-as a false same none of_it = absurd (let nothing = new-quiz a None (rw (is, same) refl) none of_it in cc)

      begun-it : (a : AttemptId) → start h a ≡ None → quiz (h ++ r ∷ []) a ≡ Some q → (a ≡ attempt_of r.owner n) × (p ≡ q)
      begun-it a none of_it = begun-as a (same_attempt a (attempt_of r.owner n)) refl none of_it

      from-one : 0 < n
      from-one = let number : n ≡ made h r.owner + 1 = started-number h r p n b bs ls is so.is_put in omega arith

      moved-by : (c d : Cursor) (y z : Bool) → nat_lt (plan_position r) c.position ≡ y → attempt_before c.passed (attempt_of r.owner n) ≡ z → IsPassed h q job c.position c.passed
          → (if y && not z then cursor_of c.position (place_before (attempt_of r.owner n)) else c) ≡ d → IsPassed (h ++ r ∷ []) q job d.position d.passed
      moved-by c d true true older before passed told =
          subst (λ (e : Cursor). IsPassed (h ++ r ∷ []) q job e.position e.passed) told
          (passed-on c.position c.passed passed (λ a of_it apart none. absurd (let same = ap (attempt_before c.passed) (begun-it a none of_it).0 in cc)))
      moved-by c d true false older before passed told =
          subst (λ (e : Cursor). IsPassed (h ++ r ∷ []) q job e.position e.passed) told
          (passed-on c.position (place_before (attempt_of r.owner n)) (earlier h q job c.position c.passed (attempt_of r.owner n) from-one before passed)
          (λ a of_it apart none. absurd (let same = ap (attempt_before (place_before (attempt_of r.owner n))) (begun-it a none of_it).0 in let first = before-it (attempt_of r.owner n) from-one in cc)))
      moved-by c d false z older before passed told =
          subst (λ (e : Cursor). IsPassed (h ++ r ∷ []) q job e.position e.passed) told
          (passed-on c.position c.passed passed (λ a of_it apart none. none-new p n b bs ls is so job c.position (ltb-false (plan_position r) c.position older) a none))

      start-by : (c d : Cursor) (y : Bool) → (p == q) ≡ y → IsPassed h q job c.position c.passed → (if y then Some (moved_back (attempt_of r.owner n) (plan_position r) c) else Some c) ≡ Some d → IsPassed (h ++ r ∷ []) q job d.position d.passed
      start-by c d true of_it passed told =
          let same : moved_back (attempt_of r.owner n) (plan_position r) c ≡ d = cc in
          moved-by c d (nat_lt (plan_position r) c.position) (attempt_before c.passed (attempt_of r.owner n)) refl refl passed same
      start-by c d false of_it passed told =
          let same : c ≡ d = cc in
          subst (λ (e : Cursor). IsPassed (h ++ r ∷ []) q job e.position e.passed) same
          (passed-on c.position c.passed passed (λ a told_quiz apart none. absurd (let test = eq-eqb p q (begun-it a none told_quiz).1 in cc)))

    done-by : (c d : Cursor) (y : Bool) → ((a : AttemptId) → starts a r ≡ None) → IsPassed h q job c.position c.passed → (if y then None else Some c) ≡ Some d → IsPassed (h ++ r ∷ []) q job d.position d.passed
    done-by c d true no_start passed told = absurd cc
    done-by c d false no_start passed told = stays c d no_start passed told

    follow-by : (c d : Cursor) (e : Event) → r.event ≡ e → EventIsAllowed h r e → IsPassed h q job c.position c.passed → followed_by r q job e (Some c) ≡ Some d → IsPassed (h ++ r ∷ []) q job d.position d.passed
    follow-by c d (event.Started p n b bs ls) is so passed told = start-by p n b bs ls is so c d (p == q) refl passed told
    follow-by c d (event.JobDone j p position) is so passed told = done-by c d ((p == q) && (j == job)) (λ a. rw is refl) passed told
    follow-by c d e is so passed told = stays c d (λ a. rw is refl) passed told

    none-by : (y : Bool) (f : Cursor → Cursor) → (if y then option_map f None else None) ≡ None
    none-by true f = refl
    none-by false f = refl

    none-done : (y : Bool) → let o : Option Cursor = if y then None else None in o ≡ None
    none-done true = refl
    none-done false = refl

    followed-none : (e : Event) → followed_by r q job e None ≡ None
    followed-none (event.Started p n b bs ls) = none-by (p == q) (moved_back (attempt_of r.owner n) (plan_position r))
    followed-none (event.JobDone j p position) = none-done ((p == q) && (j == job))
    followed-none e = refl

    follow-at : (m : Cursors) (d : Cursor) (o : Option Cursor) → cursor_at m q job ≡ o → AreCursors m h → followed r q job o ≡ Some d → IsPassed (h ++ r ∷ []) q job d.position d.passed
    follow-at m d None is are told = absurd (let none = followed-none r.event in cc)
    follow-at m d (Some c) is are told = follow-by c d r.event refl allowed (are.each q job c is) told

  -- what the cursors tell of the longer list
  pub cursors-follow : (m n : Cursors) → AreCursors m h → ((q job : ℕ) → cursor_at n q job ≡ followed r q job (cursor_at m q job)) → AreCursors n (h ++ r ∷ [])
  cursors-follow m n are new = record { each = λ q job d is. follow-at q job m d (cursor_at m q job) refl are (sym (new q job) ∙ is) }
