-- The keepers of a school, as one or another of them serves a call.
use Rattle.std.proofs.Common.{◌≡◌, ◌⊎◌, inl, inr, ℕ, zero, suc, ◌+◌, ◌≤◌, true, List, [], ◌∷◌, Some, is_some, refl, ap, ◌∙◌, subst, arith}
use Rattle.std.specs.List.{AllZip}
use Rattle.std.specs.Prelude.{slice_get, slice_set, sum_by}
use Rattle.std.proofs.lemmas.List.Sums.{sum_by-cons}
use Rattle.qz_catalog.specs.Keeping as records
use Rattle.qz_grading.specs.declared.refusal.Refusal.{Refusal}
use Rattle.qz_keeper.specs.Lists.{OneCall}
use Rattle.qz_keeper.specs.Recording.{GoesOn, HasFailed}
use Rattle.qz_keeper.proofs.Calls.{call_doubts, goes_both}
use Rattle.qz_outside.specs.Causes.{HasRisen}
use Rattle.qz_shard.specs.Keeping as part
use Rattle.qz_terms.specs.declared.record.Record.{Record}
use Rattle.qz_terms.specs.Serial.{Held}
use Rattle.qz_serial.proofs.Composing.{calls_mean}
use Rattle.qz_serial.proofs.Seats.{set_get}
use Rattle.qz_school.specs.Solos.{AreSound, Fails, GoOn, PartGoesOn, School, faults_of, of_catalog, of_shard}

-- ---- a list of which one place changes

pub get_set : {A : Type 0} (xs : List A) (k j : ℕ) (x y : A) → slice_get (slice_set xs k x) j ≡ Some y → ((j ≡ k) × (x ≡ y)) ⊎ (slice_get xs j ≡ Some y)
get_set [] k j x y is = absurd cc
get_set (z ∷ xs) zero zero x y is = inl (refl, cc)
get_set (z ∷ xs) zero (suc j) x y is = inr is
get_set (z ∷ xs) (suc k) zero x y is = inr is
get_set (z ∷ xs) (suc k) (suc j) x y is = elim (get_set xs k j x y is) [ inl same ↦ inl (ap suc same.0, same.1) | inr other ↦ inr other ]

-- ---- whatever becomes of a call

goes_none : (was : Type 0) (n : ℕ) → GoesOn was was n n
goes_none was n = record { later = omega arith; steady = λ is. refl; still = λ is. is }

parts-none : {K : Type 0} (sound : K → Type 0) (faults : K → ℕ) (ss : List (part.Keeping K)) → AllZip (PartGoesOn sound faults) ss ss
parts-none sound faults [] = tt
parts-none sound faults (s ∷ ss) = (goes_none (sound s.keeper) (faults s.keeper), parts-none sound faults ss)

parts-both : {K : Type 0} (sound : K → Type 0) (faults : K → ℕ) (ss ts us : List (part.Keeping K)) → AllZip (PartGoesOn sound faults) ss ts → AllZip (PartGoesOn sound faults) ts us → AllZip (PartGoesOn sound faults) ss us
parts-both sound faults [] [] us one other = other
parts-both sound faults [] (t ∷ ts) us one other = absurd one
parts-both sound faults (s ∷ ss) [] us one other = absurd one
parts-both sound faults (s ∷ ss) (t ∷ ts) [] one other = absurd other
parts-both sound faults (s ∷ ss) (t ∷ ts) (u ∷ us) one other =
    (goes_both (sound s.keeper) (sound t.keeper) (sound u.keeper) (faults s.keeper) (faults t.keeper) (faults u.keeper) one.0 other.0, parts-both sound faults ss ts us one.1 other.1)

parts-set : {K : Type 0} (sound : K → Type 0) (faults : K → ℕ) (ss : List (part.Keeping K)) (k : ℕ) (s g : part.Keeping K) → slice_get ss k ≡ Some s → PartGoesOn sound faults s g → AllZip (PartGoesOn sound faults) ss (slice_set ss k g)
parts-set sound faults [] k s g is on = absurd cc
parts-set sound faults (t ∷ ss) zero s g is on = let same : s ≡ t = cc in (subst (λ x. PartGoesOn sound faults x g) same on, parts-none sound faults ss)
parts-set sound faults (t ∷ ss) (suc k) s g is on = (goes_none (sound t.keeper) (faults t.keeper), parts-set sound faults ss k s g is on)

pub go_none : {K : Type 0} (sound : K → Type 0) (faults : K → ℕ) (a : School K) → GoOn sound faults a a
go_none sound faults a = record { catalog = goes_none (sound a.catalog.keeper) (faults a.catalog.keeper); parts = parts-none sound faults a.parts }

pub go_both : {K : Type 0} (sound : K → Type 0) (faults : K → ℕ) (a b c : School K) → GoOn sound faults a b → GoOn sound faults b c → GoOn sound faults a c
go_both sound faults a b c one other = record {
  catalog = goes_both (sound a.catalog.keeper) (sound b.catalog.keeper) (sound c.catalog.keeper) (faults a.catalog.keeper) (faults b.catalog.keeper) (faults c.catalog.keeper) one.catalog other.catalog;
  parts = parts-both sound faults a.parts b.parts c.parts one.parts other.parts;
}

-- the catalogue's
pub go_records : {K : Type 0} (sound : K → Type 0) (faults : K → ℕ) (c d : records.Keeping K) (ss : List (part.Keeping K)) → GoesOn (sound c.keeper) (sound d.keeper) (faults c.keeper) (faults d.keeper)
    → GoOn sound faults (record { catalog = c; parts = ss }) (record { catalog = d; parts = ss })
go_records sound faults c d ss on = record { catalog = on; parts = parts-none sound faults ss }

-- a shard's
pub go_part : {K : Type 0} (sound : K → Type 0) (faults : K → ℕ) (c : records.Keeping K) (ss : List (part.Keeping K)) (k : ℕ) (s g : part.Keeping K) → slice_get ss k ≡ Some s → GoesOn (sound s.keeper) (sound g.keeper) (faults s.keeper) (faults g.keeper)
    → GoOn sound faults (record { catalog = c; parts = ss }) (record { catalog = c; parts = slice_set ss k g })
go_part sound faults c ss k s g is on = record { catalog = goes_none (sound c.keeper) (faults c.keeper); parts = parts-set sound faults ss k s g is on }

-- a shard as it was at its place
record WentOn {K : Type 0} (sound : K → Type 0) (faults : K → ℕ) (ss : List (part.Keeping K)) (k : ℕ) (t : part.Keeping K) : Type 0 where
  was : part.Keeping K
  there : slice_get ss k ≡ Some was
  goes_on : PartGoesOn sound faults was t

went-on : {K : Type 0} (sound : K → Type 0) (faults : K → ℕ) (ss ts : List (part.Keeping K)) (k : ℕ) (t : part.Keeping K) → AllZip (PartGoesOn sound faults) ss ts → slice_get ts k ≡ Some t → WentOn sound faults ss k t
went-on sound faults [] [] k t on at = absurd cc
went-on sound faults [] (u ∷ ts) k t on at = absurd on
went-on sound faults (s ∷ ss) [] k t on at = absurd on
went-on sound faults (s ∷ ss) (u ∷ ts) zero t on at = let same : u ≡ t = cc in record { was = s; there = refl; goes_on = subst (λ x. PartGoesOn sound faults s x) same on.0 }
went-on sound faults (s ∷ ss) (u ∷ ts) (suc k) t on at = let w = went-on sound faults ss ts k t on.1 at in record { was = w.was; there = w.there; goes_on = w.goes_on }

-- ---- how often they failed, in all

parts-later : {K : Type 0} (sound : K → Type 0) (faults : K → ℕ) (ss ts : List (part.Keeping K)) → AllZip (PartGoesOn sound faults) ss ts → sum_by (λ s. faults s.keeper) ss ≤ sum_by (λ s. faults s.keeper) ts
parts-later sound faults [] [] on = omega arith
parts-later sound faults [] (t ∷ ts) on = absurd on
parts-later sound faults (s ∷ ss) [] on = absurd on
parts-later sound faults (s ∷ ss) (t ∷ ts) on =
    let own = on.0.later in
    let rest = parts-later sound faults ss ts on.1 in
    let was = sum_by-cons (λ (x : part.Keeping _). faults x.keeper) s ss in
    let now = sum_by-cons (λ (x : part.Keeping _). faults x.keeper) t ts in
    omega arith

parts-steady : {K : Type 0} (sound : K → Type 0) (faults : K → ℕ) (ss ts : List (part.Keeping K)) → AllZip (PartGoesOn sound faults) ss ts → ((k : ℕ) (s : part.Keeping K) → slice_get ss k ≡ Some s → sound s.keeper)
    → sum_by (λ s. faults s.keeper) ts ≡ sum_by (λ s. faults s.keeper) ss
parts-steady sound faults [] [] on is = refl
parts-steady sound faults [] (t ∷ ts) on is = absurd on
parts-steady sound faults (s ∷ ss) [] on is = absurd on
parts-steady sound faults (s ∷ ss) (t ∷ ts) on is =
    let own = on.0.steady (is 0 s refl) in
    let rest = parts-steady sound faults ss ts on.1 (λ k u at. is (suc k) u at) in
    let was = sum_by-cons (λ (x : part.Keeping _). faults x.keeper) s ss in
    let now = sum_by-cons (λ (x : part.Keeping _). faults x.keeper) t ts in
    omega arith

-- the count of all of them never falls, and stays where all are sound, which are sound from then on
pub goes_in_all : {K : Type 0} (sound : K → Type 0) (faults : K → ℕ) (a b : School K) → GoOn sound faults a b → GoesOn (AreSound sound a) (AreSound sound b) (faults_of faults a) (faults_of faults b)
goes_in_all sound faults a b on = record {
  later = let own = on.catalog.later in let rest = parts-later sound faults a.parts b.parts on.parts in omega arith;
  steady = λ is. let own = on.catalog.steady is.catalog in let rest = parts-steady sound faults a.parts b.parts on.parts is.parts in omega arith;
  still = λ is. record { catalog = on.catalog.still is.catalog; parts = λ k t at. let w = went-on sound faults a.parts b.parts k t on.parts at in w.goes_on.still (is.parts k w.was w.there) };
}

-- ---- one that fails

rises : (before mid now : ℕ) → before ≤ mid → HasRisen mid now → HasRisen before now
rises before mid now later risen = λ few. let more = risen few in omega arith

pub failed_then : (was is : Type 0) (before mid now : ℕ) → GoesOn was is before mid → HasFailed is mid now → HasFailed was before now
failed_then was is before mid now on why = record { rose = rises before mid now on.later why.rose; unsound = λ sound. why.unsound (on.still sound) }

-- behind others that went on
pub fails_then : {K : Type 0} (sound : K → Type 0) (faults : K → ℕ) (a b c : School K) → GoOn sound faults a b → Fails sound faults b c → Fails sound faults a c
fails_then sound faults a b c on (of_catalog why doubt) =
    of_catalog (failed_then (sound a.catalog.keeper) (sound b.catalog.keeper) (faults a.catalog.keeper) (faults b.catalog.keeper) (faults c.catalog.keeper) on.catalog why) doubt
fails_then sound faults a b c on (of_shard k s t from to why doubt) =
    let w = went-on sound faults a.parts b.parts k s on.parts from in
    of_shard k w.was t w.there to (failed_then (sound w.was.keeper) (sound s.keeper) (faults w.was.keeper) (faults s.keeper) (faults t.keeper) w.goes_on why) doubt

pub fails_records : {K : Type 0} (sound : K → Type 0) (faults : K → ℕ) (c d : records.Keeping K) (ss : List (part.Keeping K)) → HasFailed (sound c.keeper) (faults c.keeper) (faults d.keeper) × (is_some d.held.doubt ≡ true)
    → Fails sound faults (record { catalog = c; parts = ss }) (record { catalog = d; parts = ss })
fails_records sound faults c d ss why = of_catalog why.0 why.1

pub fails_part : {K : Type 0} (sound : K → Type 0) (faults : K → ℕ) (c : records.Keeping K) (ss : List (part.Keeping K)) (k : ℕ) (s g : part.Keeping K) → slice_get ss k ≡ Some s → HasFailed (sound s.keeper) (faults s.keeper) (faults g.keeper) × (is_some g.held.doubt ≡ true)
    → Fails sound faults (record { catalog = c; parts = ss }) (record { catalog = c; parts = slice_set ss k g })
fails_part sound faults c ss k s g is why = of_shard k s g is (set_get ss k s g is) why.0 why.1

-- a call, where that is worse that its keeper failed and left a record in doubt
pub call_blames : {A : Type 0} (failed worse : Type 0) (refused : Refusal → A) (Answers Others : List Record → A → List Record → Type 0) (old new : Held) (told : A)
    → (failed × (is_some new.doubt ≡ true) → worse) → ((h : List Record) (t : A) (g : List Record) → Answers h t g → Others h t g) → OneCall failed refused Answers old new told → OneCall worse refused Others old new told
call_blames failed worse refused Answers Others old new told to means call =
    (calls_mean (failed × (is_some new.doubt ≡ true)) worse refused Answers Others).each old new told to means (call_doubts failed refused Answers old new told call)

-- the others' counts don't fall where one rises
others-later : {K : Type 0} (sound : K → Type 0) (faults : K → ℕ) (ss ts : List (part.Keeping K)) (k : ℕ) (s t : part.Keeping K) → AllZip (PartGoesOn sound faults) ss ts → slice_get ss k ≡ Some s → slice_get ts k ≡ Some t
    → (sum_by (λ x. faults x.keeper) ss + faults t.keeper ≤ sum_by (λ x. faults x.keeper) ts + faults s.keeper) × (faults t.keeper ≤ sum_by (λ x. faults x.keeper) ts)
others-later sound faults [] ts k s t on from to = absurd cc
others-later sound faults (u ∷ ss) [] k s t on from to = absurd on
others-later sound faults (u ∷ ss) (v ∷ ts) zero s t on from to =
    let here : u ≡ s = cc in
    let there : v ≡ t = cc in
    let first : faults u.keeper ≡ faults s.keeper = ap (λ (x : part.Keeping _). faults x.keeper) here in
    let last : faults v.keeper ≡ faults t.keeper = ap (λ (x : part.Keeping _). faults x.keeper) there in
    let rest = parts-later sound faults ss ts on.1 in
    let was = sum_by-cons (λ (x : part.Keeping _). faults x.keeper) u ss in
    let now = sum_by-cons (λ (x : part.Keeping _). faults x.keeper) v ts in
    (omega arith, omega arith)
others-later sound faults (u ∷ ss) (v ∷ ts) (suc k) s t on from to =
    let own = on.0.later in
    let rest = others-later sound faults ss ts k s t on.1 from to in
    let more = rest.0 in
    let within = rest.1 in
    let was = sum_by-cons (λ (x : part.Keeping _). faults x.keeper) u ss in
    let now = sum_by-cons (λ (x : part.Keeping _). faults x.keeper) v ts in
    (omega arith, omega arith)

-- the count of all rose, and not all are sound
pub fails_in_all : {K : Type 0} (sound : K → Type 0) (faults : K → ℕ) (a b : School K) → GoOn sound faults a b → Fails sound faults a b → HasFailed (AreSound sound a) (faults_of faults a) (faults_of faults b)
fails_in_all sound faults a b on (of_catalog why doubt) = record {
  rose = λ few. let rest = parts-later sound faults a.parts b.parts on.parts in let more = why.rose (omega arith) in omega arith;
  unsound = λ is. why.unsound is.catalog;
}
fails_in_all sound faults a b on (of_shard k s t from to why doubt) = record {
  rose = λ few.
      let own = on.catalog.later in
      let both = others-later sound faults a.parts b.parts k s t on.parts from to in
      let others = both.0 in
      let within = both.1 in
      let more = why.rose (omega arith) in
      omega arith;
  unsound = λ is. why.unsound (is.parts k s from);
}
