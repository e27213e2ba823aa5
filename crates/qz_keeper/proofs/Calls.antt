-- What a call at a list comes to, by what its mending and its answer came to.
use Rattle.std.proofs.Common.{◌≡◌, ◌⊎◌, ⊎_elim, arith, ℕ, true, List, Option, Some, None, is_some, Result, Ok, Err, MatchResult, refl, sym, ◌∙◌, ap, subst}
use Rattle.qz_disks.specs.declared.keeper.KeepErr.{KeepErr}
use Rattle.qz_disks.specs.declared.keeper.KeepErr.TheVariants.{Fault, Memory}
use Rattle.qz_grading.specs.declared.refusal.Refusal.{Refusal}
use Rattle.qz_grading.specs.declared.refusal.Refusal.TheVariants as refusal
use Rattle.qz_keeper.specs.Custody.{Custody, IsReady, pending, pending_of}
use Rattle.qz_keeper.specs.Lists.{CallEnds, IsSettled, IsUnsettled, OneCall, answered, held_in, no_memory, put_in_doubt, refusal_of, stayed_in_doubt, told_of}
use Rattle.qz_keeper.specs.Recording.{GoesOn, HasFailed, Recorded, Serves, TakesRecord, failure, nothing_put, one_put, taken, untaken, wanting}
use Rattle.qz_terms.specs.declared.record.Record.{Record}
use Rattle.qz_terms.specs.Serial.{Held, stays}

-- nothing is asked of a list that couldn't be mended
pub unsettled_call : {A : Type 0} (failed : Type 0) (refused : Refusal → A) (Answers : List Record → A → List Record → Type 0) (old new : Held) (e : KeepErr) → IsUnsettled failed old new e → OneCall failed refused Answers old new (refused (refusal_of e))
unsettled_call failed refused Answers old new Fault u = record { mended = old; mends = stays old; ends = stayed_in_doubt (u.cause refl) (u.in_doubt refl) u.same refl }
unsettled_call failed refused Answers old new Memory u = record { mended = old; mends = stays old; ends = no_memory u.same refl }

-- nothing of a list is in doubt where its keeper is ready
pub pending_none : {K : Type 0} (c : Custody K) → IsReady c → pending c ≡ None
pending_none c ready = subst (λ d. pending_of d c.found ≡ None) (sym ready.no_doubt) ready.none_found

pub pending_failed : {K : Type 0} (c : Custody K) (r : Record) → c.doubt ≡ Some r → pending c ≡ Some r
pending_failed c r doubt = ap (λ d. pending_of d c.found) doubt

held_as : {K : Type 0} (g h : List Record) (c : Custody K) (doubt : Option Record) → g ≡ h → pending c ≡ doubt → held_in g c ≡ record { list = h; doubt = doubt }
held_as g h c doubt same is = ap (λ (l : List Record). record { list = l; doubt = pending c }) same ∙ ap (λ d. record { list = h; doubt = d }) is

same_held : {K : Type 0} (g h : List Record) (c d : Custody K) → g ≡ h → pending c ≡ None → pending d ≡ None → held_in g d ≡ held_in h c
same_held g h c d same before after = held_as g h d None same after ∙ sym (held_as h h c None refl before)

pub memory_is : (e : KeepErr) → Some e ≡ Some Memory → e ≡ Memory
memory_is e why = cc

-- a keeper that didn't serve a call failed
pub failed_of : (was is : Type 0) (before now : ℕ) (failed : Type 0) → Serves was is before now failed → failed → HasFailed was before now
failed_of was is before now failed s did = record { rose = s.cause did; unsound = λ sound. s.works sound did }

-- what was answered over a list, with its record taken
was_answered : {A K : Type 0} (kept : K → Option (List (List ℕ))) (sound : K → Type 0) (faults : K → ℕ) (refused : Refusal → A) (Answers : List Record → A → List Record → Type 0) (h after g : List Record) (MayFollow : Record → Type 0) (c d : Custody K) (answer told : A)
    → IsReady c → Answers h answer after → told ≡ answer → g ≡ after → Recorded (TakesRecord kept sound faults) MayFollow h after c d None → CallEnds (HasFailed (sound c.keeper) (faults c.keeper) (faults d.keeper)) refused Answers (held_in h c) (held_in g d) told
was_answered kept sound faults refused Answers h after g MayFollow c d answer told ready is same list (nothing_put nothing still why) =
    answered (pending_none c ready) (subst (λ x. pending x ≡ None) (sym still) (pending_none c ready)) (subst (λ t. Answers h t g) (sym same) (subst (λ l. Answers h answer l) (sym list) is))
was_answered kept sound faults refused Answers h after g MayFollow c d answer told ready is same list (one_put r may longer (taken took)) =
    answered (pending_none c ready) (subst (λ x. pending_of x d.found ≡ None) (sym took.appends.no_doubt) took.none_found) (subst (λ t. Answers h t g) (sym same) (subst (λ l. Answers h answer l) (sym list) is))
was_answered kept sound faults refused Answers h after g MayFollow c d answer told ready is same list (one_put r may longer (untaken still why)) = absurd cc
was_answered kept sound faults refused Answers h after g MayFollow c d answer told ready is same list (wanting still why) = absurd cc

was_wanting : {A K : Type 0} (sound : K → Type 0) (faults : K → ℕ) (refused : Refusal → A) (Answers : List Record → A → List Record → Type 0) (h g : List Record) (c d : Custody K) (e : KeepErr) → g ≡ h → d ≡ c → Some e ≡ Some Memory → CallEnds (HasFailed (sound c.keeper) (faults c.keeper) (faults d.keeper)) refused Answers (held_in h c) (held_in g d) (refused (refusal_of e))
was_wanting sound faults refused Answers h g c d e same still why =
    subst (λ x. CallEnds (HasFailed (sound c.keeper) (faults c.keeper) (faults d.keeper)) refused Answers (held_in h c) (held_in g d) (refused (refusal_of x))) (sym (memory_is e why))
    (no_memory (ap (λ x. held_in g x) still ∙ ap (λ l. held_in l c) same) refl)

-- what wasn't, with its record in doubt or without
wasnt_answered : {A K : Type 0} (kept : K → Option (List (List ℕ))) (sound : K → Type 0) (faults : K → ℕ) (refused : Refusal → A) (Answers : List Record → A → List Record → Type 0) (h after g : List Record) (MayFollow : Record → Type 0) (c d : Custody K) (answer : A) (e : KeepErr)
    → IsReady c → Answers h answer after → g ≡ h → Recorded (TakesRecord kept sound faults) MayFollow h after c d (Some e) → CallEnds (HasFailed (sound c.keeper) (faults c.keeper) (faults d.keeper)) refused Answers (held_in h c) (held_in g d) (refused (refusal_of e))
wasnt_answered kept sound faults refused Answers h after g MayFollow c d answer e ready is same (nothing_put nothing still why) = absurd cc
wasnt_answered kept sound faults refused Answers h after g MayFollow c d answer Fault ready is same (one_put r may longer (taken took)) =
    put_in_doubt (failed_of _ _ _ _ _ took.serves refl) answer r (pending_none c ready) (subst (λ l. Answers h answer l) longer is) (held_as g h d (Some r) same (pending_failed d r took.appends.in_doubt)) refl
wasnt_answered kept sound faults refused Answers h after g MayFollow c d answer Memory ready is same (one_put r may longer (taken took)) =
    no_memory (same_held g h c d same (pending_none c ready) (pending_none d (record { no_doubt = took.appends.in_doubt; none_found = took.none_found }))) refl
wasnt_answered kept sound faults refused Answers h after g MayFollow c d answer e ready is same (one_put r may longer (untaken still why)) = was_wanting sound faults refused Answers h g c d e same still why
wasnt_answered kept sound faults refused Answers h after g MayFollow c d answer e ready is same (wanting still why) = was_wanting sound faults refused Answers h g c d e same still why

-- A call at a settled list is answered; or the record that its answer puts is in doubt; or memory was wanting.
pub recorded_call : {A K : Type 0} (kept : K → Option (List (List ℕ))) (sound : K → Type 0) (faults : K → ℕ) (refused : Refusal → A) (Answers : List Record → A → List Record → Type 0) (h after g : List Record) (MayFollow : Record → Type 0) (c d : Custody K) (answer : A) (result : Result A KeepErr)
    → IsReady c → Answers h answer after → MatchResult result (λ told. (told ≡ answer) × (g ≡ after)) (λ _. g ≡ h) → Recorded (TakesRecord kept sound faults) MayFollow h after c d (failure result)
    → CallEnds (HasFailed (sound c.keeper) (faults c.keeper) (faults d.keeper)) refused Answers (held_in h c) (held_in g d) (told_of refused result)
recorded_call kept sound faults refused Answers h after g MayFollow c d answer (Ok told) ready is ends took = was_answered kept sound faults refused Answers h after g MayFollow c d answer told ready is ends.0 ends.1 took
recorded_call kept sound faults refused Answers h after g MayFollow c d answer (Err e) ready is ends took = wasnt_answered kept sound faults refused Answers h after g MayFollow c d answer e ready is ends took

-- ---- a call behind its mending

failed_first : (s t : Type 0) (m n o : ℕ) → GoesOn s t m n → HasFailed t n o → HasFailed s m o
failed_first s t m n o g f = record { rose = λ below. omega (arith, g.later, f.rose below); unsound = λ sound. f.unsound (g.still sound) }

ends_for : {A : Type 0} (f g : Type 0) (refused : Refusal → A) (Answers : List Record → A → List Record → Type 0) (m n : Held) (told : A) → (f → g) → CallEnds f refused Answers m n told → CallEnds g refused Answers m n told
ends_for f g refused Answers m n told to (answered clear after is) = answered clear after is
ends_for f g refused Answers m n told to (put_in_doubt why answer r clear is new said) = put_in_doubt (to why) answer r clear is new said
ends_for f g refused Answers m n told to (stayed_in_doubt why doubt new said) = stayed_in_doubt (to why) doubt new said
ends_for f g refused Answers m n told to (no_memory new said) = no_memory new said

-- the list was mended, and then the call came to this
pub mended_call : {A : Type 0} (s t : Type 0) (m n o : ℕ) (refused : Refusal → A) (Answers : List Record → A → List Record → Type 0) (old mended new : Held) (told : A)
    → GoesOn s t m n → IsSettled old mended → CallEnds (HasFailed t n o) refused Answers mended new told → OneCall (HasFailed s m o) refused Answers old new told
mended_call s t m n o refused Answers old mended new told g settled ends = record { mended = mended; mends = settled.mends; ends = ends_for _ _ refused Answers mended new told (failed_first s t m n o g) ends }

-- a call that only looks fails for want of memory alone
pub looked_call : {A : Type 0} (s t : Type 0) (m n o : ℕ) (refused : Refusal → A) (Answers : List Record → A → List Record → Type 0) (old mended new : Held) (told : A)
    → IsSettled old mended → new ≡ mended → (Answers mended.list told mended.list) ⊎ (told ≡ refused refusal.Memory) → OneCall (HasFailed s m o) refused Answers old new told
looked_call s t m n o refused Answers old mended new told settled same ends = record {
  mended = mended;
  mends = settled.mends;
  ends = ⊎_elim
      (λ is. answered settled.no_doubt (ap (λ (h : Held). h.doubt) same ∙ settled.no_doubt) (subst (λ (h : Held). Answers mended.list told h.list) (sym same) is))
      (λ wanting. no_memory same wanting) ends;
}

-- the count of two calls
pub goes_both : (a b c : Type 0) (m n o : ℕ) → GoesOn a b m n → GoesOn b c n o → GoesOn a c m o
goes_both a b c m n o s t = record { later = omega (arith, s.later, t.later); steady = λ was. t.steady (s.still was) ∙ s.steady was; still = λ was. t.still (s.still was) }

-- ---- where its keeper failed, a record is in doubt afterwards

pub ends_doubt : {A : Type 0} (failed : Type 0) (refused : Refusal → A) (Answers : List Record → A → List Record → Type 0) (mended new : Held) (told : A) → CallEnds failed refused Answers mended new told → CallEnds (failed × (is_some new.doubt ≡ true)) refused Answers mended new told
ends_doubt failed refused Answers mended new told (answered clear after is) = answered clear after is
ends_doubt failed refused Answers mended new told (put_in_doubt why answer r clear is same said) = put_in_doubt (why, ap (λ (h : Held). is_some h.doubt) same) answer r clear is same said
ends_doubt failed refused Answers mended new told (stayed_in_doubt why doubt same said) = stayed_in_doubt (why, ap (λ (h : Held). is_some h.doubt) same ∙ doubt) doubt same said
ends_doubt failed refused Answers mended new told (no_memory same said) = no_memory same said

pub call_doubts : {A : Type 0} (failed : Type 0) (refused : Refusal → A) (Answers : List Record → A → List Record → Type 0) (old new : Held) (told : A) → OneCall failed refused Answers old new told → OneCall (failed × (is_some new.doubt ≡ true)) refused Answers old new told
call_doubts failed refused Answers old new told call = record { mended = call.mended; mends = call.mends; ends = ends_doubt failed refused Answers call.mended new told call.ends }
