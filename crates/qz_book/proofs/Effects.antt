-- What an allowed record does at a place of an attempt.
use Rattle.std.proofs.Common.{◌≡◌, ℕ, Bool, true, false, List, [], ◌∷◌, ◌++◌, Some, None, refl, sym, ap, ◌∙◌}
use Rattle.std.specs.Prelude.{◌==◌, is_none}
use Rattle.std.proofs.lemmas.Bool.{eqb-true}
use Rattle.qz_grading.specs.declared.outcome.Behaviour.{Behaviour}
use Rattle.qz_grading.specs.declared.question.Question.{Question}
use Rattle.qz_grading.specs.declared.refusal.AttemptId.{AttemptId}
use Rattle.qz_grading.specs.declared.response.Step.{Step}
use Rattle.qz_grading.specs.declared.response.Step.TheVariants as step
use Rattle.qz_grading.specs.Grading.{at_place, shape}
use Rattle.qz_grading.specs.Shapes.{same_shape}
use Rattle.qz_terms.specs.declared.plan.Bound.{Bound}
use Rattle.qz_terms.specs.declared.record.Event.{Event}
use Rattle.qz_terms.specs.declared.record.Event.TheVariants as event
use Rattle.qz_terms.specs.declared.record.How.{How}
use Rattle.qz_terms.specs.declared.record.How.TheVariants as how
use Rattle.qz_terms.specs.declared.record.Learned.{Learned}
use Rattle.qz_terms.specs.declared.record.Record.{Record}
use Rattle.qz_terms.specs.Legal.{EventIsAllowed, IsLegal, IsPut, LearnsNew, RebindIsAllowed, StartIsAllowed}
use Rattle.qz_terms.specs.History.{Start, binds, ends, learned_by, question, same_attempt, start, starts, step_in, version}
use Rattle.qz_lives.proofs.Effects.{IsActed, IsEnding, acted-as, acted-put, attempt_of, begins-first, ended-put, ending-as, one-attempt, quiz-there}
use Rattle.qz_lives.proofs.Legality.{started-number}

-- ---- what an allowed record does

pub record Begins (l : List Record) (r : Record) (a : AttemptId) (k : ℕ) : Type 0 where
  pub told : Start
  pub first : start l a ≡ None
  pub starts_it : starts a r ≡ Some told
  pub binds_it : binds a k r ≡ at_place told.bounds k
  pub learns_it : LearnsNew l told.bounds (learned_by r.event)
  pub no_step : step_in a k r ≡ None
  pub no_end : ends a r ≡ None

pub record Acts (l : List Record) (r : Record) (a : AttemptId) (k : ℕ) (x : Step) : Type 0 where
  pub no_start : starts a r ≡ None
  pub no_bound : binds a k r ≡ None
  pub no_end : ends a r ≡ None
  pub takes : step_in a k r ≡ Some x
  pub acted : IsActed l a k x

pub record Finishes (l : List Record) (r : Record) (a : AttemptId) (k : ℕ) : Type 0 where
  pub no_start : starts a r ≡ None
  pub no_bound : binds a k r ≡ None
  pub ends_it : ends a r ≡ Some how.Finished
  pub takes : step_in a k r ≡ Some step.Finish
  pub ending : IsEnding l a

pub record Rebinds (l : List Record) (r : Record) (a : AttemptId) (k : ℕ) : Type 0 where
  pub no_start : starts a r ≡ None
  pub no_end : ends a r ≡ None
  pub no_step : step_in a k r ≡ None
  pub told : Bound
  pub binds_it : binds a k r ≡ Some told
  pub there : is_none (start l a) ≡ false
  pub old : Question
  pub newer : Question
  pub old_is : question l a k ≡ Some old
  pub newer_is : version (l ++ r ∷ []) told.entry told.version ≡ Some newer
  pub same : same_shape (shape old) (shape newer) ≡ true

pub record Leaves (r : Record) (a : AttemptId) (k : ℕ) : Type 0 where
  pub no_start : starts a r ≡ None
  pub no_bound : binds a k r ≡ None
  pub no_step : step_in a k r ≡ None

pub data Does (l : List Record) (r : Record) (a : AttemptId) (k : ℕ) : Type 0 where
  begins : Begins l r a k → Does l r a k
  acts : (x : Step) → Acts l r a k x → Does l r a k
  finishes : Finishes l r a k → Does l r a k
  rebinds : Rebinds l r a k → Does l r a k
  leaves : Leaves r a k → Does l r a k

does-start : (index count : ℕ) (l : List Record) (r : Record) (a : AttemptId) (k q n : ℕ) (b : Behaviour) (bs : List Bound) (ls : List Learned) (c : Bool) → IsLegal index count l → r.event ≡ event.Started q n b bs ls → StartIsAllowed l r q bs ls → same_attempt a (attempt_of r.owner n) ≡ c → Does l r a k
does-start index count l r a k q n b bs ls true legal is allowed same =
    let one : a ≡ attempt_of r.owner n = one-attempt a (attempt_of r.owner n) same in
    begins (record {
      told = record { attempt = attempt_of r.owner n; moment = r.moment; quiz = q; behaviour = b; bounds = bs };
      first = ap (start l) one ∙ begins-first index count l r.owner n (start l (attempt_of r.owner n)) legal (started-number l r q n b bs ls is allowed.is_put) refl;
      starts_it = rw (is, same) refl;
      binds_it = rw (is, same) refl;
      learns_it = rw is allowed.learns;
      no_step = rw is refl;
      no_end = rw is refl;
    })
does-start index count l r a k q n b bs ls false legal is allowed same = leaves (record { no_start = rw (is, same) refl; no_bound = rw (is, same) refl; no_step = rw is refl })

does-act : (l : List Record) (r : Record) (a : AttemptId) (k : ℕ) (b : AttemptId) (j : ℕ) (x : Step) (c d : Bool) → r.event ≡ event.Acted b j x → IsPut l r → same_attempt a b ≡ c → (k == j) ≡ d → Does l r a k
does-act l r a k b j x true true is put same place =
    acts x (record {
      no_start = rw is refl;
      no_bound = rw is refl;
      no_end = rw is refl;
      takes = rw (is, same, place) refl;
      acted = acted-as l b j x a k x (sym (one-attempt a b same), sym (eqb-true k j place), refl) (acted-put l r b j x is put);
    })
does-act l r a k b j x true false is put same place = leaves (record { no_start = rw is refl; no_bound = rw is refl; no_step = rw (is, same, place) refl })
does-act l r a k b j x false d is put same place = leaves (record { no_start = rw is refl; no_bound = rw is refl; no_step = rw (is, same) refl })

does-end : (l : List Record) (r : Record) (a : AttemptId) (k : ℕ) (b : AttemptId) (w : How) (c : Bool) → r.event ≡ event.Ended b w → IsPut l r → same_attempt a b ≡ c → Does l r a k
does-end l r a k b how.Finished true is put same =
    finishes (record {
      no_start = rw is refl;
      no_bound = rw is refl;
      ends_it = rw (is, same) refl;
      takes = rw (is, same) refl;
      ending = ending-as l b a (sym (one-attempt a b same)) (ended-put l r b how.Finished is put);
    })
does-end l r a k b how.Abandoned true is put same = leaves (record { no_start = rw is refl; no_bound = rw is refl; no_step = rw (is, same) refl })
does-end l r a k b w false is put same = leaves (record { no_start = rw is refl; no_bound = rw is refl; no_step = rw (is, same) refl })

does-rebind : (l : List Record) (r : Record) (a : AttemptId) (k job : ℕ) (b : AttemptId) (j : ℕ) (d : Bound) (ls : List Learned) (c e : Bool) → r.event ≡ event.Rebound job b j d ls → RebindIsAllowed l r job b j d ls → same_attempt a b ≡ c → (k == j) ≡ e → Does l r a k
does-rebind l r a k job b j d ls true true is allowed same place =
    let one : a ≡ b = one-attempt a b same in
    let slot_is : k ≡ j = eqb-true k j place in
    rebinds (record {
      no_start = rw is refl;
      no_end = rw is refl;
      no_step = rw is refl;
      told = d;
      binds_it = rw (is, same, place) refl;
      there = ap (λ (t : AttemptId). is_none (start l t)) one ∙ quiz-there (start l b) allowed.quiz allowed.of_quiz;
      old = allowed.old;
      newer = allowed.newer;
      old_is = ap (λ (t : AttemptId). question l t k) one ∙ ap (question l b) slot_is ∙ allowed.old_is;
      newer_is = allowed.newer_is;
      same = allowed.same;
    })
does-rebind l r a k job b j d ls true false is allowed same place = leaves (record { no_start = rw is refl; no_bound = rw (is, same, place) refl; no_step = rw is refl })
does-rebind l r a k job b j d ls false e is allowed same place = leaves (record { no_start = rw is refl; no_bound = rw (is, same) refl; no_step = rw is refl })

does-by : (index count : ℕ) (l : List Record) (r : Record) (a : AttemptId) (k : ℕ) (d : Event) → IsLegal index count l → r.event ≡ d → EventIsAllowed l r d → Does l r a k
does-by index count l r a k (event.Founded shards token) legal is allowed = absurd allowed
does-by index count l r a k (event.Asked x) legal is allowed = absurd allowed
does-by index count l r a k (event.Started q n b bs ls) legal is allowed = does-start index count l r a k q n b bs ls (same_attempt a (attempt_of r.owner n)) legal is allowed refl
does-by index count l r a k (event.Acted b j x) legal is allowed = does-act l r a k b j x (same_attempt a b) (k == j) is allowed refl refl
does-by index count l r a k (event.Noted b j x) legal is allowed = leaves (record { no_start = rw is refl; no_bound = rw is refl; no_step = rw is refl })
does-by index count l r a k (event.Ended b w) legal is allowed = does-end l r a k b w (same_attempt a b) is allowed refl
does-by index count l r a k (event.Rebound job b j d ls) legal is allowed = does-rebind l r a k job b j d ls (same_attempt a b) (k == j) is allowed refl refl
does-by index count l r a k (event.Skipped job b j x y) legal is allowed = leaves (record { no_start = rw is refl; no_bound = rw is refl; no_step = rw is refl })
does-by index count l r a k (event.JobDone job q position) legal is allowed = leaves (record { no_start = rw is refl; no_bound = rw is refl; no_step = rw is refl })

pub does : (index count : ℕ) (l : List Record) (r : Record) (a : AttemptId) (k : ℕ) → IsLegal index count l → EventIsAllowed l r r.event → Does l r a k
does index count l r a k legal allowed = does-by index count l r a k r.event legal refl allowed
