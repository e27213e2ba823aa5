-- A job that was read before is told again by a turn that only mends.
use Rattle.std.proofs.Common.{◌≡◌, ℕ, List, Some, Result, Ok, Err, refl, ap, subst}
use mathlib.Core.List.{IsPrefix}
use Rattle.qz_catalog.specs.Keeping.{IsJob, TellsJob}
use Rattle.qz_grading.specs.declared.refusal.Refusal.{Refusal}
use Rattle.qz_keeper.specs.Lists.{Looks, OneCall}
use Rattle.qz_serial.proofs.Composing.{look_ends, looks_are_calls}
use Rattle.qz_serial.proofs.Longer.{staying_law}
use Rattle.qz_terms.specs.declared.plan.Job.{Job}
use Rattle.qz_terms.specs.declared.record.Record.{Record}
use Rattle.qz_terms.specs.Catalog as catalog
use Rattle.qz_terms.specs.Legal.{IsLegalCatalog}
use Rattle.qz_turn.specs.Passes.{Standing}
use Rattle.qz_turn.proofs.Prefixes.{prefix_trans}
use Rattle.qz_catalog_turns.specs.Turning.{Fails, TurnCalls, held_of}

-- a job stays in each longer list
pub job_on : (c d : List Record) (number : ℕ) (job : Job) → IsPrefix c d → IsJob c number job → IsJob d number job
job_on c d number job p is = record {
  job_is = subst (λ (l : List Record). catalog.job l number ≡ Some job) p.1 (staying_law.job c p.0 number job is.job_is);
  kept = is.kept;
  each = is.each;
}

module _ {K : Type 0} (old new : Standing Record K) (number : ℕ) where
  abbrev Mends : List Record → Result (Unit {0}) Refusal → Type 0
  Mends h told = told ≡ Ok tt

  abbrev failed : Type 0
  failed = Fails new.found new.seen

  turn-again : (told : Result (Unit {0}) Refusal) (said : Result Job Refusal) → TurnCalls IsLegalCatalog (λ r. Err r) (Looks Mends) old new told → OneCall failed (λ r. Err r) (Looks (TellsJob number)) (held_of new.found) (held_of new.seen) said
      → TurnCalls IsLegalCatalog (λ r. Err r) (Looks (TellsJob number)) old new said
  turn-again told said t call = record {
    begins = t.begins;
    grows = t.grows;
    calls = record { call = call; found_may = t.calls.found_may; seen_may = t.calls.seen_may };
    numbers = t.numbers;
    lock = t.lock;
    turns = t.turns;
  }

  pub told_again : (job : Job) → IsJob old.seen.list number job → TurnCalls IsLegalCatalog (λ r. Err r) (Looks Mends) old new (Ok tt) → TurnCalls IsLegalCatalog (λ r. Err r) (Looks (TellsJob number)) old new (Ok job)
  told_again job is t =
      let more = prefix_trans old.seen.list new.found.list new.seen.list t.begins.begins t.grows.begins in
      turn-again (Ok tt) (Ok job) t ((looks_are_calls failed (λ r. Err r) Mends (λ r. Err r) (Looks (TellsJob number))).alone (held_of new.found) (held_of new.seen) (Ok tt) (Ok job)
      (look_ends failed (λ r. Err r) Mends (held_of new.found) (held_of new.seen) (Ok tt) t.calls.call) (λ says. (job_on old.seen.list new.seen.list number job more is, refl)) (λ r no. absurd cc))

  pub failed_again : (why : Refusal) → TurnCalls IsLegalCatalog (λ r. Err r) (Looks Mends) old new (Err why) → TurnCalls IsLegalCatalog (λ r. Err r) (Looks (TellsJob number)) old new (Err why)
  failed_again why t =
      turn-again (Err why) (Err why) t ((looks_are_calls failed (λ r. Err r) Mends (λ r. Err r) (Looks (TellsJob number))).alone (held_of new.found) (held_of new.seen) (Err why) (Err why)
      (look_ends failed (λ r. Err r) Mends (held_of new.found) (held_of new.seen) (Err why) t.calls.call) (λ says. absurd cc) (λ r same. let why_is : why ≡ r = cc in ap (λ (w : Refusal). Err w) why_is))
