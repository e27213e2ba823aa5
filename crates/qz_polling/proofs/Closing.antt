-- A school that those who asked it have left has as many shards as before, and no count of faults fell.
use Rattle.std.proofs.Common.{◌≡◌, ℕ, suc, ◌+◌, ◌≤◌, List, [], ◌∷◌, length, refl, ap, ◌∙◌, arith}
use Rattle.std.specs.Prelude.{sum_by}
use Rattle.std.proofs.lemmas.List.{length-map}
use Rattle.std.proofs.lemmas.List.Sums.{sum_by-cons}
use Rattle.qz_catalog_turns.specs.Turning.{tale_of}
use Rattle.qz_school.specs.Solos.{School, faults_of}
use Rattle.qz_shard.specs.Keeping as part
use Rattle.qz_terms.specs.declared.record.Record.{Record}
use Rattle.qz_turn.specs.declared.view.Tale.{Tale}
use Rattle.qz_visit.specs.Closing.{AreClosed, Closes}
use Rattle.qz_visit.specs.Closing as closing
use Rattle.qz_visit.specs.Opening.{tales, told_by}

closed-count : {K : Type 0} (faults : K → ℕ) (c : List Record) (n k : ℕ) (ts : List (Tale Record)) (ss : List (part.Keeping K)) → AreClosed faults c n k ts ss → length ss ≡ length ts
closed-count faults c n _ _ _ (closing.none k) = refl
closed-count faults c n _ _ _ (closing.more k t s ts ss is rest) = ap suc (closed-count faults c n (k + 1) ts ss rest)

pub closes_count : {K : Type 0} (faults : K → ℕ) (a b : School K) → Closes faults (told_by faults a) b → length b.parts ≡ length a.parts
closes_count faults a b c = closed-count faults b.catalog.held.list (length b.parts) 0 (tales faults a.parts) b.parts c.parts ∙ length-map a.parts (λ s. tale_of s.held (faults s.keeper))

closed-later : {K : Type 0} (faults : K → ℕ) (c : List Record) (n k : ℕ) (xs ss : List (part.Keeping K)) → AreClosed faults c n k (tales faults xs) ss → sum_by (λ s. faults s.keeper) xs ≤ sum_by (λ s. faults s.keeper) ss
closed-later faults c n _ [] _ (closing.none k) = omega arith
closed-later faults c n _ (x ∷ xs) _ (closing.more k _ s _ ss is rest) =
    let first = is.follows.faults in
    let others = closed-later faults c n (k + 1) xs ss rest in
    let before = sum_by-cons (λ (y : part.Keeping _). faults y.keeper) x xs in
    let after = sum_by-cons (λ (y : part.Keeping _). faults y.keeper) s ss in
    omega arith

pub closes_later : {K : Type 0} (faults : K → ℕ) (a b : School K) → Closes faults (told_by faults a) b → faults_of faults a ≤ faults_of faults b
closes_later faults a b c =
    let first = c.records.faults in
    let others = closed-later faults b.catalog.held.list (length b.parts) 0 a.parts b.parts c.parts in
    omega arith
