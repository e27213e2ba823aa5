-- The positions of jobs.
use Rattle.std.proofs.Common.{◌≡◌, ℕ, ◌+◌, ◌<◌, ◌≤◌, List, [], ◌∷◌, Option, Some, None, length, refl, sym, subst, ap, suc, arith, All}
use Rattle.std.specs.List.{enumerate_from}
use Rattle.std.specs.Prelude.{filter_map}
use Rattle.std.proofs.lemmas.List.Elements.{All-cons, All-nil}
use Rattle.qz_grading.specs.Grading.{at_place}
use Rattle.qz_terms.specs.declared.record.Record.{Record}
use Rattle.qz_terms.specs.declared.request.Request.{Request}
use Rattle.qz_terms.specs.declared.request.Request.TheVariants as request
use Rattle.qz_terms.specs.Catalog.{asked, jobs, regrade_by}
use Rattle.qz_catalog.proofs.Versions.{place-kept}

abbrev pub job_by : ℕ × Record → Option (ℕ × ℕ)
job_by r = regrade_by r.0 (asked r.1)

-- ---- a job's position is one of the list

pub regrade-place : (k : ℕ) (o : Option Request) (j : ℕ × ℕ) → regrade_by k o ≡ Some j → j.0 ≡ k
regrade-place k (Some (request.Regrade quiz)) j told =
    let made : ℕ × ℕ = (k, quiz) in
    let same : made ≡ j = cc in
    ap (λ (t : ℕ × ℕ). t.0) (sym same)
regrade-place k o j told = absurd cc

abbrev Within : ℕ → ℕ × ℕ → Type 0
Within most j = j.0 < most

within-step : (k : ℕ) (r : Record) (c : List Record) (o : Option (ℕ × ℕ)) → regrade_by k (asked r) ≡ o → All (Within (k + 1 + length c)) (filter_map job_by (enumerate_from (k + 1) c)) → All (Within (k + length (r ∷ c))) (filter_map job_by (enumerate_from k (r ∷ c)))
within-step k r c None is rest =
    let long : k + 1 + length c ≡ k + suc (length c) = omega arith in
    rw is (subst (λ (n : ℕ). All (Within n) (filter_map job_by (enumerate_from (k + 1) c))) long rest)
within-step k r c (Some j) is rest =
    let long : k + 1 + length c ≡ k + suc (length c) = omega arith in
    let place = regrade-place k (asked r) j is in
    let inside : j.0 < k + suc (length c) = omega (arith, place) in
    rw is (All-cons (Within (k + suc (length c))) j (filter_map job_by (enumerate_from (k + 1) c)) inside (subst (λ (n : ℕ). All (Within n) (filter_map job_by (enumerate_from (k + 1) c))) long rest))

within-from : (k : ℕ) (c : List Record) → All (Within (k + length c)) (filter_map job_by (enumerate_from k c))
within-from k [] = All-nil (Within (k + 0))
within-from k (r ∷ c) = within-step k r c (regrade_by k (asked r)) refl (within-from (k + 1) c)

pub job-within : (c : List Record) (n position quiz : ℕ) → Some (position, quiz) ≡ at_place (jobs c) n → position ≤ length c
job-within c n position quiz found =
    let inside : position < 1 + length c = place-kept (Within (1 + length c)) (jobs c) n (position, quiz) (sym found) (within-from 1 c) in
    omega arith
