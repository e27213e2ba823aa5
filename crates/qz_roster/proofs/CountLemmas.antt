-- Counts with one record more.
use Rattle.std.proofs.Common.{◌≡◌, ℕ, ◌+◌, List, [], ◌∷◌, ◌++◌, length, sym, ap, ◌∙◌, arith, length-append, append-nil}
use Rattle.std.specs.Int.{from_bool}
use Rattle.std.specs.List.{enumerate_from}
use Rattle.std.specs.Prelude.{filter_map, is_some, option_to_list}
use Rattle.std.proofs.lemmas.Grind.{flat_map-append}
use Rattle.qz_grading.specs.declared.question.Item.{Item}
use Rattle.qz_terms.specs.declared.record.Record.{Record}
use Rattle.qz_terms.specs.Catalog.{asked, entries, group_by, groups, imports_by, jobs, regrade_by}
use Rattle.qz_terms.proofs.Walks.{all_of-push}
use Rattle.qz_roster.specs.declared.counts.Counts.{Counts}
use Rattle.qz_roster.specs.Counts.{AreCountsOf}
use Rattle.qz_roster.proofs.Telling.{count-more}

pub groups-push : (c : List Record) (r : Record) → length (groups (c ++ r ∷ [])) ≡ length (groups c) + from_bool (is_some (group_by (asked r)))
groups-push c r = ap (λ (l : List (List ℕ)). length l) (all_of-push (λ (s : Record). group_by (asked s)) c r) ∙ count-more (groups c) (group_by (asked r))

pub entries-push : (c : List Record) (r : Record) → length (entries (c ++ r ∷ [])) ≡ length (entries c) + length (imports_by (asked r))
entries-push c r =
    ap (λ (is : List Item). length is) (flat_map-append (λ (s : Record). imports_by (asked s)) c (r ∷ []) ∙ ap (λ (is : List Item). entries c ++ is) (append-nil (imports_by (asked r))))
    ∙ length-append (entries c) (imports_by (asked r))

numbered-push : (k : ℕ) (c : List Record) (r : Record) → enumerate_from k (c ++ r ∷ []) ≡ enumerate_from k c ++ (k + length c, r) ∷ []
numbered-push k [] r = ap (λ n. (n, r) ∷ []) (let same : k ≡ k + 0 = omega arith in same)
numbered-push k (s ∷ c) r =
    let place : k + 1 + length c ≡ k + length (s ∷ c) = omega arith in
    ap (λ (l : List (ℕ × Record)). (k, s) ∷ l) (numbered-push (k + 1) c r ∙ ap (λ n. enumerate_from (k + 1) c ++ (n, r) ∷ []) place)

pub jobs-push : (c : List Record) (r : Record) → jobs (c ++ r ∷ []) ≡ jobs c ++ option_to_list (regrade_by (length c + 1) (asked r))
jobs-push c r =
    let place : 1 + length c ≡ length c + 1 = omega arith in
    ap (filter_map (λ (s : ℕ × Record). regrade_by s.0 (asked s.1))) (numbered-push 1 c r ∙ ap (λ n. enumerate_from 1 c ++ (n, r) ∷ []) place)
    ∙ all_of-push (λ (s : ℕ × Record). regrade_by s.0 (asked s.1)) (enumerate_from 1 c) (length c + 1, r)

pub counts-kept : (c : List Record) (r : Record) (old new : Counts) → AreCountsOf c old → new.groups ≡ old.groups + from_bool (is_some (group_by (asked r))) → new.entries ≡ old.entries + length (imports_by (asked r))
    → new.jobs.items ≡ old.jobs.items ++ option_to_list (regrade_by (length c + 1) (asked r)) → AreCountsOf (c ++ r ∷ []) new
counts-kept c r old new are groups_is entries_is jobs_is = record {
  groups = groups_is ∙ ap (λ n. n + from_bool (is_some (group_by (asked r)))) are.groups ∙ sym (groups-push c r);
  entries = entries_is ∙ ap (λ n. n + length (imports_by (asked r))) are.entries ∙ sym (entries-push c r);
  jobs = jobs_is ∙ ap (λ (l : List (ℕ × ℕ)). l ++ option_to_list (regrade_by (length c + 1) (asked r))) are.jobs ∙ sym (jobs-push c r);
}
