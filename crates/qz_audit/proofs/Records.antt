-- How many records a school has, and that it has no fewer when it was served.
use Rattle.std.proofs.Common.{◌≡◌, ℕ, zero, suc, ◌+◌, ◌≤◌, List, [], ◌∷◌, length, map, refl, sym, ap, ◌∙◌, arith}
use Rattle.std.specs.Prelude.{sum_by}
use Rattle.std.proofs.lemmas.List.Sums.{sum_by-cons}
use Rattle.qz_school.specs.Solos.{School, held_of, lists_in}
use Rattle.qz_shard.specs.Keeping as part
use Rattle.qz_terms.specs.declared.record.Record.{Record}
use Rattle.qz_terms.specs.Serial.{Held}
use Rattle.qz_turn.specs.declared.view.Tale.{Tale}
use Rattle.qz_turn.proofs.Prefixes.{prefix_length}
use Rattle.qz_visit.specs.Closing.{AreClosed, Closes}
use Rattle.qz_visit.specs.Closing as closing
use Rattle.qz_visit.specs.Opening.{tales, told_by}
use Rattle.qz_audit.specs.Audits.{records_in}

abbrev in_parts : {K : Type 0} → List (part.Keeping K) → ℕ
in_parts parts = sum_by (λ (s : part.Keeping _). length s.held.list) parts

-- of shards, or of what they hold
pub sum_held : {K : Type 0} (parts : List (part.Keeping K)) → sum_by (λ (h : Held). length h.list) (held_of parts) ≡ in_parts parts
sum_held [] = refl
sum_held (s ∷ ss) = sum_by-cons (λ (h : Held). length h.list) s.held (held_of ss) ∙ ap (λ (n : ℕ). length s.held.list + n) (sum_held ss) ∙ sym (sum_by-cons (λ (x : part.Keeping _). length x.held.list) s ss)

pub counted_in : {K : Type 0} (a : School K) → length a.catalog.held.list + in_parts a.parts ≡ records_in (lists_in a)
counted_in a = ap (λ (n : ℕ). length a.catalog.held.list + n) (sym (sum_held a.parts))

parts-more : {K : Type 0} (faults : K → ℕ) (c : List Record) (n k : ℕ) (xs ss : List (part.Keeping K)) → AreClosed faults c n k (tales faults xs) ss → in_parts xs ≤ in_parts ss
parts-more faults c n _ [] _ (closing.none k) = omega arith
parts-more faults c n _ (x ∷ xs) _ (closing.more k t s _ ss is rest) =
    let first : length x.held.list ≤ length s.held.list = prefix_length x.held.list s.held.list is.follows.begins in
    let others = parts-more faults c n (k + 1) xs ss rest in
    let before = sum_by-cons (λ (y : part.Keeping _). length y.held.list) x xs in
    let after = sum_by-cons (λ (y : part.Keeping _). length y.held.list) s ss in
    omega (arith, first, others, before, after)

pub no_fewer : {K : Type 0} (faults : K → ℕ) (a b : School K) → Closes faults (told_by faults a) b → records_in (lists_in a) ≤ records_in (lists_in b)
no_fewer faults a b c =
    let first : length a.catalog.held.list ≤ length b.catalog.held.list = prefix_length a.catalog.held.list b.catalog.held.list c.records.begins in
    let others = parts-more faults b.catalog.held.list (length b.parts) 0 a.parts b.parts c.parts in
    let before = counted_in a in
    let after = counted_in b in
    omega (arith, first, others, before, after)
