-- The rows of shards that are replayed are those of their lists.
use Rattle.std.proofs.Common.{◌≡◌, ℕ, ◌+◌, List, [], ◌∷◌, ◌++◌, ℤ, length, map, sym, ap, subst, ◌∙◌, All}
use Rattle.std.specs.Prelude.{filter_map, flat_map, fold, max}
use Rattle.std.proofs.lemmas.List.{map-append}
use Rattle.std.proofs.lemmas.List.Elements.{All-map, All-weaker}
use Rattle.std.proofs.lemmas.List.Folds.{flat_map-map}
use Rattle.qz_book.specs.Held.{IsSound}
use Rattle.qz_book.proofs.PlayLemmas.{places-more}
use Rattle.qz_terms.specs.declared.record.Record.{Record}
use Rattle.qz_decimal.specs.Numbers.{fraction_of}
use Rattle.qz_terms.specs.History.{Slot}
use Rattle.qz_terms.specs.Lists.{places_to}
use Rattle.qz_stats.specs.declared.marks.Marks.{Marks}
use Rattle.qz_stats.specs.declared.replaying.Replayed.{Replayed}
use Rattle.qz_stats.specs.declared.rows.PickRow.{PickRow}
use Rattle.qz_stats.specs.declared.rows.SlotRow.{SlotRow}
use Rattle.qz_stats.specs.Picks.{pick_rows}
use Rattle.qz_stats.specs.Rows.{analysis, facility, mark_sum, marked, row_of, slot_row}
use Rattle.qz_stats.specs.Shards.{IsSoundShard, replayed, shard_counts, shard_row, shard_slots}
use Rattle.qz_stats.specs.Sums.{AreSums}
use Rattle.qz_stats.proofs.Lists.{map_same}

-- the row of sums and of picks
pub row-is : (m : Marks) (xs : List Slot) (k : ℕ) (ratio : ℤ) (ps : List PickRow) → AreSums m xs → ratio ≡ fraction_of m.marks m.maxes → ps ≡ pick_rows xs → ◌≡◌ {A = SlotRow} (record { slot = k; tried = m.tried; facility = ratio; picks = ps }) (row_of k xs)
row-is m xs k ratio ps sums is told =
    let of : ℕ → ℤ → List PickRow → SlotRow = λ t z p. record { slot = k; tried = t; facility = z; picks = p } in
    ap (λ (t : ℕ). of t ratio ps) sums.tried
    ∙ (ap (λ (z : ℤ). of (length (filter_map marked xs)) z ps) (is ∙ (ap (λ (a : ℤ). fraction_of a m.maxes) sums.marks ∙ ap (fraction_of (mark_sum (filter_map marked xs))) sums.maxes))
    ∙ ap (of (length (filter_map marked xs)) (facility (filter_map marked xs))) told)

pub sound-all : (lists : List (List Record)) (quiz : ℕ) (shards : List Replayed) → shards ≡ map (replayed quiz) lists → All IsSound lists → All IsSoundShard shards
sound-all lists quiz shards are sound =
    subst (All IsSoundShard) (sym are) (All-map IsSoundShard (replayed quiz) lists (All-weaker IsSound (λ h. IsSoundShard (replayed quiz h)) (λ h one. record { sound = one }) lists sound))

pub row-more : (shards : List Replayed) (n : ℕ) (rows : List SlotRow) (row : SlotRow) → rows ≡ map (shard_row shards) (places_to n) → row ≡ shard_row shards (n + 1) → rows ++ row ∷ [] ≡ map (shard_row shards) (places_to (n + 1))
row-more shards n rows row so_far is =
    ap (λ (t : List SlotRow). t ++ row ∷ []) so_far
    ∙ (ap (λ (r : SlotRow). map (shard_row shards) (places_to n) ++ r ∷ []) is ∙ (sym (map-append (shard_row shards) (places_to n) ((n + 1) ∷ [])) ∙ ap (map (shard_row shards)) (sym (places-more n))))

row-same : (lists : List (List Record)) (quiz k : ℕ) → shard_row (map (replayed quiz) lists) k ≡ slot_row lists quiz k
row-same lists quiz k = ap (row_of k) (flat_map-map (shard_slots k) (replayed quiz) lists)

pub rows-same : (lists : List (List Record)) (quiz : ℕ) (shards : List Replayed) → shards ≡ map (replayed quiz) lists → map (shard_row shards) (places_to (fold max 0 (flat_map shard_counts shards))) ≡ analysis lists quiz
rows-same lists quiz shards are =
    ap (λ (ss : List Replayed). map (shard_row ss) (places_to (fold max 0 (flat_map shard_counts ss)))) are
    ∙ (ap (λ (ns : List ℕ). map (shard_row (map (replayed quiz) lists)) (places_to (fold max 0 ns))) (flat_map-map shard_counts (replayed quiz) lists) ∙ map_same (shard_row (map (replayed quiz) lists)) (slot_row lists quiz) (row-same lists quiz) (places_to _))
