-- The chunks of a list, one after the other, are the list.
use Rattle.std.proofs.Common.{◌≡◌, ℕ, suc, ◌+◌, ◌*◌, ◌/◌, ◌%◌, ◌<◌, ◌≤◌, inl, inr, true, List, [], ◌∷◌, ◌++◌, Result, Ok, Err, length, take, drop, map, min, Vec, sym, ap, subst, ◌∙◌, arith, All}
use Rattle.std.specs.Fork.{IsChunk, slice_chunk}
use Rattle.std.specs.List.{list_all}
use Rattle.std.specs.Prelude.{IfOk, flat_map, is_ok, slice_index_or}
use Rattle.std.proofs.lemmas.Bool.{cases_order}
use Rattle.std.proofs.lemmas.List.{drop-drop, map-append, take_all}
use Rattle.std.proofs.lemmas.List.Elements.{All-drop, All-take}
use Rattle.qz_book.specs.Held.{IsSound}
use Rattle.qz_lemmas.proofs.Bools.{and-left, and-right}
use Rattle.qz_terms.specs.declared.record.Record.{Record}
use Rattle.qz_stats.specs.declared.replaying.Replayed.{Replayed}
use Rattle.qz_stats.specs.Shards.{replayed, shards_in}
use Rattle.qz_stats.proofs.Lists.{take_both}

pub chunk-sound : (lists part : List (List Record)) (size start : ℕ) → All IsSound lists → IsChunk lists size start part → All IsSound part
chunk-sound lists part size start sound chunk = subst (All IsSound) (sym chunk.value) (All-take IsSound size (drop start lists) (All-drop IsSound start lists sound))

-- these parts are the chunks from one on
abbrev pub AreChunks : {Z E : Type 0} → ℕ → List (List Record) → ℕ → ℕ → List (Result (Vec Replayed Z) E) → Type 0
AreChunks {Z} {E} quiz lists size first parts = (n : ℕ) (d : Result (Vec Replayed Z) E) → n < length parts → IfOk (slice_index_or parts n d) (λ shards. shards.items ≡ map (replayed quiz) (slice_chunk lists size (first + n)))

ok-items : {Z E : Type 0} (p : Result (Vec Replayed Z) E) (xs : List Replayed) → is_ok p ≡ true → IfOk p (λ shards. shards.items ≡ xs) → shards_in p ≡ xs
ok-items (Ok v) xs is told = told
ok-items (Err e) xs is told = absurd cc

chunks-from : {Z E : Type 0} (quiz : ℕ) (lists : List (List Record)) (size first : ℕ) (parts : List (Result (Vec Replayed Z) E)) → AreChunks quiz lists size first parts → list_all is_ok parts ≡ true
    → flat_map shards_in parts ≡ map (replayed quiz) (take (length parts * size) (drop (first * size) lists))
chunks-from quiz lists size first [] chunks ok = let none : 0 * size ≡ 0 = omega arith in ap (λ (k : ℕ). map (replayed quiz) (take k (drop (first * size) lists))) (sym none)
chunks-from quiz lists size first (p ∷ ps) chunks ok =
    let here : first + 0 ≡ first = omega arith in
    let front : shards_in p ≡ map (replayed quiz) (slice_chunk lists size first) =
    ok-items p (map (replayed quiz) (slice_chunk lists size first)) (and-left (is_ok p) (list_all is_ok ps) ok) (subst (λ (k : ℕ). IfOk p (λ shards. shards.items ≡ map (replayed quiz) (slice_chunk lists size k))) here (chunks 0 p (omega arith))) in
    let back : flat_map shards_in ps ≡ map (replayed quiz) (take (length ps * size) (drop (suc first * size) lists)) =
    chunks-from quiz lists size (suc first) ps (λ n d inside. let next : first + suc n ≡ suc first + n = omega arith in subst (λ (k : ℕ). IfOk (slice_index_or ps n d) (λ shards. shards.items ≡ map (replayed quiz) (slice_chunk lists size k))) next (chunks (suc n) d (omega arith))) (and-right (is_ok p) (list_all is_ok ps) ok) in
    let past : first * size + size ≡ suc first * size = omega arith in
    let rest : drop size (drop (first * size) lists) ≡ drop (suc first * size) lists = drop-drop size (first * size) lists ∙ ap (λ (k : ℕ). drop k lists) past in
    let long : size + length ps * size ≡ suc (length ps) * size = omega arith in
    ap (λ (t : List Replayed). t ++ flat_map shards_in ps) front
    ∙ (ap (λ (t : List Replayed). map (replayed quiz) (slice_chunk lists size first) ++ t) (back ∙ ap (λ (t : List (List Record)). map (replayed quiz) (take (length ps * size) t)) (sym rest))
    ∙ (sym (map-append (replayed quiz) (take size (drop (first * size) lists)) (take (length ps * size) (drop size (drop (first * size) lists))))
    ∙ (ap (map (replayed quiz)) (take_both size (length ps * size) (drop (first * size) lists)) ∙ ap (λ (k : ℕ). map (replayed quiz) (take k (drop (first * size) lists))) long)))

-- so many chunks reach the end
reach : (long size : ℕ) → 0 < size → long ≤ (long / size + min 1 (long % size)) * size
reach long size some =
    let split : size * (long / size) + long % size ≡ long = omega arith in
    let less : long % size < size = omega arith in
    elim (cases_order 0 (long % size)) [
      | inl none ↦ (let one : min 1 (long % size) ≡ 0 = omega arith in rw one (omega (arith, split)))
      | inr (inl more) ↦ (let one : min 1 (long % size) ≡ 1 = omega arith in rw one (omega (arith, split, less)))
      | inr (inr below) ↦ absurd (omega arith)
    ]

pub chunks-whole : {Z E : Type 0} (quiz : ℕ) (lists : List (List Record)) (size : ℕ) (parts : List (Result (Vec Replayed Z) E)) → 0 < size → length parts ≡ length lists / size + min 1 (length lists % size) → AreChunks quiz lists size 0 parts → list_all is_ok parts ≡ true
    → flat_map shards_in parts ≡ map (replayed quiz) lists
chunks-whole quiz lists size parts some count chunks ok =
    let enough : length lists ≤ length parts * size = subst (λ (n : ℕ). length lists ≤ n * size) (sym count) (reach (length lists) size some) in
    let none : 0 * size ≡ 0 = omega arith in
    chunks-from quiz lists size 0 parts chunks ok ∙ (ap (λ (k : ℕ). map (replayed quiz) (take (length parts * size) (drop k lists))) none ∙ ap (map (replayed quiz)) (take_all (length parts * size) lists enough))

-- they are told from the first one on
pub from-first : {Z E : Type 0} (quiz : ℕ) (lists : List (List Record)) (size : ℕ) (parts : List (Result (Vec Replayed Z) E))
    → ((n : ℕ) (d : Result (Vec Replayed Z) E) → n < length parts → IfOk (slice_index_or parts n d) (λ shards. shards.items ≡ map (replayed quiz) (slice_chunk lists size n))) → AreChunks quiz lists size 0 parts
from-first quiz lists size parts each = λ n d inside. let same : n ≡ 0 + n = omega arith in subst (λ (k : ℕ). IfOk (slice_index_or parts n d) (λ shards. shards.items ≡ map (replayed quiz) (slice_chunk lists size k))) same (each n d inside)

-- what is joined of them, if all are there
pub joined-whole : {Z E F : Type 0} (xs : List Replayed) (parts : List (Result (Vec Replayed Z) E)) (joined : Result (Vec Replayed Z) F) → IfOk joined (λ shards. shards.items ≡ flat_map shards_in parts) → IfOk joined (λ _. list_all is_ok parts ≡ true)
    → (list_all is_ok parts ≡ true → flat_map shards_in parts ≡ xs) → IfOk joined (λ shards. shards.items ≡ xs)
joined-whole xs parts (Ok v) told all whole = told ∙ whole all
joined-whole xs parts (Err e) told all whole = tt
