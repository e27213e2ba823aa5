-- The slots that attempts have, one attempt more at a time.
use Rattle.std.proofs.Common.{◌≡◌, ℕ, ◌+◌, ◌<◌, List, [], ◌∷◌, ◌++◌, Option, Some, None, length, take, get_or, sym, ap, ◌∙◌, append_assoc, append-nil}
use Rattle.std.specs.Prelude.{filter_map, option_to_list}
use Rattle.std.proofs.lemmas.List.{map-append}
use Rattle.qz_book.specs.declared.book.Played.{Played}
use Rattle.qz_book.specs.Held.{IsSound}
use Rattle.qz_book.specs.Plays.{IsSlot}
use Rattle.qz_grading.specs.declared.refusal.AttemptId.{AttemptId}
use Rattle.qz_lives.specs.Attempts.{slot_of}
use Rattle.qz_terms.specs.declared.record.Record.{Record}
use Rattle.qz_terms.specs.History.{Slot, slot}
use Rattle.qz_terms.proofs.Walks.{all_kept}
use Rattle.qz_stats.specs.Samples.{slot_at}
use Rattle.qz_stats.specs.Shards.{IsPlayed, slot_in, slots_in}
use Rattle.qz_stats.proofs.MarkRoom.{slot-bound, slot-within}

-- a slot of a list is one that is played
pub played-there : (h : List Record) (a : AttemptId) (k : ℕ) (p : Played) → IsSound h → IsSlot (Some p) (slot h a k) → IsPlayed p
played-there h a k p sound is = record {
  bound = is.1;
  max = slot-bound h a k (slot_of p.run.now p.question.now) sound is.0;
  within = slot-within h a k p.run.now p.question.now sound is.0 is.1;
}

-- one slot more
pub kept-more : (o : Option Slot) (ps qs : List Played) (p : Played) → o ≡ Some (slot_in p) → qs ≡ ps ++ p ∷ [] → slots_in qs ≡ slots_in ps ++ option_to_list o
kept-more o ps qs p told more = ap slots_in more ∙ (map-append slot_in ps (p ∷ []) ∙ sym (ap (λ (x : Option Slot). slots_in ps ++ option_to_list x) told))

pub kept-same : (o : Option Slot) (ps : List Played) → o ≡ None → slots_in ps ≡ slots_in ps ++ option_to_list o
kept-same o ps told = sym (ap (λ (x : Option Slot). slots_in ps ++ option_to_list x) told ∙ append-nil (slots_in ps))

-- those of one attempt more
pub gathered-more : (k : ℕ) (h : List Record) (attempts : List AttemptId) (i : ℕ) (a : AttemptId) (front now after : List Slot) → i < length attempts → a ≡ get_or attempts i a
    → now ≡ front ++ filter_map (slot_at k h) (take i attempts) → after ≡ now ++ option_to_list (slot h a k) → after ≡ front ++ filter_map (slot_at k h) (take (i + 1) attempts)
gathered-more k h attempts i a front now after inside is so_far more =
    more ∙ (ap (λ (t : List Slot). t ++ option_to_list (slot h a k)) so_far
    ∙ (append_assoc front (filter_map (slot_at k h) (take i attempts)) (option_to_list (slot h a k)) ∙ ap (λ (t : List Slot). front ++ t) (sym (all_kept (slot_at k h) attempts i a inside is))))
