-- A replay that goes on by one line.
use Rattle.std.proofs.Common.{◌≡◌, ℕ, ℤ, ◌+◌, List, [], ◌∷◌, ◌++◌, Some, None, Result, Ok, Err, refl, sym, ap, ◌∙◌, append-nil, append_assoc}
use Rattle.std.specs.Prelude.{codes}
use Rattle.std.specs.Result.{result_ok}
use Rattle.qz_grading.specs.declared.question.Question.{Question}
use Rattle.qz_replay.specs.declared.asked.Asked.{Asked}
use Rattle.qz_ending.specs.declared.stop.Stop.{Stop}
use Rattle.qz_ending.specs.declared.stop.Stop.TheVariants as stop
use Rattle.qz_replay.specs.Readings.{Fails}
use Rattle.qz_replay.specs.Plays.{Play, next, told}
use Rattle.qz_wire.specs.BankWords.{penalty_of}
use Rattle.qz_wire.specs.Lines.{after}
use Rattle.qz_wire.specs.Numbered.{end_at, ◌>>=◌, line_at as word_at, or_line}
use Rattle.qz_replay.specs.Replay.{as_version, hints_of, max_of, question_line, question_of}
use Rattle.qz_replay.specs.Replayed.{asked_of, line_of, with_front, steps_told, version_of}
use Rattle.qz_wire.specs.Words.{IsCutAt, words_of}
use Rattle.qz_wire.proofs.PartLemmas.{some_part}

with_front-more : (front line : List ℕ) (reading : Result (List ℕ) ℕ) → with_front front (reading >>= λ others. Ok (line ++ others)) ≡ with_front (front ++ line) reading
with_front-more front line (Ok more) = ap (λ (t : List ℕ). Ok t) (sym (append_assoc front line more))
with_front-more front line (Err n) = refl

abbrev pub said : ℕ → Play → Asked → List ℕ
said number p a = line_of number (told p a)

module _ (number : ℕ) (p : Play) (lines rest : List (List ℕ)) (line front : List ℕ) (all : Result (List ℕ) ℕ) (first : lines ≡ line ∷ rest) (so_far : with_front front (steps_told number p lines) ≡ all) where
  -- one line more is read and said
  pub says_more : (a : Asked) → or_line (number + 5) (result_ok (asked_of p.slot.max (words_of line))) ≡ Ok a → with_front (front ++ said number p a) (steps_told (number + 1) (next p a) rest) ≡ all
  unfolding steps_told
  says_more a reads =
      let one : steps_told number p lines ≡ (steps_told (number + 1) (next p a) rest >>= λ others. Ok (said number p a ++ others)) = rw (first, reads) refl in
      sym (with_front-more front (said number p a) (steps_told (number + 1) (next p a) rest)) ∙ ap (with_front front) (sym one) ∙ so_far

  -- a line without a reading ends it
  pub stops_at : (stop : ℕ) → or_line (number + 5) (result_ok (asked_of p.slot.max (words_of line))) ≡ Err stop → all ≡ Err stop
  unfolding steps_told
  stops_at stop reads =
      let one : steps_told number p lines ≡ Err stop = rw (first, reads) refl in
      sym so_far ∙ ap (with_front front) one

  pub fails_more : (s : Stop) → Fails s (or_line (number + 5) (result_ok (asked_of p.slot.max (words_of line)))) → Fails s all
  fails_more stop.Memory reads = tt
  fails_more (stop.Malformed n) reads = stops_at n reads
  fails_more stop.BadWords reads = absurd reads
  fails_more stop.ShelfFault reads = absurd reads
  fails_more stop.Refused reads = absurd reads
  fails_more stop.DoorFault reads = absurd reads
  fails_more stop.Gap reads = absurd reads
  fails_more (stop.Unreadable n rule) reads = absurd reads
  fails_more stop.SourceFault reads = absurd reads
  fails_more stop.SinkFault reads = absurd reads
  fails_more stop.TooLong reads = absurd reads

-- no line is left
pub says_all : (number : ℕ) (p : Play) (lines : List (List ℕ)) (front : List ℕ) (all : Result (List ℕ) ℕ) → lines ≡ []
    → with_front front (steps_told number p lines) ≡ all → all ≡ Ok front
unfolding steps_told
says_all number p lines front all none so_far =
    let one : steps_told number p lines ≡ Ok [] = rw none refl in
    sym so_far ∙ ap (with_front front) one ∙ ap (λ (t : List ℕ). Ok t) (append-nil front)

-- ---- the words of a newer version

-- where all are of their form, a word may yet be left
pub version_is : (words behind_max behind_penalty behind_hints behind : List (List ℕ)) (max penalty : ℤ) (hints : ℕ) (q : Question)
    → word_at max_of 2 words ≡ Ok (max, behind_max) → word_at penalty_of 3 behind_max ≡ Ok (penalty, behind_penalty) → word_at hints_of 4 behind_penalty ≡ Ok (hints, behind_hints) → word_at question_of 5 behind_hints ≡ Ok (q, behind)
    → version_of words ≡ end_at 6 (record { max = max; question = as_version penalty hints q }) behind
unfolding version_of
version_is words behind_max behind_penalty behind_hints behind max penalty hints q one two three four = rw (one, two, three, four) refl

-- a line with a space in its last word
pub two-words : (line word front behind : List ℕ) → Some word ≡ after (codes "question ") line → IsCutAt 32 word front behind → None ≡ question_line line
two-words line word front behind there cut = rw (← there, cut.parts, (some_part 32 behind).2) refl
