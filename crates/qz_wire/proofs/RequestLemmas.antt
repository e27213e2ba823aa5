-- Requests behind whose words there is one too many.
use Rattle.std.proofs.Common.{◌≡◌, ℕ, List, [], ◌∷◌, Ok, refl}
use Rattle.qz_grading.specs.declared.question.Question.{Question}
use Rattle.qz_terms.specs.declared.request.Request.TheVariants as request
use Rattle.qz_wire.specs.declared.words.WordFault.{WordFault}
use Rattle.qz_wire.specs.declared.words.WordFault.TheVariants as fault
use Rattle.qz_wire.specs.Faults.{Refuses, at_word, refusal_of}
use Rattle.qz_wire.specs.Numbered.{end_at, line_at as word_at}
use Rattle.qz_wire.specs.Requests.{edit_of, question_at}
use Rattle.qz_wire.specs.Words.{FailsAt, number_of}

end-refuses : {A : Type 0} (place : ℕ) (x : A) (words : List (List ℕ)) (f : WordFault) → FailsAt f (end_at place (tt {0}) words) → Refuses (refusal_of f) (at_word (end_at place x words))
end-refuses place x words fault.Memory fails = tt
end-refuses place x [] (fault.Malformed n) fails = absurd cc
end-refuses place x (word ∷ words) (fault.Malformed n) fails = let same : place ≡ n = cc in rw same refl

pub edit-refuses : (words behind_entry behind_gift : List (List ℕ)) (entry : ℕ) (gift : Question) (f : WordFault) → word_at number_of 5 words ≡ Ok (entry, behind_entry) → question_at 6 behind_entry ≡ Ok (gift, behind_gift)
    → FailsAt f (end_at 7 (tt {0}) behind_gift) → Refuses (refusal_of f) (edit_of words)
unfolding edit_of
edit-refuses words behind_entry behind_gift entry gift f first second fails = rw (first, second) (end-refuses 7 (request.Edit entry gift) behind_gift f fails)
