-- The one question of a bank.
use Rattle.std.proofs.Common.{◌≡◌, List, [], ◌∷◌, Option, Some, None, map, sym, subst, arith}
use Rattle.std.specs.Prelude.{All, IfSome}
use Rattle.qz_grading.specs.declared.question.Item.{Item}
use Rattle.qz_grading.specs.declared.question.Question.{Question}
use Rattle.qz_grading.specs.Questions.{IsQuestion}
use Rattle.qz_wire.specs.BankWords.{only_question}

only-is-question : (items : List Item) → All IsQuestion (map (λ (i : Item). i.question) items) → IfSome (only_question items) IsQuestion
only-is-question [] all = tt
only-is-question (item ∷ []) all = all 0 item.question (omega arith)
only-is-question (item ∷ next ∷ items) all = tt

-- it keeps what each question of the bank keeps
pub the-question : (items : List Item) (q : Question) → Some q ≡ only_question items → All IsQuestion (map (λ (i : Item). i.question) items) → IsQuestion q
the-question items q is all = subst (λ (found : Option Question). IfSome found IsQuestion) (sym is) (only-is-question items all)

-- and so does what may be one
pub kept-found : (items : List Item) (found : Option Question) → found ≡ only_question items → All IsQuestion (map (λ (i : Item). i.question) items) → IfSome found IsQuestion
kept-found items (Some q) is all = the-question items q is all
kept-found items None is all = tt
