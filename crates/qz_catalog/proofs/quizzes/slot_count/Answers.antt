use Rattle.std.proofs.Common.{ℕ, ℤ, List, length, sym, ap, ◌∙◌}
use Rattle.std.proofs.lemmas.List.{length-map}
use Rattle.qz_roster.specs.Quizzes.{made}
use Rattle.qz_roster.proofs.NextLemmas.{slots-length}
use Rattle.qz_catalog.proofs.quizzes.slot_count.Goals as goal

pub returns : goal.returns
returns c = sym (length-map c.slots_made.result.now made) ∙ ap (λ (l : List (ℕ × ℤ)). length l) c.slots_made.ensures.slots ∙ sym (slots-length c.args.book.now.records.items c.args.quiz)
