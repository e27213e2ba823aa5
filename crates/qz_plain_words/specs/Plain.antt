-- Which words of a reply stand on its line as they are.
use Rattle.std.specs.Prelude.{◌≡◌, Bool, true, false, ℕ, List, map, decimal}
use Rattle.qz_grading.specs.declared.refusal.Refusal.{Refusal}
use Rattle.qz_terms.specs.declared.reply.Done.TheVariants as done
use Rattle.qz_terms.specs.declared.reply.Done.{Done}
use Rattle.qz_wire.specs.Escapes.{text_word}
use Rattle.qz_wire.specs.Refusals.{refusal_list}
use Rattle.qz_replies.specs.Replies.{done_list}

-- a page and a question's text may hold anything
abbrev pub holds_text : Done → Bool
holds_text (done.Page attempt quiz due parts) = true
holds_text (done.Gift question) = true
holds_text d = false

-- written with escapes, the words are the same
abbrev pub as_they_are : List (List ℕ) → Type 0
as_they_are words = map text_word words ≡ words

pub record PlainWordsStand : Type 0 where
  pub places : (n : ℕ) → text_word (decimal n) ≡ decimal n
  pub refusals : (r : Refusal) → as_they_are (refusal_list r)
  pub others : (d : Done) → holds_text d ≡ false → as_they_are (done_list d)
