-- The JSON of a reply has no float, so its text is exact.
use Rattle.std.proofs.Common.{◌≡◌, ℕ, false, List, [], ◌∷◌, map, refl}
use Rattle.serde_json.specs.Data.{string}
use Rattle.serde_json.specs.View.{items_of}
use Rattle.serde_json.specs.Written.{has_float, items_have_float}
use Rattle.qz_terms.specs.declared.reply.Reply.{Reply}
use Rattle.qz_terms.specs.declared.reply.Reply.TheVariants as reply
use Rattle.qz_wire.specs.Refusals.{refusal_list}
use Rattle.qz_replies.specs.Replies.{done_list}
use Rattle.qz_json.specs.Replies.{reply_data}

texts-plain : (words : List (List ℕ)) → items_have_float (items_of (map string words)) ≡ false
texts-plain [] = refl
texts-plain (word ∷ words) = texts-plain words

pub reply-plain : (r : Reply) → has_float (reply_data r) ≡ false
reply-plain (reply.Ok place done) = rw (texts-plain (done_list done)) refl
reply-plain (reply.Refused refusal) = rw (texts-plain (refusal_list refusal)) refl
