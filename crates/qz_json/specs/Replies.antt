-- A reply as JSON.
use Rattle.std.specs.Prelude.{ℕ, true, false, List, map, codes}
use Rattle.serde_json.specs.Data.{Data, boolean, number, unsigned, string, array, object, no_members, member}
use Rattle.serde_json.specs.View.{items_of}
use Rattle.serde_json.specs.Written.{compact_text}
use Rattle.qz_terms.specs.declared.reply.Reply.{Reply}
use Rattle.qz_terms.specs.declared.reply.Reply.TheVariants as reply
use Rattle.qz_wire.specs.Refusals.{refusal_list, refusal_number}
use Rattle.qz_replies.specs.Replies.{done_list}

-- the list of these texts
abbrev pub texts : List (List ℕ) → Data
texts words = array (items_of (map string words))

abbrev pub accepted_data : ℕ → Data → Data
accepted_data place words = object (member (codes "ok") (boolean true) (member (codes "place") (number (unsigned place)) (member (codes "words") words no_members)))

abbrev pub refused_data : ℕ → Data → Data
refused_data refusal words = object (member (codes "ok") (boolean false) (member (codes "refusal") (number (unsigned refusal)) (member (codes "words") words no_members)))

-- whether it was accepted, its place or the number of the refusal, and the words behind it
abbrev pub reply_data : Reply → Data
reply_data (reply.Ok place done) = accepted_data place (texts (done_list done))
reply_data (reply.Refused refusal) = refused_data (refusal_number refusal) (texts (refusal_list refusal))

-- without white space
abbrev pub reply_text : Reply → List ℕ
reply_text r = compact_text (reply_data r)
