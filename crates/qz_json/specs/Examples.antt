-- Worked bodies and replies.
use Rattle.std.specs.Prelude.{◌≡◌, [], Some, None, Ok, Err, codes, pos, refl}
use Rattle.std.specs.Char.{encode_utf8}
use Rattle.std.specs.Fmt.{digits}
use Rattle.std.specs.Str.{chars, is_utf8}
use Rattle.std.specs.Str.Lossy.{utf8_valid_len}
use Rattle.serde_json.specs.Data.{null, number, unsigned, string, object, no_members, member}
use Rattle.serde_json.proofs.OnLiterals.{serde_json_on_literals}
use Rattle.qz_grading.specs.declared.refusal.Refusal.TheVariants as refusal
use Rattle.qz_terms.specs.declared.people.Caller.TheVariants as caller
use Rattle.qz_terms.specs.declared.reply.Done.TheVariants as done
use Rattle.qz_terms.specs.declared.reply.Reply.TheVariants as reply
use Rattle.qz_terms.specs.declared.reply.Shown.TheVariants as shown
use Rattle.qz_terms.specs.declared.request.Request.TheVariants as request
use Rattle.qz_terms.specs.declared.request.Whom.TheVariants as whom
use Rattle.qz_wire.specs.Requests.{finish_of, override_of}
use Rattle.qz_json.specs.Bodies.{ask_of_body, ask_of_data}
use Rattle.qz_json.specs.Replies.{reply_text}

pub a_body : ask_of_body (caller.Token (codes "ann")) (codes "{\"do\":\"finish\",\"key\":\"k3\",\"attempt\":\"2.1\"}") ≡ Ok (record { caller = caller.Token (codes "ann"); key = Some (codes "k3"); request = request.Finish (record { user = 2; nth = 1 }) })
unfolding ask_of_body ask_of_data finish_of serde_json_on_literals chars encode_utf8 is_utf8 utf8_valid_len digits
a_body = refl

pub accepted : reply_text (reply.Ok 3 (done.Finished (shown.Value (pos 20000000)))) ≡ codes "{\"ok\":true,\"place\":3,\"words\":[\"finished\",\"2.0000000\"]}"
unfolding serde_json_on_literals digits
accepted = refl

pub refused : reply_text (reply.Refused (refusal.Unfinished (record { user = 2; nth = 1 }))) ≡ codes "{\"ok\":false,\"refusal\":10,\"words\":[\"2.1\"]}"
unfolding serde_json_on_literals digits
refused = refl

-- ---- faults of bodies

-- an empty text is the text of no command, and a key that is no text is at fault first
pub faults : (ask_of_data caller.Worker (object (member (codes "do") (string []) (member (codes "key") null no_members))) ≡ Err (record { place = 3; rule = 0 })) × (ask_of_data caller.Worker (object (member (codes "do") (string []) no_members)) ≡ Err (record { place = 4; rule = 0 }))
unfolding ask_of_data
faults = (refl, refl)

-- a setting that stays unset
pub unset : ask_of_data caller.Worker (object (member (codes "allowed") (string (codes "-")) (member (codes "closes") (string (codes "-")) (member (codes "do") (string (codes "override")) (member (codes "key") (string (codes "k")) (member (codes "limit") (number (unsigned 600)) (member (codes "number") (number (unsigned 2)) (member (codes "opens") (string (codes "-")) (member (codes "quiz") (number (unsigned 1)) (member (codes "whom") (string (codes "user")) no_members)))))))))) ≡ Ok (record { caller = caller.Worker; key = Some (codes "k"); request = request.Override 1 whom.User 2 None None (Some 600) None })
unfolding ask_of_data override_of digits
unset = refl
