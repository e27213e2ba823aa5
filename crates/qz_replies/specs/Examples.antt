-- Worked replies: what their lines say.
use Rattle.std.specs.Fmt.{digits}
use Rattle.std.specs.Prelude.{◌≡◌, Some, None, pos, codes, refl}
use Rattle.qz_grading.specs.declared.outcome.State.TheVariants as state
use Rattle.qz_terms.specs.declared.record.How.TheVariants as how
use Rattle.qz_terms.specs.declared.reply.Done.TheVariants as done
use Rattle.qz_terms.specs.declared.reply.Reply.TheVariants as reply
use Rattle.qz_terms.specs.declared.reply.Shown.TheVariants as shown
use Rattle.qz_terms.specs.declared.reply.Status.TheVariants as status
use Rattle.qz_replies.specs.Replies.{reply_words}

pub settled : reply_words (reply.Ok 7 (done.Settled (record { user = 2; nth = 1 }) how.Abandoned)) ≡ codes "ok 7 settled 2.1 abandoned"
unfolding digits
settled = refl

pub idle : reply_words (reply.Ok 7 done.Idle) ≡ codes "ok 7 idle"
unfolding digits
idle = refl

pub live : reply_words (reply.Ok 7 (done.Live (Some (record { user = 2; nth = 1 })))) ≡ codes "ok 7 live 2.1"
unfolding digits
live = refl

pub none_live : reply_words (reply.Ok 7 (done.Live None)) ≡ codes "ok 7 live -"
unfolding digits
none_live = refl

pub marked : reply_words (reply.Ok 7 (done.Marked state.MangrPartial (shown.Value (pos 5000000)))) ≡ codes "ok 7 marked mangrpartial 0.5000000"
unfolding digits
marked = refl

pub a_slot : reply_words (reply.Ok 7 (done.SlotView state.GradedRight (shown.Value (pos 20000000)) 1 4)) ≡ codes "ok 7 slot gradedright 2.0000000 1 4"
unfolding digits
a_slot = refl

pub a_hidden_mark : reply_words (reply.Ok 7 (done.SlotView state.Complete shown.Hidden 2 1)) ≡ codes "ok 7 slot complete hidden 2 1"
unfolding digits
a_hidden_mark = refl

pub a_live_attempt : reply_words (reply.Ok 7 (done.Attempt status.Live shown.Hidden (Some 86400))) ≡ codes "ok 7 attempt live hidden 86400"
unfolding digits
a_live_attempt = refl

pub a_finished_attempt : reply_words (reply.Ok 7 (done.Attempt status.Finished (shown.Value (pos 15000000)) None)) ≡ codes "ok 7 attempt finished 1.5000000 -"
unfolding digits
a_finished_attempt = refl

pub an_abandoned_attempt : reply_words (reply.Ok 7 (done.Attempt status.Abandoned shown.None None)) ≡ codes "ok 7 attempt abandoned - -"
unfolding digits
an_abandoned_attempt = refl
