use Rattle.std.proofs.Common.{ap, ◌∙◌}
use Rattle.serde_json.specs.Written.{compact_text, has_float}
use Rattle.qz_json.proofs.ReplyLemmas.{reply-plain}
use Rattle.qz_json.proofs.replies.json_of.Goals as goal

pub returns : goal.returns
returns c =
    let same = c.in_ok-value.ensures in
    c.in_ok-to_string.ensures.text (ap has_float same ∙ reply-plain c.args.reply.now) ∙ ap compact_text same
