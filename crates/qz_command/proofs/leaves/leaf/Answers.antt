use Rattle.std.proofs.Common.{◌∙◌, ap₂, sym, []}
use Rattle.clap.specs.Words.{with_rule}
use Rattle.qz_command.proofs.ParseLemmas.{words_app-more}
use Rattle.qz_command.proofs.leaves.leaf.Goals as goal

pub loop-id-preserved : goal.loop-id-preserved
loop-id-preserved c =
    let one_more = words_app-more c.args.name.now c.args.ids.now c.loop-id.id-index (record { ref_ptr = (0, 0); now = [] }) c.loop-id-test.true in
    c.in_ok-command.ensures.shape c.word.ensures.local ∙ ap₂ with_rule c.loop-id.invariant c.word.ensures.rule ∙ sym one_more
