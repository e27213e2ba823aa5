use Rattle.std.proofs.Common.{◌∙◌}
use Rattle.qz_script.proofs.KeptLemmas.{utf8_test}
use Rattle.qz_script.proofs.script_line.is_text.Goals as goal

pub returns : goal.returns
returns c = c.is_ok.ensures.value ∙ utf8_test c.args.bytes.now c.from_utf8.result c.from_utf8.ensures.cases
