use Rattle.std.proofs.lemmas.Str.{is_utf8-from_IsUtf8}
use Rattle.qz_record.proofs.Fitting.{utf8}
use Rattle.qz_record.proofs.texts.write_text.Goals as goal

pub returns-clause-fits : goal.returns-clause-fits
returns-clause-fits c = utf8 c.args.text.now (is_utf8-from_IsUtf8 c.args.text.now c.utf8.text)
