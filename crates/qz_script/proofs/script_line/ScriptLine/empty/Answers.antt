use Rattle.std.proofs.Common.{refl}
use Rattle.qz_script.proofs.script_line.ScriptLine.empty.Goals as goal

pub returns : goal.returns
returns c = rw c.new.ensures.items refl
