use Rattle.std.proofs.Common.{Some}
use Rattle.qz_ending.specs.declared.stop.Stop.TheVariants as stop
use Rattle.qz_script.specs.Scripts.{script_limit}
use Rattle.qz_script_schools.specs.Memory.{first_lists, in_memory}
use Rattle.qz_script.proofs.ScriptLemmas.{none_served}
use Rattle.qz_script_schools.proofs.SoloLemmas.{solo_answers_once, takes_lines}
use Rattle.qz_script_schools.proofs.memory.script.Goals as goal

pub serve-requires-clause-takes : goal.serve-requires-clause-takes
serve-requires-clause-takes g c = takes_lines

pub serve-requires-clause-answers : goal.serve-requires-clause-answers
serve-requires-clause-answers g c = solo_answers_once

pub returns-in-Ok-clause-ended : goal.returns-in-Ok-clause-ended
returns-in-Ok-clause-ended g c =
    let e = rw c.in-Ok.ensures at c.serve.ensures.ended in
    record { stop = e.stop; status_is = e.status_is; cause = record { after = c.serve.new.desk; ends = e.cause } }

pub returns-in-Err-clause-ended : goal.returns-in-Err-clause-ended
returns-in-Err-clause-ended g c = record { stop = Some stop.Memory; status_is = c.status.ensures; cause = record { after = first_lists; ends = none_served script_limit (in_memory first_lists) _ _ _ _ } }
