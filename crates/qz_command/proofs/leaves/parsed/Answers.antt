use Rattle.std.proofs.Common.{◌∙◌}
use Rattle.qz_command.proofs.ParseLemmas.{at_fault_as, fits_as}
use Rattle.qz_command.proofs.leaves.parsed.Goals as goal

pub returns-in-Ok : goal.returns-in-Ok
returns-in-Ok c = fits_as _ _ _ c.in_ok-command.ensures c.requires c.in-Ok.matches c.in-Ok.ensures.kinds c.in-Ok.ensures.matches

pub returns : goal.returns
returns c = at_fault_as _ _ _ c.in_ok-command.ensures c.requires c.in-Err.error c.in-Err.ensures.kinds (λ h. c.in_default.not-OutOfMemory (c.kind.ensures ∙ h))
