use Rattle.std.proofs.Common.{◌≡◌, take}
use Rattle.clap.specs.Words.{app_of}
use Rattle.clap.specs.Walk.{texts}
use Rattle.qz_command.specs.Leaves.{words_app}
use Rattle.qz_command.proofs.leaves.leaf.Given as goal

abbrev pub invariant-loop-id : goal.invariant-loop-id
invariant-loop-id l = app_of l.command ≡ words_app l.fn.name (texts (take l.id-index l.ids))
