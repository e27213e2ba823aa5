-- Where memory was wanting a run ends with 8, which each command may.
use Rattle.std.proofs.Common.{◌≡◌, ℕ, Bool, true, false, List, Option, Some, None, inl, inr, refl, sym, subst}
use Rattle.std.specs.Prelude.{MatchBool}
use Rattle.qz_command.specs.declared.command.Command.{Command}
use Rattle.qz_command.specs.declared.command.Command.TheVariants as command
use Rattle.qz_command.specs.Commands.{command_of}
use Rattle.qz_found.specs.FoundEndings.{Shelved}
use Rattle.qz_ending.specs.Endings.{Outside}
use Rattle.qz_script.specs.Scripts.{ServesAll, script_limit}
use Rattle.qz_script_schools.specs.Folders.{ServesFolder}
use Rattle.quizd.specs.Commands.{Beside, CommandDoesAll, RunsAll, is_memory}

script-wanting : (b : Bool) (at after : Shelved) (old new : Outside) → MatchBool b (ServesAll script_limit old new 8) (ServesFolder script_limit at after old new 8)
script-wanting true at after old new = record { done = λ text left short source sink. inr refl }
script-wanting false at after old new = record { done = λ text left short source sink shelf. inr (inr refl) }

module _ {R C F P L B : Type 0} (none_fails : Type 0) (at after : Beside R C F P L B) where
  wanting-does : (c : Option Command) (old new : Outside) → CommandDoesAll none_fails at after c old new 8
  wanting-does None old new = tt
  wanting-does (Some command.Replay) old new = record { done = λ text output left short is source sink. inr refl }
  wanting-does (Some command.GiftCheck) old new = record { done = λ text bank left short is source sink. inr refl }
  wanting-does (Some command.GiftFormat) old new = record { done = λ text bank left short is source sink. inr refl }
  wanting-does (Some (command.Script folder)) old new = script-wanting (is_memory folder) at.told after.told old new
  wanting-does (Some (command.Found folder shards token)) old new = record { done = λ bytes reads is shelf sink. inr refl }
  wanting-does (Some (command.Serve c)) old new = record { done = λ sink shelf quiet. inr (inr refl) }
  wanting-does (Some (command.Audit c)) old new = record { done = λ sink shelf quiet. inr (inr (inl refl)) }
  wanting-does (Some (command.Poll folder port links visits)) old new = record { done = λ sink shelf door. inr (inr refl) }
  wanting-does (Some (command.Bulk count)) old new = λ quiet. inr refl
  wanting-does (Some (command.Stats folder quiz workers)) old new = record { done = λ sink shelf. inr (inr refl) }
  wanting-does (Some (command.Sql folder token)) old new = record { done = λ text left short source sink bases. inr (inr refl) }
  wanting-does (Some (command.SqlOpen folder quiz)) old new = record { done = λ sink bases. inr refl }

  pub wanting_runs : (words : List (List ℕ)) (old new : Outside) (status : ℕ) → status ≡ 8 → RunsAll none_fails at after words old new status
  wanting_runs words old new status is = subst (λ (s : ℕ). CommandDoesAll none_fails at after (command_of words) old new s) (sym is) (wanting-does (command_of words) old new)
