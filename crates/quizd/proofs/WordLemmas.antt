-- What is known of the numbers and words of a command.
use Rattle.std.proofs.Common.{ℕ, ◌≤◌, List, length}
use Rattle.qz_command.specs.declared.command.Command.TheVariants as command
use Rattle.qz_command.specs.Commands.{IsInRange}
use Rattle.qz_terms.specs.declared.limits.TheConstants.{LONGEST_KEY}

-- how many links a run may poll at once
pub few_visits : (folder : List ℕ) (port links visits : ℕ) → IsInRange (command.Poll folder port links visits) → visits ≤ 1000
few_visits folder port links visits (named, door, count, most) = most.1

-- how long the token of a manager is
pub short_token : (folder token : List ℕ) → IsInRange (command.Sql folder token) → length token ≤ LONGEST_KEY
short_token folder token (named, brief) = brief.1
