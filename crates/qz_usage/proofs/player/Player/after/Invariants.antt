use Rattle.std.proofs.Common.{◌≡◌, ◌+◌, ◌≤◌, take}
use Rattle.qz_usage.specs.Players.{played_behaviour, HasPlayed}
use Rattle.qz_usage.proofs.player.Player.after.Given as goal

abbrev pub invariant-loop-place : goal.invariant-loop-place
invariant-loop-place g l = record {
  behaviour : played_behaviour l.player ≡ l.fn.behaviour;
  played : HasPlayed l.player l.question (take l.place l.taken);
  count : l.steps ≤ l.fn.steps + l.place;
}
