use Rattle.std.proofs.Common.{◌≡◌, map}
use Rattle.serde_json.specs.Data.{string}
use Rattle.serde_json.specs.View.{view}
use Rattle.qz_json.proofs.replies.texts.Given as goal

abbrev pub invariant-loop-word : goal.invariant-loop-word
invariant-loop-word l = map view l.items.items ≡ map string l.yielded
