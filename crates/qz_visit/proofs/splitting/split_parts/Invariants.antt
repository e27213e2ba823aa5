use Rattle.std.proofs.Common.{◌≡◌, ◌≤◌, length, vec_len, vec_capacity}
use Rattle.qz_visit.proofs.Dealt.{SplitTo}
use Rattle.qz_visit.proofs.splitting.split_parts.Given as goal

abbrev pub invariant-loop-index : goal.invariant-loop-index
invariant-loop-index g l = SplitTo l.fn.passes.items l.passes.items l.given.items l.index × (length l.fn.passes.items ≤ vec_capacity l.given) × (vec_len l.given ≡ l.index)
