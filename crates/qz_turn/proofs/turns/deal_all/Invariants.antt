use Rattle.std.proofs.Common.{◌≡◌, ◌≤◌, vec_capacity}
use Rattle.qz_turn.proofs.Dealing.{Deals}
use Rattle.qz_turn.proofs.turns.deal_all.Given as goal

abbrev pub invariant-loop-number : goal.invariant-loop-number
invariant-loop-number g l = Deals l.fn.seat.table_id l.fn.seat.me.0 l.seats l.number l.seat.me l.passes.items × (l.seat.table_id ≡ l.fn.seat.table_id) × (l.seats ≤ vec_capacity l.passes)
