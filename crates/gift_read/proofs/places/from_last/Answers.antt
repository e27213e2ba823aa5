use Rattle.std.proofs.Common.{sym, ◌∙◌, arith, rules}
use Rattle.std.proofs.Math.Seq.{drop-length}
use Rattle.gift_read.specs.Places.{is_at}
use Rattle.gift_read.proofs.PlaceLemmas.{from_last-none, last_further}
use Rattle.gift_read.proofs.places.from_last.Goals as goal

pub loop-rest-init : goal.loop-rest-init
loop-rest-init c = record {
  found_so_far = rw (c.split_at.ensures.back, drop-length c.args.marks.now) (from_last-none (is_at c.args.landmark) c.args.marks.now);
  rest_shorter = omega arith;
  found_shorter = omega arith;
}

pub loop-rest-preserved-then-is_at : goal.loop-rest-preserved-then-is_at
loop-rest-preserved-then-is_at c = record {
  found_so_far = last_further (is_at c.args.landmark) _ c.loop-rest.found.now c.loop-rest.rest.now c.in-len1-up.len_at_least (sym c.is_at.ensures ∙ c.if-is_at.true) c.loop-rest.invariant.found_so_far;
  rest_shorter = search rules;
  found_shorter = c.loop-rest.invariant.rest_shorter;
}
