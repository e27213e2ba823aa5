use Rattle.std.proofs.Common.{◌≡◌, ◌-◌, ◌∙◌, ℕ, List, false, Some, None, ap, sym, subst, length, length-append, ◌∷◌, [], replicate, arith}
use Rattle.std.specs.Prelude.{nat_le, nat_lt, slice_get, unwrap_or}
use Rattle.std.proofs.lemmas.Bool.{and_parts, leb-true}
use Rattle.qz_school.specs.Solos.{lists_in, school_of}
use Rattle.qz_visit.proofs.Standing.{there_at}
use Rattle.qz_gathering.specs.Gathering.{count_before}
use Rattle.qz_gathering.proofs.Fresh.{PartsFresh, all_fresh, fresh, list_at, one_fresh, shards_counted}
use Rattle.qz_gathering.proofs.marks.none_marked.Goals as goal

pub loop-index-preserved : goal.loop-index-preserved
loop-index-preserved g c =
    let school = school_of c.args.catalog.now c.args.shards.now in
    let a = lists_in school in
    let base = c.args.base.now in
    let index = c.loop-index.index in
    let shard = c.index-shards-index.result in
    let marks = c.in_ok-unmarked.field-0 in
    let at = there_at c.args.shards.now index shard c.loop-index-test.true c.index-shards-index.is in
    let before : c.number_at-before.result ≡ count_before base (Some index) = c.number_at-before.ensures ∙ ap (λ (ns : List ℕ). unwrap_or (slice_get ns index) 0) c.as_slice.ensures in
    let is = fresh a base (Some index) c.len.result marks (c.len.ensures.count ∙ list_at school index shard at) c.len.type_inv (c.in_ok-unmarked.ensures ∙ ap (λ (b : ℕ). replicate (c.len.result - b) false) before) in
    let items = c.in_ok-push.ensures.items in
    record {
      count = let was = c.loop-index.invariant.count in let more = ap length items in let long = length-append c.loop-index.parts.items (marks ∷ []) in omega arith;
      fresh = subst (PartsFresh a base) (sym items) (one_fresh a base c.loop-index.parts.items marks index c.loop-index.invariant.count c.loop-index.invariant.fresh is);
    }

pub returns-clause-marked : goal.returns-clause-marked
returns-clause-marked g c =
    let school = school_of c.args.catalog.now c.args.shards.now in
    let a = lists_in school in
    let base = c.args.base.now in
    let marks = c.in_ok-unmarked-2.field-0 in
    let first = fresh a base None c.len-2.result marks c.len-2.ensures.count c.len-2.type_inv c.in_ok-unmarked-2.ensures in
    let whole : length c.loop-index.parts.items ≡ length a.parts =
    let was = c.loop-index.invariant.count in let end = c.loop-index.auto in let past = c.loop-index-test.false in let many = shards_counted school in omega (arith, many) in
    all_fresh a base _ first c.loop-index.invariant.fresh whole

pub returns-clause-few : goal.returns-clause-few
returns-clause-few g c =
    let shards = c.args.shards.now in
    let first = c.index-shards-0.result in
    let placed = c.requires.placed.each 0 first (there_at shards 0 first c.requires.some c.index-shards-0.is) in
    let within = leb-true first.count 64 (and_parts (nat_lt first.index first.count) (nat_le first.count 64) c.len-first.ensures.shard).1 in
    let same = placed.1 in
    let was = c.loop-index.invariant.count in
    let end = c.loop-index.auto in
    omega (arith, within, same)
