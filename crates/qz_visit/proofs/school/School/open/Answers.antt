use Rattle.std.proofs.Common.{length, arith}
use Rattle.std.specs.Prelude.{nat_le, nat_lt}
use Rattle.std.proofs.lemmas.Bool.{and_parts, leb-true}
use Rattle.qz_visit.proofs.Opened.{closes_self, many_opened}
use Rattle.qz_visit.proofs.Standing.{there_at}
use Rattle.qz_visit.proofs.school.School.open.Goals as goal

pub returns-in_default-clause-refused : goal.returns-in_default-clause-refused
returns-in_default-clause-refused g c = closes_self g.K.Keeper.faults record { catalog = c.args.catalog; parts = c.args.shards.items } c.requires

pub returns-in_default-with_capacity-clause-refused : goal.returns-in_default-with_capacity-clause-refused
returns-in_default-with_capacity-clause-refused g c = closes_self g.K.Keeper.faults record { catalog = c.args.catalog; parts = c.args.shards.items } c.requires

pub returns-in_default-with_capacity-2-clause-refused : goal.returns-in_default-with_capacity-2-clause-refused
returns-in_default-with_capacity-2-clause-refused g c = closes_self g.K.Keeper.faults record { catalog = c.args.catalog; parts = c.args.shards.items } c.requires

pub open_all-requires-clause-few : goal.open_all-requires-clause-few
open_all-requires-clause-few g c =
    let shards = c.args.shards.items in
    let solo = c.requires in
    let first = c.index.result.now in
    let placed = solo.placed.each 0 first (there_at shards 0 first solo.some c.index.ensures) in
    let within = leb-true first.count 64 (and_parts (nat_lt first.index first.count) (nat_le first.count 64) c.len-first.ensures.shard).1 in
    let same = placed.1 in
    omega (arith, within, same)

pub unasked-requires : goal.unasked-requires
unasked-requires g c =
    let opened = c.in_ok-school.ensures.opened in
    let shards = c.args.shards.items in
    let many = many_opened g.K.Keeper.faults c.in_ok-school.school.records.lock c.args.seats (length shards) shards c.in_ok-school.school.parts c.in_ok-school.seats.parts opened.parts in
    let own = opened.parts.own.count in
    let counted = c.in-Ok.ensures in
    let told = c.len.ensures in
    omega (arith, many, own, counted, told)
