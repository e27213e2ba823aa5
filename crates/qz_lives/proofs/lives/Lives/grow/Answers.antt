use Rattle.std.proofs.Common.{ap}
use Rattle.std.specs.Prelude.{is_some}
use Rattle.qz_lives.proofs.Growing.{can-open-all, few-bounds, lives-alike}
use Rattle.qz_lives.proofs.Putting.{act-of, last-of}
use Rattle.qz_lives.proofs.lives.Lives.grow.Goals as goal

pub open-requires-clause-known : goal.open-requires-clause-known
open-requires-clause-known g c = can-open-all (g.V.Versions.version_of c.args.versions.now) c.args.records.now c.args.record.now c.in-Started.quiz c.in-Started.nth c.in-Started.behaviour c.in-Started.bounds c.as_slice-in-Started.result.now c.in-Started.learned c.requires.known (last-of c.args.records.now c.args.record.now c.requires.lawful) c.in-Started.is c.as_slice-in-Started.ensures

pub open-requires-clause-few : goal.open-requires-clause-few
open-requires-clause-few g c = few-bounds c.args.records.now c.args.record.now c.in-Started.quiz c.in-Started.nth c.in-Started.behaviour c.in-Started.bounds c.as_slice-in-Started.result.now c.in-Started.learned (last-of c.args.records.now c.args.record.now c.requires.lawful) c.in-Started.is c.as_slice-in-Started.ensures

pub reserve-requires : goal.reserve-requires
reserve-requires g c = ap is_some (act-of (g.V.Versions.version_of c.args.versions.now) c.args.self.now c.args.records.now c.args.record.now c.in-Acted.attempt c.in-Acted.slot c.in-Acted.step c.requires.known c.requires.lives.attempts (last-of c.args.records.now c.args.record.now c.requires.lawful) c.in-Acted.is).there

pub returns-in_err-reserve-in-Acted-clause-kept : goal.returns-in_err-reserve-in-Acted-clause-kept
returns-in_err-reserve-in-Acted-clause-kept g c = lives-alike c.args.self.now c.reserve.new.self c.reserve.ensures.kept

pub returns-in_ok-reserve-in-Acted-clause-kept : goal.returns-in_ok-reserve-in-Acted-clause-kept
returns-in_ok-reserve-in-Acted-clause-kept g c = lives-alike c.args.self.now c.reserve.new.self c.reserve.ensures.kept
