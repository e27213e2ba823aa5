-- No plan over the whole catalogue is older than a job that is done in a shard.
use Rattle.std.proofs.Common.{◌≡◌, ℕ, false, List, None, length, refl, arith}
use Rattle.std.specs.Prelude.{nat_lt}
use Rattle.std.proofs.lemmas.Bool.Decides.{nat_tests}
use Rattle.qz_terms.specs.declared.plan.Plan.{Plan}
use Rattle.qz_terms.specs.declared.record.Record.{Record}
use Rattle.qz_terms.specs.declared.request.Request.{Request}
use Rattle.qz_terms.specs.declared.request.Request.TheVariants as request
use Rattle.qz_terms.specs.History.{floor}
use Rattle.qz_terms.specs.Legal.{AllAgree}
use Rattle.qz_shard.specs.Holdings.{older}
use Rattle.qz_school.proofs.Working.{working_law}

pub none_older : (c h : List Record) (plan : Plan) (x : Request) → AllAgree c h → plan.at ≡ length c → older h plan x ≡ None
none_older c h plan (request.Start quiz) all whole =
    let within = working_law.newer c h plan.quiz all in
    let test : nat_lt plan.at (floor h plan.quiz) ≡ false = grind (arith, nat_tests) in
    rw test refl
none_older c h plan x all whole = refl
