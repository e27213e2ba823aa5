-- What a look is answered.
use Rattle.std.proofs.Common.{◌≡◌, ℕ, true, List, Option, Some, None, append-nil, refl, sym}
use Rattle.std.specs.Prelude.{is_none}
use Rattle.qz_terms.specs.declared.ask.Ask.{Ask}
use Rattle.qz_terms.specs.declared.people.User.{User}
use Rattle.qz_terms.specs.declared.plan.Plan.{Plan}
use Rattle.qz_terms.specs.declared.record.Record.{Record}
use Rattle.qz_terms.specs.declared.request.Request.{Request}
use Rattle.qz_terms.specs.declared.request.Request.TheVariants as request
use Rattle.qz_terms.specs.Answer.{event_here, looked, moment_of}
use Rattle.qz_terms.specs.Cause.{cause_here, forbidden, is_keyed, is_keyless, missing_here}
use Rattle.qz_shard.specs.Answering.{IsAnswered}
use Rattle.qz_shard.specs.Holdings.{is_look}

-- ---- the answer

-- a look has no key, no cause behind it, and makes no event
record IsPlain (h : List Record) (m : ℕ) (user : User) (plan : Plan) (x : Request) : Type 0 where
  keyless : is_keyless x ≡ true
  causeless : cause_here h m user plan x ≡ None
  makes : event_here h m user plan x ≡ None

plain : (h : List Record) (m : ℕ) (user : User) (plan : Plan) (x : Request) → is_look x ≡ true → IsPlain h m user plan x
plain h m user plan (request.View a k) look = record { keyless = refl; causeless = refl; makes = refl }
plain h m user plan (request.Total a) look = record { keyless = refl; causeless = refl; makes = refl }
plain h m user plan (request.Page a) look = record { keyless = refl; causeless = refl; makes = refl }
plain h m user plan (request.Grade q u) look = record { keyless = refl; causeless = refl; makes = refl }
plain h m user plan x look = absurd cc

none-is : (key : Option (List ℕ)) → is_none key ≡ true → key ≡ None
none-is None is = refl
none-is (Some k) is = absurd cc

pub look-answered : (h : List Record) (now : ℕ) (user : User) (plan : Plan) (ask : Ask) → is_look ask.request ≡ true → is_keyed ask ≡ true → forbidden user ask.request ≡ None → missing_here h user ask.request ≡ None
    → IsAnswered h now user plan ask (looked h (moment_of h now user ask.request) user plan ask.request) h
look-answered h now user plan ask look keyed allowed there =
    let p = plain h (moment_of h now user ask.request) user plan ask.request look in
    let key : ask.key ≡ None = none-is ask.key (rw p.keyless at keyed) in
    record { reply = rw (allowed, there, key, p.causeless, p.makes) refl; list = rw (allowed, there, key, p.causeless, p.makes) (sym (append-nil h)) }
