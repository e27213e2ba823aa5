-- A clerk asks a school what lines ask.
use Rattle.std.proofs.Common.{◌≡◌, ℕ, ◌<◌, List, ◌∷◌, length, sym, subst}
use Rattle.qz_gather.specs.Clerks.{Answers, Clerk, noted, unasked}
use Rattle.qz_school.specs.Answering.{MayBeAsked}
use Rattle.qz_script_schools.proofs.SoloLemmas.{takes_lines}
use Rattle.qz_stations.specs.Posts.{HoldsEvery}
use Rattle.qz_stations.proofs.TakingUp.{has-first, hold_theirs}
use Rattle.qz_terms.specs.declared.ask.Ask.{Ask}
use Rattle.qz_terms.specs.declared.people.Caller.{Caller}
use Rattle.qz_terms.specs.declared.reply.Reply.{Reply}
use Rattle.qz_turn.specs.Rule.{HasEvery}
use Rattle.qz_visit.specs.Holding.{GoesOn, Holds}
use Rattle.qz_visit.specs.Visits.{AreOf, Locks, Seats, Visitor}
use Rattle.qz_visit.specs.declared.last.Last.{Last}
use Rattle.qz_visit.proofs.Holding.{goes_asked, goes_self, holds_gone, of_held}
use Rattle.qz_wire.specs.Asking.{CanBeAsked}

-- what a line asks may be asked by whomever
pub may_ask : (ask : Ask) (who : Caller) (now : ℕ) → CanBeAsked ask now → MayBeAsked (record { caller = who; key = ask.key; request = ask.request }) now
may_ask ask who now can =
    let may : MayBeAsked ask now = takes_lines.taken now ask can in
    record { keyed = may.keyed; kept = may.kept; described = may.described; moment_kept = may.moment_kept; brief = may.brief; names = may.names }

pub asked_goes : (a b : Clerk) (now : ℕ) (ask : Ask) (r : Reply) → Answers a b now ask r → GoesOn a.visit b.visit
asked_goes a b now ask r (unasked same told) = subst (λ (c : Clerk). GoesOn a.visit c.visit) (sym same) (goes_self a.visit)
asked_goes a b now ask r (noted n school asks tells more) = goes_asked a.visit b.visit now ask r (school, asks)

-- passes with some number are a school's
pub of_some : (s : Locks) (p : Seats) → HoldsEvery s p → 0 < length p.records.numbers → AreOf s p
of_some s p all some =
    let first = has-first p.records.numbers some in
    of_held s first.first first.rest p (subst (λ (l : List ℕ). Holds s l p) first.is all.own)

-- the passes of one who asked have the numbers that they had
pub every_gone : (s : Locks) (a b : Visitor) (p q : Seats) (l : Last) → a ≡ record { school = s; passes = p; last = l } → GoesOn a b → q ≡ b.passes → HoldsEvery s p → HoldsEvery s q
every_gone s a b p q l begins goes ends all =
    let held = holds_gone s a b p q l begins goes ends p.records.numbers all.own in
    record { own = hold_theirs s p.records.numbers q held; every = subst (λ (ns : List ℕ). HasEvery s.records.seats ns) (sym held.records.numbers_are) all.every }
