-- A record that is granted is short enough for a keeper.
use Rattle.std.proofs.Common.{◌≡◌, ℕ, ◌+◌, ◌≤◌, Bool, true, false, List, [], ◌∷◌, length, None, refl, sym, ap, subst}
use Rattle.std.specs.Prelude.{nat_lt, unwrap_or}
use Rattle.std.proofs.lemmas.Bool.{ltb-false}
use Rattle.qz_grading.specs.declared.question.Bank.{Bank}
use Rattle.qz_grading.specs.declared.refusal.Refusal.{Refusal}
use Rattle.qz_grading.specs.declared.refusal.Refusal.TheVariants as refusal
use Rattle.qz_grading.specs.Behaviours.{when}
use Rattle.qz_terms.specs.declared.ask.Ask.{Ask}
use Rattle.qz_terms.specs.declared.limits.TheConstants.{MOST_RECORD}
use Rattle.qz_terms.specs.declared.people.User.{User}
use Rattle.qz_terms.specs.declared.record.Event.TheVariants as event
use Rattle.qz_terms.specs.declared.record.Record.{Record}
use Rattle.qz_terms.specs.declared.request.Request.{Request}
use Rattle.qz_terms.specs.declared.request.Request.TheVariants as request
use Rattle.qz_terms.specs.Catalog.{entries}
use Rattle.qz_terms.specs.CatalogAnswer.{catalog_verdict, record_in}
use Rattle.qz_terms.specs.Cause.{Granted, by_key, cause_in, forbidden, import_cause, keeps_request, missing_in}
use Rattle.qz_terms.specs.Kept.{IsKept}
use Rattle.qz_terms.specs.Spelling.{spelling}
use Rattle.qz_terms.proofs.Standing.{free-by, never-granted}
use Rattle.qz_record.specs.Lengths.{NamesBriefly, TellsBriefly, is_import}
use Rattle.qz_record.proofs.RecordLengths.{record-short}
use Rattle.qz_roster.proofs.NextLemmas.{first-none}

no-longer : (most n : ℕ) (r : Refusal) (b : Bool) → nat_lt most n ≡ b → when b r ≡ None → n ≤ most
no-longer most n r true is none = absurd cc
no-longer most n r false is none = ltb-false most n is

-- an import was measured
import-short : (c : List Record) (gift : Bank) (r : Record) → import_cause c gift r ≡ None → length (spelling r) ≤ MOST_RECORD
import-short c gift r none =
    let long = when (nat_lt MOST_RECORD (length (spelling r))) (refusal.TooMany MOST_RECORD) in
    let first = first-none (when (nat_lt 20000 (length (entries c) + length gift.items)) (refusal.TooMany 20000)) (long ∷ []) none in
    no-longer MOST_RECORD (length (spelling r)) (refusal.TooMany MOST_RECORD) (nat_lt MOST_RECORD (length (spelling r))) refl (first-none long [] first.1).0

-- and no other record is longer
asked-short : (c : List Record) (r : Record) (x : Request) → r.event ≡ event.Asked x → IsKept r → length (unwrap_or r.key []) ≤ 64 → NamesBriefly x → cause_in c r x ≡ None → length (spelling r) ≤ MOST_RECORD
asked-short c r (request.Import gift) is kept key names none = import-short c gift r none
asked-short c r x is kept key names none = record-short r kept (record { key = key; event = subst TellsBriefly (sym is) names }) (ap is_import is)

pub granted-short : (c : List Record) (now : ℕ) (user : User) (ask : Ask) → IsKept (record_in c now user ask) → length (unwrap_or ask.key []) ≤ 64 → NamesBriefly ask.request → catalog_verdict c now user ask ≡ Granted → length (spelling (record_in c now user ask)) ≤ MOST_RECORD
granted-short c now user ask kept key names verdict =
    let x = ask.request in
    let r = record_in c now user ask in
    let parts = free-by (forbidden user x) (missing_in c x) (by_key (keeps_request x) user.number ask.key c) (cause_in c r x) (never-granted (keeps_request x) user.number ask.key c) verdict in
    asked-short c r x refl kept key names parts.3
