use Rattle.std.proofs.Common.{◌≡◌, true, subst, sym, ◌∙◌, arith}
use Rattle.std.proofs.lemmas.Result.{err_from_is_err_and}
use Rattle.qz_terms.specs.declared.record.Record.{Record}
use Rattle.qz_terms.specs.Kept.{IsKept}
use Rattle.qz_record.specs.Records.{keeps_described}
use Rattle.qz_record.proofs.Codes.{IsBytes}
use Rattle.qz_record.proofs.Parsing.{only-memory, read-same, record-asks, spelled-read}
use Rattle.qz_record.proofs.record.parse.Goals as goal

pub returns-in_err-record-clause-only : goal.returns-in_err-record-clause-only
returns-in_err-record-clause-only c = λ r is e.
    let p = err_from_is_err_and c.from_residual.result c.from_residual.ensures.1 in
    rw p.1 (p.2 ∙ only-memory c.args.payload.now c.in_err-record.field-0.0 r c.in_err-record.ensures is.spellable e)

pub is_kept-requires : goal.is_kept-requires
is_kept-requires c =
    let bytes : IsBytes c.args.payload.now = record { small = λ i. omega (arith, c.type_inv.payload i) } in
    record-asks c.in_ok-record.record (spelled-read c.args.payload.now c.in_ok-record.record bytes c.in_ok-record.ensures).spellable

pub returns-then-not-is_kept-clause-only : goal.returns-then-not-is_kept-clause-only
returns-then-not-is_kept-clause-only c = λ r is e.
    let same = read-same c.args.payload.now c.in_ok-record.record r c.in_ok-record.ensures is.spellable e in
    let yes : c.is_kept.result ≡ true = c.is_kept.ensures.1 (subst (λ (s : Record). IsKept s × (keeps_described s ≡ true)) (sym same) (is.kept, is.described)) in
    absurd (cc (yes, c.if-not-is_kept.true))

pub returns-clause-found : goal.returns-clause-found
returns-clause-found c =
    let bytes : IsBytes c.args.payload.now = record { small = λ i. omega (arith, c.type_inv.payload i) } in
    let read = spelled-read c.args.payload.now c.in_ok-record.record bytes c.in_ok-record.ensures in
    let yes : c.is_kept.result ≡ true = cc (c.if-not-is_kept.false) in
    let keeps = c.is_kept.ensures.0 yes in
    (record { spellable = read.spellable; kept = keeps.0; described = keeps.1 }, read.whole)

pub returns-clause-only : goal.returns-clause-only
returns-clause-only c = λ r is e. read-same c.args.payload.now c.in_ok-record.record r c.in_ok-record.ensures is.spellable e
