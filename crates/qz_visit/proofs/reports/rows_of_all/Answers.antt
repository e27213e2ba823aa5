use Rattle.std.proofs.Common.{◌<◌, ◌+◌, ◌++◌, List, ℕ, length, sym, ap, ◌∙◌, subst, arith}
use Rattle.std.specs.Prelude.{slice_set}
use Rattle.std.proofs.lemmas.Result.{err_from_is_err_and}
use Rattle.qz_terms.specs.Legal.{IsLegal}
use Rattle.qz_visit.specs.Reports.{short, untold}
use Rattle.qz_visit.specs.Visits.{seen_by}
use Rattle.qz_visit.proofs.Owning.{as_seen}
use Rattle.qz_visit.proofs.Passing.{took_turned, turn_sees}
use Rattle.qz_visit.proofs.Reporting.{read_more, read_none, rows_more}
use Rattle.qz_visit.proofs.Standing.{at_set, there_at, turn_at}
use Rattle.qz_visit.proofs.reports.rows_of_all.Goals as goal

pub loop-index-init : goal.loop-index-init
loop-index-init g c = ((seen_by c.args.passes.now.items, read_none c.args.passes.now.items), c.requires.own, c.all.view_is ∙ c.empty-all.ensures)

pub rows-requires-clause-pass : goal.rows-requires-clause-pass
rows-requires-clause-pass g c =
    let ms = c.loop-index.passes.items in
    let ls = c.args.parts.now.items in
    let i = c.loop-index.index in
    let po = c.index_mut.result.now in
    let at = c.loop-index.invariant.1 in
    let last = c.len-index-end.ensures in
    let test = c.loop-index-test.true in
    let inside : i < length ls = omega (arith, last, test) in
    let lock = there_at ls i c.index.result.now inside c.index.ensures in
    let pass = there_at ms i po (subst (λ (n : ℕ). i < n) (sym at.count) inside) c.index_mut.ensures.value in
    (at.own i c.index.result.now po lock pass).own

pub rows-requires-clause-number : goal.rows-requires-clause-number
rows-requires-clause-number g c =
    let ms = c.loop-index.passes.items in
    let ls = c.args.parts.now.items in
    let i = c.loop-index.index in
    let po = c.index_mut.result.now in
    let at = c.loop-index.invariant.1 in
    let last = c.len-index-end.ensures in
    let test = c.loop-index-test.true in
    let inside : i < length ls = omega (arith, last, test) in
    let lock = there_at ls i c.index.result.now inside c.index.ensures in
    let pass = there_at ms i po (subst (λ (n : ℕ). i < n) (sym at.count) inside) c.index_mut.ensures.value in
    (at.own i c.index.result.now po lock pass).numbered

pub returns-in_err-rows : goal.returns-in_err-rows
returns-in_err-rows g c =
    let ms = c.loop-index.passes.items in
    let ls = c.args.parts.now.items in
    let i = c.loop-index.index in
    let po = c.index_mut.result.now in
    let at = c.loop-index.invariant.1 in
    let last = c.len-index-end.ensures in
    let test = c.loop-index-test.true in
    let inside : i < length ls = omega (arith, last, test) in
    let lock = there_at ls i c.index.result.now inside c.index.ensures in
    let pass = there_at ms i po (subst (λ (n : ℕ). i < n) (sym at.count) inside) c.index_mut.ensures.value in
    let p = err_from_is_err_and c.from_residual.result c.from_residual.ensures.1 in
    let read = c.loop-index.invariant.0 in
    let placed = at.placed i c.index.result.now lock in
    let t = c.in_err-rows.ensures.at placed.0 placed.1 in
    rw (p.1, p.2) (untold i ms read.0 po c.rows.new.pass read.1 pass (took_turned (IsLegal placed.0.index placed.0.count) _ _ po c.rows.new.pass _ t) t.calls.call Rattle.std.proofs.Common.refl)

pub returns-in_err-extend_from_slice : goal.returns-in_err-extend_from_slice
returns-in_err-extend_from_slice g c =
    let ms = c.loop-index.passes.items in
    let ls = c.args.parts.now.items in
    let i = c.loop-index.index in
    let po = c.index_mut.result.now in
    let at = c.loop-index.invariant.1 in
    let last = c.len-index-end.ensures in
    let test = c.loop-index-test.true in
    let inside : i < length ls = omega (arith, last, test) in
    let lock = there_at ls i c.index.result.now inside c.index.ensures in
    let pass = there_at ms i po (subst (λ (n : ℕ). i < n) (sym at.count) inside) c.index_mut.ensures.value in
    let p = err_from_is_err_and c.from_residual-in_err-extend_from_slice.result c.from_residual-in_err-extend_from_slice.ensures.1 in
    let read = c.loop-index.invariant.0 in
    let placed = at.placed i c.index.result.now lock in
    let t = turn_at _ _ placed.0 i (length ls) po c.rows.new.pass _ placed.2 placed.3 (c.in_ok-rows.ensures.at placed.0 placed.1) in
    rw p.1 (short (i + 1) (slice_set read.0 i (as_seen c.rows.new.pass)) (read_more i c.args.quiz c.args.policy.now c.args.passes.now.items ms read.0 po c.rows.new.pass (length ls) c.in_ok-rows.rows read.1 pass (sym at.count) t) p.2)

pub loop-index-preserved : goal.loop-index-preserved
loop-index-preserved g c =
    let ms = c.loop-index.passes.items in
    let ls = c.args.parts.now.items in
    let i = c.loop-index.index in
    let po = c.index_mut.result.now in
    let at = c.loop-index.invariant.1 in
    let last = c.len-index-end.ensures in
    let test = c.loop-index-test.true in
    let inside : i < length ls = omega (arith, last, test) in
    let lock = there_at ls i c.index.result.now inside c.index.ensures in
    let pass = there_at ms i po (subst (λ (n : ℕ). i < n) (sym at.count) inside) c.index_mut.ensures.value in
    let read = c.loop-index.invariant.0 in
    let placed = at.placed i c.index.result.now lock in
    let pn = c.rows.new.pass in
    let t = turn_at _ _ placed.0 i (length ls) po pn _ placed.2 placed.3 (c.in_ok-rows.ensures.at placed.0 placed.1) in (
      (slice_set read.0 i (as_seen pn), read_more i c.args.quiz c.args.policy.now c.args.passes.now.items ms read.0 po pn (length ls) c.in_ok-rows.rows read.1 pass (sym at.count) t),
      at_set ls ms i po pn at pass (turn_sees (IsLegal i (length ls)) _ _ po pn _ t),
      c.in_ok-extend_from_slice.ensures.items
          ∙ (ap (λ (rows : List _). c.loop-index.all-inside.items.items ++ rows) c.as_slice.ensures ∙ rows_more i c.args.quiz c.args.policy.now ms po pn (IsLegal i (length ls)) c.loop-index.all-inside.items.items c.in_ok-rows.rows pass c.loop-index.invariant.2 t),
    )
