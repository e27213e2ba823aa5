use Rattle.std.proofs.Common.{◌≡◌, ◌++◌, ◌∷◌, [], List, length, ap, sym, subst, ◌∙◌, arith}
use Rattle.std.specs.Prelude.{is_some}
use Rattle.std.proofs.lemmas.Result.{err_from_is_err_and}
use Rattle.qz_terms.specs.declared.record.Record.{Record}
use Rattle.qz_terms.specs.Catalog.{asked}
use Rattle.qz_terms.specs.CatalogAnswer.{record_in}
use Rattle.qz_bank.specs.declared.entry.Entry.{Entry}
use Rattle.qz_catalog.specs.Applying.{bank_with}
use Rattle.qz_catalog.specs.Holdings.{IsHeld}
use Rattle.qz_catalog.proofs.Answering.{put-held}
use Rattle.qz_catalog.proofs.KeptCalls.{posed-kept, posed-ready, posed-recorded, put-told, refused_ends}
use Rattle.qz_catalog.proofs.ShownLemmas.{posed-next, put-at}
use Rattle.qz_catalog.proofs.putting.put.Goals as goal

pub put_record-requires-clause-can : goal.put_record-requires-clause-can
put_record-requires-clause-can g c =
    let list = c.args.book.now.records.items in
    let bank = c.args.book.now.entries in
    let r = c.in_ok-record.record in
    let made : r ≡ record_in list c.args.now c.args.user.now c.args.ask.now = c.in_ok-record.ensures ∙ ap (λ (l : List Record). record_in l c.args.now c.args.user.now c.args.ask.now) c.deref.ensures.value in
    record {
      next = posed-next list bank c.args.now c.args.user.now c.args.ask.now r c.requires.posed made;
      kept = (posed-kept list bank c.args.now c.args.user.now c.args.ask.now r c.requires.posed c.in-Ok.ensures.free made).kept;
      change = c.in-Ok.ensures.ready;
      held = λ few. subst (λ (s : Record). IsHeld (list ++ s ∷ []) (bank_with bank c.in-Ok.prepared)) (sym made)
          (subst (λ (es : List Entry). IsHeld (list ++ record_in list c.args.now c.args.user.now c.args.ask.now ∷ []) es) (sym c.in-Ok.ensures.prepared)
          (put-held list bank c.args.now c.args.user.now c.args.ask.now c.requires.posed c.in-Ok.ensures.free few));
    }

pub put_record-requires-clause-ready : goal.put_record-requires-clause-ready
put_record-requires-clause-ready g c =
    posed-ready g.R.Recorder.ready c.args.recorder.now c.args.book.now.records.items c.args.book.now.entries c.args.now c.args.user.now c.args.ask.now c.in_ok-record.record c.requires.posed c.in-Ok.ensures.free c.requires.ready
    (c.in_ok-record.ensures ∙ ap (λ (l : List Record). record_in l c.args.now c.args.user.now c.args.ask.now) c.deref.ensures.value)

pub returns-in-Err : goal.returns-in-Err
returns-in-Err g c =
    let ends = refused_ends g.R.Recorder.records c.args.book.now.records.items c.args.book.now.entries c.args.now c.args.user.now c.args.ask.now c.in-Err.why c.args.recorder.now c.refused.result c.requires.posed c.in-Err.ensures.refused c.refused.ensures.told c.refused.ensures.wanting in
    record { told = ends.told; recorded = ends.recorded; unchanged = ends.unchanged; book = c.requires.book }

pub returns-in_err-put_record-clause-recorded : goal.returns-in_err-put_record-clause-recorded
returns-in_err-put_record-clause-recorded g c =
    let p = err_from_is_err_and c.from_residual-in_err-put_record.result c.from_residual-in_err-put_record.ensures.1 in
    rw (p.1, p.2)
    (posed-recorded g.R.Recorder.records c.args.book.now.records.items c.args.book.now.entries c.args.now c.args.user.now c.args.ask.now c.in_ok-record.record c.args.recorder.now c.put_record.new.recorder _ c.requires.posed c.in-Ok.ensures.free
    (c.in_ok-record.ensures ∙ ap (λ (l : List Record). record_in l c.args.now c.args.user.now c.args.ask.now) c.deref.ensures.value) c.in_err-put_record.ensures.recorded)

pub said-requires-clause-asked : goal.said-requires-clause-asked
said-requires-clause-asked g c =
    let r = c.in_ok-record.record in
    let place : c.len-at.result ≡ length c.args.book.now.records.items = let long = c.len-at.ensures in omega arith in
    record {
      item = r;
      at = put-at c.args.book.now.records.items c.put_record.new.book.records.items r c.len-at.result c.in_ok-put_record.ensures.list place;
      asked = ap (λ (s : Record). is_some (asked s)) c.in_ok-record.ensures;
    }

pub returns-clause-told : goal.returns-clause-told
returns-clause-told g c =
    let place : c.len-at.result ≡ length c.args.book.now.records.items = let long = c.len-at.ensures in omega arith in
    put-told c.args.book.now.records.items c.put_record.new.book.records.items c.args.book.now.entries c.args.now c.args.user.now c.args.ask.now c.in_ok-record.record c.said.result c.len-at.result c.requires.posed c.in-Ok.ensures.free
    (c.in_ok-record.ensures ∙ ap (λ (l : List Record). record_in l c.args.now c.args.user.now c.args.ask.now) c.deref.ensures.value) c.in_ok-put_record.ensures.list place c.said.ensures

pub returns-clause-recorded : goal.returns-clause-recorded
returns-clause-recorded g c =
    posed-recorded g.R.Recorder.records c.args.book.now.records.items c.args.book.now.entries c.args.now c.args.user.now c.args.ask.now c.in_ok-record.record c.args.recorder.now c.put_record.new.recorder _ c.requires.posed c.in-Ok.ensures.free
    (c.in_ok-record.ensures ∙ ap (λ (l : List Record). record_in l c.args.now c.args.user.now c.args.ask.now) c.deref.ensures.value) c.in_ok-put_record.ensures.recorded
