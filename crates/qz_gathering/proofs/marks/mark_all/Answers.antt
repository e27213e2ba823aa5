use Rattle.std.proofs.Common.{◌++◌, ◌∷◌, [], List, take, ap, sym, subst, ◌∙◌}
use Rattle.std.proofs.lemmas.List.{take_more}
use Rattle.qz_gather.specs.declared.note.Note.{Note}
use Rattle.qz_school.specs.Solos.{lists_in}
use Rattle.qz_gathering.specs.Marking.{AreMarked}
use Rattle.qz_gathering.proofs.Marking.{marks_more}
use Rattle.qz_gathering.proofs.marks.mark_all.Goals as goal

pub loop-note-preserved : goal.loop-note-preserved
loop-note-preserved g c =
    let notes = c.args.notes.now in
    let done = take c.loop-note.note-index notes in
    let more = take_more notes c.loop-note.note-index c.note-item.result c.loop-note-test.true ∙ ap (λ (n : Note). done ++ n ∷ []) (sym c.note-item.is) in
    record {
      marked = subst (λ (l : List Note). AreMarked (lists_in c.args.solo.now) c.args.base.now l c.mark.new.marks) (sym more)
          (marks_more (lists_in c.args.solo.now) c.args.base.now done c.note-item.result c.loop-note.marks c.mark.new.marks c.loop-note.invariant.marked c.mark.ensures);
      count = c.mark.ensures.count ∙ c.loop-note.invariant.count;
    }
