use Rattle.std.proofs.Common.{◌≡◌, List, [], ◌∷◌, ◌++◌, length, sym, ap, ◌∙◌, subst}
use Rattle.qz_visit.specs.declared.last.Last.{Last}
use Rattle.qz_gather.specs.declared.note.Note.{Note}
use Rattle.qz_gather.specs.Clerks.{IsKept, noted}
use Rattle.qz_gather.proofs.Keeping.{counts_old, kept_more, notes_same}
use Rattle.qz_gather.proofs.clerk.ClerkDesk.ask.Goals as goal

pub of-requires : goal.of-requires
of-requires g c =
    let v = c.self.inside.visit in
    let w = c.ask-reply.new.self in
    let room : length c.in-Ok.room.parts ≡ length c.last.result.now.parts = c.in-Ok.ensures.parts ∙ ap length c.as_slice-count.ensures in
    let before : c.last.result.now ≡ v.last = c.last.ensures ∙ c.passes.ensures.last in
    let after : c.last-last.result.now ≡ w.last = c.last-last.ensures ∙ c.passes-2.ensures.last in
    room ∙ ap (λ (l : Last). length l.parts) before ∙ c.self.invariant.counts ∙ sym (counts_old v.passes w.passes w.last c.args.moment c.args.ask.now c.ask-reply.result c.ask-reply.ensures.1)
    ∙ sym (ap (λ (l : Last). length l.parts) after)

pub invariant_of-self-2 : goal.invariant_of-self-2
invariant_of-self-2 g c =
    let v = c.self.inside.visit in
    let w = c.ask-reply.new.self in
    let n = c.of.result in
    let before = c.self.inside.notes.items in
    let tells = notes_same c.last-last.result.now w.last c.args.moment c.in-Ok.room.ask c.args.ask.now c.ask-reply.result n c.of.ensures (c.last-last.ensures ∙ c.passes-2.ensures.last) c.in-Ok.ensures.ask in
    let items : c.push_reserved.new.self.items ≡ before ++ n ∷ [] = c.push_reserved.ensures.items ∙ ap (λ (ns : List Note). ns ++ n ∷ []) c.make_room.ensures.same in
    subst (λ (ns : List Note). IsKept w ns) (sym items) (kept_more v w before c.args.moment c.args.ask.now c.ask-reply.result n c.self.invariant c.ask-reply.ensures.1 tells)

pub returns : goal.returns
returns g c =
    let w = c.ask-reply.new.self in
    let n = c.of.result in
    let tells = notes_same c.last-last.result.now w.last c.args.moment c.in-Ok.room.ask c.args.ask.now c.ask-reply.result n c.of.ensures (c.last-last.ensures ∙ c.passes-2.ensures.last) c.in-Ok.ensures.ask in
    let items : c.push_reserved.new.self.items ≡ c.self.inside.notes.items ++ n ∷ [] = c.push_reserved.ensures.items ∙ ap (λ (ns : List Note). ns ++ n ∷ []) c.make_room.ensures.same in
    rw (← c.self.view_is) (noted n c.ask-reply.ensures.0 c.ask-reply.ensures.1 tells items)
