use Rattle.std.proofs.Common.{List, map, ap, subst, sym, ◌∙◌, ◌&&◌}
use Rattle.std.specs.List.{list_all}
use Rattle.std.specs.Prelude.{length, nat_le}
use Rattle.qz_terms.specs.declared.plan.Bound.{Bound}
use Rattle.qz_terms.specs.declared.record.Event.{Event}
use Rattle.qz_terms.specs.declared.record.Learned.{Learned}
use Rattle.qz_terms.specs.Kept.{AreQuestions, KeepsEvent, is_bound}
use Rattle.qz_record.proofs.keeping.keeps_event.Goals as goal

pub returns-then-are_bounds : goal.returns-then-are_bounds
returns-then-are_bounds c =
    let same = ap (map (λ (l : Learned). l.question)) c.as_slice-then-are_bounds.ensures in
    let few = ap (λ (bs : List Bound). nat_le (length bs) 200 && list_all is_bound bs) (sym c.as_slice.ensures) ∙ sym c.are_bounds.ensures ∙ c.if-are_bounds.true in (
      λ yes. subst (λ (e : Event). KeepsEvent e) (sym c.in-Started.is) (few, subst AreQuestions same (c.are_questions.ensures.0 yes)),
      λ keeps. c.are_questions.ensures.1 (subst AreQuestions (sym same) (subst (λ (e : Event). KeepsEvent e) c.in-Started.is keeps).1),
    )

pub returns-then-is_bound : goal.returns-then-is_bound
returns-then-is_bound c =
    let same = ap (map (λ (l : Learned). l.question)) c.as_slice-then-is_bound.ensures in
    let few = sym c.is_bound.ensures ∙ c.if-is_bound.true in (
      λ yes. subst (λ (e : Event). KeepsEvent e) (sym c.in-Rebound.is) (few, subst AreQuestions same (c.are_questions-then-is_bound.ensures.0 yes)),
      λ keeps. c.are_questions-then-is_bound.ensures.1 (subst AreQuestions (sym same) (subst (λ (e : Event). KeepsEvent e) c.in-Rebound.is keeps).1),
    )
