use Rattle.std.proofs.Common.{List, map, ap, sym, ◌∙◌}
use Rattle.std.specs.Prelude.{filter, find, nat_lt}
use Rattle.qz_terms.specs.declared.plan.Bound.{Bound}
use Rattle.qz_terms.specs.declared.record.Event.{Event}
use Rattle.qz_terms.specs.Legal.{positions_by}
use Rattle.qz_terms.specs.Lists.{first_of}
use Rattle.qz_agreement.proofs.Tested.{first-found}
use Rattle.qz_agreement.proofs.disagreement.bound_past.Goals as goal

pub returns-in-Started : goal.returns-in-Started
returns-in-Started c =
    c.first_bound_past.ensures ∙ ap (λ (bs : List Bound). find (nat_lt c.args.count) (map (λ (b : Bound). b.at) bs)) c.as_slice.ensures
    ∙ first-found (nat_lt c.args.count) (map (λ (b : Bound). b.at) c.in-Started.bounds)
    ∙ ap (λ (e : Event). first_of (filter (nat_lt c.args.count) (positions_by e))) (sym c.in-Started.is)
