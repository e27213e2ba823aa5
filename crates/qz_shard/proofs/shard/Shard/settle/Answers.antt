use Rattle.std.proofs.Common.{◌≡◌, Some, sym, ap, subst, ◌∙◌}
use Rattle.std.specs.Option.{option_copied}
use Rattle.qz_keeper.proofs.Settling.{finding_done, finding_failed, finding_none, finding_put}
use Rattle.qz_keeper.specs.Lists.{IsKeptList}
use Rattle.qz_terms.specs.declared.record.Record.{Record}
use Rattle.qz_shard.specs.Holdings.{Holding}
use Rattle.qz_shard.proofs.KeptCalls.{found_next, kept_there}
use Rattle.qz_book.specs.Nexts.{IsNext}
use Rattle.qz_shard.proofs.shard.Shard.settle.Goals as goal

pub invariant_of-self : goal.invariant_of-self
invariant_of-self g c =
    (finding_failed _ g.K.Keeper.kept (IsNext c.self.inside.core.index c.self.inside.core.count) c.self.inside.core.records c.self.inside.keeper c.find.new.self c.in_err-find.field-0.0 c.self.invariant
    (record { found = c.in_err-find.ensures.found; settled = c.in_err-find.ensures.settled }) (λ is. is)).0

pub invariant_of-self-in_default : goal.invariant_of-self-in_default
invariant_of-self-in_default g c =
    (finding_done g.K.Keeper.kept (IsNext c.self.inside.core.index c.self.inside.core.count) c.self.inside.core.records c.self.inside.keeper c.find.new.self c.self.invariant
    (record { found = c.in_ok-find.ensures.found; settled = c.in_ok-find.ensures.settled })).keeps

pub returns-in_default-clause-settles : goal.returns-in_default-clause-settles
returns-in_default-clause-settles g c =
    let kept = g.K.Keeper.kept in
    let may = IsNext c.self.inside.core.index c.self.inside.core.count in
    let found = finding_done kept may c.self.inside.core.records c.self.inside.keeper c.find.new.self c.self.invariant (record { found = c.in_ok-find.ensures.found; settled = c.in_ok-find.ensures.settled }) in
    rw (← c.self.view_is) (finding_none kept may c.self.inside.core.records c.self.inside.keeper c.find.new.self found (sym c.found.ensures ∙ ap option_copied c.in_default.is))

pub invariant_of-self-in_err-made : goal.invariant_of-self-in_err-made
invariant_of-self-in_err-made g c =
    (finding_done g.K.Keeper.kept (IsNext c.self.inside.core.index c.self.inside.core.count) c.self.inside.core.records c.self.inside.keeper c.find.new.self c.self.invariant
    (record { found = c.in_ok-find.ensures.found; settled = c.in_ok-find.ensures.settled })).keeps

pub adopt-requires-clause-next : goal.adopt-requires-clause-next
adopt-requires-clause-next g c =
    let kept = g.K.Keeper.kept in
    let may = IsNext c.self.inside.core.index c.self.inside.core.count in
    let list = c.self.inside.core.records in
    let found = finding_done kept may list c.self.inside.keeper c.find.new.self c.self.invariant (record { found = c.in_ok-find.ensures.found; settled = c.in_ok-find.ensures.settled }) in
    subst (may list) (sym c.in_ok-made.ensures) (found_next kept may list c.self.inside.keeper c.find.new.self c.in-Some.found.now found (sym c.found.ensures ∙ ap option_copied c.in-Some.is))

pub invariant_of-self-in_err-adopt : goal.invariant_of-self-in_err-adopt
invariant_of-self-in_err-adopt g c =
    let kept = g.K.Keeper.kept in
    let may = IsNext c.self.inside.core.index c.self.inside.core.count in
    let found = finding_done kept may c.self.inside.core.records c.self.inside.keeper c.find.new.self c.self.invariant (record { found = c.in_ok-find.ensures.found; settled = c.in_ok-find.ensures.settled }) in
    subst (λ (s : Holding). IsKeptList kept (IsNext s.index s.count) s.records c.find.new.self) (sym c.in_err-adopt.ensures.unchanged) found.keeps

pub invariant_of-self-2 : goal.invariant_of-self-2
invariant_of-self-2 g c =
    let kept = g.K.Keeper.kept in
    let may = IsNext c.self.inside.core.index c.self.inside.core.count in
    let list = c.self.inside.core.records in
    let found = finding_done kept may list c.self.inside.keeper c.find.new.self c.self.invariant (record { found = c.in_ok-find.ensures.found; settled = c.in_ok-find.ensures.settled }) in
    let is : c.find.new.self.found ≡ Some c.in_ok-made.made = sym c.found.ensures ∙ ap option_copied c.in-Some.is ∙ ap (λ (r : Record). Some r) (sym c.in_ok-made.ensures) in
    kept_there kept c.self.inside.core.index c.self.inside.core.count c.adopt.new.self.index c.adopt.new.self.count c.adopt.new.self.records c.settle.new.self c.in_ok-adopt.ensures.shard.0 c.in_ok-adopt.ensures.shard.1
    (finding_put kept may list c.adopt.new.self.records c.self.inside.keeper c.find.new.self c.settle.new.self c.in_ok-made.made found is c.in_ok-adopt.ensures.put c.settle.ensures).keeps

pub returns-clause-settles : goal.returns-clause-settles
returns-clause-settles g c =
    let kept = g.K.Keeper.kept in
    let may = IsNext c.self.inside.core.index c.self.inside.core.count in
    let list = c.self.inside.core.records in
    let found = finding_done kept may list c.self.inside.keeper c.find.new.self c.self.invariant (record { found = c.in_ok-find.ensures.found; settled = c.in_ok-find.ensures.settled }) in
    let is : c.find.new.self.found ≡ Some c.in_ok-made.made = sym c.found.ensures ∙ ap option_copied c.in-Some.is ∙ ap (λ (r : Record). Some r) (sym c.in_ok-made.ensures) in
    rw (← c.self.view_is)
    (finding_put kept may list c.adopt.new.self.records c.self.inside.keeper c.find.new.self c.settle.new.self c.in_ok-made.made found is c.in_ok-adopt.ensures.put c.settle.ensures).settled
