use Rattle.std.proofs.Common.{◌+◌, IsSome, length, refl, sym, ap, subst, ◌∙◌, arith}
use Rattle.std.specs.BTreeMap.{get}
use Rattle.std.specs.Prelude.{is_some}
use Rattle.qz_terms.specs.declared.request.Whom.{Whom}
use Rattle.qz_roster.specs.Overrides.{of_whom}
use Rattle.qz_room.specs.Pairs.{pair_cmp}
use Rattle.qz_roster.proofs.OverrideCounts.{override_count-few}
use Rattle.qz_roster.proofs.OverrideLemmas.{group-set, overrides-kept, overrides-same, user-set}
use Rattle.qz_roster.proofs.Telling.{more-few}
use Rattle.qz_roster.proofs.overrides.Overrides.keep.Goals as goal

pub returns-in_default : goal.returns-in_default
returns-in_default c = overrides-same c.args.records.now c.args.record.now c.args.self.now c.requires.overrides (sym c.set_otherwise.ensures ∙ c.in_default.is)

pub overflow_add-self : goal.overflow_add-self
overflow_add-self c =
    let most = override_count-few c.args.records.now in
    let count = c.requires.overrides.count in
    let few = c.requires.few in
    let sum = more-few c.args.self.now.count (length c.args.records.now) c.from.result c.is_none.result c.from.ensures (omega arith) in
    omega arith

pub fill-requires : goal.fill-requires
fill-requires c =
    let t = c.in-Some.target in
    subst (λ (w : Whom). IsSome (get pair_cmp (of_whom c.args.self.now w) (t.quiz, t.number))) c.in-User.is (c.requires.room.there t c.in-Some.set (sym c.set_otherwise.ensures ∙ c.in-Some.is))

pub fill-requires-in-Group : goal.fill-requires-in-Group
fill-requires-in-Group c =
    let t = c.in-Some.target in
    subst (λ (w : Whom). IsSome (get pair_cmp (of_whom c.args.self.now w) (t.quiz, t.number))) c.in-Group.is (c.requires.room.there t c.in-Some.set (sym c.set_otherwise.ensures ∙ c.in-Some.is))

pub returns-in-User : goal.returns-in-User
returns-in-User c =
    overrides-kept c.args.records.now c.args.record.now c.args.self.now (record { users = c.fill.new.map; groups = c.args.self.now.groups; count = c.args.self.now.count + c.from.result }) c.in-Some.target c.in-Some.set c.is_none.result c.requires.overrides
    (sym c.set_otherwise.ensures ∙ c.in-Some.is) (user-set c.args.self.now _ c.in-Some.target c.in-Some.set c.in-User.is c.fill.ensures refl)
    (ap is_some (sym (c.of-before.ensures c.args.records.now c.requires.overrides)) ∙ c.is_none.ensures) (ap (λ n. c.args.self.now.count + n) c.from.ensures)

pub returns-in-Group : goal.returns-in-Group
returns-in-Group c =
    overrides-kept c.args.records.now c.args.record.now c.args.self.now (record { users = c.args.self.now.users; groups = c.fill-in-Group.new.map; count = c.args.self.now.count + c.from.result }) c.in-Some.target c.in-Some.set c.is_none.result c.requires.overrides
    (sym c.set_otherwise.ensures ∙ c.in-Some.is) (group-set c.args.self.now _ c.in-Some.target c.in-Some.set c.in-Group.is c.fill-in-Group.ensures refl)
    (ap is_some (sym (c.of-before.ensures c.args.records.now c.requires.overrides)) ∙ c.is_none.ensures) (ap (λ n. c.args.self.now.count + n) c.from.ensures)
