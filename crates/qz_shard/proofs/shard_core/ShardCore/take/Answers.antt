use Rattle.std.proofs.Common.{◌∷◌, ◌++◌, [], refl, ap, ◌∙◌}
use Rattle.qz_shard.specs.Holdings.{Holding}
use Rattle.qz_shard.proofs.LoadLemmas.{next-read, none-behind}
use Rattle.qz_shard.proofs.shard_core.ShardCore.take.Goals as goal

pub adopt-requires-clause-next : goal.adopt-requires-clause-next
adopt-requires-clause-next g c = next-read (record { index = c.self.inside.index; count = c.self.inside.count; records = c.self.inside.book }) c.self.inside.index c.self.inside.count c.self.inside.book c.in-Ok.made c.in_ok-is_allowed.field-0 refl c.in_ok-is_allowed.ensures.allowed c.if-not-branch.false c.in-Ok.ensures.found.0

pub returns-then-not-branch-clause-taken : goal.returns-then-not-branch-clause-taken
returns-then-not-branch-clause-taken g c =
    (c.self.view_is, none-behind c.args.self.now c.self.inside.index c.self.inside.count c.self.inside.book c.in-Ok.made c.args.payload.now c.in_ok-is_allowed.field-0 c.self.view_is c.in_ok-is_allowed.ensures.allowed c.if-not-branch.true c.in-Ok.ensures.only)

pub returns-clause-taken : goal.returns-clause-taken
returns-clause-taken g c = record {
  made = c.in-Ok.made;
  next = next-read c.args.self.now c.self.inside.index c.self.inside.count c.self.inside.book c.in-Ok.made c.in_ok-is_allowed.field-0 c.self.view_is c.in_ok-is_allowed.ensures.allowed c.if-not-branch.false c.in-Ok.ensures.found.0;
  keeps = c.in-Ok.ensures.found.0;
  spelled = c.in-Ok.ensures.found.1;
  put = c.in_ok-adopt.ensures.put ∙ ap (λ (s : Holding). s.records ++ c.in-Ok.made ∷ []) c.self.view_is;
}
