use Rattle.std.proofs.Common.{◌≡◌, ℕ, ◌∷◌, ◌++◌, [], List, length, get_or, sym, ap, subst, ◌∙◌}
use Rattle.std.proofs.lemmas.Option.{get_or_from_slice_get}
use Rattle.qz_terms.specs.declared.record.Record.{Record}
use Rattle.qz_terms.specs.Answer.{said}
use Rattle.qz_book.specs.Cursors.{AreCursors, cursor_at, followed}
use Rattle.qz_shard.specs.Holdings.{Holding}
use Rattle.qz_book.specs.Held.{IsHeld}
use Rattle.qz_book.specs.Nexts.{IsNext}
use Rattle.qz_book.proofs.CursorLemmas.{cursors-follow}
use Rattle.qz_book.proofs.Growing.{held-push}
use Rattle.qz_shard.proofs.PutLemmas.{stands-at, untold}
use Rattle.qz_shard.proofs.shard_core.ShardCore.put.Goals as goal

pub tell-requires : goal.tell-requires
tell-requires g c =
    untold c.grow.new.self c.self.inside.book c.put.new.self c.args.made (length c.as_slice-place.result.now) c.in_ok-put.ensures.put.put
    (ap (λ (l : List Record). length l) c.as_slice-place.ensures) (c.grow.ensures.kept c.self.inside.book c.self.invariant.keyed) c.in_ok-grow.ensures.room c.requires.next.kept c.requires.next.asked

pub invariant_of-self-2 : goal.invariant_of-self-2
invariant_of-self-2 g c =
    let next : IsNext c.self.inside.index c.self.inside.count c.self.inside.book c.args.made = subst (λ (s : Holding). IsNext s.index s.count s.records c.args.made) (sym c.self.view_is) c.requires.next in
    let at = stands-at c.self.inside.book c.put.new.self c.args.made (length c.as_slice-place.result.now) c.in_ok-put.ensures.put.put (ap (λ (l : List Record). length l) c.as_slice-place.ensures) in
    let r = c.index-as_slice-place.result in
    let place = length c.as_slice-place.result.now in
    let item : r ≡ get_or c.put.new.self place r = subst (λ (l : List Record). r ≡ get_or l place r) c.as_slice.ensures c.index-as_slice-place.is in
    let made : r ≡ c.args.made = item ∙ get_or_from_slice_get c.put.new.self place c.args.made r at in
    let followed-made : (q job : ℕ) → cursor_at c.follow.new.self q job ≡ followed c.args.made q job (cursor_at c.self.inside.cursors q job) =
    λ q job. c.follow.ensures q job ∙ ap (λ (s : Record). followed s q job (cursor_at c.self.inside.cursors q job)) made in
    record {
      held = subst (IsHeld c.self.inside.index c.self.inside.count) (sym c.in_ok-put.ensures.put.put)
          (held-push c.self.inside.index c.self.inside.count c.self.inside.book c.args.made c.self.invariant.held next c.in_ok-put.ensures.put.few);
      keyed = c.tell.ensures.keys;
      passed = subst (AreCursors c.follow.new.self) (sym c.in_ok-put.ensures.put.put)
          (cursors-follow c.self.inside.index c.self.inside.count c.self.inside.book c.args.made c.self.invariant.held.legal next.allowed.event
          c.self.inside.cursors c.follow.new.self c.self.invariant.passed followed-made);
    }

pub returns-clause-put : goal.returns-clause-put
returns-clause-put g c =
    let view : c.self.inside.book ≡ c.args.self.now.records = ap (λ (s : Holding). s.records) c.self.view_is in
    let put : c.put.new.self ≡ c.args.self.now.records ++ c.args.made ∷ [] = c.in_ok-put.ensures.put.put ∙ ap (λ (l : List Record). l ++ c.args.made ∷ []) view in
    let at = stands-at c.self.inside.book c.put.new.self c.args.made (length c.as_slice-place.result.now) c.in_ok-put.ensures.put.put (ap (λ (l : List Record). length l) c.as_slice-place.ensures) in
    record { said_so = c.tell.ensures.said c.args.made at ∙ ap (λ (l : List Record). said l c.args.made) put; put = put }
