use Rattle.std.proofs.Common.{◌≡◌, List, [], ◌∷◌, ◌++◌, Some, length, ap, sym, subst, ◌∙◌, arith}
use Rattle.std.specs.Prelude.{slice_get}
use Rattle.qz_terms.specs.declared.record.Record.{Record}
use Rattle.qz_roster.specs.Roster.{IsRosterOf}
use Rattle.qz_catalog.specs.Holdings.{ArePinned, AreShown, IsHeld, IsShownBy}
use Rattle.qz_catalog.proofs.PinLemmas.{pinned-push}
use Rattle.qz_catalog.proofs.ShownLemmas.{put-at, shown-push}
use Rattle.qz_catalog.proofs.putting.append.Goals as goal

pub returns-clause-book : goal.returns-clause-book
returns-clause-book c =
    let old = c.args.book.now.records.items in
    let r = c.args.record in
    let number = c.last_number-number.result in
    let items : c.push.new.self.items ≡ old ++ r ∷ [] = rw c.unwrap.ensures at c.push.ensures.items in
    let numbers : c.push-2.new.self.items ≡ c.args.book.now.shown.items ++ number ∷ [] = rw c.unwrap-2.ensures at c.push-2.ensures.items in
    let place : c.len-at.result ≡ length old = let long = c.len-at.ensures in omega arith in
    let found : slice_get c.push.new.self.items c.len-at.result ≡ Some r = put-at old c.push.new.self.items r c.len-at.result items place in
    record {
      indexed = record {
        held = subst (λ (l : List Record). IsHeld l c.change.new.entries) (sym items) (subst (IsHeld (old ++ r ∷ [])) (sym c.change.ensures) c.requires.ready.held);
        roster = subst (λ (l : List Record). IsRosterOf l c.keep.new.self) (ap (λ (l : List Record). l ++ r ∷ []) c.deref.ensures.value ∙ sym items) c.keep.ensures;
      };
      shown = subst (λ (l : List Record). AreShown l c.push-2.new.self.items) (sym items) (subst (AreShown (old ++ r ∷ [])) (sym numbers)
          (shown-push old c.args.book.now.shown.items r number c.requires.ready.shown (λ x asks. subst (λ (l : List Record). IsShownBy l x number) items (c.last_number-number.ensures x r found asks))));
      pinned = subst (λ (l : List Record). ArePinned l c.keep_pin.new.pinned.items) (sym items) (subst (ArePinned (old ++ r ∷ [])) (sym c.keep_pin.ensures) (pinned-push old r c.args.book.now.pinned.items c.args.pin c.requires.ready.pinned c.requires.pin));
    }
