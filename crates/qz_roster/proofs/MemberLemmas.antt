-- Members with one record more.
use Rattle.std.proofs.Common.{◌≡◌, ℕ, Bool, true, false, List, [], ◌∷◌, ◌++◌, Option, Some, None, refl, sym, ap, ◌∙◌}
use Rattle.std.specs.BTreeMap.{Updates}
use Rattle.std.specs.Prelude.{◌&&◌, ◌||◌, ◌==◌, if◌then◌else◌}
use Rattle.std.proofs.lemmas.List.Folds.{list_any-append}
use Rattle.qz_terms.specs.declared.record.Record.{Record}
use Rattle.qz_terms.specs.declared.request.Request.{Request}
use Rattle.qz_terms.specs.declared.request.Request.TheVariants as request
use Rattle.qz_terms.specs.Catalog.{asked, is_member, joins_by}
use Rattle.qz_roster.specs.declared.members.Members.{Members}
use Rattle.qz_roster.specs.Members.{AreMembers, joined}
use Rattle.qz_room.specs.Pairs.{pair_cmp}
use Rattle.qz_room.proofs.Filled.{filled_pair}
use Rattle.qz_roster.proofs.Reading.{some-same}

or-false : (a b : Bool) → (a || (b || false)) ≡ (if b then true else a)
or-false true true = refl
or-false true false = refl
or-false false true = refl
or-false false false = refl

is_member-push : (c : List Record) (r : Record) (g u : ℕ) → is_member (c ++ r ∷ []) g u ≡ (if joins_by g u (asked r) then true else is_member c g u)
is_member-push c r g u = list_any-append (λ s. joins_by g u (asked s)) c (r ∷ []) ∙ or-false (is_member c g u) (joins_by g u (asked r))

joins-told : (o : Option Request) (g u : ℕ) (m : ℕ × ℕ) → joined o ≡ Some m → joins_by g u o ≡ ((m.0 == g) && (m.1 == u))
joins-told (Some (request.Member a b)) g u m is = ap (λ (p : ℕ × ℕ). (p.0 == g) && (p.1 == u)) (some-same (a, b) m is)
joins-told (Some x) g u m is = absurd cc
joins-told None g u m is = absurd cc

pub members-kept : (c : List Record) (r : Record) (old new : Members) (m : ℕ × ℕ) → AreMembers c old → joined (asked r) ≡ Some m → Updates pair_cmp old.joined new.joined m (Some true) → AreMembers (c ++ r ∷ []) new
members-kept c r old new m are told u = record {
  each = λ g n.
      filled_pair old.joined new.joined m true false (g, n) u
      ∙ ap (λ (b : Bool). if (m.0 == g) && (m.1 == n) then true else b) (are.each g n)
      ∙ sym (is_member-push c r g n ∙ ap (λ (b : Bool). if b then true else is_member c g n) (joins-told (asked r) g n m told));
}
