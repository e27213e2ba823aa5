-- What is set otherwise, with one record more.
use Rattle.std.proofs.Common.{◌≡◌, ℕ, ◌+◌, Bool, true, false, not, List, [], ◌∷◌, ◌++◌, Option, Some, None, refl, sym, ap, ◌∙◌}
use Rattle.std.specs.BTreeMap.{BTreeMap, Updates, get}
use Rattle.std.specs.Int.{from_bool}
use Rattle.std.specs.Option.{option_or}
use Rattle.std.specs.Prelude.{◌&&◌, ◌==◌, if◌then◌else◌, is_some, unwrap_or}
use Rattle.qz_terms.specs.declared.access.Override.{Override}
use Rattle.qz_terms.specs.declared.record.Record.{Record}
use Rattle.qz_terms.specs.declared.request.Request.{Request}
use Rattle.qz_terms.specs.declared.request.Request.TheVariants as request
use Rattle.qz_terms.specs.declared.request.Whom.{Whom}
use Rattle.qz_terms.specs.declared.request.Whom.TheVariants as whom
use Rattle.qz_terms.specs.Catalog.{asked, override, override_by, same_whom}
use Rattle.qz_terms.proofs.Walks.{last_of-push}
use Rattle.qz_roster.specs.declared.overrides.Overrides.{Overrides}
use Rattle.qz_roster.specs.declared.told.Target.{Target}
use Rattle.qz_roster.specs.Overrides.{AreOverrides, set_in, set_otherwise}
use Rattle.qz_room.specs.Pairs.{pair_cmp}
use Rattle.qz_room.proofs.Filled.{filled_pair}
use Rattle.qz_roster.proofs.OverrideCounts.{override_count-more, override_count-same}
use Rattle.qz_roster.proofs.Reading.{some-same}

-- whether what is set for this target is set at this quiz, for this user or group
abbrev pub is_at : Target → ℕ → Whom → ℕ → Bool
is_at t q w n = (t.quiz == q) && (same_whom t.whom w && (t.number == n))

-- ---- one record

told-by : (o : Option Request) (q : ℕ) (w : Whom) (n : ℕ) (t : Target) (set : Override) → set_otherwise o ≡ Some (t, set) → override_by q w n o ≡ (if is_at t q w n then Some set else None)
told-by (Some (request.Override quiz v number opens closes limit allowed)) q w n t set is =
    ap (λ (p : Target × Override). if is_at p.0 q w n then Some p.1 else None) (some-same (record { quiz = quiz; whom = v; number = number }, record { opens = opens; closes = closes; limit = limit; allowed = allowed }) (t, set) is)
told-by (Some x) q w n t set is = absurd cc
told-by None q w n t set is = absurd cc

untold-by : (o : Option Request) (q : ℕ) (w : Whom) (n : ℕ) → set_otherwise o ≡ None → override_by q w n o ≡ None
untold-by (Some (request.Override quiz v number opens closes limit allowed)) q w n is = absurd cc
untold-by (Some x) q w n is = refl
untold-by None q w n is = refl

override-push : (c : List Record) (r : Record) (q : ℕ) (w : Whom) (n : ℕ) → override (c ++ r ∷ []) q w n ≡ option_or (override_by q w n (asked r)) (override c q w n)
override-push c r q w n = last_of-push (λ s. override_by q w n (asked s)) c r

pub overrides-same : (c : List Record) (r : Record) (o : Overrides) → AreOverrides c o → set_otherwise (asked r) ≡ None → AreOverrides (c ++ r ∷ []) o
overrides-same c r o are told = record {
  each = λ q w n. are.each q w n ∙ sym (override-push c r q w n ∙ ap (λ (s : Option Override). option_or s (override c q w n)) (untold-by (asked r) q w n told));
  count = are.count ∙ sym (override_count-same c r told);
}

-- ---- what it changes

-- this is set for a target, and nothing else that is set is changed
pub record IsSet (old new : Overrides) (t : Target) (set : Override) : Type 0 where
  pub each : (q : ℕ) (w : Whom) (n : ℕ) → set_in new q w n ≡ (if is_at t q w n then Some set else set_in old q w n)

none-other : {A : Type 0} (a b : Bool) (x y : A) → (if a && (false && b) then x else y) ≡ y
none-other true b x y = refl
none-other false b x y = refl

pub user-set : (old new : Overrides) (t : Target) (set : Override) → t.whom ≡ whom.User → Updates pair_cmp old.users new.users (t.quiz, t.number) (Some (Some set)) → new.groups ≡ old.groups → IsSet old new t set
user-set old new t set is u same = record { each = λ q w n. by q w n ∙ ap (λ (v : Whom). if (t.quiz == q) && (same_whom v w && (t.number == n)) then Some set else set_in old q w n) (sym is) }
  where
    by : (q : ℕ) (w : Whom) (n : ℕ) → set_in new q w n ≡ (if (t.quiz == q) && (same_whom whom.User w && (t.number == n)) then Some set else set_in old q w n)
    by q whom.User n = filled_pair old.users new.users (t.quiz, t.number) (Some set) None (q, n) u
    by q whom.Group n = ap (λ (m : BTreeMap (ℕ × ℕ) (Option Override)). unwrap_or (get pair_cmp m (q, n)) None) same ∙ sym (none-other (t.quiz == q) (t.number == n) (Some set) (set_in old q whom.Group n))

pub group-set : (old new : Overrides) (t : Target) (set : Override) → t.whom ≡ whom.Group → Updates pair_cmp old.groups new.groups (t.quiz, t.number) (Some (Some set)) → new.users ≡ old.users → IsSet old new t set
group-set old new t set is u same = record { each = λ q w n. by q w n ∙ ap (λ (v : Whom). if (t.quiz == q) && (same_whom v w && (t.number == n)) then Some set else set_in old q w n) (sym is) }
  where
    by : (q : ℕ) (w : Whom) (n : ℕ) → set_in new q w n ≡ (if (t.quiz == q) && (same_whom whom.Group w && (t.number == n)) then Some set else set_in old q w n)
    by q whom.User n = ap (λ (m : BTreeMap (ℕ × ℕ) (Option Override)). unwrap_or (get pair_cmp m (q, n)) None) same ∙ sym (none-other (t.quiz == q) (t.number == n) (Some set) (set_in old q whom.User n))
    by q whom.Group n = filled_pair old.groups new.groups (t.quiz, t.number) (Some set) None (q, n) u

either : (b : Bool) (set : Override) (o : Option Override) → (if b then Some set else o) ≡ option_or (if b then Some set else None) o
either true set o = refl
either false set o = refl

pub overrides-kept : (c : List Record) (r : Record) (old new : Overrides) (t : Target) (set : Override) (first : Bool) → AreOverrides c old → set_otherwise (asked r) ≡ Some (t, set) → IsSet old new t set → is_some (override c t.quiz t.whom t.number) ≡ not first → new.count ≡ old.count + from_bool first → AreOverrides (c ++ r ∷ []) new
overrides-kept c r old new t set first are told sets is counted = record {
  each = λ q w n.
      sets.each q w n
      ∙ ap (λ (o : Option Override). if is_at t q w n then Some set else o) (are.each q w n)
      ∙ either (is_at t q w n) set (override c q w n)
      ∙ sym (override-push c r q w n ∙ ap (λ (o : Option Override). option_or o (override c q w n)) (told-by (asked r) q w n t set told));
  count = counted ∙ override_count-more c r old t set first are told is;
}
