-- Every world that possible events make of a school is right.
use Rattle.std.proofs.Common.{◌≡◌, ℕ, zero, suc, List, [], ◌∷◌, Option, Some, None, length, map, refl, sym, ap, subst}
use Rattle.std.specs.Prelude.{slice_get, unwrap_or}
use Rattle.std.proofs.lemmas.List.{length-map}
use Rattle.qz_keeper.specs.Lists.{EachMayStand}
use Rattle.qz_school.proofs.Agreeing.{all-empty}
use Rattle.qz_school.proofs.Calls.{stands_alone}
use Rattle.qz_terms.specs.declared.record.Record.{Record}
use Rattle.qz_terms.specs.Legal.{AllAgree, IsLegal, IsSchool}
use Rattle.qz_terms.specs.SchoolAnswer.{part_at}
use Rattle.qz_terms.specs.Serial.{with_list}
use Rattle.qz_schedule.specs.EverySchedule.{EverySchedule, IsRight, IsSound}
use Rattle.qz_schedule.specs.Worlds.{AllPossible, Happening, IsPossible, Mends, Stops, Turns, World, adopted_if, after, fresh_visit, lists_in, loaded, world}
use Rattle.qz_schedule.proofs.Keeping.{Good, IsVisiting, no_list}
use Rattle.qz_schedule.proofs.Lists.{at, replicate-get}
use Rattle.qz_schedule.proofs.Mending.{good-mended}
use Rattle.qz_schedule.proofs.Stopping.{empty-legal, fresh-visiting, good-stopped}
use Rattle.qz_schedule.proofs.Turning.{good-turn}

-- ---- a school that was loaded

loaded-at : (ls : List (List Record)) (k : ℕ) → at no_list (map (λ (l : List Record). with_list l) ls) k ≡ with_list (part_at ls k)
loaded-at [] k = refl
loaded-at (l ∷ ls) zero = refl
loaded-at (l ∷ ls) (suc k) = loaded-at ls k

part-by : (P : List Record → Type 0) (o : Option (List Record)) → P [] → ((h : List Record) → o ≡ Some h → P h) → P (unwrap_or o [])
part-by P None none each = none
part-by P (Some h) none each = each h refl

loaded-sound : (c : List Record) (parts : List (List Record)) (callers : ℕ) → IsSchool c parts → IsSound (length parts) (lists_in (loaded c parts callers))
loaded-sound c parts callers s = record {
  counts = length-map parts (λ (l : List Record). with_list l);
  founded = s.founded;
  records = record { without = s.records; with_doubt = tt };
  legal = λ k. subst (EachMayStand (IsLegal k (length parts))) (sym (loaded-at parts k))
      (stands_alone (IsLegal k (length parts)) (with_list (part_at parts k)) refl (part-by (IsLegal k (length parts)) (slice_get parts k) (empty-legal k (length parts)) (λ h is. s.legal k h is)));
  agree = λ k. subst (EachMayStand (AllAgree c)) (sym (loaded-at parts k)) (stands_alone (AllAgree c) (with_list (part_at parts k)) refl (part-by (AllAgree c) (slice_get parts k) (all-empty c) (λ h is. s.agree k h is)));
}

good-loaded : (c : List Record) (parts : List (List Record)) (callers : ℕ) → IsSchool c parts → Good (length parts) (loaded c parts callers)
good-loaded c parts callers s = record {
  lists = loaded-sound c parts callers s;
  visits = λ k v is. subst (IsVisiting (length parts) (lists_in (loaded c parts callers))) (replicate-get callers (fresh_visit (length parts)) v k is) (fresh-visiting (length parts) (lists_in (loaded c parts callers)));
  told = λ i t is. absurd cc;
}

-- ---- one event, and all of them

good-after : (n : ℕ) (w : World) (e : Happening) → Good n w → IsPossible w e → Good n (after w e)
good-after n w (Turns caller moment next mending choice) g possible = good-turn n w caller moment next mending choice g possible
good-after n w (Mends part adopts) g possible = good-mended n w part (adopted_if adopts) g
good-after n w (Stops kept parts) g possible = good-stopped n w kept parts g possible

good-world : (n : ℕ) (w : World) (events : List Happening) → Good n w → AllPossible w events → Good n (world w events)
good-world n w [] g possible = g
good-world n w (e ∷ events) g possible =
    good-world n (after w e) events (good-after n w e g (possible.each [] e events refl))
    (record { each = λ front d rest is. possible.each (e ∷ front) d rest (ap (λ (l : List Happening). e ∷ l) is) })

right : (n : ℕ) (w : World) → Good n w → IsRight n w
right n w g = record { lists = g.lists; seen = λ k v is. (g.visits k v is).sees.begins; told = g.told }

pub schedule_law : EverySchedule
schedule_law = record { right = λ c parts callers events school possible. right (length parts) (world (loaded c parts callers) events) (good-world (length parts) (loaded c parts callers) events (good-loaded c parts callers school) possible) }
