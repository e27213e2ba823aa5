-- What holds of every world in which callers are at their turns, and what keeps it.
use mathlib.Core.List.{IsPrefix}
use Rattle.std.proofs.Common.{◌≡◌, inl, inr, ℕ, ◌+◌, true, List, [], ◌∷◌, ◌++◌, Option, Some, None, length, refl, ap, ◌∙◌, subst}
use Rattle.std.specs.Prelude.{filter_map, slice_get, slice_set}
use Rattle.std.proofs.lemmas.List.{length-set}
use Rattle.std.proofs.lemmas.List.Elements.{filter_map-append}
use Rattle.qz_keeper.specs.Lists.{EachMayStand}
use Rattle.qz_school.proofs.Agreeing.{all-longer}
use Rattle.qz_school.proofs.Calls.{stand_as}
use Rattle.qz_school.proofs.Keepers.{get_set}
use Rattle.qz_terms.specs.declared.ask.Ask.{Ask}
use Rattle.qz_terms.specs.declared.record.Record.{Record}
use Rattle.qz_terms.specs.declared.reply.Reply.{Reply}
use Rattle.qz_terms.specs.Catalog.{founded_by, shards}
use Rattle.qz_terms.specs.Legal.{AllAgree, IsLegal, IsLegalCatalog}
use Rattle.qz_terms.specs.Lists.{first_of}
use Rattle.qz_terms.specs.Serial.{Held, Lists, held_in}
use Rattle.qz_terms.proofs.Readings.{first_of-append}
use Rattle.qz_schedule.specs.EverySchedule.{Begin, IsAnswerOver, IsSound}
use Rattle.qz_schedule.specs.Worlds.{Stage, Told, Visit, World, ended_visit, goes_on_with, held_at, is_formed, lists_in, replied, stages, with_held, with_visit}
use Rattle.qz_schedule.proofs.Knowing.{Ready}
use Rattle.qz_schedule.proofs.Lists.{begins-on, get-push, set-each, whole-begins}

-- ---- a caller

-- what a caller has seen begins the lists
pub record Sees (n : ℕ) (a : Lists) (v : Visit) : Type 0 where
  pub begins : Begin a v.records v.parts
  pub counts : length v.parts ≡ n

-- a caller who is in no ask
pub record Rests (v : Visit) : Type 0 where
  pub user : v.user ≡ None
  pub made : v.made ≡ 0
  pub rows : v.rows ≡ []

-- a caller who is in an ask knows what the next turn needs
pub record IsIn (n : ℕ) (v : Visit) (ask : Ask) : Type 0 where
  pub formed : is_formed ask ≡ true
  pub next : (s : Stage) → slice_get (stages n ask) v.made ≡ Some s → Ready n v ask s

abbrev pub Stands : ℕ → Visit → Option Ask → Type 0
Stands n v None = Rests v
Stands n v (Some ask) = IsIn n v ask

pub record IsVisiting (n : ℕ) (a : Lists) (v : Visit) : Type 0 where
  pub sees : Sees n a v
  pub stands : Stands n v v.ask

pub record Good (n : ℕ) (w : World) : Type 0 where
  pub lists : IsSound n (lists_in w)
  pub visits : (k : ℕ) (v : Visit) → slice_get w.visits k ≡ Some v → IsVisiting n (lists_in w) v
  pub told : (i : ℕ) (t : Told) → slice_get w.told i ≡ Some t → IsAnswerOver (lists_in w) t

-- ---- lists that grow

pub record Longer (a b : Lists) : Type 0 where
  pub records : IsPrefix a.records.list b.records.list
  pub each : (k : ℕ) → IsPrefix (held_in a (Some k)).list (held_in b (Some k)).list

pub begin-on : (a b : Lists) (c : List Record) (ps : List (List Record)) → Longer a b → Begin a c ps → Begin b c ps
begin-on a b c ps more s = record {
  records = begins-on c a.records.list b.records.list s.records more.records;
  each = λ k. begins-on _ (held_in a (Some k)).list (held_in b (Some k)).list (s.each k) (more.each k);
}

pub sees-on : (n : ℕ) (a b : Lists) (v : Visit) → Longer a b → Sees n a v → Sees n b v
sees-on n a b v more s = record { begins = begin-on a b v.records v.parts more s.begins; counts = s.counts }

visiting-on : (n : ℕ) (a b : Lists) (v : Visit) → Longer a b → IsVisiting n a v → IsVisiting n b v
visiting-on n a b v more i = record { sees = sees-on n a b v more i.sees; stands = i.stands }

pub answer-on : (a b : Lists) (t : Told) → Longer a b → IsAnswerOver a t → IsAnswerOver b t
answer-on a b t more i = record { seen = begin-on a b t.records t.parts more i.seen; answer = i.answer }

pub founded-on : (c d : List Record) (n : ℕ) → IsPrefix c d → shards c ≡ Some n → shards d ≡ Some n
founded-on c d n p is =
    subst (λ (l : List Record). shards l ≡ Some n) p.1
    (ap first_of (filter_map-append (λ (r : Record). founded_by r.event) c p.0) ∙ first_of-append (filter_map (λ (r : Record). founded_by r.event) c) (filter_map (λ (r : Record). founded_by r.event) p.0) n is)

pub agree-on : (c d h : List Record) → IsPrefix c d → AllAgree c h → AllAgree d h
agree-on c d h p all = subst (λ (l : List Record). AllAgree l h) p.1 (all-longer c p.0 h all)

-- ---- one list exchanged

abbrev pub no_list : Held
no_list = record { list = []; doubt = None }

abbrev pub with_records : Lists → Held → Lists
with_records a new = record { records = new; parts = a.parts }

abbrev pub with_part : Lists → ℕ → Held → Lists
with_part a k new = record { records = a.records; parts = slice_set a.parts k new }

pub longer-records : (a : Lists) (new : Held) → IsPrefix a.records.list new.list → Longer a (with_records a new)
longer-records a new more = record { records = more; each = λ k. whole-begins (held_in a (Some k)).list }

pub longer-part : (a : Lists) (k : ℕ) (new : Held) → IsPrefix (held_in a (Some k)).list new.list → Longer a (with_part a k new)
longer-part a k new more = record {
  records = whole-begins a.records.list;
  each = λ j. set-each no_list (λ i h. IsPrefix (held_in a (Some i)).list h.list) a.parts k j new more (whole-begins (held_in a (Some j)).list);
}

sound-records : (n : ℕ) (a : Lists) (new : Held) → IsSound n a → IsPrefix a.records.list new.list → EachMayStand IsLegalCatalog new → IsSound n (with_records a new)
sound-records n a new s more legal = record {
  counts = s.counts;
  founded = founded-on a.records.list new.list n more s.founded;
  records = legal;
  legal = s.legal;
  agree = λ k. stand_as (AllAgree new.list) (AllAgree a.records.list) (held_in a (Some k)) (λ h all. agree-on a.records.list new.list h more all) (s.agree k);
}

sound-part : (n : ℕ) (a : Lists) (k : ℕ) (new : Held) → IsSound n a → EachMayStand (IsLegal k n) new → EachMayStand (AllAgree a.records.list) new → IsSound n (with_part a k new)
sound-part n a k new s legal agree = record {
  counts = length-set a.parts k new ∙ s.counts;
  founded = s.founded;
  records = s.records;
  legal = λ j. set-each no_list (λ i h. EachMayStand (IsLegal i n) h) a.parts k j new legal (s.legal j);
  agree = λ j. set-each no_list (λ i h. EachMayStand (AllAgree a.records.list) h) a.parts k j new agree (s.agree j);
}

-- the world with other lists, which go on from its own
moved : (n : ℕ) (w : World) (b : Lists) → Good n w → Longer (lists_in w) b → IsSound n b → Good n (record w { records = b.records; parts = b.parts })
moved n w b g more s = record {
  lists = s;
  visits = λ k v is. visiting-on n (lists_in w) b v more (g.visits k v is);
  told = λ i t is. answer-on (lists_in w) b t more (g.told i t is);
}

pub good-records : (n : ℕ) (w : World) (new : Held) → Good n w → IsPrefix w.records.list new.list → EachMayStand IsLegalCatalog new → Good n (with_held w None new)
good-records n w new g more legal = moved n w (with_records (lists_in w) new) g (longer-records (lists_in w) new more) (sound-records n (lists_in w) new g.lists more legal)

pub good-part : (n : ℕ) (w : World) (k : ℕ) (new : Held) → Good n w → IsPrefix (held_at w (Some k)).list new.list → EachMayStand (IsLegal k n) new → EachMayStand (AllAgree w.records.list) new → Good n (with_held w (Some k) new)
good-part n w k new g more legal agree = moved n w (with_part (lists_in w) k new) g (longer-part (lists_in w) k new more) (sound-part n (lists_in w) k new g.lists legal agree)

-- ---- a caller's turn

set-visit : (n : ℕ) (w : World) (k : ℕ) (v : Visit) → Good n w → IsVisiting n (lists_in w) v → (j : ℕ) (u : Visit) → slice_get (slice_set w.visits k v) j ≡ Some u → IsVisiting n (lists_in w) u
set-visit n w k v g i j u is = elim (get_set w.visits k j v u is) [
  | inl both ↦ subst (IsVisiting n (lists_in w)) both.1 i
  | inr old ↦ g.visits j u old
]

pub good-visit : (n : ℕ) (w : World) (k : ℕ) (v : Visit) → Good n w → IsVisiting n (lists_in w) v → Good n (with_visit w k v)
good-visit n w k v g i = record { lists = g.lists; visits = set-visit n w k v g i; told = g.told }

pub ended-visiting : (n : ℕ) (a : Lists) (v : Visit) → Sees n a v → IsVisiting n a (ended_visit v)
ended-visiting n a v s = record {
  sees = record { begins = s.begins; counts = s.counts };
  stands = record { user = refl; made = refl; rows = refl };
}

set-told : (w : World) (t : Told) → ((i : ℕ) (u : Told) → slice_get w.told i ≡ Some u → IsAnswerOver (lists_in w) u) → IsAnswerOver (lists_in w) t
    → (i : ℕ) (u : Told) → slice_get (w.told ++ t ∷ []) i ≡ Some u → IsAnswerOver (lists_in w) u
set-told w t before now i u is = elim (get-push w.told t u i is) [
  | inl old ↦ before i u old
  | inr same ↦ subst (IsAnswerOver (lists_in w)) same now
]

-- the ask ends with a reply
pub good-replied : (n : ℕ) (w : World) (k moment : ℕ) (ask : Ask) (before after : Visit) (r : Reply) → Good n w → Sees n (lists_in w) after
    → IsAnswerOver (lists_in w) (record { caller = k; ask = ask; moment = moment; reply = r; records = before.records; parts = before.parts }) → Good n (replied w k moment ask before after r)
good-replied n w k moment ask before after r g s t = record {
  lists = g.lists;
  visits = set-visit n w k (ended_visit after) g (ended-visiting n (lists_in w) after s);
  told = set-told w (record { caller = k; ask = ask; moment = moment; reply = r; records = before.records; parts = before.parts }) g.told t;
}

-- the ask goes on
pub good-goes-on : (n : ℕ) (w : World) (k : ℕ) (ask : Ask) (v : Visit) → Good n w → Sees n (lists_in w) v → IsIn n (record v { ask = Some ask; made = v.made + 1 }) ask → Good n (goes_on_with w k ask v)
good-goes-on n w k ask v g s i =
    good-visit n w k (record v { ask = Some ask; made = v.made + 1 }) g (record { sees = record { begins = s.begins; counts = s.counts }; stands = i })
