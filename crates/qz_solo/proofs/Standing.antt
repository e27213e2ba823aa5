-- What a school keeps, as its lists change.
use Rattle.std.proofs.Common.{◌≡◌, inl, inr, ℕ, ◌<◌, ◌%◌, true, List, ◌++◌, Some, Result, Err, length, get_or, refl, sym, ap, ◌∙◌, subst, eq-eqb}
use Rattle.std.specs.Prelude.{filter_map, slice_get, slice_set}
use Rattle.std.proofs.lemmas.List.{length-map, length-set, map-set}
use Rattle.std.proofs.lemmas.List.Elements.{filter_map-append}
use Rattle.std.proofs.lemmas.Option.{slice_get-map, slice_get_read}
use Rattle.qz_catalog.specs.Keeping as records
use Rattle.qz_grading.specs.declared.refusal.AttemptId.{AttemptId}
use Rattle.qz_grading.specs.declared.refusal.Refusal.{Refusal}
use Rattle.qz_keeper.specs.Lists.{EachMayStand, Looks, OneCall}
use Rattle.qz_keeper.specs.Recording.{HasFailed}
use Rattle.qz_shard.specs.Keeping as part
use Rattle.qz_terms.specs.declared.ask.Ask.{Ask}
use Rattle.qz_terms.specs.declared.people.User.{User}
use Rattle.qz_terms.specs.declared.record.Record.{Record}
use Rattle.qz_terms.specs.declared.reply.Reply.{Reply}
use Rattle.qz_terms.specs.declared.reply.Reply.TheVariants as reply
use Rattle.qz_terms.specs.Catalog as catalog
use Rattle.qz_terms.specs.Legal.{AllAgree, is_here}
use Rattle.qz_terms.specs.Lists.{first_of}
use Rattle.qz_terms.specs.Serial.{Held, Lists}
use Rattle.qz_terms.proofs.Readings.{first_of-append}
use Rattle.qz_school.proofs.Agreeing.{all-longer}
use Rattle.qz_serial.proofs.Growing.{Grows, grown_records}
use Rattle.qz_serial.proofs.Seats.{set_get}
use Rattle.qz_serial.specs.Paths.{with_both, with_part, with_records}
use Rattle.qz_school.specs.Answering.{PartAnswers, PartLooks}
use Rattle.qz_school.specs.Solos.{IsSolo, School, held_of, lists_in}
use Rattle.qz_school.proofs.Calls.{call_grows, look_grows, look_stands, stand_as}
use Rattle.qz_school.proofs.Keepers.{get_set}

-- ---- one shard

-- the shard that stands at an index
pub part_there : {K : Type 0} (ss : List (part.Keeping K)) (k : ℕ) (s : part.Keeping K) → k < length ss → s ≡ get_or ss k s → slice_get ss k ≡ Some s
part_there ss k s inside is = slice_get_read ss (length ss) k s refl inside is

pub held_there : {K : Type 0} (ss : List (part.Keeping K)) (k : ℕ) (s : part.Keeping K) → slice_get ss k ≡ Some s → slice_get (held_of ss) k ≡ Some s.held
held_there ss k s is = slice_get-map (λ t. t.held) ss k ∙ rw is refl

pub count_held : {K : Type 0} (ss : List (part.Keeping K)) → length (held_of ss) ≡ length ss
count_held ss = length-map ss (λ t. t.held)

pub held_set : {K : Type 0} (ss : List (part.Keeping K)) (k : ℕ) (s : part.Keeping K) → held_of (slice_set ss k s) ≡ slice_set (held_of ss) k s.held
held_set ss k s = map-set (λ t. t.held) ss k s

-- a user whose number modulo the number of shards is the index belongs to it
pub here_there : {K : Type 0} (c : records.Keeping K) (ss : List (part.Keeping K)) (k u : ℕ) (s : part.Keeping K) → IsSolo c ss → slice_get ss k ≡ Some s → u % length ss ≡ k → is_here s.index s.count u ≡ true
here_there c ss k u s solo is same =
    let place = solo.placed.each k s is in
    rw (place.0, place.1) (eq-eqb (u % length ss) k same)

-- ---- the lists of a school that has changed

pub lists_records : {K : Type 0} (c d : records.Keeping K) (ss : List (part.Keeping K)) → let a : School K = record { catalog = c; parts = ss } in let b : School K = record { catalog = d; parts = ss } in lists_in b ≡ with_records (lists_in a) d.held
lists_records c d ss = refl

pub lists_part : {K : Type 0} (c : records.Keeping K) (ss : List (part.Keeping K)) (k : ℕ) (g : part.Keeping K) → let a : School K = record { catalog = c; parts = ss } in let b : School K = record { catalog = c; parts = slice_set ss k g } in lists_in b ≡ with_part (lists_in a) k g.held
lists_part c ss k g = ap (λ (ps : List Held). let l : Lists = record { records = c.held; parts = ps } in l) (held_set ss k g)

pub lists_both : {K : Type 0} (c d : records.Keeping K) (ss : List (part.Keeping K)) (k : ℕ) (g : part.Keeping K) → let a : School K = record { catalog = c; parts = ss } in let b : School K = record { catalog = d; parts = slice_set ss k g } in lists_in b ≡ with_both (lists_in a) d.held k g.held
lists_both c d ss k g = ap (λ (ps : List Held). let l : Lists = record { records = d.held; parts = ps } in l) (held_set ss k g)

-- ---- a shard that has changed

pub changed_part : {K : Type 0} (c : records.Keeping K) (ss : List (part.Keeping K)) (k : ℕ) (s g : part.Keeping K) → IsSolo c ss → slice_get ss k ≡ Some s → part.IsSamePart s g → EachMayStand (AllAgree c.held.list) g.held → IsSolo c (slice_set ss k g)
changed_part c ss k s g solo is same agree =
    let place = solo.placed.each k s is in
    let count = length-set ss k g in
    record {
      some = rw count solo.some;
      placed = record {
        each = λ j t at. elim (get_set ss k j g t at) [
          | inl here ↦ subst (λ x. (x.index ≡ j) × (x.count ≡ length (slice_set ss k g))) here.1 (same.index ∙ (place.0 ∙ sym here.0), same.count ∙ (place.1 ∙ sym count))
          | inr other ↦ let p = solo.placed.each j t other in (p.0, p.1 ∙ sym count)
        ];
      };
      founded = solo.founded ∙ ap (λ (n : ℕ). Some n) (sym count);
      agree = record {
        each = λ j t at. elim (get_set ss k j g t at) [
          | inl here ↦ subst (λ x. EachMayStand (AllAgree c.held.list) x.held) here.1 agree
          | inr other ↦ solo.agree.each j t other
        ];
      };
    }

-- ---- a catalogue that has grown

pub shards_append : (c rest : List Record) (n : ℕ) → catalog.shards c ≡ Some n → catalog.shards (c ++ rest) ≡ Some n
shards_append c rest n is = ap first_of (filter_map-append _ c rest) ∙ first_of-append (filter_map _ c) (filter_map _ rest) n is

pub agree_longer : (c d h : List Record) → Grows c d → AllAgree c h → AllAgree d h
agree_longer c d h grown all = subst (λ (l : List Record). AllAgree l h) (sym grown.grown) (all-longer c grown.rest h all)

pub grown_solo : {K : Type 0} (c d : records.Keeping K) (ss : List (part.Keeping K)) → IsSolo c ss → Grows c.held.list d.held.list → IsSolo d ss
grown_solo c d ss solo grown = record {
  some = solo.some;
  placed = solo.placed;
  founded = subst (λ (l : List Record). catalog.shards l ≡ Some (length ss)) (sym grown.grown) (shards_append c.held.list grown.rest (length ss) solo.founded);
  agree = record { each = λ k s at. stand_as (AllAgree d.held.list) (AllAgree c.held.list) s.held (λ h all. agree_longer c.held.list d.held.list h grown all) (solo.agree.each k s at) };
}

-- a shard that was only looked at
pub looked_part : {K : Type 0} (sound : K → Type 0) (faults : K → ℕ) (c : records.Keeping K) (ss : List (part.Keeping K)) (k : ℕ) (s g : part.Keeping K) (Says : List Record → Reply → Type 0) (told : Reply) → IsSolo c ss → slice_get ss k ≡ Some s → PartAnswers sound faults (Looks Says) s g told → IsSolo c (slice_set ss k g)
looked_part sound faults c ss k s g Says told solo is call =
    changed_part c ss k s g solo is call.same (look_stands (HasFailed (sound s.keeper) (faults s.keeper) (faults g.keeper)) reply.Refused Says (AllAgree c.held.list) s.held g.held told (solo.agree.each k s is) call.call)

-- a catalogue that was only looked at
pub looked_records : {K A : Type 0} (failed : Type 0) (c d : records.Keeping K) (ss : List (part.Keeping K)) (refused : Refusal → A) (Says : List Record → A → Type 0) (told : A) → IsSolo c ss → OneCall failed refused (Looks Says) c.held d.held told → IsSolo d ss
looked_records failed c d ss refused Says told solo call = grown_solo c d ss solo (look_grows failed refused Says c.held d.held told call)

-- a catalogue that answered
pub told_records : {K : Type 0} (failed : Type 0) (c d : records.Keeping K) (ss : List (part.Keeping K)) (now : ℕ) (user : User) (ask : Ask) (told : Reply) → IsSolo c ss → OneCall failed reply.Refused (records.IsTold now user ask) c.held d.held told → IsSolo d ss
told_records failed c d ss now user ask told solo call =
    grown_solo c d ss solo (call_grows failed reply.Refused (records.IsTold now user ask) c.held d.held told (λ h t g is. let more = grown_records h now user ask in record { rest = more.rest; grown = is.list ∙ more.grown }) call)

-- a shard that was looked at for an attempt
pub looked_quiz : {K : Type 0} (sound : K → Type 0) (faults : K → ℕ) (c : records.Keeping K) (ss : List (part.Keeping K)) (k : ℕ) (s m : part.Keeping K) (a : AttemptId) (told : Result ℕ Refusal) → IsSolo c ss → slice_get ss k ≡ Some s → PartLooks sound faults (part.TellsQuiz a) s m told → IsSolo c (slice_set ss k m)
looked_quiz sound faults c ss k s m a told solo is call =
    changed_part c ss k s m solo is call.same (look_stands (HasFailed (sound s.keeper) (faults s.keeper) (faults m.keeper)) (λ r. Err r) (part.TellsQuiz a) (AllAgree c.held.list) s.held m.held told (solo.agree.each k s is) call.call)

pub set_there : {K : Type 0} (ss : List (part.Keeping K)) (k : ℕ) (s m : part.Keeping K) → slice_get ss k ≡ Some s → slice_get (slice_set ss k m) k ≡ Some m
set_there ss k s m is = set_get ss k s m is

pub same_through : {K : Type 0} (s m g : part.Keeping K) → part.IsSamePart s m → part.IsSamePart m g → part.IsSamePart s g
same_through s m g one other = record { index = other.index ∙ one.index; count = other.count ∙ one.count }
