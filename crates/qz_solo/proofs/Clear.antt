-- Lists of which no record is in doubt, and stays so where no keeper fails.
use Rattle.std.proofs.Common.{◌≡◌, inl, inr, ℕ, suc, ◌%◌, Bool, true, false, List, [], ◌∷◌, Option, Some, None, length, refl, sym, ap, ◌∙◌, subst}
use Rattle.std.specs.List.{AllZip}
use Rattle.std.specs.Prelude.{if◌then◌else◌, slice_get, slice_set}
use Rattle.qz_catalog.specs.Keeping as records
use Rattle.qz_grading.specs.declared.refusal.Refusal.TheVariants as refusal
use Rattle.qz_shard.specs.Keeping as part
use Rattle.qz_terms.specs.declared.ask.Ask.{Ask}
use Rattle.qz_terms.specs.declared.record.Record.{Record}
use Rattle.qz_terms.specs.declared.reply.Reply.{Reply}
use Rattle.qz_terms.specs.declared.reply.Reply.TheVariants as reply
use Rattle.qz_terms.specs.SchoolAnswer.{catalog_list, shard_list}
use Rattle.qz_terms.specs.Serial.{AllMended, Held, Lists, Mended, Turn, answered, lists_over, no_memory, part_list, part_read, parts_over, put_in_doubt, reads_catalog, stayed_in_doubt, with_list}
use Rattle.qz_serial.specs.Once.{AskedOnce}
use Rattle.qz_serial.specs.Paths.{with_part}
use Rattle.qz_serial.proofs.Composing.{mended_same}
use Rattle.qz_serial.proofs.Seats.{set_same}
use Rattle.qz_school.specs.Answering.{IsServed}
use Rattle.qz_solo.specs.Memory.{AreClear, is_memory}
use Rattle.qz_school.specs.Solos.{AreSound, School, held_of, lists_in}
use Rattle.qz_school.proofs.Keepers.{fails_in_all, get_set}
use Rattle.qz_solo.proofs.Standing.{held_there, lists_part}

-- ---- a mending of them does nothing

parts-same : (ps ks : List Held) → ((k : ℕ) (h : Held) → slice_get ps k ≡ Some h → h.doubt ≡ None) → AllZip Mended ps ks → ks ≡ ps
parts-same [] [] clear all = refl
parts-same [] (k ∷ ks) clear all = absurd all
parts-same (p ∷ ps) [] clear all = absurd all
parts-same (p ∷ ps) (k ∷ ks) clear all = ap (λ (x : Held). x ∷ ks) (mended_same p k all.0 (clear 0 p refl)) ∙ ap (λ (l : List Held). p ∷ l) (parts-same ps ks (λ n h is. clear (suc n) h is) all.1)

mended-clear : (a m : Lists) → AreClear a → AllMended a m → m ≡ a
mended-clear a m clear all =
    ap (λ (h : Held). let l : Lists = record { records = h; parts = m.parts } in l) (mended_same a.records m.records all.records clear.records)
    ∙ ap (λ (hs : List Held). let l : Lists = record { records = a.records; parts = hs } in l) (parts-same a.parts m.parts clear.parts all.parts)

-- ---- a request leaves none in doubt

over-records : (b : Bool) (l : List Record) (h : Held) → h.doubt ≡ None → (if b then with_list l else h).doubt ≡ None
over-records true l h clear = refl
over-records false l h clear = clear

over-parts : (a : Lists) (now : ℕ) (ask : Ask) (o : Option ℕ) → AreClear a → (k : ℕ) (h : Held) → slice_get (parts_over a now ask o) k ≡ Some h → h.doubt ≡ None
over-parts a now ask None clear k h is = clear.parts k h is
over-parts a now ask (Some n) clear k h is = elim (get_set a.parts n k (with_list (shard_list a.records.list (part_list a n) now ask)) h is) [
  | inl here ↦ ap (λ (x : Held). x.doubt) (sym here.1)
  | inr other ↦ clear.parts k h other
]

clear-over : (a : Lists) (now : ℕ) (ask : Ask) → AreClear a → AreClear (lists_over a now ask)
clear-over a now ask clear = record {
  records = over-records (reads_catalog a ask) (catalog_list a.records.list now ask) a.records clear.records;
  parts = over-parts a now ask (part_read a ask) clear;
}

turn-clear : (m b : Lists) (now : ℕ) (ask : Ask) (r : Reply) → AreClear m → Turn m b now ask r → (r ≡ reply.Refused refusal.KeepFault → ⊥) → AreClear b
turn-clear m b now ask r clear (answered l n x settled) sound = clear-over m now ask clear
turn-clear m b now ask r clear (put_in_doubt l n x settled puts) sound = absurd (sound refl)
turn-clear m b now ask r clear (stayed_in_doubt l n x unsettled) sound = absurd (sound refl)
turn-clear m b now ask r clear (no_memory l n x) sound = clear

pub asked_clear : (a b : Lists) (now : ℕ) (ask : Ask) (r : Reply) → AreClear a → AskedOnce ⊥ a b now ask r → AreClear b
asked_clear a b now ask r clear once =
    turn-clear a b now ask r clear (subst (λ (m : Lists). Turn m b now ask r) (mended-clear a once.asks.mended clear once.asks.mends) once.asks.turn) once.cause

-- ---- what a request leaves, where memory isn't wanting

turn-over : (m b : Lists) (now : ℕ) (ask : Ask) (r : Reply) → Turn m b now ask r → (r ≡ reply.Refused refusal.KeepFault → ⊥) → (r ≡ reply.Refused refusal.Memory → ⊥) → b ≡ lists_over m now ask
turn-over m b now ask r (answered l n x settled) sound some = refl
turn-over m b now ask r (put_in_doubt l n x settled puts) sound some = absurd (sound refl)
turn-over m b now ask r (stayed_in_doubt l n x unsettled) sound some = absurd (sound refl)
turn-over m b now ask r (no_memory l n x) sound some = absurd (some refl)

pub followed : (a b : Lists) (now : ℕ) (ask : Ask) (r : Reply) → AreClear a → AskedOnce ⊥ a b now ask r → (r ≡ reply.Refused refusal.Memory → ⊥) → b ≡ lists_over a now ask
followed a b now ask r clear once some =
    turn-over a b now ask r (subst (λ (m : Lists). Turn m b now ask r) (mended-clear a once.asks.mended clear once.asks.mends) once.asks.turn) once.cause some

-- ---- no keeper fails

pub sound_once : {K : Type 0} (sound : K → Type 0) (faults : K → ℕ) (a b : School K) (now : ℕ) (ask : Ask) (r : Reply) → AreSound sound a → IsServed sound faults a b now ask r → AskedOnce ⊥ (lists_in a) (lists_in b) now ask r
sound_once sound faults a b now ask r is served = record {
  asks = served.once.asks;
  cause = λ told. (fails_in_all sound faults a b served.goes_on (served.once.cause told)).unsound is;
  stands = served.once.stands;
  stays = served.once.stays;
  again = served.once.again;
}

pub not_memory : (r : Reply) → is_memory r ≡ false → r ≡ reply.Refused refusal.Memory → ⊥
not_memory r other is = let memory : true ≡ false = rw is at other in absurd cc

-- ---- one shard of a school

pub clear_part : {K : Type 0} (l a : School K) (k : ℕ) (s : part.Keeping K) → a ≡ l → AreClear (lists_in l) → slice_get a.parts k ≡ Some s → s.held.doubt ≡ None
clear_part l a k s view clear is = (subst (λ (x : School _). AreClear (lists_in x)) (sym view) clear).parts k s.held (held_there a.parts k s is)

pub own_list : {K : Type 0} (l a : School K) (u k : ℕ) (s : part.Keeping K) → a ≡ l → slice_get a.parts k ≡ Some s → u % length a.parts ≡ k → part_list (lists_in l) (u % length l.parts) ≡ s.held.list
own_list l a u k s view is place = subst (λ (x : School _). part_list (lists_in x) (u % length x.parts) ≡ s.held.list) view
    (ap (part_list (lists_in a)) place ∙ rw (held_there a.parts k s is) refl)

pub still_lists : {K : Type 0} (l : School K) (c : records.Keeping K) (ss : List (part.Keeping K)) (k : ℕ) (s g : part.Keeping K) → let a : School K = record { catalog = c; parts = ss } in a ≡ l → slice_get ss k ≡ Some s → g.held ≡ s.held → let b : School K = record { catalog = c; parts = slice_set ss k g } in lists_in b ≡ lists_in l
still_lists l c ss k s g view is same =
    let a : School _ = record { catalog = c; parts = ss } in
    lists_part c ss k g
    ∙ (ap (with_part (lists_in a) k) same
    ∙ (ap (λ (hs : List Held). let x : Lists = record { records = c.held; parts = hs } in x) (set_same (held_of ss) k s.held (held_there ss k s is))
    ∙ ap lists_in view))
