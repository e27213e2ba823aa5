-- What a refused request leaves.
use Rattle.std.proofs.Common.{◌≡◌, ℕ, zero, suc, Bool, true, false, List, [], ◌∷◌, Option, Some, None, map, refl, sym, ap, subst}
use Rattle.std.specs.Prelude.{◌≢◌, if◌then◌else◌, slice_set}
use Rattle.qz_grading.specs.declared.refusal.Refusal.{Refusal}
use Rattle.qz_grading.specs.declared.refusal.Refusal.TheVariants as refusal
use Rattle.qz_terms.specs.declared.ask.Ask.{Ask}
use Rattle.qz_terms.specs.declared.record.Record.{Record}
use Rattle.qz_terms.specs.declared.reply.Reply.{Reply}
use Rattle.qz_terms.specs.declared.reply.Reply.TheVariants as reply
use Rattle.qz_terms.specs.SchoolAnswer.{catalog_list}
use Rattle.qz_terms.specs.Serial.{AllMended, Asks, Held, KeepsUnread, Lists, Turn, answered, doubt_over, doubted, doubted_parts, doubted_records, is_settled, lists_of, lists_over, no_memory, part_list, part_read, put_in_doubt, reads_catalog, reply_over, stayed_in_doubt}
use Rattle.qz_serial.proofs.Seats.{list_at}
use Rattle.qz_serial.proofs.Still.{still_over}
use Rattle.qz_refused.specs.Refusing.{HoldAsMended, RefusedLeavesAll}
use Rattle.qz_refused.proofs.Clear.{refused_clear}
use Rattle.qz_refused.proofs.Nothing.{refused_nothing}

refused-over : (m : Lists) (now : ℕ) (ask : Ask) (why : Refusal) → is_settled m ask ≡ true → reply_over m now ask ≡ reply.Refused why → lists_over m now ask ≡ m
refused-over m now ask why settled told = still_over m now ask settled (refused_clear m now ask why settled told) (refused_nothing m now ask why told)

-- ---- the turn of a request

turn-leaves : (m b : Lists) (now : ℕ) (ask : Ask) (r : Reply) (why : Refusal) → Turn m b now ask r → r ≡ reply.Refused why → why ≢ refusal.KeepFault → b ≡ m
turn-leaves m b now ask r why (answered l n x settled) told other = refused-over m now ask why settled told
turn-leaves m b now ask r why (put_in_doubt l n x settled puts) told other = absurd (other (let same : refusal.KeepFault ≡ why = cc in sym same))
turn-leaves m b now ask r why (stayed_in_doubt l n x unsettled) told other = refl
turn-leaves m b now ask r why (no_memory l n x) told other = refl

-- the lists without what is in doubt
record SameLists (m b : Lists) : Type 0 where
  records : b.records.list ≡ m.records.list
  parts : lists_of b.parts ≡ lists_of m.parts

same-lists : (m b : Lists) → b ≡ m → SameLists m b
same-lists m b is = record { records = ap (λ (l : Lists). l.records.list) is; parts = ap (λ (l : Lists). lists_of l.parts) is }

doubt-kept : (b : Bool) (h : Held) (new : List Record) → (if b then doubted h.list new else h).list ≡ h.list
doubt-kept true h new = refl
doubt-kept false h new = refl

set-kept : (ps : List Held) (k : ℕ) (new : List Record) → lists_of (slice_set ps k (doubted (list_at ps k) new)) ≡ lists_of ps
set-kept [] k new = refl
set-kept (p ∷ ps) zero new = refl
set-kept (p ∷ ps) (suc k) new = ap (λ (l : List (List Record)). p.list ∷ l) (set-kept ps k new)

parts-kept : (m : Lists) (now : ℕ) (ask : Ask) (o : Option ℕ) → lists_of (doubted_parts m now ask o) ≡ lists_of m.parts
parts-kept m now ask None = refl
parts-kept m now ask (Some k) = set-kept m.parts k _

turn-fails : (m b : Lists) (now : ℕ) (ask : Ask) (r : Reply) (why : Refusal) → Turn m b now ask r → r ≡ reply.Refused why → SameLists m b
turn-fails m b now ask r why (answered l n x settled) told = same-lists m _ (refused-over m now ask why settled told)
turn-fails m b now ask r why (put_in_doubt l n x settled puts) told = record { records = doubt-kept (reads_catalog m ask) m.records _; parts = parts-kept m now ask (part_read m ask) }
turn-fails m b now ask r why (stayed_in_doubt l n x unsettled) told = record { records = refl; parts = refl }
turn-fails m b now ask r why (no_memory l n x) told = record { records = refl; parts = refl }

pub leaving_law : RefusedLeavesAll
leaving_law = record {
  leaves = λ a b now ask why asks other.
      let same = turn-leaves asks.mended b now ask (reply.Refused why) why asks.turn refl other in
      (subst (AllMended a) (sym same) asks.mends, subst (λ (l : Lists). KeepsUnread a l ask) (sym same) asks.keeps);
  fails = λ a b now ask asks.
      let same = turn-fails asks.mended b now ask (reply.Refused refusal.KeepFault) refusal.KeepFault asks.turn refl in
      record { mended = asks.mended; mends = asks.mends; keeps = asks.keeps; records = same.records; parts = same.parts };
}
