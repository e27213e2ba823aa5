-- What holds of one who notes after a request, as before it.
use Rattle.std.proofs.Common.{◌≡◌, ℕ, List, [], ◌∷◌, ◌++◌, length, sym, ◌∙◌, subst}
use Rattle.qz_terms.specs.declared.ask.Ask.{Ask}
use Rattle.qz_terms.specs.declared.record.Record.{Record}
use Rattle.qz_terms.specs.declared.reply.Reply.{Reply}
use Rattle.qz_terms.specs.Serial.{Asks}
use Rattle.qz_turn.specs.declared.view.Tale.{Tale}
use Rattle.qz_visit.specs.declared.last.Last.{Last}
use Rattle.qz_visit.specs.Seeing.{FollowEach}
use Rattle.qz_visit.specs.Seeing as seeing
use Rattle.qz_visit.specs.Visits.{AreCounted, AreFoundBy, Asked, Seats, Visitor, lists_told, said_by, seen_by, seen_in}
use Rattle.qz_visit.specs.Visits as visits
use Rattle.qz_visit.specs.Ways.{Part}
use Rattle.qz_visit.proofs.Reporting.{count_found, count_told}
use Rattle.qz_visit.proofs.Seeing.{all_on, asked_beside}
use Rattle.qz_gather.specs.declared.note.Note.{Note}
use Rattle.qz_gather.specs.Clerks.{IsKept}
use Rattle.qz_gather.specs.Notes.{IsTrueOf, Notes}
use Rattle.qz_gather.proofs.Growing.{one_more, still_all}
use Rattle.qz_gather.proofs.Noting.{true_note}

-- what is seen of each shard goes on from what was found
found-goes-on : (os ns : List Part) (fs : List (Tale Record)) → AreFoundBy os ns fs → FollowEach fs (seen_by ns)
found-goes-on _ _ _ visits.none = seeing.none
found-goes-on _ _ _ (visits.more old new found os ns fs one rest) = seeing.more found new.seen fs (seen_by ns) one.grows (found-goes-on os ns fs rest)

module _ (old new : Seats) (last : Last) (now : ℕ) (ask : Ask) (told : Reply) (a : Asked old new last now ask told) where
  -- a number is kept for each shard, as before
  pub counts_old : length last.parts ≡ length old.parts
  counts_old = a.parts.many ∙ count_told old.parts new.parts a.visited.found.parts a.visited.parts

  counts-new : length last.parts ≡ length new.parts
  counts-new = counts_old ∙ sym (count_found old.parts new.parts a.visited.found.parts a.visited.parts)

  asked-note : (n : Note) → Notes last now ask told n → IsTrueOf (seen_in new) n
  asked-note n so =
      let v = a.visited in
      let asks : Asks (lists_told v.found) (lists_told (seen_in new)) n.moment n.ask told =
      subst (λ (m : ℕ). Asks (lists_told v.found) (lists_told (seen_in new)) m n.ask told) (sym so.moment_is) (subst (λ (x : Ask). Asks (lists_told v.found) (lists_told (seen_in new)) now x told) (sym so.ask_is) v.once.asks) in
      true_note v.found (seen_in new) last n (record { records = v.records.grows; parts = found-goes-on old.parts new.parts v.found.parts v.parts }) v.owns a.parts so.list so.put so.doubt
      told asks so.reply (so.catalog ∙ a.catalog) (subst (AreCounted v.found.parts) (sym so.parts) a.parts)

-- One note more is true, and all others stay so.
pub kept_more : (v w : Visitor) (notes : List Note) (now : ℕ) (ask : Ask) (told : Reply) (n : Note) → IsKept v notes → Asked v.passes w.passes w.last now ask told → Notes w.last now ask told n → IsKept w (notes ++ n ∷ [])
kept_more v w notes now ask told n k a so =
    let on = asked_beside v.passes w.passes now ask (said_by told w.last) a.visited in
    record {
      counts = counts-new v.passes w.passes w.last now ask told a;
      true_of = one_more (seen_in w.passes) notes n (still_all (seen_in v.passes) (seen_in w.passes) notes (all_on (seen_in v.passes) on.found (seen_in w.passes) on.begins on.grows) k.true_of)
          (asked-note v.passes w.passes w.last now ask told a n so);
    }

-- of what was kept and asked
pub notes_same : (l last : Last) (now : ℕ) (x ask : Ask) (told : Reply) (n : Note) → Notes l now x told n → l ≡ last → x ≡ ask → Notes last now ask told n
notes_same l last now x ask told n so kept asked = subst (λ (k : Last). Notes k now ask told n) kept (subst (λ (y : Ask). Notes l now y told n) asked so)
