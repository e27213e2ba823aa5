-- One more change of a disk in memory, and in its log.
use Rattle.std.proofs.Common.{◌≡◌, inl, inr, ℕ, ◌+◌, ◌-◌, ◌*◌, ◌≤◌, ◌<◌, List, [], ◌∷◌, ◌++◌, length, take, drop, refl, sym, ◌∙◌, ap, subst, arith, length-append, length-drop}
use Rattle.std.proofs.lemmas.List.{take-append-le, drop-append-le, take_all, length_push}
use Rattle.qz_disks.specs.Disks.{overwritten, Torn, Cut, Same, Elapses, IsDurable}
use Rattle.qz_disks.specs.Changes.{Change, Wrote, Shortened, Synced, changed, Outcome, changed_all, OutcomeOfAll, content, MayLeave, LeftAt}
use Rattle.qz_disks.specs.Log.{told, total, IsLogged, HasCapacity}
use Rattle.std.proofs.lemmas.Nat.{row_fits, mul-le}
use Rattle.qz_disks.specs.declared.memory_disk.Done.{Done}
use Rattle.qz_disks.specs.declared.memory_disk.Done.TheVariants as done
use Rattle.qz_disks.proofs.Pieces.{torn_overwritten, cut_taken}

-- what one more change does

changed_all_more : (changes : List Change) (change : Change) (bytes : List ℕ) → changed_all (changes ++ change ∷ []) bytes ≡ changed change (changed_all changes bytes)
changed_all_more [] change bytes = refl
changed_all_more (first ∷ rest) change bytes = changed_all_more rest change (changed first bytes)

outcome_more : (changes : List Change) (change : Change) (outcomes : List ℕ → Type 0) (bytes c : List ℕ) → OutcomeOfAll (changes ++ change ∷ []) outcomes bytes c
    → Outcome change (OutcomeOfAll changes outcomes bytes) (changed_all changes bytes) c
outcome_more [] change outcomes bytes c left = left
outcome_more (first ∷ rest) change outcomes bytes c left = outcome_more rest change (Outcome first outcomes bytes) (changed first bytes) c left

-- each outcome of one more change is a step from an outcome of those before
abbrev Steps : (List ℕ → List ℕ → Type 0) → List Change → Change → Type 0
Steps step changes change = (c : List ℕ) → MayLeave (changes ++ change ∷ []) c → (d : List ℕ) × MayLeave changes d × step d c

wrote_steps : (changes : List Change) (at : ℕ) (piece : List ℕ) → at ≤ length (content changes) → Steps (Torn at (length piece)) changes (Wrote at piece)
wrote_steps changes at piece le c (inl reads) = (content changes, inl refl, subst (λ (l : List ℕ). Torn at (length piece) (content changes) l) (sym (reads ∙ changed_all_more changes (Wrote at piece) [])) (torn_overwritten at piece (content changes) le))
wrote_steps changes at piece le c (inr left) = let from = outcome_more changes (Wrote at piece) _ _ c left in (from.0, inr from.1, from.2)

cut_steps : (changes : List Change) (size : ℕ) → Steps (Cut size) changes (Shortened size)
cut_steps changes size c (inl reads) = (content changes, inl refl, subst (λ (l : List ℕ). Cut size (content changes) l) (sym (reads ∙ changed_all_more changes (Shortened size) [])) (cut_taken size (content changes)))
cut_steps changes size c (inr left) = let from = outcome_more changes (Shortened size) _ _ c left in (from.0, inr from.1, from.2)

-- after a sync the disk is left as it reads
pub synced_only : (changes : List Change) (c : List ℕ) → MayLeave (changes ++ Synced ∷ []) c → c ≡ content changes
synced_only changes c (inl reads) = reads ∙ changed_all_more changes Synced []
synced_only changes c (inr left) = outcome_more changes Synced _ _ c left

sync_steps : (changes : List Change) → Steps Same changes Synced
sync_steps changes c left = (content changes, inl refl, synced_only changes c left)

elapses_more : (step : List ℕ → List ℕ → Type 0) (changes : List Change) (change : Change) → Steps step changes change
    → Elapses step (length changes) (length (changes ++ change ∷ [])) (LeftAt changes) (LeftAt (changes ++ change ∷ []))
elapses_more step changes change steps = record {
  later = omega (arith, length_push changes change);
  keeps = λ t c le left. subst (λ (l : List Change). MayLeave l c) (sym (take-append-le t changes (change ∷ []) le)) left;
  adds_nothing = λ t c le left. subst (λ (l : List Change). MayLeave l c) (take-append-le t changes (change ∷ []) le) left;
  follows = λ t c after le left.
      let whole : take t (changes ++ change ∷ []) ≡ changes ++ change ∷ [] = take_all t (changes ++ change ∷ []) (omega (arith, length_push changes change)) in
      let from = steps c (subst (λ (l : List Change). MayLeave l c) whole left) in
      (from.0, subst (λ (l : List Change). MayLeave l from.0) (sym (take_all (length changes) changes (omega arith))) from.1, from.2);
}

pub elapses_wrote : (changes : List Change) (at : ℕ) (piece : List ℕ) → at ≤ length (content changes)
    → Elapses (Torn at (length piece)) (length changes) (length (changes ++ Wrote at piece ∷ [])) (LeftAt changes) (LeftAt (changes ++ Wrote at piece ∷ []))
elapses_wrote changes at piece le = elapses_more _ changes (Wrote at piece) (wrote_steps changes at piece le)

pub elapses_cut : (changes : List Change) (size : ℕ) → Elapses (Cut size) (length changes) (length (changes ++ Shortened size ∷ [])) (LeftAt changes) (LeftAt (changes ++ Shortened size ∷ []))
elapses_cut changes size = elapses_more _ changes (Shortened size) (cut_steps changes size)

pub elapses_synced : (changes : List Change) → Elapses Same (length changes) (length (changes ++ Synced ∷ [])) (LeftAt changes) (LeftAt (changes ++ Synced ∷ []))
elapses_synced changes = elapses_more _ changes Synced (sync_steps changes)

-- what one more entry tells

pub told_wrote : (log : List Done) (written piece : List ℕ) (at count : ℕ) → total log ≡ length written → count ≡ length piece
    → told (written ++ piece) (log ++ done.Wrote at count ∷ []) ≡ told written log ++ Wrote at piece ∷ []
told_wrote [] [] piece at count whole is = ap (λ (l : List ℕ). Wrote at l ∷ []) (take_all count piece (omega arith))
told_wrote [] (byte ∷ written) piece at count whole is = absurd (omega arith)
told_wrote (done.Wrote at' count' ∷ rest) written piece at count whole is =
    let within : count' ≤ length written = omega arith in
    let front = take-append-le count' written piece within in
    let behind = drop-append-le count' written piece within in
    let more = told_wrote rest (drop count' written) piece at count (omega (arith, length-drop count' written)) is in
    rw (front, behind, more) refl
told_wrote (done.Cut size ∷ rest) written piece at count whole is = ap (λ l. Shortened size ∷ l) (told_wrote rest written piece at count whole is)
told_wrote (done.Synced ∷ rest) written piece at count whole is = ap (λ l. Synced ∷ l) (told_wrote rest written piece at count whole is)

pub told_cut : (log : List Done) (written : List ℕ) (size : ℕ) → told written (log ++ done.Cut size ∷ []) ≡ told written log ++ Shortened size ∷ []
told_cut [] written size = refl
told_cut (done.Wrote at count ∷ rest) written size = ap (λ l. Wrote at (take count written) ∷ l) (told_cut rest (drop count written) size)
told_cut (done.Cut size' ∷ rest) written size = ap (λ l. Shortened size' ∷ l) (told_cut rest written size)
told_cut (done.Synced ∷ rest) written size = ap (λ l. Synced ∷ l) (told_cut rest written size)

pub told_synced : (log : List Done) (written : List ℕ) → told written (log ++ done.Synced ∷ []) ≡ told written log ++ Synced ∷ []
told_synced [] written = refl
told_synced (done.Wrote at count ∷ rest) written = ap (λ l. Wrote at (take count written) ∷ l) (told_synced rest (drop count written))
told_synced (done.Cut size ∷ rest) written = ap (λ l. Shortened size ∷ l) (told_synced rest written)
told_synced (done.Synced ∷ rest) written = ap (λ l. Synced ∷ l) (told_synced rest written)

total_more : (log : List Done) (entry : Done) → total (log ++ entry ∷ []) ≡ total log + total (entry ∷ [])
total_more [] entry = omega arith
total_more (done.Wrote at count ∷ rest) entry = omega (arith, total_more rest entry)
total_more (done.Cut size ∷ rest) entry = total_more rest entry
total_more (done.Synced ∷ rest) entry = total_more rest entry

pub logged_wrote : (bytes written piece : List ℕ) (log : List Done) (at count : ℕ) → IsLogged bytes written log → count ≡ length piece
    → IsLogged (overwritten at piece bytes) (written ++ piece) (log ++ done.Wrote at count ∷ [])
logged_wrote bytes written piece log at count logged is = record {
  reads = ap (λ (l : List ℕ). overwritten at piece l) logged.reads ∙ sym (changed_all_more (told written log) (Wrote at piece) [])
      ∙ ap content (sym (told_wrote log written piece at count logged.whole is));
  whole = let more = total_more log (done.Wrote at count) in omega (arith, more, logged.whole, length-append written piece);
}

pub logged_cut : (bytes written : List ℕ) (log : List Done) (size : ℕ) → IsLogged bytes written log → IsLogged (take size bytes) written (log ++ done.Cut size ∷ [])
logged_cut bytes written log size logged = record {
  reads = ap (λ (l : List ℕ). take size l) logged.reads ∙ sym (changed_all_more (told written log) (Shortened size) []) ∙ ap content (sym (told_cut log written size));
  whole = let more = total_more log (done.Cut size) in omega (arith, more, logged.whole);
}

pub logged_synced : (bytes written : List ℕ) (log : List Done) → IsLogged bytes written log → IsLogged bytes written (log ++ done.Synced ∷ [])
logged_synced bytes written log logged = record {
  reads = logged.reads ∙ sym (changed_all_more (told written log) Synced []) ∙ ap content (sym (told_synced log written));
  whole = let more = total_more log done.Synced in omega (arith, more, logged.whole);
}

-- one call of the room is taken

pub capacity_wrote : (calls bytes bytes' size size' size_cap size_cap' logged logged' logged_cap logged_cap' entries entries' entries_cap count : ℕ)
    → HasCapacity calls bytes size size_cap logged logged_cap entries entries_cap → 0 < calls → size' + bytes' ≡ size + bytes → count ≤ size + bytes
    → size_cap ≤ size_cap' → logged' ≡ logged + count → logged_cap ≤ logged_cap' → entries' ≡ entries + 1
    → HasCapacity (calls - 1) bytes' size' size_cap' logged' logged_cap' entries' entries_cap
capacity_wrote calls bytes bytes' size size' size_cap size_cap' logged logged' logged_cap logged_cap' entries entries' entries_cap count has some same within sizes is wider more =
    let product : (calls - 1) * (size' + bytes') + (size' + bytes') ≤ calls * (size + bytes) = row_fits (calls - 1) (size' + bytes') calls (size + bytes) (omega arith) (omega arith) in
    record {
      for_bytes = omega (arith, has.for_bytes);
      for_pieces = omega (arith, has.for_pieces, product);
      for_calls = omega (arith, has.for_calls);
    }

pub capacity_less : (calls bytes size size' size_cap logged logged_cap entries entries' entries_cap : ℕ) → HasCapacity calls bytes size size_cap logged logged_cap entries entries_cap
    → 0 < calls → size' ≤ size → entries' ≡ entries + 1 → HasCapacity (calls - 1) bytes size' size_cap logged logged_cap entries' entries_cap
capacity_less calls bytes size size' size_cap logged logged_cap entries entries' entries_cap has some shorter more =
    let product : (calls - 1) * (size' + bytes) + (size' + bytes) ≤ calls * (size + bytes) = row_fits (calls - 1) (size' + bytes) calls (size + bytes) (omega arith) (omega arith) in
    record {
      for_bytes = omega (arith, has.for_bytes);
      for_pieces = omega (arith, has.for_pieces, product);
      for_calls = omega (arith, has.for_calls);
    }

-- the clauses of a call, where the log that it leaves is known by an equation

pub now_wrote : (changes later : List Change) (at : ℕ) (piece : List ℕ) → later ≡ changes ++ Wrote at piece ∷ [] → at ≤ length (content changes)
    → Elapses (Torn at (length piece)) (length changes) (length later) (LeftAt changes) (LeftAt later) × (content later ≡ overwritten at piece (content changes))
now_wrote changes later at piece is le =
    subst (λ l. Elapses (Torn at (length piece)) (length changes) (length l) (LeftAt changes) (LeftAt l) × (content l ≡ overwritten at piece (content changes))) (sym is)
    (elapses_wrote changes at piece le, changed_all_more changes (Wrote at piece) [])

pub now_cut : (changes later : List Change) (size : ℕ) → later ≡ changes ++ Shortened size ∷ []
    → Elapses (Cut size) (length changes) (length later) (LeftAt changes) (LeftAt later) × (content later ≡ take size (content changes))
now_cut changes later size is =
    subst (λ l. Elapses (Cut size) (length changes) (length l) (LeftAt changes) (LeftAt l) × (content l ≡ take size (content changes))) (sym is)
    (elapses_cut changes size, changed_all_more changes (Shortened size) [])

pub now_synced : (changes later : List Change) → later ≡ changes ++ Synced ∷ []
    → Elapses Same (length changes) (length later) (LeftAt changes) (LeftAt later) × (content later ≡ content changes)
now_synced changes later is =
    subst (λ l. Elapses Same (length changes) (length l) (LeftAt changes) (LeftAt l) × (content l ≡ content changes)) (sym is)
    (elapses_synced changes, changed_all_more changes Synced [])

pub now_durable : (changes later : List Change) → later ≡ changes ++ Synced ∷ [] → IsDurable (content changes) (λ c. LeftAt later (length later) c)
now_durable changes later is = record {
  only = λ c left. synced_only changes c (subst (λ l. MayLeave l c) (take_all (length later) later (omega arith) ∙ is) left);
}

-- a piece that is no longer than all bytes fits where there is room for a call
pub room_for_piece : (calls most count : ℕ) → 0 < calls → count ≤ most → count ≤ calls * most
room_for_piece calls most count some within = omega (arith, mul-le 1 count calls most some within)
