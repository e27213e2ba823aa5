-- A GIFT text that has a reading is checked or laid out, where nothing fails.
use Rattle.std.proofs.Common.{◌≡◌, ◌<◌, ◌≤◌, ℕ, Bool, List, [], ◌++◌, length, Option, Some, None, Result, Ok, Err, inr, sym, ◌∙◌, ap, arith, refl}
use Rattle.std.proofs.lemmas.List.{append-nil, length-append}
use Rattle.std.proofs.lemmas.Bool.{false≢true}
use Rattle.std.specs.Io.KnownBytes.{Consumes, IsAtEnd}
use Rattle.qz_outside.specs.Sources.{AppendsFront}
use Rattle.gift_read.specs.Gift.{reading}
use Rattle.qz_ending.specs.declared.stop.Stop.{Stop}
use Rattle.qz_ending.specs.declared.stop.Stop.TheVariants as stop
use Rattle.qz_ending.specs.Endings.{Outside, status_of}
use Rattle.qz_gift.specs.GiftEndings.{GiftEnds, GiftsAll, Writes}
use Rattle.std.specs.Result.{IsErr, IsErrAnd}

-- nothing was written
pub unwritten : (held : Option (List ℕ)) (bytes : List ℕ) → AppendsFront held held bytes
unwritten None bytes = record { front = []; rest = bytes; split = refl; appends = tt }
unwritten (Some xs) bytes = record { front = []; rest = bytes; split = refl; appends = sym (append-nil xs) }

-- and memory was wanting
pub memory_stops : {A : Type 0} (out : List ℕ) (end : Option Stop) (held : Option (List ℕ)) (faults : ℕ) (r : Result A Stop)
    → IsErr r × IsErrAnd r (λ s. s ≡ stop.Memory) → Writes out end held held faults faults r
memory_stops out end held faults (Ok x) h = absurd (false≢true h.0)
memory_stops out end held faults (Err s) h = rw h.1 (unwritten held out)

-- a text that was read to its end is all that there was
pub read_whole : (old new : Option (List ℕ)) (text bytes : List ℕ) → old ≡ Some text → Consumes old new bytes → IsAtEnd new → text ≡ bytes
read_whole None new text bytes e taken end = cc
read_whole (Some xs) None text bytes e taken end = absurd taken
read_whole (Some xs) (Some ys) text bytes e taken end =
    let same : xs ≡ bytes ++ [] = taken ∙ ap (λ (l : List ℕ). bytes ++ l) end in
    let there : text ≡ xs = cc in
    there ∙ (same ∙ append-nil bytes)

-- a longer text isn't within the limit
front_of : (old new : Option (List ℕ)) (text bytes : List ℕ) → old ≡ Some text → Consumes old new bytes → length bytes ≤ length text
front_of None new text bytes e taken = cc
front_of (Some xs) None text bytes e taken = absurd taken
front_of (Some xs) (Some ys) text bytes e taken =
    let there : text ≡ xs = cc in
    let same : text ≡ bytes ++ ys = there ∙ taken in
    rw same (omega (arith, length-append bytes ys))

past_limit : (n m limit : ℕ) → n ≤ m → m ≤ limit → limit < n → ⊥
past_limit n m limit a b c = omega (arith, a, b, c)

pub gifts_all : (writes : Bool) (old new : Outside) (s : Stop) → GiftEnds writes old new (Some s) → GiftsAll old new (status_of (Some s))
gifts_all writes old new stop.BadWords h = absurd h
gifts_all writes old new stop.ShelfFault h = absurd h
gifts_all writes old new stop.Refused h = absurd h
gifts_all writes old new stop.DoorFault h = absurd h
gifts_all writes old new stop.Gap h = absurd h
gifts_all writes old new (stop.Malformed line) h = absurd h
gifts_all writes old new (stop.Unreadable line rule) h = record {
  done = λ text bank left within reads quiet silent.
      let same : text ≡ h.text = read_whole old.left new.left text h.text left h.read.taken h.read.at_end in
      let one : reading text ≡ reading h.text = ap reading same in
      let two : Ok bank ≡ Err (record { line = line; rule = rule }) = sym reads ∙ (one ∙ h.reads) in cc;
}
gifts_all writes old new stop.SourceFault h = record { done = λ text bank left within reads quiet silent. absurd (quiet h.risen) }
gifts_all writes old new stop.SinkFault h = record { done = λ text bank left within reads quiet silent. absurd (silent h.risen) }
gifts_all writes old new stop.Memory h = record { done = λ text bank left within reads quiet silent. inr refl }
gifts_all writes old new stop.TooLong h = record { done = λ text bank left within reads quiet silent. absurd (past_limit _ _ _ (front_of old.left new.left text h.bytes left h.read.taken) within h.past) }
