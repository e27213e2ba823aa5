-- A line that is read piece by piece.
use Rattle.std.proofs.Common.{◌≡◌, ℕ, zero, suc, ◌+◌, ◌<◌, ◌≤◌, ◌==◌, Bool, true, false, List, [], ◌∷◌, ◌++◌, length, drop, Option, refl, sym, ap, ◌∙◌, subst, append-nil, append_assoc, length-append, arith}
use Rattle.std.specs.Io.KnownBytes.{Consumes, IsAtEnd}
use Rattle.std.specs.Prelude.{Contains, nat_lt, slice_index_or}
use Rattle.std.proofs.lemmas.List.{drop-drop, drop_all, drop_at}
use Rattle.std.proofs.KnownBytes.{Consumes-nil, Consumes-trans}
use Rattle.qz_script.specs.declared.script_line.ScriptLine.{ScriptLine}
use Rattle.qz_script.specs.declared.script_line.ScriptLine.TheVariants as script
use Rattle.qz_script.specs.declared.script_input.Given.TheVariants as given
use Rattle.qz_ending.specs.declared.stop.Stop.{Stop}
use Rattle.qz_ending.specs.declared.stop.Stop.TheVariants as stop
use Rattle.qz_script.specs.ScriptLines.{kept, line_limit, with_piece}
use Rattle.qz_script.specs.Inputs.{Buffer, Ends, Fills, FillStops, Gives, GivesNext, GoesOn, IsUnfed, NextStops, fed_parts, given_last}
use Rattle.qz_wire.specs.Words.{IsCutAt}
use Rattle.qz_script.proofs.KeptLemmas.{kept-piece}
use Rattle.qz_wire.proofs.PartLemmas.{parts-append, some_part}

-- some bytes were read, and with what was held they are the front of a line and what is held now
pub record IsBegun (old now : Buffer) (left rest : Option (List ℕ)) (before later : ℕ) (line : ScriptLine) : Type 0 where
  pub bytes : List ℕ
  pub front : List ℕ
  pub taken : Consumes left rest bytes
  pub count : now.read ≡ old.read + length bytes
  pub limit : now.limit ≡ old.limit
  pub faults : before ≤ later
  pub split : old.held ++ bytes ≡ front ++ now.held
  pub unfed : IsUnfed front
  pub line_is : line ≡ kept front

pub begins : (old : Buffer) (left : Option (List ℕ)) (before : ℕ) (line : ScriptLine) → line ≡ kept [] → IsBegun old old left left before before line
begins old left before line empty = record {
  bytes = [];
  front = [];
  taken = Consumes-nil left;
  count = omega arith;
  limit = refl;
  faults = omega arith;
  split = append-nil old.held;
  unfed = refl;
  line_is = empty;
}

unfed-append : (xs ys : List ℕ) → IsUnfed xs → IsUnfed ys → IsUnfed (xs ++ ys)
unfed-append xs ys none nor = parts-append 10 xs ys ∙ rw (none, nor) refl

-- a line is given where a line feed ends it
pub gives_line : (old now new : Buffer) (left rest : Option (List ℕ)) (before later : ℕ) (line longer : ScriptLine) → IsBegun old now left rest before later line → Ends now new line longer → GivesNext old new left rest before later (given.Line longer)
gives_line old now new left rest before later line longer b e = record {
  bytes = b.bytes;
  reads = record { taken = b.taken; count = e.read ∙ b.count; limit = e.limit ∙ b.limit; within = e.within; later = b.faults };
  gives = record {
    front = b.front ++ e.piece;
    parts = ap fed_parts b.split ∙ (parts-append 10 b.front now.held ∙ rw (b.unfed, e.parts) refl);
    shorter = omega (arith, ap length b.split, length-append b.front now.held, e.shorter);
    line_is = e.longer_is ∙ (ap (λ (l : ScriptLine). with_piece l e.piece) b.line_is ∙ kept-piece b.front e.piece);
  };
}

-- what is held has no line feed, so all of it belongs to the line
pub record IsHeldLine (old : Buffer) (left rest : Option (List ℕ)) (before later : ℕ) (line : ScriptLine) (reads limit : ℕ) : Type 0 where
  pub bytes : List ℕ
  pub taken : Consumes left rest bytes
  pub count : reads ≡ old.read + length bytes
  pub limit_is : limit ≡ old.limit
  pub within : reads ≤ limit
  pub faults : before ≤ later
  pub unfed : IsUnfed (old.held ++ bytes)
  pub line_is : line ≡ kept (old.held ++ bytes)

pub holds_line : (old now new : Buffer) (left rest : Option (List ℕ)) (before later : ℕ) (line longer : ScriptLine) → IsBegun old now left rest before later line → GoesOn now new line longer → IsHeldLine old left rest before later longer new.read new.limit
holds_line old now new left rest before later line longer b e = record {
  bytes = b.bytes;
  taken = b.taken;
  count = e.read ∙ b.count;
  limit_is = e.limit ∙ b.limit;
  within = e.within;
  faults = b.faults;
  unfed = subst IsUnfed (sym b.split) (unfed-append b.front now.held b.unfed e.unfed);
  line_is = e.longer_is ∙ (ap (λ (l : ScriptLine). with_piece l now.held) b.line_is ∙ (kept-piece b.front now.held ∙ ap kept (sym b.split)));
}

-- some bytes more are held
pub goes_on : (old mid new : Buffer) (left between rest : Option (List ℕ)) (before during later : ℕ) (line : ScriptLine) → IsHeldLine old left between before during line mid.read mid.limit → Fills mid new between rest during later true → IsBegun old new left rest before later line
goes_on old mid new left between rest before during later line h f = record {
  bytes = h.bytes ++ new.held;
  front = old.held ++ h.bytes;
  taken = Consumes-trans left between rest h.bytes new.held h.taken f.reads.taken;
  count = omega (arith, f.reads.count, h.count, length-append h.bytes new.held);
  limit = f.reads.limit ∙ h.limit_is;
  faults = omega (arith, h.faults, f.reads.later);
  split = sym (append_assoc old.held h.bytes new.held);
  unfed = h.unfed;
  line_is = h.line_is;
}

empty-kept : (text : List ℕ) → script.Kept [] ≡ kept text → text ≡ []
empty-kept text is = by (nat_lt line_limit (length text)) refl
  where
    by : (t : Bool) → nat_lt line_limit (length text) ≡ t → text ≡ []
    by true long = let other = rw long at is in absurd cc
    by false short = let same = rw short at is in cc

last_line : (text : List ℕ) (rest : Option (List ℕ)) (line : ScriptLine) → IsUnfed text → line ≡ kept text → IsAtEnd rest → Gives text [] rest (given_last line)
last_line [] rest line unfed is at_end = rw is (refl, at_end)
last_line (b ∷ bs) rest script.TooLong unfed is at_end = record { unfed = unfed; some = omega arith; at_end = at_end; line_is = is }
last_line (b ∷ bs) rest (script.Kept (d ∷ ds)) unfed is at_end = record { unfed = unfed; some = omega arith; at_end = at_end; line_is = is }
last_line (b ∷ bs) rest (script.Kept []) unfed is at_end = let none : b ∷ bs ≡ [] = empty-kept (b ∷ bs) is in absurd cc

-- the end of the source ends the line, if it has a byte
pub gives_last : (old mid new : Buffer) (left between rest : Option (List ℕ)) (before during later : ℕ) (line : ScriptLine) → IsHeldLine old left between before during line mid.read mid.limit → Fills mid new between rest during later false → GivesNext old new left rest before later (given_last line)
gives_last old mid new left between rest before during later line h f = record {
  bytes = h.bytes ++ new.held;
  reads = record {
    taken = Consumes-trans left between rest h.bytes new.held h.taken f.reads.taken;
    count = omega (arith, f.reads.count, h.count, length-append h.bytes new.held);
    limit = f.reads.limit ∙ h.limit_is;
    within = f.reads.within;
    later = omega (arith, h.faults, f.reads.later);
  };
  gives = rw (f.some.0, append-nil h.bytes) (last_line (old.held ++ h.bytes) rest line h.unfed h.line_is f.some.1);
}

none_left : (bytes : List ℕ) → length bytes ≤ 0 → bytes ≡ []
none_left bytes few = drop_all 0 bytes few

-- no more could be read
pub stops_next : (old mid : Buffer) (left between rest : Option (List ℕ)) (before during later : ℕ) (line : ScriptLine) (s : Stop) → IsHeldLine old left between before during line mid.read mid.limit → FillStops mid between rest during later s → NextStops old left rest before later s
stops_next old mid left between rest before during later line stop.BadWords h f = absurd f
stops_next old mid left between rest before during later line stop.ShelfFault h f = absurd f
stops_next old mid left between rest before during later line stop.Refused h f = absurd f
stops_next old mid left between rest before during later line stop.DoorFault h f = absurd f
stops_next old mid left between rest before during later line stop.Gap h f = absurd f
stops_next old mid left between rest before during later line (stop.Unreadable n rule) h f = absurd f
stops_next old mid left between rest before during later line (stop.Malformed n) h f = absurd f
stops_next old mid left between rest before during later line stop.SinkFault h f = absurd f
stops_next old mid left between rest before during later line stop.SourceFault h f = record {
  bytes = h.bytes;
  taken = subst (Consumes left rest) (ap (λ (l : List ℕ). h.bytes ++ l) (none_left f.bytes f.within) ∙ append-nil h.bytes) (Consumes-trans left between rest h.bytes f.bytes h.taken f.taken);
  within = omega (arith, h.count, h.limit_is, h.within);
  unfed = h.unfed;
  risen = λ below. omega (arith, h.faults, f.risen below);
}
stops_next old mid left between rest before during later line stop.TooLong h f = record {
  bytes = h.bytes;
  past = record {
    more = f.more;
    taken = Consumes-trans left between rest h.bytes f.more h.taken f.taken;
    full = omega (arith, f.full, h.count, h.limit_is);
    one = f.one;
  };
  unfed = h.unfed;
}
stops_next old mid left between rest before during later line stop.Memory h f = record {
  bytes = h.bytes ++ f.bytes;
  taken = Consumes-trans left between rest h.bytes f.bytes h.taken f.taken;
  within = omega (arith, f.within, h.count, h.limit_is, length-append h.bytes f.bytes);
}

-- what is held found no memory
pub unkept_next : (old now : Buffer) (left rest : Option (List ℕ)) (before later : ℕ) (line : ScriptLine) → IsBegun old now left rest before later line → now.read ≤ now.limit → NextStops old left rest before later stop.Memory
unkept_next old now left rest before later line b within = record { bytes = b.bytes; taken = b.taken; within = omega (arith, b.count, b.limit, within) }

-- ---- while a line feed is held

contains-later : (b : ℕ) (bs : List ℕ) (k : ℕ) → (b == 10) ≡ false → k < length (b ∷ bs) → slice_index_or (b ∷ bs) k 10 ≡ 10 → Contains bs 10
contains-later b bs zero other inside there = let same = rw there at other in absurd cc
contains-later b bs (suc k) other inside there = (k, omega (arith, inside), there)

unfed-later : (b : ℕ) (bs : List ℕ) → (b == 10) ≡ false → IsUnfed (b ∷ bs) → IsUnfed bs
unfed-later b bs other unfed =
    let some = some_part 10 bs in
    let parts : (b ∷ some.0) ∷ some.1 ≡ (b ∷ bs) ∷ [] = rw (other, some.2) at unfed in
    some.2 ∙ cc

feed-cons : (b : ℕ) (bs : List ℕ) (t : Bool) → (b == 10) ≡ t → (Contains bs 10 → ¬ IsUnfed bs) → Contains (b ∷ bs) 10 → ¬ IsUnfed (b ∷ bs)
feed-cons b bs true ends later fed unfed = let parts : [] ∷ fed_parts bs ≡ (b ∷ bs) ∷ [] = rw ends at unfed in cc
feed-cons b bs false other later fed unfed = later (contains-later b bs fed.0 other fed.1 fed.2) (unfed-later b bs other unfed)

feed-ends : (text : List ℕ) → Contains text 10 → ¬ IsUnfed text
feed-ends [] fed unfed = omega (arith, fed.1)
feed-ends (b ∷ bs) fed unfed = feed-cons b bs (b == 10) refl (feed-ends bs) fed unfed

-- where a line feed was held, all that was held isn't read through without one
pub never_unfed : {A : Type 0} (old held : List ℕ) → (Contains old 10 → A × (held ≡ old)) → IsUnfed held → ¬ Contains old 10
never_unfed old held prompt unfed fed = feed-ends old fed (subst IsUnfed (prompt fed).1 unfed)

-- ---- one line of what is held

behind_cut : (items held piece behind : List ℕ) (at : ℕ) → held ≡ drop at items → IsCutAt 10 held piece behind → drop (at + (length piece + 1)) items ≡ behind
behind_cut items held piece behind at is c =
    let front : piece ++ 10 ∷ behind ≡ (piece ++ 10 ∷ []) ++ behind = sym (append_assoc piece (10 ∷ []) behind) in
    let size : length (piece ++ 10 ∷ []) ≡ length piece + 1 = length-append piece (10 ∷ []) in
    sym (drop-drop (length piece + 1) at items) ∙ (ap (drop (length piece + 1)) (sym is ∙ (c.joined ∙ front)) ∙ drop_at (piece ++ 10 ∷ []) behind (length piece + 1) size)

-- what is held was cut at its first line feed
pub ends_at : (items held piece behind : List ℕ) (at read limit : ℕ) (line longer : ScriptLine) → held ≡ drop at items → IsCutAt 10 held piece behind → longer ≡ with_piece line piece → read ≤ limit
    → Ends (record { held = drop at items; read = read; limit = limit }) (record { held = drop (at + (length piece + 1)) items; read = read; limit = limit }) line longer
ends_at items held piece behind at read limit line longer is c longer_is within =
    let rest = behind_cut items held piece behind at is c in
    record {
      piece = piece;
      parts = ap fed_parts (sym is) ∙ (c.parts ∙ ap (λ (l : List ℕ). piece ∷ fed_parts l) (sym rest));
      shorter = omega (arith, ap length is, ap length c.joined, length-append piece (10 ∷ behind), ap length rest);
      longer_is = longer_is;
      read = refl;
      limit = refl;
      within = within;
    }
