-- The lines of a script that are answered in turn.
use Rattle.std.proofs.Common.{◌≡◌, ◌⊎◌, ℕ, ◌<◌, ◌≤◌, Bool, true, false, ◌==◌, List, [], ◌∷◌, ◌++◌, length, take, Option, Some, None, Ok, Err, Result, MatchResult, refl, sym, ap, ◌∙◌, subst, inl, inr, append-nil, append_assoc, length-append, arith}
use Rattle.std.specs.Io.KnownBytes.{Appends, Consumes, Keeps}
use Rattle.std.specs.List.{onto_first}
use Rattle.std.proofs.KnownBytes.{Appends-kept, Appends-nil, Appends-trans, Consumes-nil, Consumes-trans}
use Rattle.std.proofs.lemmas.List.{take_at}
use Rattle.qz_outside.specs.Causes.{HasRisen}
use Rattle.qz_outside.specs.Sources.{AppendsFront}
use Rattle.qz_terms.specs.declared.reply.Reply.{Reply}
use Rattle.qz_script.specs.declared.script_input.Given.TheVariants as given
use Rattle.qz_script.specs.declared.script_line.ScriptLine.{ScriptLine}
use Rattle.qz_ending.specs.declared.stop.Stop.{Stop}
use Rattle.qz_ending.specs.declared.stop.Stop.TheVariants as stop
use Rattle.qz_script.specs.ScriptLines.{kept, kept_item}
use Rattle.qz_ending.specs.Endings.{Outside, status_of}
use Rattle.qz_script.specs.Inputs.{Buffer, GivesNext, NextStops, fed_parts}
use Rattle.qz_wire.specs.Lines.{lines_of}
use Rattle.qz_replies.specs.Replies.{reply_line}
use Rattle.qz_script.specs.Retries.{GoesOnce, Seen}
use Rattle.qz_script.specs.Scripts.{AnswersLine, AnswerStops, Answered, AreFirst, LeavesLine, Says, SayStops, ScriptCut, ScriptDone, ServeEnds, ServesAll, but_last, ended_lines}
use Rattle.qz_script.proofs.RetryLemmas.{nothing_answered, one_more_answered}
use Rattle.qz_wire.proofs.PartLemmas.{glued, glued-more, parts-append, some_part}

-- ---- one line

-- nothing of it was written
none_written : (old new : Option (List ℕ)) (bytes : List ℕ) → Keeps old new → AppendsFront old new bytes
none_written old new bytes kept = record { front = []; rest = bytes; split = refl; appends = Appends-kept old old new [] (Appends-nil old) kept }

-- all of it was
all_written : (old new : Option (List ℕ)) (bytes : List ℕ) → Appends old new bytes → AppendsFront old new bytes
all_written old new bytes written = record { front = bytes; rest = []; split = sym (append-nil bytes); appends = written }

-- what comes of saying the reply to a line comes of the line
pub answers : {E : Type 0} (a b : Seen) (old new : Option (List ℕ)) (before now : ℕ) (line : ScriptLine) (r : Reply) (result : Result E Stop) → GoesOnce a b (kept_item line) r
    → MatchResult result (λ x. Says old new before now r) (SayStops old new before now r)
    → MatchResult result (λ x. AnswersLine a b old new before now line) (AnswerStops a b old new before now line)
answers a b old new before now line r (Ok x) goes says = record { reply = r; goes = goes; says = says }
answers a b old new before now line r (Err stop.SinkFault) goes says = (record { reply = r; goes = goes; written = says.0 }, says.1)
answers a b old new before now line r (Err stop.Memory) goes says = inr (record { reply = r; goes = goes; written = none_written old new (reply_line r) says })
answers a b old new before now line r (Err stop.BadWords) goes says = absurd says
answers a b old new before now line r (Err stop.ShelfFault) goes says = absurd says
answers a b old new before now line r (Err stop.Refused) goes says = absurd says
answers a b old new before now line r (Err stop.DoorFault) goes says = absurd says
answers a b old new before now line r (Err stop.Gap) goes says = absurd says
answers a b old new before now line r (Err (stop.Unreadable n rule)) goes says = absurd says
answers a b old new before now line r (Err (stop.Malformed n)) goes says = absurd says
answers a b old new before now line r (Err stop.SourceFault) goes says = absurd says
answers a b old new before now line r (Err stop.TooLong) goes says = absurd says

-- ---- the lines of what was read

-- the last part, if it isn't empty
abbrev unended : List ℕ → List (List ℕ)
unended [] = []
unended (c ∷ cs) = (c ∷ cs) ∷ []

abbrev lines_by : List (List ℕ) → List (List ℕ)
lines_by [] = []
lines_by (x ∷ []) = unended x
lines_by (x ∷ y ∷ ys) = x ∷ lines_by (y ∷ ys)

lines_by-onto : (b : ℕ) (w : List ℕ) (ws : List (List ℕ)) → onto_first b (lines_by (w ∷ ws)) ≡ lines_by ((b ∷ w) ∷ ws)
lines_by-onto b [] [] = refl
lines_by-onto b (c ∷ cs) [] = refl
lines_by-onto b w (v ∷ vs) = refl

lines_of-cons : (b : ℕ) (bs : List ℕ) (t : Bool) → (b == 10) ≡ t → lines_of bs ≡ lines_by (fed_parts bs) → lines_of (b ∷ bs) ≡ lines_by (fed_parts (b ∷ bs))
lines_of-cons b bs true ends rest = let some = some_part 10 bs in rw (ends, rest, some.2) refl
lines_of-cons b bs false goes_on rest = let some = some_part 10 bs in rw (goes_on, rest, some.2) (lines_by-onto b some.0 some.1)

lines_of-parts : (text : List ℕ) → lines_of text ≡ lines_by (fed_parts text)
lines_of-parts [] = refl
lines_of-parts (b ∷ bs) = lines_of-cons b bs (b == 10) refl (lines_of-parts bs)

lines_by-more : (lines : List (List ℕ)) (x : List ℕ) (xs : List (List ℕ)) → lines_by (lines ++ x ∷ xs) ≡ lines ++ lines_by (x ∷ xs)
lines_by-more [] x xs = refl
lines_by-more (y ∷ []) x xs = refl
lines_by-more (y ∷ z ∷ zs) x xs = ap (λ (l : List (List ℕ)). y ∷ l) (lines_by-more (z ∷ zs) x xs)

but_last-more : (lines : List (List ℕ)) (x : List ℕ) (xs : List (List ℕ)) → but_last (lines ++ x ∷ xs) ≡ lines ++ but_last (x ∷ xs)
but_last-more [] x xs = refl
but_last-more (y ∷ []) x xs = refl
but_last-more (y ∷ z ∷ zs) x xs = ap (λ (l : List (List ℕ)). y ∷ l) (but_last-more (z ∷ zs) x xs)

unended-some : (text : List ℕ) → 0 < length text → unended text ≡ text ∷ []
unended-some [] some = absurd (omega arith)
unended-some (c ∷ cs) some = refl

-- the lines of a text whose last part isn't ended
lines_of-unended : (bytes text : List ℕ) (lines : List (List ℕ)) → fed_parts bytes ≡ lines ++ text ∷ [] → lines_of bytes ≡ lines ++ unended text
lines_of-unended bytes text lines parts = lines_of-parts bytes ∙ (ap lines_by parts ∙ lines_by-more lines text [])

ended_lines-unended : (bytes text : List ℕ) (lines : List (List ℕ)) → fed_parts bytes ≡ lines ++ text ∷ [] → ended_lines bytes ≡ lines
ended_lines-unended bytes text lines parts = ap but_last parts ∙ (but_last-more lines text [] ∙ append-nil lines)

-- lines with a part behind them are the first
are_first : (bytes : List ℕ) (left : Option (List ℕ)) (lines : List (List ℕ)) (x : List ℕ) (xs : List (List ℕ)) → fed_parts bytes ≡ lines ++ x ∷ xs → AreFirst lines bytes left
are_first bytes left lines x xs parts = inl (but_last (x ∷ xs), ap but_last parts ∙ but_last-more lines x xs)

-- more bytes behind what is held
parts-more : (bytes held more : List ℕ) (lines : List (List ℕ)) → fed_parts bytes ≡ lines ++ fed_parts held → fed_parts (bytes ++ more) ≡ lines ++ fed_parts (held ++ more)
parts-more bytes held more lines parts =
    let some = some_part 10 held in
    let there : fed_parts bytes ≡ lines ++ some.0 ∷ some.1 = parts ∙ ap (λ (l : List (List ℕ)). lines ++ l) some.2 in
    let here : glued (some.0 ∷ some.1) (fed_parts more) ≡ fed_parts (held ++ more) = ap (λ (l : List (List ℕ)). glued l (fed_parts more)) (sym some.2) ∙ sym (parts-append 10 held more) in
    parts-append 10 bytes more ∙ (ap (λ (l : List (List ℕ)). glued l (fed_parts more)) there ∙ (glued-more lines some.0 some.1 (fed_parts more) ∙ ap (λ (l : List (List ℕ)). lines ++ l) here))

-- ---- a script that goes on

-- these bytes were read, and these of their lines answered; what is held is behind them
pub record IsServed (a b : Seen) (left rest holds written : Option (List ℕ)) (before now early late : ℕ) (buffer : Buffer) (limit : ℕ) : Type 0 where
  pub bytes : List ℕ
  pub lines : List (List ℕ)
  pub output : List ℕ
  pub taken : Consumes left rest bytes
  pub count : buffer.read ≡ length bytes
  pub limit_is : buffer.limit ≡ limit
  pub within : length bytes ≤ limit
  pub parts : fed_parts bytes ≡ lines ++ fed_parts buffer.held
  pub answered : Answered a b lines output
  pub appends : Appends holds written output
  pub read_later : before ≤ now
  pub written_later : early ≤ late

pub serves_none : (a : Seen) (left holds : Option (List ℕ)) (before early : ℕ) (buffer : Buffer) (limit : ℕ) → buffer ≡ record { held = []; read = 0; limit = limit } → IsServed a a left left holds holds before before early early buffer limit
serves_none a left holds before early buffer limit fresh = rw fresh (record {
  bytes = [];
  lines = [];
  output = [];
  taken = Consumes-nil left;
  count = refl;
  limit_is = refl;
  within = omega arith;
  parts = refl;
  answered = nothing_answered a;
  appends = Appends-nil holds;
  read_later = omega arith;
  written_later = omega arith;
})

-- a line was given, and answered
pub serves_line : (a b c : Seen) (left between rest holds written wrote : Option (List ℕ)) (before during now early mid late : ℕ) (old new : Buffer) (limit : ℕ) (line : ScriptLine) → IsServed a b left between holds written before during early mid old limit
    → GivesNext old new between rest during now (given.Line line) → AnswersLine b c written wrote mid late line → IsServed a c left rest holds wrote before now early late new limit
serves_line a b c left between rest holds written wrote before during now early mid late old new limit line s n o = record {
  bytes = s.bytes ++ n.bytes;
  lines = s.lines ++ n.gives.front ∷ [];
  output = s.output ++ reply_line o.reply;
  taken = Consumes-trans left between rest s.bytes n.bytes s.taken n.reads.taken;
  count = omega (arith, n.reads.count, s.count, length-append s.bytes n.bytes);
  limit_is = n.reads.limit ∙ s.limit_is;
  within = omega (arith, n.reads.count, s.count, length-append s.bytes n.bytes, n.reads.within, n.reads.limit, s.limit_is);
  parts = parts-more s.bytes old.held n.bytes s.lines s.parts ∙ (ap (λ (l : List (List ℕ)). s.lines ++ l) n.gives.parts ∙ sym (append_assoc s.lines (n.gives.front ∷ []) (fed_parts new.held)));
  answered = one_more_answered a b c s.lines n.gives.front s.output o.reply s.answered (subst (λ (l : ScriptLine). GoesOnce b c (kept_item l) o.reply) n.gives.line_is o.goes);
  appends = Appends-trans holds written wrote s.output (reply_line o.reply) s.appends o.says.written;
  read_later = omega (arith, s.read_later, n.reads.later);
  written_later = omega (arith, s.written_later, o.says.later);
}

abbrev pub outside : Option (List ℕ) → ℕ → Option (List ℕ) → ℕ → Outside
outside left before holds early = record { left = left; source_faults = before; holds = holds; sink_faults = early }

-- nothing is left
pub ends_done : (a b : Seen) (left between rest holds written : Option (List ℕ)) (before during now early late : ℕ) (old new : Buffer) (limit : ℕ) → IsServed a b left between holds written before during early late old limit
    → GivesNext old new between rest during now given.End → ScriptDone limit a b (outside left before holds early) (outside rest now written late)
ends_done a b left between rest holds written before during now early late old new limit s n =
    let parts : fed_parts (s.bytes ++ n.bytes) ≡ s.lines ++ [] ∷ [] = parts-more s.bytes old.held n.bytes s.lines s.parts ∙ ap (λ (l : List ℕ). s.lines ++ fed_parts l) n.gives.0 in
    let lines : lines_of (s.bytes ++ n.bytes) ≡ s.lines = lines_of-unended (s.bytes ++ n.bytes) [] s.lines parts ∙ append-nil s.lines in
    record {
      bytes = s.bytes ++ n.bytes;
      output = s.output;
      taken = Consumes-trans left between rest s.bytes n.bytes s.taken n.reads.taken;
      at_end = n.gives.1;
      within = omega (arith, n.reads.count, s.count, length-append s.bytes n.bytes, n.reads.within, n.reads.limit, s.limit_is);
      answered = subst (λ (l : List (List ℕ)). Answered a b l s.output) (sym lines) s.answered;
      written = s.appends;
    }

-- no more could be read
pub ends_reading : (a b : Seen) (left between rest holds written : Option (List ℕ)) (before during now early late : ℕ) (old : Buffer) (limit : ℕ) (s : Stop) → IsServed a b left between holds written before during early late old limit
    → NextStops old between rest during now s → ServeEnds limit a b (outside left before holds early) (outside rest now written late) (Some s)
ends_reading a b left between rest holds written before during now early late old limit stop.BadWords s n = absurd n
ends_reading a b left between rest holds written before during now early late old limit stop.ShelfFault s n = absurd n
ends_reading a b left between rest holds written before during now early late old limit stop.Refused s n = absurd n
ends_reading a b left between rest holds written before during now early late old limit stop.DoorFault s n = absurd n
ends_reading a b left between rest holds written before during now early late old limit stop.Gap s n = absurd n
ends_reading a b left between rest holds written before during now early late old limit (stop.Unreadable k rule) s n = absurd n
ends_reading a b left between rest holds written before during now early late old limit (stop.Malformed k) s n = absurd n
ends_reading a b left between rest holds written before during now early late old limit stop.SinkFault s n = absurd n
ends_reading a b left between rest holds written before during now early late old limit stop.SourceFault s n =
    let parts : fed_parts (s.bytes ++ n.bytes) ≡ s.lines ++ (old.held ++ n.bytes) ∷ [] = parts-more s.bytes old.held n.bytes s.lines s.parts ∙ ap (λ (l : List (List ℕ)). s.lines ++ l) n.unfed in
    record {
      bytes = s.bytes ++ n.bytes;
      output = s.output;
      taken = Consumes-trans left between rest s.bytes n.bytes s.taken n.taken;
      within = omega (arith, n.within, s.count, length-append s.bytes n.bytes, s.limit_is);
      risen = λ below. omega (arith, s.read_later, n.risen below);
      answered = subst (λ (l : List (List ℕ)). Answered a b l s.output) (sym (ended_lines-unended (s.bytes ++ n.bytes) (old.held ++ n.bytes) s.lines parts)) s.answered;
      written = s.appends;
    }
ends_reading a b left between rest holds written before during now early late old limit stop.TooLong s n =
    let parts : fed_parts (s.bytes ++ n.bytes) ≡ s.lines ++ (old.held ++ n.bytes) ∷ [] = parts-more s.bytes old.held n.bytes s.lines s.parts ∙ ap (λ (l : List (List ℕ)). s.lines ++ l) n.unfed in
    let full : length (s.bytes ++ n.bytes) ≡ limit = omega (arith, n.past.full, s.count, length-append s.bytes n.bytes, s.limit_is) in
    let whole : (s.bytes ++ n.bytes) ++ n.past.more ≡ s.bytes ++ (n.bytes ++ n.past.more) = append_assoc s.bytes n.bytes n.past.more in
    let inside : take limit (s.bytes ++ (n.bytes ++ n.past.more)) ≡ s.bytes ++ n.bytes = ap (take limit) (sym whole) ∙ take_at (s.bytes ++ n.bytes) n.past.more limit full in
    let lines : ended_lines (take limit (s.bytes ++ (n.bytes ++ n.past.more))) ≡ s.lines = ap ended_lines inside ∙ ended_lines-unended (s.bytes ++ n.bytes) (old.held ++ n.bytes) s.lines parts in
    record {
      bytes = s.bytes ++ (n.bytes ++ n.past.more);
      output = s.output;
      taken = Consumes-trans left between rest s.bytes (n.bytes ++ n.past.more) s.taken n.past.taken;
      past = omega (arith, full, ap length whole, length-append (s.bytes ++ n.bytes) n.past.more, n.past.one);
      answered = subst (λ (l : List (List ℕ)). Answered a b l s.output) (sym lines) s.answered;
      written = s.appends;
    }
ends_reading a b left between rest holds written before during now early late old limit stop.Memory s n =
    let some = some_part 10 (old.held ++ n.bytes) in
    record {
      bytes = s.bytes ++ n.bytes;
      lines = s.lines;
      output = s.output;
      taken = Consumes-trans left between rest s.bytes n.bytes s.taken n.taken;
      within = omega (arith, n.within, s.count, length-append s.bytes n.bytes, s.limit_is);
      first = are_first (s.bytes ++ n.bytes) rest s.lines some.0 some.1 (parts-more s.bytes old.held n.bytes s.lines s.parts ∙ ap (λ (l : List (List ℕ)). s.lines ++ l) some.2);
      answered = s.answered;
      written = all_written holds written s.output s.appends;
    }

-- ---- a line that isn't answered to its end

-- what was written before, and a front of more
more_written : (holds written wrote : Option (List ℕ)) (output more : List ℕ) → Appends holds written output → AppendsFront written wrote more → AppendsFront holds wrote (output ++ more)
more_written holds written wrote output more before f = record {
  front = output ++ f.front;
  rest = f.rest;
  split = ap (λ (l : List ℕ). output ++ l) f.split ∙ sym (append_assoc output f.front f.rest);
  appends = Appends-trans holds written wrote output f.front before f.appends;
}

-- the lines before it are answered
unanswered_line : (a b c : Seen) (left rest holds written wrote : Option (List ℕ)) (before now early late limit : ℕ) (bytes output : List ℕ) (lines : List (List ℕ)) → Consumes left rest bytes → length bytes ≤ limit → Answered a b lines output → Appends holds written output
    → AreFirst lines bytes rest → c ≡ b → Keeps written wrote → ScriptCut limit a c (outside left before holds early) (outside rest now wrote late)
unanswered_line a b c left rest holds written wrote before now early late limit bytes output lines taken within answered appends first same kept = record {
  bytes = bytes;
  lines = lines;
  output = output;
  taken = taken;
  within = omega (arith, within);
  first = first;
  answered = subst (λ (s : Seen). Answered a s lines output) (sym same) answered;
  written = all_written holds wrote output (Appends-kept holds written wrote output appends kept);
}

-- it is answered, and its reply isn't written whole
left_line : (a b c : Seen) (left rest holds written wrote : Option (List ℕ)) (before now early late limit : ℕ) (bytes output front : List ℕ) (lines : List (List ℕ)) (line : ScriptLine) → Consumes left rest bytes → length bytes ≤ limit → Answered a b lines output → Appends holds written output
    → AreFirst (lines ++ front ∷ []) bytes rest → line ≡ kept front → LeavesLine b c written wrote line → ScriptCut limit a c (outside left before holds early) (outside rest now wrote late)
left_line a b c left rest holds written wrote before now early late limit bytes output front lines line taken within answered appends first line_is o = record {
  bytes = bytes;
  lines = lines ++ front ∷ [];
  output = output ++ reply_line o.reply;
  taken = taken;
  within = omega (arith, within);
  first = first;
  answered = one_more_answered a b c lines front output o.reply answered (subst (λ (l : ScriptLine). GoesOnce b c (kept_item l) o.reply) line_is o.goes);
  written = more_written holds written wrote output (reply_line o.reply) appends o.written;
}

-- so a script ends that stops at a line
stops_line : (a b c : Seen) (left rest holds written wrote : Option (List ℕ)) (before now early mid late limit : ℕ) (bytes output front : List ℕ) (lines : List (List ℕ)) (line : ScriptLine) (s : Stop) → Consumes left rest bytes → length bytes ≤ limit → Answered a b lines output → Appends holds written output
    → early ≤ mid → AreFirst lines bytes rest → AreFirst (lines ++ front ∷ []) bytes rest → line ≡ kept front → AnswerStops b c written wrote mid late line s → ServeEnds limit a c (outside left before holds early) (outside rest now wrote late) (Some s)
stops_line a b c left rest holds written wrote before now early mid late limit bytes output front lines line stop.BadWords taken within answered appends later without with_it line_is o = absurd o
stops_line a b c left rest holds written wrote before now early mid late limit bytes output front lines line stop.ShelfFault taken within answered appends later without with_it line_is o = absurd o
stops_line a b c left rest holds written wrote before now early mid late limit bytes output front lines line stop.Refused taken within answered appends later without with_it line_is o = absurd o
stops_line a b c left rest holds written wrote before now early mid late limit bytes output front lines line stop.DoorFault taken within answered appends later without with_it line_is o = absurd o
stops_line a b c left rest holds written wrote before now early mid late limit bytes output front lines line stop.Gap taken within answered appends later without with_it line_is o = absurd o
stops_line a b c left rest holds written wrote before now early mid late limit bytes output front lines line (stop.Unreadable n rule) taken within answered appends later without with_it line_is o = absurd o
stops_line a b c left rest holds written wrote before now early mid late limit bytes output front lines line (stop.Malformed n) taken within answered appends later without with_it line_is o = absurd o
stops_line a b c left rest holds written wrote before now early mid late limit bytes output front lines line stop.SourceFault taken within answered appends later without with_it line_is o = absurd o
stops_line a b c left rest holds written wrote before now early mid late limit bytes output front lines line stop.TooLong taken within answered appends later without with_it line_is o = absurd o
stops_line a b c left rest holds written wrote before now early mid late limit bytes output front lines line stop.SinkFault taken within answered appends later without with_it line_is o =
    (left_line a b c left rest holds written wrote before now early late limit bytes output front lines line taken within answered appends with_it line_is o.0, λ below. omega (arith, later, o.1 below))
stops_line a b c left rest holds written wrote before now early mid late limit bytes output front lines line stop.Memory taken within answered appends later without with_it line_is (inl k) =
    unanswered_line a b c left rest holds written wrote before now early late limit bytes output lines taken within answered appends without k.0 k.1
stops_line a b c left rest holds written wrote before now early mid late limit bytes output front lines line stop.Memory taken within answered appends later without with_it line_is (inr o) =
    left_line a b c left rest holds written wrote before now early late limit bytes output front lines line taken within answered appends with_it line_is o

-- it stopped at a line that a line feed ends
pub ends_at_line : (a b c : Seen) (left between rest holds written wrote : Option (List ℕ)) (before during now early mid late : ℕ) (old new : Buffer) (limit : ℕ) (line : ScriptLine) (s : Stop) → IsServed a b left between holds written before during early mid old limit
    → GivesNext old new between rest during now (given.Line line) → AnswerStops b c written wrote mid late line s → ServeEnds limit a c (outside left before holds early) (outside rest now wrote late) (Some s)
ends_at_line a b c left between rest holds written wrote before during now early mid late old new limit line s v n o =
    let some = some_part 10 new.held in
    let parts : fed_parts (v.bytes ++ n.bytes) ≡ v.lines ++ n.gives.front ∷ fed_parts new.held = parts-more v.bytes old.held n.bytes v.lines v.parts ∙ ap (λ (l : List (List ℕ)). v.lines ++ l) n.gives.parts in
    let behind : fed_parts (v.bytes ++ n.bytes) ≡ (v.lines ++ n.gives.front ∷ []) ++ some.0 ∷ some.1 = parts ∙ (sym (append_assoc v.lines (n.gives.front ∷ []) (fed_parts new.held)) ∙ ap (λ (l : List (List ℕ)). (v.lines ++ n.gives.front ∷ []) ++ l) some.2) in
    stops_line a b c left rest holds written wrote before now early mid late limit (v.bytes ++ n.bytes) v.output n.gives.front v.lines line s (Consumes-trans left between rest v.bytes n.bytes v.taken n.reads.taken) (omega (arith, n.reads.count, v.count, length-append v.bytes n.bytes, n.reads.within, n.reads.limit, v.limit_is)) v.answered v.appends v.written_later
    (are_first (v.bytes ++ n.bytes) rest v.lines n.gives.front (fed_parts new.held) parts) (are_first (v.bytes ++ n.bytes) rest (v.lines ++ n.gives.front ∷ []) some.0 some.1 behind) n.gives.line_is o

-- the last line, which the end of the source ends
pub ends_at_last : {E : Type 0} (a b c : Seen) (left between rest holds written wrote : Option (List ℕ)) (before during now early mid late : ℕ) (old new : Buffer) (limit : ℕ) (line : ScriptLine) (result : Result E Stop) → IsServed a b left between holds written before during early mid old limit
    → GivesNext old new between rest during now (given.Last line) → MatchResult result (λ x. AnswersLine b c written wrote mid late line) (AnswerStops b c written wrote mid late line)
    → MatchResult result (λ x. ServeEnds limit a c (outside left before holds early) (outside rest now wrote late) None) (λ s. ServeEnds limit a c (outside left before holds early) (outside rest now wrote late) (Some s))
ends_at_last a b c left between rest holds written wrote before during now early mid late old new limit line (Ok x) v n o =
    let text = old.held ++ n.bytes in
    let parts : fed_parts (v.bytes ++ n.bytes) ≡ v.lines ++ text ∷ [] = parts-more v.bytes old.held n.bytes v.lines v.parts ∙ ap (λ (l : List (List ℕ)). v.lines ++ l) n.gives.unfed in
    let lines : lines_of (v.bytes ++ n.bytes) ≡ v.lines ++ text ∷ [] = lines_of-unended (v.bytes ++ n.bytes) text v.lines parts ∙ ap (λ (l : List (List ℕ)). v.lines ++ l) (unended-some text n.gives.some) in
    let more : Answered a c (v.lines ++ text ∷ []) (v.output ++ reply_line o.reply) = one_more_answered a b c v.lines text v.output o.reply v.answered (subst (λ (l : ScriptLine). GoesOnce b c (kept_item l) o.reply) n.gives.line_is o.goes) in
    record {
      bytes = v.bytes ++ n.bytes;
      output = v.output ++ reply_line o.reply;
      taken = Consumes-trans left between rest v.bytes n.bytes v.taken n.reads.taken;
      at_end = n.gives.at_end;
      within = omega (arith, n.reads.count, v.count, length-append v.bytes n.bytes, n.reads.within, n.reads.limit, v.limit_is);
      answered = subst (λ (l : List (List ℕ)). Answered a c l (v.output ++ reply_line o.reply)) (sym lines) more;
      written = Appends-trans holds written wrote v.output (reply_line o.reply) v.appends o.says.written;
    }
ends_at_last a b c left between rest holds written wrote before during now early mid late old new limit line (Err s) v n o =
    let text = old.held ++ n.bytes in
    let parts : fed_parts (v.bytes ++ n.bytes) ≡ v.lines ++ text ∷ [] = parts-more v.bytes old.held n.bytes v.lines v.parts ∙ ap (λ (l : List (List ℕ)). v.lines ++ l) n.gives.unfed in
    let lines : lines_of (v.bytes ++ n.bytes) ≡ v.lines ++ text ∷ [] = lines_of-unended (v.bytes ++ n.bytes) text v.lines parts ∙ ap (λ (l : List (List ℕ)). v.lines ++ l) (unended-some text n.gives.some) in
    stops_line a b c left rest holds written wrote before now early mid late limit (v.bytes ++ n.bytes) v.output text v.lines line s (Consumes-trans left between rest v.bytes n.bytes v.taken n.reads.taken) (omega (arith, n.reads.count, v.count, length-append v.bytes n.bytes, n.reads.within, n.reads.limit, v.limit_is)) v.answered v.appends v.written_later
    (are_first (v.bytes ++ n.bytes) rest v.lines text [] parts) (inr (sym lines, n.gives.at_end)) n.gives.line_is o

-- ---- where nothing fails

inside_limit : (text bytes : List ℕ) (rest : Option (List ℕ)) (limit : ℕ) → Consumes (Some text) rest bytes → limit < length bytes → length text ≤ limit → ⊥
inside_limit text bytes None limit taken past within = taken
inside_limit text bytes (Some left) limit taken past within = omega (arith, ap length taken, length-append bytes left)

serves_within : (limit : ℕ) (a b : Seen) (old new : Outside) (s : Option Stop) (text : List ℕ) → ServeEnds limit a b old new s → old.left ≡ Some text → length text ≤ limit
    → ¬ HasRisen old.source_faults new.source_faults → ¬ HasRisen old.sink_faults new.sink_faults → (status_of s ≡ 0) ⊎ (status_of s ≡ 8)
serves_within limit a b old new None text e is within source sink = inl refl
serves_within limit a b old new (Some stop.BadWords) text e is within source sink = absurd e
serves_within limit a b old new (Some stop.ShelfFault) text e is within source sink = absurd e
serves_within limit a b old new (Some stop.Refused) text e is within source sink = absurd e
serves_within limit a b old new (Some stop.DoorFault) text e is within source sink = absurd e
serves_within limit a b old new (Some stop.Gap) text e is within source sink = absurd e
serves_within limit a b old new (Some (stop.Unreadable n rule)) text e is within source sink = absurd e
serves_within limit a b old new (Some (stop.Malformed n)) text e is within source sink = absurd e
serves_within limit a b old new (Some stop.SourceFault) text e is within source sink = absurd (source e.risen)
serves_within limit a b old new (Some stop.SinkFault) text e is within source sink = absurd (sink e.1)
serves_within limit a b old new (Some stop.Memory) text e is within source sink = inr refl
serves_within limit a b old new (Some stop.TooLong) text e is within source sink = absurd (inside_limit text e.bytes new.left limit (subst (λ (l : Option (List ℕ)). Consumes l new.left e.bytes) is e.taken) (omega (arith, e.past)) within)

pub serves_all : (limit : ℕ) (a b : Seen) (old new : Outside) (s : Option Stop) → ServeEnds limit a b old new s → ServesAll limit old new (status_of s)
serves_all limit a b old new s e = record { done = λ text is within source sink. serves_within limit a b old new s text e is within source sink }

-- nothing was read, and nothing written
pub none_served : (limit : ℕ) (a : Seen) (left : Option (List ℕ)) (before : ℕ) (holds : Option (List ℕ)) (early : ℕ) → ScriptCut limit a a (outside left before holds early) (outside left before holds early)
none_served limit a left before holds early = record {
  bytes = [];
  lines = [];
  output = [];
  taken = Consumes-nil left;
  within = omega arith;
  first = inl ([], refl);
  answered = nothing_answered a;
  written = record { front = []; rest = []; split = refl; appends = Appends-nil holds };
}
