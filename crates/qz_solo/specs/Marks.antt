-- The marks of an attempt, and what a page shows of them.
use Rattle.std.specs.Prelude.{ℤ, List, Option, Some, None, filter_map}
use Rattle.qz_grading.specs.declared.refusal.AttemptId.{AttemptId}
use Rattle.qz_terms.specs.declared.record.Record.{Record}
use Rattle.qz_terms.specs.declared.reply.Part.{Part}
use Rattle.qz_terms.specs.declared.reply.Shown.{Shown}
use Rattle.qz_terms.specs.declared.reply.Shown.TheVariants as shown
use Rattle.qz_terms.specs.History.{mark_in, slots}

-- the marks of an attempt's slots
abbrev pub marks_of : List Record → AttemptId → List ℤ
marks_of h a = filter_map mark_in (slots h a)

-- the mark that is shown of a slot, if there is one
abbrev pub shown_by : Shown ℤ → Option ℤ
shown_by shown.None = None
shown_by shown.Hidden = None
shown_by (shown.Value mark) = Some mark

abbrev pub shown_mark : Part → Option ℤ
shown_mark p = shown_by p.mark
