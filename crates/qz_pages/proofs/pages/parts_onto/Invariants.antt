use Rattle.std.proofs.Common.{◌≡◌, ◌++◌, map, string_bytes, take}
use Rattle.qz_pages.specs.Pages.{ended, slot_line}
use Rattle.qz_pages.proofs.pages.parts_onto.Given as goal

abbrev pub invariant-loop-part : goal.invariant-loop-part
invariant-loop-part l = string_bytes l.out ≡ string_bytes l.initial.out ++ ended (map slot_line (take l.part-index l.parts))
