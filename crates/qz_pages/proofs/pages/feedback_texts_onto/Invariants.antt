use Rattle.std.proofs.Common.{◌≡◌, ◌++◌, flat_map, string_bytes, take}
use Rattle.qz_pages.specs.Pages.{feedback_html}
use Rattle.qz_pages.proofs.pages.feedback_texts_onto.Given as goal

abbrev pub invariant-loop-text : goal.invariant-loop-text
invariant-loop-text l = string_bytes l.out ≡ string_bytes l.initial.out ++ flat_map feedback_html (take l.text-index l.texts)
