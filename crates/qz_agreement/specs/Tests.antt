-- What is tested of a record's bounds and versions, and of the positions that it names.
use Rattle.std.specs.Ordering.{int_eq}
use Rattle.std.specs.Prelude.{ℕ, Bool, false, ◌&&◌, ◌==◌, List, nat_lt, Option, filter, option_map, unwrap_or}
use Rattle.qz_grading.specs.Sameness.{same_question}
use Rattle.qz_terms.specs.declared.plan.Bound.{Bound}
use Rattle.qz_terms.specs.declared.plan.Planned.{Planned}
use Rattle.qz_terms.specs.declared.record.Learned.{Learned}
use Rattle.qz_terms.specs.declared.record.Record.{Record}
use Rattle.qz_terms.specs.Catalog.{version}
use Rattle.qz_terms.specs.Lists.{first_of}
use Rattle.qz_terms.specs.Legal.{positions}

-- the catalogue has this question for the version
abbrev pub is_known : List Record → Learned → Bool
is_known c l = unwrap_or (option_map (λ q. same_question q l.question) (version c l.entry l.version)) false

-- the slot was bound so at this position
abbrev pub binds : ℕ → Planned → Bound → Bool
binds n s b = (b.entry == s.entry) && ((b.version == s.version) && (int_eq b.max s.max && (b.at == n)))

-- the first position that a record names past the end of so many
abbrev pub first_past : ℕ → Record → Option ℕ
first_past n r = first_of (filter (nat_lt n) (positions r))
