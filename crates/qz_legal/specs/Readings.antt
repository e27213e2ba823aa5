-- Versions that are new to a list.
use Rattle.std.specs.Prelude.{ℕ, Bool, false, not, ◌&&◌, ◌==◌, List, is_none, option_map, slice_get, unwrap_or}
use Rattle.std.specs.List.{list_any}
use Rattle.qz_terms.specs.declared.plan.Bound.{Bound}
use Rattle.qz_terms.specs.declared.plan.Planned.{Planned}
use Rattle.qz_terms.specs.declared.record.Learned.{Learned}
use Rattle.qz_terms.specs.declared.record.Record.{Record}
use Rattle.qz_terms.specs.History.{version}

-- a slot's version stands among those of earlier slots
abbrev pub stands_in : Planned → List Planned → Bool
stands_in s earlier = list_any (λ (t : Planned). (t.entry == s.entry) && (t.version == s.version)) earlier

-- it is new to the list, behind earlier slots
abbrev pub is_new : List Record → List Planned → Planned → Bool
is_new h earlier s = not (stands_in s earlier) && is_none (version h s.entry s.version)

-- the version that is bound stands among those of earlier bounds
abbrev pub binds_version : Bound → List Bound → Bool
binds_version b earlier = list_any (λ (c : Bound). (c.entry == b.entry) && (c.version == b.version)) earlier

-- it is new to the list, behind earlier bounds
abbrev pub binds_new : List Record → List Bound → Bound → Bool
binds_new h earlier b = not (binds_version b earlier) && is_none (version h b.entry b.version)

-- it is learned at this place, from 0
abbrev pub is_version_at : List Learned → ℕ → Bound → Bool
is_version_at learned place b = unwrap_or (option_map (λ (l : Learned). (l.entry == b.entry) && (l.version == b.version)) (slice_get learned place)) false
