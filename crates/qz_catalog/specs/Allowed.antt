-- Which records may stand behind those of a catalogue, as tests.
use Rattle.std.specs.Prelude.{ℕ, Bool, true, false, ◌&&◌, ◌==◌, List, Option, option_map, unwrap_or, is_none, is_some}
use Rattle.qz_grading.specs.Grading.{at_place}
use Rattle.qz_terms.specs.declared.people.User.{User}
use Rattle.qz_terms.specs.declared.record.Event.{Event}
use Rattle.qz_terms.specs.declared.record.Event.TheVariants as event
use Rattle.qz_terms.specs.declared.record.Record.{Record}
use Rattle.qz_terms.specs.declared.request.Request.{Request}
use Rattle.qz_terms.specs.declared.request.Request.TheVariants as request
use Rattle.qz_terms.specs.Catalog.{users}
use Rattle.qz_terms.specs.CatalogAnswer.{moment_in}
use Rattle.qz_terms.specs.Cause.{by_key, cause_in, forbidden, keeps_request, missing_in}
use Rattle.qz_catalog.specs.Applying.{stand_in}

-- a request that gives an entry a new version
abbrev pub is_change : Request → Bool
is_change (request.Edit entry gift) = true
is_change (request.Tune entry penalty hints) = true
is_change x = false

-- the user of this number is there and may ask this
abbrev pub is_permitted : List Record → ℕ → Request → Bool
is_permitted c n x = unwrap_or (option_map (λ (u : User). is_none (forbidden u x)) (at_place (users c) n)) false

-- nothing stands against a request of this caller under this key
abbrev pub can_be_asked : List Record → ℕ → Option (List ℕ) → Request → Bool
can_be_asked c caller key x =
    is_some key
    && (is_permitted c caller x && (is_none (missing_in c x) && (is_none (by_key (keeps_request x) caller key c) && is_none (cause_in c (stand_in key x) x))))

abbrev pub can_stand_by : List Record → Record → Event → Bool
can_stand_by c r (event.Asked x) = can_be_asked c r.caller r.key x
can_stand_by c r e = false

-- a user's request put it, behind at least one record
abbrev pub can_stand : List Record → Record → Bool
can_stand c r = (r.owner == 0) && (is_none r.terms && ((moment_in c r.moment == r.moment) && can_stand_by c r r.event))

abbrev pub is_founding : Event → Bool
is_founding (event.Founded shards token) = true
is_founding e = false

-- it may stand behind no record
abbrev pub can_begin : Record → Bool
can_begin r = (r.owner == 0) && (is_none r.terms && is_founding r.event)
