-- What the parts of a catalogue's list are read as.
use Rattle.std.specs.Prelude.{ℕ, ℤ, List, Option, None, Some, if◌then◌else◌, filter_map, option_and_then, option_map, unwrap_or}
use Rattle.qz_grading.specs.Steps.{last_of}
use Rattle.qz_terms.specs.declared.access.Override.{Override}
use Rattle.qz_terms.specs.declared.access.Settings.{Settings}
use Rattle.qz_terms.specs.declared.grades.Method.{Method}
use Rattle.qz_terms.specs.declared.people.User.{User}
use Rattle.qz_terms.specs.declared.plan.Plan.{Plan}
use Rattle.qz_terms.specs.declared.plan.Planned.{Planned}
use Rattle.qz_terms.specs.declared.record.Record.{Record}
use Rattle.qz_terms.specs.declared.request.Whom.TheVariants as whom
use Rattle.qz_terms.specs.Catalog as catalog
use Rattle.qz_terms.specs.Catalog.{Person}
use Rattle.qz_catalog.specs.declared.people.Made.{Made}
use Rattle.qz_roster.specs.declared.quizzes.Slot.{Slot}

-- a user, as its record made it
abbrev pub user_in : Made → User
user_in m = record { number = m.number; name = m.name.now; role = m.role; token = m.token.now }

-- the name of the user that a record makes
abbrev pub made_name : Record → Option (List ℕ)
made_name r = option_map (λ (p : Person). p.name) (catalog.made_user r)

-- what is set otherwise for a group, if the user is a member of it
abbrev pub group_override : List Record → ℕ → ℕ → ℕ → Option Override
group_override c q u g = if catalog.is_member c g u then catalog.override c q whom.Group g else None

-- the last method and grade that are set, or those of a new quiz
abbrev pub policy_terms : List Record → ℕ → Method × ℤ
policy_terms c q = unwrap_or (last_of (filter_map (λ r. catalog.policy_by q (catalog.asked r)) c)) catalog.default_policy

-- a slot with its number, as all the records give it
abbrev pub slot_over : List Record → ℕ → ℕ × (ℕ × ℤ) → Planned
slot_over c q s = catalog.planned c q s.0 s.1.0 s.1.1

-- a slot with its entry's latest version
abbrev pub planned_by : List Record → Slot → Planned
planned_by c s = record { entry = s.entry; version = catalog.latest c s.entry; max = unwrap_or s.anew s.first }

-- a plan with the questions of its slots, as all the records give them
abbrev pub with_questions : List Record → Plan → Plan
with_questions c p = record p { questions = catalog.questions c p.slots }

abbrev pub settings_if_ready : Plan → Option Settings
settings_if_ready p = if p.ready then Some p.settings else None

-- the settings of a user at a quiz that is there and ready
abbrev pub ready_settings : List Record → ℕ → ℕ → Option Settings
ready_settings c q u = option_and_then settings_if_ready (catalog.plan c q u)
