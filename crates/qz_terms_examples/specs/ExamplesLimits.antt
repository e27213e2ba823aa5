-- Worked limits: what a request is answered where the counted quantity is one below its limit, and where it is at it.
use Rattle.std.specs.Prelude.{◌≡◌, ℕ, ◌+◌, Bool, true, false, not, nat_lt, List, [], ◌∷◌, length, ℤ, Some, None, Option, option_map, unwrap_or, codes, refl}
use Rattle.std.proofs.Common.{ap, ◌∙◌}
use Rattle.qz_grading.specs.declared.question.Question.{Question}
use Rattle.qz_grading.specs.declared.refusal.Refusal.{Refusal}
use Rattle.qz_grading.specs.declared.refusal.Refusal.TheVariants as refusal
use Rattle.qz_grading.specs.declared.outcome.Behaviour.{Behaviour}
use Rattle.qz_grading.specs.Behaviours.{first_some, when}
use Rattle.qz_grading.specs.Canonical.{canonical_size}
use Rattle.qz_terms.specs.declared.people.Role.{Role}
use Rattle.qz_terms.specs.declared.people.User.{User}
use Rattle.qz_terms.specs.declared.plan.Plan.{Plan}
use Rattle.qz_terms.specs.declared.record.Event.TheVariants as event
use Rattle.qz_terms.specs.declared.record.Record.{Record}
use Rattle.qz_terms.specs.declared.request.Request.TheVariants as request
use Rattle.qz_terms.specs.declared.request.Whom.{Whom}
use Rattle.qz_terms.specs.declared.request.Whom.TheVariants as whom
use Rattle.qz_terms.specs.Access.{start_cause}
use Rattle.qz_terms.specs.Catalog as catalog
use Rattle.qz_terms.specs.Cause.{already_ready, bad_max, cause_here, cause_in, newer_version, override_count, too_many, unfinished_at}
use Rattle.qz_terms_examples.specs.ExamplesOverrides.{ann_has_300}
use Rattle.qz_terms_examples.specs.ExamplesSchool.{one_of, true_false}
use Rattle.qz_terms.specs.History as history
use Rattle.qz_terms.specs.Spelling.{spelling}

-- ---- users and groups

abbrev user_by : Option ℕ → ℕ → Option Refusal
user_by taken count = first_some (option_map refusal.KeyReused taken ∷ too_many 65535 count ∷ [])

pub last_user : (c : List Record) (r : Record) (name token : List ℕ) (role : Role) → catalog.token_place c token ≡ None → length (catalog.users c) ≡ 65534 → cause_in c r (request.User name role token) ≡ None
last_user c r name token role free count = ap (λ taken. user_by taken (length (catalog.users c))) free ∙ ap (user_by None) count

pub no_more_users : (c : List Record) (r : Record) (name token : List ℕ) (role : Role) → catalog.token_place c token ≡ None → length (catalog.users c) ≡ 65535 → cause_in c r (request.User name role token) ≡ Some (refusal.TooMany 65535)
no_more_users c r name token role free count = ap (λ taken. user_by taken (length (catalog.users c))) free ∙ ap (user_by None) count

pub last_group : (c : List Record) (r : Record) (name : List ℕ) → length (catalog.groups c) ≡ 999 → cause_in c r (request.Group name) ≡ None
last_group c r name count = ap (too_many 1000) count

pub no_more_groups : (c : List Record) (r : Record) (name : List ℕ) → length (catalog.groups c) ≡ 1000 → cause_in c r (request.Group name) ≡ Some (refusal.TooMany 1000)
no_more_groups c r name count = ap (too_many 1000) count

-- ---- the bank: an import is measured by its entries, then by its record

abbrev sky : Question
sky = true_false (codes "Sky") true

abbrev import_by : ℕ → ℕ → Option Refusal
import_by entries bytes = first_some (
    when (nat_lt 20000 (entries + 1)) (refusal.TooMany 20000)
    ∷ when (nat_lt 67108864 bytes) (refusal.TooMany 67108864)
    ∷ [])

pub no_more_entries : (c : List Record) (r : Record) → length (catalog.entries c) ≡ 20000 → cause_in c r (request.Import (one_of sky)) ≡ Some (refusal.TooMany 20000)
no_more_entries c r count = ap (λ n. import_by n (length (spelling r))) count

pub longest_import : (c : List Record) (r : Record) → length (catalog.entries c) ≡ 19999 → length (spelling r) ≡ 67108864 → cause_in c r (request.Import (one_of sky)) ≡ None
longest_import c r count bytes = ap (λ n. import_by n (length (spelling r))) count ∙ ap (import_by 19999) bytes

pub too_long_an_import : (c : List Record) (r : Record) → length (catalog.entries c) ≡ 19999 → length (spelling r) ≡ 67108865 → cause_in c r (request.Import (one_of sky)) ≡ Some (refusal.TooMany 67108864)
too_long_an_import c r count bytes = ap (λ n. import_by n (length (spelling r))) count ∙ ap (import_by 19999) bytes

-- ---- versions: their number first, then the size of the new one

abbrev change_by : ℕ → Option Question → Option Refusal
change_by versions newer = first_some (
    too_many 1000 versions
    ∷ when (unwrap_or (option_map (λ q. nat_lt 262144 (canonical_size q)) newer) false) (refusal.TooMany 262144)
    ∷ [])

abbrev size_by : ℕ → Option Refusal
size_by size = first_some (when (nat_lt 262144 size) (refusal.TooMany 262144) ∷ [])

pub no_more_versions : (c : List Record) (r : Record) (entry : ℕ) (q : Question) → catalog.latest c entry ≡ 1000 → cause_in c r (request.Edit entry q) ≡ Some (refusal.TooMany 1000)
no_more_versions c r entry q count = ap (λ n. change_by n (newer_version c entry (request.Edit entry q))) count

pub nor_by_tuning : (c : List Record) (r : Record) (entry : ℕ) (penalty : ℤ) (hints : List (List ℕ)) → catalog.latest c entry ≡ 1000 → cause_in c r (request.Tune entry penalty hints) ≡ Some (refusal.TooMany 1000)
nor_by_tuning c r entry penalty hints count = ap (λ n. change_by n (newer_version c entry (request.Tune entry penalty hints))) count

pub longest_version : (c : List Record) (r : Record) (entry : ℕ) (q newer : Question) → catalog.latest c entry ≡ 999 → newer_version c entry (request.Edit entry q) ≡ Some newer → canonical_size newer ≡ 262144 → cause_in c r (request.Edit entry q) ≡ None
longest_version c r entry q newer count is size = ap (λ n. change_by n (newer_version c entry (request.Edit entry q))) count ∙ (ap (change_by 999) is ∙ ap size_by size)

pub too_long_a_version : (c : List Record) (r : Record) (entry : ℕ) (q newer : Question) → catalog.latest c entry ≡ 999 → newer_version c entry (request.Edit entry q) ≡ Some newer → canonical_size newer ≡ 262145 → cause_in c r (request.Edit entry q) ≡ Some (refusal.TooMany 262144)
too_long_a_version c r entry q newer count is size = ap (λ n. change_by n (newer_version c entry (request.Edit entry q))) count ∙ (ap (change_by 999) is ∙ ap size_by size)

-- ---- quizzes, slots, overrides and jobs

pub last_quiz : (c : List Record) (r : Record) (name : List ℕ) (b : Behaviour) → length (catalog.quizzes c) ≡ 9999 → cause_in c r (request.Quiz name b) ≡ None
last_quiz c r name b count = ap (too_many 10000) count

pub no_more_quizzes : (c : List Record) (r : Record) (name : List ℕ) (b : Behaviour) → length (catalog.quizzes c) ≡ 10000 → cause_in c r (request.Quiz name b) ≡ Some (refusal.TooMany 10000)
no_more_quizzes c r name b count = ap (too_many 10000) count

abbrev slot_by : Option Refusal → Option Refusal → ℕ → Option Refusal
slot_by ready max count = first_some (ready ∷ max ∷ too_many 200 count ∷ [])

pub last_slot : (c : List Record) (r : Record) (quiz entry : ℕ) (max : ℤ) → already_ready c quiz ≡ None → bad_max c entry max ≡ None → length (catalog.slots c quiz) ≡ 199 → cause_in c r (request.Slot quiz entry max) ≡ None
last_slot c r quiz entry max unready good count = ap (λ ready. slot_by ready (bad_max c entry max) (length (catalog.slots c quiz))) unready ∙ (ap (λ bad. slot_by None bad (length (catalog.slots c quiz))) good ∙ ap (slot_by None None) count)

pub no_more_slots : (c : List Record) (r : Record) (quiz entry : ℕ) (max : ℤ) → already_ready c quiz ≡ None → bad_max c entry max ≡ None → length (catalog.slots c quiz) ≡ 200 → cause_in c r (request.Slot quiz entry max) ≡ Some (refusal.TooMany 200)
no_more_slots c r quiz entry max unready good count = ap (λ ready. slot_by ready (bad_max c entry max) (length (catalog.slots c quiz))) unready ∙ (ap (λ bad. slot_by None bad (length (catalog.slots c quiz))) good ∙ ap (slot_by None None) count)

pub no_more_overrides : (c : List Record) (r : Record) (quiz number : ℕ) (w : Whom) → override_count c ≡ 100000 → cause_in c r (request.Override quiz w number None None None None) ≡ Some (refusal.TooMany 100000)
no_more_overrides c r quiz number w count = ap (too_many 100000) count

pub last_override : (c : List Record) (r : Record) (quiz number : ℕ) (w : Whom) → override_count c ≡ 99999 → cause_in c r (request.Override quiz w number None None None None) ≡ None
last_override c r quiz number w count = ap (too_many 100000) count

-- two of the four requests are for one group, the second of which replaces the first
pub three_overrides : override_count ann_has_300.records ≡ 3
three_overrides = refl

abbrev limited : ℕ → Whom → Record
limited quiz w = record { moment = 0; caller = 1; owner = 0; key = None; terms = None; event = event.Asked (request.Override quiz w 2 None None (Some 60) None) }

-- what is set again for the same quiz and user counts once, and a group isn't a user
pub again_counts_once : override_count (limited 1 whom.User ∷ limited 1 whom.Group ∷ limited 1 whom.User ∷ []) ≡ 2
again_counts_once = refl

pub another_quiz_counts : override_count (limited 1 whom.User ∷ limited 1 whom.Group ∷ limited 1 whom.User ∷ limited 2 whom.User ∷ []) ≡ 3
another_quiz_counts = refl

abbrev regrade_by : Bool → ℕ → Option Refusal
regrade_by ready count = first_some (when (not ready) (refusal.NotOpen 0) ∷ too_many 100000 count ∷ [])

pub no_more_jobs : (c : List Record) (r : Record) (quiz : ℕ) → catalog.is_ready c quiz ≡ true → length (catalog.jobs c) ≡ 100000 → cause_in c r (request.Regrade quiz) ≡ Some (refusal.TooMany 100000)
no_more_jobs c r quiz ready count = ap (λ b. regrade_by b (length (catalog.jobs c))) ready ∙ ap (regrade_by true) count

pub last_job : (c : List Record) (r : Record) (quiz : ℕ) → catalog.is_ready c quiz ≡ true → length (catalog.jobs c) ≡ 99999 → cause_in c r (request.Regrade quiz) ≡ None
last_job c r quiz ready count = ap (λ b. regrade_by b (length (catalog.jobs c))) ready ∙ ap (regrade_by true) count

-- ---- attempts, where the settings refuse nothing

abbrev start_by : Option Refusal → ℕ → Option Refusal
start_by settings count = first_some (settings ∷ too_many 1000 count ∷ [])

abbrev by_settings : List Record → ℕ → User → Plan → ℕ → Option Refusal
by_settings h moment user plan quiz = start_cause plan.settings plan.ready moment (length (history.attempts h quiz user.number)) (unfinished_at h plan.settings quiz user.number moment)

pub last_attempt : (h : List Record) (moment : ℕ) (user : User) (plan : Plan) (quiz : ℕ) → by_settings h moment user plan quiz ≡ None → length (history.attempts h quiz user.number) ≡ 999 → cause_here h moment user plan (request.Start quiz) ≡ None
last_attempt h moment user plan quiz free count = ap (λ cause. start_by cause (length (history.attempts h quiz user.number))) free ∙ ap (start_by None) count

pub no_more_attempts : (h : List Record) (moment : ℕ) (user : User) (plan : Plan) (quiz : ℕ) → by_settings h moment user plan quiz ≡ None → length (history.attempts h quiz user.number) ≡ 1000 → cause_here h moment user plan (request.Start quiz) ≡ Some (refusal.TooMany 1000)
no_more_attempts h moment user plan quiz free count = ap (λ cause. start_by cause (length (history.attempts h quiz user.number))) free ∙ ap (start_by None) count
