-- Worked lines: versions, max marks, tokens, keys and what isn't there.
use Rattle.std.specs.Prelude.{◌≡◌, ℕ, Bool, true, false, List, [], ◌∷◌, map, pos, negsuc, codes, refl}
use Rattle.qz_grading.specs.declared.outcome.Behaviour.TheVariants.{Deferred}
use Rattle.qz_grading.specs.declared.outcome.State.TheVariants as state
use Rattle.qz_grading.specs.declared.question.Kind.TheVariants as kind
use Rattle.qz_grading.specs.declared.question.Question.{Question}
use Rattle.qz_grading.specs.declared.refusal.Refusal.TheVariants as refusal
use Rattle.qz_grading.specs.declared.refusal.Thing.TheVariants as thing
use Rattle.qz_grading.specs.declared.response.Answer.TheVariants as answer
use Rattle.qz_terms.specs.declared.ask.Ask.{Ask}
use Rattle.qz_terms.specs.declared.people.Role.TheVariants as role
use Rattle.qz_terms.specs.declared.plan.Planned.{Planned}
use Rattle.qz_terms.specs.declared.reply.Done.TheVariants as done
use Rattle.qz_terms.specs.declared.reply.Reply.TheVariants as reply
use Rattle.qz_terms.specs.declared.reply.Shown.TheVariants as shown
use Rattle.qz_terms.specs.declared.request.Request.{Request}
use Rattle.qz_terms.specs.declared.request.Request.TheVariants as request
use Rattle.qz_terms.specs.Catalog as catalog
use Rattle.qz_terms_examples.specs.ExamplesFirstAttempt.{finished, saved, started}
use Rattle.qz_terms_examples.specs.ExamplesSchool.{School, asked_with, first_attempt, look, one_of, school, then_has, told, true_false}

abbrev root : List ℕ
root = codes "root"

abbrev ann : List ℕ
ann = codes "ann"

abbrev by_root : List ℕ → Request → Ask
by_root key x = asked_with root key x

-- ---- versions

abbrev sky : Bool → Question
sky right = true_false (codes "Sky") right

abbrev tuned : School
tuned = then_has school 100 (by_root (codes "t1") (request.Tune 1 (pos 5000000) (codes "Look up" ∷ [])))

abbrev edited : School
edited = then_has tuned 100 (by_root (codes "t2") (request.Edit 1 (sky false)))

pub a_second_version : told school 100 (by_root (codes "t1") (request.Tune 1 (pos 5000000) (codes "Look up" ∷ []))) ≡ reply.Ok 8 (done.Version 1 2)
a_second_version = refl

-- an edit keeps the penalty and the hints of the version before
pub a_third_version : told edited 100 (look root (request.Bank 1 3)) ≡ reply.Ok 9 (done.Gift (record (sky false) { penalty = pos 5000000; hints = codes "Look up" ∷ [] }))
a_third_version = refl

pub the_first_stays : told edited 100 (look root (request.Bank 1 1)) ≡ reply.Ok 9 (done.Gift (sky true))
the_first_stays = refl

pub no_fourth : told edited 100 (look root (request.Bank 1 4)) ≡ reply.Refused (refusal.Unknown thing.Version)
no_fourth = refl

pub no_zeroth : told edited 100 (look root (request.Bank 1 0)) ≡ reply.Refused (refusal.Unknown thing.Version)
no_zeroth = refl

-- ---- jobs pin what they bind

abbrev pinned : School
pinned = then_has (then_has finished 160 (by_root (codes "c1") (request.Edit 1 (sky false)))) 170 (by_root (codes "c2") (request.Regrade 1))

abbrev edited_again : School
edited_again = then_has pinned 175 (by_root (codes "c3") (request.Edit 1 (sky true)))

pub the_second_is_bound : told (then_has edited_again 180 (look root (request.Work 1 0))) 190 (look root (request.View first_attempt 1)) ≡ reply.Ok 4 (done.SlotView state.GradedWrong (shown.Value (pos 0)) 2 1)
the_second_is_bound = refl

-- ---- max marks

abbrev remaxed : School
remaxed = then_has (then_has school 100 (by_root (codes "m1") (request.Remax 1 1 (pos 50000000)))) 100 (by_root (codes "m2") (request.Remax 1 1 (pos 30000000)))

-- the last max mark is bound, and the grade is over it
pub the_last_max : map (λ (s : Planned). s.max) (catalog.slots remaxed.records 1) ≡ pos 30000000 ∷ []
the_last_max = refl

pub the_sum_of_them : (catalog.policy remaxed.records 1).sum ≡ pos 30000000
the_sum_of_them = refl

pub too_great : told school 100 (by_root (codes "m1") (request.Remax 1 1 (pos 100000000001))) ≡ reply.Refused (refusal.OutOfRange (pos 100000000000))
too_great = refl

pub below_zero : told school 100 (by_root (codes "m1") (request.Remax 1 1 (negsuc 0))) ≡ reply.Refused (refusal.OutOfRange (pos 100000000000))
below_zero = refl

-- a description has no marks
abbrev described : School
described = then_has (then_has school 100 (by_root (codes "d1") (request.Import (one_of (record (sky true) { kind = kind.Description }))))) 100 (by_root (codes "d2") (request.Quiz (codes "D") Deferred))

pub nothing_for_a_description : told described 100 (by_root (codes "d3") (request.Slot 2 2 (pos 10000000))) ≡ reply.Refused (refusal.OutOfRange (pos 0))
nothing_for_a_description = refl

pub but_zero : told described 100 (by_root (codes "d3") (request.Slot 2 2 (pos 0))) ≡ reply.Ok 10 (done.Slot 1)
but_zero = refl

-- a quiz that is ready refuses a slot before its max mark
pub ready_before_range : told school 100 (by_root (codes "d4") (request.Slot 1 1 (negsuc 0))) ≡ reply.Refused (refusal.Closed 7)
ready_before_range = refl

pub ready_once : told school 100 (by_root (codes "d5") (request.Ready 1)) ≡ reply.Refused (refusal.Closed 7)
ready_once = refl

-- an import of nothing has no first entry, and one of two has
pub nothing_imported : told school 100 (by_root (codes "i1") (request.Import (record { items = [] }))) ≡ reply.Ok 8 (done.Imported 0 0)
nothing_imported = refl

pub two_imported : told school 100 (by_root (codes "i1") (request.Import (record { items = record { category = []; question = sky true } ∷ record { category = []; question = sky false } ∷ [] }))) ≡ reply.Ok 8 (done.Imported 2 2)
two_imported = refl

-- a job pins what stands at its position: nothing is bound to slots that a later quiz has, and jobs are counted
pub one_job : told pinned 180 (look root request.Jobs) ≡ reply.Ok 9 (done.Jobs 1)
one_job = refl

-- ---- tokens and keys

-- a token that a user has, with the place of the record that made this user
pub token_is_taken : told school 100 (by_root (codes "u1") (request.User (codes "eve") role.Teacher (codes "bob"))) ≡ reply.Refused (refusal.KeyReused 3)
token_is_taken = refl

-- a key that stands decides before the token
pub key_decides_first : told school 100 (by_root (codes "a1") (request.User (codes "eve") role.Teacher (codes "bob"))) ≡ reply.Refused (refusal.KeyReused 2)
key_decides_first = refl

pub same_request_again : told school 900 (by_root (codes "a2") (request.User (codes "bob") role.Student (codes "bob"))) ≡ reply.Ok 3 (done.Made 3)
same_request_again = refl

-- what isn't there comes before a key
pub missing_before_key : told school 100 (by_root (codes "a6") (request.Ready 2)) ≡ reply.Refused (refusal.Unknown thing.Quiz)
missing_before_key = refl

-- ---- what isn't there, in the order of the words

pub group_before_user : told school 100 (by_root (codes "g1") (request.Member 1 9)) ≡ reply.Refused (refusal.Unknown thing.Group)
group_before_user = refl

pub quiz_before_user : told school 100 (look ann (request.Grade 2 3)) ≡ reply.Refused (refusal.Unknown thing.Quiz)
quiz_before_user = refl

pub another_user : told school 100 (look ann (request.Grade 1 3)) ≡ reply.Refused (refusal.Unknown thing.User)
another_user = refl

pub no_such_user : told school 100 (look root (request.Grade 1 9)) ≡ reply.Refused (refusal.Unknown thing.User)
no_such_user = refl

pub no_such_slot : told started 120 (asked_with ann (codes "k2") (request.Save first_attempt 2 0 (answer.Pick 1))) ≡ reply.Refused (refusal.Unknown thing.Slot)
no_such_slot = refl

-- a quiz that isn't ready is neither started nor regraded
abbrev unready : School
unready = then_has school 100 (by_root (codes "q1") (request.Quiz (codes "R") Deferred))

pub not_started : told unready 110 (asked_with ann (codes "k1") (request.Start 2)) ≡ reply.Refused (refusal.NotOpen 0)
not_started = refl

pub not_regraded : told unready 110 (by_root (codes "q2") (request.Regrade 2)) ≡ reply.Refused (refusal.NotOpen 0)
not_regraded = refl

-- ---- the same response, and a misfit

pub same_again : told saved 125 (asked_with ann (codes "k7") (request.Save first_attempt 1 0 (answer.Pick 1))) ≡ reply.Ok 3 (done.Same state.Complete shown.None)
same_again = refl

pub a_third_choice : told started 125 (asked_with ann (codes "k7") (request.Save first_attempt 1 0 (answer.Pick 3))) ≡ reply.Refused refusal.Misfit
a_third_choice = refl
