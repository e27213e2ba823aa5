-- Worked lines: tries at a question with one hint, and keys that are asked again.
use Rattle.std.specs.Prelude.{◌≡◌, ℕ, List, [], ◌∷◌, pos, Some, None, codes, refl}
use Rattle.qz_grading.specs.declared.outcome.Behaviour.TheVariants.{Interactive}
use Rattle.qz_grading.specs.declared.outcome.State.TheVariants as state
use Rattle.qz_grading.specs.declared.refusal.Refusal.TheVariants as refusal
use Rattle.qz_grading.specs.declared.refusal.Thing.TheVariants as thing
use Rattle.qz_grading.specs.declared.response.Answer.TheVariants as answer
use Rattle.qz_terms.specs.declared.ask.Ask.{Ask}
use Rattle.qz_terms.specs.declared.reply.Done.TheVariants as done
use Rattle.qz_terms.specs.declared.reply.Reply.TheVariants as reply
use Rattle.qz_terms.specs.declared.reply.Shown.TheVariants as shown
use Rattle.qz_terms.specs.declared.request.Request.TheVariants as request
use Rattle.qz_terms_examples.specs.ExamplesFirstAttempt.{finished, saved}
use Rattle.qz_terms_examples.specs.ExamplesSchool.{School, asked_with, first_attempt, look, then_has, told, with_sky}

abbrev root : List ℕ
root = codes "root"

abbrev ann : List ℕ
ann = codes "ann"

abbrev hinted : School
hinted = then_has with_sky 100 (asked_with root (codes "t1") (request.Tune 1 (pos 5000000) (codes "Look up" ∷ [])))

abbrev with_quiz : School
with_quiz = then_has hinted 100 (asked_with root (codes "t2") (request.Quiz (codes "Q") Interactive))

abbrev with_slot : School
with_slot = then_has with_quiz 100 (asked_with root (codes "t3") (request.Slot 1 1 (pos 20000000)))

abbrev with_all : School
with_all = then_has with_slot 100 (asked_with root (codes "t4") (request.Ready 1))

abbrev started_it : School
started_it = then_has with_all 110 (asked_with ann (codes "k1") (request.Start 1))

abbrev submit : List ℕ → ℕ → Ask
submit key n = asked_with ann key (request.Submit first_attempt 1 0 (answer.Pick n))

abbrev again : List ℕ → Ask
again key = asked_with ann key (request.Again first_attempt 1)

abbrev save : List ℕ → ℕ → Ask
save key n = asked_with ann key (request.Save first_attempt 1 0 (answer.Pick n))

abbrev tried : School
tried = then_has started_it 120 (submit (codes "k2") 2)

abbrev going_on : School
going_on = then_has tried 130 (again (codes "k3"))

abbrev ended_it : School
ended_it = then_has going_on 140 (submit (codes "k4") 1)

pub a_wrong_try : told started_it 120 (submit (codes "k2") 2) ≡ reply.Ok 2 (done.Stepped state.Todo shown.None)
a_wrong_try = refl

pub try_again_first : told tried 125 (save (codes "k9") 1) ≡ reply.Refused refusal.NeedsTryAgain
try_again_first = refl

-- the page shows the hint of the first try
pub the_hint : told tried 125 (look ann (request.Page first_attempt)) ≡ reply.Ok 2 (done.Page first_attempt (codes "Q") None (record { text = codes "Sky"; state = state.Todo; mark = shown.None; hint = Some (codes "Look up"); feedback = []; general = [] } ∷ []))
the_hint = refl

pub it_goes_on : told tried 130 (again (codes "k3")) ≡ reply.Ok 3 (done.Stepped state.Todo shown.None)
it_goes_on = refl

pub not_again_twice : told going_on 135 (again (codes "k9")) ≡ reply.Refused (refusal.WrongAction Interactive)
not_again_twice = refl

-- the second try, at half the mark
pub a_right_try : told going_on 140 (submit (codes "k4") 1) ≡ reply.Ok 4 (done.Stepped state.GradedRight (shown.Value (pos 10000000)))
a_right_try = refl

pub it_has_ended : told ended_it 150 (save (codes "k9") 1) ≡ reply.Refused (refusal.SlotEnded state.GradedRight)
it_has_ended = refl

-- ---- keys asked again: the reply of then, or a refusal that names its place

pub submit_again : told ended_it 150 (submit (codes "k2") 2) ≡ reply.Ok 2 (done.Stepped state.Todo shown.None)
submit_again = refl

pub another_choice : told ended_it 150 (submit (codes "k2") 1) ≡ reply.Refused (refusal.KeyReused 2)
another_choice = refl

pub no_save : told ended_it 150 (save (codes "k2") 2) ≡ reply.Refused (refusal.KeyReused 2)
no_save = refl

pub again_again : told ended_it 150 (again (codes "k3")) ≡ reply.Ok 3 (done.Stepped state.Todo shown.None)
again_again = refl

pub start_again : told ended_it 150 (asked_with ann (codes "k1") (request.Start 1)) ≡ reply.Ok 1 (done.Started first_attempt 1 None)
start_again = refl

pub bobs_key_is_his : told ended_it 150 (asked_with (codes "bob") (codes "k1") (request.Start 1)) ≡ reply.Ok 1 (done.Started (record { user = 3; nth = 1 }) 1 None)
bobs_key_is_his = refl

pub save_again : told finished 150 (save (codes "k2") 1) ≡ reply.Ok 2 (done.Stepped state.Complete shown.None)
save_again = refl

pub another_save : told finished 150 (save (codes "k2") 2) ≡ reply.Refused (refusal.KeyReused 2)
another_save = refl

pub a_certain_save : told finished 150 (asked_with ann (codes "k2") (request.Save first_attempt 1 1 (answer.Pick 1))) ≡ reply.Refused (refusal.KeyReused 2)
a_certain_save = refl

-- a noted one is answered as it was
abbrev noted_it : School
noted_it = then_has (then_has saved 125 (save (codes "k7") 1)) 130 (asked_with ann (codes "k3") (request.Finish first_attempt))

pub noted_again : told noted_it 150 (save (codes "k7") 1) ≡ reply.Ok 3 (done.Same state.Complete shown.None)
noted_again = refl

-- what isn't there comes before the key
pub missing_slot_first : told finished 150 (asked_with ann (codes "k2") (request.Save first_attempt 2 0 (answer.Pick 1))) ≡ reply.Refused (refusal.Unknown thing.Slot)
missing_slot_first = refl
