-- Worked lists that are alike for bob, whether ann is there or not, and two that aren't.
use Rattle.std.specs.Prelude.{◌≡◌, ℕ, false, List, [], ◌∷◌, pos, Some, codes, refl, map, filter, length}
use Rattle.std.specs.List.{list_all}
use Rattle.qz_grading.specs.declared.refusal.AttemptId.{AttemptId}
use Rattle.qz_grading.specs.declared.refusal.Refusal.TheVariants as refusal
use Rattle.qz_grading.specs.declared.response.Answer.TheVariants as answer
use Rattle.qz_grading.specs.declared.response.Step.TheVariants as step
use Rattle.qz_terms.specs.declared.ask.Ask.{Ask}
use Rattle.qz_terms.specs.declared.people.Role.TheVariants as role
use Rattle.qz_terms.specs.declared.people.User.{User}
use Rattle.qz_terms.specs.declared.record.Event.TheVariants as event
use Rattle.qz_terms.specs.declared.record.Record.{Record}
use Rattle.qz_terms.specs.declared.reply.Done.TheVariants as done
use Rattle.qz_terms.specs.declared.reply.Reply.{Reply}
use Rattle.qz_terms.specs.declared.reply.Reply.TheVariants as reply
use Rattle.qz_terms.specs.declared.reply.Shown.TheVariants as shown
use Rattle.qz_terms.specs.declared.request.Request.TheVariants as request
use Rattle.qz_terms.specs.Answer.{answer_here, list_after}
use Rattle.qz_terms_examples.specs.ExamplesLegal.{ann, plan_at_7, terms}
use Rattle.qz_terms_examples.specs.ExamplesSchool.{asked_with, first_attempt, true_false}
use Rattle.qz_terms.specs.History as history
use Rattle.qz_terms.specs.Laws.{own_records}
use Rattle.qz_isolation.specs.Isolation.{asks_of_own}

abbrev bob : User
bob = record { number = 3; name = codes "bob"; role = role.Student; token = codes "bob" }

abbrev bobs : AttemptId
bobs = record { user = 3; nth = 1 }

abbrev start : User → Ask
start user = asked_with user.token (codes "k1") (request.Start 1)

abbrev save : User → AttemptId → Ask
save user a = asked_with user.token (codes "k2") (request.Save a 1 0 (answer.Pick 1))

abbrev finish : User → AttemptId → Ask
finish user a = asked_with user.token (codes "k3") (request.Finish a)

abbrev after : List Record → ℕ → User → Ask → List Record
after h now user ask = list_after h now user plan_at_7 ask

abbrev told : List Record → Ask → Reply
told h ask = answer_here h 140 bob plan_at_7 ask

-- ---- bob alone, and beside ann, who starts first and finishes in between

abbrev alone : List Record
alone = after (after [] 111 bob (start bob)) 121 bob (save bob bobs)

abbrev beside : List Record
beside = after (after (after (after [] 110 ann (start ann)) 111 bob (start bob)) 115 ann (finish ann first_attempt)) 121 bob (save bob bobs)

pub he_has_the_same_records : own_records 3 alone ≡ own_records 3 beside
he_has_the_same_records = refl

-- the first start learns the version that both bind
pub he_learns_it_alone : map {B = ℕ} (λ (r : Record). length (history.learned_by r.event)) (filter (history.is_owned 3) alone) ≡ 1 ∷ 0 ∷ []
he_learns_it_alone = refl

pub he_learns_nothing_behind_her : map {B = ℕ} (λ (r : Record). length (history.learned_by r.event)) (filter (history.is_owned 3) beside) ≡ 0 ∷ 0 ∷ []
he_learns_nothing_behind_her = refl

pub his_finish : told alone (finish bob bobs) ≡ reply.Ok 3 (done.Finished (shown.Value (pos 20000000)))
his_finish = refl

pub his_finish_beside_hers : told beside (finish bob bobs) ≡ reply.Ok 3 (done.Finished (shown.Value (pos 20000000)))
his_finish_beside_hers = refl

-- ---- where the version has another question, learned by her

abbrev otherwise : List Record
otherwise = after (after (list_after [] 110 ann (record plan_at_7 { questions = true_false (codes "Sky") false ∷ [] }) (start ann)) 111 bob (start bob)) 121 bob (save bob bobs)

pub he_has_the_same_records_then : own_records 3 alone ≡ own_records 3 otherwise
he_has_the_same_records_then = refl

pub and_another_total : told otherwise (finish bob bobs) ≡ reply.Ok 3 (done.Finished (shown.Value (pos 0)))
and_another_total = refl

-- ---- where he asked of her attempt, which a teacher may

abbrev meddling : List Record
meddling = record { moment = 112; caller = 3; owner = 2; key = Some (codes "k3"); terms = terms; event = event.Acted first_attempt 1 (step.Mark (pos 0) (pos 20000000)) } ∷ alone

pub of_another : list_all (asks_of_own 3) meddling ≡ false
of_another = refl

pub and_his_key_is_spent : told meddling (finish bob bobs) ≡ reply.Refused (refusal.KeyReused 1)
and_his_key_is_spent = refl
