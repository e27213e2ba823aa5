-- The plans that jobs pinned.
use Rattle.std.proofs.Common.{◌≡◌, ℕ, suc, ◌+◌, ◌≤◌, false, List, [], ◌∷◌, ◌++◌, Option, Some, None, length, map, take, option_map, refl, sym, ap, subst, ◌∙◌, arith, length-append, append-nil}
use Rattle.std.specs.List.{enumerate_from}
use Rattle.std.specs.Prelude.{ℤ, filter_map, option_and_then, option_to_list, unwrap_or}
use Rattle.std.proofs.lemmas.Grind.{flat_map-append}
use Rattle.std.proofs.lemmas.List.{length-take-le, map-append, take-append-le, take_all}
use Rattle.std.proofs.lemmas.List.Folds.{list_any-append}
use Rattle.qz_grading.proofs.StepLemmas.{or-false}
use Rattle.qz_grading.specs.declared.outcome.Behaviour.{Behaviour}
use Rattle.qz_grading.specs.declared.question.Item.{Item}
use Rattle.qz_grading.specs.declared.refusal.Refusal.TheVariants as refusal
use Rattle.qz_grading.specs.declared.refusal.Thing.TheVariants as thing
use Rattle.qz_grading.specs.Grading.{at_place}
use Rattle.qz_grading.specs.Steps.{last_of}
use Rattle.qz_terms.specs.declared.access.Settings.{Settings}
use Rattle.qz_terms.specs.declared.grades.Method.{Method}
use Rattle.qz_terms.specs.declared.plan.Job.{Job}
use Rattle.qz_terms.specs.declared.plan.Plan.{Plan}
use Rattle.qz_terms.specs.declared.plan.Planned.{Planned}
use Rattle.qz_terms.specs.declared.record.Record.{Record}
use Rattle.qz_terms.specs.declared.request.Request.{Request}
use Rattle.qz_terms.specs.declared.request.Request.TheVariants as request
use Rattle.qz_terms.specs.Catalog.{asked, changes, changes_by, default_policy, entries, imports_by, is_ready, job, job_with, jobs, latest, own_settings, plan_under, policy, policy_by, policy_with, questions, quiz_by, quizzes, readies, regrade_by, remax_by, remaxed, slot_by, slots, slots_made, times_by}
use Rattle.qz_terms.specs.Access.{default_settings}
use Rattle.qz_terms.specs.Cause.{missing_in}
use Rattle.qz_terms.specs.Legal.{IsLegalCatalog}
use Rattle.qz_terms.proofs.Walks.{all_of-push}
use Rattle.qz_roster.specs.Roster.{IsNext}
use Rattle.qz_roster.proofs.QuizLemmas.{IsSilent, got-at, silent}
use Rattle.qz_catalog.specs.Holdings.{ArePinned, IsPin, lean, pinned}
use Rattle.qz_catalog.specs.Readings.{policy_terms, slot_over, with_questions}
use Rattle.qz_catalog.proofs.Counting.{job-within, job_by, regrade-place}
use Rattle.qz_catalog.proofs.Staying.{questions-stay}

-- ---- a record that tells nothing of quizzes and entries

-- the same is told of a quiz
pub record IsSame (q : ℕ) (c g : List Record) : Type 0 where
  pub quizzes : quizzes g ≡ quizzes c
  pub ready : is_ready g q ≡ is_ready c q
  pub settings : own_settings g q ≡ own_settings c q
  pub policy : policy g q ≡ policy c q
  pub slots : slots g q ≡ slots c q

none-more : {A B : Type 0} (f : A → Option B) (xs : List A) (x : A) → f x ≡ None → filter_map f (xs ++ x ∷ []) ≡ filter_map f xs
none-more f xs x none = all_of-push f xs x ∙ ap (λ (o : Option _). filter_map f xs ++ option_to_list o) none ∙ append-nil (filter_map f xs)

last-same : {A B : Type 0} (f : A → Option B) (xs : List A) (x : A) → f x ≡ None → last_of (filter_map f (xs ++ x ∷ [])) ≡ last_of (filter_map f xs)
last-same f xs x none = ap last_of (none-more f xs x none)

regraded : (r : Record) (q n : ℕ) → asked r ≡ Some (request.Regrade q) → IsSilent n (asked r)
regraded r q n is = subst (IsSilent n) (sym is) (silent n (Some (request.Regrade q)) (λ m told. absurd cc))

latest-same : (c : List Record) (r : Record) (q entry : ℕ) → asked r ≡ Some (request.Regrade q) → latest (c ++ r ∷ []) entry ≡ latest c entry
latest-same c r q entry is =
    let changed : changes (c ++ r ∷ []) entry ≡ changes c entry = none-more (λ (s : Record). changes_by entry (asked s)) c r (ap (changes_by entry) is) in
    let imported : entries (c ++ r ∷ []) ≡ entries c = flat_map-append (λ (s : Record). imports_by (asked s)) c (r ∷ []) ∙ ap (λ (is : List Item). entries c ++ (is ++ [])) (ap imports_by is) ∙ append-nil (entries c) in
    rw (changed, imported) refl

laid-same : (c g : List Record) (q k : ℕ) (ss : List (ℕ × ℤ)) → ((n : ℕ) → remaxed g q n ≡ remaxed c q n) → ((n : ℕ) → latest g n ≡ latest c n) → map (slot_over g q) (enumerate_from k ss) ≡ map (slot_over c q) (enumerate_from k ss)
laid-same c g q k [] anew newest = refl
laid-same c g q k (s ∷ ss) anew newest =
    let head : slot_over g q (k, s) ≡ slot_over c q (k, s) = rw (anew k, newest s.0) refl in
    ap (λ (x : Planned). x ∷ map (slot_over g q) (enumerate_from (k + 1) ss)) head ∙ ap (λ (xs : List Planned). slot_over c q (k, s) ∷ xs) (laid-same c g q (k + 1) ss anew newest)

slots-same : (c : List Record) (r : Record) (q n : ℕ) → asked r ≡ Some (request.Regrade q) → slots (c ++ r ∷ []) n ≡ slots c n
slots-same c r q n is =
    let none = regraded r q n is in
    ap (λ (ss : List (ℕ × ℤ)). map (slot_over (c ++ r ∷ []) n) (enumerate_from 1 ss)) (none-more (λ (s : Record). slot_by n (asked s)) c r none.slots)
    ∙ laid-same c (c ++ r ∷ []) n 1 (slots_made c n) (λ k. last-same (λ (s : Record). remax_by n k (asked s)) c r (none.anew k)) (λ k. latest-same c r q k is)

regrade-same : (c : List Record) (r : Record) (q n : ℕ) → asked r ≡ Some (request.Regrade q) → IsSame n c (c ++ r ∷ [])
regrade-same c r q n is =
    let none = regraded r q n is in
    let laid = slots-same c r q n is in
    let terms : policy_terms (c ++ r ∷ []) n ≡ policy_terms c n = ap (λ (o : Option (Method × ℤ)). unwrap_or o default_policy) (last-same (λ (s : Record). policy_by n (asked s)) c r none.terms) in
    record {
      quizzes = none-more (λ (s : Record). quiz_by (asked s)) c r (ap quiz_by is);
      ready = list_any-append (readies n) c (r ∷ []) ∙ rw (none.ready r refl) (or-false (is_ready c n));
      settings = ap (λ (o : Option Settings). unwrap_or o default_settings) (last-same (λ (s : Record). times_by n (asked s)) c r none.times);
      policy = ap (λ (ss : List Planned). policy_with ss (policy_terms (c ++ r ∷ []) n)) laid ∙ ap (policy_with (slots c n)) terms;
      slots = laid;
    }

-- ---- the plan that a job pins

-- what a quiz is over these records, where so many are counted
abbrev laid : List Record → ℕ → ℕ → List ℕ × Behaviour → Plan
laid c at q named = record { at = at; quiz = q; name = named.0; ready = is_ready c q; behaviour = named.1; settings = own_settings c q; policy = policy c q; slots = slots c q; questions = [] }

laid-by : (c : List Record) (q : ℕ) (o : Option (List ℕ × Behaviour)) → at_place (quizzes c) q ≡ o → option_map (lean false) (plan_under (own_settings c q) c q) ≡ option_map (laid c (length c) q) o
laid-by c q None is = rw is refl
laid-by c q (Some named) is = rw is refl

-- as these records give it
laid-own : (c : List Record) (q : ℕ) → option_map (lean false) (plan_under (own_settings c q) c q) ≡ option_map (laid c (length c) q) (at_place (quizzes c) q)
laid-own c q = laid-by c q (at_place (quizzes c) q) refl

moved : (c : List Record) (q at : ℕ) (p : Plan) (o : Option (List ℕ × Behaviour)) → option_map (laid c (length c) q) o ≡ Some p → option_map (laid c at q) o ≡ Some (record p { at = at })
moved c q at p None is = absurd cc
moved c q at p (Some named) is = let same : laid c (length c) q named ≡ p = cc in ap (λ (x : Plan). Some (record x { at = at })) same

laid-regraded : (c g : List Record) (q at : ℕ) (o : Option (List ℕ × Behaviour)) → IsSame q c g → option_map (laid g at q) o ≡ option_map (laid c at q) o
laid-regraded c g q at None same = refl
laid-regraded c g q at (Some named) same = rw (same.ready, same.settings, same.policy, same.slots) refl

-- one record more, which makes a job, changes only how many are counted
pin-regraded : (c : List Record) (r : Record) (q : ℕ) (p : Plan) → asked r ≡ Some (request.Regrade q) → option_map (lean false) (plan_under (own_settings c q) c q) ≡ Some p → pinned (c ++ r ∷ []) (length c + 1, q) ≡ Some (record p { at = length c + 1 })
pin-regraded c r q p is told =
    let g = c ++ r ∷ [] in
    let same = regrade-same c r q q is in
    let long : length g ≡ length c + 1 = length-append c (r ∷ []) in
    ap (λ (l : List Record). option_map (lean false) (plan_under (own_settings l q) l q)) (take_all (length c + 1) g (omega (arith, long)))
    ∙ laid-own g q
    ∙ ap (option_map (laid g (length g) q)) (ap (λ (ns : List (List ℕ × Behaviour)). at_place ns q) same.quizzes)
    ∙ laid-regraded c g q (length g) (at_place (quizzes c) q) same
    ∙ ap (λ n. option_map (laid c n q) (at_place (quizzes c) q)) long
    ∙ moved c q (length c + 1) p (at_place (quizzes c) q) (sym (laid-own c q) ∙ told)

regrade-asked : (k : ℕ) (o : Option Request) (j : ℕ × ℕ) → regrade_by k o ≡ Some j → o ≡ Some (request.Regrade j.1)
regrade-asked k (Some (request.Regrade quiz)) j told =
    let made : ℕ × ℕ = (k, quiz) in
    let same : made ≡ j = cc in
    ap (λ (t : ℕ × ℕ). Some (request.Regrade t.1)) same
regrade-asked k o j told = absurd cc

pub pin-told : (c : List Record) (r : Record) (j : ℕ × ℕ) (p : Plan) → regrade_by (length c + 1) (asked r) ≡ Some j → option_map (lean false) (plan_under (own_settings c j.1) c j.1) ≡ Some p → IsPin c r (Some (record p { at = length c + 1 }))
pin-told c r j p is told = record {
  told = ap (option_map (pinned (c ++ r ∷ []))) is
      ∙ ap (λ n. Some (pinned (c ++ r ∷ []) (n, j.1))) (regrade-place (length c + 1) (asked r) j is)
      ∙ ap Some (pin-regraded c r j.1 p (regrade-asked (length c + 1) (asked r) j is) told);
}

-- the quiz of a job is there
pub regrade-there : (c : List Record) (r : Record) (k : ℕ) (j : ℕ × ℕ) → IsNext c r → regrade_by k (asked r) ≡ Some j → at_place (quizzes c) j.1 ≡ None → ⊥
regrade-there c r k j next is none =
    let there : missing_in c (request.Regrade j.1) ≡ None = next.there (request.Regrade j.1) (regrade-asked k (asked r) j is) in
    let missing : missing_in c (request.Regrade j.1) ≡ Some (refusal.Unknown thing.Quiz) = rw none refl in
    absurd cc

-- ---- one record more

pinned-alone : (c g : List Record) (r : Record) (k : ℕ) (o : Option (ℕ × ℕ)) → regrade_by k (asked r) ≡ o → map (pinned g) (filter_map job_by (enumerate_from k (r ∷ []))) ≡ option_to_list (option_map (pinned g) o)
pinned-alone c g r k None is = rw is refl
pinned-alone c g r k (Some j) is = rw is refl

pinned-step : (c : List Record) (r s : Record) (k : ℕ) (l : List Record) (more : List (Option Plan)) (o : Option (ℕ × ℕ)) → regrade_by k (asked s) ≡ o → k ≤ length c
    → map (pinned (c ++ r ∷ [])) (filter_map job_by (enumerate_from (k + 1) (l ++ r ∷ []))) ≡ map (pinned c) (filter_map job_by (enumerate_from (k + 1) l)) ++ more
    → map (pinned (c ++ r ∷ [])) (filter_map job_by (enumerate_from k (s ∷ (l ++ r ∷ [])))) ≡ map (pinned c) (filter_map job_by (enumerate_from k (s ∷ l))) ++ more
pinned-step c r s k l more None is inside rest = rw is rest
pinned-step c r s k l more (Some j) is inside rest =
    let place = regrade-place k (asked s) j is in
    let front : take j.0 (c ++ r ∷ []) ≡ take j.0 c = take-append-le j.0 c (r ∷ []) (omega (arith, place)) in
    let head : pinned (c ++ r ∷ []) j ≡ pinned c j = ap (λ (h : List Record). option_map (lean false) (plan_under (own_settings h j.1) h j.1)) front in
    rw is (ap (λ (p : Option Plan). p ∷ map (pinned (c ++ r ∷ [])) (filter_map job_by (enumerate_from (k + 1) (l ++ r ∷ [])))) head ∙ ap (λ (ps : List (Option Plan)). pinned c j ∷ ps) rest)

pinned-from : (c : List Record) (r : Record) (k : ℕ) (l : List Record) → k + length l ≡ length c + 1
    → map (pinned (c ++ r ∷ [])) (filter_map job_by (enumerate_from k (l ++ r ∷ []))) ≡ map (pinned c) (filter_map job_by (enumerate_from k l)) ++ option_to_list (option_map (pinned (c ++ r ∷ [])) (regrade_by (length c + 1) (asked r)))
pinned-from c r k [] long =
    let place : k ≡ length c + 1 = omega (arith, long) in
    pinned-alone c (c ++ r ∷ []) r k (regrade_by k (asked r)) refl ∙ ap (λ n. option_to_list (option_map (pinned (c ++ r ∷ [])) (regrade_by n (asked r)))) place
pinned-from c r k (s ∷ l) long =
    let within : k + 1 + length l ≡ length c + 1 = let all : k + suc (length l) ≡ length c + 1 = long in omega (arith, all) in
    pinned-step c r s k l (option_to_list (option_map (pinned (c ++ r ∷ [])) (regrade_by (length c + 1) (asked r)))) (regrade_by k (asked s)) refl (omega (arith, within)) (pinned-from c r (k + 1) l within)

there-alone : (pin : Option Plan) → option_to_list (option_map (λ (p : Plan). Some p) pin) ≡ map (λ (p : Plan). Some p) (option_to_list pin)
there-alone None = refl
there-alone (Some p) = refl

-- what was pinned stays, and the record pins its own
pub pinned-push : (c : List Record) (r : Record) (ps : List Plan) (pin : Option Plan) → ArePinned c ps → IsPin c r pin → ArePinned (c ++ r ∷ []) (ps ++ option_to_list pin)
pinned-push c r ps pin are is = record {
  each = pinned-from c r 1 c (let long : 1 + length c ≡ length c + 1 = omega arith in long)
      ∙ ap (λ (old : List (Option Plan)). old ++ option_to_list (option_map (pinned (c ++ r ∷ [])) (regrade_by (length c + 1) (asked r)))) are.each
      ∙ ap (λ (o : Option (Option Plan)). map (λ (p : Plan). Some p) ps ++ option_to_list o) is.told
      ∙ ap (λ (new : List (Option Plan)). map (λ (p : Plan). Some p) ps ++ new) (there-alone pin)
      ∙ sym (map-append (λ (p : Plan). Some p) ps (option_to_list pin));
}

-- ---- a job

abbrev pub job_of : ℕ → ℕ → Plan → Job
job_of number position plan = record { number = number; position = position; plan = plan }

job-whole : (c l : List Record) (number position q : ℕ) (p : Plan) (o : Option (List ℕ × Behaviour)) → at_place (quizzes l) q ≡ o → length l ≡ position → questions c (slots l q) ≡ questions l (slots l q)
    → Some p ≡ option_map (lean false) (plan_under (own_settings l q) l q) → option_map (job_of number position) (plan_under (own_settings l q) l q) ≡ Some (job_of number p.at (with_questions c p))
job-whole c l number position q p None at long stay told = let none : Some p ≡ None = told ∙ laid-own l q ∙ ap (option_map (laid l (length l) q)) at in absurd cc
job-whole c l number position q p (Some named) at long stay told =
    let some : Some p ≡ Some (laid l (length l) q named) = told ∙ laid-own l q ∙ ap (option_map (laid l (length l) q)) at in
    let same : p ≡ laid l (length l) q named = cc in
    rw (at, same, long, stay) refl

job-at : (c : List Record) (number : ℕ) (p : Plan) (o : Option (ℕ × ℕ)) → IsLegalCatalog c → at_place (jobs c) number ≡ o → Some p ≡ option_and_then (pinned c) o → option_and_then (job_with c number) o ≡ Some (job_of number p.at (with_questions c p))
job-at c number p None legal at told = absurd cc
job-at c number p (Some j) legal at told =
    let inside : j.0 ≤ length c = job-within c number j.0 j.1 (sym at) in
    job-whole c (take j.0 c) number j.0 j.1 p (at_place (quizzes (take j.0 c)) j.1) refl (length-take-le j.0 c inside) (questions-stay c j.0 j.1 legal) told

-- a job has the plan that it pinned, with its questions
pub job-pinned : (c : List Record) (ps : List Plan) (number : ℕ) (p : Plan) → IsLegalCatalog c → ArePinned c ps → Some p ≡ at_place ps number → job c number ≡ Some (record { number = number; position = p.at; plan = with_questions c p })
job-pinned c ps number p legal are told = job-at c number p (at_place (jobs c) number) legal refl (told ∙ got-at (pinned c) (jobs c) ps number are.each)
