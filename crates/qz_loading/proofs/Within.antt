-- A record that agrees with a catalogue names no position past its end.
use Rattle.std.proofs.Common.{◌≡◌, ℕ, ◌≤◌, Bool, true, false, ◌&&◌, List, [], ◌∷◌, ◌++◌, Option, None, Some, length, map, refl, ap, arith}
use Rattle.std.specs.Prelude.{All, filter, is_none, nat_lt, option_map, option_to_list}
use Rattle.std.proofs.lemmas.Bool.{leb-true}
use Rattle.std.proofs.lemmas.Bool.Decides.{nat_tests}
use Rattle.std.proofs.lemmas.List.Elements.{All-cons, All-head, All-nil, All-tail}
use Rattle.qz_grading.specs.declared.refusal.AttemptId.{AttemptId}
use Rattle.qz_terms.specs.declared.plan.Bound.{Bound}
use Rattle.qz_terms.specs.declared.plan.Planned.{Planned}
use Rattle.qz_terms.specs.declared.record.Event.{Event}
use Rattle.qz_terms.specs.declared.record.Event.TheVariants as event
use Rattle.qz_terms.specs.declared.record.Record.{Record}
use Rattle.qz_terms.specs.declared.record.Terms.{Terms}
use Rattle.qz_terms.specs.Answer.{bind}
use Rattle.qz_terms.specs.Legal.{Agrees, EventAgrees, EventIsAllowed, IsAllowed, JobAgrees, StepAgrees, TermsAgree, is_bare, past_end, positions, positions_by}
use Rattle.qz_terms.specs.Lists.{first_of}
use Rattle.qz_agreement.proofs.Verdicts.{job-within}

abbrev Within : ℕ → List ℕ → Type 0
Within n = All (λ (x : ℕ). x ≤ n)

none-later : (n : ℕ) (xs : List ℕ) → Within n xs → filter (nat_lt n) xs ≡ []
none-later n [] all = refl
none-later n (x ∷ xs) all =
    let first : x ≤ n = All-head (λ (y : ℕ). y ≤ n) x xs all in
    let test : nat_lt n x ≡ false = grind (arith, nat_tests) in
    rw test (none-later n xs (All-tail (λ (y : ℕ). y ≤ n) x xs all))

none-past : (n : ℕ) (xs : List ℕ) → Within n xs → first_of (filter (nat_lt n) xs) ≡ None
none-past n xs all = ap first_of (none-later n xs all)

alone : (n x : ℕ) → x ≤ n → Within n (x ∷ [])
alone n x le = All-cons (λ (y : ℕ). y ≤ n) x [] le (All-nil (λ (y : ℕ). y ≤ n))

bound-there : (n at : ℕ) (slots : List Planned) → at ≤ n → Within n (map (λ (b : Bound). b.at) (map (bind at) slots))
bound-there n at [] le = All-nil (λ (y : ℕ). y ≤ n)
bound-there n at (s ∷ slots) le = All-cons (λ (y : ℕ). y ≤ n) at (map (λ (b : Bound). b.at) (map (bind at) slots)) le (bound-there n at slots le)

abbrev terms_of : Record → List ℕ
terms_of r = option_to_list (option_map (λ (t : Terms). t.at) r.terms)

by-terms : (c : List Record) (r : Record) (q u : ℕ) (xs : List ℕ) (t : TermsAgree c r q u) → Within (length c) (t.terms.at ∷ xs) → Within (length c) (terms_of r ++ xs)
by-terms c r q u xs t all = rw t.terms_are all

low : (c : List Record) (r : Record) (q u : ℕ) (t : TermsAgree c r q u) → t.terms.at ≤ length c
low c r q u t = leb-true t.terms.at (length c) t.within

by-step : (c l : List Record) (r : Record) (a : AttemptId) → StepAgrees c l r a → Within (length c) (terms_of r ++ [])
by-step c l r a s = by-terms c r s.quiz a.user [] s.its_terms (alone (length c) s.its_terms.terms.at (low c r s.quiz a.user s.its_terms))

no-terms-by : (b : Bool) (o : Option Terms) → b && is_none o ≡ true → o ≡ None
no-terms-by true None bare = refl
no-terms-by true (Some t) bare = absurd cc
no-terms-by false o bare = absurd cc

-- a bare record names those of its event alone
by-bare : (n : ℕ) (r : Record) (xs : List ℕ) → is_bare r ≡ true → Within n xs → Within n (terms_of r ++ xs)
by-bare n r xs bare all = rw (no-terms-by (is_none r.key) r.terms bare) all

by-job : (c : List Record) (number q position : ℕ) → JobAgrees c number q position → position ≤ length c
by-job c number q position j =
    let there = (job-within c number j.job j.job_is).1 in
    let same = j.position_is in
    omega arith

by-event : (c l : List Record) (r : Record) (e : Event) → EventAgrees c l r e → EventIsAllowed l r e → Within (length c) (terms_of r ++ positions_by e)
by-event c l r (event.Founded shards token) agrees may = absurd agrees
by-event c l r (event.Asked x) agrees may = absurd agrees
by-event c l r (event.Started quiz nth behaviour bounds learned) agrees may =
    let t = agrees.its_terms in
    let le = low c r quiz r.owner t in
    by-terms c r quiz r.owner (map (λ (b : Bound). b.at) bounds) t
    (rw agrees.bounds_are (All-cons (λ (y : ℕ). y ≤ length c) t.terms.at (map (λ (b : Bound). b.at) (map (bind t.terms.at) t.plan.slots)) le (bound-there (length c) t.terms.at t.plan.slots le)))
by-event c l r (event.Acted a k x) agrees may = by-step c l r a agrees
by-event c l r (event.Noted a k x) agrees may = by-step c l r a agrees
by-event c l r (event.Ended a how) agrees may = by-step c l r a agrees
by-event c l r (event.Rebound job a k b learned) agrees may = by-bare (length c) r (b.at ∷ []) may.bare (alone (length c) b.at (by-job c job agrees.quiz b.at agrees.its_job))
by-event c l r (event.Skipped job a k bound newer) agrees may = by-bare (length c) r [] may.bare (All-nil (λ (y : ℕ). y ≤ length c))
by-event c l r (event.JobDone job quiz position) agrees may = by-bare (length c) r (position ∷ []) may.bare (alone (length c) position (by-job c job quiz position agrees))

pub names-none-past : (c l : List Record) (r : Record) (index count : ℕ) → Agrees c l r → IsAllowed index count l r → past_end c r ≡ None
names-none-past c l r index count agrees may = none-past (length c) (positions r) (by-event c l r r.event agrees.event may.event)
