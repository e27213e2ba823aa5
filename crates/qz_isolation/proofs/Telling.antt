-- What is said of a record, over lists that agree for its owner, and of two records that are the same but for what was learned.
use Rattle.std.proofs.Common.{◌≡◌, ℕ, ◌||◌, true, not, List, Option, Some, None, refl, ap, ◌∙◌, sym, subst}
use Rattle.std.specs.Prelude.{◌==◌, is_some, option_map, unwrap_or}
use Rattle.std.proofs.lemmas.Bool.{eqb-true}
use Rattle.qz_lemmas.proofs.Bools.{and-left}
use Rattle.qz_grading.specs.declared.refusal.AttemptId.{AttemptId}
use Rattle.qz_grading.specs.declared.response.Step.{Step}
use Rattle.qz_grading.specs.declared.response.Step.TheVariants as step
use Rattle.qz_terms.specs.declared.record.Event.{Event}
use Rattle.qz_terms.specs.declared.record.Event.TheVariants as event
use Rattle.qz_terms.specs.declared.record.How.{How}
use Rattle.qz_terms.specs.declared.record.Record.{Record}
use Rattle.qz_terms.specs.declared.record.Terms.{Terms}
use Rattle.qz_terms.specs.declared.reply.Done.TheVariants as done
use Rattle.qz_terms.specs.declared.reply.Reply.TheVariants as reply
use Rattle.qz_terms.specs.Answer.{acted_reply, ended_reply, is_visible, reply_by, said, shown_mark_in, shown_state_in}
use Rattle.qz_terms.specs.Cause.{place_by}
use Rattle.qz_terms.specs.History as history
use Rattle.qz_terms.specs.Kept.{has_terms}
use Rattle.qz_terms.specs.Laws.{AgreeFor, unlearned, unlearned_event}
use Rattle.qz_terms.specs.Legal.{has_its_owner, owner_by, owner_is}
use Rattle.qz_terms.specs.Review.{shown_state, shown_value, shows_marks}
use Rattle.qz_terms.proofs.Isolated.{isolated_law}

-- ---- what was learned isn't told

acted-forgets : (l : List Record) (r : Record) (a : AttemptId) (k : ℕ) (x : Step) → acted_reply l r a k x ≡ acted_reply l (unlearned r) a k x
acted-forgets l r a k (step.Mark mark max) = refl
acted-forgets l r a k x = refl

ended-forgets : (l : List Record) (r : Record) (a : AttemptId) (how : How) (key : Option (List ℕ)) → ended_reply l r a how key ≡ ended_reply l (unlearned r) a how key
ended-forgets l r a how None = refl
ended-forgets l r a how (Some key) = refl

reply-forgets : (l : List Record) (r : Record) (e : Event) → reply_by l r e ≡ reply_by l (unlearned r) (unlearned_event e)
reply-forgets l r (event.Started quiz nth behaviour bounds learned) = refl
reply-forgets l r (event.Acted a k x) = acted-forgets l r a k x
reply-forgets l r (event.Ended a how) = ended-forgets l r a how r.key
reply-forgets l r (event.Rebound job a k bound learned) = refl
reply-forgets l r e = refl

place-forgets : (l : List Record) (r : Record) (e : Event) → place_by l r e ≡ place_by l (unlearned r) (unlearned_event e)
place-forgets l r (event.Started quiz nth behaviour bounds learned) = refl
place-forgets l r (event.Rebound job a k bound learned) = refl
place-forgets l r e = refl

pub said-forgets : (l : List Record) (r : Record) → said l r ≡ said l (unlearned r)
said-forgets l r = λ i. reply.Ok (place-forgets l r r.event i) (reply-forgets l r r.event i)

-- ---- over lists that agree

visible-own : (index count : ℕ) (l k : List Record) (r : Record) (a : AttemptId) → AgreeFor index count a.user l k → is_visible l r a ≡ is_visible k r a
visible-own index count l k r a agree =
    λ i. not (r.caller == r.owner) || unwrap_or (option_map (λ (t : Terms). shows_marks t.settings (is_some (isolated_law.ended index count a l k agree i)) r.moment) r.terms) true

state-own : (index count : ℕ) (l k : List Record) (r : Record) (a : AttemptId) (n : ℕ) → AgreeFor index count a.user l k → shown_state_in l r a n ≡ shown_state_in k r a n
state-own index count l k r a n agree = λ i. shown_state (visible-own index count l k r a agree i) (isolated_law.state index count a n l k agree i)

mark-own : (index count : ℕ) (l k : List Record) (r : Record) (a : AttemptId) (n : ℕ) → AgreeFor index count a.user l k → shown_mark_in l r a n ≡ shown_mark_in k r a n
mark-own index count l k r a n agree = λ i. shown_value (visible-own index count l k r a agree i) (isolated_law.mark index count a n l k agree i)

acted-own : (index count : ℕ) (l k : List Record) (r : Record) (a : AttemptId) (n : ℕ) (x : Step) → AgreeFor index count a.user l k → acted_reply l r a n x ≡ acted_reply k r a n x
acted-own index count l k r a n (step.Mark mark max) agree = λ i. done.Marked (state-own index count l k r a n agree i) (mark-own index count l k r a n agree i)
acted-own index count l k r a n x agree = λ i. done.Stepped (state-own index count l k r a n agree i) (mark-own index count l k r a n agree i)

ended-own : (index count : ℕ) (l k : List Record) (r : Record) (a : AttemptId) (how : How) (key : Option (List ℕ)) → AgreeFor index count a.user l k → ended_reply l r a how key ≡ ended_reply k r a how key
ended-own index count l k r a how None agree = refl
ended-own index count l k r a how (Some key) agree = λ i. done.Finished (shown_value (visible-own index count l k r a agree i) (isolated_law.total index count a l k agree i))

agree-owner : (index count : ℕ) (l k : List Record) (r : Record) (a : AttemptId) → owner_is index count r a ≡ true → AgreeFor index count r.owner l k → AgreeFor index count a.user l k
agree-owner index count l k r a is agree =
    let P : ℕ → Type 0 = λ u. AgreeFor index count u l k in
    subst P (eqb-true r.owner a.user (and-left (r.owner == a.user) _ is)) agree

reply-own : (index count : ℕ) (l k : List Record) (r : Record) (e : Event) → owner_by index count r e ≡ true → AgreeFor index count r.owner l k → reply_by l r e ≡ reply_by k r e
reply-own index count l k r (event.Founded shards token) is agree = absurd cc
reply-own index count l k r (event.Asked x) is agree = absurd cc
reply-own index count l k r (event.Started quiz nth behaviour bounds learned) is agree = refl
reply-own index count l k r (event.Acted a n x) is agree = acted-own index count l k r a n x (agree-owner index count l k r a is agree)
reply-own index count l k r (event.Noted a n x) is agree =
    let its = agree-owner index count l k r a is agree in
    λ i. done.Same (state-own index count l k r a n its i) (mark-own index count l k r a n its i)
reply-own index count l k r (event.Ended a how) is agree = ended-own index count l k r a how r.key (agree-owner index count l k r a is agree)
reply-own index count l k r (event.Rebound job a n bound learned) is agree =
    let its = agree-owner index count l k r a is agree in
    λ i. done.Rebound a n (state-own index count l k r a n its i) (mark-own index count l k r a n its i)
reply-own index count l k r (event.Skipped job a n bound newer) is agree = refl
reply-own index count l k r (event.JobDone job quiz position) is agree = refl

pub place-own : (l k : List Record) (r : Record) (e : Event) → has_terms e ≡ true → history.place l r.owner ≡ history.place k r.owner → place_by l r e ≡ place_by k r e
place-own l k r (event.Started quiz nth behaviour bounds learned) is same = same
place-own l k r (event.Acted a n x) is same = same
place-own l k r (event.Noted a n x) is same = same
place-own l k r (event.Ended a how) is same = same
place-own l k r e is same = absurd cc

-- the second stands in the second list
pub said-own : (index count : ℕ) (l k : List Record) (r s : Record) → unlearned r ≡ unlearned s → has_terms s.event ≡ true → has_its_owner index count s ≡ true → AgreeFor index count s.owner l k → said l r ≡ said k s
said-own index count l k r s same asked owner agree =
    said-forgets l r
    ∙ ap (said l) same
    ∙ sym (said-forgets l s)
    ∙ (λ i. reply.Ok (place-own l k s s.event asked (isolated_law.place index count s.owner l k agree) i) (reply-own index count l k s s.event owner agree i))
