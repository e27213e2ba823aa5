-- A link gives one thing, and its bytes say one thing.
use Rattle.std.proofs.Common.{◌≡◌, ℕ, ◌-◌, ◌<◌, ◌≤◌, inl, inr, Bool, List, [], ◌∷◌, length, take, drop, refl, sym, ap, subst, ◌∙◌, arith}
use Rattle.std.proofs.lemmas.Bool.{false≢true}
use Rattle.std.specs.Prelude.{Option, Some, None}
use Rattle.httparse.specs.Grammar.{RequestHead}
use Rattle.httparse.proofs.GrammarLemmas.{request_unique}
use Rattle.qz_http.specs.declared.items.Item.{Item}
use Rattle.qz_http.specs.declared.items.Item.TheVariants as item
use Rattle.qz_http.specs.declared.items.LinkEnd.{LinkEnd}
use Rattle.qz_http.specs.declared.items.LinkEnd.TheVariants as end
use Rattle.qz_http.specs.declared.responses.Route.{Route}
use Rattle.qz_http.specs.Heads.{closes, fields_of}
use Rattle.qz_http.specs.Items.{item_of}
use Rattle.qz_http.specs.Judgements.{BeginsWith, IsHopeless, IsUnfinished, Refuses, at_fault, first_bytes, head_fault, hopeless, too_long}
use Rattle.qz_http.specs.Links.{Awaits, Gives, HasHead, Link, Stays, Takes, awaiting, behind, body, body_length, end_after, ended, head, refused, route_by, stays, takes}
use Rattle.qz_http.specs.Routes.{way_of}
use Rattle.qz_http.specs.Talk.{Talks, is_request, over, request}
use Rattle.qz_http.proofs.HeadLemmas.{none_yet}

-- ---- heads

one_head : (bytes : List ℕ) (h k : RequestHead) → BeginsWith bytes h → BeginsWith bytes k → h ≡ k
one_head bytes h k a b = (request_unique (first_bytes bytes) h k a.0 b.0 a.1 b.1).0

never_begins : (bytes : List ℕ) (h : RequestHead) → BeginsWith bytes h → IsHopeless (first_bytes bytes) → ⊥
never_begins bytes h begins is = none_yet (first_bytes bytes) is.never h begins.0 begins.1

not_begun : (bytes : List ℕ) (h : RequestHead) → BeginsWith bytes h → IsUnfinished bytes → ⊥
not_begun bytes h begins is = is.no_head h begins.0 begins.1

goes_on_or_never : (bytes : List ℕ) → IsUnfinished bytes → IsHopeless (first_bytes bytes) → ⊥
goes_on_or_never bytes unfinished is =
    elim unfinished.goes_on [
      | inl some ↦ is.never some.0 some.1 [] some.2
      | inr inside ↦ false≢true (sym inside ∙ is.past)
    ]

one_fault : (bytes : List ℕ) (h k : RequestHead) (o p : Option ℕ) → BeginsWith bytes h → BeginsWith bytes k → head_fault h ≡ o → head_fault k ≡ p → o ≡ p
one_fault bytes h k o p a b is also = sym is ∙ ap head_fault (one_head bytes h k a b) ∙ also

same_status : (s t : ℕ) → ◌≡◌ {A = Option ℕ} (Some s) (Some t) → s ≡ t
same_status s t is = cc

one_refusal : (bytes : List ℕ) (s t : ℕ) → Refuses bytes s → Refuses bytes t → s ≡ t
one_refusal bytes _ _ (hopeless is) (hopeless also) = refl
one_refusal bytes _ _ (hopeless is) (too_long long also) = absurd (goes_on_or_never bytes also is)
one_refusal bytes _ t (hopeless is) (at_fault _ h begins fault) = absurd (never_begins bytes h begins is)
one_refusal bytes _ _ (too_long long is) (hopeless also) = absurd (goes_on_or_never bytes is also)
one_refusal bytes _ _ (too_long long is) (too_long still also) = refl
one_refusal bytes _ t (too_long long is) (at_fault _ h begins fault) = absurd (not_begun bytes h begins is)
one_refusal bytes s _ (at_fault _ h begins fault) (hopeless also) = absurd (never_begins bytes h begins also)
one_refusal bytes s _ (at_fault _ h begins fault) (too_long long also) = absurd (not_begun bytes h begins also)
one_refusal bytes s t (at_fault _ h begins fault) (at_fault _ k too other) = same_status s t (one_fault bytes h k (Some s) (Some t) begins too fault other)

head_or_refusal : (bytes : List ℕ) (h : RequestHead) (s : ℕ) → HasHead bytes h → Refuses bytes s → ⊥
head_or_refusal bytes h _ has (hopeless is) = never_begins bytes h has.begins is
head_or_refusal bytes h _ has (too_long long is) = not_begun bytes h has.begins is
head_or_refusal bytes h s has (at_fault _ k begins fault) =
    let both : ◌≡◌ {A = Option ℕ} None (Some s) = one_fault bytes h k None (Some s) has.begins begins has.without_fault fault in absurd cc

wait_or_refusal : (bytes : List ℕ) (s : ℕ) → Awaits bytes → Refuses bytes s → ⊥
wait_or_refusal bytes _ (head short is) (hopeless also) = goes_on_or_never bytes is also
wait_or_refusal bytes _ (head short is) (too_long long also) = absurd (omega (arith, short, long))
wait_or_refusal bytes s (head short is) (at_fault _ h begins fault) = not_begun bytes h begins is
wait_or_refusal bytes s (body h has short) refuses = head_or_refusal bytes h s has refuses

wait_or_take : (bytes : List ℕ) (h : RequestHead) → Awaits bytes → HasHead bytes h → body_length h ≤ length (behind h bytes) → ⊥
wait_or_take bytes h (head short is) has whole = not_begun bytes h has.begins is
wait_or_take bytes h (body k also short) has whole =
    let same = one_head bytes k h also.begins has.begins in
    let here : length (behind h bytes) < body_length h = subst (λ r. length (behind r bytes) < body_length r) same short in
    omega (arith, here, whole)

-- ---- what is given

one_stay : (finished : Bool) (bytes : List ℕ) (given other : Item) → Stays finished bytes given → Stays finished bytes other → given ≡ other
one_stay finished bytes _ _ (awaiting a) (awaiting b) = refl
one_stay finished bytes _ _ (awaiting a) (refused status is) = absurd (wait_or_refusal bytes status a is)
one_stay finished bytes _ _ (refused status is) (awaiting a) = absurd (wait_or_refusal bytes status a is)
one_stay finished bytes _ _ (refused status is) (refused other also) = ap (λ s. item.Over (end.Bad s)) (one_refusal bytes status other is also)

stay_or_take : (finished : Bool) (bytes : List ℕ) (given taken : Item) (rest : List ℕ) (at : Route) (closing : Bool)
    → Stays finished bytes given → Takes bytes taken rest at closing → ⊥
stay_or_take finished bytes _ taken rest at closing (awaiting a) t = wait_or_take bytes t.read a t.has_head t.whole
stay_or_take finished bytes _ taken rest at closing (refused status is) t = head_or_refusal bytes t.read status t.has_head is

record IsSameTake (given other : Item) (rest more : List ℕ) (at to : Route) (closing ending : Bool) : Type 0 where
  given_is : given ≡ other
  rest_is : rest ≡ more
  route_is : at ≡ to
  closing_is : closing ≡ ending

one_take : (bytes : List ℕ) (given other : Item) (rest more : List ℕ) (at to : Route) (closing ending : Bool)
    → Takes bytes given rest at closing → Takes bytes other more to ending → IsSameTake given other rest more at to closing ending
one_take bytes given other rest more at to closing ending t u =
    let same = one_head bytes t.read u.read t.has_head.begins u.has_head.begins in
    record {
      given_is = t.given_is ∙ ap (λ h. item_of h (take (body_length h) (behind h bytes))) same ∙ sym u.given_is;
      rest_is = t.rest_is ∙ ap (λ h. drop (body_length h) (behind h bytes)) same ∙ sym u.rest_is;
      route_is = t.route_is ∙ ap (λ h. route_by (way_of h.target)) same ∙ sym u.route_is;
      closing_is = t.closing_is ∙ ap (λ h. closes h.minor (fields_of h)) same ∙ sym u.closing_is;
    }

one_or_none : (o : Option LinkEnd) (why : LinkEnd) → o ≡ Some why → o ≡ None → ⊥
one_or_none o why some none = let both : ◌≡◌ {A = Option LinkEnd} (Some why) None = sym some ∙ none in absurd cc

same_end : (why other : LinkEnd) → ◌≡◌ {A = Option LinkEnd} (Some why) (Some other) → why ≡ other
same_end why other is = cc

pub one_gift : (link after later : Link) (given other : Item) → Gives link given after → Gives link other later → (given ≡ other) × (after ≡ later)
one_gift link _ _ _ _ (ended why is) (ended other also) = (ap item.Over (same_end why other (sym is ∙ also)), refl)
one_gift link _ _ _ other (ended why is) (stays _ none stay) = absurd (one_or_none link.over why is none)
one_gift link _ _ _ other (ended why is) (takes _ rest at closing none take) = absurd (one_or_none link.over why is none)
one_gift link _ _ given _ (stays _ none stay) (ended why is) = absurd (one_or_none link.over why is none)
one_gift link _ _ given other (stays _ none stay) (stays _ still too) = (one_stay link.finished link.left given other stay too, refl)
one_gift link _ _ given other (stays _ none stay) (takes _ rest at closing still take) = absurd (stay_or_take link.finished link.left given other rest at closing stay take)
one_gift link _ _ given _ (takes _ rest at closing none take) (ended why is) = absurd (one_or_none link.over why is none)
one_gift link _ _ given other (takes _ rest at closing none take) (stays _ still stay) = absurd (stay_or_take link.finished link.left other given rest at closing stay take)
one_gift link _ _ given other (takes _ rest at closing none take) (takes _ more to ending still too) =
    let same = one_take link.left given other rest more at to closing ending take too in
    (same.given_is, λ i. record link { left = same.rest_is i; more = link.more - 1; over = end_after (link.more - 1) (same.closing_is i); route = same.route_is i })

-- ---- what is said

pub one_talk : (link : Link) (items others : List Item) (why other : LinkEnd) → Talks link items why → Talks link others other → (items ≡ others) × (why ≡ other)
one_talk link _ _ _ _ (over _ after why x) (over _ later other y) =
    let same : item.Over why ≡ item.Over other = (one_gift link after later (item.Over why) (item.Over other) x y).0 in
    (refl, cc)
one_talk link _ _ _ other (over _ after why x) (request _ later given items _ asks y so) =
    absurd (false≢true (ap is_request (one_gift link after later (item.Over why) given x y).0 ∙ asks))
one_talk link _ _ why _ (request _ after given items _ asks x so) (over _ later other y) =
    absurd (false≢true (ap is_request (one_gift link later after (item.Over other) given y x).0 ∙ asks))
one_talk link _ _ why other (request _ after given items _ asks x so) (request _ later too others _ ask y go) =
    let same = one_gift link after later given too x y in
    let here : Talks after others other = subst (λ l. Talks l others other) (sym same.1) go in
    let rest = one_talk after items others why other so here in
    (λ i. same.0 i ∷ rest.0 i, rest.1)
