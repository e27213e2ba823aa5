-- The steps of a link.
use Rattle.std.proofs.Common.{◌≡◌, ℕ, ◌<◌, ◌≤◌, Bool, List, ◌++◌, length, take, drop, sym, ap, subst, ◌∙◌, arith, length-append}
use Rattle.std.proofs.lemmas.List.{drop-drop, length-drop, length-take}
use Rattle.httparse.specs.Grammar.{print_request}
use Rattle.qz_http.specs.declared.heads.Head.{Head}
use Rattle.qz_http.specs.declared.items.Item.{Item}
use Rattle.qz_http.specs.declared.responses.Route.{Route}
use Rattle.qz_http.specs.Heads.{body_of, fields_of}
use Rattle.qz_http.specs.Items.{item_of}
use Rattle.qz_http.proofs.HeadLemmas.{body_within}
use Rattle.qz_http.specs.Fronts.{IsRequest}
use Rattle.qz_http.specs.Judgements.{IsWhole}
use Rattle.std.specs.Prelude.{Option, None, ◌-◌}
use Rattle.qz_http.specs.declared.items.LinkEnd.{LinkEnd}
use Rattle.qz_http.specs.declared.links.Step.{Step}
use Rattle.qz_http.specs.declared.links.Step.TheVariants as step
use Rattle.qz_http.specs.Links.{Awaits, Gives, HasHead, Link, Stays, Steps, Takes, awaiting, body, body_length, end_after, head_length, route_by, stays, takes, waiting}
use Rattle.qz_http.specs.Routes.{way_of}

pub head_fits : (bytes : List ℕ) (h : Head) → IsWhole bytes h → h.len ≤ length bytes
head_fits bytes h whole =
    let read = print_request whole.read in
    let rest = whole.begins.0 in
    let is : length (take 8192 bytes) ≡ length (read ++ rest) = ap length whole.begins.1.1 in
    omega (arith, whole.parts.len, is, length-append read rest, length-take 8192 bytes)

pub short_for_body : (bytes : List ℕ) (h : Head) → IsWhole bytes h → length (drop h.len bytes) < h.body → length bytes < 4294967296
short_for_body bytes h whole short =
    let read = print_request whole.read in
    let is : length (take 8192 bytes) ≡ length (read ++ whole.begins.0) = ap length whole.begins.1.1 in
    let body : body_of (fields_of whole.read) ≤ 1048576 = body_within whole.read.method (fields_of whole.read) whole.without_fault in
    omega (arith, short, body, whole.parts.body, whole.parts.len, is, length-append read whole.begins.0, length-take 8192 bytes, length-drop h.len bytes)

pub stays_waiting : (finished : Bool) (bytes : List ℕ) (given : Item) → given ≡ waiting finished bytes → Awaits bytes → Stays finished bytes given
stays_waiting finished bytes given is awaits = subst (λ i. Stays finished bytes i) (sym is) (awaiting awaits)

has_head : (bytes : List ℕ) (h : Head) (whole : IsWhole bytes h) → HasHead bytes whole.read
has_head bytes h whole = record { begins = whole.begins; without_fault = whole.without_fault }

pub body_awaited : (bytes : List ℕ) (h : Head) → IsWhole bytes h → length (drop h.len bytes) < h.body → Awaits bytes
body_awaited bytes h whole short =
    let len : length (drop h.len bytes) ≡ length (drop (head_length whole.read) bytes) = ap (λ n. length (drop n bytes)) whole.parts.len in
    body whole.read (has_head bytes h whole) (omega (arith, short, len, whole.parts.body))

pub taken : (bytes part : List ℕ) (len : ℕ) (given : Item) (at : Route) (closing : Bool) (h : Head) (is : IsRequest bytes h part len)
    → given ≡ item_of is.whole.read part → at ≡ route_by (way_of h.target.now) → closing ≡ h.closes
    → (len ≤ length bytes) × Takes bytes given (drop len bytes) at closing
taken bytes part len given at closing h is told route_is closing_is =
    let whole = is.whole in
    let parts = whole.parts in
    let behind : drop h.len bytes ≡ drop (head_length whole.read) bytes = ap (λ n. drop n bytes) parts.len in (
      is.fits,
      record {
        read = whole.read;
        has_head = has_head bytes h whole;
        whole = omega (arith, is.body_fits, parts.body, ap length behind);
        given_is = told ∙ ap (λ b. item_of whole.read b) is.body_is ∙ ap (λ n. item_of whole.read (take n (drop h.len bytes))) parts.body ∙ ap (λ b. item_of whole.read (take (body_length whole.read) b)) behind;
        rest_is = ap (λ n. drop n bytes) is.len_is ∙ sym (drop-drop h.body h.len bytes) ∙ ap (λ n. drop n (drop h.len bytes)) parts.body ∙ ap (λ b. drop (body_length whole.read) b) behind;
        route_is = route_is ∙ ap (λ t. route_by (way_of t)) parts.target;
        closing_is = closing_is ∙ parts.closes;
      },
    )

pub gives_stays : (link : Link) (bytes : List ℕ) (s : Step) (given : Item) → bytes ≡ link.left → link.over ≡ None → Steps link.finished bytes s → s ≡ step.Stays given → Gives link given link
gives_stays link bytes s given left none did is =
    let at : Steps link.finished link.left s = subst (λ b. Steps link.finished b s) left did in
    let stay : Stays link.finished link.left given = subst (λ t. Steps link.finished link.left t) is at in
    stays given none stay

pub gives_takes : (link : Link) (bytes rest : List ℕ) (s : Step) (given : Item) (len : ℕ) (at : Route) (closing : Bool) (more : ℕ) (over : Option LinkEnd)
    → bytes ≡ link.left → link.over ≡ None → Steps link.finished bytes s → s ≡ step.Takes given len at closing
    → rest ≡ drop len link.left → more ≡ link.more - 1 → over ≡ end_after more closing
    → Gives link given (record link { left = rest; more = more; over = over; route = at })
gives_takes link bytes rest s given len at closing more over left none did is behind fewer decided =
    let here : Steps link.finished link.left s = subst (λ b. Steps link.finished b s) left did in
    let takes_len : Steps link.finished link.left (step.Takes given len at closing) = subst (λ t. Steps link.finished link.left t) is here in
    let take : Takes link.left given rest at closing = subst (λ r. Takes link.left given r at closing) (sym behind) takes_len.1 in
    let end : over ≡ end_after (link.more - 1) closing = decided ∙ ap (λ n. end_after n closing) fewer in
    let one = takes given rest at closing none take in
    let two : Gives link given (record link { left = rest; more = more; over = end_after (link.more - 1) closing; route = at }) = subst (λ n. Gives link given (record link { left = rest; more = n; over = end_after (link.more - 1) closing; route = at })) (sym fewer) one in
    subst (λ e. Gives link given (record link { left = rest; more = more; over = e; route = at })) (sym end) two
