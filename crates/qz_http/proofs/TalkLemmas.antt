-- A link that is served gives the items of its bytes.
use Rattle.std.proofs.Common.{◌≡◌, ℕ, Bool, true, false, List, ◌++◌, refl, sym, ap, subst, ◌∙◌, append_assoc, take}
use Rattle.std.proofs.lemmas.Bool.{false≢true}
use Rattle.std.specs.Prelude.{Option, Some, None, Result, Ok, Err, bytes_eq, codes, if◌then◌else◌}
use Rattle.qz_terms.specs.declared.ask.Ask.{Ask}
use Rattle.qz_wire.specs.Faults.{Fault}
use Rattle.qz_json.specs.Bodies.{ask_of_body}
use Rattle.qz_http.specs.Items.{ask_of_entry, ask_of_page, ask_of_report, caller_of, item_got, item_at, item_by, token_in}
use Rattle.qz_http.specs.Routes.{Way, ask, csv_report, entry, nowhere, page, text_report, way_of}
use Rattle.qz_http.specs.declared.items.Item.{Item}
use Rattle.qz_http.specs.declared.items.Item.TheVariants as item
use Rattle.qz_http.specs.declared.items.LinkEnd.{LinkEnd}
use Rattle.qz_http.specs.declared.responses.Route.{Route}
use Rattle.qz_http.specs.Heads.{authorization_of, fields_of}
use Rattle.qz_http.specs.Links.{Gives, behind, body_length, Link, Stays, Takes, awaiting, ended, fed, refused, stays, takes, waiting}
use Rattle.qz_http.specs.Talk.{Serves, Talks, ended_link, feeds, gives, is_request, needs, request, rests}
use Rattle.qz_http.proofs.PieceLemmas.{gives-append}

pub no_need : (given : Item) → is_request given ≡ true → given ≡ item.Need → ⊥
no_need given asks is = false≢true (sym (ap is_request is) ∙ asks)

stays_at_end : (finished : Bool) (bytes : List ℕ) (given : Item) → finished ≡ false → (given ≡ item.Need → ⊥) → Stays finished bytes given → Stays true bytes given
stays_at_end finished bytes _ unended decided (awaiting awaits) = absurd (decided (ap (λ f. waiting f bytes) unended))
stays_at_end finished bytes _ unended decided (refused status is) = refused status is

-- nor does it matter that the bytes have ended
pub gives_at_end : (link after : Link) (given : Item) → link.finished ≡ false → (given ≡ item.Need → ⊥) → Gives link given after → Gives (ended_link link) given (ended_link after)
gives_at_end link _ _ unended decided (ended why is) = ended why is
gives_at_end link _ given unended decided (stays _ none is) = stays given none (stays_at_end link.finished link.left given unended decided is)
gives_at_end link _ given unended decided (takes _ rest at closing none is) = takes given rest at closing none is

pub goes_on : (link after : Link) (given : Item) → Gives link given after → link.finished ≡ false → after.finished ≡ false
goes_on link _ _ (ended why is) unended = unended
goes_on link _ _ (stays given none is) unended = unended
goes_on link _ _ (takes given rest at closing none is) unended = unended

item_by_requests : (token : Option (List ℕ)) (r : Result Ask Fault) → is_request (item_by token r) ≡ true
item_by_requests token (Err fault) = refl
item_by_requests None (Ok asked) = refl
item_by_requests (Some token) (Ok asked) = refl

either_requests : (b : Bool) (x y : Item) → is_request x ≡ true → is_request y ≡ true → is_request (if b then x else y) ≡ true
either_requests true x y first second = first
either_requests false x y first second = second

item_got_requests : (method : List ℕ) (token : Option (List ℕ)) (r : Result Ask Fault) → is_request (item_got method token r) ≡ true
item_got_requests method token r = either_requests (bytes_eq method (codes "GET")) _ _ (item_by_requests token r) refl

item_requests : (way : Way) (method : List ℕ) (token : Option (List ℕ)) (body : List ℕ) → is_request (item_at way method token body) ≡ true
item_requests nowhere method token body = refl
item_requests ask method token body = either_requests (bytes_eq method (codes "POST")) _ _ (item_by_requests token (ask_of_body (caller_of token) body)) refl
item_requests (entry first second) method token body = item_got_requests method token (ask_of_entry (caller_of token) first second)
item_requests (page attempt) method token body = item_got_requests method token (ask_of_page (caller_of token) attempt)
item_requests (text_report quiz) method token body = item_got_requests method token (ask_of_report (caller_of token) quiz)
item_requests (csv_report quiz) method token body = item_got_requests method token (ask_of_report (caller_of token) quiz)

-- what is taken is a request
pub taken_requests : (bytes rest : List ℕ) (given : Item) (at : Route) (closing : Bool) → Takes bytes given rest at closing → is_request given ≡ true
taken_requests bytes rest given at closing t =
    ap is_request t.given_is ∙ item_requests (way_of t.read.target) t.read.method (token_in (authorization_of (fields_of t.read))) (take (body_length t.read) (behind t.read bytes))

pub same_at_need : (link after : Link) (given : Item) → given ≡ item.Need → Gives link given after → link ≡ after
same_at_need link _ _ need (ended why is) = refl
same_at_need link _ _ need (stays given none is) = refl
same_at_need link _ _ need (takes given rest at closing none is) = absurd (no_need given (taken_requests link.left rest given at closing is) need)

pub served : (link after : Link) (bytes : List ℕ) (items : List Item) → Serves link bytes items after → link.finished ≡ false
    → (more : List ℕ) (rest : List Item) (why : LinkEnd) → Talks (ended_link (fed after more)) rest why → Talks (ended_link (fed link (bytes ++ more))) (items ++ rest) why
served link _ _ _ (rests _) unended more rest why later = later
served link after _ items (feeds _ _ piece bytes _ so) unended more rest why later =
    let there = served (fed link piece) after bytes items so unended more rest why later in
    let same : link.left ++ piece ++ (bytes ++ more) ≡ link.left ++ ((piece ++ bytes) ++ more) = append_assoc link.left piece (bytes ++ more) ∙ ap (λ b. link.left ++ b) (sym (append_assoc piece bytes more)) in
    subst (λ b. Talks (ended_link (record link { left = b })) (items ++ rest) why) same there
served link after bytes items (needs _ next _ _ _ need so) unended more rest why later =
    let there = served next after bytes items so (goes_on link next item.Need need unended) more rest why later in
    subst (λ l. Talks (ended_link (fed l (bytes ++ more))) (items ++ rest) why) (sym (same_at_need link next item.Need refl need)) there
served link after bytes _ (gives _ next _ given _ items asks step so) unended more rest why later =
    let there = served next after bytes items so (goes_on link next given step unended) more rest why later in
    let longer = gives-append link next given (bytes ++ more) unended (no_need given asks) step in
    request _ _ given (items ++ rest) why asks (gives_at_end (fed link (bytes ++ more)) (fed next (bytes ++ more)) given unended (no_need given asks) longer) there
