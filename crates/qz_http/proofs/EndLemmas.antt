-- How a link ends.
use Rattle.std.proofs.Common.{◌≡◌, ℕ, ◌-◌, true, List, [], ◌∷◌, drop, refl, sym, subst}
use Rattle.std.specs.Prelude.{Option, Some, None}
use Rattle.qz_http.specs.declared.heads.Head.{Head}
use Rattle.qz_http.specs.declared.items.Item.{Item}
use Rattle.qz_http.specs.declared.items.Item.TheVariants as item
use Rattle.qz_http.specs.declared.items.LinkEnd.{LinkEnd}
use Rattle.qz_http.specs.declared.items.LinkEnd.TheVariants as end
use Rattle.qz_http.specs.declared.responses.Route.{Route}
use Rattle.qz_http.specs.Fronts.{IsRequest}
use Rattle.qz_http.specs.Items.{item_of}
use Rattle.qz_http.specs.Judgements.{Refuses}
use Rattle.qz_http.specs.Links.{Awaits, Gives, Link, awaiting, cut_end, end_after, ended, refused, route_by, stays, takes}
use Rattle.qz_http.specs.Routes.{way_of}
use Rattle.qz_http.specs.Talk.{EndsSo, Talks, is_request, over, request}
use Rattle.qz_http.proofs.LinkLemmas.{taken}
use Rattle.qz_http.proofs.TalkLemmas.{taken_requests}

-- no bytes come, and so many requests may be answered, unless the link is over
abbrev link_at : List ℕ → ℕ → Option LinkEnd → Route → Link
link_at bytes more o at = record { left = bytes; more = more; finished = true; over = o; route = at }

pub ends_in_part : (bytes : List ℕ) (more : ℕ) → Awaits bytes → EndsSo bytes more (cut_end bytes)
ends_in_part bytes more awaits =
    record { so = λ at. let link = link_at bytes more None at in ([], over link link (cut_end bytes) (stays (item.Over (cut_end bytes)) refl (awaiting awaits))) }

pub ends_badly : (bytes : List ℕ) (more status : ℕ) → Refuses bytes status → EndsSo bytes more (end.Bad status)
ends_badly bytes more status is =
    record { so = λ at. let link = link_at bytes more None at in ([], over link link (end.Bad status) (stays (item.Over (end.Bad status)) refl (refused status is))) }

-- a whole request stands at the front, and these come after it
further : (bytes part : List ℕ) (len more : ℕ) (h : Head) (o : Option LinkEnd) (why : LinkEnd) → IsRequest bytes h part len → o ≡ end_after (more - 1) h.closes
    → ((at : Route) → (items : List Item) × Talks (link_at (drop len bytes) (more - 1) o at) items why) → EndsSo bytes more why
further bytes part len more h o why is decided rest = record {
  so = λ at.
      let given = item_of is.whole.read part in
      let to = route_by (way_of h.target.now) in
      let take = taken bytes part len given to h.closes h is refl refl refl in
      let link = link_at bytes more None at in
      let step : Gives link given (link_at (drop len bytes) (more - 1) o to) =
      subst (λ e. Gives link given (link_at (drop len bytes) (more - 1) e to)) (sym decided) (takes given (drop len bytes) to h.closes refl take.1) in
      let asks : is_request given ≡ true = taken_requests bytes (drop len bytes) given to h.closes take.1 in
      let later = rest to in
      (given ∷ later.0, request link (link_at (drop len bytes) (more - 1) o to) given later.0 why asks step later.1);
}

pub ends_here : (bytes part : List ℕ) (len more : ℕ) (h : Head) (why : LinkEnd) → IsRequest bytes h part len → end_after (more - 1) h.closes ≡ Some why → EndsSo bytes more why
ends_here bytes part len more h why is decided =
    further bytes part len more h (Some why) why is (sym decided) (λ at. let link = link_at (drop len bytes) (more - 1) (Some why) at in ([], over link link why (ended why refl)))

pub ends_later : (bytes part : List ℕ) (len more : ℕ) (h : Head) (why : LinkEnd) → IsRequest bytes h part len → end_after (more - 1) h.closes ≡ None
    → EndsSo (drop len bytes) (more - 1) why → EndsSo bytes more why
ends_later bytes part len more h why is decided rest = further bytes part len more h None why is (sym decided) rest.so
