-- What a link gives, from the bytes fed to it.
use Rattle.std.specs.Prelude.{ℕ, zero, suc, ◌≡◌, ◌-◌, ◌<◌, ◌≤◌, Bool, true, false, List, [], ◌∷◌, ◌++◌, length, take, drop, Option, Some, None, is_some}
use Rattle.httparse.specs.Grammar.{RequestHead, print_request}
use Rattle.qz_terms.specs.declared.reply.Reply.{Reply}
use Rattle.qz_http.specs.declared.items.Item.{Item}
use Rattle.qz_http.specs.declared.items.Item.TheVariants as item
use Rattle.qz_http.specs.declared.items.LinkEnd.{LinkEnd}
use Rattle.qz_http.specs.declared.items.LinkEnd.TheVariants as end
use Rattle.qz_http.specs.declared.links.Step.{Step}
use Rattle.qz_http.specs.declared.links.Step.TheVariants as step
use Rattle.qz_http.specs.declared.responses.Route.{Route}
use Rattle.qz_http.specs.declared.responses.Route.TheVariants as route
use Rattle.qz_http.specs.Heads.{body_of, closes, fields_of}
use Rattle.qz_http.specs.Items.{AsksAskable, item_of}
use Rattle.qz_http.specs.Judgements.{BeginsWith, IsUnfinished, Refuses, head_fault, most_bytes}
use Rattle.qz_http.specs.Responses.{bare_response, reply_response}
use Rattle.qz_http.specs.Routes.{Way, nowhere, ask, csv_report, entry, page, text_report, way_of}

-- the bytes fed and not taken yet, how many requests may still come, whether the bytes have ended, the end that the last request
-- decided, and its route
pub record Link : Type 0 where
  pub left : List ℕ
  pub more : ℕ
  pub finished : Bool
  pub over : Option LinkEnd
  pub route : Route

abbrev pub most_requests : ℕ
most_requests = 1000

abbrev pub new_link : Link
new_link = record { left = []; more = most_requests; finished = false; over = None; route = route.Ask }

-- more bytes have come
abbrev pub fed : Link → List ℕ → Link
fed link piece = record link { left = link.left ++ piece }

-- ---- the bytes of a request

abbrev pub head_length : RequestHead → ℕ
head_length h = length (print_request h)

abbrev pub body_length : RequestHead → ℕ
body_length h = body_of (fields_of h)

-- what stands behind the head
abbrev pub behind : RequestHead → List ℕ → List ℕ
behind h bytes = drop (head_length h) bytes

-- bytes begin with a head that isn't refused
pub record HasHead (bytes : List ℕ) (h : RequestHead) : Type 0 where
  pub begins : BeginsWith bytes h
  pub without_fault : head_fault h ≡ None

-- no whole head yet, or not all of its body
pub data Awaits (bytes : List ℕ) : Type 0 where
  head : length bytes < most_bytes → IsUnfinished bytes → Awaits bytes
  body : (h : RequestHead) → HasHead bytes h → length (behind h bytes) < body_length h → Awaits bytes

abbrev pub route_by : Way → Route
route_by nowhere = route.Ask
route_by ask = route.Ask
route_by (entry first second) = route.Entry
route_by (page attempt) = route.Page
route_by (text_report quiz) = route.TextReport
route_by (csv_report quiz) = route.CsvReport

-- ---- steps

-- the bytes ended, and these are no whole request
abbrev pub cut_end : List ℕ → LinkEnd
cut_end [] = end.End
cut_end (b ∷ bytes) = end.Cut (length (b ∷ bytes))

-- while a request isn't whole
abbrev pub waiting : Bool → List ℕ → Item
waiting false left = item.Need
waiting true left = item.Over (cut_end left)

-- a whole request is taken from the front
pub record Takes (bytes : List ℕ) (given : Item) (rest : List ℕ) (at : Route) (closing : Bool) : Type 0 where
  pub read : RequestHead
  pub has_head : HasHead bytes read
  pub whole : body_length read ≤ length (behind read bytes)
  pub given_is : given ≡ item_of read (take (body_length read) (behind read bytes))
  pub rest_is : rest ≡ drop (body_length read) (behind read bytes)
  pub route_is : at ≡ route_by (way_of read.target)
  pub closing_is : closing ≡ closes read.minor (fields_of read)

-- nothing is taken
pub data Stays (finished : Bool) (bytes : List ℕ) : Item → Type 0 where
  awaiting : Awaits bytes → Stays finished bytes (waiting finished bytes)
  refused : (status : ℕ) → Refuses bytes status → Stays finished bytes (item.Over (end.Bad status))

abbrev pub Steps : Bool → List ℕ → Step → Type 0
Steps finished bytes (step.Stays given) = Stays finished bytes given
Steps finished bytes (step.Takes given len at closing) = (len ≤ length bytes) × Takes bytes given (drop len bytes) at closing

abbrev pub StepAsksAskable : Step → Type 0
StepAsksAskable (step.Stays given) = AsksAskable given
StepAsksAskable (step.Takes given len at closing) = AsksAskable given

-- the end that a request decides, of which so many more may come
abbrev pub end_after : ℕ → Bool → Option LinkEnd
end_after zero closing = Some end.Full
end_after (suc n) true = Some end.Closed
end_after (suc n) false = None

-- ---- what a link gives next, and the link after it

pub data Gives (link : Link) : Item → Link → Type 0 where
  ended : (why : LinkEnd) → link.over ≡ Some why → Gives link (item.Over why) link
  stays : (given : Item) → link.over ≡ None → Stays link.finished link.left given → Gives link given link
  takes : (given : Item) (rest : List ℕ) (at : Route) (closing : Bool) → link.over ≡ None → Takes link.left given rest at closing
      → Gives link given (record link { left = rest; more = link.more - 1; over = end_after (link.more - 1) closing; route = at })

-- ---- what is written for it

-- the reply to an ask or to a refusal, and nothing where nothing is answered
abbrev pub written : Link → Item → Reply → List ℕ
written link (item.Ask asked) reply = reply_response link.route (is_some link.over) reply
written link (item.Refused refusal) reply = reply_response link.route (is_some link.over) reply
written link (item.Bare status) reply = bare_response status (is_some link.over)
written link (item.Over end.End) reply = []
written link (item.Over (end.Cut left)) reply = []
written link (item.Over end.Closed) reply = []
written link (item.Over (end.Bad status)) reply = bare_response status true
written link (item.Over end.Full) reply = []
written link (item.Over end.ReadFault) reply = []
written link (item.Over end.WriteFault) reply = []
written link (item.Over end.Memory) reply = []
written link item.Need reply = []
