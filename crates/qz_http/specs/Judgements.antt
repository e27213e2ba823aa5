-- What is judged of the bytes of a request so far.
use Rattle.std.specs.Prelude.{ℕ, ◌≡◌, ◌<◌, ◌≤◌, ◌⊎◌, true, false, List, [], ◌++◌, length, map, take, Option, Some, None, option_copied}
use Rattle.httparse.specs.declared.spans.HeaderSpan.{HeaderSpan}
use Rattle.httparse.specs.declared.spans.RequestSpans.{RequestSpans}
use Rattle.httparse.specs.Spans.{header_bytes, span_bytes}
use Rattle.httparse.specs.Grammar.{RequestHead, print_request, ReadsRequest, HasNoRequest, NeverHasRequest}
use Rattle.qz_http.specs.declared.heads.Head.{Head}
use Rattle.qz_http.specs.declared.heads.Judgement.{Judgement}
use Rattle.qz_http.specs.declared.heads.Judgement.TheVariants as judgement
use Rattle.qz_http.specs.Heads.{fields_of, fault_of, body_of, closes, authorization_of}
use Rattle.qz_http.specs.Targets.{is_past_target}

abbrev pub most_bytes : ℕ
most_bytes = 8192

-- a head is looked for in the first bytes alone
abbrev pub first_bytes : List ℕ → List ℕ
first_bytes bytes = take most_bytes bytes

abbrev pub BeginsWith : List ℕ → RequestHead → Type 0
BeginsWith bytes h = (rest : List ℕ) × ReadsRequest (first_bytes bytes) h rest

abbrev pub head_fault : RequestHead → Option ℕ
head_fault h = fault_of h.method (fields_of h)

-- no bytes can follow that make a head, and the target, whose test waits for its end, isn't being read
pub record IsHopeless (bytes : List ℕ) : Type 0 where
  pub never : NeverHasRequest bytes
  pub past : is_past_target bytes ≡ true

-- some bytes can follow that make a head, or they don't go past the target yet
abbrev pub IsOpen : List ℕ → Type 0
IsOpen bytes = ((more : List ℕ) × (h : RequestHead) × ReadsRequest (bytes ++ more) h []) ⊎ (is_past_target bytes ≡ false)

-- no whole head yet
pub record IsUnfinished (bytes : List ℕ) : Type 0 where
  pub no_head : HasNoRequest (first_bytes bytes)
  pub goes_on : IsOpen (first_bytes bytes)

-- the parts of a head
pub record IsHead (h : RequestHead) (head : Head) : Type 0 where
  pub method : head.method.now ≡ h.method
  pub target : head.target.now ≡ h.target
  pub authorization : option_copied head.authorization ≡ authorization_of (fields_of h)
  pub closes : head.closes ≡ closes h.minor (fields_of h)
  pub body : head.body ≡ body_of (fields_of h)
  pub len : head.len ≡ length (print_request h)

-- why a head is refused with this status
pub data Refuses (bytes : List ℕ) : ℕ → Type 0 where
  hopeless : IsHopeless (first_bytes bytes) → Refuses bytes 400
  too_long : most_bytes ≤ length bytes → IsUnfinished bytes → Refuses bytes 431
  at_fault : (status : ℕ) (h : RequestHead) → BeginsWith bytes h → head_fault h ≡ Some status → Refuses bytes status

-- a head that isn't refused
pub record IsWhole (bytes : List ℕ) (head : Head) : Type 0 where
  pub read : RequestHead
  pub begins : BeginsWith bytes read
  pub without_fault : head_fault read ≡ None
  pub parts : IsHead read head

abbrev pub Judges : List ℕ → Judgement → Type 0
Judges bytes judgement.More = (length bytes < most_bytes) × IsUnfinished bytes
Judges bytes (judgement.Bad status) = Refuses bytes status
Judges bytes (judgement.Whole head) = IsWhole bytes head

-- ---- a whole head as the parser reads it

-- the spans cover the parts of the head
pub record IsRead (bytes : List ℕ) (spans : RequestSpans) (headers : List HeaderSpan) (h : RequestHead) : Type 0 where
  pub method : span_bytes bytes spans.method ≡ h.method
  pub target : span_bytes bytes spans.path ≡ h.target
  pub version : spans.version ≡ h.minor
  pub fields : map (header_bytes bytes) headers ≡ fields_of h
  pub len : spans.len ≡ length (print_request h)

abbrev pub JudgesRead : RequestHead → Judgement → Type 0
JudgesRead h judgement.More = ⊥
JudgesRead h (judgement.Bad status) = head_fault h ≡ Some status
JudgesRead h (judgement.Whole head) = (head_fault h ≡ None) × IsHead h head
