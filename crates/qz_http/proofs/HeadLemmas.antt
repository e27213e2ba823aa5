-- How many fields the bytes of a head hold, and its judgement.
use Rattle.std.proofs.Common.{◌≡◌, ℕ, ◌+◌, ◌*◌, ◌<◌, ◌≤◌, List, [], ◌∷◌, ◌++◌, length, take, refl, sym, ap, ◌∙◌, arith, length-append, ◌≢◌, inl, inr, subst, true, false}
use Rattle.std.specs.Prelude.{All, Bool, Option, Some, None, codes, if◌then◌else◌, nat_lt, unwrap_or}
use Rattle.std.proofs.lemmas.Bool.Decides.{nat_tests}
use Rattle.qz_http.specs.Heads.{body_by, body_of, coding_fault, fault_of, length_fault, size_fault, size_of, values}
use Rattle.std.specs.List.{flat_map}
use Rattle.std.proofs.lemmas.List.{append-nil, length-take}
use Rattle.std.proofs.lemmas.List.Elements.{All-nil, All-cons, All-head, All-tail}
use Rattle.httparse.specs.Grammar.{LineEnd, crlf, lf, print_end, Field, IsField, print_blank, print_version, print_field, RequestHead, IsRequestHead, print_request, ReadsRequest}
use Rattle.httparse.specs.declared.spans.HeaderSpan.{HeaderSpan}
use Rattle.httparse.specs.declared.spans.RequestSpans.{RequestSpans}
use Rattle.httparse.specs.Grammar.{HasNoRequest, NeverHasRequest, MayBecomeRequest}
use Rattle.httparse.specs.declared.Error.{Error}
use Rattle.httparse.specs.declared.Error.TheVariants.{TooManyHeaders}
use Rattle.httparse.specs.Spans.{IsHeaderWithin, IsRequestAt, RequestExceeds}
use Rattle.qz_http.specs.declared.heads.Judgement.{Judgement}
use Rattle.qz_http.specs.declared.heads.Judgement.TheVariants as judgement
use Rattle.qz_http.specs.Judgements.{first_bytes, at_fault, hopeless, IsOpen, IsRead, IsUnfinished, Judges, JudgesRead, Refuses}
use Rattle.qz_http.specs.Targets.{is_past_target}
use Rattle.qz_http.proofs.TargetLemmas.{ends_inside}

end_length : (end : LineEnd) → 1 ≤ length (print_end end)
end_length crlf = omega arith
end_length lf = omega arith

field_length : (f : Field) → IsField f → 3 ≤ length (print_field f)
field_length f is =
    let end = end_length f.end in
    let name : 0 < length f.name = is.name.0 in
    omega (arith, end, name, length-append (f.name ++ 58 ∷ f.raw) (print_end f.end), length-append f.name (58 ∷ f.raw))

fields_length : (fs : List Field) → All IsField fs → 3 * length fs ≤ length (flat_map print_field fs)
fields_length [] all = omega arith
fields_length (f ∷ fs) all =
    let first = field_length f (All-head IsField f fs all) in
    let rest = fields_length fs (All-tail IsField f fs all) in
    omega (arith, first, rest, length-append (print_field f) (flat_map print_field fs))

back_length : (a b : List ℕ) → length b ≤ length (a ++ b)
back_length a b = omega (arith, length-append a b)

front_length : (a b : List ℕ) → length a ≤ length (a ++ b)
front_length a b = omega (arith, length-append a b)

head_length : (h : RequestHead) → IsRequestHead h → 3 * length h.fields ≤ length (print_request h)
unfolding print_request
head_length h is =
    let fields = fields_length h.fields is.fields in
    let section = front_length (flat_map print_field h.fields) (print_end h.last) in
    omega (arith, fields, section, back_length (print_blank h.blank ++ h.method ++ 32 ∷ h.target ++ 32 ∷ print_version h.minor ++ print_end h.line_end) (flat_map print_field h.fields ++ print_end h.last))

pub not_too_many : (bytes : List ℕ) → length bytes ≤ 8192 → RequestExceeds 2731 bytes → ⊥
not_too_many bytes short over =
    let reads = over.4 in
    let cut : length bytes ≡ length over.0 + length over.1 = ap length over.2 ∙ length-append over.0 over.1 in
    let lines : length over.0 + 1 ≡ length (print_request over.3 ++ []) = sym (length-append over.0 (print_end lf)) ∙ ap length reads.1 in
    let whole = front_length (print_request over.3) [] in
    let empty = length-append (print_request over.3) [] in
    omega (arith, head_length over.3 reads.0, cut, lines, whole, empty, over.5)

pub first_short : (bytes : List ℕ) → length (first_bytes bytes) ≤ 8192
first_short bytes = omega (arith, length-take 8192 bytes)

-- ---- judgements

pub read_at : (bytes : List ℕ) (headers : List HeaderSpan) (spans : RequestSpans) (h : RequestHead) → IsRequestAt bytes headers spans h → IsRead bytes spans (take spans.headers headers) h
read_at bytes headers spans h is = record { method = is.method; target = is.path; version = is.version; fields = is.fields; len = is.len }

pub headers_within : (len most : ℕ) (headers : List HeaderSpan) → len ≤ most → All (IsHeaderWithin len) headers → All (IsHeaderWithin most) headers
headers_within len most [] within all = All-nil _
headers_within len most (h ∷ headers) within all =
    let first = All-head (IsHeaderWithin len) h headers all in
    All-cons (IsHeaderWithin most) h headers ((first.0.0, omega (arith, within, first.0.1)), (first.1.0, omega (arith, within, first.1.1)))
    (headers_within len most headers within (All-tail (IsHeaderWithin len) h headers all))

pub judged : (bytes first rest : List ℕ) (h : RequestHead) (j : Judgement) → first ≡ first_bytes bytes → ReadsRequest first h rest → JudgesRead h j → Judges bytes j
judged bytes first rest h judgement.More same reads is = absurd is
judged bytes first rest h (judgement.Bad status) same reads is =
    let R : List ℕ → Type 0 = λ b. ReadsRequest b h rest in
    at_fault status h (rest, subst R same reads) is
judged bytes first rest h (judgement.Whole head) same reads is =
    let R : List ℕ → Type 0 = λ b. ReadsRequest b h rest in
    record { read = h; begins = (rest, subst R same reads); without_fault = is.0; parts = is.1 }

may_go_on : (bytes : List ℕ) → MayBecomeRequest bytes → IsOpen bytes
may_go_on bytes may = elim may [ inl some ↦ inl some | inr ends ↦ inr (ends_inside ends) ]

pub unfinished : (bytes first : List ℕ) → first ≡ first_bytes bytes → HasNoRequest first → IsOpen first → IsUnfinished bytes
unfinished bytes first same none goes_on =
    record { no_head = let N : List ℕ → Type 0 = λ b. HasNoRequest b in subst N same none; goes_on = let O : List ℕ → Type 0 = λ b. IsOpen b in subst O same goes_on }

pub unfinished_as_read : (bytes first : List ℕ) → first ≡ first_bytes bytes → HasNoRequest first → MayBecomeRequest first → IsUnfinished bytes
unfinished_as_read bytes first same none may = unfinished bytes first same none (may_go_on first may)

pub hopeless_first : (bytes first : List ℕ) → first ≡ first_bytes bytes → NeverHasRequest first → is_past_target first ≡ true → Refuses bytes 400
hopeless_first bytes first same never outside =
    hopeless (record { never = let N : List ℕ → Type 0 = λ b. NeverHasRequest b in subst N same never; past = let O : List ℕ → Type 0 = λ b. is_past_target b ≡ true in subst O same outside })

pub never_first : (bytes first : List ℕ) (room : ℕ) (e : Error) → first ≡ first_bytes bytes → room ≡ 2731 → (e ≢ TooManyHeaders → NeverHasRequest first) → (e ≡ TooManyHeaders → RequestExceeds room first) → NeverHasRequest first
never_first bytes first room e same is invalid over =
    let short : length first ≤ 8192 = omega (arith, first_short bytes, ap length same) in
    invalid (λ many. not_too_many first short (let R : ℕ → Type 0 = λ n. RequestExceeds n first in subst R is (over many)))

pub none_yet : (first : List ℕ) → NeverHasRequest first → HasNoRequest first
none_yet first never = let N : List ℕ → Type 0 = λ b. HasNoRequest b in subst N (append-nil first) (never [])

-- ---- how long a request is

none_if : (over : Bool) (status : ℕ) → ◌≡◌ {A = Option ℕ} (if over then Some status else None) None → over ≡ false
none_if true status is = absurd cc
none_if false status is = refl

size_within : (o : Option ℕ) → size_fault o ≡ None → unwrap_or o 0 ≤ 1048576
size_within None is = absurd cc
size_within (Some n) is = let within : nat_lt 1048576 n ≡ false = none_if (nat_lt 1048576 n) 413 is in grind (arith, nat_tests)

length_within : (method : List ℕ) (vs : List (List ℕ)) → length_fault method vs ≡ None → body_by vs ≤ 1048576
length_within method [] is = omega arith
length_within method (v ∷ []) is = size_within (size_of v) is
length_within method (v ∷ w ∷ more) is = absurd cc

without_coding : (vs : List (List ℕ)) (fault : Option ℕ) → coding_fault vs fault ≡ None → fault ≡ None
without_coding [] fault is = is
without_coding (v ∷ more) fault is = absurd cc

not_many : (many : Bool) (fault : Option ℕ) → (if many then Some 431 else fault) ≡ None → fault ≡ None
not_many true fault is = absurd cc
not_many false fault is = is

pub body_within : (method : List ℕ) (fields : List (List ℕ × List ℕ)) → fault_of method fields ≡ None → body_of fields ≤ 1048576
body_within method fields is =
    let coding = values (codes "transfer-encoding") fields in
    let lengths = values (codes "content-length") fields in
    length_within method lengths (without_coding coding (length_fault method lengths) (not_many (nat_lt 64 (length fields)) (coding_fault coding (length_fault method lengths)) is))
