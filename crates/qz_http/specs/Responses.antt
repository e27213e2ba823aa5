-- The bytes of a response.
use Rattle.std.specs.Prelude.{ℕ, Bool, true, false, ◌&&◌, List, [], ◌++◌, length, unwrap_or, nat_le, nat_lt, if◌then◌else◌, decimal, codes}
use Rattle.http.specs.StatusCode.{reason_phrase}
use Rattle.qz_grading.specs.Canonical.{canonical_question}
use Rattle.qz_grading.specs.declared.refusal.Refusal.{Refusal}
use Rattle.qz_grading.specs.declared.refusal.Refusal.TheVariants as refusal
use Rattle.qz_json.specs.Replies.{reply_text}
use Rattle.qz_terms.specs.declared.reply.Done.{Done}
use Rattle.qz_terms.specs.declared.reply.Done.TheVariants as done
use Rattle.qz_terms.specs.declared.reply.Reply.{Reply}
use Rattle.qz_terms.specs.declared.reply.Reply.TheVariants as reply
use Rattle.qz_pages.specs.Pages.{is_page, page_text}
use Rattle.qz_pages.specs.Reports.{grades_csv, grades_text, is_report, rows_of}
use Rattle.qz_http.specs.declared.responses.Body.{Body}
use Rattle.qz_http.specs.declared.responses.Body.TheVariants as body
use Rattle.qz_http.specs.declared.responses.Route.{Route}
use Rattle.qz_http.specs.declared.responses.Route.TheVariants as route

abbrev pub phrase : ℕ → List ℕ
phrase status = if nat_le 100 status && nat_lt status 1000 then unwrap_or (reason_phrase status) [] else []

abbrev pub type_text : Body → List ℕ
type_text body.Empty = codes "text/plain"
type_text body.Text = codes "text/plain; charset=utf-8"
type_text body.Html = codes "text/html; charset=utf-8"
type_text body.Csv = codes "text/csv; charset=utf-8"
type_text body.Json = codes "application/json"

abbrev pub connection_text : Bool → List ℕ
connection_text true = codes "close"
connection_text false = codes "keep-alive"

abbrev pub line_end : List ℕ
line_end = codes "\r\n"

unfoldable pub status_line : ℕ → List ℕ
status_line status = codes "HTTP/1.1 " ++ decimal status ++ codes " " ++ phrase status ++ line_end

unfoldable pub field_line : List ℕ → List ℕ → List ℕ
field_line name value = name ++ codes ": " ++ value ++ line_end

-- a status line, three fields and an empty line
unfoldable pub head_text : ℕ → Body → Bool → ℕ → List ℕ
head_text status kind closes size =
    status_line status ++ field_line (codes "Content-Type") (type_text kind) ++ field_line (codes "Content-Length") (decimal size)
    ++ field_line (codes "Connection") (connection_text closes) ++ line_end

unfoldable pub response : ℕ → Body → Bool → List ℕ → List ℕ
response status kind closes bytes = head_text status kind closes (length bytes) ++ bytes

-- without a body
abbrev pub bare_response : ℕ → Bool → List ℕ
bare_response status closes = response status body.Empty closes []

-- ---- replies

abbrev pub refusal_status : Refusal → ℕ
refusal_status (refusal.Malformed place rule) = 400
refusal_status refusal.UnknownToken = 401
refusal_status (refusal.Forbidden rule) = 403
refusal_status (refusal.Unknown what) = 404
refusal_status (refusal.KeyReused place) = 409
refusal_status (refusal.NotOpen opens) = 409
refusal_status (refusal.Late due) = 409
refusal_status (refusal.Closed place) = 409
refusal_status (refusal.NoAttemptsLeft allowed) = 409
refusal_status (refusal.Unfinished attempt) = 409
refusal_status (refusal.WrongAction behaviour) = 409
refusal_status (refusal.SlotEnded state) = 409
refusal_status refusal.NeedsTryAgain = 409
refusal_status refusal.Misfit = 422
refusal_status (refusal.OutOfRange max) = 422
refusal_status refusal.NotFinished = 409
refusal_status (refusal.Incompatible bound newer) = 422
refusal_status (refusal.TooMany limit) = 422
refusal_status refusal.KeepFault = 503
refusal_status refusal.Memory = 507

abbrev pub reply_status : Reply → ℕ
reply_status (reply.Ok place accepted) = 200
reply_status (reply.Refused refusal) = refusal_status refusal

abbrev pub is_gift : Done → Bool
is_gift (done.Gift question) = true
is_gift d = false

abbrev pub gift_text : Done → List ℕ
gift_text (done.Gift question) = canonical_question question
gift_text d = []

-- an accepted reply that is what its route asks for is shown so, and any other reply as JSON
abbrev pub done_body : Route → Done → Body
done_body route.Ask d = body.Json
done_body route.Entry d = if is_gift d then body.Text else body.Json
done_body route.Page d = if is_page d then body.Html else body.Json
done_body route.TextReport d = if is_report d then body.Text else body.Json
done_body route.CsvReport d = if is_report d then body.Csv else body.Json

abbrev pub shown_body : Route → Reply → Body
shown_body at (reply.Ok place d) = done_body at d
shown_body at (reply.Refused refusal) = body.Json

-- beside what it is as JSON
abbrev pub done_text : Route → Done → List ℕ → List ℕ
done_text route.Ask d json = json
done_text route.Entry d json = if is_gift d then gift_text d else json
done_text route.Page d json = if is_page d then page_text d else json
done_text route.TextReport d json = if is_report d then grades_text (rows_of d) else json
done_text route.CsvReport d json = if is_report d then grades_csv (rows_of d) else json

abbrev pub shown_text : Route → Reply → List ℕ
shown_text at (reply.Ok place d) = done_text at d (reply_text (reply.Ok place d))
shown_text at (reply.Refused refusal) = reply_text (reply.Refused refusal)

-- the response to a request of this route
abbrev pub reply_response : Route → Bool → Reply → List ℕ
reply_response route closes r = response (reply_status r) (shown_body route r) closes (shown_text route r)
