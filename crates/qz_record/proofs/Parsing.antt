-- The payload of a record, read and spelled.
use Rattle.std.proofs.Common.{◌≡◌, ℕ, true, List, [], ◌++◌, Some, refl, sym, ap, ◌∙◌}
use Rattle.std.specs.Prelude.{IfSome}
use Rattle.std.proofs.lemmas.Bool.{and_parts}
use Rattle.std.proofs.lemmas.List.{append-nil}
use Rattle.std.proofs.lemmas.Option.{some_pair_parts}
use Rattle.qz_terms.specs.declared.record.Event.{Event}
use Rattle.qz_terms.specs.declared.record.Event.TheVariants as event
use Rattle.qz_terms.specs.declared.record.Record.{Record}
use Rattle.qz_terms.specs.declared.request.Request.{Request}
use Rattle.qz_terms.specs.declared.request.Request.TheVariants as request
use Rattle.qz_terms.specs.Catalog.{asked, asked_by}
use Rattle.qz_terms.specs.CatalogAnswer.{keeps_record}
use Rattle.qz_terms.specs.Kept.{IsKept, KeepsEvent}
use Rattle.qz_terms.specs.Spelling.{spelling}
use Rattle.qz_record.specs.declared.fault.RecordFault.{RecordFault}
use Rattle.qz_record.specs.declared.fault.RecordFault.TheVariants as fault
use Rattle.qz_record.specs.Parts.{event_field, fits_event, fits_request, record_field, request_field}
use Rattle.qz_record.specs.Records.{is_spellable}
use Rattle.qz_record.proofs.Codes.{IsBytes}
use Rattle.qz_record.proofs.PartCodes.{record-code}

pub read-spelled : (r : Record) → is_spellable r ≡ true → record_field.read (spelling r) ≡ Some (r, [])
read-spelled r fits = ap record_field.read (sym (append-nil (spelling r))) ∙ record-code.again r [] fits

pub record Spelled (payload : List ℕ) (r : Record) : Type 0 where
  pub spellable : is_spellable r ≡ true
  pub whole : payload ≡ spelling r

pub spelled-read : (payload : List ℕ) (r : Record) → IsBytes payload → record_field.read payload ≡ Some (r, []) → Spelled payload r
spelled-read payload r is e = let t = record-code.takes payload r [] is e in record { spellable = t.fits; whole = t.parts ∙ append-nil (spelling r) }

pub spelled-same : (r s : Record) → is_spellable r ≡ true → is_spellable s ≡ true → spelling r ≡ spelling s → r ≡ s
spelled-same r s fr fs e = (some_pair_parts r s [] [] (sym (read-spelled r fr) ∙ ap record_field.read e ∙ read-spelled s fs)).0

pub spelled-whole : (r s : Record) (more : List ℕ) → is_spellable r ≡ true → is_spellable s ≡ true → spelling r ++ more ≡ spelling s → more ≡ []
spelled-whole r s more fr fs e = (some_pair_parts r s more [] (sym (record-code.again r more fr) ∙ ap record_field.read e ∙ read-spelled s fs)).1

-- the record that was read is the one that was spelled
pub read-same : (payload : List ℕ) (made r : Record) → record_field.read payload ≡ Some (made, []) → is_spellable r ≡ true → payload ≡ spelling r → made ≡ r
read-same payload made r read fits e = (some_pair_parts made r [] [] (sym read ∙ ap record_field.read e ∙ read-spelled r fits)).0

-- only want of memory keeps one that is spelled from being read
pub only-memory : (payload : List ℕ) (e : RecordFault) (r : Record) → (e ≡ fault.NotOne → (s : Record) → record_field.read payload ≡ Some (s, []) → ⊥) → is_spellable r ≡ true → payload ≡ spelling r → e ≡ fault.Memory
only-memory payload fault.NotOne r none fits e = absurd (none refl r (ap record_field.read e ∙ read-spelled r fits))
only-memory payload fault.Memory r none fits e = refl

-- ---- a request that is read is one that the catalogue keeps

request-kept : (x : Request) → fits_request x ≡ true → keeps_record x ≡ true
request-kept (request.User name role token) fits = refl
request-kept (request.Group name) fits = refl
request-kept (request.Member group user) fits = refl
request-kept (request.Import gift) fits = refl
request-kept (request.Edit entry gift) fits = refl
request-kept (request.Tune entry penalty hints) fits = refl
request-kept (request.Quiz name behaviour) fits = refl
request-kept (request.Slot quiz entry max) fits = refl
request-kept (request.Ready quiz) fits = refl
request-kept (request.Remax quiz slot max) fits = refl
request-kept (request.Policy quiz method grade) fits = refl
request-kept (request.Times quiz opens closes limit allowed handling grace review) fits = refl
request-kept (request.Override quiz whom number opens closes limit allowed) fits = refl
request-kept (request.Regrade quiz) fits = refl
request-kept x fits = absurd cc

fits-request : (x : Request) → request_field.fits x ≡ true → fits_request x ≡ true
unfolding request_field
fits-request x fits = fits

event-kept : (e : Event) → fits_event e ≡ true → IfSome (asked_by e) (λ (x : Request). keeps_record x ≡ true)
event-kept (event.Asked x) fits = request-kept x (fits-request x fits)
event-kept e fits = tt

fits-event : (r : Record) → record_field.fits r ≡ true → fits_event r.event ≡ true
unfolding record_field event_field
fits-event r fits = (and_parts _ _ fits).1

-- and so does one that is kept
event-asks : (e : Event) → KeepsEvent e → IfSome (asked_by e) (λ (x : Request). keeps_record x ≡ true)
event-asks (event.Asked x) kept = kept.0
event-asks e kept = tt

pub kept-asks : (r : Record) → IsKept r → IfSome (asked r) (λ (x : Request). keeps_record x ≡ true)
kept-asks r kept = event-asks r.event kept.event

pub record-asks : (r : Record) → is_spellable r ≡ true → IfSome (asked r) (λ (x : Request). keeps_record x ≡ true)
record-asks r fits = event-kept r.event (fits-event r fits)
