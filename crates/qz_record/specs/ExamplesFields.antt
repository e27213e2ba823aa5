-- Worked fields: what is read at the front of some bytes, and the ends of ranges.
use Rattle.std.specs.Prelude.{◌≡◌, ◌-◌, ◌^◌, true, false, [], ◌∷◌, replicate, pos, negsuc, Some, None, codes, refl}
use Rattle.std.specs.Char.{encode_utf8}
use Rattle.std.specs.Str.{chars, is_utf8}
use Rattle.qz_terms.specs.declared.record.Event.TheVariants as event
use Rattle.qz_terms.specs.declared.record.Record.{Record}
use Rattle.qz_terms.specs.Spelling.{spelling}
use Rattle.qz_record.specs.Fields.{bool_field, i64_field, list_field, many, option_field, text_field, u16_field, u32_field, u64_field, u8_field}
use Rattle.qz_record.specs.Parts.{event_field, jobdone_event, record_field}
use Rattle.qz_record.specs.Records.{is_spellable}

pub two_bytes_low_first : u16_field.read (2 ∷ 1 ∷ 9 ∷ []) ≡ Some (258, 9 ∷ [])
unfolding u16_field
two_bytes_low_first = refl

pub too_few_bytes : u32_field.read (1 ∷ 0 ∷ 0 ∷ []) ≡ None
unfolding u32_field
too_few_bytes = refl

pub minus_one : i64_field.read (replicate 8 255) ≡ Some (negsuc 0, [])
unfolding i64_field
minus_one = refl

pub least_mark : i64_field.fits (negsuc (2 ^ 63 - 1)) ≡ true
unfolding i64_field
least_mark = refl

pub no_mark : i64_field.fits (pos (2 ^ 63)) ≡ false
unfolding i64_field
no_mark = refl

pub neither_true_nor_false : bool_field.read (2 ∷ []) ≡ None
unfolding bool_field
neither_true_nor_false = refl

pub neither_some_nor_none : (option_field u8_field).read (2 ∷ 7 ∷ []) ≡ None
unfolding option_field
neither_some_nor_none = refl

pub one_item : (list_field u8_field).read (1 ∷ 0 ∷ 0 ∷ 0 ∷ 7 ∷ 9 ∷ []) ≡ Some (7 ∷ [], 9 ∷ [])
unfolding list_field many u8_field u32_field
one_item = refl

pub a_text : text_field.read (2 ∷ 0 ∷ 0 ∷ 0 ∷ 97 ∷ 98 ∷ 99 ∷ []) ≡ Some (codes "ab", codes "c")
unfolding text_field u32_field is_utf8 chars encode_utf8
a_text = refl

pub no_text : text_field.read (1 ∷ 0 ∷ 0 ∷ 0 ∷ 255 ∷ []) ≡ None
unfolding text_field u32_field is_utf8 chars encode_utf8
no_text = refl

-- the first job, of the first quiz, is done at position 9
abbrev job_done : Record
job_done = record { moment = 100; caller = 0; owner = 0; key = None; terms = None; event = event.JobDone 1 1 9 }

pub has_a_spelling : is_spellable job_done ≡ true
unfolding record_field event_field option_field u32_field u64_field
has_a_spelling = refl

pub is_read : record_field.read (spelling job_done) ≡ Some (job_done, [])
unfolding record_field event_field jobdone_event option_field u32_field u64_field
is_read = refl
