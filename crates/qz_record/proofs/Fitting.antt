-- What is written of a value whose Rust type keeps its numbers in their ranges: at least one byte, and one that fits where they are few.
use Rattle.std.proofs.Common.{◌≡◌, ℕ, ◌+◌, ◌-◌, ◌^◌, ◌<◌, ◌≤◌, Bool, true, false, ◌&&◌, ltb, List, [], ◌∷◌, ◌++◌, length, ℤ, Result, Ok, Err, OnOk, refl, arith}
use mir.Val.{SFits}
use Rattle.std.specs.Int.{to_le_bytes, w16, w32, w64, w128}
use Rattle.std.specs.List.{flat_map, list_all}
use Rattle.std.specs.Str.{is_utf8}
use Rattle.std.proofs.lemmas.Bool.{and_from, lt-ltb}
use Rattle.std.proofs.lemmas.List.{length-append}
use Rattle.qz_terms.specs.declared.record.How.{How}
use Rattle.qz_terms.specs.declared.record.How.TheVariants as how
use Rattle.qz_terms.specs.declared.access.Handling.{Handling}
use Rattle.qz_terms.specs.declared.access.Handling.TheVariants as handling
use Rattle.qz_terms.specs.declared.access.Review.{Review}
use Rattle.qz_terms.specs.declared.access.Review.TheVariants as review
use Rattle.qz_terms.specs.declared.grades.Method.{Method}
use Rattle.qz_terms.specs.declared.grades.Method.TheVariants as method
use Rattle.qz_grading.specs.declared.outcome.Behaviour.{Behaviour}
use Rattle.qz_grading.specs.declared.outcome.Behaviour.TheVariants as behaviour
use Rattle.qz_terms.specs.declared.people.Role.{Role}
use Rattle.qz_terms.specs.declared.people.Role.TheVariants as role
use Rattle.qz_terms.specs.declared.request.Whom.{Whom}
use Rattle.qz_terms.specs.declared.request.Whom.TheVariants as whom
use Rattle.qz_grading.specs.declared.question.Format.{Format}
use Rattle.qz_grading.specs.declared.question.Format.TheVariants as format
use Rattle.qz_terms.specs.Spelling.{behaviour_bytes, bool_bytes, format_bytes, handling_bytes, how_bytes, list_bytes, method_bytes, review_bytes, role_bytes, signed_bytes, text_bytes, whom_bytes, wide_bytes}
use Rattle.qz_record.specs.Fields.{Field, IsFit, i128_field, i64_field, list_field, text_field}
use Rattle.qz_record.proofs.NumberCodes.{at_fits}

-- ---- one behind the other

pub both : (a b : List ℕ) (x y : Bool) → IsFit a x → IsFit b y → IsFit (a ++ b) (x && y)
both a b x y fa fb = record {
  some = omega (arith, length-append a b, fa.some);
  fits = λ short. and_from x y (fa.fits (omega (arith, length-append a b, short))) (fb.fits (omega (arith, length-append a b, short)));
}

-- where the second was written last
pub both_written : {A E : Type 0} (r : Result A E) (a b : List ℕ) (x y : Bool) → IsFit a x → OnOk r (IsFit b y) → OnOk r (IsFit (a ++ b) (x && y))
both_written (Ok v) a b x y fa fb = both a b x y fa fb
both_written (Err e) a b x y fa fb = tt

-- behind the number of a variant
pub tagged : (n : ℕ) (bytes : List ℕ) (x : Bool) → IsFit bytes x → IsFit (n ∷ bytes) x
tagged n bytes x f = record { some = omega arith; fits = λ short. f.fits (omega (arith, short)) }

pub tagged_written : {A E : Type 0} (r : Result A E) (n : ℕ) (bytes : List ℕ) (x : Bool) → OnOk r (IsFit bytes x) → OnOk r (IsFit (n ∷ bytes) x)
tagged_written (Ok v) n bytes x f = tagged n bytes x f
tagged_written (Err e) n bytes x f = tt

pub single : (bytes : List ℕ) → length bytes ≡ 1 → IsFit bytes true
single bytes e = record { some = omega (arith, e); fits = λ short. refl }

pub one : (n : ℕ) → IsFit (n ∷ []) true
one n = record { some = omega arith; fits = λ short. refl }

-- ---- numbers

pub byte : (n : ℕ) → n < 256 → IsFit (n ∷ []) (ltb n 256)
byte n lt = record { some = omega arith; fits = λ short. lt-ltb n 256 lt }

pub two : (n : ℕ) → n < 2 ^ 16 → IsFit (to_le_bytes w16 n) (ltb n (2 ^ 16))
two n lt = record { some = omega arith; fits = λ short. lt-ltb n (2 ^ 16) lt }

pub four : (n : ℕ) → n < 2 ^ 32 → IsFit (to_le_bytes w32 n) (ltb n (2 ^ 32))
four n lt = record { some = omega arith; fits = λ short. lt-ltb n (2 ^ 32) lt }

pub eight : (n : ℕ) → n < 2 ^ 64 → IsFit (to_le_bytes w64 n) (ltb n (2 ^ 64))
eight n lt = record { some = omega arith; fits = λ short. lt-ltb n (2 ^ 64) lt }

pub signed_eight : (z : ℤ) → SFits w64 z → IsFit (signed_bytes z) (i64_field.fits z)
unfolding i64_field
signed_eight z fits = record { some = omega arith; fits = λ short. at_fits w64 (2 ^ 63 - 1) refl z fits }

pub signed_sixteen : (z : ℤ) → SFits w128 z → IsFit (wide_bytes z) (i128_field.fits z)
unfolding i128_field
signed_sixteen z fits = record { some = omega arith; fits = λ short. at_fits w128 (2 ^ 127 - 1) refl z fits }

-- ---- texts and lists

pub utf8 : (t : List ℕ) → is_utf8 t ≡ true → IsFit (text_bytes t) (text_field.fits t)
unfolding text_field
utf8 t is = record {
  some = omega (arith, length-append (to_le_bytes w32 (length t)) t);
  fits = λ short. and_from (ltb (length t) (2 ^ 32)) (is_utf8 t) (lt-ltb (length t) (2 ^ 32) (omega (arith, length-append (to_le_bytes w32 (length t)) t, short))) is;
}

-- the items that are written: each has a byte, and all of them fit where their bytes are few
pub record AreFit {A : Type 0} (f : Field A) (bytes : A → List ℕ) (xs : List A) : Type 0 where
  pub count : length xs ≤ length (flat_map bytes xs)
  pub fits : length (flat_map bytes xs) < 2 ^ 32 → list_all f.fits xs ≡ true

pub list : {A : Type 0} (f : Field A) (bytes : A → List ℕ) (xs : List A) → AreFit f bytes xs → IsFit (list_bytes bytes xs) ((list_field f).fits xs)
unfolding list_field
list f bytes xs are = record {
  some = omega (arith, length-append (to_le_bytes w32 (length xs)) (flat_map bytes xs));
  fits = λ short.
      and_from (ltb (length xs) (2 ^ 32)) (list_all f.fits xs)
      (lt-ltb (length xs) (2 ^ 32) (omega (arith, length-append (to_le_bytes w32 (length xs)) (flat_map bytes xs), are.count, short)))
      (are.fits (omega (arith, length-append (to_le_bytes w32 (length xs)) (flat_map bytes xs), short)));
}

-- ---- enums without fields

pub bool_len : (b : Bool) → length (bool_bytes b) ≡ 1
bool_len false = refl
bool_len true = refl

pub truth : (b : Bool) → IsFit (bool_bytes b) true
truth b = single (bool_bytes b) (bool_len b)

pub how_len : (x : How) → length (how_bytes x) ≡ 1
how_len how.Finished = refl
how_len how.Abandoned = refl

pub how_one : (x : How) → IsFit (how_bytes x) true
how_one x = single (how_bytes x) (how_len x)

pub handling_len : (x : Handling) → length (handling_bytes x) ≡ 1
handling_len handling.AutoSubmit = refl
handling_len handling.GracePeriod = refl
handling_len handling.AutoAbandon = refl

pub handling_one : (x : Handling) → IsFit (handling_bytes x) true
handling_one x = single (handling_bytes x) (handling_len x)

pub review_len : (x : Review) → length (review_bytes x) ≡ 1
review_len review.Always = refl
review_len review.Finish = refl
review_len review.Close = refl

pub review_one : (x : Review) → IsFit (review_bytes x) true
review_one x = single (review_bytes x) (review_len x)

pub method_len : (x : Method) → length (method_bytes x) ≡ 1
method_len method.Highest = refl
method_len method.Average = refl
method_len method.First = refl
method_len method.Last = refl

pub method_one : (x : Method) → IsFit (method_bytes x) true
method_one x = single (method_bytes x) (method_len x)

pub behaviour_len : (x : Behaviour) → length (behaviour_bytes x) ≡ 1
behaviour_len behaviour.Deferred = refl
behaviour_len behaviour.Immediate = refl
behaviour_len behaviour.Interactive = refl
behaviour_len behaviour.Adaptive = refl
behaviour_len behaviour.AdaptiveNoPenalty = refl
behaviour_len behaviour.DeferredCbm = refl
behaviour_len behaviour.ImmediateCbm = refl
behaviour_len behaviour.Manual = refl
behaviour_len behaviour.Information = refl

pub behaviour_one : (x : Behaviour) → IsFit (behaviour_bytes x) true
behaviour_one x = single (behaviour_bytes x) (behaviour_len x)

pub role_len : (x : Role) → length (role_bytes x) ≡ 1
role_len role.Manager = refl
role_len role.Teacher = refl
role_len role.Student = refl

pub role_one : (x : Role) → IsFit (role_bytes x) true
role_one x = single (role_bytes x) (role_len x)

pub whom_len : (x : Whom) → length (whom_bytes x) ≡ 1
whom_len whom.User = refl
whom_len whom.Group = refl

pub whom_one : (x : Whom) → IsFit (whom_bytes x) true
whom_one x = single (whom_bytes x) (whom_len x)

pub format_len : (x : Format) → length (format_bytes x) ≡ 1
format_len format.Moodle = refl
format_len format.Html = refl
format_len format.Plain = refl
format_len format.Markdown = refl

pub format_one : (x : Format) → IsFit (format_bytes x) true
format_one x = single (format_bytes x) (format_len x)
