-- Worked dates, pages and reports.
use Rattle.std.specs.Prelude.{◌≡◌, List, [], ◌∷◌, Some, None, pos, codes, refl}
use Rattle.std.specs.Fmt.{digits}
use Rattle.csv.specs.Writing.{escaped, fields_text, is_blank}
use Rattle.qz_grading.specs.declared.outcome.State.TheVariants as state
use Rattle.qz_grading.specs.declared.refusal.AttemptId.{AttemptId}
use Rattle.qz_terms.specs.declared.reply.Done.TheVariants as done
use Rattle.qz_terms.specs.declared.reply.Part.{Part}
use Rattle.qz_terms.specs.declared.reply.Row.{Row}
use Rattle.qz_terms.specs.declared.reply.Shown.TheVariants as shown
use Rattle.qz_pages.specs.Dates.{civil_text, due_text, span_of}
use Rattle.qz_pages.specs.Pages.{page_text, slot_line}
use Rattle.qz_pages.specs.Reports.{grades_csv, grades_text}

-- ---- dates

pub nothing_due : due_text None ≡ codes "-"
nothing_due = refl

pub the_first_second : due_text (Some 0) ≡ codes "1970-01-01T00:00:00Z"
unfolding civil_text span_of
the_first_second = refl

pub the_second_day : due_text (Some 86400) ≡ codes "1970-01-02T00:00:00Z"
unfolding civil_text span_of
the_second_day = refl

pub a_leap_day : due_text (Some 951782400) ≡ codes "2000-02-29T00:00:00Z"
unfolding civil_text span_of
a_leap_day = refl

pub behind_a_leap_day : due_text (Some 951868800) ≡ codes "2000-03-01T00:00:00Z"
unfolding civil_text span_of
behind_a_leap_day = refl

pub the_last_day_of_a_leap_year : due_text (Some 1735689599) ≡ codes "2024-12-31T23:59:59Z"
unfolding civil_text span_of
the_last_day_of_a_leap_year = refl

pub the_greatest_moment : due_text (Some 4102444799) ≡ codes "2099-12-31T23:59:59Z"
unfolding civil_text span_of
the_greatest_moment = refl

-- 2100 has no leap day
pub no_leap_day : due_text (Some 4107542400) ≡ codes "2100-03-01T00:00:00Z"
unfolding civil_text span_of
no_leap_day = refl

pub the_last_date : due_text (Some 4133980799) ≡ codes "2100-12-31T23:59:59Z"
unfolding civil_text span_of
the_last_date = refl

pub past_the_last_date : due_text (Some 4133980800) ≡ codes "4133980800"
unfolding digits
past_the_last_date = refl

-- ---- pages

abbrev sky : Part
sky = record { text = codes "Sky"; state = state.Todo; mark = shown.None; hint = None; feedback = []; general = [] }

pub a_fresh_slot : slot_line sky ≡ codes "<li><pre>Sky</pre><p>todo -</p></li>"
a_fresh_slot = refl

-- no hint is no paragraph, and an empty feedback is none
pub a_graded_slot : slot_line (record sky { state = state.GradedPartial; mark = shown.Value (pos 15000000); feedback = codes "no" ∷ [] ∷ codes "a<b" ∷ []; general = codes "See \"4\"" }) ≡ codes "<li><pre>Sky</pre><p>gradedpartial 1.5000000</p><p>no</p><p>a&lt;b</p><p>See &quot;4&quot;</p></li>"
unfolding digits
a_graded_slot = refl

-- where the state is hidden no feedback is shown, whatever there is
pub a_hidden_slot : slot_line (record sky { state = state.Finished; mark = shown.Hidden; feedback = codes "no" ∷ []; general = codes "See 4" }) ≡ codes "<li><pre>Sky</pre><p>finished hidden</p></li>"
a_hidden_slot = refl

pub a_hint : slot_line (record sky { hint = Some (codes "It's <b>up</b> & out") }) ≡ codes "<li><pre>Sky</pre><p>todo -</p><p>Hint: It&#39;s &lt;b&gt;up&lt;/b&gt; &amp; out</p></li>"
a_hint = refl

pub an_empty_hint : slot_line (record sky { hint = Some [] }) ≡ codes "<li><pre>Sky</pre><p>todo -</p><p>Hint: </p></li>"
an_empty_hint = refl

abbrev ann : AttemptId
ann = record { user = 2; nth = 1 }

pub a_page : page_text (done.Page ann (codes "Tom & Co") (Some 86400) (sky ∷ [])) ≡ codes "<!doctype html>\n<title>Tom &amp; Co</title>\n<h1>Tom &amp; Co: attempt 2.1</h1>\n<p>Due 1970-01-02T00:00:00Z</p>\n<ol>\n<li><pre>Sky</pre><p>todo -</p></li>\n</ol>\n"
unfolding civil_text digits span_of
a_page = refl

-- ---- reports

abbrev some_rows : List Row
some_rows =
    record { user = 2; name = codes "ann"; grade = Some (pos 1000000) }
    ∷ record { user = 65535; name = codes "Lee, \"Bob\""; grade = None } ∷ []

pub two_lines : grades_text some_rows ≡ codes "       2     10.00000 ann\n   65535            - Lee, \"Bob\"\n"
unfolding digits
two_lines = refl

-- a number and a grade wider than their places are not cut
pub wide_columns : grades_text (record { user = 4294967295; name = codes "b"; grade = Some (pos 123456700000) } ∷ []) ≡ codes "4294967295 1234567.00000 b\n"
unfolding digits
wide_columns = refl

pub two_records : grades_csv some_rows ≡ codes "user,name,grade\n2,ann,10.00000\n65535,\"Lee, \"\"Bob\"\"\",\n"
unfolding digits escaped fields_text is_blank
two_records = refl

pub no_record : grades_csv [] ≡ codes "user,name,grade\n"
unfolding escaped fields_text is_blank
no_record = refl
