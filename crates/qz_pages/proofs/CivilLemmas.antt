-- A day lies in the year and the month that jiff's calendar gives it.
use Rattle.std.proofs.Common.{◌≡◌, ℕ, zero, suc, ◌+◌, ◌-◌, ◌*◌, ◌/◌, ◌%◌, ◌<◌, ◌≤◌, [], ◌∷◌, ◌++◌, refl, ap, ◌∙◌, arith, ℤ, pos, negsuc, ◌≤ℤ◌, None}
use Rattle.std.proofs.lemmas.Int.{by_lt_z}
use Rattle.jiff.specs.Words.{iso_datetime_text, nanos_of_seconds}
use Rattle.jiff_core.specs.Calendar.{IsCivilDate, day_count, day_of_year, days_from_civil, days_in_month, days_in_year, days_of_months}
use Rattle.jiff_core.specs.Date.{epoch_day}
use Rattle.jiff_core.specs.DateTime.{civil_nanos}
use Rattle.jiff_core.specs.Time.{time_seconds}
use Rattle.jiff_core.specs.declared.civil.datetime.DateTime.{DateTime}
use Rattle.jiff_core.specs.declared.civil.time.Time.{Time}
use Rattle.jiff_core.proofs.CalendarLemmas.{day_count-day_of_year, day_count-epoch, day_count-later_year, day_count-lt_year, day_count-next_year, day_of_year_bound, days_from_civil-day_count, days_in_year_bounds, days_of_months-zero, days_of_months_more}
use Rattle.jiff_core.proofs.DateLemmas.{civil}
use Rattle.jiff_core.proofs.DateTimeLemmas.{civil_nanos-parts, time_nanos_bound}
use Rattle.jiff_core.proofs.MarchLemmas.{day_count-early}
use Rattle.jiff_core.proofs.SignedLemmas.{signed_arith}
use Rattle.jiff_fmt.specs.Text.{pad2, year_text}
use Rattle.jiff_fmt.specs.Text as jiff
use Rattle.qz_pages.specs.Dates.{civil_text, date_text, month_of, span_of, time_text, year_of}

-- ---- spans in a row

found : (len : ℕ → ℕ) (spans first day : ℕ) → day < len first → span_of len (suc spans) first day ≡ (first, day)
unfolding span_of
found len spans first day within = grind arith

passed : (len : ℕ → ℕ) (spans first day : ℕ) → len first ≤ day → span_of len (suc spans) first day ≡ span_of len spans (first + 1) (day - len first)
unfolding span_of
passed len spans first day behind = grind arith

-- each span begins behind the one before
abbrev InRow : (ℕ → ℕ) → (ℕ → ℕ) → ℕ → Type 0
InRow len begin first = (k : ℕ) → first ≤ k → begin (k + 1) ≡ begin k + len k

begins_later : (len begin : ℕ → ℕ) (first after : ℕ) → InRow len begin first → begin first ≤ begin (first + after)
begins_later len begin first zero row = let same : first + 0 ≡ first = omega arith in rw same (omega arith)
begins_later len begin first (suc after) row =
    let next : first + suc after ≡ first + after + 1 = omega arith in
    rw next (omega (arith, begins_later len begin first after row, row (first + after) (omega arith)))

-- a place in one of them is found there
span_of-place : (len begin : ℕ → ℕ) (spans first after place : ℕ) → InRow len begin first → after ≤ spans → place < len (first + after) → span_of len spans first (begin (first + after) + place - begin first) ≡ (first + after, place)
unfolding span_of
span_of-place len begin zero first zero place row few within =
    let same : first + 0 ≡ first = omega arith in
    let day : begin first + place - begin first ≡ place = omega arith in
    rw (same, day) refl
span_of-place len begin zero first (suc after) place row few within = absurd (omega arith)
span_of-place len begin (suc spans) first zero place row few within =
    let same : first + 0 ≡ first = omega arith in
    let day : begin first + place - begin first ≡ place = omega arith in
    rw (same, day) (found len spans first place (rw same at within))
span_of-place len begin (suc spans) first (suc after) place row few within =
    let next : first + suc after ≡ first + 1 + after = omega arith in
    let step = row first (omega arith) in
    let later = begins_later len begin (first + 1) after (λ k h. row k (omega arith)) in
    let day : begin (first + 1 + after) + place - begin first - len first ≡ begin (first + 1 + after) + place - begin (first + 1) = omega (arith, step, later) in
    let rest = span_of-place len begin spans (first + 1) after place (λ k h. row k (omega arith)) (omega arith) (rw next at within) in
    rw next (passed len spans first (begin (first + 1 + after) + place - begin first) (omega (arith, step, later)) ∙ rw day rest)

-- ---- years and months

year_row : InRow (λ y. days_in_year (pos y)) (λ y. day_count (pos y) 1 1) 1970
year_row k h = day_count-next_year (pos k) (pos (k + 1)) (omega (arith, signed_arith)) (omega (arith, signed_arith))

year_of-place : (y place n : ℕ) → 1970 ≤ y → y ≤ 2100 → place < days_in_year (pos y) → n + 4371953 ≡ day_count (pos y) 1 1 + place → year_of n ≡ (y, place)
year_of-place y place n low high within count =
    let same : 1970 + (y - 1970) ≡ y = omega arith in
    let day : day_count (pos y) 1 1 + place - day_count (pos 1970) 1 1 ≡ n = omega (arith, day_count-epoch) in
    rw (same, day) at (span_of-place (λ y. days_in_year (pos y)) (λ y. day_count (pos y) 1 1) 131 1970 (y - 1970) place year_row (omega arith) (rw same within))

month_row : (y : ℤ) → InRow (days_in_month y) (λ m. days_of_months y (m - 1)) 1
month_row y k h = let back : k + 1 - 1 ≡ k = omega arith in rw back (days_of_months_more y k h)

month_of-place : (y m d : ℕ) → 1 ≤ m → m ≤ 12 → 1 ≤ d → d ≤ days_in_month (pos y) m → month_of (y, day_of_year (pos y) m d - 1) ≡ (m, d - 1)
month_of-place y m d low high first last =
    let same : 1 + (m - 1) ≡ m = omega arith in
    let day : days_of_months (pos y) (m - 1) + (d - 1) - days_of_months (pos y) 0 ≡ day_of_year (pos y) m d - 1 = omega (arith, days_of_months-zero (pos y)) in
    rw (same, day) at (span_of-place (days_in_month (pos y)) (λ m. days_of_months (pos y) (m - 1)) 12 1 (m - 1) (d - 1) (month_row (pos y)) (omega arith) (rw same (omega arith)))

-- ---- a date

counted : (year : ℤ) (m d n : ℕ) → days_from_civil year m d ≡ pos n → day_count year m d ≡ n + 4371953
counted year m d n e = omega (arith, signed_arith, days_from_civil-day_count year m d, e)

day_count-2100 : day_count (pos 2100) 1 1 ≡ 4419435
day_count-2100 = day_count-early (pos 2100) 12099 1 1 refl (omega arith) (omega arith) (omega arith)

from_1970 : (year : ℤ) (m d n : ℕ) → IsCivilDate year m d → day_count year m d ≡ n + 4371953 → pos 1970 ≤ℤ year
from_1970 year m d n h count =
    by_lt_z year (pos 1970)
    (λ lt. absurd (omega (arith, day_count-lt_year year m d (pos 1970) 1 1 h (omega arith) lt, day_count-epoch, count)))
    (λ ge. ge)

to_2100 : (year : ℤ) (m d n : ℕ) → IsCivilDate year m d → day_count year m d ≡ n + 4371953 → n ≤ 47846 → year ≤ℤ pos 2100
to_2100 year m d n h count few =
    by_lt_z (pos 2100) year
    (λ lt. absurd (omega (arith, day_count-later_year (pos 2100) year (omega (arith, signed_arith)) lt, days_in_year_bounds (pos 2100), day_count-2100, count, day_count-day_of_year year m d h.2.0, h.2.0)))
    (λ le. le)

date_text-is : (year : ℤ) (m d n : ℕ) → IsCivilDate year m d → days_from_civil year m d ≡ pos n → n ≤ 47846 → year_text year ++ 45 ∷ [] ++ pad2 m ++ 45 ∷ [] ++ pad2 d ≡ date_text n
date_text-is (negsuc k) m d n h e few =
    absurd (omega (arith, signed_arith, from_1970 (negsuc k) m d n h (counted (negsuc k) m d n e)))
date_text-is (pos y) m d n h e few =
    let count = counted (pos y) m d n e in
    let low : 1970 ≤ y = omega (arith, signed_arith, from_1970 (pos y) m d n h count) in
    let high : y ≤ 2100 = omega (arith, signed_arith, to_2100 (pos y) m d n h count few) in
    let behind = day_count-day_of_year (pos y) m d h.2.0 in
    let within = day_of_year_bound (pos y) m d h in
    let year = year_of-place y (day_of_year (pos y) m d - 1) n low high (omega (arith, within, h.2.0)) (omega (arith, count, behind, h.2.0)) in
    let month = month_of-place y m d h.1.0 h.1.1 h.2.0 h.2.1 in
    let day : d - 1 + 1 ≡ d = omega (arith, h.2.0) in
    rw (year, month, day) refl

-- ---- a time of day

hour_is : (h m s : ℕ) → m < 60 → s < 60 → (h * 3600 + m * 60 + s) / 3600 ≡ h
hour_is h m s minutes seconds = omega arith

minute_is : (h m s : ℕ) → m < 60 → s < 60 → (h * 3600 + m * 60 + s) / 60 % 60 ≡ m
minute_is h m s minutes seconds = omega arith

second_is : (h m s : ℕ) → s < 60 → (h * 3600 + m * 60 + s) % 60 ≡ s
second_is h m s seconds = omega arith

time_text-is : (t : Time) → t.subsec_nanosecond ≡ 0 → jiff.time_text None t ≡ time_text (time_seconds t)
time_text-is t whole =
    rw (whole, hour_is t.hour t.minute t.second (omega arith) (omega arith), minute_is t.hour t.minute t.second (omega arith) (omega arith), second_is t.hour t.minute t.second (omega arith)) refl

-- ---- both

day_is : (dt : DateTime) (s : ℕ) → civil_nanos dt ≡ nanos_of_seconds (pos s) → epoch_day dt.date ≡ pos (s / 86400)
day_is dt s e = omega (arith, signed_arith, e, civil_nanos-parts dt, time_nanos_bound dt.time)

time_is : (dt : DateTime) (s : ℕ) → civil_nanos dt ≡ nanos_of_seconds (pos s) → time_seconds dt.time ≡ s % 86400
time_is dt s e = omega (arith, signed_arith, e, civil_nanos-parts dt, time_nanos_bound dt.time)

whole_is : (dt : DateTime) (s : ℕ) → civil_nanos dt ≡ nanos_of_seconds (pos s) → dt.time.subsec_nanosecond ≡ 0
whole_is dt s e = omega (arith, signed_arith, e, civil_nanos-parts dt, time_nanos_bound dt.time)

-- the text of what a clock in UTC shows at a moment
pub civil_text-is : (dt : DateTime) (s : ℕ) → s ≤ 4133980799 → civil_nanos dt ≡ nanos_of_seconds (pos s) → iso_datetime_text dt ≡ civil_text s
unfolding civil_text
civil_text-is dt s few e =
    let date = date_text-is dt.date.year dt.date.month dt.date.day (s / 86400) (civil dt.date) (day_is dt s e) (omega arith) in
    let time = time_text-is dt.time (whole_is dt s e) ∙ ap time_text (time_is dt s e) in
    rw (date, time) refl
