-- The civil date and time in UTC of a moment. Years and months are as long as jiff's calendar says.
use Rattle.std.specs.Prelude.{ℕ, zero, suc, ◌+◌, ◌-◌, ◌/◌, ◌%◌, List, ◌++◌, Option, Some, None, pos, nat_le, nat_lt, if◌then◌else◌, codes, decimal}
use Rattle.jiff_core.specs.Calendar.{days_in_month, days_in_year}
use Rattle.jiff_fmt.specs.Text.{pad2, pad4}

-- of so many spans in a row, as long as told, the number of the one in which a day lies, and the day's place in it from 0
unfoldable pub span_of : (ℕ → ℕ) → ℕ → ℕ → ℕ → ℕ × ℕ
span_of len zero first day = (first, day)
span_of len (suc spans) first day = if nat_lt day (len first) then (first, day) else span_of len spans (first + 1) (day - len first)

-- the year of a day from 1970-01-01 on, up to the end of 2100, and the day's place in it
abbrev pub year_of : ℕ → ℕ × ℕ
year_of day = span_of (λ year. days_in_year (pos year)) 131 1970 day

-- the month of a day of a year, and the day's place in it
abbrev pub month_of : ℕ × ℕ → ℕ × ℕ
month_of day = span_of (λ month. days_in_month (pos day.0) month) 12 1 day.1

-- `YYYY-MM-DD`
abbrev pub date_text : ℕ → List ℕ
date_text day =
    pad4 (year_of day).0 ++ codes "-" ++ pad2 (month_of (year_of day)).0
    ++ codes "-" ++ pad2 ((month_of (year_of day)).1 + 1)

-- `hh:mm:ss`
abbrev pub time_text : ℕ → List ℕ
time_text second =
    pad2 (second / 3600) ++ codes ":" ++ pad2 (second / 60 % 60) ++ codes ":" ++ pad2 (second % 60)

-- `YYYY-MM-DDThh:mm:ss`
unfoldable pub civil_text : ℕ → List ℕ
civil_text moment = date_text (moment / 86400) ++ codes "T" ++ time_text (moment % 86400)

-- the last second of 2100; no legal list has a moment past it
abbrev pub last_civil : ℕ
last_civil = 4133980799

-- a dash where nothing is due, and the number itself past the last civil moment
abbrev pub due_text : Option ℕ → List ℕ
due_text None = codes "-"
due_text (Some moment) = if nat_le moment last_civil then civil_text moment ++ codes "Z" else decimal moment
