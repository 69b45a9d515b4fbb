-- The datetime that a text stands for, found by going through the text: what a definition can compute with. It decides
-- the relation `IsDatetimeText`.
use Rattle.std.specs.Prelude.{ℕ, ◌+◌, ◌*◌, List, [], ◌∷◌, length, take, drop, ℤ, pos, neg_ℤ, ◌+ℤ◌, ◌-ℤ◌, ◌*ℤ◌, Option, Some, None, Bool, ◌&&◌, ◌==◌, nat_lt, nat_le, if◌then◌else◌, option_map}
use Rattle.std.specs.Option.{option_and_then}
use Rattle.jiff_core.specs.Calendar.{days_in_month, days_from_civil}
use Rattle.sc_date_texts.specs.Forms.{fits, two_at, three_at, four_at}
use Rattle.sc_date_texts.specs.Moments.{fraction_length}
use Rattle.sc_date_texts.specs.DatetimeText.{date_form, clock_form, fraction_form, offset_form}

-- the calendar has this day, of a year from 0 to 9999
abbrev pub is_civil : ℕ → ℕ → ℕ → Bool
is_civil year month day =
    nat_lt 0 month && (nat_le month 12 && (nat_lt 0 day && nat_le day (days_in_month (pos year) month)))

abbrev pub date_of : List ℕ → Option ℤ
date_of text = if fits date_form text && is_civil (four_at text 0) (two_at text 5) (two_at text 8)
    then Some (days_from_civil (pos (four_at text 0)) (two_at text 5) (two_at text 8)) else None

abbrev pub clock_of : List ℕ → Option ℕ
clock_of text =
    if fits clock_form text && (nat_lt (two_at text 1) 24 && (nat_lt (two_at text 4) 60 && nat_lt (two_at text 7) 60))
    then Some (two_at text 1 * 3600000 + two_at text 4 * 60000 + two_at text 7 * 1000) else None

abbrev pub fraction_of : List ℕ → Option ℕ
fraction_of text = if length text == 0 then Some 0
    else (if fits fraction_form text then Some (three_at text 1) else None)

abbrev pub offset_of : List ℕ → Option ℕ
offset_of text = if fits offset_form text && (nat_lt (two_at text 0) 24 && nat_lt (two_at text 2) 60)
    then Some (two_at text 0 * 3600000 + two_at text 2 * 60000) else None

abbrev pub zone_of : List ℕ → Option ℤ
zone_of [] = None
zone_of (b ∷ bs) = if b == 90 then (if length bs == 0 then Some (pos 0) else None)
    else (if b == 43 then option_map pos (offset_of bs)
    else (if b == 45 then option_map (λ n. neg_ℤ (pos n)) (offset_of bs) else None))

-- the milliseconds of clock, fraction and zone
abbrev pub moment_of : List ℕ → Option ℤ
moment_of text =
    option_and_then (λ time. option_and_then (λ milliseconds. option_map (λ ahead. pos (time + milliseconds) -ℤ ahead)
    (zone_of (drop (fraction_length (drop 9 text)) (drop 9 text))))
    (fraction_of (take (fraction_length (drop 9 text)) (drop 9 text)))) (clock_of (take 9 text))

unfoldable pub datetime_of : List ℕ → Option ℤ
datetime_of text =
    option_and_then (λ day. if nat_le (length text) 10 then Some (day *ℤ pos 86400000)
    else option_map (λ time. day *ℤ pos 86400000 +ℤ time) (moment_of (drop 10 text)))
    (date_of (take 10 text))
