-- The numbers and the times of a row, with the bounds and the defaults that its table gives.
use Rattle.std.specs.Prelude.{ℕ, ℤ, pos, ◌^◌, nat_lt, nat_le, ◌&&◌, if◌then◌else◌, List, Option, Some, None, slice_get}
use Rattle.setting_values.specs.{Values.{number, time, Value, one}, ValueOf.within}
use Rattle.setting_values.specs.Kinds.{number_within, time_within, Absent, default, Kind, single}
use Rattle.section_tables.specs.Shapes.{Setting}
use Rattle.mpf_sections.specs.Typed.{place_of}

-- ---- numbers

-- the default of a number, or the least number if there is no default
abbrev pub default_number : ℤ → Absent Value → ℤ
default_number least (default (one (number n))) = n
default_number least _ = least

-- a number that keeps to these bounds; if there is none, this one
abbrev pub bounded_number : ℤ → ℤ → ℤ → Option Value → ℤ
bounded_number least greatest otherwise (Some (one (number n))) =
    if within least greatest n then n else otherwise
bounded_number least greatest otherwise _ = otherwise

-- the number that a setting of this kind has, by its value; 0 if it is no setting of a number
abbrev pub number_by : Kind → Absent Value → Option Value → ℤ
number_by (single (number_within least greatest)) absent value =
    bounded_number least greatest (default_number least absent) value
number_by _ absent value = pos 0

-- the same, by the row of its table
abbrev pub number_under : Option Setting → Option Value → ℤ
number_under (Some s) value = number_by s.kind s.absent value
number_under None value = pos 0

-- the number at a place of a row of this table
abbrev pub number_at : List Setting → List Value → ℕ → ℤ
number_at table row place = number_under (slice_get table place) (slice_get row place)

-- a number from 0 to 2^32 - 1; of any other, 0
abbrev pub natural_from : ℤ → ℕ
natural_from (pos n) = if nat_lt n (2 ^ 32) then n else 0
natural_from _ = 0

-- the number of a setting, by its key, in a row of this table
abbrev pub natural_setting : List Setting → List ℕ → List Value → ℕ
natural_setting table key row = natural_from (number_at table row (place_of table key))

-- ---- times

-- the default of a time, or the least time if there is no default
abbrev pub default_time : ℕ → Absent Value → ℕ
default_time least (default (one (time ms))) = ms
default_time least _ = least

-- milliseconds that keep to these bounds; if there are none, these
abbrev pub bounded_time : ℕ → ℕ → ℕ → Option Value → ℕ
bounded_time least greatest otherwise (Some (one (time ms))) =
    if nat_le least ms && nat_le ms greatest then ms else otherwise
bounded_time least greatest otherwise _ = otherwise

-- the milliseconds that a setting of this kind has, by its value; 0 if it is no setting of a time
abbrev pub time_by : Kind → Absent Value → Option Value → ℕ
time_by (single (time_within least greatest)) absent value =
    bounded_time least greatest (default_time least absent) value
time_by _ absent value = 0

-- the same, by the row of its table
abbrev pub time_under : Option Setting → Option Value → ℕ
time_under (Some s) value = time_by s.kind s.absent value
time_under None value = 0

-- the milliseconds at a place of a row of this table
abbrev pub time_at : List Setting → List Value → ℕ → ℕ
time_at table row place = time_under (slice_get table place) (slice_get row place)

-- the milliseconds of a setting, by its key, in a row of this table
abbrev pub time_setting : List Setting → List ℕ → List Value → ℕ
time_setting table key row = time_at table row (place_of table key)
