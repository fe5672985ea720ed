-- A number or a time of a setting is within the bounds of its table, if its default is.
use Rattle.std.proofs.Common.{rules, ◌≡◌, ℕ, ◌^◌, ◌≤◌, nat_lt, nat_le, pos, Bool, true, false, ◌&&◌, Option, Some, None}
use Rattle.std.proofs.lemmas.Bool.{leb-true, and_parts}
use Rattle.setting_values.specs.{Values.Value, ValueOf.within, Kinds.{number_within, time_within, Absent, Kind, single}}
use Rattle.section_tables.specs.Shapes.{Setting}
use Rattle.mpf_sections.specs.TypedNumbers.{default_number, number_under, natural_from, default_time, time_under}

-- a number or a time within these bounds
abbrev pub InRange : ℕ → ℕ → ℕ → Type 0
InRange least greatest n = (least ≤ n) × (n ≤ greatest)

-- what a kind says of it
abbrev IsOfKind : Kind → ℕ → Type 0
IsOfKind (single (number_within (pos least) (pos greatest))) n = InRange least greatest n
IsOfKind (single (time_within least greatest)) ms = InRange least greatest ms
IsOfKind _ n = Unit {0}

-- what a setting says of it
abbrev pub IsUnder : Option Setting → ℕ → Type 0
IsUnder (Some s) n = IsOfKind s.kind n
IsUnder None n = Unit {0}

-- ---- numbers

abbrev has_natural : Kind → Absent Value → Bool
has_natural (single (number_within (pos least) (pos greatest))) absent =
    within (pos least) (pos greatest) (default_number (pos least) absent) && nat_lt greatest (2 ^ 32)
has_natural _ absent = false

-- whether a setting is one of a number of 32 bits, and its default is within its bounds
abbrev pub is_natural : Option Setting → Bool
is_natural (Some s) = has_natural s.kind s.absent
is_natural None = false

-- A number is within the bounds of its setting.
pub natural_in_range : (setting : Option Setting) (value : Option Value) → is_natural setting ≡ true
    → IsUnder setting (natural_from (number_under setting value))
natural_in_range x1 value h = search (rules, and_parts, leb-true)

-- ---- times

abbrev has_time : Kind → Absent Value → Bool
has_time (single (time_within least greatest)) absent =
    let otherwise = default_time least absent in nat_le least otherwise && nat_le otherwise greatest
has_time _ absent = false

-- whether a setting is one of a time, and its default is within its bounds
abbrev pub is_time : Option Setting → Bool
is_time (Some s) = has_time s.kind s.absent
is_time None = false

-- A time is within the bounds of its setting.
pub time_in_range : (setting : Option Setting) (value : Option Value) → is_time setting ≡ true
    → IsUnder setting (time_under setting value)
time_in_range x1 value h = search rules
