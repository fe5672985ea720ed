-- No list in the rows of a section has more than 1,024 items, by the names of settings either.
use Rattle.std.proofs.Common.{rules, ℕ, zero, suc, ◌≤◌, List, [], ◌∷◌, length, Option, Some, None, slice_get, arith}
use Rattle.std.{specs.{List.All, Str.bytes_eq}, proofs.lemmas.List.Elements.{All-head, All-tail}}
use Rattle.setting_values.specs.{Values.Value, NamedValues.IsShortValue}
use Rattle.section_tables.specs.{Rows.{Entry, PlayerEntry}, Named.{IsShortEntry, IsShortPlayer}}
use Rattle.mpf_sections.specs.{Rows.SectionRows, Typed.switches_in}
use Rattle.mpf_sections.specs.Short.{IsShortSection, IsShortSwitch, IsShortEventPlayer}
use Rattle.mpf_tables.specs.SectionTables.{switches_name}
use Rattle.mpf_sections.specs.Typed.{listed_names, listed_posts, switch_of, event_player_of, entries_in, entries_of}
use Rattle.yaml_bytes.proofs.Each.{all_where, made_each}

pub none_short : 0 ≤ 1024
none_short = omega arith

pub one_short : 1 ≤ 1024
one_short = omega arith

abbrev pub IsShortOption : Option Value → Type 0
IsShortOption None = Unit {0}
IsShortOption (Some v) = IsShortValue 1024 v

pub value_at_short : (row : List Value) (i : ℕ) → All (IsShortValue 1024) row → IsShortOption (slice_get row i)
value_at_short [] i h = tt
value_at_short (v ∷ vs) zero h = All-head (IsShortValue 1024) v vs h
value_at_short (v ∷ vs) (suc i) h = value_at_short vs i (All-tail (IsShortValue 1024) v vs h)

pub names_short : (o : Option Value) → IsShortOption o → length (listed_names o) ≤ 1024
names_short x1 h = search rules

pub posts_short : (o : Option Value) → IsShortOption o → length (listed_posts o) ≤ 1024
posts_short x1 h = search rules

-- No list in an entry of `event_player` has, either.
pub event_player_short : (p : PlayerEntry) → IsShortPlayer 1024 p → IsShortEventPlayer (event_player_of p)
unfolding event_player_of
event_player_short p h = posts_short (Some p.value) h
