-- What holds of coils, coil players and coil rules, by the names of their settings: their names are names, and their
-- settings are in their ranges.
use Rattle.std.proofs.Common.{rules, ◌≡◌, ℕ, ◌≤◌, Bool, true, false, ◌||◌, List, [], ◌∷◌, map, length, Option, Some}
use Rattle.std.proofs.{Common.{None, IfSome, is_some, unwrap_or, slice_get, refl, arith}, lemmas.List.length-map}
use Rattle.std.specs.{List.{All, list_any}, Prelude.{if◌then◌else◌, option_map}, Str.bytes_eq}
use Rattle.mpf_tables.specs.SectionTables.{named_in}
use Rattle.mpf_values.specs.Names.{IsName}
use Rattle.setting_values.specs.Values.{Plain, KeyedValues, Value}
use Rattle.section_tables.specs.{Rows.{Entry, PlayerEntry}, Named.{IsNamedEntry, IsNamedPlayer, IsShortPlayer}}
use Rattle.mpf_sections.specs.{Rows.{WrittenName, SectionRows}, declared.coil_rules.RuleForm.RuleForm}
use Rattle.mpf_sections.specs.{Short.IsCoilPlayerInRange, CoilRules.IsNamedCoilRule}
use Rattle.mpf_sections.specs.Typed.{text_of, listed_keyed, name_in, pulse_in, power_in, entries_of, players_of}
use Rattle.mpf_sections.specs.CoilRules.{coil_rules, coil_rule_sections, name_at, switch_at, rule_by, coil_rule_of}
use Rattle.mpf_sections.specs.TypedCoils.{coils_name, coil_player_name, max_hold_power, coil_of, coil_item_of}
use Rattle.mpf_sections.specs.TypedCoils.{coil_player_of, needed_at, coils_in, coil_players_in}
use Rattle.mpf_sections.specs.Named.{IsNamedCoil, IsNamedCoilPlayer}
use Rattle.mpf_sections.specs.Short.{IsPulseInRange, IsPowerInRange, IsCoilInRange, IsItemInRange, IsShortCoilPlayer}
use Rattle.mpf_sections.proofs.{ShortRows.IsShortOption, NumberRows.time_in_range, RowNames.entries_of_named}
use Rattle.mpf_sections.proofs.RowNames.{IsNamedOption, value_at_named, events_named, event_named, keyed_named}
use Rattle.mpf_sections.proofs.DeviceRows.{IsNamedText, IsNamedWritten, name_in_named}
use Rattle.yaml_bytes.proofs.Each.{all_mapped, made_each, or_else}

-- ---- names

pub coil_named : (e : Entry) → IsNamedEntry e → IsNamedCoil (coil_of e)
unfolding coil_of
coil_named e h = record { name = h.name }

-- The names in an entry of `coil_player` are names.
pub coil_player_named : (p : PlayerEntry) → IsNamedPlayer p → IsNamedCoilPlayer (coil_player_of p)
unfolding coil_player_of coil_item_of
coil_player_named p h = record {
  event = event_named p.event h.event;
  items = keyed_named (λ i. IsName i.coil.text) coil_item_of (λ k named. named.0) p.value h.value;
}

text_named : (o : Option Value) → IsNamedOption o → IsNamedText (text_of o)
text_named x1 h = search rules

pub written_named : (e : Entry) (i : ℕ) → IsNamedEntry e → IsNamedWritten (name_in (text_of (slice_get e.values i)))
written_named e i h = name_in_named (text_of (slice_get e.values i))
    (text_named (slice_get e.values i) (value_at_named e.values i h.values))

pub some_named : (o : Option WrittenName) → IsNamedWritten o → IfSome o (λ w. IsName w.text)
some_named x1 h = search rules

pub either_named : (o : Option WrittenName) (other : WrittenName) → IsNamedWritten o → IsName other.text
    → IsName (unwrap_or o other).text
either_named x1 other h is = search rules

needed_named : (e : Entry) (i : ℕ) → IsNamedEntry e → IsName (needed_at i e).text
needed_named e i h = either_named (name_in (text_of (slice_get e.values i))) e.name (written_named e i h) h.name

-- Those in an entry of any form are, too.
rule_named : (form : RuleForm) (e : Entry) → IsNamedEntry e → IsNamedCoilRule (rule_by form e)
unfolding rule_by
rule_named form e h = record {
  name = h.name;
  coil = needed_named e form.coil h;
  hold_coil = optional form.hold_coil;
  switch = needed form.switch;
  enables = events_named (slice_get e.values form.enables) (value_at_named e.values form.enables h.values);
  disables = events_named (slice_get e.values form.disables) (value_at_named e.values form.disables h.values);
}
  where
    optional : (place : Option ℕ) → IfSome (name_at place e) (λ w. IsName w.text)
    optional None = tt
    optional (Some place) = some_named (name_in (text_of (slice_get e.values place))) (written_named e place h)

    needed : (place : Option ℕ) → IfSome (switch_at place e) (λ w. IsName w.text)
    needed None = tt
    needed (Some place) = needed_named e place h

-- And those in an entry that is a coil rule, whichever it is.
pub coil_rule_named : (section : List ℕ) (e : Entry) → IsNamedEntry e → IfSome (coil_rule_of section e) IsNamedCoilRule
coil_rule_named section e h = by (named_in section coil_rules)
  where
    by : (form : Option RuleForm) → IfSome (option_map (λ f. rule_by f e) form) IsNamedCoilRule
    by None = tt
    by (Some form) = rule_named form e h

-- The entries of these sections are coil rules, and no others.
pub coil_rule_some : (section : List ℕ) (e : Entry)
    → is_some (coil_rule_of section e) ≡ list_any (bytes_eq section) coil_rule_sections
coil_rule_some section e = by coil_rules
  where
    by : (each : List (List ℕ × RuleForm))
        → is_some (option_map (λ form. rule_by form e) (named_in section each))
        ≡ list_any (bytes_eq section) (map (λ r. r.0) each)
    by [] = refl
    by (r ∷ rest) = either (bytes_eq section r.0) (by rest)
      where
        either : (is : Bool) → is_some (option_map (λ form. rule_by form e) (named_in section rest))
            ≡ list_any (bytes_eq section) (map (λ x. x.0) rest)
            → is_some (option_map (λ form. rule_by form e) (if is then Some r.1 else named_in section rest))
            ≡ (is || list_any (bytes_eq section) (map (λ x. x.0) rest))
        either true h = refl
        either false h = h

-- ---- ranges

pulse_in_range : (o : Option Plain) → IfSome (pulse_in o) IsPulseInRange
pulse_in_range x1 = search rules

power_in_range : (o : Option Plain) → IfSome (power_in o) IsPowerInRange
power_in_range x1 = search rules

full : IsPowerInRange 1000
full = omega arith

hold_in_range : (written : Option ℕ) (allowed : Bool) (hold : Option ℕ) → IfSome written IsPowerInRange
    → IfSome hold IsPowerInRange
    → IsPowerInRange (max_hold_power written allowed hold)
hold_in_range x1 x2 hold h k = search rules

-- The numbers of a coil are in their ranges.
pub coil_in_range : (e : Entry) → IsCoilInRange (coil_of e)
unfolding coil_of
coil_in_range e = search (rules, slice_get, time_in_range, hold_in_range, power_in_range, or_else, pulse_in_range, full)

-- So are those that an entry of `coil_player` says.
item_in_range : (k : KeyedValues) → IsItemInRange (coil_item_of k)
unfolding coil_item_of
item_in_range k = search rules

pub coil_player_in_range : (p : PlayerEntry) → IsCoilPlayerInRange (coil_player_of p)
unfolding coil_player_of
coil_player_in_range p = all_mapped IsItemInRange coil_item_of item_in_range (listed_keyed (Some p.value))

-- An entry of `coil_player` says of at most 1,024 coils what they do.
pub keyed_short : (o : Option Value) → IsShortOption o → length (listed_keyed o) ≤ 1024
keyed_short x1 h = search rules

pub coil_player_short : (p : PlayerEntry) → IsShortPlayer 1024 p → IsShortCoilPlayer (coil_player_of p)
unfolding coil_player_of
coil_player_short p h = search (rules, keyed_short, length-map)

-- so it is with those of a section
pub coils_in_range : (s : SectionRows) → All IsCoilInRange (coils_in s)
unfolding coils_in
coils_in_range s = all_mapped IsCoilInRange coil_of coil_in_range (entries_of coils_name s)

pub coil_players_in_range : (s : SectionRows) → All IsCoilPlayerInRange (coil_players_in s)
unfolding coil_players_in
coil_players_in_range s = all_mapped IsCoilPlayerInRange coil_player_of coil_player_in_range
    (players_of coil_player_name s)
