-- The entries of `coils` and `coil_player`, by the names of their settings.
use Rattle.std.specs.Prelude.{ℕ, nat_lt, Bool, true, false, ◌||◌, if◌then◌else◌, List, map, Option, Some, None}
use Rattle.std.specs.{Prelude.{slice_get, unwrap_or, codes}, Str.bytes_eq}
use Rattle.mpf_sections.specs.declared.words.CoilAction.{CoilAction, TheVariants.{Pulse, Enable, Disable}}
use Rattle.setting_values.specs.Values.{Plain, KeyedValues}
use Rattle.section_tables.specs.Rows.{Entry, PlayerEntry}
use Rattle.mpf_tables.specs.SectionTables as tables
pub use Rattle.mpf_tables.specs.SectionTables.{coils_name, coil_player_name}
use Rattle.mpf_sections.specs.Typed.{setting_of, field_of, text_of, flag_of, listed_keyed, handled_in, name_in, word_in}
use Rattle.mpf_sections.specs.{Typed.{pulse_in, power_in, entries_of, players_of}, TypedNumbers.time_setting}
use Rattle.mpf_sections.specs.Rows.{WrittenName, Coil, CoilItem, CoilPlayer, SectionRows}

-- ---- `coils`

-- whether a coil may be held: if that is allowed, or if the power with which it is held by default is above 0
abbrev pub may_hold : Bool → Option ℕ → Bool
may_hold may_enable power = may_enable || nat_lt 0 (unwrap_or power 0)

-- The greatest power with which a coil may be held: the one that is written; or else full power if holding is
-- allowed, and if it is not, the power with which it is held by default, if there is one.
abbrev pub max_hold_power : Option ℕ → Bool → Option ℕ → ℕ
max_hold_power (Some greatest) may_enable power = greatest
max_hold_power None true power = 1000
max_hold_power None false power = unwrap_or power 0

abbrev coil_text : List ℕ → Entry → Option Plain
coil_text key e = text_of (setting_of tables.coils key e.values)

-- if no longest pulse is written, it is the default one; if no power to hold the coil, it is the greatest
unfoldable pub coil_of : Entry → Coil
coil_of e =
    let pulse_ms = time_setting tables.coils (codes "default_pulse_ms") e.values in
    let may_enable = flag_of (setting_of tables.coils (codes "allow_enable") e.values) in
    let hold_power = power_in (coil_text (codes "default_hold_power") e) in
    let greatest = max_hold_power (power_in (coil_text (codes "max_hold_power") e)) may_enable hold_power in
    record {
      name = e.name;
      pulse_ms = pulse_ms;
      max_pulse_ms = unwrap_or (pulse_in (coil_text (codes "max_pulse_ms") e)) pulse_ms;
      pulse_power = unwrap_or (power_in (coil_text (codes "default_pulse_power") e)) 1000;
      max_pulse_power = unwrap_or (power_in (coil_text (codes "max_pulse_power") e)) 1000;
      may_hold = may_hold may_enable hold_power;
      hold_power = unwrap_or hold_power greatest;
      max_hold_power = greatest;
    }

-- ---- `coil_player`

-- what a word says that a coil does
abbrev pub coil_action_of : List ℕ → CoilAction
coil_action_of w =
    if bytes_eq w (codes "enable") then Enable
    else (if bytes_eq w (codes "disable") then Disable else Pulse)

unfoldable pub coil_item_of : KeyedValues → CoilItem
coil_item_of k = record {
  coil = k.name;
  action = coil_action_of (word_in (field_of tables.coil_item (codes "action") k.values));
  pulse_ms = pulse_in (field_of tables.coil_item (codes "pulse_ms") k.values);
  pulse_power = power_in (field_of tables.coil_item (codes "pulse_power") k.values);
  hold_power = power_in (field_of tables.coil_item (codes "hold_power") k.values);
}

unfoldable pub coil_player_of : PlayerEntry → CoilPlayer
coil_player_of p = record { event = handled_in p.event; items = map coil_item_of (listed_keyed (Some p.value)) }

-- ---- coil rules

-- the name at a place of an entry, where one has to be written; the entry's own in a row that no table gives
abbrev pub needed_at : ℕ → Entry → WrittenName
needed_at place e = unwrap_or (name_in (text_of (slice_get e.values place))) e.name

-- ---- sections

-- the coils of a section: of `coils` its entries, of any other none
unfoldable pub coils_in : SectionRows → List Coil
coils_in s = map coil_of (entries_of coils_name s)

-- the same for `coil_player`
unfoldable pub coil_players_in : SectionRows → List CoilPlayer
coil_players_in s = map coil_player_of (players_of coil_player_name s)
