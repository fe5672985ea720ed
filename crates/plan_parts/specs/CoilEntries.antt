-- What the entries of coils, coil players and coil rules say. Here `machine` is the sections of the machine text, which
-- have the coils.
use Rattle.std.specs.Prelude.{ℕ, Bool, if◌then◌else◌, List, [], ◌∷◌, ◌++◌, Option, None, Some, option_map, unwrap_or}
use Rattle.mpf_sections.specs.{declared.words.CoilAction.CoilAction, CoilRules.CoilRule}
use Rattle.mpf_sections.specs.declared.coil_rules.RuleKind.{RuleKind, TheVariants.{Flipper, Autofire}}
use Rattle.mpf_sections.specs.declared.words.CoilAction.TheVariants as actions
use Rattle.mpf_sections.specs.Rows.{WrittenName, Coil, CoilItem, SectionRows}
use Rattle.plan_tables.specs.declared.entries.CoilLimits.{CoilLimits}
use Rattle.plan_tables.specs.declared.devices.{Settings.Settings, Act.TheVariants.{Enable, Disable}}
use Rattle.plan_tables.specs.declared.devices.Settings.TheVariants as kinds
use Rattle.machine_definitions.specs.Definitions.{coil_of_name}
use Rattle.plan_parts.specs.{Effects.{Deed, pulse, enable, disable, Effect, works}, DeviceEntries.{Device, acts}}

-- ---- coils

-- what a coil may be sent
abbrev pub limits_of_coil : Coil → CoilLimits
limits_of_coil c = record {
  max_pulse_ms = c.max_pulse_ms;
  max_pulse_power = c.max_pulse_power;
  max_hold_power = c.max_hold_power;
  may_hold = c.may_hold;
}

-- what a coil's entry says of pulses and holds of which nothing else is said, and whether the coil may be held
pub record Defaults : Type 0 where
  pub pulse_ms : ℕ
  pub pulse_power : ℕ
  pub hold_power : ℕ
  pub may_hold : Bool

abbrev pub defaults_of_coil : Coil → Defaults
defaults_of_coil c =
    record { pulse_ms = c.pulse_ms; pulse_power = c.pulse_power; hold_power = c.hold_power; may_hold = c.may_hold }

abbrev pub defaults_called : List SectionRows → List ℕ → Defaults
defaults_called machine name = defaults_of_coil (coil_of_name machine name)

-- a pulse and a hold of which nothing else is said
abbrev pub own_pulse : Defaults → Deed
own_pulse c = pulse c.pulse_ms c.pulse_power

abbrev pub own_hold : Defaults → Deed
own_hold c = enable c.hold_power

-- ---- coil players

-- what an item does with its coil; what the item does not say, the coil's entry does
abbrev pub deed_by : Defaults → CoilItem → CoilAction → Deed
deed_by c item actions.Pulse = pulse (unwrap_or item.pulse_ms c.pulse_ms) (unwrap_or item.pulse_power c.pulse_power)
deed_by c item actions.Enable = enable (unwrap_or item.hold_power c.hold_power)
deed_by c item actions.Disable = disable

abbrev pub item_effect : List SectionRows → CoilItem → Effect
item_effect machine item = works item.coil.text (deed_by (defaults_called machine item.coil.text) item item.action)

-- ---- coil rules

-- What lifts a flipper. If it has a hold coil, the main coil is pulsed, and the hold coil is enabled. If it has none,
-- the main coil is enabled if it may be held, and else pulsed.
abbrev pub flipper_on : List SectionRows → WrittenName → Option WrittenName → List Effect
flipper_on machine main (Some hold) =
    works main.text (own_pulse (defaults_called machine main.text))
    ∷ works hold.text (own_hold (defaults_called machine hold.text)) ∷ []
flipper_on machine main None =
    let c = defaults_called machine main.text in
    works main.text (if c.may_hold then own_hold c else own_pulse c) ∷ []

-- what lets it fall: the coil that is enabled, if any, is disabled
abbrev pub flipper_off : List SectionRows → WrittenName → Option WrittenName → List Effect
flipper_off machine main (Some hold) = works hold.text disable ∷ []
flipper_off machine main None = if (defaults_called machine main.text).may_hold then works main.text disable
    ∷ [] else []

-- The effect lists of a flipper. 0 is on: with a hold coil, it pulses the main coil and enables the hold coil; else it
-- enables the main coil where that may be held, and else pulses it. 1 is off: it disables the hold coil, or the main
-- coil where that may be held; else it is empty.
abbrev pub flipper_lists : List SectionRows → WrittenName → Option WrittenName → List (List Effect)
flipper_lists machine main hold = flipper_on machine main hold ∷ flipper_off machine main hold ∷ []

-- the effect list of an autofire coil: 0 pulses its coil; pulses are by the coil's own entry
abbrev pub autofire_lists : List SectionRows → WrittenName → List (List Effect)
autofire_lists machine coil = (works coil.text (own_pulse (defaults_called machine coil.text)) ∷ []) ∷ []

-- the effect lists of a coil rule with this coil, and maybe a hold coil
abbrev pub rule_lists : List SectionRows → WrittenName → Option WrittenName → RuleKind → List (List Effect)
rule_lists machine coil hold Flipper = flipper_lists machine coil hold
rule_lists machine coil hold Autofire = autofire_lists machine coil

-- the settings of its device
abbrev pub rule_settings : RuleKind → Settings
rule_settings Flipper = kinds.Flipper
rule_settings Autofire = kinds.Autofire

-- the switch to which it listens, if it has one
abbrev pub named_switches : Option WrittenName → List (List ℕ)
named_switches None = []
named_switches (Some w) = w.text ∷ []

-- the device of a coil rule, and of an entry that may be one
abbrev pub coil_rule_device : List SectionRows → CoilRule → Device
coil_rule_device machine r = record {
  settings = rule_settings r.form.kind;
  listens = named_switches r.switch;
  event_acts = acts Enable r.enables ++ acts Disable r.disables;
  other_mentions = [];
  lists = rule_lists machine r.coil r.hold_coil r.form.kind;
}

abbrev pub rule_device_of : List SectionRows → Option CoilRule → Option Device
rule_device_of machine rule = option_map (coil_rule_device machine) rule
