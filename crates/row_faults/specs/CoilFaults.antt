-- What is wrong with coils, and with what is said of them elsewhere. Here `machine` is the sections of the machine
-- text, which define the coils and the switches, and `text` is the name of the text.
use Rattle.std.specs.Prelude.{ℕ, nat_lt, Bool, true, false, not, ◌&&◌, ◌||◌, List, [], ◌∷◌, ◌++◌, Option, Some, None}
use Rattle.std.specs.{Prelude.unwrap_or, List.flat_map, Option.is_none}
use Rattle.mpf_sections.specs.declared.words.CoilAction.{CoilAction, TheVariants.{Pulse, Enable, Disable}}
use Rattle.mpf_sections.specs.{Rows.{WrittenName, Coil, CoilItem, CoilPlayer, SectionRows}, CoilRules.CoilRule}
use Rattle.machine_definitions.specs.Definitions.{coil_called, has_switch}
use Rattle.row_faults.specs.{declared.fault.RowFaultKind.RowFaultKind, FaultView.RowFaultView, AsWritten.in_order}
use Rattle.row_faults.specs.declared.fault.RowFaultKind.TheVariants.{Name, PulseLimit, PowerLimit, HoldNotAllowed}

-- a fault of this kind at a name
abbrev pub fault_at : RowFaultKind → List ℕ → WrittenName → RowFaultView
fault_at kind text w = record { kind = kind; text = text; line = w.line; name = w.text }

-- it, if something is wrong
abbrev pub fault_if : Bool → RowFaultKind → List ℕ → WrittenName → List RowFaultView
fault_if true kind text w = fault_at kind text w ∷ []
fault_if false kind text w = []

-- ---- names

-- a name of a coil, or of a switch, that no entry defines
abbrev pub coil_name_faults : List SectionRows → List ℕ → WrittenName → List RowFaultView
coil_name_faults machine text w = fault_if (is_none (coil_called machine w.text)) Name text w

abbrev pub switch_name_faults : List SectionRows → List ℕ → WrittenName → List RowFaultView
switch_name_faults machine text w = fault_if (not (has_switch machine w.text)) Name text w

-- the same of a switch, if one is named
abbrev pub named_switch_faults : List SectionRows → List ℕ → Option WrittenName → List RowFaultView
named_switch_faults machine text None = []
named_switch_faults machine text (Some w) = switch_name_faults machine text w

-- ---- entries of `coils`

-- if more than one power is too great there is one fault
abbrev pub coil_faults : List ℕ → Coil → List RowFaultView
coil_faults text c =
    fault_if (nat_lt c.max_pulse_ms c.pulse_ms) PulseLimit text c.name
    ++ fault_if (nat_lt c.max_pulse_power c.pulse_power || nat_lt c.max_hold_power c.hold_power) PowerLimit text c.name

-- ---- entries of `coil_player`

-- whether a number that is written is above the greatest one
abbrev pub is_above : Option ℕ → ℕ → Bool
is_above None greatest = false
is_above (Some n) greatest = nat_lt greatest n

abbrev pub is_enable : CoilAction → Bool
is_enable Pulse = false
is_enable Enable = true
is_enable Disable = false

-- All that is written counts, whatever the coil does. The limits of a coil that there is not are not judged.
abbrev pub item_faults_by : List ℕ → CoilItem → Option Coil → List RowFaultView
item_faults_by text i None = fault_at Name text i.coil ∷ []
item_faults_by text i (Some c) =
    fault_if (is_above i.pulse_ms c.max_pulse_ms) PulseLimit text i.coil
    ++ fault_if (is_above i.pulse_power c.max_pulse_power || is_above i.hold_power c.max_hold_power) PowerLimit text
    i.coil
    ++ fault_if (is_enable i.action && not c.may_hold) HoldNotAllowed text i.coil

abbrev pub item_faults : List SectionRows → List ℕ → CoilItem → List RowFaultView
item_faults machine text i = item_faults_by text i (coil_called machine i.coil.text)

abbrev pub coil_player_faults : List SectionRows → List ℕ → CoilPlayer → List RowFaultView
coil_player_faults machine text p = flat_map (item_faults machine text) p.items

-- ---- coil rules

-- a coil that is to be held and may not be is at fault at the line of the entry that holds it
abbrev pub hold_faults_by : List ℕ → ℕ → WrittenName → Option Coil → List RowFaultView
hold_faults_by text line w None = fault_at Name text w ∷ []
hold_faults_by text line w (Some c) = fault_if (not c.may_hold) HoldNotAllowed text
    (record { line = line; text = w.text })

-- what is wrong with the coil that an entry at this line holds, if it holds one
abbrev pub hold_faults : List SectionRows → List ℕ → ℕ → Option WrittenName → List RowFaultView
hold_faults machine text line None = []
hold_faults machine text line (Some w) = hold_faults_by text line w (coil_called machine w.text)

-- What is wrong with the settings of a coil rule, in the order in which they are written: a coil or a switch that no
-- entry defines, or a hold coil that may not be held. With what the rule has no place for nothing is wrong.
abbrev pub coil_rule_faults : List SectionRows → List ℕ → CoilRule → List RowFaultView
coil_rule_faults machine text r =
    in_order r.order
    ((r.form.coil, coil_name_faults machine text r.coil)
    ∷ (unwrap_or r.form.hold_coil 0, hold_faults machine text r.name.line r.hold_coil)
    ∷ (unwrap_or r.form.switch 0, named_switch_faults machine text r.switch)
    ∷ [])

-- what is wrong with an entry that may be a coil rule
abbrev pub rule_faults : List SectionRows → List ℕ → Option CoilRule → List RowFaultView
rule_faults machine text None = []
rule_faults machine text (Some r) = coil_rule_faults machine text r
