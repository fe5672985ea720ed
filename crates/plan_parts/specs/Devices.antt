-- What the entry of a device says.
use Rattle.std.specs.Prelude.{ℕ, List, map, None}
use Rattle.mpf_values.specs.Events.{Event}
use Rattle.setting_values.specs.Values.{HandledEvent}
use Rattle.mpf_sections.specs.Rows.{WrittenName}
use Rattle.plan_tables.specs.declared.devices.{Settings.Settings, Act.Act}
use Rattle.plan_parts.specs.Effects.{Effect}

abbrev pub texts : List WrittenName → List (List ℕ)
texts ws = map (λ w. w.text) ws

abbrev pub events : List HandledEvent → List Event
events hs = map (λ h. h.event) hs

-- What the entry of a device says: its settings; the switches to which it listens, by name; each event that it handles,
-- and what the event does; other events that its settings name, which have their numbers before those of its effect
-- lists; and what each of its effect lists does.
pub record Device : Type 0 where
  pub settings : Settings
  pub listens : List (List ℕ)
  pub event_acts : List (Event × Act)
  pub other_mentions : List (List ℕ)
  pub lists : List (List Effect)

-- the event of this name, without a condition
abbrev pub always : List ℕ → Event
always name = record { name = name; condition = None }

-- each of the events does this
abbrev pub acts : Act → List HandledEvent → List (Event × Act)
acts act hs = map (λ h. (h.event, act)) hs
