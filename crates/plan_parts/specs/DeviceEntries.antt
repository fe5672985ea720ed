-- What the entries of devices say: of counters, accruals, sequences and timers; and the device of each entry.
use Rattle.std.specs.Prelude.{ℕ, suc, ℤ, if◌then◌else◌, List, [], ◌∷◌, ◌++◌, length, map, Option, Some, codes}
use Rattle.std.specs.Str.{bytes_eq}
use Rattle.mpf_sections.specs.{declared.words.ControlAction.ControlAction, Typed.{step_block_of, timer_of}}
use Rattle.mpf_sections.specs.declared.words.ControlAction.TheVariants as actions
use Rattle.mpf_values.specs.Events.{Event}
use Rattle.setting_values.specs.Values.{HandledEvent}
use Rattle.mpf_sections.specs.Rows.{WrittenName, Entry, BlockEvents, CounterEntry, StepBlock, ControlEvent, TimerEntry}
use Rattle.mpf_sections.specs.Typed.{counters_name, accruals_name, sequences_name, timers_name, counter_of}
use Rattle.machine_settings.specs.declared.settings.StepSettings.{StepSettings}
use Rattle.plan_tables.specs.declared.devices.Settings.{Settings}
use Rattle.plan_tables.specs.declared.devices.Act.{Act, TheVariants.{Stop, Pause, Add, Subtract, Jump}}
use Rattle.plan_tables.specs.declared.devices.Settings.TheVariants as kinds
use Rattle.plan_tables.specs.declared.devices.Act.TheVariants.{Count, Step, Enable, Disable, Reset, Restart, Start}
use Rattle.plan_rows.specs.Members.{is_none}
use Rattle.plan_parts.specs.{SaveEntries.save_device_of, Effects.{Effect, posts}}
pub use Rattle.plan_parts.specs.Devices.{texts, events, Device, always, acts}

-- ---- logic blocks

-- what enables a block, disables, resets and restarts it
abbrev pub block_acts : BlockEvents → List (Event × Act)
block_acts b = acts Enable b.enables ++ acts Disable b.disables ++ acts Reset b.resets ++ acts Restart b.restarts

-- the events that its settings name, to be posted in place of its own
abbrev pub block_mentions : BlockEvents → List (List ℕ)
block_mentions b = texts b.hit ++ texts b.complete

-- an event of the block of this name
abbrev pub block_event : List ℕ → List ℕ → List ℕ
block_event name ending = codes "logicblock_" ++ name ++ ending

-- how the names of a block's events end, each at the number of its effect list
abbrev pub block_endings : List (List ℕ)
block_endings = codes "_updated" ∷ codes "_hit" ∷ codes "_complete" ∷ []

-- the events that are written, or its own if none is
abbrev pub or_own : List WrittenName → List ℕ → List (List ℕ)
or_own ws own = if is_none ws then own ∷ [] else texts ws

-- what a block posts when its value changes, when it is hit, and when it completes
abbrev pub block_lists : List ℕ → BlockEvents → List (List Effect)
block_lists name b =
    (posts (block_event name (codes "_updated")) ∷ [])
    ∷ map posts (or_own b.hit (block_event name (codes "_hit")))
    ∷ map posts (or_own b.complete (block_event name (codes "_complete")))
    ∷ []

abbrev pub counter_device : CounterEntry → Device
counter_device c = record {
  settings = kinds.Counter c.settings;
  listens = [];
  event_acts = acts Count c.counts ++ block_acts c.block;
  other_mentions = block_mentions c.block;
  lists = block_lists c.name.text c.block;
}

-- the events of each step do that step; steps are numbered from this number on
abbrev pub step_acts : ℕ → List (List HandledEvent) → List (Event × Act)
step_acts i [] = []
step_acts i (hs ∷ rest) = acts (Step i) hs ++ step_acts (suc i) rest

abbrev pub step_settings : StepBlock → StepSettings
step_settings b = record { block = b.settings; steps = length b.steps }

-- an accrual or a sequence, with these settings
abbrev pub step_device : Settings → StepBlock → Device
step_device settings b = record {
  settings = settings;
  listens = [];
  event_acts = step_acts 0 b.steps ++ block_acts b.block;
  other_mentions = block_mentions b.block;
  lists = block_lists b.name.text b.block;
}

-- ---- timers

-- what a control does, with its value
abbrev pub control_act : ControlAction → ℤ → Act
control_act actions.Start n = Start
control_act actions.Stop n = Stop
control_act actions.Pause n = Pause
control_act actions.Reset n = Reset
control_act actions.Restart n = Restart
control_act actions.Add n = Add n
control_act actions.Subtract n = Subtract n
control_act actions.Jump n = Jump n

abbrev pub act_of_control : ControlEvent → Event × Act
act_of_control c = (c.event.event, control_act c.action c.value)

-- an event of the timer of this name
abbrev pub timer_event : List ℕ → List ℕ → List ℕ
timer_event name ending = codes "timer_" ++ name ++ ending

-- how the names of a timer's events end, each at the number of its effect list
abbrev pub timer_endings : List (List ℕ)
timer_endings = codes "_started" ∷ codes "_stopped" ∷ codes "_paused" ∷ codes "_tick" ∷ codes "_complete" ∷ []

-- each of its effect lists posts one event of its own
abbrev pub timer_lists : List ℕ → List (List Effect)
timer_lists name = map (λ ending. posts (timer_event name ending) ∷ []) timer_endings

abbrev pub timer_device : TimerEntry → Device
timer_device t = record {
  settings = kinds.Timer t.settings;
  listens = [];
  event_acts = map act_of_control t.controls;
  other_mentions = [];
  lists = timer_lists t.name.text;
}

-- ---- entries

-- the device of an entry, by the name of its section, if the entry is a device
unfoldable pub device_of : List ℕ → Entry → Option Device
device_of section e =
    if bytes_eq section counters_name then Some (counter_device (counter_of e))
    else (if bytes_eq section accruals_name
    then Some (step_device (kinds.Accrual (step_settings (step_block_of e))) (step_block_of e))
    else (if bytes_eq section sequences_name
    then Some (step_device (kinds.Sequence (step_settings (step_block_of e))) (step_block_of e))
    else (if bytes_eq section timers_name then Some (timer_device (timer_of e)) else save_device_of section e)))
