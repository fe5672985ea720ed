-- A stimulus, and the source of an alarm, as the written machine has them.
use Rattle.std.specs.Prelude.{ℕ}
use Rattle.written_machine.specs.Run.{Source, switch, device, Stimulus, SwitchChange, Alarm, Wait}
use Rattle.machine_core.specs.declared.stimulus.{Source.Source as HeldSource, Stimulus.Stimulus as HeldStimulus}
use Rattle.machine_core.specs.declared.stimulus.Source.TheVariants as held_source
use Rattle.machine_core.specs.declared.stimulus.Stimulus.TheVariants as held

abbrev pub source_view : HeldSource → Source
source_view (held_source.Switch n) = switch n
source_view (held_source.Device r) = device r

-- an alarm: its moment, and what it comes from
abbrev pub alarm_view : ℕ × HeldSource → ℕ × Source
alarm_view a = (a.0, source_view a.1)

abbrev pub stimulus_view : HeldStimulus → Stimulus
stimulus_view (held.SwitchChange at n level) = SwitchChange at n level
stimulus_view (held.Alarm at source) = Alarm at (source_view source)
stimulus_view (held.Wait at) = Wait at
