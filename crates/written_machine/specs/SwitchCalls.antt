-- The calls of the switches that stimuli make.
use Rattle.std.specs.Prelude.{ℕ, List, [], ◌∷◌}
use Rattle.switch_core.specs.Calls.{SwitchCall, Fire}
use Rattle.switch_core.specs.Calls as calls
use Rattle.written_machine.specs.Run.{Stimulus, SwitchChange, Alarm, Wait, switch, device}

abbrev pub switch_calls : List (Stimulus × ℕ) → List SwitchCall
switch_calls [] = []
switch_calls ((SwitchChange at n level, steps) ∷ more) = calls.Change n level at ∷ switch_calls more
switch_calls ((Alarm at (switch n), steps) ∷ more) = Fire at ∷ switch_calls more
switch_calls ((Alarm at (device r), steps) ∷ more) = switch_calls more
switch_calls ((Wait at, steps) ∷ more) = switch_calls more
