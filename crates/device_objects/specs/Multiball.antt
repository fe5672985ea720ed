-- A multiball. It can start while a ball is in play, and ends when only one is left in play. Its first list says how
-- many balls it adds.
use Rattle.std.specs.Prelude.{ℕ, nat_lt, true, false, not, ◌&&◌, if◌then◌else◌, Option, None, Some, List, [], ◌∷◌}
use Rattle.plan_tables.specs.declared.devices.Act.{Act}
use Rattle.plan_tables.specs.declared.devices.Act.TheVariants as acts
use Rattle.device_objects.specs.declared.state.{World.World, MultiballState.MultiballState, DeviceState.DeviceState}
use Rattle.device_objects.specs.declared.state.DeviceState.TheVariants as states
use Rattle.device_objects.specs.{KindModel.{Kind, CalmModel, in_states, never_due}, Outcomes.silent}

-- the lists of a multiball
abbrev pub start_list : ℕ
start_list = 0

abbrev pub end_list : ℕ
end_list = 1

-- at first a multiball is not running; nor is it when its mode has started or stopped
abbrev pub first_state : MultiballState
first_state = record { running = false }

-- it starts, if it is not running and a ball is in play
abbrev pub start : World → MultiballState → MultiballState × List ℕ
start world s = if not s.running && nat_lt 0 world.in_play then (record { running = true }, start_list ∷ []) else
    (s, [])

-- it ends, if it is running
abbrev pub end : MultiballState → MultiballState × List ℕ
end s = if s.running then (record { running = false }, end_list ∷ []) else (s, [])

abbrev pub act_step : Act → World → MultiballState → MultiballState × List ℕ
act_step acts.Start world s = start world s
act_step acts.End world s = end s
act_step _ world s = (s, [])

abbrev pub of_multiball : Act → List (List ℕ)
of_multiball acts.Start = [] ∷ (start_list ∷ []) ∷ []
of_multiball acts.End = [] ∷ (end_list ∷ []) ∷ []
of_multiball _ = silent

-- the start and the stop of its mode leave it as it is at first, and it is never due
abbrev pub multiball : CalmModel MultiballState
multiball = record {
  first = first_state;
  IsShaped = λ s. Unit {0};
  start = λ s. first_state;
  stop = λ s. first_state;
  act = λ act now world. act_step act world;
  answers = of_multiball;
}

-- what a state holds, if it is one of a multiball
abbrev pub multiball_state : DeviceState → Option MultiballState
multiball_state (states.Multiball s) = Some s
multiball_state _ = None

abbrev pub multiballs : Kind DeviceState
multiballs = in_states states.Multiball multiball_state (never_due multiball)
