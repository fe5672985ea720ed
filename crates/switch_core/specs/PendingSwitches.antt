-- What `Switches` keeps of its switches.
use Rattle.std.specs.Prelude.{◌≡◌, ℕ, ◌+◌, ◌<◌, ◌≤◌, Option, None, Some, List, [], ◌∷◌, length, slice_index_or, Vec}
use Rattle.std.specs.{Prelude.vec_capacity, Global.Global}
use Rattle.plan_tables.specs.{declared.entries.SwitchId.SwitchId, Due.sooner}
use Rattle.switch_core.specs.SwitchStep.{SwitchState, idle}
use Rattle.switch_core.specs.Switches.{SwitchesView, IsComplete, no_kind, due_as, next_due}

-- ---- those that wait

-- a switch that is due, if there is one, in front of others
abbrev pub in_front : Option (ℕ × SwitchId) → List (ℕ × SwitchId) → List (ℕ × SwitchId)
in_front None others = others
in_front (Some d) others = d ∷ others

-- of states that are numbered from the number on, the switches that are due, each with its moment
abbrev pub waiting_from : ℕ → List SwitchState → List (ℕ × SwitchId)
waiting_from number [] = []
waiting_from number (state ∷ states) = in_front (due_as number state) (waiting_from (number + 1) states)

-- among switches that are due, the one that is due next
abbrev pub soonest : List (ℕ × SwitchId) → Option (ℕ × SwitchId)
soonest [] = None
soonest (d ∷ others) = sooner (Some d) (soonest others)

-- The list has the switches that are due by these states. Among the states is that of the switch, which is due at this
-- moment, or not at all.
pub record IsWaiting (switch : SwitchId) (due : Option ℕ) (states : List SwitchState) (waiting : List (ℕ × SwitchId)) :
    Type 0 where
  pub within : switch.0 < length states
  pub due_is : (slice_index_or states switch.0 (idle no_kind)).due ≡ due
  pub waiting_is : waiting ≡ waiting_from 0 states

-- ---- what is kept

-- Every switch has a state, those that are due are listed if there is room for all, and this is what is due next.
pub record IsKept (next : Option (ℕ × SwitchId)) (waiting : Vec (ℕ × SwitchId) Global) (s : SwitchesView) : Type 0 where
  pub complete : IsComplete s
  pub next_is : next ≡ next_due s
  pub waiting_is : waiting.items ≡ waiting_from 0 s.states
  pub room : length s.states ≤ vec_capacity waiting
