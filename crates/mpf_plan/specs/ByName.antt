-- What a plan says, with names in place of numbers: what its effect lists do, and what its coils may be sent.
use Rattle.std.specs.{Prelude.{ℕ, ◌≡◌, ◌<◌, List, length, Option, None, Some}, List.{All, flat_map, last_or}}
use Rattle.plan_tables.specs.declared.entries.{CoilId.CoilId, CoilLimits.CoilLimits}
use Rattle.plan_tables.specs.declared.entries.Action.{Action, TheVariants.{Lose, Arrive, Request, AddBalls}}
use Rattle.plan_tables.specs.declared.entries.Action.TheVariants.{Post, Pulse, Enable, Disable, Change, Enter, Leave}
use Rattle.machine_definitions.specs.Players.{player_event}
use Rattle.plan_tables.specs.declared.entries.Owner.TheVariants as owners
use Rattle.plan_tables.specs.PlanView.{PlanView, name_of_event, name_of_variable, coil_at, row_at}
use Rattle.plan_parts.specs.Effects.{pulse, enable, disable, Effect, posts, works, changes, enters, leaves, loses}
use Rattle.plan_parts.specs.{Effects.{arrives, requests, adds_balls}, Parts.Part}
use Rattle.mpf_plan.specs.PlanOf.{limits_for}

-- ---- what is done

-- an action of a plan, by names
abbrev pub effect_of : PlanView → Action → Effect
effect_of plan (Post e) = posts (name_of_event plan e)
effect_of plan (Pulse c ms power) = works (coil_at plan c).name (pulse ms power)
effect_of plan (Enable c power) = works (coil_at plan c).name (enable power)
effect_of plan (Disable c) = works (coil_at plan c).name disable
effect_of plan (Change v action n e) = changes (name_of_variable plan v) action n
effect_of plan (Enter r e drain) = enters (name_of_event plan e) drain
effect_of plan (Leave r) = leaves
effect_of plan (Lose r) = loses
effect_of plan (Arrive r) = arrives
effect_of plan (Request n) = requests n
effect_of plan (AddBalls n) = adds_balls n

-- P holds of all that effect lists do, and S of the name of each event that a switch posts
pub record IsDone (P : Effect → Type 0) (S : List ℕ → Type 0) (plan : PlanView) : Type 0 where
  pub switches : All (λ s. All (λ e. S (name_of_event plan e)) s.active
      × All (λ e. S (name_of_event plan e)) s.inactive) plan.switches
  pub lists : All (All (λ a. P (effect_of plan a))) plan.lists

-- the event of a change is that of its variable
abbrev pub IsByVariable : PlanView → Action → Type 0
IsByVariable plan (Change v action n e) = name_of_event plan e ≡ player_event (name_of_variable plan v)
IsByVariable plan _ = Unit {0}

abbrev pub AreByVariable : PlanView → Type 0
AreByVariable plan = All (All (IsByVariable plan)) plan.lists

-- ---- what coils may be sent

-- what the coil of this name may be sent, if one of the parts is the coil
abbrev pub limits_called : List Part → List ℕ → Option CoilLimits
limits_called parts name = last_or None (flat_map (limits_for name) parts)

-- each coil of the plan may be sent what is said of its name
abbrev pub AreLimitsByName : List Part → PlanView → Type 0
AreLimitsByName parts plan =
    (c : CoilId) → c.0 < length plan.coils → limits_called parts (coil_at plan c).name ≡ Some (coil_at plan c).limits

-- ---- listeners

-- all devices that listen to switches are the machine's
abbrev pub ListenersAreOwn : PlanView → Type 0
ListenersAreOwn plan = All (λ s. All (λ l. (row_at plan l.row).owner ≡ owners.Machine) s.listeners) plan.switches
