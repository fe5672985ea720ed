-- All switches of a plan, and what each call does with them.
use Rattle.std.specs.Prelude.{◌≡◌, ℕ, ◌+◌, ◌<◌, ◌≤◌, ◌⊎◌, Bool, false, not, if◌then◌else◌, Option, None, Some}
use Rattle.std.specs.Prelude.{option_map, List, [], ◌∷◌, length, map, slice_index_or, slice_set}
use Rattle.plan_tables.specs.declared.entries.{SwitchId.SwitchId, SwitchKind.SwitchKind}
use Rattle.plan_tables.specs.{PlanView.{PlanView, no_switch}, Due.sooner}
use Rattle.switch_core.specs.declared.change.Change.{Change}
use Rattle.switch_core.specs.SwitchStep.{SwitchState, is_active, idle, change_level, is_taken, fire_change}

-- how each switch is read, and its state, by number
pub record SwitchesView : Type 0 where
  pub kinds : List SwitchKind
  pub states : List SwitchState

-- Every switch has a state, and there are no more than a plan may have.
pub record IsComplete (s : SwitchesView) : Type 0 where
  pub states : length s.states ≡ length s.kinds
  pub limit : length s.kinds ≤ 256

-- ---- one switch among them

-- in place of a kind if there is no switch
abbrev pub no_kind : SwitchKind
no_kind = no_switch.kind

abbrev pub kind_at : SwitchesView → SwitchId → SwitchKind
kind_at s switch = slice_index_or s.kinds switch.0 no_kind

abbrev pub state_at : SwitchesView → SwitchId → SwitchState
state_at s switch = slice_index_or s.states switch.0 (idle no_kind)

abbrev pub set_state : SwitchId → SwitchState → SwitchesView → SwitchesView
set_state switch state s = record { kinds = s.kinds; states = slice_set s.states switch.0 state }

-- whether a switch is active by the level that was accepted last
abbrev pub active_at : SwitchesView → SwitchId → Bool
active_at s switch = (state_at s switch).active

-- the moment at which a switch's raw level is to be accepted
abbrev pub due_of : SwitchesView → SwitchId → Option ℕ
due_of s switch = (state_at s switch).due

-- what is reported of a switch whose raw level was accepted
abbrev pub report_change : SwitchesView → SwitchId → Change
report_change s switch = record { switch = switch; active = active_at s switch }

-- ---- new

-- At the beginning every switch of the plan is inactive.
abbrev pub all_idle : PlanView → SwitchesView
all_idle plan = record { kinds = map (λ s. s.kind) plan.switches; states = map (λ s. idle s.kind) plan.switches }

-- ---- change

-- A switch's raw level changes at a moment.
abbrev pub after_change : SwitchId → Bool → ℕ → SwitchesView → SwitchesView
after_change switch level now s = set_state switch (change_level (kind_at s switch) now level (state_at s switch)) s

-- The change is reported if it is accepted at once.
abbrev pub reported_by_change : SwitchId → Bool → ℕ → SwitchesView → Option Change
reported_by_change switch level now s =
    if is_taken (kind_at s switch) level (state_at s switch) then Some
    (report_change (after_change switch level now s) switch) else None

-- ---- due

-- the switch's raw level is to be accepted next: none has an earlier moment, and none of the same moment a lower number
pub record IsNextDue (s : SwitchesView) (at : ℕ) (switch : SwitchId) : Type 0 where
  pub due : due_of s switch ≡ Some at
  pub least : (other : SwitchId) (moment : ℕ) → due_of s other ≡ Some moment
      → (at < moment) ⊎ ((at ≡ moment) × (switch.0 ≤ other.0))

-- no raw level is to be accepted
abbrev pub IsNothingDue : SwitchesView → Type 0
IsNothingDue s = (switch : SwitchId) → due_of s switch ≡ None

-- no raw level is to be accepted at or before the moment
abbrev pub IsNothingDueBy : SwitchesView → ℕ → Type 0
IsNothingDueBy s moment = (switch : SwitchId) (due : ℕ) → due_of s switch ≡ Some due → moment < due

-- a state's due moment, with the number of its switch
abbrev pub due_as : ℕ → SwitchState → Option (ℕ × SwitchId)
due_as number state = option_map (λ at. (at, record { 0 = number })) state.due

-- the next due of states that are numbered from the number on
abbrev pub next_due_from : ℕ → List SwitchState → Option (ℕ × SwitchId)
next_due_from number [] = None
next_due_from number (state ∷ states) = sooner (due_as number state) (next_due_from (number + 1) states)

-- the moment and the switch that are due next, if something is due
abbrev pub next_due : SwitchesView → Option (ℕ × SwitchId)
next_due s = next_due_from 0 s.states

-- ---- fire

-- the switch's raw level is accepted
abbrev pub accept : SwitchId → SwitchesView → SwitchesView
accept switch s = set_state switch (fire_change (kind_at s switch) (state_at s switch)) s

abbrev pub accept_due : Option (ℕ × SwitchId) → SwitchesView → SwitchesView
accept_due None s = s
accept_due (Some d) s = accept d.1 s

-- What is due next is accepted.
abbrev pub after_fire : SwitchesView → SwitchesView
after_fire s = accept_due (next_due s) s

-- It is reported.
abbrev pub reported_by_fire : SwitchesView → Option Change
reported_by_fire s = option_map (λ d. report_change (after_fire s) d.1) (next_due s)

-- ---- what a state says

-- a raw level that is not due was accepted, and only a switch that is not quick has one that is due
abbrev pub IsReadBy : SwitchKind → SwitchState → Option ℕ → Type 0
IsReadBy kind x None = x.active ≡ is_active kind.contact x.raw
IsReadBy kind x (Some at) = (kind.quick ≡ false) × (x.active ≡ not (is_active kind.contact x.raw))

abbrev pub IsRead : SwitchKind → SwitchState → Type 0
IsRead kind x = IsReadBy kind x x.due

abbrev pub AreRead : SwitchesView → Type 0
AreRead s = (n : SwitchId) → IsRead (kind_at s n) (state_at s n)
