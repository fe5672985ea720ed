-- Lists of calls, and the law that they keep.
use Rattle.std.specs.Prelude.{◌≡◌, ℕ, ◌<◌, ◌≤◌, ◌==◌, ◌⊎◌, Bool, not, ◌&&◌, if◌then◌else◌, Some, List, [], ◌∷◌, length}
use Rattle.plan_tables.specs.{declared.entries.SwitchId.SwitchId, PlanView.{PlanView, switch_at}}
use Rattle.switch_core.specs.{SwitchStep.{same_level, raw_at_rest}, Switches.IsNothingDueBy}
use Rattle.switch_core.specs.AcceptedLevel.{RawChange, accepted_level}
use Rattle.switch_core.specs.Switches.{SwitchesView, all_idle, after_change, after_fire, active_at, due_of, IsNextDue}

-- a call of `change` or of `fire`, with its moment
pub data SwitchCall : Type 0 where
  Change : (switch : SwitchId) (level : Bool) (now : ℕ) → SwitchCall
  Fire : (now : ℕ) → SwitchCall

abbrev pub call_moment : SwitchCall → ℕ
call_moment (Change switch level now) = now
call_moment (Fire now) = now

abbrev pub after_call : SwitchCall → SwitchesView → SwitchesView
after_call (Change switch level now) s = after_change switch level now s
after_call (Fire now) s = after_fire s

-- after calls, one after the other
abbrev pub after_calls : List SwitchCall → SwitchesView → SwitchesView
after_calls [] s = s
after_calls (call ∷ calls) s = after_calls calls (after_call call s)

-- the moment of the last call, or without one this moment
abbrev pub last_moment : ℕ → List SwitchCall → ℕ
last_moment moment [] = moment
last_moment moment (call ∷ calls) = last_moment (call_moment call) calls

-- A change comes when nothing is due at or before its moment; what is due next is accepted at its moment.
abbrev pub IsInTime : SwitchesView → SwitchCall → Type 0
IsInTime s (Change switch level now) = IsNothingDueBy s now
IsInTime s (Fire now) = (switch : SwitchId) × IsNextDue s now switch

-- Each call is in time, and their moments do not go back, from this one on.
abbrev pub AreInTime : ℕ → SwitchesView → List SwitchCall → Type 0
AreInTime moment s [] = Unit {0}
AreInTime moment s (call ∷ calls) = (moment ≤ call_moment call) × IsInTime s call
    × AreInTime (call_moment call) (after_call call s) calls

-- a switch's raw changes among calls, if its raw level before them is this
abbrev pub raw_changes : SwitchId → Bool → List SwitchCall → List RawChange
raw_changes switch raw [] = []
raw_changes switch raw (Change other level now ∷ calls) =
    if (other.0 == switch.0) && not (same_level level raw) then record { at = now; level = level }
    ∷ raw_changes switch level calls else raw_changes switch raw calls
raw_changes switch raw (Fire now ∷ calls) = raw_changes switch raw calls

-- After every list of calls from `new` on, wherever nothing is due at or before a moment: each switch is active just
-- as its raw changes say.
abbrev pub LevelsAreAccepted : Type 0
LevelsAreAccepted =
    (plan : PlanView) (calls : List SwitchCall) (moment : ℕ) → AreInTime 0 (all_idle plan) calls
    → last_moment 0 calls ≤ moment → IsNothingDueBy (after_calls calls (all_idle plan)) moment
    → (switch : SwitchId) → switch.0 < length plan.switches
    → active_at (after_calls calls (all_idle plan)) switch
    ≡ accepted_level (switch_at plan switch).kind moment
    (raw_changes switch (raw_at_rest (switch_at plan switch).kind.contact) calls)

-- No raw level is due before the last call, so that it can still be accepted at its moment.
abbrev pub NothingIsLate : Type 0
NothingIsLate =
    (plan : PlanView) (calls : List SwitchCall) → AreInTime 0 (all_idle plan) calls
    → (switch : SwitchId) (due : ℕ) → switch.0 < length plan.switches
    → due_of (after_calls calls (all_idle plan)) switch ≡ Some due → last_moment 0 calls ≤ due

-- What a change leaves to be accepted was due already, or is due after the moment of the change.
abbrev pub ChangesArmLater : Type 0
ChangesArmLater =
    (switch : SwitchId) (level : Bool) (now : ℕ) (s : SwitchesView) (other : SwitchId) (due : ℕ)
    → due_of (after_change switch level now s) other ≡ Some due → (due_of s other ≡ Some due) ⊎ (now < due)
