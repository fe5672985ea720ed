-- The first device that is Away to a target is due.
use Rattle.std.{specs.Prelude.{◌&&◌, find, is_some}, proofs.Common.{ap, sym, ◌∙◌}}
use Rattle.std.proofs.Common.{rules, ◌≡◌, ℕ, Bool, false, cond, Option, None, Some, List, [], ◌∷◌, map, filter, refl}
use Rattle.plan_tables.specs.PlanView.{PlanView, feeds, row_at, row_numbers}
use Rattle.plan_tables.specs.declared.devices.{BallTarget.BallTarget, RowId.RowId}
use Rattle.device_objects.specs.{declared.state.DeviceState.DeviceState, DeviceStep.due_of}
use Rattle.event_queue.{specs.Alarms.least_of, proofs.Least.alarms_give_the_least}
use Rattle.written_machine.{specs.Machine.{Machine, device_at, first_away, is_device_away}, proofs.NextAlarms.dues-at}

pub away-due : (s : DeviceState) → is_device_away s ≡ (is_some (due_of s) && is_device_away s)
away-due x1 = search rules

find-nothing : (p : RowId → Bool) (rows : List RowId) → ((r : RowId) → p r ≡ false) → find p rows ≡ None
find-nothing p [] none = refl
find-nothing p (r ∷ rows) none = ap (λ (b : Bool). cond b (Some r) (find p rows)) (none r) ∙ find-nothing p rows none

pub unless-some : {A : Type 0} (o : Option A) → is_some o ≡ false → o ≡ None
unless-some x1 e = search rules

-- if no device is due, none is Away
pub none-away : (plan : PlanView) (target : BallTarget) (s : Machine) → least_of (map due_of s.devices) ≡ None
    → first_away plan target s ≡ None
none-away plan target s none = find-nothing (λ r. is_device_away (device_at s r))
    (filter (λ r. feeds target (row_at plan r).settings) (row_numbers plan)) not_away
  where
    not_away : (r : RowId) → is_device_away (device_at s r) ≡ false
    not_away r =
        let not_due : due_of (device_at s r) ≡ None = sym (dues-at s r)
        ∙ alarms_give_the_least.none (map due_of s.devices) none r in
        away-due (device_at s r) ∙ ap (λ (due : Option ℕ). is_some due && is_device_away (device_at s r)) not_due

-- ---- the first device that is Away to a target

-- whether the ball of a device is on its way
abbrev pub away : Machine → RowId → Bool
away s r = is_device_away (device_at s r)
