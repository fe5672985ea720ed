-- A ball has drained: the first ball save that is active, and what is done if there is none.
use Rattle.std.proofs.Common.{rules, ◌≡◌, ℕ, Bool, true, false, if◌then◌else◌, Option, None, List, filter, drop, ap}
use Rattle.std.proofs.Common.{sym, subst}
use Rattle.plan_tables.specs.PlanView.{PlanView, is_multiball, is_save, row_at, row_numbers}
use Rattle.plan_tables.specs.declared.{entries.GameEvent.TheVariants.BallDrain, devices.RowId.RowId}
use Rattle.written_machine.specs.Machine.{Machine, device_at, drain_ball, end_multiballs, first_active_save}
use Rattle.written_machine.specs.Machine.{is_active_save, step_game}
use Rattle.player_game.specs.GameStep.{is_ball_on}
use Rattle.machine_core.specs.{Balls.drain_now, Core.{CoreView, CanCall, IsWithin, after}}
use Rattle.machine_core.proofs.{Going.{goes-can, goes-end}, Listing.first_from, Playing.goes-step, Room.room-before}

-- ---- ball saves and multiballs, from a number on

-- whether the row is a ball save
abbrev pub saves : PlanView → RowId → Bool
saves plan r = is_save (row_at plan r).settings

-- whether its device is a ball save that is active
abbrev pub active : Machine → RowId → Bool
active s r = is_active_save (device_at s r)

-- the first ball save that is active
abbrev pub save_from : PlanView → Machine → ℕ → Option RowId
save_from plan s i = first_from plan (saves plan) (active s) i

pub save-on : (plan : PlanView) (s : Machine) → is_ball_on s.game.phase ≡ true
    → save_from plan s 0 ≡ first_active_save plan s
save-on plan s on = ap (λ (b : Bool). if b then save_from plan s 0 else None) (sym on)

pub save-off : (plan : PlanView) (s : Machine) → is_ball_on s.game.phase ≡ false → None ≡ first_active_save plan s
save-off plan s off = ap (λ (b : Bool). if b then save_from plan s 0 else None) (sym off)

-- whether the row is a multiball
abbrev pub multiplies : PlanView → RowId → Bool
multiplies plan r = is_multiball (row_at plan r).settings

-- the multiballs
abbrev pub multiballs_from : PlanView → ℕ → List RowId
multiballs_from plan i = filter (multiplies plan) (drop i (row_numbers plan))

-- ---- no ball save saves it

module _ (old : CoreView) (room : IsWithin old.room (drain_now old.plan old.machine))
    (none : first_active_save old.plan old.machine ≡ None) where
  abbrev stepped : Machine
  stepped = step_game old.plan BallDrain old.machine

  unsaved : drain_now old.plan old.machine ≡ end_multiballs old.plan stepped
  unsaved = ap (λ (save : Option RowId). drain_ball old.plan save old.machine) none

  ended-fits : IsWithin old.room (end_multiballs old.plan stepped)
  ended-fits = subst (IsWithin old.room) unsaved room

  pub step-room : IsWithin old.room stepped
  step-room = search (rules, room-before, goes-end, ended-fits)

  module _ (now : CoreView) (now_is : now ≡ after (step_game old.plan BallDrain) old) where
    pub end-calls : CanCall old → CanCall now
    end-calls h = subst CanCall (sym now_is)
        (goes-can old (step_game old.plan BallDrain) (goes-step old.plan BallDrain old.machine) h)

    pub end-room : IsWithin now.room (end_multiballs now.plan now.machine)
    end-room = subst (λ (c : CoreView). IsWithin c.room (end_multiballs c.plan c.machine)) (sym now_is) ended-fits

    pub drain-done : (last : CoreView) → last ≡ after (end_multiballs now.plan) now
        → last ≡ after (drain_now old.plan) old
    drain-done last last_is = search rules
