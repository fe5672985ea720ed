-- What is promised of every run of an accepted plan: `IsGood`, at the end of this file. Each clause of the headline
-- (docs/promises.md) is a record of its own, in the headline's order. A fifth record has what is promised besides.
--
-- To know what the words mean, read on in this order:
-- 1. `Run`: what stimuli and runs are, and what `InEveryRun` and `InEveryCascade` say;
-- 2. `EventStep`: how a waiting event is handled;
-- 3. `Machine`: the state, and each change of it;
-- 4. the words of one record each: `StimulusCost` of the first, `Sent` of the second, `Silent` of the third, `Counted`
--    of the fourth, `SwitchCalls` and `SwitchLines` of the fifth;
-- 5. the parts, in the crates below: weights in `cascade_rank`, coils in `coil_guard`, modes in `mode_stack`, devices
--    in `device_objects`, the ledger in `ball_devices`, the game in `player_game`, switches in `switch_core`, handlers
--    in `event_queue`.
use Rattle.std.specs.{Prelude.{◌≡◌, ℕ, ◌+◌, ◌<◌, ◌≤◌, ◌^◌, false, true, Some, List, ◌∷◌, length}, List.{All, count_by}}
use Rattle.plan_tables.specs.{PlanView.{PlanView, act_told, feeders_of, row_at, switch_at}, Valid.IsTargetThere}
use Rattle.plan_tables.specs.declared.entries.{SwitchId.SwitchId, ModeId.ModeId, CoilId.CoilId}
use Rattle.plan_tables.specs.declared.entries.Owner.TheVariants as owners
use Rattle.plan_tables.specs.declared.devices.{RowId.RowId, Telling.Telling, Settings.TheVariants.BallDevice}
use Rattle.plan_tables.specs.declared.devices.{BallTarget.BallTarget, BallSettings.BallSettings}
use Rattle.device_objects.specs.declared.device.Call.TheVariants as calls
use Rattle.ball_devices.specs.Ledger.{IsBalanced, counted_in, transit_to}
use Rattle.switch_core.specs.{SwitchStep.raw_at_rest, AcceptedLevel.accepted_level}
use Rattle.switch_core.specs.{Switches.active_at, Calls.raw_changes}
use Rattle.cascade_rank.specs.{Cost.price, Events.weight_of}
use Rattle.event_queue.specs.declared.queue.Posted.{Posted}
use Rattle.written_machine.specs.Machine.{Machine, call_device_by, device_at, is_device_away, tell_nobody, told_device}
use Rattle.written_machine.specs.{EventStep.EventStep, Counted.is_counted}
use Rattle.written_machine.specs.{StimulusCost.{cost_of_stimulus, weigh}, SwitchLines.{changes_of, LeadTo}}
use Rattle.written_machine.specs.{CheckedView.CheckedView, SwitchCalls.switch_calls}
use Rattle.written_machine.specs.Run.{device, source_due, IsNoAlarmDueBy, InEveryRun, InEveryCascade}
use Rattle.written_machine.specs.{Silent.{HasStarted, IsSilent}, Sent.{sendings, AreSkippedIdle}}
use Rattle.written_machine.specs.Counted.{bookings, IsLedgerOf, AreOriginsRight, AreCountsRight, ball_switches}
use Rattle.coil_guard.specs.{Limits.{limits_at, IsWithin}, SentCommands.{is_held_for, IsOnThroughout}, Asked.limits_of}

-- The cascade of each stimulus ends within the certificate's bound.
pub record CascadesEnd (c : CheckedView) : Type 0 where
  -- Counted together, lines since the latest stimulus and events that wait are never more than the bound.
  pub within : InEveryRun c.plan (λ stimuli trace s. length s.lines + length s.waiting ≤ c.bound)
  -- As long as an event waits, some event step can come.
  pub goes_on : InEveryRun c.plan (λ stimuli trace s.
      (first : Posted) (rest : List Posted) → s.waiting ≡ first ∷ rest → (t : Machine) × EventStep c.plan s t)
  -- No more event steps follow a stimulus than the bound.
  pub ends : InEveryCascade c.plan (λ s stimulus n t. n ≤ c.bound)
  -- After each event step the lines since the stimulus and the weights of the waiting events are at most its cost.
  pub cost : InEveryCascade c.plan (λ s stimulus n t.
      length t.lines + weigh (weight_of c.weights) t.waiting
      ≤ price (weight_of c.weights) (cost_of_stimulus c.plan s stimulus))

-- No coil is driven past its limits or held without permission.
pub record CoilsStayWithinLimits (c : CheckedView) : Type 0 where
  -- Each command that was sent to a coil is within the coil's limits.
  pub limits : InEveryRun c.plan (λ stimuli trace s. All (λ q. IsWithin (limits_of c.plan) q.command) (sendings trace))
  -- A coil that may not be held is on at no more moments in a row than its greatest pulse has milliseconds.
  pub stretches : InEveryRun c.plan (λ stimuli trace s.
      (coil : CoilId) → (limits_at (limits_of c.plan) coil).may_hold ≡ false →
      (first count : ℕ) → IsOnThroughout (sendings trace) coil first count
      → count ≤ (limits_at (limits_of c.plan) coil).max_pulse_ms)
  -- No command was skipped for a limit, or for want of permission.
  pub skips : InEveryRun c.plan (λ stimuli trace s. AreSkippedIdle trace)

-- A stopped mode causes nothing.
pub record StoppedModesAreSilent (c : CheckedView) : Type 0 where
  -- A stopped mode writes no line: before each line of a mode it has started, and has not stopped since.
  pub silent : InEveryRun c.plan (λ stimuli trace s. IsSilent c.plan trace)
  -- No device of a stopped mode is due: if one is due, its mode has started, and has not stopped since.
  pub resting : InEveryRun c.plan (λ stimuli trace s.
      (m : ModeId) (r : RowId) (due : ℕ) → r.0 < length c.plan.rows → (row_at c.plan r).owner ≡ owners.Mode m →
      source_due s (device r) ≡ Some due → HasStarted c.plan m trace)
  -- A stopped mode holds no coil: if a mode holds a coil, it has started, and has not stopped since.
  pub release : InEveryRun c.plan (λ stimuli trace s.
      (m : ModeId) (coil : CoilId) → m.0 < length c.plan.modes →
      is_held_for (sendings trace) (owners.Mode m) coil ≡ true → HasStarted c.plan m trace)

-- The known balls are exactly those in devices, on their way, and on the playfield.
pub record BallsAreAccountedFor (c : CheckedView) : Type 0 where
  -- Each known ball is in a device, on its way, or on the playfield.
  pub somewhere : InEveryRun c.plan (λ stimuli trace s. IsBalanced s.ledger)
  -- No booking is left out: the ledger may make each that comes. When a ball enters a device, fewer than 2^32 are
  -- known; when one leaves a device, one is counted in it; when one arrives on the playfield, one was on its way.
  pub none_left_out : InEveryRun c.plan (λ stimuli trace s. s.bookings_left_out ≡ 0)
  -- At no moment are 2^32 balls known.
  pub few : InEveryRun c.plan (λ stimuli trace s. s.ledger.known < 2 ^ 32)
  -- No telling is lost: a device that is told something answers no list that tells another. So in every state the call
  -- comes to the same, whatever telling does there.
  pub tellings : (telling : Telling) (r : RowId) (s : Machine) → told_device c.plan telling s ≡ Some r
      → (tell : Telling → Machine → Machine) →
      call_device_by c.plan tell (calls.Act (act_told telling)) r s
      ≡ call_device_by c.plan tell_nobody (calls.Act (act_told telling)) r s
  -- Each number of the ledger follows from what it has booked.
  pub ledger_numbers : InEveryRun c.plan (λ stimuli trace s. IsLedgerOf c.plan (bookings trace) s.ledger)
  -- Where each ball came from that entered a device follows from what was booked before.
  pub origins : InEveryRun c.plan (λ stimuli trace s. AreOriginsRight trace)
  -- What a line says of all balls is what the ledger says once it has booked what the line tells.
  pub line_counts : InEveryRun c.plan (λ stimuli trace s. AreCountsRight c.plan trace)
  -- When nothing is due at or before a moment, as many balls are in a device as it has ball switches at which one
  -- counts.
  pub counted : InEveryRun c.plan (λ stimuli trace s.
      (at : ℕ) → s.moment ≤ at → IsNoAlarmDueBy s at → (r : RowId) (d : BallSettings) → r.0 < length c.plan.rows →
      (row_at c.plan r).settings ≡ BallDevice d →
      counted_in s.ledger r ≡ count_by (is_counted c.plan d at trace) (ball_switches c.plan r))
  -- As many balls are in transit to a target as devices are Away to it.
  pub away : InEveryRun c.plan (λ stimuli trace s.
      (target : BallTarget) → IsTargetThere (length c.plan.rows) target →
      transit_to s.ledger target ≡ count_by (λ r. is_device_away (device_at s r)) (feeders_of c.plan target))

-- When nothing is due at or before a moment, each switch is active by the accepted level of its raw changes.
abbrev pub LevelsFollowRawChanges : PlanView → Type 0
LevelsFollowRawChanges plan =
    InEveryRun plan (λ stimuli trace s.
    (at : ℕ) → s.moment ≤ at → IsNoAlarmDueBy s at → (n : SwitchId) → n.0 < length plan.switches →
    active_at s.switches n ≡ accepted_level (switch_at plan n).kind at
    (raw_changes n (raw_at_rest (switch_at plan n).kind.contact) (switch_calls stimuli)))

-- Besides the headline: switches are read rightly, and lines have their moments.
pub record SwitchesAreRead (c : CheckedView) : Type 0 where
  pub levels : LevelsFollowRawChanges c.plan
  -- The lines of a switch are the changes of its level, from inactive on.
  pub changes : InEveryRun c.plan (λ stimuli trace s.
      (n : SwitchId) → n.0 < length c.plan.switches → LeadTo false (changes_of n trace) (active_at s.switches n))
  -- Each line since the latest stimulus has its moment.
  pub moments : InEveryRun c.plan (λ stimuli trace s. All (λ l. l.moment ≡ s.moment) s.lines)

-- Every run of the plan is good.
pub record IsGood (c : CheckedView) : Type 0 where
  pub cascades : CascadesEnd c
  pub coils : CoilsStayWithinLimits c
  pub modes : StoppedModesAreSilent c
  pub balls : BallsAreAccountedFor c
  pub switches : SwitchesAreRead c
