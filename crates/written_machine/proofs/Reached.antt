-- States that a run leads to, with no event waiting: the next stimulus, and the next, all in plan order.
use Rattle.std.proofs.Common.{◌≡◌, ℕ, ◌+◌, ◌≤◌, ◌<◌, ◌^◌, List, [], ◌∷◌, ◌++◌, length, refl, arith}
use Rattle.plan_tables.specs.{PlanView.PlanView, Valid.IsValid}
use Rattle.switch_core.specs.Switches.{IsComplete, all_idle}
use Rattle.written_machine.specs.{declared.line.Line.Line, CheckedView.CheckedView}
use Rattle.written_machine.specs.{Machine.{Machine, initial}, PlanOrder.{plan_steps, settle_all}}
use Rattle.written_machine.specs.{Devices.HasDevices, Accepted.IsAccepted}
use Rattle.written_machine.specs.Run.{IsNothingLate, Stimulus, IsAllowed, begin, IsReached}
use Rattle.written_machine.proofs.{Cascade.verified-cascades_end, BallCalm.{IsCalm, no_lag}}
use Rattle.written_machine.proofs.{Does.HasStates, Keeps.steps-keep, PlanSteps.{settled-same, settling-within}}
use Rattle.written_machine.proofs.BallRuns.{begin-calm, calm-run, step-calm}
use Rattle.written_machine.proofs.PlanSteps.{plan_steps-event_steps, settled-run, settled-idle, settled-steps}
use Rattle.written_machine.proofs.Alarms.{has_states-run, has_states-initial, complete, not_late-run, not_late-initial}

module _ (plan : PlanView) where
  -- the state at the beginning
  pub reached-initial : IsReached plan [] (initial plan)
  reached-initial = record { stimuli = []; run = (refl, refl); idle = refl }

  module _ (trace : List Line) (s : Machine) (reached : IsReached plan trace s) where
    pub reached-has_states : HasStates plan s
    reached-has_states = has_states-run plan reached.stimuli (initial plan) trace s reached.run
        (has_states-initial plan)

    -- the switches are read as the plan says, and each has a state
    pub reached-kinds : s.switches.kinds ≡ (all_idle plan).kinds
    reached-kinds = reached-has_states.kinds

    -- and so has each mode
    pub reached-modes : length s.modes ≡ length plan.modes
    reached-modes = reached-has_states.modes

    pub reached-complete : IsValid plan → IsComplete s.switches
    reached-complete valid = complete plan s valid reached-has_states

    -- each device has a state of its shape
    pub reached-devices : HasDevices plan s.devices
    reached-devices = reached-has_states.devices

    -- and no alarm is late
    pub reached-not_late : IsValid plan → IsNothingLate s
    reached-not_late valid = not_late-run plan valid reached.stimuli (initial plan) trace s reached.run
        (not_late-initial plan valid)

-- a stimulus more, for what was accepted
module _ (c : CheckedView) (accepted : IsAccepted c) (trace : List Line) (s : Machine)
    (reached : IsReached c.plan trace s) (stimulus : Stimulus) (allowed : IsAllowed c.plan s stimulus) where
  -- after an allowed stimulus and its event steps too, with their lines at the end of the trace
  pub reached-next : IsReached c.plan (trace ++ (settle_all c.plan c.bound stimulus s).lines)
      (settle_all c.plan c.bound stimulus s)
  reached-next =
      let good = verified-cascades_end c accepted.valid accepted.weights_fit in
      record {
        stimuli =
            reached.stimuli
            ++ (stimulus, (settled-steps c good reached.stimuli trace s reached.run reached.idle stimulus allowed).0)
            ∷ [];
        run = settled-run c good reached.stimuli trace s reached.run reached.idle stimulus allowed;
        idle = settled-idle c good reached.stimuli trace s reached.run reached.idle stimulus allowed;
      }

  -- on the way there are never more lines and waiting events than the bound
  pub reached-within : (n : ℕ) → length (plan_steps c.plan n (begin c.plan stimulus s)).lines + length
      (plan_steps c.plan n (begin c.plan stimulus s)).waiting ≤ c.bound
  reached-within n = settling-within c (verified-cascades_end c accepted.valid accepted.weights_fit) reached.stimuli
      trace
      s reached.run reached.idle stimulus allowed n

  -- nothing is left out on the way, and fewer than 2^32 balls are known
  reached-calm : (n : ℕ) → IsCalm c.plan no_lag (plan_steps c.plan n (begin c.plan stimulus s))
  reached-calm n =
      let calm = calm-run c.plan accepted.valid accepted.own accepted.bookings reached.stimuli trace s reached.run in
      let begun = begin-calm c.plan accepted.valid accepted.own accepted.bookings stimulus s allowed calm in
      let went = plan_steps-event_steps c.plan n (begin c.plan stimulus s) in
      steps-keep c.plan (λ before. IsCalm c.plan no_lag)
      (λ before. step-calm c.plan accepted.valid accepted.own accepted.bookings) [] went.0
      (begin c.plan stimulus s) (plan_steps c.plan n (begin c.plan stimulus s)) went.1 begun

  pub reached-kept : (n : ℕ) → (plan_steps c.plan n (begin c.plan stimulus s)).bookings_left_out ≡ 0
  reached-kept n = (reached-calm n).kept

  pub reached-few : (n : ℕ) → (plan_steps c.plan n (begin c.plan stimulus s)).ledger.known < 2 ^ 32
  reached-few n = let known = (reached-calm n).most in omega (arith, known)

  -- any number of event steps after which no event waits gives the same state
  pub reached-same : (n : ℕ) → (plan_steps c.plan n (begin c.plan stimulus s)).waiting ≡ []
      → plan_steps c.plan n (begin c.plan stimulus s) ≡ settle_all c.plan c.bound stimulus s
  reached-same n idle = settled-same c (verified-cascades_end c accepted.valid accepted.weights_fit) reached.stimuli
      trace
      s reached.run reached.idle stimulus allowed n idle
