-- What is done with the modes, and with the handlers of those that run.
use Rattle.std.proofs.Common.{rules, ◌≡◌, ℕ, zero, suc, Bool, true, false, if◌then◌else◌, List, [], ◌∷◌, length, set}
use Rattle.std.proofs.{Common.{replicate, refl, sym, ap, ◌∙◌}, lemmas.List.map-set}
use Rattle.plan_tables.specs.PlanView.{PlanView, coil_numbers, game_event, may_hold_ball_end, mode_event}
use Rattle.plan_tables.specs.declared.entries.{CoilId.CoilId, Owner.Owner, GameEvent.TheVariants.BallEnded}
use Rattle.plan_tables.specs.declared.entries.ModeEvent.TheVariants.{Started, Stopping, Stopped}
use Rattle.plan_tables.specs.declared.entries.Owner.TheVariants as owners
use Rattle.plan_tables.specs.declared.entries.{Work.TheVariants.Mode, ModeId.ModeId}
use Rattle.mode_stack.specs.declared.phase.Phase.TheVariants as phases
use Rattle.mode_stack.specs.{declared.phase.ModeState.ModeState, Modes.{mode_state, running_of}}
use Rattle.mode_stack.{specs.ModeStep.{in_phase, is_running, entered, ended}, proofs.WhoRuns.starting_keeps_who_runs}
use Rattle.mode_stack.specs.Modes as modes
use Rattle.event_queue.specs.Handlers.{none_running}
use Rattle.player_game.specs.GameStep.{ends_ball}
use Rattle.device_objects.specs.declared.device.Call.{Call}
use Rattle.device_objects.specs.declared.device.Call.TheVariants as calls
use Rattle.written_machine.specs.Machine.{Machine, all_do, post, post_if, set_mode, stop_mode, release_ball_end}
use Rattle.written_machine.specs.Machine.{drop_hold, call_devices, release_coil, release_coils}
use Rattle.written_machine.specs.EventStep.{do_before, do_after}
use Rattle.written_machine.proofs.{Does.stop-by, Parts.does-calls, Silence.still-does}
use Rattle.machine_core.specs.Core.{CoreView, HasHandlers, after, follow}

-- if the same modes run, the handlers are the same
pub follow-still : (does : Machine → Machine) (c : CoreView) → HasHandlers c
    → running_of (does c.machine).modes ≡ running_of c.machine.modes → after does c ≡ follow does c
follow-still does c was still =
    λ i. record { plan = c.plan; running = (was ∙ sym still) i; machine = does c.machine; room = c.room }

-- if nothing is done, the core stays as it is
pub follow-nothing : (c : CoreView) → HasHandlers c → c ≡ follow (λ s. s) c
follow-nothing c was = λ i. record { plan = c.plan; running = was i; machine = c.machine; room = c.room }

-- a mode that is told to stop goes on running, if it ran
pub stop-still : (plan : PlanView) (m : ModeId) (s : Machine)
    → running_of (stop_mode plan m s).modes ≡ running_of s.modes
stop-still plan m s = search (rules, starting_keeps_who_runs, stop-by)

-- one that lets go of the end of the ball runs as before
pub release-still : (plan : PlanView) (m : ModeId) (s : Machine)
    → running_of (release_ball_end plan m s).modes ≡ running_of s.modes
release-still plan m s = by (may_hold_ball_end plan m)
  where
    by : (holds : Bool) → running_of (if holds then post_if (ends_ball m s.game) (game_event plan BallEnded)
        (drop_hold m s) else s).modes ≡ running_of s.modes
    by x1 = search rules

abbrev runs : ModeState → Bool
runs s = is_running s.phase

pub ended-runs : (states : List ModeState) (m : ModeId) (running : List Bool) → running ≡ running_of states
    → set running m.0 false ≡ running_of (set states m.0 (ended (mode_state states m)))
ended-runs states m running is = ap (λ (bs : List Bool). set bs m.0 false) is
    ∙ sym (map-set runs states m.0 (in_phase phases.Idle))

-- at the beginning none runs
none_runs : (n : ℕ) → replicate n false ≡ running_of (modes.all_idle n)
none_runs zero = refl
none_runs (suc n) = ap (λ (bs : List Bool). false ∷ bs) (none_runs n)

pub idle-runs : (plan : PlanView) → none_running plan ≡ running_of (modes.all_idle (length plan.modes))
idle-runs plan = none_runs (length plan.modes)

-- the core of a mode that is entered, and of one that has ended
pub entered-follows : (c : CoreView) (m : ModeId) → HasHandlers c
    → record c
    { machine = set_mode m (entered (mode_state c.machine.modes m)) c.machine; running = set c.running m.0 true }
    ≡ follow (λ s. set_mode m (entered (mode_state s.modes m)) s) c
entered-follows c m is = search (rules, map-set)

-- while the devices of a mode are called, the same modes run
pub calls-still : (plan : PlanView) (call : Call) (m : ModeId) (s : Machine)
    → running_of (call_devices plan call m s).modes ≡ running_of s.modes
calls-still plan call m s = still-does plan (λ owner. Unit {0}) ⊥ (does-calls plan (λ owner. Unit {0}) tt call m tt s)

-- the core after the whole work at `started`
pub started-follows : (c entered_core new : CoreView) (m : ModeId)
    → entered_core ≡ follow (λ s. set_mode m (entered (mode_state s.modes m)) s) c
    → new ≡ after (call_devices entered_core.plan calls.ModeStart m) entered_core
    → new ≡ follow (do_before c.plan (Mode m Started)) c
started-follows c entered_core new m was is = search (rules, calls-still)

-- while its coils are turned off too
freed-modes : (owner : Owner) (coils : List CoilId) (s : Machine)
    → (all_do (release_coil owner) coils s).modes ≡ s.modes
freed-modes owner [] s = refl
freed-modes owner (coil ∷ coils) s = search (rules, freed-modes owner coils (release_coil owner coil s))

pub freed-still : (plan : PlanView) (owner : Owner) (s : Machine)
    → running_of (release_coils plan owner s).modes ≡ running_of s.modes
freed-still plan owner s = ap (λ (states : List ModeState). running_of states) (freed-modes owner (coil_numbers plan) s)

pub ended-follows : (kept : Bool) (c stopped freed ended_core : CoreView) (m : ModeId) → HasHandlers c
    → stopped ≡ after (call_devices c.plan calls.ModeStop m) c
    → freed ≡ after (release_coils stopped.plan (owners.Mode m)) stopped
    → ended_core
    ≡ record freed {
      machine = set_mode m (ended (mode_state freed.machine.modes m)) freed.machine;
      running = set freed.running m.0 false;
    }
    → after (post owners.Machine (mode_event c.plan m Stopped)) ended_core
    ≡ follow (do_after c.plan kept (Mode m Stopping)) c
ended-follows kept c stopped freed ended_core m is was free last = search (rules, freed-still, calls-still, ended-runs)
