-- A rig that is held acts on an input that is not refused, and is held again.
use Rattle.std.proofs.Common.{rules, ◌≡◌, ℕ, ◌+◌, ◌<◌, ◌≤◌, ◌^◌, None, Ok, List, ◌∷◌, ◌++◌, length, take, drop, refl}
use Rattle.std.{proofs.Common.{ap, sym, ◌∙◌, subst, arith}, specs.List.All}
use Rattle.std.proofs.lemmas.{Option.{slice_get_within, none-some}, List.{length-map, take_all, take-append-drop}}
use Rattle.plan_tables.specs.{PlanView.PlanView, declared.entries.SwitchKind.SwitchKind}
use Rattle.coil_guard.specs.{declared.state.CoilState.CoilState, SentCommands.coil_of}
use Rattle.written_machine.specs.{declared.line.Line.Line, CheckedView.CheckedView}
use Rattle.written_machine.specs.{Machine.Machine, Devices.HasDevices, EventStep.EventSteps, PlanOrder.plan_steps}
use Rattle.written_machine.specs.Run.{Stimulus, SwitchChange, Alarm, Wait, moment_of, IsAllowed, begin, IsReached}
use Rattle.written_machine.proofs.{PlanSteps.plan_steps-event_steps, Silence.begin-still, Reached.reached-modes}
use Rattle.written_machine.proofs.Reached.{reached-next, reached-within, reached-kept, reached-few, reached-same}
use Rattle.written_machine.proofs.Reached.{reached-has_states, reached-devices, reached-kinds, reached-complete}
use Rattle.written_machine.proofs.Alarms.{has_states-begin, moment-begin, moment-after}
use Rattle.coil_driver.specs.{Board.after_lines, Driver.{DriverView, IsSendable, HasSent, HasStopped}, Agrees.Agrees}
use Rattle.coil_driver.proofs.Sending.{cascade-agrees, sent-sendable}
use Rattle.machine_core.specs.Core.{CoreView, IsWhole, CanCall, HasHandlers, IsPlayable, IsWithin, StaysWithin}
use Rattle.machine_core.{specs.Core.{HasSettled, after}, proofs.{Settling.follows-handles, Room.drop-found}}
use Rattle.pin_rig.specs.{declared.input.Input.Input, RigState.IsHeld}
use Rattle.pin_rig.specs.Rig.{RigView, stimulus_at, RigCascade, RigStep, RigHalt}
use Rattle.pin_rig.proofs.Judging.{judged-allowed, judged-running, judged-asks, AsksFor}
use Rattle.pin_rig.proofs.Counting.{taken-no_fault, not_taken-fault}

-- what a machine is asked for its core can do
asked-playable : (rig : RigView) (core : CoreView) (stimulus : Stimulus) → rig.machine ≡ core.machine
    → length core.machine.switches.kinds ≡ length rig.checked.plan.switches → AsksFor rig stimulus
    → IsPlayable core stimulus
asked-playable rig core x3 is count asks = search (rules, count)

-- what is seen of a rig that holds these
abbrev pub rig_of : CheckedView → CoreView → DriverView → ℕ → RigView
rig_of c core driver visible_count = record {
  checked = c;
  machine = core.machine;
  lines = take visible_count core.machine.lines;
  board = driver.board;
  sent = driver.guard;
  faulted_coil = driver.faulted_coil;
}

module _ (c : CheckedView) (core : CoreView) (driver : DriverView) (visible_count : ℕ)
    (held : IsHeld c core driver visible_count)
    (input : Input) (stimulus : Stimulus) (judged : stimulus_at (rig_of c core driver visible_count) input
    ≡ Ok stimulus) where
  abbrev pub rig : RigView
  rig = rig_of c core driver visible_count

  abbrev pub begun : Machine
  begun = begin c.plan stimulus core.machine

  allowed : IsAllowed c.plan core.machine stimulus
  allowed = judged-allowed rig input stimulus judged

  running : driver.faulted_coil ≡ None
  running = judged-running rig input stimulus judged

  pub playable : IsPlayable core stimulus
  playable = asked-playable rig core stimulus refl
      (held.core_is.kinds ∙ ap (λ (p : PlanView). length p.switches) held.plan_is)
      (judged-asks rig input stimulus judged)

  -- the core after the stimulus has begun
  abbrev begun_core : CoreView
  begun_core = after (begin c.plan stimulus) core

  begun-room : (n : ℕ) → IsWithin core.room (plan_steps c.plan n begun)
  begun-room n =
      let within = reached-within c held.acceptance held.reach.0 core.machine held.reach.1 stimulus allowed n in
      let room = held.room in
      record {
        waiting = omega (arith, within, room);
        lines = omega (arith, within, room);
        none_left_out = reached-kept c held.acceptance held.reach.0 core.machine held.reach.1 stimulus allowed n;
        few = reached-few c held.acceptance held.reach.0 core.machine held.reach.1 stimulus allowed n;
      }

  begun-stays : StaysWithin begun_core
  begun-stays n = subst (λ (p : PlanView). IsWithin core.room (plan_steps p n begun)) (sym held.plan_is) (begun-room n)

  -- the same modes run as before
  begun-handles : HasHandlers begun_core
  begun-handles = held.core_is.handlers ∙ sym (begin-still c.plan stimulus core.machine)

  -- and devices can be called
  early : moment_of stimulus < 2 ^ 40
  early = by stimulus allowed
    where
      by : (x : Stimulus) → IsAllowed c.plan core.machine x → moment_of x < 2 ^ 40
      by (SwitchChange at n level) h = h.0.early
      by (Alarm at source) h = h.1
      by (Wait at) h = h.early

  begun-calls : CanCall begun_core
  begun-calls =
      let states = has_states-begin c.plan stimulus core.machine
      (reached-has_states c.plan held.reach.0 core.machine held.reach.1) in
      record {
        devices = subst (λ (p : PlanView). HasDevices p begun.devices) (sym held.plan_is) states.devices;
        coils = states.coils.count ∙ sym (ap (λ (p : PlanView). length p.coils) held.plan_is);
        early = omega (arith, early, moment-begin c.plan stimulus core.machine);
      }

  -- the lines of so many event steps can be sent
  steps-sendable : (n : ℕ) → All (IsSendable (length driver.guard)) (plan_steps c.plan n begun).lines
  steps-sendable n =
      let there = plan_steps c.plan n begun in
      let (count, steps) = plan_steps-event_steps c.plan n begun in
      sent-sendable there.moment core.machine.coils (length driver.guard) there.lines
      (omega (arith, early, moment-after c.plan stimulus core.machine count there steps))
      (ap (λ (s : List CoilState). length s) (sym (held.all_sent running)))
      (cascade-agrees c.plan stimulus core.machine count there steps).commands

  module _ (new : CoreView) (settled : HasSettled begun_core new) where
    -- as many steps as the bound allows lead to the same state
    same : plan_steps c.plan c.bound begun ≡ new.machine
    same =
        let there = ap (λ (v : CoreView). v.machine) settled.new_is
        ∙ ap (λ (p : PlanView). plan_steps p settled.count begun) held.plan_is in
        let idle = ap (λ (s : Machine). s.waiting) (sym there) ∙ settled.settles in
        sym (reached-same c held.acceptance held.reach.0 core.machine held.reach.1 stimulus allowed settled.count
        idle) ∙ sym there

    count : ℕ
    count = (plan_steps-event_steps c.plan c.bound begun).0

    steps : EventSteps c.plan count begun new.machine
    unfolding count
    steps = subst (EventSteps c.plan count begun) same (plan_steps-event_steps c.plan c.bound begun).1

    agrees : Agrees core.machine.coils new.machine
    agrees = cascade-agrees c.plan stimulus core.machine count new.machine steps

    reach : IsReached c.plan (held.reach.0 ++ (plan_steps c.plan c.bound begun).lines) new.machine
    reach = search (rules, same, reached-next, allowed)

    late : new.machine.moment < 2 ^ 40
    late = omega (arith, early, moment-after c.plan stimulus core.machine count new.machine steps)

    plan-again : new.plan ≡ c.plan
    plan-again = ap (λ (v : CoreView). v.plan) settled.new_is ∙ held.plan_is

    core-again : IsWhole new
    core-again =
        let trace = held.reach.0 ++ (plan_steps c.plan c.bound begun).lines in
        let kinds = ap (λ (kinds : List SwitchKind). length kinds) (reached-kinds c.plan trace new.machine reach)
        ∙ length-map c.plan.switches (λ s. s.kind) in
        record {
          devices = subst (λ (p : PlanView). HasDevices p new.machine.devices) (sym plan-again)
              (reached-devices c.plan trace new.machine reach);
          coils = (reached-has_states c.plan trace new.machine reach).coils.count
              ∙ sym (ap (λ (p : PlanView). length p.coils) plan-again);
          modes = reached-modes c.plan trace new.machine reach
              ∙ sym (ap (λ (p : PlanView). length p.modes) plan-again);
          handlers = follows-handles (plan_steps core.plan settled.count) begun_core new settled.new_is;
          kinds = kinds ∙ sym (ap (λ (p : PlanView). length p.switches) plan-again);
          complete = reached-complete c.plan trace new.machine reach held.acceptance.valid;
        }

    -- with what is sent of them
    module _ (sent : DriverView) (counted : length sent.guard ≡ length driver.guard) (place : ℕ) where
      cascade : sent.guard ≡ after_lines (take place new.machine.lines) driver.guard
          → RigCascade input rig (rig_of c new sent place)
      cascade sent_is = search (rules, allowed, same, count, steps)

      held-on : place ≤ length new.machine.lines
          → (sent.faulted_coil ≡ None → (place ≡ length new.machine.lines) × (sent.guard ≡ new.machine.coils))
          → IsHeld c new sent place
      held-on within all = search (rules, plan-again, core-again, early, late, reach)

      -- all
      module _ (whole : HasSent new.machine.lines driver sent) (place_is : place ≡ length new.machine.lines) where
        shown-all : take place new.machine.lines ≡ new.machine.lines
        shown-all = take_all place new.machine.lines (omega (arith, place_is))

        whole-step : RigStep input rig (rig_of c new sent place)
        whole-step = search (rules, cascade, shown-all, taken-no_fault, running)

        whole-held : IsHeld c new sent place
        whole-held = search (rules, held-on, running, agrees)

      -- or those before one that the board has not taken
      module _ (part : HasStopped new.machine.lines place driver sent) where
        part-lines : new.machine.lines ≡ take place new.machine.lines ++ part.line ∷ drop (place + 1) new.machine.lines
        part-lines = search (rules, take-append-drop, drop-found)

        part-halt : RigHalt input rig (rig_of c new sent place)
        part-halt =
            let ls = new.machine.lines in
            record {
              cascade = cascade (part.fault.fault.guard ∙ part.earlier.guard);
              line = part.line;
              command = part.fault.command;
              later = drop (place + 1) ls;
              lines_are = part-lines;
              line_is = part.fault.line_is;
              board = part.mid.board;
              board_takes = part.earlier.board;
              not_taken = part.fault.fault.not_taken;
              fault = not_taken-fault ls (take place ls) (drop (place + 1) ls) part.line part.fault.command driver.board
                  part.mid.board sent.board part.fault.line_is part-lines part.earlier.board part.fault.fault.not_taken;
              halt = part.fault.fault.faulted_coil;
            }

        part-held : IsHeld c new sent place
        part-held =
            let within = slice_get_within new.machine.lines place part.line part.there in
            held-on (omega (arith, within))
            (λ none. absurd (none-some (coil_of part.fault.command) (sym none ∙ part.fault.fault.faulted_coil)))

  -- the same, of the core that there is then
  pub begin-room : IsWithin core.room (begin core.plan stimulus core.machine)
  begin-room = subst (λ (p : PlanView). IsWithin core.room (begin p stimulus core.machine)) (sym held.plan_is)
      (begun-room 0)

  module _ (now : CoreView) (now_is : now ≡ after (begin core.plan stimulus) core) where
    now-is : now ≡ begun_core
    now-is = now_is ∙ ap (λ (p : PlanView). after (begin p stimulus) core) held.plan_is

    pub now-handles : HasHandlers now
    now-handles = subst HasHandlers (sym now-is) begun-handles

    pub now-calls : CanCall now
    now-calls = subst CanCall (sym now-is) begun-calls

    pub now-stays : StaysWithin now
    now-stays = subst StaysWithin (sym now-is) begun-stays

    pub now-sendable : (n : ℕ) → All (IsSendable (length driver.guard)) (plan_steps now.plan n now.machine).lines
    now-sendable n =
        subst (λ (v : CoreView). All (IsSendable (length driver.guard)) (plan_steps v.plan n v.machine).lines)
        (sym now-is)
        (subst (λ (p : PlanView). All (IsSendable (length driver.guard)) (plan_steps p n begun).lines)
        (sym held.plan_is)
        (steps-sendable n))

    module _ (new : CoreView) (settled : HasSettled now new) where
      settled-here : HasSettled begun_core new
      settled-here = subst (λ (v : CoreView). HasSettled v new) now-is settled

      module _ (sent : DriverView) (counted : length sent.guard ≡ length driver.guard) (place : ℕ) (ls : List Line)
          (lines_are : ls ≡ new.machine.lines) where
        module _ (whole : HasSent ls driver sent) (place_is : place ≡ length ls) where
          whole-here : HasSent new.machine.lines driver sent
          whole-here = subst (λ t. HasSent t driver sent) lines_are whole

          place-here : place ≡ length new.machine.lines
          place-here = place_is ∙ ap (λ (t : List Line). length t) lines_are

          pub steps-on : RigStep input rig (rig_of c new sent place)
          steps-on = whole-step new settled-here sent counted place whole-here place-here

          pub held-again : IsHeld c new sent place
          held-again = whole-held new settled-here sent counted place whole-here place-here

        module _ (part : HasStopped ls place driver sent) where
          part-here : HasStopped new.machine.lines place driver sent
          part-here = subst (λ t. HasStopped t place driver sent) lines_are part

          pub halts : RigHalt input rig (rig_of c new sent place)
          halts = part-halt new settled-here sent counted place part-here

          pub held-halted : IsHeld c new sent place
          held-halted = part-held new settled-here sent counted place part-here
