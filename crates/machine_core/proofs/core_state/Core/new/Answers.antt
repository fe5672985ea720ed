use Rattle.std.proofs.{Common.{rules, map, length, ap, sym, subst, ◌∙◌}, lemmas.List.length-replicate}
use Rattle.written_machine.{specs.Devices.HasDevices, proofs.Alarms.initial-devices}
use Rattle.mode_stack.specs.{declared.phase.Phase.TheVariants.Idle, ModeStep.in_phase, Modes.running_of}
use Rattle.machine_core.proofs.{Fitting.first-dues, Following.idle-runs}
use Rattle.machine_core.proofs.core_state.Core.new.Goals as goal

pub returns-clause-whole : goal.returns-clause-whole
returns-clause-whole g c =
    let plan = c.args.plan.now in
    let first = c.in_ok-first.ensures in
    record {
      devices = subst (HasDevices plan) (sym
          (ap (map g.D.Device.state_of) (sym c.deref.ensures.value) ∙ c.in_default.ensures.fit.states_are))
          (initial-devices plan);
      coils = first.count;
      modes = ap (λ s. length s.modes) first.modes ∙ length-replicate (length plan.modes) (in_phase Idle);
      handlers = ap (λ h. h.running) c.in_ok-waiting.ensures.handlers ∙ idle-runs plan
          ∙ ap (λ s. running_of s.modes) (sym first.modes);
      kinds = first.kinds;
      complete = first.complete;
    }

pub invariant_of-result : goal.invariant_of-result
invariant_of-result g c = search (rules, length-replicate, first-dues)
