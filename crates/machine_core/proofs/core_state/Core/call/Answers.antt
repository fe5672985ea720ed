use Rattle.std.proofs.Common.{rules, ◌<◌, length, map, slice_set, ap, sym, ◌∙◌, arith}
use Rattle.std.proofs.lemmas.List.{length-map, map-set}
use Rattle.device_objects.specs.DeviceStep.{due_of}
use Rattle.machine_core.{specs.Core.CoreView, proofs.Calling.{rows-kept, states-turned}}
use Rattle.machine_core.proofs.core_state.Core.call.Goals as goal

pub invariant_of-self : goal.invariant_of-self
invariant_of-self g c =
    let items = c.self.inside.devices.items in
    let within : c.args.row.0 < length items =
    omega (
      arith,
      c.requires.row,
      ap (λ (v : CoreView). length v.machine.devices) c.self.view_is,
      length-map items g.D.Device.state_of,
    ) in
    let row = g.D.Device.row_of in
    let state = g.D.Device.state_of in
    let was = c.self.invariant in
    let r = c.args.row in
    let device = c.call_one-lists.new.device in
    record {
      modes_are = was.modes_are;
      handlers_are = was.handlers_are;
      players_are = was.players_are;
      game_is = was.game_is;
      rows_are = rows-kept row state c.self.inside.plan.now items r c.index_mut-device.result.now device was.rows_are
          c.index_mut-device.ensures.value within c.call_one-lists.ensures.row;
      counted_are = was.counted_are;
      balls_few = was.balls_few;
      alarms_are =
          c.set.ensures ∙ (λ i. slice_set (was.alarms_are i) r.0 (c.due-due.ensures i))
          ∙ sym (ap (map due_of) (map-set state items r.0 device)
          ∙ map-set due_of (map state items) r.0 (state device));
      lines_fit = was.lines_fit;
      idle_are = was.idle_are;
    }

pub returns-clause-state : goal.returns-clause-state
returns-clause-state g c = search (rules, length-map, states-turned)
