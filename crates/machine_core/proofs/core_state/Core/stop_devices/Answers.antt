use Rattle.std.proofs.Common.{◌≡◌, List, length, map, refl, ap, sym, ◌∙◌, subst}
use Rattle.device_objects.specs.declared.state.World.{World}
use Rattle.player_game.specs.GameStep.{in_play}
use Rattle.machine_core.{specs.{Core.CoreView, Stopping.AreStopped}, proofs.Stopping.{lent-whole, machine-stopped}}
use Rattle.machine_core.proofs.core_state.Core.stop_devices.Goals as goal

pub returns : goal.returns
returns g c =
    let row = g.D.Device.row_of in
    let state = g.D.Device.state_of in
    let items = c.self.inside.devices.items in
    let new = c.stop_all.new.devices in
    let world : World =
    record {
      games = c.self.inside.game.state.begun;
      player = c.self.inside.players.state.current;
      in_play = in_play c.self.inside.game.state;
    } in
    let world_is : c.world-world.result ≡ world =
    λ i.
    record {
      games = c.world-world.ensures.games i;
      player = c.world-world.ensures.player i;
      in_play = c.world-world.ensures.in_play i;
    } in
    let same : length new ≡ length items = c.stop_all.auto.devices ∙ ap (λ ds. length ds) c.deref_mut.ensures.value in
    let view : CoreView = record {
      plan = c.self.inside.plan.now;
      running = c.self.inside.handlers.running;
      machine =
          record {
            moment = c.self.inside.moment;
            switches = c.self.inside.switches;
            modes = c.self.inside.modes.modes;
            devices = map state items;
            coils = c.self.inside.coils;
            ledger = c.self.inside.ledger;
            players =
                c.self.inside.players.state;
            game = c.self.inside.game.state;
            waiting = c.self.inside.queue.waiting;
            lines =
                c.self.inside.lines.items;
            bookings_left_out = 0;
          };
      room = c.self.inside.queue.size;
    } in
    let stopped = machine-stopped row state view.plan view.machine items c.deref_mut.result.now new c.world-world.result
    c.self.invariant.rows_are refl world_is c.deref_mut.ensures.value c.stop_all.ensures.rows
    c.stop_all.ensures.states in
    subst (λ (ds : List g.row.D.Denot). AreStopped c.args.self.plan c.args.self.machine (map row ds) (map state ds))
    (sym (lent-whole c.self.inside.devices.len items new c.self.inside.devices.ok.0 same))
    (subst (λ (v : CoreView). AreStopped v.plan v.machine (map row new) (map state new)) c.self.view_is stopped)
