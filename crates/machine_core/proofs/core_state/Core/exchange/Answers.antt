use Rattle.std.proofs.Common.{rules, ◌≡◌, map, ap, sym, ◌∙◌}
use Rattle.plan_tables.specs.PlanView.{row_at}
use Rattle.device_objects.specs.declared.state.World.{World}
use Rattle.player_game.specs.GameStep.{in_play}
use Rattle.written_machine.specs.Machine.{device_at, device_state, world_of}
use Rattle.machine_core.specs.{Core.CoreView, Stopping.stopped_state}
use Rattle.machine_core.proofs.Exchanging.{old-row, old-stopped, rows-stay, states-stay}
use Rattle.machine_core.proofs.core_state.Core.exchange.Goals as goal

pub invariant_of-self : goal.invariant_of-self
invariant_of-self g c = search (rules, rows-stay, states-stay)

pub returns-clause-same : goal.returns-clause-same
returns-clause-same g c = search (rules, states-stay)

pub returns-clause-row : goal.returns-clause-row
returns-clause-row g c =
    let row = g.D.Device.row_of in
    let state = g.D.Device.state_of in
    let items = c.self.inside.devices.items in
    let plan = c.self.inside.plan.now in
    let device = c.args.device in
    let put = c.put_in_place-former in
    let same_row = c.requires.row
    ∙ ap (λ (v : CoreView). row_at v.plan c.args.row) (sym c.self.view_is) in
    let same_state = c.requires.state
    ∙ ap (λ (v : CoreView). device_at v.machine c.args.row) (sym c.self.view_is) in
    c.stop_one.ensures.row
    ∙ old-row row state plan items c.args.row put.result device c.self.invariant.rows_are put.ensures.takes same_row
    same_state
    ∙ ap (λ (v : CoreView). row_at v.plan c.args.row) c.self.view_is

pub returns-clause-state : goal.returns-clause-state
returns-clause-state g c =
    let row = g.D.Device.row_of in
    let state = g.D.Device.state_of in
    let items = c.self.inside.devices.items in
    let plan = c.self.inside.plan.now in
    let device = c.args.device in
    let put = c.put_in_place-former in
    let same_row = c.requires.row
    ∙ ap (λ (v : CoreView). row_at v.plan c.args.row) (sym c.self.view_is) in
    let same_state = c.requires.state
    ∙ ap (λ (v : CoreView). device_at v.machine c.args.row) (sym c.self.view_is) in
    let world : World =
    record {
      games = c.self.inside.game.state.begun;
      player = c.self.inside.players.state.current;
      in_play = in_play c.self.inside.game.state;
    } in
    let world_is : c.world-world.result ≡ world =
    λ i.
    record {
      games = c.world-world.ensures.games i;
      player = c.world-world.ensures.player i;
      in_play = c.world-world.ensures.in_play i;
    } in
    c.stop_one.ensures.state
    ∙ (λ i. stopped_state c.self.inside.moment (world_is i) (row put.result) (state put.result))
    ∙ old-stopped row state plan items c.args.row put.result device c.self.invariant.rows_are put.ensures.takes same_row
    same_state c.self.inside.moment world
    ∙ ap (λ (v : CoreView). stopped_state v.machine.moment (world_of v.machine) (row_at v.plan c.args.row)
    (device_at v.machine c.args.row)) c.self.view_is
