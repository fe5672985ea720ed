use Rattle.std.proofs.Common.{Some, refl}
use Rattle.plan_tables.specs.declared.entries.GameRules.{GameRules}
use Rattle.mpf_plan.proofs.Ruled.{adds_game}
use Rattle.mpf_plan.proofs.fill.add_game.Goals as goal

pub returns : goal.returns
returns c =
    let a = c.args.draft.now in
    let events = c.in_ok-events.events in
    let rules : GameRules =
    record {
      min_balls = c.args.min_balls;
      balls_per_game = c.args.balls_per_game;
      max_players = c.args.max_players;
      events = events;
    } in
    adds_game a (record a { names = c.game_events.new.names; game = Some rules }) c.args.min_balls c.args.balls_per_game
    c.args.max_players events
    c.in_ok-events.ensures.names c.in_ok-events.ensures.events refl refl
    (record { switches = refl; coils = refl; lists = refl; bindings = refl; rows = refl; row_lists = refl })
