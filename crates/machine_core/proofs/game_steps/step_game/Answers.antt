use Rattle.machine_core.proofs.Playing.{scores-room, told-calls, ask-room, asked-game, events-room, game-done}
use Rattle.machine_core.proofs.game_steps.step_game.Goals as goal

pub tell_scores-requires : goal.tell_scores-requires
tell_scores-requires g c = scores-room c.args.event c.args.core.now c.play-work.new.self c.play-work.ensures.state
    c.play-work.result c.play-work.ensures.work c.requires.room

pub ask_ball-requires-clause-calls : goal.ask_ball-requires-clause-calls
ask_ball-requires-clause-calls g c =
    told-calls c.args.event c.args.core.now c.play-work.new.self c.play-work.ensures.state c.play-work.result
    c.play-work.ensures.work
    c.tell_scores.new.core c.tell_scores.ensures c.requires.calls

pub ask_ball-requires-clause-room : goal.ask_ball-requires-clause-room
ask_ball-requires-clause-room g c =
    ask-room c.args.event c.args.core.now c.play-work.new.self c.play-work.ensures.state c.play-work.result
    c.play-work.ensures.work
    c.tell_scores.new.core c.tell_scores.ensures c.requires.room

pub post_game-requires-clause-game : goal.post_game-requires-clause-game
post_game-requires-clause-game g c =
    asked-game c.args.event c.args.core.now c.play-work.new.self c.play-work.ensures.state c.play-work.result
    c.play-work.ensures.work
    c.tell_scores.new.core c.tell_scores.ensures c.ask_ball.new.core c.ask_ball.ensures c.requires.game

pub post_game-requires-clause-room : goal.post_game-requires-clause-room
post_game-requires-clause-room g c =
    events-room c.args.event c.args.core.now c.play-work.new.self c.play-work.ensures.state c.play-work.result
    c.play-work.ensures.work
    c.tell_scores.new.core c.tell_scores.ensures c.ask_ball.new.core c.ask_ball.ensures c.as_slice.result.now
    c.as_slice.ensures.value c.requires.room

pub returns : goal.returns
returns g c =
    game-done c.args.event c.args.core.now c.play-work.new.self c.play-work.ensures.state c.play-work.result
    c.play-work.ensures.work
    c.tell_scores.new.core c.tell_scores.ensures c.ask_ball.new.core c.ask_ball.ensures c.as_slice.result.now
    c.as_slice.ensures.value c.post_game.new.core c.post_game.ensures
