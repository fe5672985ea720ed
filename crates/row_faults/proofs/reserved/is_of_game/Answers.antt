use Rattle.std.proofs.Common.{refl, sym, arith}
use Rattle.machine_definitions.specs.GameEvents.{reserved_game_events}
use Rattle.row_faults.proofs.Short.{short-apart}
use Rattle.row_faults.proofs.reserved.is_of_game.Goals as goal

pub returns-then-name-lt-SHORTEST : goal.returns-then-name-lt-SHORTEST
returns-then-name-lt-SHORTEST c = sym (short-apart reserved_game_events c.args.name.now refl
    (omega (arith, c.if-name-lt-SHORTEST.true)))
