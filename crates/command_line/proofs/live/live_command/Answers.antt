use Rattle.std.proofs.Common.{◌≡◌, [], ◌∷◌, Global, map, string_bytes}
use Rattle.command_line.proofs.LiveWords.{asks_live, run_is_asked}
use Rattle.command_line.proofs.live.live_command.Goals as goal

pub returns-clause-runs : goal.returns-clause-runs
returns-clause-runs c = λ folder plain words_are.
    let given : map (string_bytes {Z = Global}) c.deref.result.now ≡ folder ∷ [] = rw c.deref.ensures.value words_are in
    asks_live c.read_live.result _ _ _ given (run_is_asked folder plain) c.read_live.ensures.asks
    c.read_live.ensures.fails
