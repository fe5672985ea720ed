use Rattle.std.{proofs.Common.{◌≡◌, vec_len}, specs.List.All}
use Rattle.player_game.specs.Kept.{IsSlotOf}
use Rattle.player_game.proofs.players.Players.new.Given as goal

-- so many slots, each of the variables of the plan
abbrev pub invariant-loop : goal.invariant-loop
invariant-loop l = record { count : vec_len l.slots ≡ l.counter; slots : All (IsSlotOf l.plan) l.slots.items }
