-- Of profiles of shots with states, and of what holds of everything.
use Rattle.std.{specs.{Prelude.{◌≤◌, List, length}, List.All}, proofs.Common.get_or}
use Rattle.machine_definitions.specs.Shots.{Profile}

-- what holds of everything holds of each item
pub All-every : {X : Type 0} (P : X → Type 0) → ((x : X) → P x) → (xs : List X) → All P xs
All-every P every xs = λ i d within. every (get_or xs i d)

abbrev pub HasState : Profile → Type 0
HasState p = 1 ≤ length p.states
