use Rattle.std.proofs.Common.{◌≡◌, map, take, vec_len, vec_capacity}
use Rattle.switch_core.specs.{SwitchStep.idle, StateView.state_view}
use Rattle.switch_core.proofs.switches.Switches.new.Given as goal

-- the kinds and the states of the switches so far, with room for all
abbrev pub invariant-loop-number : goal.invariant-loop-number
invariant-loop-number l = record {
  kinds : l.kinds.items ≡ map (λ s. s.kind) (take l.number l.plan.switches);
  states : map state_view l.states.items ≡ map (λ s. idle s.kind) (take l.number l.plan.switches);
  kind_count : vec_len l.kinds ≡ l.number;
  state_count : vec_len l.states ≡ l.number;
  kind_room : vec_capacity l.kinds ≡ l.count;
  state_room : vec_capacity l.states ≡ l.count;
}
