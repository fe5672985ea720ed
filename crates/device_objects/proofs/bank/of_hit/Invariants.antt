use Rattle.std.{proofs.Common.{◌≡◌, ◌+◌, ◌*◌, ◌≤◌, [], ◌∷◌, map}, specs.List.{flat_map, range_with_len}}
use Rattle.arrayvec.specs.ArrayVec.{array_vec_len}
use Rattle.device_objects.specs.Bank.{of_hit_in}
use Rattle.device_objects.proofs.bank.of_hit.Given as goal

abbrev pub invariant-loop-state : goal.invariant-loop-state
invariant-loop-state l = record {
  answers : map (λ o. o.items) l.all.items ≡ [] ∷ flat_map (of_hit_in l.bank l.shot) (range_with_len 0 l.state);
  count : array_vec_len l.all ≤ 1 + 2 * l.state;
}
