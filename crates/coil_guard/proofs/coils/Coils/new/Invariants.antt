use Rattle.std.proofs.Common.{◌≡◌, map, take, vec_len, vec_capacity, length}
use Rattle.coil_guard.specs.{CoilStep.off, Asked.limits_of}
use Rattle.coil_guard.proofs.coils.Coils.new.Given as goal

-- the coils so far, with room for all
abbrev pub invariant-loop-number : goal.invariant-loop-number
invariant-loop-number l = record {
  coils : l.coils.items ≡ map off (take l.number (limits_of l.plan));
  count : vec_len l.coils ≡ l.number;
  room : vec_capacity l.coils ≡ length l.plan.coils;
}
