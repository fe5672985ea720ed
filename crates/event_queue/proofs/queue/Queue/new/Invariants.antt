use Rattle.std.proofs.Common.{◌≡◌}
use Rattle.event_queue.proofs.queue.Queue.new.Given as goal

abbrev pub invariant-loop : goal.invariant-loop
invariant-loop l = l.waiting.capacity ≡ l.size
