use Rattle.std.{proofs.Common.{◌≡◌, get_or}, specs.List.AllWithin}
use Rattle.plan_tables.specs.{declared.entries.BindingId.BindingId, PlanView.binding_at}
use Rattle.event_queue.proofs.orders.of_one_event.Given as goal

abbrev pub invariant-loop-number : goal.invariant-loop-number
invariant-loop-number l = (first : BindingId)
    → AllWithin (λ p. (binding_at l.plan p).event.0 ≡ (binding_at l.plan (get_or l.places 0 first)).event.0) l.places 0
    l.number
