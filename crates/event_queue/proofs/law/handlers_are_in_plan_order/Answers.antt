use Rattle.event_queue.proofs.PlanOrder.{handlers_are_in_plan_order}
use Rattle.event_queue.proofs.law.handlers_are_in_plan_order.Goals as goal

pub returns : goal.returns
returns c = handlers_are_in_plan_order
