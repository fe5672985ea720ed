use Rattle.std.proofs.Common.{◌<◌, List, Option, ℕ, length, slice_get, IfSome, subst, ap, ◌∙◌}
use Rattle.event_queue.{specs.Alarms.least_of, proofs.{Least.least-within, InOrder.{front-is, first-least}}}
use Rattle.event_queue.proofs.alarms.Alarms.least.Goals as goal

pub returns-clause-least : goal.returns-clause-least
returns-clause-least c =
    let alarms = c.self.inside.queue.items in
    c.copied.ensures ∙ front-is alarms c.front.result c.front.ensures.item.3
    ∙ ap (λ xs. slice_get xs 0) c.self.invariant.1 ∙ first-least c.self.inside.dues.items
    ∙ ap least_of c.self.view_is

pub returns-clause-within : goal.returns-clause-within
returns-clause-within c =
    let alarms = c.self.inside.queue.items in
    subst (λ (dues : List (Option ℕ)). IfSome c.copied.result (λ alarm. alarm.1.0 < length dues)) c.self.view_is
    (least-within c.self.inside.dues.items c.copied.result
    (c.copied.ensures ∙ front-is alarms c.front.result c.front.ensures.item.3
    ∙ ap (λ xs. slice_get xs 0) c.self.invariant.1 ∙ first-least c.self.inside.dues.items))
