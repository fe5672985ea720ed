use Rattle.std.proofs.Common.{rules, nat_lt, List, length, ap, ◌∙◌, arith}
use Rattle.plan_tables.specs.declared.entries.EventId.{EventId}
use Rattle.cascade_rank.specs.{Cost.{each_of, cost_of_post}, Lowest.lowest, Order.left_of}
use Rattle.cascade_rank.proofs.{Firsts.next_is, Limits.events-few, Within.posts_of_event-within}
use Rattle.cascade_rank.proofs.walk.next.Goals as goal

pub lowest_left-requires-clause-within : goal.lowest_left-requires-clause-within
lowest_left-requires-clause-within c = search (rules, posts_of_event-within)

pub lowest_left-requires-clause-small : goal.lowest_left-requires-clause-small
lowest_left-requires-clause-small c = omega
    (arith, c.requires.unmet_counts.count, events-few c.args.plan.now c.in_ok-followers.ensures.valid)

pub returns : goal.returns
returns c =
    next_is c.args.plan.now c.in_ok-followers.ensures.valid.entries c.args.unmet_counts.now c.requires.unmet_counts
    c.args.event
    c.lowest_left.result
    (c.lowest_left.ensures ∙ ap (λ (es : List EventId). lowest (length c.args.unmet_counts.now)
    (λ f. nat_lt 0 (left_of c.args.unmet_counts.now f)) (each_of cost_of_post es)) c.in_ok-followers.ensures.posts)
