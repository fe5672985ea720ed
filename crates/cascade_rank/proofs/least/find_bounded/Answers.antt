use Rattle.std.proofs.Common.{rules, ◌≡◌, List, ℕ, nat_lt, Option, position, Err, Ok, ap, ◌∙◌, sym, subst}
use Rattle.std.specs.Option.{option_map}
use Rattle.plan_tables.specs.declared.entries.EventId.{EventId}
use Rattle.cascade_rank.specs.{Events.weight_of, Verified.IsVerified}
use Rattle.cascade_rank.specs.{Weights.{bound_of, IsWithinLimit}, Finding.{cycle, found_past}}
use Rattle.cascade_rank.proofs.{Events.event, Limits.events-few, Cycles.cycle-no_fit}
use Rattle.cascade_rank.proofs.Finds.{left_is_open, found_past_is, first_is_open, all_grounded, whole_order}
use Rattle.cascade_rank.proofs.Finds.{found_within, least_within, found_above, too_dear}
use Rattle.cascade_rank.proofs.least.find_bounded.Goals as goal

pub overflow_cast-start : goal.overflow_cast-start
overflow_cast-start c = search (rules, nat_lt, first_is_open, events-few)

pub walk-requires-clause-unmet_counts : goal.walk-requires-clause-unmet_counts
walk-requires-clause-unmet_counts c = search (rules, left_is_open)

pub walk-requires-clause-first : goal.walk-requires-clause-first
walk-requires-clause-first c =
    let g = c.in_ok-grounding.ensures in
    let is = c.first_left.ensures ∙ ap (position (λ n. nat_lt 0 n)) c.deref.ensures.value in
    (first_is_open c.args.plan.now g.valid.entries c.in_ok-grounding.grounding.unmet_counts.items
    c.in_ok-grounding.grounding.order.items g.order c.first_left.result is c.in-Some.place c.in-Some.is).1

pub returns-in-Some-clause-exact : goal.returns-in-Some-clause-exact
returns-in-Some-clause-exact c =
    let g = c.in_ok-grounding.ensures in
    let is = c.first_left.ensures ∙ ap (position (λ n. nat_lt 0 n)) c.deref.ensures.value in
    found_past_is c.args.plan.now g.valid.entries c.in_ok-grounding.grounding.unmet_counts.items
    c.in_ok-grounding.grounding.order.items g.order c.first_left.result is
    ∙ ap (λ (found : Option ℕ). found_past c.args.plan.now (option_map event found)) c.in-Some.is
    ∙ ap (λ (es : List EventId). Err (cycle es)) (sym c.in_ok-walk.ensures.cycle)

pub returns-in-Some-clause-refused : goal.returns-in-Some-clause-refused
returns-in-Some-clause-refused c =
    let walked = c.in_ok-walk.ensures in
    (walked.is_one, walked.reports, cycle-no_fit c.args.plan.now _ walked.is_one)

pub weigh-requires : goal.weigh-requires
weigh-requires c = search (rules, nat_lt, whole_order)

pub returns-in-None-clause-exact : goal.returns-in-None-clause-exact
returns-in-None-clause-exact c =
    let g = c.in_ok-grounding.ensures in
    let unmet_counts = c.in_ok-grounding.grounding.unmet_counts.items in
    let order = c.in_ok-grounding.grounding.order.items in
    let is = c.first_left.ensures ∙ ap (position (λ n. nat_lt 0 n)) c.deref.ensures.value in
    let all = all_grounded c.args.plan.now g.valid.entries unmet_counts order g.order c.first_left.result is
    c.in_default.is in
    let above = subst (λ (ws : List ℕ). ¬ (IsWithinLimit c.args.plan.now ws)) c.deref-3.ensures.value
    c.in-None.ensures.above in
    found_past_is c.args.plan.now g.valid.entries unmet_counts order g.order c.first_left.result is
    ∙ ap (λ (found : Option ℕ). found_past c.args.plan.now (option_map event found)) c.in_default.is
    ∙ found_above c.args.plan.now g.valid.entries all c.in_ok-weights.weights.items c.in_ok-weights.ensures above

pub returns-in-None-clause-refused : goal.returns-in-None-clause-refused
returns-in-None-clause-refused c = search (rules, nat_lt, all_grounded, too_dear)

pub returns-clause-exact : goal.returns-clause-exact
returns-clause-exact c =
    let g = c.in_ok-grounding.ensures in
    let unmet_counts = c.in_ok-grounding.grounding.unmet_counts.items in
    let order = c.in_ok-grounding.grounding.order.items in
    let is = c.first_left.ensures ∙ ap (position (λ n. nat_lt 0 n)) c.deref.ensures.value in
    let all = all_grounded c.args.plan.now g.valid.entries unmet_counts order g.order c.first_left.result is
    c.in_default.is in
    let within = subst (IsWithinLimit c.args.plan.now) c.deref-3.ensures.value c.in-Some-limited_bound.ensures.within.0
    in
    found_past_is c.args.plan.now g.valid.entries unmet_counts order g.order c.first_left.result is
    ∙ ap (λ (found : Option ℕ). found_past c.args.plan.now (option_map event found)) c.in_default.is
    ∙ found_within c.args.plan.now g.valid.entries all c.in_ok-weights.weights.items c.in_ok-weights.ensures within
    ∙ ap Ok (sym c.of.ensures)

pub returns-clause-least : goal.returns-clause-least
returns-clause-least c = search (rules, nat_lt, all_grounded, least_within)

pub returns-clause-verified : goal.returns-clause-verified
returns-clause-verified c =
    let g = c.in_ok-grounding.ensures in
    let is = c.first_left.ensures ∙ ap (position (λ n. nat_lt 0 n)) c.deref.ensures.value in
    let all = all_grounded c.args.plan.now g.valid.entries c.in_ok-grounding.grounding.unmet_counts.items
    c.in_ok-grounding.grounding.order.items g.order c.first_left.result is c.in_default.is in
    let bound = c.in-Some-limited_bound.bound.0 in
    let (here, bound_here) = c.in-Some-limited_bound.ensures.within in
    let within = subst (IsWithinLimit c.args.plan.now) c.deref-3.ensures.value here in
    let bound_is = subst (λ (ws : List ℕ). bound ≡ bound_of c.args.plan.now (weight_of ws)) c.deref-3.ensures.value
    bound_here in
    let least = least_within c.args.plan.now g.valid.entries all c.in_ok-weights.weights.items c.in_ok-weights.ensures
    within in
    subst (λ (ws : List ℕ). IsVerified c.args.plan.now ws bound) (sym c.of.ensures)
    (record { count = least.count; fits = least.fits; limit = within; bound_is = bound_is })
