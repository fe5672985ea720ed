use Rattle.std.proofs.Common.{◌<◌, ◌++◌, [], ◌∷◌, length, map, take, get_or, sym, ap, ◌∙◌, arith}
use Rattle.std.proofs.lemmas.List.{take_more, length-map, get_or-map, map-append}
use Rattle.plan_tables.specs.PlanView.{no_coil}
use Rattle.coil_guard.specs.{CoilStep.off, Asked.limits_of}
use Rattle.coil_guard.proofs.coils.Coils.new.Goals as goal

pub loop-number-preserved : goal.loop-number-preserved
loop-number-preserved c =
    let plan = c.args.plan.now in
    let n = c.loop-number.number in
    let within : n < length plan.coils = omega (arith, c.loop-number-test.true, c.coil_count-count.ensures.count) in
    let more = take_more (limits_of plan) n no_coil.limits
    (omega (arith, within, length-map plan.coils (λ x. x.limits))) in
    let there = get_or-map (λ x. x.limits) plan.coils n no_coil no_coil.limits within in
    record {
      coils =
          c.push_reserved.ensures.items
          ∙ ap (λ cs. cs ++ c.off.result ∷ []) c.loop-number.invariant.coils
          ∙ ap (λ x. map off (take n (limits_of plan)) ++ x ∷ [])
          (c.off.ensures ∙ ap off (c.coil_limits.ensures.limits ∙ sym there))
          ∙ sym (ap (map off) more ∙ map-append off (take n (limits_of plan))
          (get_or (limits_of plan) n no_coil.limits ∷ []));
      count = omega (arith, c.push_reserved.ensures.len, c.loop-number.invariant.count);
      room = c.push_reserved.ensures.capacity ∙ c.loop-number.invariant.room;
    }
