use Rattle.std.proofs.Common.{rules, ◌<◌, length, sym, subst, arith, take_all}
use Rattle.plan_tables.specs.declared.entries.SwitchId.{SwitchId}
use Rattle.cascade_rank.specs.Cost.{cost_of_switch, switches_of}
use Rattle.cascade_rank.proofs.{Alike.dearest_more, Switches.{length-switches, switch_of}}
use Rattle.cascade_rank.proofs.stimuli.measure_switches.Goals as goal

pub loop-number-preserved : goal.loop-number-preserved
loop-number-preserved g c =
    let plan = c.args.plan.now in
    let within : c.loop-number.number < length c.args.plan.now.switches = omega arith in
    let listed : c.loop-number.number < length (switches_of c.args.plan.now) =
    omega (arith, within, length-switches plan) in
    let one = subst (λ (s : SwitchId). g.M.Measure.Measures c.loop-number.measure (cost_of_switch c.args.plan.now s)
    c.measure_switch-cost.new.measure c.measure_switch-cost.result)
    (sym (switch_of plan c.loop-number.number (record { 0 = 0 }) within)) c.measure_switch-cost.ensures in
    g.met.M.Measure.alike _ _ _ _ _ (dearest_more (cost_of_switch plan) (switches_of plan) c.loop-number.number
    (record { 0 = 0 }) listed)
    (c.greater-dearest.ensures _ _ _ _ c.loop-number.invariant one)

pub returns : goal.returns
returns g c = search (rules, length-switches, take_all)
