use Rattle.std.proofs.Common.{rules, get_or, subst, take_all}
use Rattle.plan_tables.specs.declared.{entries.Listener.Listener, devices.Act.Act}
use Rattle.device_objects.specs.declared.device.Call.TheVariants as calls
use Rattle.cascade_rank.{specs.Cost.{cost_of_call, cost_of_listener}, proofs.Alike.each_more}
use Rattle.cascade_rank.proofs.stimuli.measure_listeners.Goals as goal

pub loop-listener-preserved : goal.loop-listener-preserved
loop-listener-preserved g c =
    let none : Listener = record { row = record { 0 = 0 }; switch = 0 } in
    let listener = get_or c.args.listeners.now c.loop-listener.listener-index none in
    let one = subst (λ (a : Act). g.M.Measure.Measures c.loop-listener.measure
    (cost_of_call c.args.plan.now listener.row (calls.Act a)) c.measure_call-cost.new.measure
    c.measure_call-cost.result) c.act-act.ensures c.measure_call-cost.ensures in
    g.met.M.Measure.alike _ _ _ _ _ (each_more (cost_of_listener c.args.plan.now c.args.active) c.args.listeners.now
    c.loop-listener.listener-index none c.loop-listener-test.true)
    (c.both-total.ensures _ _ _ _ c.loop-listener.invariant one)

pub returns : goal.returns
returns g c = search (rules, take_all)
