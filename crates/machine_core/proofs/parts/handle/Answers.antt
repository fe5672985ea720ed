use Rattle.std.{proofs.Common.{rules, ◌≡◌, Some, [], ◌∷◌, refl, subst}, specs.Prelude.slice_get}
use Rattle.plan_tables.specs.PlanView.{PlanView}
use Rattle.mode_stack.specs.Modes.{running_of}
use Rattle.machine_core.proofs.Handling.{handler-count, handler-done, handler-left, handler-place, handler-room}
use Rattle.machine_core.proofs.{Handling.{handler-run, handlers-end, plan-now, binding-within}, Stepping.handled-calls}
use Rattle.machine_core.proofs.parts.handle.Goals as goal

pub loop-place-init : goal.loop-place-init
loop-place-init g c = (refl, c.requires.calls)

pub binding-requires : goal.binding-requires
binding-requires g c = search (rules, handler-place)

pub run_binding-requires-clause-binding : goal.run_binding-requires-clause-binding
run_binding-requires-clause-binding g c = search (rules, plan-now, binding-within)

pub run_binding-requires-clause-calls : goal.run_binding-requires-clause-calls
run_binding-requires-clause-calls g c = c.loop-place.invariant.1

pub run_binding-requires-clause-room : goal.run_binding-requires-clause-room
run_binding-requires-clause-room g c =
    let is = subst (λ (p : PlanView). slice_get p.bindings c.in-Some.place.0 ≡ Some c.binding.result)
    c.plan-plan.ensures c.binding.ensures.binding in
    handler-room (running_of c.args.core.now.machine.modes) c.args.core.now c.loop-place.core c.requires.handlers
    c.args.event c.loop-place.k c.loop-place.invariant.0
    c.in-Some.place c.in-Some.ensures.handler c.binding.result is c.requires.room

pub loop-place-preserved : goal.loop-place-preserved
loop-place-preserved g c =
    let is = subst (λ (p : PlanView). slice_get p.bindings c.in-Some.place.0 ≡ Some c.binding.result)
    c.plan-plan.ensures c.binding.ensures.binding in (
      handler-run (running_of c.args.core.now.machine.modes) c.args.core.now c.loop-place.core c.requires.handlers
          c.args.event c.loop-place.k c.loop-place.invariant.0
          c.in-Some.place c.in-Some.ensures.handler c.binding.result is c.run_binding.new.core c.run_binding.ensures,
      handled-calls (c.in-Some.place ∷ []) c.loop-place.core c.run_binding.new.core
          (handler-done (running_of c.args.core.now.machine.modes) c.args.core.now c.loop-place.core c.requires.handlers
          c.args.event c.loop-place.k c.loop-place.invariant.0
          c.in-Some.place c.in-Some.ensures.handler c.binding.result is c.run_binding.new.core c.run_binding.ensures)
          c.loop-place.invariant.1,
    )

pub returns : goal.returns
returns g c = search (rules, handlers-end)

pub overflow_add-k : goal.overflow_add-k
overflow_add-k g c = search (rules, handler-count)

pub loop-place-smaller : goal.loop-place-smaller
loop-place-smaller g c = search (rules, handler-left)
