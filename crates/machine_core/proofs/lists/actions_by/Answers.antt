use Rattle.std.proofs.{Common.{rules, ◌+◌, drop, get_or, sym, subst}, lemmas.List.{drop_more, Elements.All-get_or}}
use Rattle.plan_tables.specs.{PlanView.PlanView, declared.entries.Action.{Action, TheVariants.Post}}
use Rattle.written_machine.specs.Machine.{Machine, all_do, do_action_by}
use Rattle.machine_core.specs.Core.{CanCall, after}
use Rattle.machine_core.proofs.{Going.{goes-can, goes-action_by}, Room.{room-first, all_do-first}}
use Rattle.machine_core.proofs.lists.actions_by.Goals as goal

none : Action
none = Post (record { 0 = 0 })

pub run_by-requires-clause-action : goal.run_by-requires-clause-action
unfolding none
run_by-requires-clause-action g c = search (rules, get_or, none, All-get_or)

pub run_by-requires-clause-room : goal.run_by-requires-clause-room
unfolding none
run_by-requires-clause-room g c =
    let owner = c.args.owner in
    let actions = c.args.actions.now in
    let i = c.loop-action.action-index in
    let run = λ (p : PlanView) (a : Action). do_action_by p (g.T.Tells.tell p) owner a in
    room-first run (λ (p : PlanView) (a : Action) (s : Machine).
    (goes-action_by p (g.T.Tells.tell p) (c.requires.goes p) owner a s).grows) c.loop-action.core
    _ _ _ _ (drop_more actions i none c.loop-action-test.true)
    c.loop-action.invariant.0 c.requires.room

pub loop-action-preserved : goal.loop-action-preserved
unfolding none
loop-action-preserved g c =
    let core = c.loop-action.core in
    let owner = c.args.owner in
    let actions = c.args.actions.now in
    let i = c.loop-action.action-index in
    let a = get_or actions i none in (
      all_do-first (λ (p : PlanView). do_action_by p (g.T.Tells.tell p) owner) core c.run_by.new.core
          _ _ _ _ (drop_more actions i none c.loop-action-test.true) c.loop-action.invariant.0 c.run_by.ensures,
      subst CanCall (sym c.run_by.ensures)
          (goes-can core (do_action_by core.plan (g.T.Tells.tell core.plan) owner a)
          (goes-action_by core.plan (g.T.Tells.tell core.plan) (c.requires.goes core.plan) owner a core.machine)
          c.loop-action.invariant.1),
    )
