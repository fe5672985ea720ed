use Rattle.std.proofs.Common.{rules, ◌≡◌, ◌+◌, ◌<◌, ℕ, List, drop, get_or, length, sym, ap, ◌∙◌, subst}
use Rattle.std.proofs.lemmas.List.{drop_more, Elements.All-get_or}
use Rattle.plan_tables.specs.PlanView.{PlanView, actions_at, list_of_row, row_at}
use Rattle.plan_tables.specs.declared.{entries.{Action.Action, Owner.Owner}, devices.DeviceRow.DeviceRow}
use Rattle.written_machine.specs.Machine.{Machine, all_do, do_action_by, do_answer_by, do_list_by}
use Rattle.machine_core.{specs.Core.{CoreView, CanCall, IsWithin, after}, proofs.Room.{room-first, all_do-first}}
use Rattle.machine_core.proofs.{Callable.actions-within, Going.{goes-can, goes-list_by}}
use Rattle.machine_core.proofs.lists.lists_by.Goals as goal

pub row-owner-requires : goal.row-owner-requires
row-owner-requires g c = subst (λ (p : PlanView). c.args.row.0 < length p.rows) (sym c.plan-plan.ensures) c.requires.row

pub list_of_row-requires-clause-row : goal.list_of_row-requires-clause-row
list_of_row-requires-clause-row g c = subst (λ (p : PlanView). c.args.row.0 < length p.rows) (sym c.plan-plan.ensures)
    c.requires.row

pub list_of_row-requires-clause-list : goal.list_of_row-requires-clause-list
list_of_row-requires-clause-list g c = search (rules, get_or, All-get_or)

pub actions_by-requires-clause-actions : goal.actions_by-requires-clause-actions
actions_by-requires-clause-actions g c = search (rules, actions-within)

pub actions_by-requires-clause-room : goal.actions_by-requires-clause-room
actions_by-requires-clause-room g c =
    let r = c.args.row in
    let lists = c.args.lists.now in
    let i = c.loop-list.list-index in
    let k = get_or lists i 0 in
    let core = c.loop-list.core in
    let plan = c.plan-plan.result.now in
    let is = c.plan-plan.ensures ∙ sym (ap (λ (v : CoreView). v.plan) c.loop-list.invariant.0) in
    let list_is = c.list.ensures.actions ∙ ap (actions_at plan) c.list_of_row.ensures.list
    ∙ ap (λ (p : PlanView). actions_at p (list_of_row p r k)) is in
    let owner_is = ap (λ (row : DeviceRow). row.owner) c.row-owner.ensures.row
    ∙ ap (λ (p : PlanView). (row_at p r).owner) is in
    let run = λ (p : PlanView) (n : ℕ). do_list_by p (g.T.Tells.tell p) (row_at p r).owner (list_of_row p r n) in
    subst (λ (actions : List Action). IsWithin core.room
    (all_do (do_action_by core.plan (g.T.Tells.tell core.plan) c.row-owner.result.owner) actions core.machine))
    (sym list_is)
    (subst (λ (o : Owner). IsWithin core.room
    (all_do (do_action_by core.plan (g.T.Tells.tell core.plan) o) (actions_at core.plan (list_of_row core.plan r k))
    core.machine)) (sym owner_is)
    (room-first run (λ (p : PlanView) (n : ℕ) (s : Machine).
    (goes-list_by p (g.T.Tells.tell p) (c.requires.goes p) r n s).grows) core _ _ _ _
    (drop_more lists i 0 c.loop-list-test.true) c.loop-list.invariant.0 c.requires.room))

pub loop-list-preserved : goal.loop-list-preserved
loop-list-preserved g c =
    let r = c.args.row in
    let lists = c.args.lists.now in
    let i = c.loop-list.list-index in
    let k = get_or lists i 0 in
    let core = c.loop-list.core in
    let plan = c.plan-plan.result.now in
    let is = c.plan-plan.ensures ∙ sym (ap (λ (v : CoreView). v.plan) c.loop-list.invariant.0) in
    let list_is = c.list.ensures.actions ∙ ap (actions_at plan) c.list_of_row.ensures.list
    ∙ ap (λ (p : PlanView). actions_at p (list_of_row p r k)) is in
    let owner_is = ap (λ (row : DeviceRow). row.owner) c.row-owner.ensures.row
    ∙ ap (λ (p : PlanView). (row_at p r).owner) is in
    let run = λ (p : PlanView) (n : ℕ). do_list_by p (g.T.Tells.tell p) (row_at p r).owner (list_of_row p r n) in
    let done : c.actions_by.new.core ≡ after (run core.plan k) core =
    c.actions_by.ensures ∙ (λ j. after (all_do (do_action_by core.plan (g.T.Tells.tell core.plan) (owner_is j))
    (list_is j)) core) in (
      all_do-first run core c.actions_by.new.core _ _ _ _ (drop_more lists i 0 c.loop-list-test.true)
          c.loop-list.invariant.0 done,
      subst CanCall (sym done) (goes-can core (run core.plan k)
          (goes-list_by core.plan (g.T.Tells.tell core.plan) (c.requires.goes core.plan) r k core.machine)
          c.loop-list.invariant.1),
    )
