use Rattle.std.proofs.Common.{rules, ◌≡◌, ◌<◌, length, sym, subst}
use Rattle.plan_tables.specs.{PlanView.{PlanView, work_of}, Valid.IsWorkAt, PlanFields.plan_view}
use Rattle.plan_tables.proofs.Worked.{works_count, works_at, work_found}
use Rattle.plan_tables.proofs.tables.Plan.work.Goals as goal

pub index-requires : goal.index-requires
index-requires c = search (rules, works_count)

pub returns-clause-work : goal.returns-clause-work
returns-clause-work c = search (rules, works_at)

pub returns-clause-found : goal.returns-clause-found
returns-clause-found c =
    let within : c.args.event.0 < length (plan_view c.self.inside).events =
    subst (λ (p : PlanView). c.args.event.0 < length p.events) (sym c.self.view_is) c.requires in
    let at = works_at (plan_view c.self.inside) c.self.inside.works.items c.self.invariant.2 c.args.event
    c.index.result.now within c.index.ensures in
    let is : c.index.result.now ≡ work_of c.args.self.now c.args.event =
    subst (λ (p : PlanView). c.index.result.now ≡ work_of p c.args.event) c.self.view_is at in
    subst (IsWorkAt c.args.self.now c.args.event) (sym is) (work_found c.args.self.now c.args.event)
