use Rattle.std.proofs.Common.{sym, ap, ◌∙◌, subst}
use Rattle.mpf_config.specs.{Rows.Rows, Short.AreListsShort, States.HaveStates, FewModes.AreFewModes}
use Rattle.plan_rows.specs.View.{row_list_view}
use Rattle.mpf_plan.{specs.PlanOf.lacks_name, proofs.{Judged.plan_at-lacking, Planned.rows_parts}}
use Rattle.mpf_plan.proofs.build.plan_of_definitions.Goals as goal

pub lacks_name-requires-clause-modes : goal.lacks_name-requires-clause-modes
lacks_name-requires-clause-modes c =
    subst (λ (rows : Rows). AreFewModes rows.modes) c.config-config.ensures c.config-config.result.now.few_modes

pub returns-then-lacking-clause-exact : goal.returns-then-lacking-clause-exact
returns-then-lacking-clause-exact c =
    let d = c.args.definitions.now in
    plan_at-lacking d
    (ap lacks_name
    (sym (rows_parts d c.deref.result.now (ap row_list_view c.deref.ensures.value ∙ c.in_ok-rows.ensures)))
    ∙ sym c.in_ok-lacking.ensures ∙ c.if-lacking.true)

pub plan_of_rows-requires-clause-complete : goal.plan_of_rows-requires-clause-complete
plan_of_rows-requires-clause-complete c =
    let d = c.args.definitions.now in
    ap lacks_name
    (sym (rows_parts d c.deref.result.now (ap row_list_view c.deref.ensures.value ∙ c.in_ok-rows.ensures)))
    ∙ sym c.in_ok-lacking.ensures ∙ c.if-lacking.false

pub plan_of_rows-requires-clause-short : goal.plan_of_rows-requires-clause-short
plan_of_rows-requires-clause-short c =
    subst AreListsShort c.config-config.ensures c.config-config.result.now.lists_short

pub plan_of_rows-requires-clause-states : goal.plan_of_rows-requires-clause-states
plan_of_rows-requires-clause-states c =
    subst HaveStates c.config-config.ensures c.config-config.result.now.have_states

pub plan_of_rows-requires-clause-modes : goal.plan_of_rows-requires-clause-modes
plan_of_rows-requires-clause-modes c =
    subst (λ (rows : Rows). AreFewModes rows.modes) c.config-config.ensures c.config-config.result.now.few_modes
