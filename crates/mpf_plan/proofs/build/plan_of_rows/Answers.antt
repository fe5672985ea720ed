use Rattle.std.proofs.{Common.{length, ap, sym, ◌∙◌, subst}, lemmas.Result.err_from_is_err_and}
use Rattle.std.specs.{Prelude.{Err, Vec, slice_get}, Global.Global}
use Rattle.plan_tables.specs.declared.entries.{SwitchEntry.SwitchEntry, CoilLimits.CoilLimits}
use Rattle.plan_tables.specs.{declared.names.NameTable.NameTable, NamesKept.names_kept, Valid.IsValid}
use Rattle.mpf_plan.specs.declared.fault.PlanFault.TheVariants as faults
use Rattle.mpf_plan.proofs.Planned.{refused_exact, limit_said, too_many, within, fit, one_each_switch, one_each_coil}
use Rattle.mpf_plan.proofs.Planned.{is_plan, is_valid, is_planned}
use Rattle.mpf_plan.proofs.build.plan_of_rows.Goals as goal

pub returns-in_err-draft-clause-exact : goal.returns-in_err-draft-clause-exact
returns-in_err-draft-clause-exact c =
    let p = err_from_is_err_and c.from_residual.result c.from_residual.ensures.1 in
    refused_exact c.args.definitions.now c.args.rows.now c.requires.rows c.requires.complete
    c.from_residual.result c.in_err-draft.field-0.0 (p.1 ∙ ap Err p.2) c.in_err-draft.ensures

pub returns-in_err-draft-clause-limit : goal.returns-in_err-draft-clause-limit
returns-in_err-draft-clause-limit c =
    let p = err_from_is_err_and c.from_residual.result c.from_residual.ensures.1 in
    limit_said c.args.definitions.now c.from_residual.result
    (refused_exact c.args.definitions.now c.args.rows.now c.requires.rows c.requires.complete
    c.from_residual.result c.in_err-draft.field-0.0 (p.1 ∙ ap Err p.2) c.in_err-draft.ensures)

pub returns-in-Some-clause-exact : goal.returns-in-Some-clause-exact
returns-in-Some-clause-exact c =
    too_many c.args.definitions.now c.args.rows.now c.requires.rows c.requires.complete
    c.in_ok-draft.draft c.in_ok-draft.ensures c.first_above.result c.first_above.ensures c.in-Some.table c.in-Some.is

pub returns-in-Some-clause-limit : goal.returns-in-Some-clause-limit
returns-in-Some-clause-limit c =
    limit_said c.args.definitions.now (Err (faults.Limit c.in-Some.table))
    (too_many c.args.definitions.now c.args.rows.now c.requires.rows c.requires.complete
    c.in_ok-draft.draft c.in_ok-draft.ensures c.first_above.result c.first_above.ensures c.in-Some.table c.in-Some.is)

pub tables_of-requires : goal.tables_of-requires
tables_of-requires c =
    fit c.args.definitions.now c.args.rows.now c.requires.rows c.requires.complete
    c.in_ok-draft.draft c.in_ok-draft.ensures c.first_above.result c.first_above.ensures c.in_default.is

pub new-requires-clause-valid : goal.new-requires-clause-valid
new-requires-clause-valid c =
    subst IsValid (sym c.tables_of.ensures.tables)
    (is_valid c.args.definitions.now c.args.rows.now c.requires.rows c.requires.complete
    c.in_ok-draft.draft c.in_ok-draft.ensures c.first_above.result c.first_above.ensures c.in_default.is
    c.requires.states c.requires.short c.requires.modes)

pub new-requires-clause-switches : goal.new-requires-clause-switches
new-requires-clause-switches c =
    ap (λ (v : Vec SwitchEntry Global). length v.items) c.tables_of.ensures.switches
    ∙ one_each_switch c.args.definitions.now c.args.rows.now c.requires.rows c.requires.complete
    c.in_ok-draft.draft c.in_ok-draft.ensures c.first_above.result c.first_above.ensures c.in_default.is
    ∙ ap (λ (v : Vec NameTable Global). length (names_kept (slice_get v.items 2))) (sym c.tables_of.ensures.names)

pub new-requires-clause-coils : goal.new-requires-clause-coils
new-requires-clause-coils c =
    ap (λ (v : Vec CoilLimits Global). length v.items) c.tables_of.ensures.coils
    ∙ one_each_coil c.args.definitions.now c.args.rows.now c.requires.rows c.requires.complete
    c.in_ok-draft.draft c.in_ok-draft.ensures c.first_above.result c.first_above.ensures c.in_default.is
    ∙ ap (λ (v : Vec NameTable Global). length (names_kept (slice_get v.items 3))) (sym c.tables_of.ensures.names)

pub returns-clause-exact : goal.returns-clause-exact
returns-clause-exact c =
    is_planned c.args.definitions.now c.in_ok-plan.plan c.requires.complete
    (within c.args.definitions.now c.args.rows.now c.requires.rows c.requires.complete
    c.in_ok-draft.draft c.in_ok-draft.ensures c.first_above.result c.first_above.ensures c.in_default.is)
    (c.in_ok-plan.ensures ∙ c.tables_of.ensures.tables
    ∙ is_plan c.args.definitions.now c.args.rows.now c.requires.rows c.requires.complete
    c.in_ok-draft.draft c.in_ok-draft.ensures c.first_above.result c.first_above.ensures c.in_default.is
    c.requires.states c.requires.short)

pub returns-clause-plan : goal.returns-clause-plan
returns-clause-plan c =
    c.in_ok-plan.ensures ∙ c.tables_of.ensures.tables
    ∙ is_plan c.args.definitions.now c.args.rows.now c.requires.rows c.requires.complete
    c.in_ok-draft.draft c.in_ok-draft.ensures c.first_above.result c.first_above.ensures c.in_default.is
    c.requires.states c.requires.short

pub returns-clause-within : goal.returns-clause-within
returns-clause-within c =
    within c.args.definitions.now c.args.rows.now c.requires.rows c.requires.complete
    c.in_ok-draft.draft c.in_ok-draft.ensures c.first_above.result c.first_above.ensures c.in_default.is
