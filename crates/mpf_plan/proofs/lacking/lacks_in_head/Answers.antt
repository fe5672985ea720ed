use Rattle.std.{proofs.Common.{Bool, Bor, List, ℕ, ◌||◌, sym, ap, ◌∙◌}, specs.List.{flat_map, list_any}}
use Rattle.plan_tables.specs.declared.table.Table.TheVariants.{Switches}
use Rattle.plan_parts.specs.RowViews.{bytes_view}
use Rattle.mpf_plan.{specs.Lacking.{lacks, lacks_coil}, proofs.Lacks.{lacks_device, lacks_nothing}}
use Rattle.mpf_plan.proofs.lacking.lacks_in_head.Goals as goal

pub returns-else-lacks_listened : goal.returns-else-lacks_listened
returns-else-lacks_listened c =
    let r = c.args.parts.now in
    let machine = c.args.definitions.now.machine in
    let done = list_any (lacks_coil machine) (flat_map (λ es. es) r.lists) in
    c.lacks_coil.ensures
    ∙ ap (list_any (lacks_coil machine)) c.effects.ensures
    ∙ sym
    (lacks_device machine r _ c.in-Device.is
    ∙ ap (λ (b : Bool). b || done)
    (ap (λ (ns : List (Bor (List ℕ))). list_any (lacks machine Switches) (bytes_view ns)) (sym c.deref.ensures.value)
    ∙ sym c.lacks_listened.ensures ∙ c.if-lacks_listened.false))

pub returns-in_default : goal.returns-in_default
returns-in_default c = sym (lacks_nothing c.args.definitions.now.machine c.args.parts.now c.in_default.not-Device
    c.in_default.not-Handler)
