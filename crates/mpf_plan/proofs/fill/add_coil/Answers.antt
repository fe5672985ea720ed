use Rattle.std.proofs.Common.{ap, refl}
use Rattle.plan_tables.specs.declared.entries.CoilId.{CoilId}
use Rattle.mpf_plan.proofs.Entered.{adds_coil}
use Rattle.mpf_plan.proofs.fill.add_coil.Goals as goal

pub returns : goal.returns
returns c =
    let a = c.args.draft.now in
    adds_coil a (record a { names = c.note_coil.new.names; coils = c.limit_coil.new.coils }) c.note_coil.new.coils
    (c.in_ok-coil.coil).0 c.args.name.now c.args.limits
    c.in_ok-coil.ensures.names (λ us are within. ap (λ (k : CoilId). k.0) (c.in_ok-coil.ensures.number us are within))
    c.limit_coil.ensures.0 c.limit_coil.ensures.1 refl
    (record { modes = refl; game = refl; lists = refl; bindings = refl; rows = refl; row_lists = refl })
