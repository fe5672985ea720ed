use Rattle.std.proofs.lemmas.List.{length-set}
use Rattle.mpf_plan.proofs.Slotted.{coil_set}
use Rattle.mpf_plan.proofs.fill.limit_coil.Goals as goal

pub returns : goal.returns
returns c =
    let items = c.args.coils.now.items in
    (length-set items c.args.number c.args.limits, λ within ns. coil_set ns items c.args.number c.args.limits within)
