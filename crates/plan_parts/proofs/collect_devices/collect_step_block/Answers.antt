use Rattle.std.proofs.{Common.refl, lemmas.Result.on_ok_weaker}
use Rattle.mpf_sections.specs.View.{step_block_view}
use Rattle.plan_parts.{specs.DeviceEntries.step_acts, proofs.Gives.block_device}
use Rattle.plan_parts.proofs.collect_devices.collect_step_block.Goals as goal

pub returns : goal.returns
returns c =
    let row = step_block_view c.args.row in
    on_ok_weaker c.collect_block.result
    (λ b. block_device row.name.text c.args.settings (step_acts 0 row.steps) c.deref.ensures refl refl refl refl refl
    refl refl c.in_ok-collect_steps.ensures b)
    c.collect_block.ensures
