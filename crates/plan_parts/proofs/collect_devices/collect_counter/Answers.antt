use Rattle.std.proofs.{Common.refl, lemmas.Result.on_ok_weaker}
use Rattle.mpf_sections.specs.View.{counter_view}
use Rattle.plan_tables.specs.declared.devices.Act.TheVariants.{Count}
use Rattle.plan_tables.specs.declared.devices.Settings.TheVariants as kinds
use Rattle.plan_parts.{specs.Devices.acts, proofs.Gives.block_device}
use Rattle.plan_parts.proofs.collect_devices.collect_counter.Goals as goal

pub returns : goal.returns
returns c =
    let row = counter_view c.args.row in
    on_ok_weaker c.collect_block.result
    (λ b. block_device row.name.text (kinds.Counter row.settings) (acts Count row.counts) c.deref.ensures refl refl refl
    refl refl refl refl c.in_ok-collect_acts.ensures b)
    c.collect_block.ensures
