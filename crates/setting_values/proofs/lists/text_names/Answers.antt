use Rattle.std.proofs.Common.{sym}
use Rattle.mpf_values.specs.View.{item_view}
use Rattle.setting_values.{specs.{Reading.written_in, View.name_view}, proofs.EachGiven.gives_each}
use Rattle.config_faults.specs.Faults.{spot_view}
use Rattle.setting_values.proofs.lists.text_names.Goals as goal

pub returns : goal.returns
returns c =
    let given = gives_each item_view name_view (written_in (spot_view c.args.spot)) c.deref.result.now c.each.result
    c.each.ensures (λ p s m. m) in
    let has = rw (sym c.deref.ensures.value) at c.in_ok-items.ensures in
    rw has given
