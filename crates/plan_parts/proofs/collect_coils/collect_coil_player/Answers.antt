use Rattle.std.proofs.{Common.{map, refl}, lemmas.Result.on_ok_weaker}
use Rattle.mpf_sections.specs.View.{coil_player_view}
use Rattle.plan_parts.specs.declared.row_parts.RowHead.TheVariants as kinds
use Rattle.plan_parts.{specs.CoilEntries.item_effect, proofs.Gives.gives_handler}
use Rattle.plan_parts.proofs.collect_coils.collect_coil_player.Goals as goal

pub returns : goal.returns
returns c =
    let row = coil_player_view c.args.row in
    let old = c.args.parts.now in
    let new = record old { head = kinds.Handler c.as_written.result; lists = c.collect_items.new.lists } in
    on_ok_weaker c.collect_items.result
    (λ doing. gives_handler old new c.as_written.result row.event.event
    (map (item_effect c.args.definitions.now.machine) row.items) c.begin.new.self refl refl refl refl
    c.as_written.ensures c.in_ok-begin.ensures doing)
    c.collect_items.ensures
