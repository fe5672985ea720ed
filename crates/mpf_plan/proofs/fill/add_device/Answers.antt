use Rattle.std.proofs.{Common.{refl, subst}, lemmas.Result.on_ok_weaker}
use Rattle.plan_parts.specs.{RowViews.{acts_view, bytes_view, names_view, whose_view}, Devices.Device}
use Rattle.mpf_plan.{specs.Drafting.{AddsActs, AddsListeners, Notes, names_uses}, proofs.Device.adds_device}
use Rattle.plan_tables.specs.declared.table.Table.TheVariants.{Events}
use Rattle.mpf_plan.proofs.fill.add_device.Goals as goal

pub returns : goal.returns
returns c =
    let a = c.args.draft.now in
    let parts = c.args.parts.now in
    let whose = whose_view parts.whose in
    let row = c.next_row-row.result in
    let dev : Device = record {
      settings = c.args.settings;
      listens = bytes_view parts.listens.items;
      event_acts = acts_view parts.event_acts.items;
      other_mentions = names_view parts.other_mentions.items;
      lists = parts.lists;
    } in
    let start = record a { rows = c.push.new.self; row_lists = c.push-2.new.self } in
    let b = c.add_listeners.new.draft in
    let d = c.add_acts.new.draft in
    let e = record d { names = c.note_mentioned.new.names } in
    on_ok_weaker c.add_lists.result
    (λ does. adds_device a start b d e c.add_lists.new.draft whose dev row c.next_list-first.result
    refl refl refl refl refl refl refl c.in_ok-push.ensures.items c.in_ok-push-2.ensures.items
    (subst (λ xs. AddsListeners start b row (bytes_view xs)) c.deref.ensures.value c.in_ok-add_listeners.ensures)
    (subst (λ xs. AddsActs b d whose row (acts_view xs)) c.deref-2.ensures.value c.in_ok-add_acts.ensures)
    (subst (λ xs. Notes d.names c.note_mentioned.new.names (names_uses Events xs)) c.deref-3.ensures.value
    c.in_ok-note_mentioned.ensures)
    refl refl refl refl refl refl refl refl does c.next_row-row.ensures c.next_list-first.ensures)
    c.add_lists.ensures
