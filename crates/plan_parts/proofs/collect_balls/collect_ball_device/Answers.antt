use Rattle.std.{proofs.{Common.{[], ◌∷◌, ◌++◌, ap, ◌∙◌}, lemmas.Result.on_ok_weaker}, specs.Prelude.not}
use Rattle.mpf_sections.specs.View.{ball_device_view}
use Rattle.plan_parts.specs.declared.row_parts.RowHead.TheVariants as kinds
use Rattle.plan_parts.specs.{Devices.texts, Parts.device, RowViews.{bytes_view, acts_view, names_view, parts_by}}
use Rattle.plan_parts.specs.BallEntries.{is_known, ball_lists, entry_mentions, ball_device_from}
use Rattle.plan_parts.proofs.Gives.{parts_with_unknown, parts_of_device}
use Rattle.plan_parts.proofs.collect_balls.collect_ball_device.Goals as goal

pub returns : goal.returns
returns c =
    let machine = c.args.definitions.now.machine in
    let row = ball_device_view c.args.row in
    let d = ball_device_from machine row c.args.to in
    let new = record c.args.parts.now {
      unknown = not c.is_known.result;
      head = kinds.Device c.ball_settings.result;
      listens = c.collect_switches.new.listens;
      other_mentions = c.collect_mentions.new.other_mentions;
      lists = c.collect_lists.new.lists;
    } in
    on_ok_weaker c.collect_lists.result
    (λ doing whose none.
    parts_with_unknown new (is_known c.args.to) (device whose d ∷ []) (ap not c.is_known.ensures) none.mentions
    (ap (λ s. parts_by new (kinds.Device s)) c.ball_settings.ensures
    ∙ parts_of_device new whose d none.of
    (c.in_ok-collect_switches.ensures ∙ ap (λ xs. bytes_view xs ++ texts row.switches) none.listens)
    (ap acts_view none.event_acts)
    (c.in_ok-collect_mentions.ensures ∙ (λ i. names_view (none.other_mentions i)
    ++ entry_mentions (c.deref.ensures i) (c.drains-drain.ensures i)))
    (doing ∙ ap (λ ls. ls ++ ball_lists machine row) none.lists)))
    c.collect_lists.ensures
