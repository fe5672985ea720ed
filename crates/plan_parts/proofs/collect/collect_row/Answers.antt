use Rattle.std.proofs.{Common.{[], ◌∷◌, ◌++◌, length, sym, ap, ◌∙◌, arith}, lemmas.List.length-map}
use Rattle.std.specs.Prelude.{option_map}
use Rattle.mpf_sections.specs.Rows.{Shot, ShotGroup, BallDeviceEntry, ModeSettings, WrittenName}
use Rattle.mpf_sections.{specs.{View.{name_view, entry_view}, TypedShots.shot_of}, proofs.ShotRows.shot_group_few}
use Rattle.machine_definitions.specs.Found.{profile_view}
use Rattle.plan_tables.specs.declared.table.Table.TheVariants.{Switches}
use Rattle.plan_rows.specs.View.{row_view, seat_view, members_view}
use Rattle.plan_parts.specs.{BallEntries.{is_known, ball_device_from}, RowViews.{text_view, parts_at}}
use Rattle.plan_parts.specs.{ShotEntries.group_device, Gives.mode_gives}
use Rattle.plan_parts.specs.Parts.{row_parts, mode_parts, with_seat, where_some, unknown_unless, mention, device}
use Rattle.plan_parts.specs.Gives.{entry_gives, player_entry_gives, shot_gives, group_gives, ball_device_gives}
use Rattle.plan_parts.proofs.{Gives.gave, RowKinds.{seated_same, ball_device_few}}
use Rattle.plan_parts.proofs.collect.collect_row.Goals as goal

pub collect_group-requires : goal.collect_group-requires
collect_group-requires c =
    let shots = c.as_shot_group.result.shots.now in
    omega (
      arith,
      length-map shots name_view,
      ap (λ (g : ShotGroup). length g.shots) c.as_shot_group.ensures,
      shot_group_few (entry_view c.in-Group.entry.now),
    )

pub collect_ball_device-requires : goal.collect_ball_device-requires
collect_ball_device-requires c =
    let switches = c.as_ball_device.result.switches.now in
    omega (
      arith,
      length-map switches name_view,
      ap (λ (d : BallDeviceEntry). length d.switches) c.as_ball_device.ensures,
      ball_device_few (entry_view c.in-BallDevice.entry.now),
    )

pub returns-in-Entry : goal.returns-in-Entry
unfolding row_parts
returns-in-Entry c =
    let machine = c.args.definitions.now.machine in
    let text = text_view c.args.text in
    let e = c.in-Entry in
    gave c.collect_entry.result c.clear.new.self c.collect_entry.new.parts text.whose
    (entry_gives machine e.place e.section.now e.entry.now) (parts_at machine text (row_view c.args.row))
    c.clear.ensures
    (ap (λ r. parts_at machine text (row_view r)) (sym e.is)) c.collect_entry.ensures

pub returns-in-Alone : goal.returns-in-Alone
unfolding row_parts
returns-in-Alone c =
    let machine = c.args.definitions.now.machine in
    let text = text_view c.args.text in
    c.collect_alone.ensures text.whose c.clear.ensures
    ∙ ap (λ r. parts_at machine text (row_view r)) (sym c.in-Alone.is)

pub returns-in-Shot : goal.returns-in-Shot
unfolding row_parts
returns-in-Shot c =
    let machine = c.args.definitions.now.machine in
    let text = text_view c.args.text in
    let s = c.in-Shot in
    let p = profile_view s.profile.now in
    let seat = option_map seat_view s.seat in
    gave c.collect_shot.result c.clear.new.self c.collect_shot.new.parts text.whose
    (shot_gives c.as_shot.result s.seat s.known s.profile.now) (parts_at machine text (row_view c.args.row))
    c.clear.ensures
    (ap (λ (w : Shot). unknown_unless s.known ++ where_some (λ (n : WrittenName). mention Switches n.text) w.switch
    ++ with_seat [] text.whose p w seat) c.as_shot.ensures
    ∙ ap (λ ps. unknown_unless s.known ++ where_some (λ (n : WrittenName). mention Switches n.text)
    (shot_of (entry_view s.entry.now)).switch ++ ps)
    (seated_same [] machine text.whose p (shot_of (entry_view s.entry.now)) seat)
    ∙ ap (λ r. parts_at machine text (row_view r)) (sym s.is)) c.collect_shot.ensures

pub returns-in-Group : goal.returns-in-Group
unfolding row_parts
returns-in-Group c =
    let machine = c.args.definitions.now.machine in
    let text = text_view c.args.text in
    let g = c.in-Group in
    let m = members_view g.members in
    gave c.collect_group.result c.clear.new.self c.collect_group.new.parts text.whose
    (group_gives c.as_shot_group.result g.members) (parts_at machine text (row_view c.args.row)) c.clear.ensures
    (ap (λ (x : ShotGroup). unknown_unless m.all_known ++ device text.whose (group_device x m) ∷ [])
    c.as_shot_group.ensures
    ∙ ap (λ r. parts_at machine text (row_view r)) (sym g.is)) c.collect_group.ensures

pub returns-in-BallDevice : goal.returns-in-BallDevice
unfolding row_parts
returns-in-BallDevice c =
    let machine = c.args.definitions.now.machine in
    let text = text_view c.args.text in
    let b = c.in-BallDevice in
    gave c.collect_ball_device.result c.clear.new.self c.collect_ball_device.new.parts text.whose
    (ball_device_gives machine c.as_ball_device.result b.to) (parts_at machine text (row_view c.args.row))
    c.clear.ensures
    (ap (λ (x : BallDeviceEntry). unknown_unless (is_known b.to) ++ device text.whose (ball_device_from machine x b.to)
    ∷ []) c.as_ball_device.ensures
    ∙ ap (λ r. parts_at machine text (row_view r)) (sym b.is)) c.collect_ball_device.ensures

pub returns-in-Player : goal.returns-in-Player
unfolding row_parts
returns-in-Player c =
    let machine = c.args.definitions.now.machine in
    let text = text_view c.args.text in
    let p = c.in-Player in
    gave c.collect_player.result c.clear.new.self c.collect_player.new.parts text.whose
    (player_entry_gives machine p.section.now p.player.now) (parts_at machine text (row_view c.args.row))
    c.clear.ensures
    (ap (λ r. parts_at machine text (row_view r)) (sym p.is)) c.collect_player.ensures

pub returns-in-Mode : goal.returns-in-Mode
unfolding row_parts
returns-in-Mode c =
    let machine = c.args.definitions.now.machine in
    let text = text_view c.args.text in
    let m = c.in-Mode in
    gave c.collect_mode.result c.clear.new.self c.collect_mode.new.parts text.whose
    (mode_gives (record { 0 = text.modes }) m.name.now c.mode_settings.result)
    (parts_at machine text (row_view c.args.row)) c.clear.ensures
    (ap (λ (s : ModeSettings). mode_parts (record { 0 = text.modes }) m.name.now s) c.mode_settings.ensures
    ∙ ap (λ r. parts_at machine text (row_view r)) (sym m.is)) c.collect_mode.ensures
