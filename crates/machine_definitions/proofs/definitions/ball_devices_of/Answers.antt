use Rattle.std.proofs.{Common.{◌+◌, List, Option, fold, map, drop, sym, ap, ◌∙◌}, lemmas.Grind.fold-append}
use Rattle.std.specs.List.{flat_map}
use Rattle.mpf_sections.specs.{Rows.BallDeviceEntry, TypedBalls.{ball_device_of, ball_devices_in}, View.section_view}
use Rattle.machine_definitions.{specs.{Definitions.latest_ball_device, Found.found_ball_device}, proofs.Finding.next-is}
use Rattle.mpf_sections.proofs.BallRows.{ball_devices_are}
use Rattle.machine_definitions.proofs.definitions.ball_devices_of.Goals as goal

pub loop-section-preserved : goal.loop-section-preserved
loop-section-preserved c = λ name.
    let l = c.loop-section in
    let latest = fold (latest_ball_device name) in
    let devices = λ (sections : List _). flat_map ball_devices_in (map section_view sections) in
    let rest = drop (l.section-index + 1) c.args.sections.now in
    let section = section_view c.section-item.result in
    let own = ap (map ball_device_of) c.entries_of.ensures ∙ ball_devices_are section in
    ap (λ (o : Option BallDeviceEntry). latest o (devices rest))
    (c.in_ok-add_ball_devices.ensures name ∙ ap (latest (found_ball_device l.devices name)) own)
    ∙ sym (fold-append (latest_ball_device name) (found_ball_device l.devices name) (ball_devices_in section)
    (devices rest))
    ∙ next-is (λ sections. latest (found_ball_device l.devices name) (devices sections)) c.args.sections.now
    l.section-index c.section-item.result c.loop-section-test.true c.section-item.is
    ∙ l.invariant name
